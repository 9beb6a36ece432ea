-- What it is for one reactor to pass its scan: what its rules are held against, where exact acceptance is shown.
use Rattle.std.specs.Prelude.{ℕ, ◌≡◌, true, List}
use Rattle.program.specs.Bytes.{commands_in}
use Rattle.load.specs.Scan.{scan_of, begin_of, complete}

-- none of the reactor's commands is refused, and nothing is missing at its end
abbrev pub ReactorAccepted : List ℕ → ℕ → Type 0
ReactorAccepted p r =
    ((scan_of (commands_in p r) p r (begin_of p r)).code ≡ 0)
    × (complete (scan_of (commands_in p r) p r (begin_of p r)).scan ≡ true)
