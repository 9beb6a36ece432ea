use Rattle.std.specs.Prelude.{ℕ, ◌≡◌}
use Rattle.program.specs.Bytes.{sink_kind, sources_in}
use Rattle.value.specs.Test.{◌<?◌, ◌=?◌, ◌and◌, sweep}
use Rattle.load.proofs.tables.main_fits.Given as goal

abbrev pub invariant-loop-x : goal.invariant-loop-x
invariant-loop-x l =
    (l.all ≡ ((sources_in l.program l.s =? 0) and (sweep (λ (x : ℕ). sink_kind l.program l.s x <? 2) 0 l.x =? l.x)))
