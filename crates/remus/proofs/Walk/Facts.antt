-- What the rules give of each reactor, as the walk's proofs use it.
use Rattle.std.specs.Prelude.{ℕ, ◌≤◌, ◌<◌, ◌≡◌, ◌⊎◌, List}
use Rattle.std.proofs.Common.{inl, inr, arith}
use Rattle.value.proofs.Tests.{below}
use Rattle.program.specs.Bytes.{reactors, main_of, commands_d, commands_in}
use Rattle.program.specs.Command.{Cmd, cmd_of, sequence_of, D, R}
use Rattle.program.specs.Location.{source_count}
use Rattle.load.specs.Rules.{Rules}
use Rattle.load.proofs.Exact.Static.{Static, Single}
use Rattle.load.proofs.Exact.StaticFromRules.{all_static}
use Rattle.load.proofs.Exact.Bounds.{main_last}

-- an R command stands past D
pub r_late : {p : List ℕ} {r : ℕ} → Static p r → (i : ℕ) {c : Cmd} → cmd_of p r i ≡ c → sequence_of c ≡ R
    → commands_d p r ≤ i
r_late {p} {r} s i {c} e q = by (below i (commands_d p r))
  where
    by : (i < commands_d p r) ⊎ (commands_d p r ≤ i) → commands_d p r ≤ i
    by (inr l) = l
    by (inl l) =
        let y : sequence_of c ≡ D = rw e at (s.in_d i l) in
        let k : ◌≡◌ {A = ℕ} 0 1 = cc in
        absurd (omega arith)

pub record Facts (p : List ℕ) : Type 0 where
  pub static : (r : ℕ) → r < reactors p → Static p r × Single p r
  pub running_some : (r : ℕ) → r < reactors p → commands_d p r < commands_in p r
  pub main_low : main_of p < reactors p
  pub main_bare : source_count p (main_of p) ≡ 0

pub facts : (p : List ℕ) → Rules p → Facts p
unfolding commands_in
facts p u =
    record {
      static = all_static p u;
      running_some = λ r h. let q = (u.tables.entries r h).some_running in omega arith;
      main_low = main_last u.tables.header;
      main_bare = u.tables.main.no_sources;
    }
