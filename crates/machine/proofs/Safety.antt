-- A sound image of an accepted program is safe for the turn's code, whatever the readings.
-- Assumes nothing.
use Rattle.std.specs.Prelude.{ℕ, ◌≤◌, ◌≡◌, List, length}
use Rattle.std.proofs.Common.{sym, ◌∙◌, ap, subst, arith}
use Rattle.program.specs.Bytes.{main_of, commands_in}
use Rattle.program.specs.Clauses.{Facts}
use Rattle.program.specs.Location.{source_count}
use Rattle.program.specs.Kind.{kind_of}
use Rattle.program.proofs.Places.{commands_within}
use Rattle.load.specs.Check.{accepted, check_of}
use Rattle.answer.specs.Answer.{number_of}
use Rattle.load.specs.Rules.{Rules}
use Rattle.answer.specs.declared.Refusal.{Refusal}
use Rattle.load.proofs.Exact.{exact}
use Rattle.load.proofs.Exact.StaticFromRules.{all_static}
use Rattle.image.specs.Memory.{most_depth, most_words, main_at, used}
use Rattle.image.specs.Sound.{Tiles, SoundImage}
use Rattle.image.specs.Clauses.{Tiling}
use Rattle.image.proofs.Exact.{exact_soundness}
use Rattle.image.proofs.Exact.Tiling.{tiles! }
use Rattle.image.proofs.Memory.Tiles.{in_to, tiles_kept}
use Rattle.remus.specs.Run.{ran, stopped, main_run}
use Rattle.remus.proofs.CellsFilled.{kept_all}
use Rattle.remus.proofs.Undo.Entry.{entry_firm}
use Rattle.remus.proofs.Undo.Runs.{After, run_keeps}
use Rattle.remus.proofs.Undo.Undoing.{undoes}
use Rattle.machine.specs.Clauses.{Ending, Safe, Sure, Remembering, Loaded}
use Rattle.remus.proofs.Steady.{steady}

tiling : (p m : List ℕ) (u : ℕ) → u ≤ length m → Tiles p m u main_at → Tiling p m u main_at
tiling p m u h t = record { fits = h; tiled = tiles! p m (length m) u main_at (omega arith) t }

module _ (p : List ℕ) (rules : Rules p) (m rd : List ℕ) (few : length m ≤ most_words) (s : SoundImage p m) where
  after_run : After p m (λ (x : List ℕ). Unit {0}) (main_run p rd m)
  unfolding main_run
  after_run = run_keeps p rules rd most_depth 1 m main_at (entry_firm p rules m s) s.main

  -- an accepted program's Keeps have their cells
  remembers : Remembering p
  remembers r i a b low h e =
      let c = ((all_static p rules r low).0.keeps i a b h e).1 in
      record {
        command = c.index;
        kind = kind_of p r b;
        content = c.bits;
        in_d = c.low;
        located = c.place;
        is = c.is;
      }

  ends : (m' : List ℕ) → main_run p rd m ≡ ran m' → Ending p m'
  ends m' e =
      let k = subst (After p m (λ (x : List ℕ). Unit {0})) e after_run in
      let good = k.0.firm.good in
      let filled = (kept_all p (all_static p rules) m' good).change in
      record {
        remembers = remembers;
        first = k.0.later.reactors main_at s.main ∙ s.first;
        tiled = tiling p m' (used m') good.fits good.tiles;
        kept_tiled = tiling p _ _ filled.good.fits filled.good.tiles;
        kept_turns = filled.clock;
      }

  stops : (w : Refusal) (m' : List ℕ) → main_run p rd m ≡ stopped w m' → Tiling p m' (used m) main_at
  stops w m' e =
      let k = subst (After p m (λ (x : List ℕ). Unit {0})) e after_run in
      tiling p m' (used m) (omega (arith, k.later.len, s.fits)) (tiles_kept p k.later.reactors s.tiles)

  safe : Safe p rd m
  safe =
      record {
        few = few;
        past = omega (arith, in_to p s.main);
        steady = λ sk e. steady p rules m rd sk s e;
        ends = ends;
        stops = stops;
        undoes = λ w m' e. undoes p rules m rd m' w s e;
      }

-- an accepted program, by its rules
loads : (p : List ℕ) → Rules p → (t : List ℕ) → Facts p t → Loaded p t
unfolding commands_in source_count main_of
loads p rules t f =
    record {
      facts = f;
      inside = λ r l. omega (arith, commands_within p r l, rules.tables.whole);
      short = λ r l.
          let e = rules.tables.entries r l in
          omega (arith, (rules.tables.every_shape _ e.shape).few_sources, e.few_declared, e.few_running);
      some = λ r l. (rules.tables.entries r l).some_running;
      main = omega (arith, rules.tables.header.some_reactor);
    }

pub sure : (p t : List ℕ) → accepted p ≡ check_of p → Facts p t → Sure p t
sure p t e f =
    let rules = (exact p).0 (ap number_of (sym e)) in
    record {
      loaded = loads p rules t f;
      safe = λ m rd few h. safe p rules m rd few ((exact_soundness p rules.tables.header.few_reactors m few).0 h);
    }
