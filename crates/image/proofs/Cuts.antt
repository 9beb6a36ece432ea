-- A D command by its two bytes, a deployment's children, a pass, and the ladder of soundness as the code climbs it.
-- Assumes nothing.
use Rattle.std.specs.Prelude.{ℕ, ◌+◌, ◌-◌, ◌≡◌, refl, Bool, true, false, List, replicate, Ok, Err}
use Rattle.std.proofs.Common.{sym, ◌∙◌, ap, arith}
use Rattle.value.specs.Test.{◌and◌, ◌=?◌}
use Rattle.value.proofs.Tests.{goes, stops, eq!, eq×, le?, both?}
use Rattle.program.specs.Bytes.{commands_d, main_of}
use Rattle.program.specs.Command.{Made, made_by, cmd_of}
use Rattle.program.specs.Location.{command_loc, size_of}
use Rattle.image.specs.Memory.{main_at, used, turns, reactor, wired, next, zero_at, starts_below}
use Rattle.image.specs.Passes.{table_bytes, lowest, over, with_table_byte, blank_table, visit, table_after, fits}
use Rattle.image.specs.Passes.{children_from, children_of, lowest_unfit, fresh_sound}
use Rattle.image.specs.Passes.{Judged, grown_sound, by_turns, framed, sound_of}
use Rattle.image.specs.Clauses.{judged, made, SlotOf, Tiling, starts_on}
use Rattle.image.specs.declared.DSlot.{DSlot}
use Rattle.image.specs.declared.Pass.{Pass}
use Rattle.image.specs.declared.Pass.TheVariants.{Starts, Names, Depths}
use Rattle.std.specs.Result.{result_or}
use Rattle.image.proofs.Lists.{fault_judged, none_judged}

-- what is said of a D slot and of what its bytes make holds of its command
pub by_slot : {A : Type 0} (F : ℕ → Made → A) (p m : List ℕ) (o j : ℕ) (s : DSlot) → SlotOf p m o j s
    → F s.location (made s.makes) ≡ F (command_loc p (reactor m o) j) (made_by (cmd_of p (reactor m o) j))
by_slot F p m o j s e = rw (e.located, e.makes)

pub children_first : (p m : List ℕ) (f : List ℕ → ℕ → List ℕ) (t : List ℕ) (o n : ℕ) → n ≡ commands_d p (reactor m o)
    → over f t (children_from p m (n - 0) 0 o) ≡ over f t (children_of p m o)
unfolding children_of
children_first p m f t o n e = let d : n - 0 ≡ commands_d p (reactor m o) = omega arith in rw d

-- a pass: t is its table before the visits, t₁ after them
pub pass_run : (p m : List ℕ) (pass : Pass) (t t₁ s : List ℕ)
    → t ≡ with_table_byte (replicate table_bytes 0) main_at 1 → t₁ ≡ over (visit p m pass) t s
    → lowest (fits p m pass t₁) s ≡ lowest_unfit p m pass s
unfolding lowest_unfit table_after blank_table
pass_run p m pass t t₁ s a b =
    ap (λ (t : List ℕ). lowest (fits p m pass t) s) (b ∙ ap (λ (t : List ℕ). over (visit p m pass) t s) a)

module _ (p m : List ℕ) where
  -- with turns 0, by main's size
  module _ (size : ℕ) (sized : size ≡ size_of p (main_of p)) where
    abbrev Clear : Bool
    Clear = (wired m main_at =? 0) and zero_at m (main_at + 3) (size - 3)

    pub main_unfresh : Clear ≡ false → Err main_at ≡ fresh_sound p m
    unfolding fresh_sound
    main_unfresh e = rw (← sized) (stops _ e refl)

    pub main_followed : Clear ≡ true → (used m ≡ main_at + size → ⊥) → Err (main_at + size) ≡ fresh_sound p m
    unfolding fresh_sound
    main_followed e d = rw (← sized) (goes _ _ e (stops _ (eq× d) refl))

    pub main_alone : Clear ≡ true → used m ≡ main_at + size → Ok tt ≡ fresh_sound p m
    unfolding fresh_sound
    main_alone e f = rw (← sized) (goes _ _ e (goes _ _ (eq! f) refl))

  -- with turns above 0, by what each pass answers
  module _ (starts : List ℕ) where
    pub own_fault : (a : ℕ) → Err a ≡ judged (lowest_unfit p m Starts starts) → Err a ≡ grown_sound p m starts
    unfolding grown_sound
    own_fault a e = let f = fault_judged _ a e in stops _ (eq× f.0) (ap Err f.1)

    module _ (own : Ok tt ≡ judged (lowest_unfit p m Starts starts)) where
      pub named_fault : (a : ℕ) → Err a ≡ judged (lowest_unfit p m Names starts) → Err a ≡ grown_sound p m starts
      unfolding grown_sound
      named_fault a e = let f = fault_judged _ a e in
          goes _ _ (eq! (none_judged _ own)) (stops _ (eq× f.0) (ap Err f.1))

      module _ (named : Ok tt ≡ judged (lowest_unfit p m Names starts)) where
        pub depth_judged : (r : Judged) → r ≡ judged (lowest_unfit p m Depths starts)
            → result_or r (Err 0) ≡ grown_sound p m starts
        unfolding grown_sound
        depth_judged (Ok x) e =
            goes _ _ (eq! (none_judged _ own)) (goes _ _ (eq! (none_judged _ named)) (goes _ _ (eq! (none_judged _ e)) refl))
        depth_judged (Err a) e =
            let f = fault_judged _ a e in
            goes _ _ (eq! (none_judged _ own)) (goes _ _ (eq! (none_judged _ named)) (stops _ (eq× f.0) refl))

  -- the ladder
  pub unframed : framed p m ≡ false → Err 0 ≡ sound_of p m
  unfolding sound_of
  unframed e = stops _ e refl

  module _ (right : framed p m ≡ true) where
    pub chained : (next m main_at ≡ 0 → ⊥) → Err main_at ≡ sound_of p m
    unfolding sound_of
    chained d = goes _ _ right (stops _ (eq× d) refl)

    module _ (alone : next m main_at ≡ 0) where
      by_turns_lem : (t : Bool) → (turns m =? 0) ≡ t → by_turns p m t ≡ sound_of p m
      unfolding sound_of
      by_turns_lem t e = goes _ _ right (goes _ _ (eq! alone) (ap (by_turns p m) (sym e)))

      pub fresh_judged : turns m ≡ 0 → fresh_sound p m ≡ sound_of p m
      unfolding by_turns
      fresh_judged e = by_turns_lem true (eq! e)

      pub grown_judged : (turns m ≡ 0 → ⊥) → grown_sound p m (starts_on p m (used m) main_at) ≡ sound_of p m
      unfolding by_turns starts_below
      grown_judged d = by_turns_lem false (eq× d)

    pub framed_tiling : Tiling p m (used m) main_at
    unfolding framed
    framed_tiling =
        record {
          fits = le? (both? right).0;
          tiled = (both? (both? (both? (both? right).1).1).1).0;
        }
