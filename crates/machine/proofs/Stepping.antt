-- R commands, one after the other, and the table of places beside them.
-- Assumes nothing.
use Rattle.std.specs.Prelude.{ℕ, zero, suc, ◌+◌, ◌-◌, ◌*◌, ◌≤◌, ◌<◌, ◌≡◌, refl, Bool, true, Result, Ok, Err}
use Rattle.std.proofs.Common.{sym, ◌∙◌, ap, ⊎_elim}
use Rattle.std.specs.Prelude.{false, List, length, set}
use Rattle.std.proofs.Common.{arith}
use lib.Seq.{get_or-set_same, get_or-set_other}
use Rattle.value.specs.Test.{pick}
use Rattle.value.proofs.Tests.{below}
use Rattle.program.specs.Bytes.{commands_d, commands_r}
use Rattle.program.specs.Command.{Cmd, cmd_of, takes_words, alloc_mono, make_poly, supply, react, sink, alloc_poly, cell}
use Rattle.program.specs.Command.{keep, none, gives}
use Rattle.program.specs.Location.{source_count, command_loc, slot_at, results}
use Rattle.program.proofs.Slots.{slot_r}
use Rattle.answer.specs.declared.Refusal.{Refusal}
use Rattle.image.specs.Memory.{reactor, with_wired}
use Rattle.remus.specs.Exec.{Eff, move, call, fail, exec, allocated, branched, chosen, operated, ready, eff}
use Rattle.remus.specs.Run.{Ran, ran, stopped, entered, run_of}
use Rattle.remus.specs.Steady.{Fits, Steady}
use Rattle.machine.specs.declared.Outcome.{Outcome}
use Rattle.machine.specs.declared.Outcome.TheVariants.{Given, Move, Call}
use Rattle.machine.specs.Clauses.{did, doing, ran_as, Workable, stepping, Knowing, Left, PlacedTo}
use Rattle.machine.proofs.WordsFit.{workable_opened}
use Rattle.machine.proofs.Opening.{left_at}
use Rattle.machine.proofs.Running.{gave, moved, called, failed, knows, goes_on, breaks_off, ready_apart}
use Rattle.machine.proofs.Running.{ready_there, effect, steps}

-- ---- places

module _ (p : List ℕ) (r j n : ℕ) (i : j < commands_r p r)
    (e : n ≡ source_count p r + commands_d p r + results p r j) where
  place_here : 3 + 2 * n ≡ slot_at p r (source_count p r + commands_d p r + j)
  place_here = let s = slot_r p r j (omega arith) in omega arith

  -- where the words of the command begin
  pub place_own : 3 + 2 * n ≡ slot_at p r (command_loc p r (commands_d p r + j))
  unfolding command_loc
  place_own =
      let a : source_count p r + commands_d p r + j ≡ source_count p r + (commands_d p r + j) = omega arith in
      place_here ∙ ap
      (slot_at p r) a

  -- once it is noted
  pub placed_next : (t : List ℕ) → source_count p r + commands_d p r + j < length t → PlacedTo p r t
      (source_count p r + commands_d p r + j)
      → PlacedTo p r (set t (source_count p r + commands_d p r + j) n) (source_count p r + commands_d p r + j + 1)
  placed_next t h f l k =
      ⊎_elim
      (λ (x : l < source_count p r + commands_d p r + j).
      let s = get_or-set_other t (source_count p r + commands_d p r + j) l n 0
      (omega arith) in rw s (f l x))
      (λ (x : source_count p r + commands_d p r + j ≤ l).
      let y : l ≡ source_count p r + commands_d p r + j = omega arith in
      rw y (let s = get_or-set_same t (source_count p r + commands_d p r + j) n 0 h in rw s place_here))
      (below l (source_count p r + commands_d p r + j))

-- how many results there are past a command
results_by : (p : List ℕ) (r j : ℕ) (t : Bool) → takes_words (cmd_of p r (commands_d p r + j)) ≡ t → results p r (j + 1) ≡
    results p r j + pick t 1 0
unfolding results
results_by p r j t e = let z : j + 1 ≡ suc j = omega arith in rw (z, e)

-- ---- only React calls

module _ (p rd : List ℕ) (h : ℕ) (m : List ℕ) (o i : ℕ) (m₁ : List ℕ) (d : ℕ) where
  no_move : (m₂ : List ℕ) → move m₂ ≡ call m₁ d → ⊥
  no_move m₂ e = let z : ◌≡◌ {A = ℕ} 0 1 = cc in absurd (omega arith)

  no_fail : (w : Refusal) → fail w ≡ call m₁ d → ⊥
  no_fail w e = let z : ◌≡◌ {A = ℕ} 0 1 = cc in absurd (omega arith)

  allocated_no : (s t : Bool) (x : ℕ) → allocated p rd h m o i s t x ≡ call m₁ d → ⊥
  unfolding allocated
  allocated_no true t x e = no_fail _ e
  allocated_no false false x e = no_fail _ e
  allocated_no false true x e = no_move _ e

  branched_no : (s t : Bool) (q b : ℕ) → branched p rd h m o i s t q b ≡ call m₁ d → ⊥
  unfolding branched
  branched_no true t q b e = no_fail _ e
  branched_no false false q b e = no_fail _ e
  branched_no false true q b e = no_move _ e

  chosen_no : (c q b : ℕ) → chosen p rd h m o i c q b ≡ call m₁ d → ⊥
  unfolding chosen
  chosen_no zero q b e = branched_no _ _ q b e
  chosen_no (suc c) q b e = no_move _ e

  operated_no : (t : Bool) (q b : ℕ) → operated p rd h m o i t q b ≡ call m₁ d → ⊥
  unfolding operated
  operated_no true q b e = no_move _ e
  operated_no false q b e = chosen_no _ q b e

  calls_none : (c : Cmd) → exec p rd h m o i c ≡ call m₁ d → takes_words c ≡ false
  unfolding exec takes_words
  calls_none (alloc_mono x) e = absurd (allocated_no _ _ x e)
  calls_none (make_poly x) e = absurd (no_move _ e)
  calls_none (cell x v) e = absurd (no_move _ e)
  calls_none (gives y) e = absurd (no_move _ e)
  calls_none (supply x a b) e = refl
  calls_none (react b) e = refl
  calls_none (sink x a) e = refl
  calls_none (alloc_poly a b) e = absurd (operated_no _ _ b e)
  calls_none (keep a b) e = absurd (no_move _ e)
  calls_none none e = absurd (no_move _ e)

-- ---- a command of a run

module _ (p rd : List ℕ) (f h o : ℕ) (x : Ran) (r : ℕ) (m : List ℕ) (j : ℕ) where
  abbrev i : ℕ
  i = commands_d p r + j

  abbrev rest : ℕ
  rest = commands_r p r - (j + 1)

  module _ (low : j < commands_r p r) (l : Left p rd f h o x r (commands_r p r - j) i m)
      (wiring : j ≡ 0 → with_wired m o 1 ≡ m) where
    more : Left p rd f h o x r (suc rest) i m
    more = left_at p rd f h o (omega arith) refl l

    knowing : Knowing p rd f h o r i m
    knowing = knows p rd f h o x r rest i m more

    pub same_here : reactor m o ≡ r
    same_here = knowing.same

    set_here : ready p m o i ≡ m
    set_here = by j refl
      where
        by : (k : ℕ) → j ≡ k → ready p m o i ≡ m
        by zero e =
            let z : i ≡ commands_d p r = omega arith in
            ap (ready p m o) z ∙ ready_there p m o r same_here ∙ wiring e
        by (suc k) e = ready_apart p m o r same_here i (λ y. omega arith)

    pub fits_here : Fits p r m o i
    fits_here = rw set_here at knowing.fits

    -- by the code's outcome q, with the words m₁ then
    module _ (q : Result Outcome Refusal) (m₁ : List ℕ) (code : did q m₁ ≡ doing p rd h m o i (cmd_of p r i)) where
      abbrev c : Cmd
      c = cmd_of p r i

      stepped : (e : Eff) → exec p rd h m o i c ≡ e → stepping p rd f h o i m ≡ entered (run_of f p rd (h + 1)) m e
      stepped e z = steps p rd f h o i r m same_here set_here e z

      next : (m₂ : List ℕ) → stepping p rd f h o i m ≡ ran m₂ → Left p rd f h o x r rest (commands_d p r + (j + 1)) m₂
      next m₂ e = left_at p rd f h o refl (omega arith) (goes_on p rd f h o x r rest i m more m₂ e)

      pub on_given : q ≡ Ok Given → Left p rd f h o x r rest (commands_d p r + (j + 1)) m₁ ×
          (results p r (j + 1) ≡ results p r j + 1)
      unfolding entered pick
      on_given e =
          let g = gave m m₁ c _ (rw e at code) in
          (next m₁ (stepped _ g.1), results_by p r j true g.0)

      pub on_move : q ≡ Ok Move → Left p rd f h o x r rest (commands_d p r + (j + 1)) m₁ ×
          (results p r (j + 1) ≡ results p r j)
      unfolding entered pick
      on_move e =
          let g = moved m m₁ c _ (rw e at code) in
          (next m₁ (stepped _ g.1), results_by p r j false g.0 ∙ (omega arith))

      pub on_fail : (w : Refusal) → q ≡ Err w → x ≡ stopped w m₁
      unfolding entered
      on_fail w e =
          let g = failed m m₁ c w _ (rw e at code) in
          breaks_off p rd f h o x r rest i m more w m₁ (stepped _ g.0 ∙ ap (stopped w) g.1)

      module _ (d : ℕ) (e : q ≡ Ok (Call d)) where
        calling : exec p rd h m o i c ≡ call m₁ d
        calling = called m m₁ c d _ (rw e at code)

        has_called : eff p rd h m o i ≡ call m₁ d
        has_called = effect p rd f h o i r m same_here set_here ∙ calling

        pub on_call : Steady p rd f (h + 1) m₁ d × Workable m₁
        on_call = (knowing.calls m₁ d has_called, workable_opened p rd h m o i d m₁ l.workable has_called)

        -- the nested run comes to its end, or stops
        pub after_call : (m₂ : List ℕ) → ran_as (Ok tt) m₂ ≡ run_of f p rd (h + 1) m₁ d
            → Left p rd f h o x r rest (commands_d p r + (j + 1)) m₂ × (results p r (j + 1) ≡ results p r j)
        unfolding entered ran_as pick
        after_call m₂ z = (
          next m₂ (stepped _ calling ∙ sym z),
          results_by p r j false
              (calls_none p rd h m o i m₁ d c calling) ∙ (omega arith),
        )

        pub stops_call : (w : Refusal) (m₂ : List ℕ) → ran_as (Err w) m₂ ≡ run_of f p rd (h + 1) m₁ d
            → x ≡ stopped w m₂
        unfolding entered ran_as
        stops_call w m₂ z = breaks_off p rd f h o x r rest i m more w m₂ (stepped _ calling ∙ sym z)
