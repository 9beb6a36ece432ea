-- What holds before each R command of a run, of the words, the table of places and the counts that the code goes by.
-- Assumes nothing.
use Rattle.std.specs.Prelude.{ℕ, suc, ◌+◌, ◌-◌, ◌*◌, ◌≤◌, ◌<◌, ◌≡◌, refl, true, List, Result, Ok, Err}
use Rattle.std.proofs.Common.{sym, ◌∙◌, ap, subst, ⊎_elim}
use Rattle.std.specs.Prelude.{length, set}
use Rattle.std.proofs.Common.{arith}
use lib.ListN.{length-set}
use Rattle.value.proofs.Tests.{below}
use Rattle.program.specs.Bytes.{reactors, commands_d, commands_r, commands_at, commands_in, command_at}
use Rattle.program.specs.Command.{cmd_of, bytes_at, bytes_of, decode, takes_words}
use Rattle.program.proofs.Slots.{results_few, slot_command, slot_fits}
use Rattle.program.specs.Location.{source_count, command_loc, slot_at, results}
use Rattle.answer.specs.declared.Refusal.{Refusal}
use Rattle.image.specs.Memory.{reactor, with_wired, slot}
use Rattle.remus.specs.Run.{Ran, ran, stopped, commands, run_of}
use Rattle.remus.specs.Steady.{Fits, Steady}
use Rattle.answer.specs.Answer.{Ruling}
use Rattle.machine.specs.declared.Outcome.{Outcome}
use Rattle.machine.specs.declared.Outcome.TheVariants.{Given, Move, Call}
use Rattle.machine.specs.Clauses.{did, doing, ran_as, Here, Workable, stepping, Left, Opened, Loaded, PlacedTo}
use Rattle.machine.specs.Clauses.{Reaches}
use Rattle.machine.proofs.Opening.{left_at, starts, legal as entered_legal}
use Rattle.machine.proofs.Placing.{reaches}
use Rattle.machine.proofs.Running.{ends}
use Rattle.machine.proofs.Stepping.{place_own, placed_next, same_here, fits_here, on_given, on_move, on_fail}
use Rattle.machine.proofs.Stepping.{on_call, after_call, stops_call}

-- where R begins
pub lay_at : (p : List ℕ) (r at d : ℕ) → at ≡ commands_at p r → d ≡ commands_d p r → at + 8 * d ≡ command_at p r
    (commands_d p r)
unfolding command_at
lay_at p r at d e k = omega arith

-- ---- depths

module _ (p rd : List ℕ) (h o : ℕ) (m : List ℕ) where
  pub not_deep : Steady p rd (65 - h) h m o → h ≤ 64
  unfolding Steady
  not_deep s =
      ⊎_elim (λ (k : h < 65). omega arith) (λ (k : 65 ≤ h). let z : 65 - h ≡ 0 = omega arith in absurd (rw z at s))
      (below h 65)

  module _ (low : h ≤ 64) where
    levels : 65 - h ≡ suc (65 - (h + 1))
    levels = omega arith

    pub steady_below : Steady p rd (65 - h) h m o → Steady p rd (suc (65 - (h + 1))) h m o
    steady_below s = subst (λ (x : ℕ). Steady p rd x h m o) levels s

    pub ran_whole : (m₁ : List ℕ) → run_of (suc (65 - (h + 1))) p rd h m o ≡ ran m₁ → ran_as (Ok tt) m₁ ≡ run_of (65 - h) p
        rd h m o
    unfolding ran_as
    ran_whole m₁ e = sym (ap (λ (x : ℕ). run_of x p rd h m o) levels ∙ e)

    pub ran_stopped : (w : Refusal) (m₁ : List ℕ) → run_of (suc (65 - (h + 1))) p rd h m o ≡ stopped w m₁
        → ran_as (Err w) m₁ ≡ run_of (65 - h) p rd h m o
    unfolding ran_as
    ran_stopped w m₁ e = sym (ap (λ (x : ℕ). run_of x p rd h m o) levels ∙ e)

-- ---- past D

-- what the R commands of o from the words m on come to
abbrev pub coming : (p rd : List ℕ) (h o : ℕ) (m : List ℕ) → Ran
coming p rd h o m =
    commands (stepping p rd (65 - (h + 1)) h o) (commands_r p (reactor m o)) (commands_d p (reactor m o)) m

-- from the words m₀ to m the deployment at o, at depth h, is entered
pub record Begun (p rd : List ℕ) (h o : ℕ) (m₀ m : List ℕ) : Type 0 where
  pub deep : h ≤ 64
  pub legal : reactor m₀ o < reactors p
  pub same : reactor m o ≡ reactor m₀ o
  pub left : Left p rd (65 - (h + 1)) h o (coming p rd h o m) (reactor m o) (commands_r p (reactor m o))
      (commands_d p (reactor m o)) m
  pub wired : with_wired m o 1 ≡ m
  pub ends_whole : (m₁ : List ℕ) → coming p rd h o m ≡ ran m₁ → ran_as (Ok tt) m₁ ≡ run_of (65 - h) p rd h m₀ o
  pub ends_stopped : (w : Refusal) (m₁ : List ℕ) → coming p rd h o m ≡ stopped w m₁ → ran_as (Err w) m₁ ≡ run_of
      (65 - h) p rd h m₀ o

pub begun : (p t rd : List ℕ) (h o : ℕ) (m₀ m : List ℕ) (q : Ruling) → Loaded p t → Workable m₀ → Steady p rd (65 - h) h
    m₀ o → q ≡ Ok tt
    → ((rd' : List ℕ) (f : ℕ) → Steady p rd' (suc f) h m₀ o → Opened p rd' f h o m₀ q m) → Begun p rd h o m₀ m
begun p t rd h o m₀ m q loaded w s e code =
    let d = not_deep p rd h o m₀ s in
    let s₁ = steady_below p rd h o m₀ d s in
    let l = entered_legal p rd (65 - (h + 1)) h o m₀ w s₁ in
    let g : Opened p rd (65 - (h + 1)) h o m₀ (Ok tt) m = rw e at (code rd (65 - (h + 1)) s₁) in
    let k = starts p rd (65 - (h + 1)) h o m₀ m (loaded.some _ l) g in
    let x : run_of (suc (65 - (h + 1))) p rd h m₀ o ≡ coming p rd h o m = rw k.0 g.0.run in
    record {
      deep = d;
      legal = l;
      same = k.0;
      left = k.1;
      wired = g.1;
      ends_whole = λ m₁ z. ran_whole p rd h o m₀ d m₁ (x ∙ z);
      ends_stopped = λ v m₁ z. ran_stopped p rd h o m₀ d v m₁ (x ∙ z);
    }

-- or it has stopped
pub stopped_there : (p rd : List ℕ) (h o : ℕ) (m₀ m : List ℕ) (q : Ruling) (v : Refusal) → Steady p rd (65 - h) h m₀ o →
    q ≡ Err v
    → ((rd' : List ℕ) (f : ℕ) → Steady p rd' (suc f) h m₀ o → Opened p rd' f h o m₀ q m) → ran_as (Err v) m ≡ run_of
    (65 - h) p rd h m₀ o
stopped_there p rd h o m₀ m q v s e code =
    let d = not_deep p rd h o m₀ s in
    let g : Opened p rd (65 - (h + 1)) h o m₀ (Err v) m = rw e at
    (code rd (65 - (h + 1)) (steady_below p rd h o m₀ d s)) in
    ran_stopped p rd h o m₀ d v m g

-- ---- before each command

module _ (p t rd : List ℕ) (h o : ℕ) (m₀ : List ℕ) (first at end : ℕ) where
  abbrev r : ℕ
  r = reactor m₀ o

  abbrev f : ℕ
  f = 65 - (h + 1)

  -- what the R commands from the words m₀ on come to
  abbrev x : Ran
  x = coming p rd h o m₀

  -- m the words, s the table, n how many locations before the next command, the j-th, have words
  pub record Going (m s : List ℕ) (n j : ℕ) : Type 0 where
    pub legal : r < reactors p
    pub is_first : first ≡ source_count p r + commands_d p r
    pub is_at : at ≡ commands_at p r + 8 * commands_d p r
    pub is_end : end ≡ commands_r p r
    pub upto : j ≤ end
    pub table : length s ≡ 256
    pub count : n ≡ first + results p r j
    pub placed : PlacedTo p r s (first + j)
    pub left : Left p rd f h o x r (commands_r p r - j) (commands_d p r + j) m
    pub wiring : j ≡ 0 → with_wired m o 1 ≡ m

  -- at first
  pub goes : (m s : List ℕ) → r < reactors p → first ≡ source_count p r + commands_d p r
      → at ≡ commands_at p r + 8 * commands_d p r → end ≡ commands_r p r → length s ≡ 256 → PlacedTo p r s (first + 0)
      → Left p rd f h o x r (commands_r p r) (commands_d p r) m → with_wired m o 1 ≡ m → Going m s first 0
  unfolding results
  goes m s l a b c d e g w =
      record {
        legal = l;
        is_first = a;
        is_at = b;
        is_end = c;
        upto = omega arith;
        table = d;
        count = omega arith;
        placed = e;
        left = left_at p rd f h o (omega arith) (omega arith) g;
        wiring = λ z. w;
      }

  module _ (loaded : Loaded p t) (m s : List ℕ) (n j : ℕ) (g : Going m s n j) where
    -- a location fits a byte, and so do the counts
    pub short : first + end ≤ 167
    unfolding commands_in
    short = let k = loaded.short r g.legal in let a = g.is_first in let b = g.is_end in omega arith

    pub counted : n ≤ first + j
    counted = let k = results_few p r j in let a = g.count in omega arith

    pub all_inside : at + 8 * end ≤ length p
    unfolding commands_in
    all_inside = let k = loaded.inside r g.legal in let a = g.is_at in let b = g.is_end in omega arith

    pub begins_at : at ≡ command_at p r (commands_d p r)
    unfolding command_at
    begins_at = g.is_at

    pub here_at : at + 8 * j ≡ command_at p r (commands_d p r + j)
    unfolding command_at
    here_at = let a = g.is_at in omega arith

    pub whole : j ≡ end → x ≡ ran m
    whole e = let a = g.is_end in ends p rd f h o x r (commands_d p r + j) m
        (left_at p rd f h o (omega arith) refl g.left)

    module _ (low : j < end) where
      under : j < commands_r p r
      under = let a = g.is_end in omega arith

      its : n ≡ source_count p r + commands_d p r + results p r j
      its = g.count ∙ ap (λ (y : ℕ). y + results p r j) g.is_first

      pub same : reactor m o ≡ r
      same = same_here p rd f h o x r m j under g.left g.wiring

      pub fits : Fits p r m o (commands_d p r + j)
      fits = fits_here p rd f h o x r m j under g.left g.wiring

      pub own : (here : ℕ) → ((p : List ℕ) (m : List ℕ) (l : ℕ) → 3 + 2 * n ≡ slot_at p (reactor m o) l → here ≡ slot p
          m o l)
          → Here p m o (commands_d p r + j) here
      own here e = e p m (command_loc p (reactor m o) (commands_d p r + j)) (rw same (place_own p r j n under its))

      pub noted : PlacedTo p r (set s (first + j) n) (first + j + 1)
      noted =
          let a = g.is_first in
          let b = g.table in
          let k = short in
          rw a (placed_next p r j n under its s (rw b (omega arith)) (rw a at g.placed))

      pub noted_loc : PlacedTo p r (set s (first + j) n) (command_loc p r (commands_d p r + j) + 1)
      unfolding command_loc
      noted_loc =
          let a = g.is_first in
          let e : first + j + 1 ≡ source_count p r + (commands_d p r + j) + 1 = omega arith in
          subst (PlacedTo p r (set s (first + j) n)) e noted

      -- the command finds its words
      pub found : (here : ℕ) → here ≡ o + 3 + 2 * n
          → Reaches (set s (first + j) n) o here (length m) (decode (bytes_at p (at + 8 * j)))
      unfolding commands_in bytes_of cmd_of
      found here e =
          let i = commands_d p r + j in
          let l = command_loc p r i in
          let k = place_own p r j n under its in
          let is : decode (bytes_at p (at + 8 * j)) ≡ cmd_of p r i = ap (λ (a : ℕ). decode (bytes_at p a)) here_at in
          let own : takes_words (cmd_of p r i) ≡ true → here + 1 < length m = λ w.
          let a = slot_fits p r l (slot_command p r i (let b = under in omega arith) w) in
          let b = fits.within in
          omega arith in
          rw is
          (reaches p (set s (first + j) n) r o l here (length m) noted_loc (omega arith) (cmd_of p r i) fits.reads
          own)

      -- before the next one
      next : (m₁ s₁ : List ℕ) (n₁ : ℕ) → Left p rd f h o x r (commands_r p r - (j + 1)) (commands_d p r + (j + 1)) m₁ →
          length s₁ ≡ 256
          → PlacedTo p r s₁ (first + (j + 1)) → n₁ ≡ first + results p r (j + 1) → Going m₁ s₁ n₁ (j + 1)
      next m₁ s₁ n₁ l e d c =
          record {
            legal = g.legal;
            is_first = g.is_first;
            is_at = g.is_at;
            is_end = g.is_end;
            upto = omega arith;
            table = e;
            count = c;
            placed = d;
            left = l;
            wiring = λ z. absurd (omega arith);
          }

      table_noted : length (set s (first + j) n) ≡ 256
      table_noted = simp length-set g.table

      placed_noted : PlacedTo p r (set s (first + j) n) (first + (j + 1))
      placed_noted = let e : first + j + 1 ≡ first + (j + 1) = omega arith in subst
          (PlacedTo p r (set s (first + j) n)) e noted

      -- by the code's outcome q, with the words m₁ and the table s₁ then
      module _ (q : Result Outcome Refusal) (m₁ s₁ : List ℕ) (code : did q m₁ ≡ doing p rd h m o (commands_d p r + j)
          (cmd_of p r (commands_d p r + j))) where
        pub going_given : s₁ ≡ set s (first + j) n → q ≡ Ok Given → Going m₁ s₁ (n + 1) (j + 1)
        going_given e z =
            let k = on_given p rd f h o x r m j under g.left g.wiring q m₁ code z in
            let a = g.count in
            rw e (next m₁ (set s (first + j) n) (n + 1) k.0 table_noted placed_noted (let b = k.1 in omega arith))

        pub going_move : s₁ ≡ set s (first + j) n → q ≡ Ok Move → Going m₁ s₁ n (j + 1)
        going_move e z =
            let k = on_move p rd f h o x r m j under g.left g.wiring q m₁ code z in
            let a = g.count in
            rw e (next m₁ (set s (first + j) n) n k.0 table_noted placed_noted (let b = k.1 in omega arith))

        pub going_fail : (w : Refusal) → q ≡ Err w → x ≡ stopped w m₁
        going_fail w z = on_fail p rd f h o x r m j under g.left g.wiring q m₁ code w z

        module _ (d : ℕ) (z : q ≡ Ok (Call d)) where
          pub nested : Steady p rd f (h + 1) m₁ d × Workable m₁
          nested = on_call p rd f h o x r m j under g.left g.wiring q m₁ code d z

          -- m₂ and s₂ after the nested run
          pub going_call : (m₂ s₂ : List ℕ) → ran_as (Ok tt) m₂ ≡ run_of f p rd (h + 1) m₁ d → length s₂ ≡ 256 → PlacedTo p
              r s₂ (first + (j + 1))
              → Going m₂ s₂ n (j + 1)
          going_call m₂ s₂ y e k =
              let y' = after_call p rd f h o x r m j under g.left g.wiring q m₁ code d z m₂ y in
              let a = g.count in
              next m₂ s₂ n y'.0 e k (let b = y'.1 in omega arith)

          pub stops : (w : Refusal) (m₂ : List ℕ) → ran_as (Err w) m₂ ≡ run_of f p rd (h + 1) m₁ d → x ≡ stopped w m₂
          stops w m₂ y = stops_call p rd f h o x r m j under g.left g.wiring q m₁ code d z w m₂ y
