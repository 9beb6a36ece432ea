-- Lists of turns: from what holds of each turn on a sound image to the claim about a whole list.
use Rattle.std.specs.Prelude.{ℕ, ◌+◌, ◌≤◌, ◌≡◌, refl, List, [], ◌∷◌, length, Ok, Err}
use Rattle.std.proofs.Common.{sym, ◌∙◌, ap, subst, arith}
use Rattle.program.specs.Bytes.{main_of}
use Rattle.program.specs.Location.{size_of}
use Rattle.load.specs.Rules.{HeaderRule}
use Rattle.image.specs.Memory.{main_at, used, wired, size_at}
use Rattle.image.specs.Sound.{Deployed, SoundImage}
use Rattle.image.specs.Start.{started_of}
use Rattle.image.proofs.Memory.Starting.{started_length, started_used, started_turns, started_sound}
use Rattle.image.proofs.Memory.Each.{alone}
use Rattle.remus.specs.Turn.{Turn}
use Rattle.remus.specs.Walk.{Input, Walks, no_turn as no_walk, and_then}
use Rattle.remus.specs.Claim.{fresh, TurnClaim, Completed, turns_of, memory_after, TurnOf, now, after, Grows}
use Rattle.remus.specs.Claim.{no_turn, completed, refused, Claim}
use Rattle.answer.specs.Answer.{Answer}
use Rattle.remus.proofs.Once.{walked_once}
use Rattle.remus.proofs.History.{result_of, Lasting, history}

-- a turn on the words w: its claim, what it leaves, and by how much u has grown if it completes
pub record TurnHolds (p w : List ℕ) (t : Input) : Type 0 where
  pub lasting : Lasting p w t
  pub grows : (u : ℕ) → (result_of p w t).answer ≡ Ok u →
      (k : ℕ) × Completed p w t k × (used (result_of p w t).memory ≡ used w + k)

-- every turn on a sound image of n words
abbrev pub EveryTurn : List ℕ → ℕ → Type 0
EveryTurn p n = (w : List ℕ) (t : Input) → length w ≡ n → SoundImage p w → TurnHolds p w t

-- the parts of the claim, from the words w on
pub record From (p w : List ℕ) (ts : List Input) : Type 0 where
  pub results : Walks p w ts (turns_of p w ts)
  pub every_turn : (bs : List Input) (v : List ℕ) (t : Input) → TurnOf p w ts bs v t → TurnClaim p v t
  pub grown : (k : ℕ) × Grows p w ts k × (used (memory_after p w ts) ≡ used w + k)

module _ (p : List ℕ) (n : ℕ) (each : EveryTurn p n) where
  none_from : (w : List ℕ) → From p w []
  unfolding turns_of memory_after
  none_from w = record { results = no_walk; every_turn = λ bs v t. elim [ ]; grown = (0, no_turn, omega arith) }

  one_from : (w : List ℕ) (t : Input) (ts : List Input) → TurnHolds p w t →
      From p (result_of p w t).memory ts → From p w (t ∷ ts)
  unfolding turns_of memory_after
  one_from w t ts h f =
      record {
        results = and_then c.result f.results;
        every_turn = λ bs v u. every;
        grown = by (result_of p w t).answer refl;
      }
    where
      c : TurnClaim p w t
      c = h.lasting.claim

      every : {bs : List Input} {v : List ℕ} {u : Input} → TurnOf p w (t ∷ ts) bs v u → TurnClaim p v u
      every now = c
      every {v = v} {u = u} (after {bs = bs} {r = r} q o) =
          let e : r ≡ result_of p w t = walked_once p w t r (result_of p w t) q c.result in
          f.every_turn bs v u (subst (λ (x : Turn). TurnOf p x.memory ts bs v u) e o)

      by : (a : Answer) → (result_of p w t).answer ≡ a →
          (k : ℕ) × Grows p w (t ∷ ts) k × (used (memory_after p (result_of p w t).memory ts) ≡ used w + k)
      by (Ok u) e =
          let g = h.grows u e in
          let k = f.grown in
          (g.0 + k.0, completed c.result e g.1 k.1, omega (arith, g.2, k.2))
      by (Err v) e =
          let k = f.grown in
          let same = (c.refused (result_of p w t) v c.result e).0 in
          (k.0, refused c.result e k.1, k.2 ∙ ap (λ (x : List ℕ). used x + k.0) same)

  all_from : (ts : List Input) (w : List ℕ) → length w ≡ n → SoundImage p w → From p w ts
  all_from [] w e s = none_from w
  all_from (t ∷ ts) w e s =
      let h = each w t e s in
      let l = h.lasting in
      one_from w t ts h (all_from ts (result_of p w t).memory (l.same_length ∙ e) l.sound)

  pub lists : main_at + size_of p (main_of p) ≤ n → HeaderRule p → (ts : List Input) → Claim p (started_of p n) ts
  unfolding size_at
  lists room header ts =
      let len = started_length p n room in
      let sound = started_sound p n room header in
      let f = all_from ts (started_of p n) len sound in
      record {
        results = f.results;
        every_turn = f.every_turn;
        remembered = λ bs w t o s m d b v q c.
            history p n (λ w t e image. (each w t e image).lasting) ts len sound o s m d b v q c v
            (fresh (λ i. unwired d i));
        grown = (f.grown.0, f.grown.1, f.grown.2 ∙ ap (λ (x : ℕ). x + f.grown.0) (started_used p n room));
      }
    where
      -- as it starts, main alone is there, and unwired
      unwired : (d : ℕ) → Deployed p (started_of p n) d → wired (started_of p n) d ≡ 0
      unwired d i =
          let s = started_sound p n room header in
          let f = s.fresh (started_turns p n room) in
          let q : main_at + size_at p (started_of p n) main_at ≡ used (started_of p n) = rw s.first (sym f.alone) in
          let z : d ≡ main_at = alone q i in
          rw z f.unwired
