-- Main's sinks as a completed turn writes them: pairs in order, further words as they were.
use Rattle.std.specs.Prelude.{ℕ, zero, suc, ◌+◌, ◌*◌, ◌≤◌, ◌<◌, ◌≡◌, refl, List, ◌∷◌, length, get_or}
use Rattle.std.proofs.Common.{◌∙◌, ap, arith}
use Rattle.program.specs.Bytes.{main_of}
use Rattle.program.specs.Location.{sink_count, sink_loc}
use Rattle.image.specs.Memory.{main_at, word, mark, content}
use Rattle.image.proofs.Memory.Patch.{patch_inside, patch_above, patch-length}
use Rattle.remus.specs.Clear.{pairs_from, pairs, sunk}
use Rattle.remus.specs.Walk.{Input, State, location}
use Rattle.remus.specs.Point.{◌∈◌}
use Rattle.remus.specs.Claim.{Written}

module _ (p m : List ℕ) where
  pub pairs_length : (n x : ℕ) → length (pairs_from p n x m) ≡ 2 * n
  unfolding pairs_from
  pairs_length zero x = refl
  pairs_length (suc n) x = omega (arith, pairs_length n (x + 1))

  -- words of a list that begins with two
  first_word : (a b : ℕ) (ws : List ℕ) → (word (a ∷ b ∷ ws) 0 ≡ a) × (word (a ∷ b ∷ ws) 1 ≡ b)
  unfolding word
  first_word a b ws = (refl, refl)

  later_word : (a b : ℕ) (ws : List ℕ) (i j : ℕ) → i ≡ suc (suc j) → word (a ∷ b ∷ ws) i ≡ word ws j
  unfolding word
  later_word a b ws i j e = ap (λ (i : ℕ). get_or (a ∷ b ∷ ws) i 0) e

  -- the k-th pair of ws is that of main's sink y
  abbrev Pair : List ℕ → ℕ → ℕ → Type 0
  Pair ws k y = (word ws (2 * k) ≡ mark p m main_at (sink_loc p (main_of p) y))
      × (word ws (2 * k + 1) ≡ content p m main_at (sink_loc p (main_of p) y))

  pairs_at : (n x k y : ℕ) → k < n → x + k ≡ y → Pair (pairs_from p n x m) k y
  unfolding pairs_from
  pairs_at zero x k y h e = absurd (omega arith)
  pairs_at (suc n) x zero y h e = let f : y ≡ x = omega arith in rw f (first_word _ _ (pairs_from p n (x + 1) m))
  pairs_at (suc n) x (suc k) y h e =
      let ws = pairs_from p n (x + 1) m in
      let r = pairs_at n (x + 1) k y (omega arith) (omega arith) in (
        later_word _ _ ws (2 * suc k) (2 * k) (omega arith) ∙ r.0,
        later_word _ _ ws (2 * suc k + 1) (2 * k + 1) (omega arith) ∙ r.1,
      )

-- the sink space after a turn that main leaves in state s with every sink noted
pub sinks_written : (p w : List ℕ) (t : Input) (s : State) → 2 * sink_count p (main_of p) ≤ length t.sink_space
    → ((x : ℕ) → x < sink_count p (main_of p) → location main_at (sink_loc p (main_of p) x) ∈ s.notes)
    → Written p w t s (sunk p s.words t.sink_space)
unfolding sunk pairs
sinks_written p w t s room noted =
    let n = sink_count p (main_of p) in
    let sk = t.sink_space in
    let ws = pairs_from p n 0 s.words in
    let long : length ws ≡ 2 * n = pairs_length p s.words n 0 in
    record {
      noted = noted;
      marks = λ x l. patch_inside sk 0 ws (omega arith) (2 * x) (2 * x) (omega arith) (omega arith)
          ∙ (pairs_at p s.words n 0 x x l (omega arith)).0;
      contents = λ x l. patch_inside sk 0 ws (omega arith) (2 * x + 1) (2 * x + 1) (omega arith) (omega arith)
          ∙ (pairs_at p s.words n 0 x x l (omega arith)).1;
      further = λ i l. patch_above sk 0 ws (omega arith) i (omega arith);
      same_length = patch-length sk 0 ws (omega arith);
    }
