-- Start's answers, case by case, and main placed in zeroed memory.
-- Assumes nothing.
use Rattle.std.specs.Prelude.{ℕ, ◌+◌, ◌-◌, ◌≤◌, ◌<◌, ◌≡◌, refl, true, false, List, length, replicate}
use Rattle.std.proofs.Common.{sym, ap, arith}
use lib.ListN.{length-replicate}
use lib.Seq.{get_or-set_same}
use Rattle.value.proofs.Tests.{yes, goes, stops, le!, le×, Says, says_le, says_and}
use Rattle.program.specs.Bytes.{main_of}
use Rattle.program.specs.Location.{size_of}
use Rattle.load.specs.Fault.{Between}
use Rattle.std.specs.Prelude.{Ok, Err}
use Rattle.answer.specs.declared.Refusal.{Refusal}
use Rattle.answer.specs.declared.Refusal.TheVariants.{MemoryLength, NoRoom}
use Rattle.image.specs.Memory.{fewest_words, most_words, main_at, word, used, with_used, deploy}
use Rattle.image.specs.Start.{words_legal, started_of, start_by, start_refused}
use Rattle.image.specs.Clauses.{deploy_fits, started}

pub words_legal_lem : (n : ℕ) → Says (words_legal n) (Between fewest_words most_words n)
unfolding words_legal
words_legal_lem n = says_and says_le says_le

pub legal_least : (n : ℕ) → words_legal n ≡ true → fewest_words ≤ n
legal_least n e = ((words_legal_lem n).0 e).0

used_main : (n : ℕ) → 2 ≤ n → used (with_used (replicate n 0) main_at) ≡ 2
unfolding used word with_used
used_main n h = get_or-set_same (replicate n 0) 0 2 0 (rw (length-replicate {A = ℕ} n 0) (omega arith))

pub main_placed : (p m₁ m₂ : List ℕ) (n r : ℕ) → 2 ≤ n → size_of p r < 131074 → m₁ ≡ replicate n 0
    → m₂ ≡ with_used m₁ main_at → r ≡ main_of p → deploy_fits p m₂ r 0 ≡ started_of p n
unfolding deploy_fits started_of
main_placed p m₁ m₂ n r h z a b e =
    let u = used_main n h in
    rw (b, a) (sym (yes _ (le! (omega arith)) (ap (λ (r : ℕ). deploy p (with_used (replicate n 0) main_at) r 0) (sym e))))

module _ (p m : List ℕ) where
  pub start_refused_lem : (w : Refusal) → started (Err w) m ≡ start_by p m (Err w)
  unfolding started start_by start_refused
  start_refused_lem w = refl

  module _ (size : ℕ) where
    pub start_length : words_legal (length m) ≡ false
        → started (Err (MemoryLength (length m))) m ≡ start_by p m (Ok size)
    unfolding started start_by start_refused
    start_length e = stops _ e refl

    module _ (legal : words_legal (length m) ≡ true) where
      pub start_full : (r : ℕ) → length m - main_at < size → r ≡ main_of p
          → started (Err (NoRoom r)) m ≡ start_by p m (Ok size)
      unfolding started start_by start_refused
      start_full r h e = goes _ _ legal (stops _ (le× h) (rw e))

      pub start_ready : (m₁ : List ℕ) → size ≤ length m - main_at → m₁ ≡ started_of p (length m)
          → started (Ok (main_at + size)) m₁ ≡ start_by p m (Ok size)
      unfolding started start_by
      start_ready m₁ h e = goes _ _ legal (goes _ _ (le! h) (rw e))
