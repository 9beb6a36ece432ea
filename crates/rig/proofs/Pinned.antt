-- The laws of specs/Laws.antt.
-- Assumes nothing.
use Rattle.std.specs.Prelude.{ℕ, suc, ◌+◌, ◌-◌, ◌*◌, ◌/◌, ◌%◌, ◌<◌, min, ◌≡◌, refl, List, [], ◌∷◌, ◌++◌}
use Rattle.std.proofs.Common.{sym, ◌∙◌, ap}
use Rattle.std.specs.Prelude.{length, get_or, drop}
use Rattle.std.proofs.Common.{arith}
use lib.ListN.{length-append, length-drop}
use lib.Seq.{get_or-append-add, get_or-drop}
use Rattle.value.specs.Test.{pick, ◌<?◌}
use Rattle.value.proofs.Tests.{cases, yes, no, lt?, lt×?}
use Rattle.rig.specs.Words.{word, words_of, bytes_of, holding, packed, most_place}
use Rattle.image.proofs.Memory.Starting.{start_keeps}
use Rattle.remus.proofs.RefusedLeaves.{refused_keeps}
use Rattle.remus.proofs.Previews.{preview_refused_leaves}
use Rattle.rig.specs.Face.{start_bytes, turn_bytes, preview_bytes}
use Rattle.rig.specs.Laws.{HeldWords, HeldRest, HeldSame, Unpacked, StartKeepsBytes, RefusedKeepsBytes}
use Rattle.rig.specs.Laws.{PreviewKeepsBytes}
use Rattle.rig.proofs.Copying.{words_length, bytes_length}
use Rattle.rig.proofs.Holding.{hold_more, hold_same}

pub held_same : HeldSame
held_same = hold_same

-- the word that its own four bytes make
joined : (x a b c : ℕ) → x < 4294967296 → a ≡ x / 256 → b ≡ a / 256 → c ≡ b / 256
    → word (x % 256) (a % 256) (b % 256) (c % 256) ≡ x
joined x a b c h e f g = omega arith

again : (x : ℕ) → x < 4294967296 → word (x % 256) (x / 256 % 256) (x / 65536 % 256) (x / 16777216 % 256) ≡ x
again x h = joined x (x / 256) (x / 65536) (x / 16777216) h refl (omega arith) (omega arith)

pub held_words : HeldWords
unfolding words_of bytes_of holding
held_words s [] h l = refl
held_words [] (x ∷ xs) h l = absurd (omega arith)
held_words (a ∷ []) (x ∷ xs) h l = absurd (omega arith)
held_words (a ∷ b ∷ []) (x ∷ xs) h l = absurd (omega arith)
held_words (a ∷ b ∷ c ∷ []) (x ∷ xs) h l = absurd (omega arith)
held_words (a ∷ b ∷ c ∷ d ∷ s) (x ∷ xs) h l =
    ap words_of (hold_more x xs a b c d s)
    ∙ rw (again x (h 0)) (ap (λ (t : List ℕ). x ∷ t) (held_words s xs (λ i. h (suc i)) (omega arith)))

pub held_rest : HeldRest
unfolding holding
held_rest s ws l =
    let n = words_length s in
    let b = bytes_length ws in (
      simp (length-append, length-drop) (omega (arith, n.0, b)),
      λ i g.
          let e : i ≡ length (bytes_of ws) + (i - 4 * length ws) = omega (arith, b) in
          let f : i ≡ 4 * length ws + (i - 4 * length ws) = omega arith in
          ap (λ (j : ℕ). get_or (bytes_of ws ++ drop (4 * length ws) s) j 0) e
          ∙ get_or-append-add (bytes_of ws) (drop (4 * length ws) s) (i - 4 * length ws) 0
          ∙ get_or-drop (4 * length ws) s (i - 4 * length ws) 0 ∙ ap (λ (j : ℕ). get_or s j 0) (sym f),
    )

pub cut : (place : ℕ) → min place most_place ≡ pick (place <? most_place) place most_place
cut place =
    cases (place <? most_place)
    (λ e. yes _ e (let h = lt? e in omega (arith, h)))
    (λ e. no _ e (let h = lt×? e in omega (arith, h)))

pub unpacked : Unpacked
unfolding packed
unpacked number place =
    let c = cut place in
    let q = pick (place <? most_place) place most_place in
    (omega (arith, c), omega (arith, c))

pub start_keeps_bytes : StartKeepsBytes
unfolding start_bytes
start_keeps_bytes p m h n = ap (holding m) (start_keeps p (words_of m) n) ∙ hold_same m h

pub refused_keeps_bytes : RefusedKeepsBytes
unfolding turn_bytes
refused_keeps_bytes p m rd sk h k n =
    let kept = refused_keeps p (words_of m) (words_of rd) (words_of sk) n in
    (ap (holding m) kept.0 ∙ hold_same m h, ap (holding sk) kept.1 ∙ hold_same sk k)

pub preview_keeps_bytes : PreviewKeepsBytes
unfolding preview_bytes
preview_keeps_bytes p m work rd sk h k n =
    let left = preview_refused_leaves p (words_of m) (words_of work) (words_of rd) (words_of sk) n in (
      ap (holding sk) left.0 ∙ hold_same sk k,
      λ e. ap (holding work) (left.1 e),
      λ a b. ap (holding work) (left.2 a b) ∙ hold_same work h,
    )
