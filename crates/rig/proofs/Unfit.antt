-- Lengths of memory that are against a call: it is refused by the check, else by 8, and a preview by 22 too.
-- Assumes nothing.
use Rattle.std.specs.Prelude.{ℕ, ◌/◌, ◌≤◌, ◌≡◌, refl, Bool, true, false, List, [], length}
use Rattle.std.proofs.Common.{sym, ◌∙◌, subst, arith}
use Rattle.value.specs.Test.{◌=?◌, ◌and◌}
use Rattle.value.proofs.Tests.{cases, clash, eq!, eq?, both!, both?, yes, no, stops}
use Rattle.answer.specs.Answer.{Answer}
use Rattle.std.specs.Prelude.{Ok, Err}
use Rattle.answer.specs.declared.Refusal.{Refusal}
use Rattle.answer.specs.declared.Refusal.TheVariants.{MemoryLength, WorkLength}
use Rattle.load.specs.Check.{check_of}
use Rattle.image.specs.Memory.{most_words}
use Rattle.image.specs.Start.{start_of, start_by, words_legal, start_refused}
use Rattle.image.specs.Clauses.{started}
use Rattle.image.proofs.Starts.{words_legal_lem}
use Rattle.remus.specs.Turn.{turn_of, by_check, turn_refused}
use Rattle.remus.specs.Preview.{preview_refused, preview_of}
use Rattle.remus.proofs.Previews.{at_program, at_words, at_work}
use Rattle.machine.specs.Clauses.{turned, previewed}
use Rattle.rig.specs.Words.{words_of}
use Rattle.rig.specs.Laws.{Bytes}
use Rattle.rig.specs.Face.{start_bytes, turn_bytes, preview_bytes}
use Rattle.rig.specs.Clauses.{unfit_of}
use Rattle.rig.proofs.Copying.{words_count}
use Rattle.rig.proofs.Holding.{hold_same}

-- words that are legal have a room
pub has_room : {n : ℕ} → words_legal n ≡ true → n ≤ most_words
has_room {n} e = ((words_legal_lem n).0 e).1

-- why n words are refused
abbrev why : ℕ → Answer → Refusal
why n (Ok size) = MemoryLength n
why n (Err w) = w

unfit_why : (n k : ℕ) → words_legal n ≡ false → (c : Answer) → unfit_of n k c ≡ Err (why n c)
unfolding unfit_of
unfit_why n k l (Ok size) = sym (no _ l refl)
unfit_why n k l (Err w) = refl

module _ (p w rd sk : List ℕ) (l : words_legal (length w) ≡ false) where
  start_refused_lem : (c : Answer) → start_by p w c ≡ start_refused w (why (length w) c)
  unfolding start_by
  start_refused_lem (Ok size) = sym (stops _ l refl)
  start_refused_lem (Err v) = refl

  turn_refused_lem : (c : Answer) → by_check p w rd sk c ≡ turn_refused p w rd sk (why (length w) c)
  unfolding by_check
  turn_refused_lem (Ok size) = sym (stops _ l refl)
  turn_refused_lem (Err v) = refl

module _ (p m : List ℕ) (h : Bytes m) (a : Answer) (l : words_legal (length m / 4) ≡ false)
    (e : a ≡ unfit_of (length m / 4) (length m / 4) (check_of p)) where
  l_words : words_legal (length (words_of m)) ≡ false
  l_words = rw words_count l

  refused_as : a ≡ Err (why (length (words_of m)) (check_of p))
  refused_as = rw words_count (e ∙ unfit_why _ _ l (check_of p))

  pub start_unfit : started a m ≡ start_bytes p m
  unfolding started start_bytes start_of start_refused
  start_unfit =
      rw (refused_as, start_refused_lem p (words_of m) [] [] l_words (check_of p), hold_same m h) refl

  pub turn_unfit : (rd sk : List ℕ) → Bytes sk → turned a m sk ≡ turn_bytes p m rd sk
  unfolding turned turn_bytes turn_of turn_refused
  turn_unfit rd sk k =
      rw (
        refused_as,
        turn_refused_lem p (words_of m) (words_of rd) (words_of sk) l_words (check_of p),
        hold_same m h,
        hold_same sk k,
      ) refl

-- ---- a preview's

-- memory has words that are legal, and work memory as many
abbrev pub fit : List ℕ → List ℕ → Bool
fit m work = (length work / 4 =? length m / 4) and words_legal (length m / 4)

-- a room has as many words as both
pub level : (m work : List ℕ) → fit m work ≡ true
    → (length work / 4 ≤ most_words) × (length m / 4 ≡ length work / 4)
level m work f =
    let b = both? {t = words_legal (length m / 4)} f in
    let e : length m / 4 ≡ length work / 4 = sym (eq? b.0) in
    (omega (arith, has_room b.1), e)

module _ (p m work rd sk : List ℕ) (h : Bytes work) (k : Bytes sk) where
  abbrev Shows : Answer → Type 0
  Shows a = previewed a work sk ≡ preview_bytes p m work rd sk

  refused : (w : Refusal)
      → preview_of p (words_of m) (words_of work) (words_of rd) (words_of sk)
      ≡ preview_refused p (words_of m) (words_of work) (words_of rd) (words_of sk) w
      → Shows (Err w)
  unfolding previewed preview_bytes preview_refused
  refused w e = rw (e, hold_same work h, hold_same sk k) refl

  -- n words of memory and j of work memory
  by_check_lem : (n j : ℕ) → n ≡ length (words_of m) → j ≡ length (words_of work) → ((j =? n) and words_legal n) ≡ false
      → (c : Answer) → check_of p ≡ c → Shows (unfit_of n j c)
  unfolding unfit_of
  by_check_lem n j a b u (Err w) e = refused w (at_program _ _ _ _ _ w e).1
  by_check_lem n j a b u (Ok size) e =
      cases (words_legal n)
      (λ l.
      let d = at_work _ _ _ _ _ size e (rw (← a) l) (λ q. clash (both! (eq! (b ∙ q ∙ sym a)) l) u) in
      subst Shows (yes _ l refl) (rw b (refused (WorkLength (length (words_of work))) d)))
      (λ l.
      let d = (at_words _ _ _ _ _ size e (rw (← a) l)).1 in
      subst Shows (no _ l refl) (rw a (refused (MemoryLength (length (words_of m))) d)))

  pub preview_unfit : fit m work ≡ false
      → (a : Answer) → a ≡ unfit_of (length m / 4) (length work / 4) (check_of p) → Shows a
  preview_unfit u a e =
      rw e (by_check_lem _ _ (sym (words_count m)) (sym (words_count work)) u (check_of p) refl)
