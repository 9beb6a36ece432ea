-- Stretches of the output: what stands where, what a write of commands changes, and that an output in which only one
-- stretch has changed is the old one with that stretch put in.
use Rattle.std.specs.Prelude.{ℕ, suc, ◌+◌, ◌-◌, ◌*◌, ◌≤◌, ◌<◌, ◌≡◌, refl, List, [], ◌∷◌, ◌++◌, length}
use Rattle.std.proofs.Common.{sym, ◌∙◌, ap}
use Rattle.std.specs.Prelude.{get_or, ◌⊎◌}
use Rattle.std.proofs.Common.{arith, inl, inr, append_assoc}
use Rattle.value.proofs.Tests.{below, le!, yes}
use Rattle.program.specs.Command.{Cmd}
use Rattle.program.specs.Encode.{encode, encode_all}
use Rattle.program.proofs.Encode.{length-encode}
use Rattle.image.specs.Memory.{word, patch}
use Rattle.image.proofs.Memory.Patch.{patch_below, patch_inside, patch_above, patch-length}
use lib.ListN.{length-append, get_or-append}
use lib.Seq.{get_or-append-add, ext_get_or}
use Rattle.haai.specs.Writing.{put_command, put_commands, row_of}

-- the entries of out from a on are xs
abbrev pub Stands : List ℕ → ℕ → List ℕ → Type 0
Stands out a xs = (i : ℕ) → i < length xs → get_or out (a + i) 0 ≡ get_or xs i 0

pub stands_join : (out : List ℕ) (a b : ℕ) (xs ys : List ℕ) → b ≡ a + length xs → Stands out a xs → Stands out b ys
    → Stands out a (xs ++ ys)
stands_join out a b xs ys e f g i h = by (below i (length xs))
  where
    by : (i < length xs) ⊎ (length xs ≤ i) → get_or out (a + i) 0 ≡ get_or (xs ++ ys) i 0
    by (inl l) = f i l ∙ sym (get_or-append xs ys 0 i l)
    by (inr l) =
        let q = length-append xs ys in
        let z : a + i ≡ b + (i - length xs) = omega arith in
        let y : length xs + (i - length xs) ≡ i = omega arith in
        ap (λ (j : ℕ). get_or out j 0) z ∙ g (i - length xs) (omega arith)
        ∙ sym (get_or-append-add xs ys (i - length xs) 0) ∙ ap (λ (j : ℕ). get_or (xs ++ ys) j 0) y

-- only the entries from lo up to hi may differ
pub record Changes (out new : List ℕ) (lo hi : ℕ) : Type 0 where
  pub long : length new ≡ length out
  pub low : (i : ℕ) → i < lo → get_or new i 0 ≡ get_or out i 0
  pub high : (i : ℕ) → hi ≤ i → get_or new i 0 ≡ get_or out i 0

pub no_change : (out : List ℕ) (lo hi : ℕ) → Changes out out lo hi
no_change out lo hi = record { long = refl; low = λ i h. refl; high = λ i h. refl }

pub changes_on : (x y z : List ℕ) (a b c d lo hi : ℕ) → Changes x y a b → Changes y z c d → lo ≤ a → b ≤ hi → lo ≤ c
    → d ≤ hi → Changes x z lo hi
changes_on x y z a b c d lo hi f g la bh lc dh =
    record {
      long = g.long ∙ f.long;
      low = λ i h. g.low i (omega arith) ∙ f.low i (omega arith);
      high = λ i h. g.high i (omega arith) ∙ f.high i (omega arith);
    }

pub stands_kept : (out new : List ℕ) (lo hi a : ℕ) (xs : List ℕ) → Changes out new lo hi
    → (a + length xs ≤ lo) ⊎ (hi ≤ a) → Stands out a xs → Stands new a xs
stands_kept out new lo hi a xs c (inl l) s i h = c.low (a + i) (omega arith) ∙ s i h
stands_kept out new lo hi a xs c (inr l) s i h = c.high (a + i) (omega arith) ∙ s i h

-- ---- commands

pub encode_join : (cs ds : List Cmd) → encode_all (cs ++ ds) ≡ encode_all cs ++ encode_all ds
unfolding encode_all
encode_join [] ds = refl
encode_join (c ∷ cs) ds =
    ap (λ (x : List ℕ). encode c ++ x) (encode_join cs ds)
    ∙ sym (append_assoc (encode c) (encode_all cs) (encode_all ds))

module _ (out : List ℕ) (a : ℕ) (c : Cmd) (room : a + 8 ≤ length out) where
  put_is : put_command out a c ≡ patch out a (encode c)
  unfolding put_command
  put_is = sym (yes out (le! room) refl)

  put_changes : Changes out (put_command out a c) a (a + 8)
  unfolding word
  put_changes =
      let n = length-encode c in
      let r : a + length (encode c) ≤ length out = omega arith in
      rw put_is
      (record {
        long = patch-length out a (encode c) r;
        low = λ i h. patch_below out a (encode c) (omega arith) i h;
        high = λ i h. patch_above out a (encode c) (omega arith) i (omega arith);
      })

  put_stands : Stands (put_command out a c) a (encode c)
  unfolding word
  put_stands = rw put_is (λ i h. patch_inside out a (encode c) (omega arith) (a + i) i refl h)

-- a written stretch of commands
pub record Written (out new : List ℕ) (a : ℕ) (cs : List Cmd) : Type 0 where
  pub changes : Changes out new a (a + 8 * length cs)
  pub stands : Stands new a (encode_all cs)

pub written : (cs : List Cmd) (out : List ℕ) (a : ℕ) → a + 8 * length cs ≤ length out
    → Written out (put_commands out a cs) a cs
unfolding put_commands encode_all
written [] out a room = record { changes = no_change out a (a + 0); stands = λ i h. absurd (omega arith) }
written (c ∷ cs) out a room =
    let one = put_changes out a c (omega arith) in
    let long = one.long in
    let n = length-encode c in
    let more = written cs (put_command out a c) (a + 8) (omega arith) in
    let all = put_commands (put_command out a c) (a + 8) cs in
    record {
      changes =
          changes_on out (put_command out a c) all a (a + 8) (a + 8) (a + 8 + 8 * length cs) a
          (a + 8 * length (c ∷ cs)) one more.changes (omega arith) (omega arith) (omega arith) (omega arith);
      stands =
          stands_join all a (a + 8) (encode c) (encode_all cs) (omega arith)
          (stands_kept (put_command out a c) all (a + 8) (a + 8 + 8 * length cs) a (encode c) more.changes
          (inl (omega arith)) (put_stands out a c (omega arith)))
          more.stands;
    }

-- ---- one stretch

module _ (out new : List ℕ) (a : ℕ) (xs : List ℕ) (room : a + length xs ≤ length out)
    (c : Changes out new a (a + length xs)) (s : Stands new a xs) where
  same_at : (i : ℕ) → (i < a) ⊎ (a ≤ i) → (i < a + length xs) ⊎ (a + length xs ≤ i)
      → get_or new i 0 ≡ get_or (patch out a xs) i 0
  unfolding word
  same_at i (inl l) m = c.low i l ∙ sym (patch_below out a xs (omega arith) i l)
  same_at i (inr l) (inl m) =
      let z : a + (i - a) ≡ i = omega arith in
      ap (λ (j : ℕ). get_or new j 0) (sym z) ∙ s (i - a) (omega arith)
      ∙ sym (patch_inside out a xs (omega arith) i (i - a) z (omega arith))
  same_at i (inr l) (inr m) = c.high i m ∙ sym (patch_above out a xs (omega arith) i m)

  pub patched : new ≡ patch out a xs
  patched =
      ext_get_or 0 new (patch out a xs) (c.long ∙ sym (patch-length out a xs room))
      (λ i h. same_at i (below i a) (below i (a + length xs)))

-- ---- a row

pub row_is : (ls : List ℕ) (i : ℕ) (xs : List ℕ) → Stands ls i xs → row_of ls i (length xs) ≡ xs
unfolding row_of
row_is ls i [] s = refl
row_is ls i (x ∷ xs) s =
    let z : i + 0 ≡ i = omega arith in
    let rest : Stands ls (i + 1) xs = λ j h. ap (λ (k : ℕ). get_or ls k 0) (omega arith) ∙ s (suc j) (omega arith) in
    cc (ap (λ (k : ℕ). get_or ls k 0) z, s 0 (omega arith), row_is ls (i + 1) xs rest)
