-- Commands as bytes: how long they are, where each stands among others, and `reads_back`.
use Rattle.std.specs.Prelude.{ℕ, zero, suc, ◌+◌, ◌*◌, ◌/◌, ◌%◌, ◌<◌, ◌≡◌, refl, List, [], ◌∷◌, ◌++◌}
use Rattle.std.proofs.Common.{sym, ◌∙◌, ap}
use Rattle.std.specs.Prelude.{length, get_or}
use Rattle.std.proofs.Common.{arith}
use Rattle.value.specs.Test.{pick, ◌=?◌}
use lib.ListN.{length-append, get_or-append}
use lib.Seq.{get_or-append-add}
use native.Mathlib.Nat.{div-div-eq-div-mul}
use Rattle.program.specs.Bytes.{byte}
use Rattle.program.specs.Command.{Give, Cmd, bytes_at, decode, alloc_mono, make_poly, cell, gives, supply, react, sink}
use Rattle.program.specs.Command.{alloc_poly, keep, none, constant, global, consume, primitive, fetch}
use Rattle.program.specs.Encode.{eight, encode_give, encode, encode_all, SmallGive, ReadsBack}

-- ---- bytes of lists in a row

pub byte_left : (xs ys : List ℕ) (i : ℕ) → i < length xs → byte (xs ++ ys) i ≡ byte xs i
unfolding byte
byte_left xs ys i h = get_or-append xs ys 0 i h

pub byte_right : (xs ys : List ℕ) (n i j : ℕ) → length xs ≡ n → j ≡ n + i → byte (xs ++ ys) j ≡ byte ys i
unfolding byte
byte_right xs ys n i j e f =
    let z : j ≡ length xs + i = omega arith in ap (λ (k : ℕ). get_or (xs ++ ys) k 0) z ∙ get_or-append-add xs ys i 0

-- ---- where a command's bytes are

length_give : (g : Give) → length (encode_give g) ≡ 8
unfolding encode_give eight
length_give (constant x v) = refl
length_give (global x) = refl
length_give (consume x b) = refl
length_give (primitive x a b c) = refl
length_give (fetch b) = refl

pub length-encode : (c : Cmd) → length (encode c) ≡ 8
unfolding encode eight
length-encode (alloc_mono x) = refl
length-encode (make_poly x) = refl
length-encode (cell x v) = refl
length-encode (gives g) = length_give g
length-encode (supply x a b) = refl
length-encode (react b) = refl
length-encode (sink x a) = refl
length-encode (alloc_poly a b) = refl
length-encode (keep a b) = refl
length-encode none = refl

pub length-encode_all : (cs : List Cmd) → length (encode_all cs) ≡ 8 * length cs
unfolding encode_all
length-encode_all [] = refl
length-encode_all (c ∷ cs) =
    let a = length-append (encode c) (encode_all cs) in
    let b = length-encode c in
    let d = length-encode_all cs in
    omega arith

pub command_inside : (k : ℕ) → k < 8 → (cs : List Cmd) (n i : ℕ) → n < length cs → i ≡ 8 * n + k →
    byte (encode_all cs) i ≡ byte (encode (get_or cs n none)) k
unfolding encode_all
command_inside k l [] n i h e = absurd (omega arith)
command_inside k l (c ∷ cs) zero i h e =
    let z : i ≡ k = omega arith in
    let q = length-encode c in
    byte_left (encode c) (encode_all cs) i (omega arith) ∙ ap (λ (j : ℕ). byte (encode c) j) z
command_inside k l (c ∷ cs) (suc n) i h e =
    byte_right (encode c) (encode_all cs) 8 (8 * n + k) i (length-encode c) (omega arith)
    ∙ command_inside k l cs n (8 * n + k) (omega arith) refl

-- ---- what is read back

split : (n : ℕ) → n ≡ n % 256 + 256 * (n / 256)
split n = omega arith

quarters : (v a b c : ℕ) → a ≡ v / 256 → b ≡ a / 256 → c ≡ b / 256 → c < 256 →
    v % 256 + 256 * (a % 256) + 65536 * (b % 256) + 16777216 * (c % 256) ≡ v
quarters v a b c ea eb ec h =
    let e₁ = split v in
    let e₂ = split a in
    let e₃ = split b in
    let e₄ : c % 256 ≡ c = omega arith in
    omega (arith, e₁, e₂, e₃, e₄)

four : (v : ℕ) → v < 4294967296 →
    v % 256 + 256 * (v / 256 % 256) + 65536 * (v / 65536 % 256) + 16777216 * (v / 16777216 % 256) ≡ v
four v h =
    quarters v (v / 256) (v / 65536) (v / 16777216) refl (sym (div-div-eq-div-mul v 256 256))
    (sym (div-div-eq-div-mul v 65536 256)) (omega arith)

give_back_lem : (g : Give) → SmallGive g → decode (bytes_at (encode_give g) 0) ≡ gives g
unfolding decode bytes_at byte encode_give eight pick ◌=?◌
give_back_lem (constant x v) h = ap (λ (n : ℕ). gives (constant x n)) (four v h)
give_back_lem (global x) h = refl
give_back_lem (consume x b) h = refl
give_back_lem (primitive x a b c) h = ap (λ (n : ℕ). gives (primitive x a b n)) (let z : c % 256 ≡ c = omega arith in z)
give_back_lem (fetch b) h = refl

pub reads_back : ReadsBack
unfolding decode bytes_at byte encode eight pick ◌=?◌
reads_back (alloc_mono x) h = refl
reads_back (make_poly x) h = refl
reads_back (cell x v) h = ap (λ (n : ℕ). cell x n) (four v h)
reads_back (gives g) h = give_back_lem g h
reads_back (supply x a b) h = refl
reads_back (react b) h = refl
reads_back (sink x a) h = refl
reads_back (alloc_poly a b) h = refl
reads_back (keep a b) h = refl
reads_back none h = refl
