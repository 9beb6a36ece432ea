-- Where the bytes of a tree's program stand: the tables and the commands, read back.
use Rattle.std.specs.Prelude.{ℕ, zero, suc, ◌+◌, ◌*◌, ◌<◌, ◌≡◌, refl, List, [], ◌∷◌, length}
use Rattle.std.proofs.Common.{◌∙◌, ap, arith}
use lib.ListN.{length-append}
use Rattle.program.specs.Bytes.{byte}
use Rattle.program.specs.Command.{Cmd, bytes_at}
use Rattle.program.specs.Encode.{encode, encode_all}
use Rattle.program.specs.declared.Command.{Command}
use Rattle.program.proofs.Encode.{byte_left, byte_right, length-encode_all}
use Rattle.haai.specs.Syntax.{Definition}
use Rattle.haai.specs.Emit.{declared, running, commands_of, shape_bytes, shapes_of, entries_from, code_of}
use Rattle.haai.proofs.Formed.{nth}

length_shape : (f : Definition) → length (shape_bytes f) ≡ 16
unfolding shape_bytes
length_shape f = refl

pub length_shapes : (fs : List Definition) → length (shapes_of fs) ≡ 16 * length fs
unfolding shapes_of
length_shapes [] = refl
length_shapes (f ∷ fs) =
    let a = length-append (shape_bytes f) (shapes_of fs) in
    let b = length_shape f in
    let c = length_shapes fs in
    omega arith

pub length_entries : (j : ℕ) (fs : List Definition) → length (entries_from j fs) ≡ 4 * length fs
unfolding entries_from
length_entries j [] = refl
length_entries j (f ∷ fs) = let c = length_entries (j + 1) fs in omega arith

pub shape_inside : (k : ℕ) → k < 16 → (fs : List Definition) (s i : ℕ) → s < length fs → i ≡ 16 * s + k
    → byte (shapes_of fs) i ≡ byte (shape_bytes (nth fs s)) k
unfolding shapes_of
shape_inside k l [] s i h e = absurd (omega arith)
shape_inside k l (f ∷ fs) zero i h e =
    let z : i ≡ k = omega arith in
    let q = length_shape f in
    byte_left (shape_bytes f) (shapes_of fs) i (omega arith) ∙ ap (λ (j : ℕ). byte (shape_bytes f) j) z
shape_inside k l (f ∷ fs) (suc s) i h e =
    byte_right (shape_bytes f) (shapes_of fs) 16 (16 * s + k) i (length_shape f) (omega arith)
    ∙ shape_inside k l fs s (16 * s + k) (omega arith) refl

abbrev pub entry_bytes : ℕ → Definition → List ℕ
entry_bytes j f = j ∷ declared f ∷ running f ∷ 0 ∷ []

pub entry_inside : (k : ℕ) → k < 4 → (j : ℕ) (fs : List Definition) (r i : ℕ) → r < length fs → i ≡ 4 * r + k
    → byte (entries_from j fs) i ≡ byte (entry_bytes (j + r) (nth fs r)) k
unfolding entries_from
entry_inside k l j [] r i h e = absurd (omega arith)
entry_inside k l j (f ∷ fs) zero i h e =
    let z : i ≡ k = omega arith in
    let y : j ≡ j + 0 = omega arith in
    byte_left (entry_bytes j f) (entries_from (j + 1) fs) i (omega arith) ∙ ap (λ (x : ℕ). byte (entry_bytes j f) x) z
    ∙ ap (λ (x : ℕ). byte (entry_bytes x f) k) y
entry_inside k l j (f ∷ fs) (suc r) i h e =
    let y : j + 1 + r ≡ j + suc r = omega arith in
    byte_right (entry_bytes j f) (entries_from (j + 1) fs) 4 (4 * r + k) i refl (omega arith)
    ∙ entry_inside k l (j + 1) fs r (4 * r + k) (omega arith) refl
    ∙ ap (λ (x : ℕ). byte (entry_bytes x (nth fs r)) k) y

-- how many bytes of commands come before definition r's
abbrev pub before : List Definition → ℕ → ℕ
before [] r = 0
before (f ∷ fs) zero = 0
before (f ∷ fs) (suc r) = 8 * length (commands_of f) + before fs r

pub before_first : (fs : List Definition) → before fs 0 ≡ 0
before_first [] = refl
before_first (f ∷ fs) = refl

pub before_next : (fs : List Definition) (r : ℕ) → r < length fs
    → before fs (suc r) ≡ before fs r + 8 * length (commands_of (nth fs r))
before_next [] r h = absurd (omega arith)
before_next (f ∷ []) zero h = omega arith
before_next (f ∷ (g ∷ fs)) zero h = omega arith
before_next (f ∷ fs) (suc r) h = let q = before_next fs r (omega arith) in omega arith

pub code_inside : (fs : List Definition) (r j i : ℕ) → r < length fs → j < 8 * length (commands_of (nth fs r))
    → i ≡ before fs r + j → byte (code_of fs) i ≡ byte (encode_all (commands_of (nth fs r))) j
unfolding code_of
code_inside [] r j i h l e = absurd (omega arith)
code_inside (f ∷ fs) zero j i h l e =
    let z : i ≡ j = omega arith in
    let q = length-encode_all (commands_of f) in
    byte_left (encode_all (commands_of f)) (code_of fs) i (omega arith)
    ∙ ap (λ (k : ℕ). byte (encode_all (commands_of f)) k) z
code_inside (f ∷ fs) (suc r) j i h l e =
    byte_right (encode_all (commands_of f)) (code_of fs) (8 * length (commands_of f)) (before fs r + j) i
    (length-encode_all (commands_of f)) (omega arith)
    ∙ code_inside fs r j (before fs r + j) (omega arith) l refl

pub length_code : (fs : List Definition) → length (code_of fs) ≡ before fs (length fs)
unfolding code_of
length_code [] = refl
length_code (f ∷ fs) =
    let a = length-append (encode_all (commands_of f)) (code_of fs) in
    let b = length-encode_all (commands_of f) in
    let c = length_code fs in
    omega arith

-- a command's eight bytes, as a record
abbrev pub as_command : Cmd → Command
as_command c = bytes_at (encode c) 0
