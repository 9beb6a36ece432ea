-- The sizes that are kept are those of the definitions; and what is read off them.
use Rattle.std.specs.Prelude.{ℕ, zero, suc, ◌+◌, ◌*◌, ◌≤◌, ◌<◌, ◌≡◌, refl, Bool, true, false, List, [], ◌∷◌, length}
use Rattle.std.specs.Prelude.{get_or, take, drop}
use Rattle.std.specs.List.{list_all}
use Rattle.std.proofs.Common.{sym, ◌∙◌, ap, ap₂, arith}
use Rattle.std.proofs.lemmas.Bool.{false≢true}
use lib.ListN.{length-append, drop_of_length-le}
use lib.Seq.{drop-cons}
use Rattle.std.proofs.lemmas.List.{get_or-take}
use Rattle.value.specs.Test.{guard, ◌≤?◌, ◌and◌}
use Rattle.value.proofs.Tests.{cases, le?, both?, goes, stops, guards}
use Rattle.program.specs.Encode.{encode_all}
use Rattle.program.proofs.Encode.{length-encode_all}
use Rattle.haai.specs.Syntax.{Definition}
use Rattle.haai.specs.Names.{no_definition}
use Rattle.haai.specs.Emit.{declared, running, commands_of, code_of, within_limits}
use Rattle.haai.specs.Tables.{no_size, size_at, SizeIs, Sizes, size_fits, sizes_fit, size_length, sizes_length}
use Rattle.haai.specs.Writing.{first_at}
use Rattle.haai.specs.declared.Size.{Size}
use Rattle.haai.proofs.Program.{length_commands}
use Rattle.haai.proofs.Counts.{counted_exact, counted_le}

-- ---- the definitions

module _ (z : Size) (zs : List Size) (d : Definition) (ds : List Definition) (h : Sizes (z ∷ zs) (d ∷ ds)) where
  pub first_size : SizeIs z d
  unfolding size_at
  first_size = h 0 (omega arith)

  pub next_sizes : Sizes zs ds
  unfolding size_at
  next_sizes j l = h (suc j) (omega arith)

size_fits_lem : (z : Size) (d : Definition) → SizeIs z d → size_fits z ≡ ((declared d ≤? 32) and (running d ≤? 128))
unfolding size_fits
size_fits_lem z d h =
    ap₂ (λ (x y : ℕ). (x ≤? 32) and (y ≤? 128)) h.calls h.runs
    ∙ ap₂ ◌and◌ (counted_le (declared d) 32 (omega arith)) (counted_le (running d) 128 (omega arith))

pub fits_limits : (zs : List Size) (ds : List Definition) → length zs ≡ length ds → Sizes zs ds
    → sizes_fit zs ≡ within_limits ds
unfolding sizes_fit within_limits
fits_limits [] [] e h = refl
fits_limits [] (d ∷ ds) e h = absurd (omega arith)
fits_limits (z ∷ zs) [] e h = absurd (omega arith)
fits_limits (z ∷ zs) (d ∷ ds) e h =
    ap₂ (λ x y. guard x false (λ _. y)) (size_fits_lem z d (first_size z zs d ds h))
    (fits_limits zs ds (omega arith) (next_sizes z zs d ds h))

pub length_is_code : (zs : List Size) (ds : List Definition) → length zs ≡ length ds → Sizes zs ds
    → within_limits ds ≡ true → sizes_length zs ≡ length (code_of ds)
unfolding sizes_length size_length code_of within_limits
length_is_code [] [] e h w = refl
length_is_code [] (d ∷ ds) e h w = absurd (omega arith)
length_is_code (z ∷ zs) [] e h w = absurd (omega arith)
length_is_code (z ∷ zs) (d ∷ ds) e h w =
    let r = first_size z zs d ds h in
    let limits = (guards (λ (b : Bool). b ≡ true) ((declared d ≤? 32) and (running d ≤? 128)) false _ false≢true).0 w in
    let small = both? limits.0 in
    let few_d : declared d ≤ 32 = le? small.0 in
    let few_r : running d ≤ 128 = le? small.1 in
    let a = r.calls ∙ counted_exact (declared d) (omega arith) in
    let b = r.runs ∙ counted_exact (running d) (omega arith) in
    let c = length_commands d in
    let f = length-encode_all (commands_of d) in
    let g = length-append (encode_all (commands_of d)) (code_of ds) in
    let i = length_is_code zs ds (omega arith) (next_sizes z zs d ds h) limits.1 in
    omega arith

-- ---- what the code reads

pub all_fit : (zs : List Size) → list_all size_fits zs ≡ sizes_fit zs
unfolding sizes_fit
all_fit [] = refl
all_fit (z ∷ zs) =
    cases (size_fits z)
    (λ e. goes _ _ e (rw e (all_fit zs)))
    (λ e. stops _ e (rw e refl))

-- one size more
pub length_next : (zs : List Size) (i : ℕ) → i < length zs
    → sizes_length (drop i zs) ≡ size_length (get_or zs i no_size) + sizes_length (drop (i + 1) zs)
unfolding sizes_length
length_next zs i h = let e : i + 1 ≡ suc i = omega arith in rw (e, drop-cons zs i no_size h)

pub length_done : (zs : List Size) (i : ℕ) → length zs ≤ i → sizes_length (drop i zs) ≡ 0
unfolding sizes_length
length_done zs i h = rw (drop_of_length-le zs {i = i} h)

-- the commands of definition j begin after those of the ones before
take_next : (zs : List Size) (j : ℕ) → j < length zs
    → sizes_length (take (suc j) zs) ≡ sizes_length (take j zs) + size_length (size_at zs j)
unfolding sizes_length size_at
take_next [] j h = absurd (omega arith)
take_next (z ∷ zs) zero h = omega arith
take_next (z ∷ zs) (suc j) h = let e = take_next zs j (omega arith) in omega arith

pub first_is_length : (zs : List Size) (end j : ℕ) → j ≤ length zs → end + sizes_length (take j zs) ≡ first_at zs end j
unfolding first_at sizes_length
first_is_length zs end zero h = omega arith
first_is_length zs end (suc j) h =
    let e = first_is_length zs end j (omega arith) in let f = take_next zs j (omega arith) in omega arith

-- the sizes of the first n are those of the definitions
pub sizes_within : (zs : List Size) (ds : List Definition) (n : ℕ) → n ≡ length ds → Sizes zs ds → Sizes (take n zs) ds
unfolding size_at
sizes_within zs ds n e h j l = let m : j < n = omega arith in rw (get_or-take n zs j no_size m) (h j l)
