-- The call by what is found of a text: the ladder of its answers, and that tables and code are the whole.
use Rattle.std.specs.Prelude.{ℕ, ◌+◌, ◌*◌, ◌≤◌, ◌<◌, ◌≡◌, refl, true, false, List, ◌++◌, length}
use Rattle.std.proofs.Common.{sym, ◌∙◌, ap, arith}
use Rattle.value.proofs.Tests.{goes, stops, eq!, eq×, le!, le×}
use lib.ListN.{length-append, take}
use Rattle.std.proofs.lemmas.List.{length-take-le}
use Rattle.image.specs.Memory.{patch}
use Rattle.image.proofs.Memory.Patch.{patch-length}
use Rattle.std.specs.Prelude.{Ok, Err}
use Rattle.answer.specs.declared.Refusal.TheVariants.{TextForm, TextName, OutputSpace}
use Rattle.haai.specs.declared.Size.{Size}
use Rattle.haai.specs.Grammar.{Formed, items, fault, form_of}
use Rattle.haai.specs.Names.{Known, fault_of, text_of}
use Rattle.haai.specs.Syntax.{Text}
use Rattle.haai.specs.Emit.{code_of, program_of, within_limits}
use Rattle.haai.specs.Compile.{refused, written, by_names, by_form, compile_of}
use Rattle.haai.specs.Clauses.{check_of, compiled, right}
use Rattle.haai.specs.Tables.{items_of, known_by, Sizes, sizes_fit, sizes_length}
use Rattle.haai.specs.Writing.{tables_of, Clean, Writable}
use Rattle.haai.specs.declared.Found.{Found}
use Rattle.std.specs.Prelude.{Err}
use Rattle.haai.proofs.Sizes.{fits_limits, length_is_code, sizes_within}
use Rattle.haai.proofs.Tabling.{length_tables, tables_code, program_put}

-- ---- 16

module _ (t out : List ℕ) where
  form_is_right : (f : Formed) → check_of f ≡ right
      → by_form (length t) out f ≡ by_names (length t) out (known_by (length t) f)
  unfolding check_of by_form known_by items_of
  form_is_right (items is) e = refl
  form_is_right (fault q) e = let z : ◌≡◌ {A = ℕ} 0 1 = cc in absurd (omega arith)

  form_is_wrong : (f : Formed) (q : ℕ) → check_of f ≡ Err q
      → by_form (length t) out f ≡ compiled (Err (TextForm q)) out
  unfolding check_of by_form refused compiled
  form_is_wrong (items is) q e = let z : ◌≡◌ {A = ℕ} 0 1 = cc in absurd (omega arith)
  form_is_wrong (fault p) q e = let z : p ≡ q = cc in ap (λ (x : ℕ). compiled (Err (TextForm x)) out) z

  pub right_goes : check_of (form_of t) ≡ right → by_names (length t) out (known_by (length t) (form_of t)) ≡ compile_of t out
  unfolding compile_of
  right_goes e = sym (form_is_right (form_of t) e)

  pub wrong_stops : (q : ℕ) → check_of (form_of t) ≡ Err q → compiled (Err (TextForm q)) out ≡ compile_of t out
  unfolding compile_of
  wrong_stops q e = sym (form_is_wrong (form_of t) q e)

-- ---- 17

module _ (n : ℕ) (out : List ℕ) (k : Known) where
  pub clean_goes : fault_of k ≡ n → written out (text_of k) ≡ by_names n out k
  unfolding by_names
  clean_goes e = goes _ _ (eq! e) refl

  pub fault_stops : (q : ℕ) → q ≡ fault_of k → (q ≡ n → ⊥) → compiled (Err (TextName q)) out ≡ by_names n out k
  unfolding by_names refused compiled
  fault_stops q e d =
      ap (λ (x : ℕ). refused out (TextName x)) e ∙ stops _ (eq× (λ z. d (e ∙ z))) refl

-- ---- 18

module _ (out : List ℕ) (x : Text) where
  pub limit_stops : within_limits x.definitions ≡ false → compiled (Err (OutputSpace 0)) out ≡ written out x
  unfolding written refused compiled
  limit_stops e = stops _ e refl

  module _ (limits : within_limits x.definitions ≡ true) (n : ℕ) (whole : n ≡ length (program_of x)) where
    pub space_stops : length out < n → compiled (Err (OutputSpace n)) out ≡ written out x
    unfolding written refused compiled
    space_stops l =
        let short : length out < length (program_of x) = omega arith in
        ap (λ (k : ℕ). refused out (OutputSpace k)) whole ∙ goes _ _ limits (stops _ (le× short) refl)

    pub written_whole : n ≤ length out → (new : List ℕ) → new ≡ patch out 0 (program_of x)
        → compiled (Ok n) new ≡ written out x
    unfolding written compiled
    written_whole l new e =
        let room : length (program_of x) ≤ length out = omega arith in
        ap (λ (k : ℕ). compiled (Ok k) new) whole
        ∙ ap (λ (o : List ℕ). compiled (Ok (length (program_of x))) o) e
        ∙ goes _ _ limits (goes _ _ (le! room) refl)

-- ---- a text without fault, by what is found of it: the sizes of its definitions are zs

module _ (t : List ℕ) (f : Found) (tb : List Size) (h : Clean t f tb) where
  abbrev k : Known
  k = known_by (length t) (form_of t)

  abbrev x : Text
  x = text_of k

  abbrev pub zs : List Size
  zs = take f.definitions tb

  pub long : length zs ≡ f.definitions
  long = let a = h.found.few in let b = h.found.long in length-take-le f.definitions tb (omega arith)

  same : length zs ≡ length k.definitions
  same = long ∙ h.found.definitions

  sizes : Sizes zs k.definitions
  sizes = sizes_within tb k.definitions f.definitions h.found.definitions h.found.sizes

  pub limits_found : sizes_fit zs ≡ within_limits k.definitions
  limits_found = fits_limits zs k.definitions same sizes

  module _ (limits : within_limits k.definitions ≡ true) where
    code_found : sizes_length zs ≡ length (code_of k.definitions)
    code_found = length_is_code zs k.definitions same sizes limits

    pub whole_found : (n : ℕ) → n ≡ 8 + f.sources + 20 * f.definitions + sizes_length zs → n ≡ length (program_of x)
    unfolding text_of
    whole_found n e =
        let tables = tables_of zs f.sources in
        let a = code_found in
        let b = length_tables zs f.sources in
        let c = length-append tables (code_of k.definitions) in
        let d = tables_code zs x sizes limits f.sources same h.found.sources in
        let l = long in
        let z : n ≡ length (tables ++ code_of k.definitions) = omega arith in
        z ∙ ap length d

    module _ (out : List ℕ) (room : length (program_of x) ≤ length out) (end : ℕ)
        (e : end ≡ 8 + f.sources + 20 * f.definitions) where
      code_fits : end + length (code_of k.definitions) ≤ length out
      code_fits =
          let a = code_found in
          let b = whole_found (end + sizes_length zs) (omega arith) in
          omega arith

      pub tables_fit : (length zs ≤ 32) × ((f.sources ≤ 31) × (8 + f.sources + 20 * length zs ≤ length out))
      tables_fit =
          let a = code_fits in
          let l = long in
          let n = h.found.few in
          (omega arith, (h.found.few_sources, omega arith))

      module _ (mid : List ℕ) (m : mid ≡ patch out 0 (tables_of zs f.sources)) where
        pub writable : Writable t tb end mid
        writable =
            let a = length_tables zs f.sources in
            let b = code_fits in
            let l = long in
            let c = patch-length out 0 (tables_of zs f.sources) (omega arith) in
            let d = ap length m in
            let g = h.found.few_sources in
            let n = h.found.few in
            record {
              right = h.right;
              clean = sym h.found.fault ∙ h.clean;
              sizes = h.found.sizes;
              long = h.found.long;
              limits = limits;
              early = omega arith;
              room = omega arith;
            }

        pub put_found : (new : List ℕ) → new ≡ patch mid end (code_of k.definitions)
            → new ≡ patch out 0 (program_of x)
        unfolding text_of
        put_found new w =
            let a = code_fits in
            let l = long in
            program_put zs x sizes limits f.sources same h.found.sources out mid new end (omega arith) (omega arith) m w
