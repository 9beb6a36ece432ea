-- The tables, written off the rows, and then the code of the definitions are the program.
use Rattle.std.specs.Prelude.{ℕ, suc, ◌+◌, ◌*◌, ◌≤◌, ◌<◌, ◌≡◌, refl, true, List, [], ◌∷◌, ◌++◌}
use Rattle.std.proofs.Common.{◌∙◌, ap, ap₂}
use Rattle.std.proofs.Common.{append_assoc, arith}
use Rattle.std.specs.Prelude.{length, replicate}
use lib.ListN.{length-append, length-replicate}
use Rattle.image.specs.Memory.{patch}
use Rattle.haai.specs.declared.Size.{Size}
use Rattle.haai.specs.Syntax.{Definition, Text}
use Rattle.haai.specs.Emit.{declared, running, shape_bytes, shapes_of, entries_from, code_of, header_bytes, program_of}
use Rattle.haai.specs.Emit.{within_limits}
use Rattle.haai.specs.Tables.{Sizes}
use Rattle.haai.specs.Writing.{shapes_by, entries_by, tables_of}
use Rattle.haai.proofs.Formed.{nth}
use Rattle.haai.proofs.Forming.{limits}
use Rattle.haai.proofs.Counts.{counted_exact}
use Rattle.haai.proofs.Sizes.{first_size, next_sizes}
use Rattle.haai.proofs.Puts.{length_shapes, length_entries, patch_on}

-- each definition is within the limits
abbrev Within : List Definition → Type 0
Within ds = (i : ℕ) → i < length ds → (declared (nth ds i) ≤ 32) × (running (nth ds i) ≤ 128)

shapes_are : (zs : List Size) (ds : List Definition) → length zs ≡ length ds → Sizes zs ds
    → shapes_by zs ≡ shapes_of ds
unfolding shapes_by shapes_of shape_bytes
shapes_are [] [] e h = refl
shapes_are [] (d ∷ ds) e h = absurd (omega arith)
shapes_are (z ∷ zs) [] e h = absurd (omega arith)
shapes_are (z ∷ zs) (d ∷ ds) e h =
    let r = first_size z zs d ds h in
    ap₂ (λ (x y : ℕ). (x ∷ y ∷ replicate 14 0) ++ shapes_by zs) r.parameters r.sinks
    ∙ ap (λ (l : List ℕ). shape_bytes d ++ l) (shapes_are zs ds (omega arith) (next_sizes z zs d ds h))

entries_are : (j : ℕ) (zs : List Size) (ds : List Definition) → length zs ≡ length ds → Sizes zs ds → Within ds
    → entries_by j zs ≡ entries_from j ds
unfolding entries_by entries_from
entries_are j [] [] e h w = refl
entries_are j [] (d ∷ ds) e h w = absurd (omega arith)
entries_are j (z ∷ zs) [] e h w = absurd (omega arith)
entries_are j (z ∷ zs) (d ∷ ds) e h w =
    let r = first_size z zs d ds h in
    let m = w 0 (omega arith) in
    let few_d = m.0 in
    let few_r = m.1 in
    let a = r.calls ∙ counted_exact (declared d) (omega arith) in
    let b = r.runs ∙ counted_exact (running d) (omega arith) in
    ap₂ (λ (x y : ℕ). j ∷ x ∷ y ∷ 0 ∷ entries_by (j + 1) zs) a b
    ∙ ap (λ (l : List ℕ). j ∷ declared d ∷ running d ∷ 0 ∷ l)
    (entries_are (j + 1) zs ds (omega arith) (next_sizes z zs d ds h) (λ i l. w (suc i) (omega arith)))

module _ (zs : List Size) where
  pub length_tables : (g : ℕ) → length (tables_of zs g) ≡ 8 + g + 20 * length zs
  unfolding tables_of header_bytes
  length_tables g =
      let gs = replicate {A = ℕ} g 0 in
      let a = length-append gs (shapes_by zs ++ entries_by 0 zs) in
      let b = length-append (shapes_by zs) (entries_by 0 zs) in
      let c : length gs ≡ g = length-replicate g 0 in
      let d = length_shapes zs in
      let e = length_entries 0 zs in
      omega arith

  module _ (x : Text) (sizes : Sizes zs x.definitions) (w : within_limits x.definitions ≡ true) (g : ℕ)
      (en : length zs ≡ length x.definitions) (eg : g ≡ x.sources) where
    pub tables_code : tables_of zs g ++ code_of x.definitions ≡ program_of x
    unfolding tables_of program_of
    tables_code =
        let ds = x.definitions in
        let s = shapes_are zs ds en sizes in
        let e = entries_are 0 zs ds en sizes (limits ds w) in
        ap₂ (λ (i j : ℕ). (header_bytes i j ++ (replicate j 0 ++ (shapes_by zs ++ entries_by 0 zs))) ++ code_of ds) en eg
        ∙ ap₂
        (λ (p q : List ℕ). (header_bytes (length ds) x.sources ++ (replicate x.sources 0 ++ (p ++ q))) ++ code_of ds)
        s e
        ∙ simp append_assoc

    -- the tables are put in, and the code after them
    pub program_put : (out mid new : List ℕ) (end : ℕ) → end ≡ 8 + g + 20 * length zs → end ≤ length out
        → mid ≡ patch out 0 (tables_of zs g) → new ≡ patch mid end (code_of x.definitions)
        → new ≡ patch out 0 (program_of x)
    program_put out mid new end e room f h =
        let l = length_tables g in
        h ∙ ap (λ (m : List ℕ). patch m end (code_of x.definitions)) f
        ∙ patch_on out 0 (tables_of zs g) end (code_of x.definitions) (omega arith) (omega arith)
        ∙ ap (patch out 0) tables_code
