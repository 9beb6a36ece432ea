-- What is in the output after one more word: an expression, an application that is whole, a whole definition.
use Rattle.std.specs.Prelude.{ℕ, ◌+◌, ◌*◌, ◌≤◌, ◌≡◌, refl, List, [], ◌∷◌, ◌++◌, length, set}
use Rattle.std.proofs.Common.{sym, ◌∙◌, ap, arith}
use Rattle.std.proofs.Common.{subst, inl, append-nil}
use lib.ListN.{length-append, length-set}
use Rattle.program.specs.Bytes.{byte}
use Rattle.program.specs.Command.{Cmd}
use Rattle.program.specs.Encode.{encode_all}
use Rattle.program.proofs.Encode.{length-encode_all}
use Rattle.haai.specs.declared.Size.{Size}
use Rattle.haai.specs.Tables.{size_at, size_length}
use Rattle.haai.specs.Syntax.{Expr, Exprs, apply, Definition}
use Rattle.haai.specs.Names.{Opened, Known, no_definition, with_pile, add_expr, add_definition}
use Rattle.haai.specs.Emit.{allocates, declares, location_of, locations_of, applied, runs, runs_all, sinks_from}
use Rattle.haai.specs.Emit.{declared, running, first_r, sequence_d, sequence_r, code_of}
use Rattle.haai.specs.Writing.{put_commands, place_d, place_r, first_at}
use Rattle.haai.specs.declared.Cursor.{Cursor}
use Rattle.haai.proofs.Lists.{snoc_last, length_runs_all, length_sinks, length_locations}
use Rattle.haai.proofs.Grown.{calls_open, steps_open}
use Rattle.haai.proofs.Stands.{Stands, stands_join, changes_on, stands_kept}
use Rattle.haai.proofs.Emitting.{emitted_d, emitted_r, body_with, pile_with, add_expr_is, more_d, more_r, whole_d}
use Rattle.haai.proofs.Emitting.{whole_r, length_d, code_last}
use Rattle.haai.proofs.Noting.{top_count, Noted, few_before, noted_more}
use Rattle.haai.proofs.Apt.{Inside}
use Rattle.haai.proofs.Hindsight.{Exact, Good}
use Rattle.haai.proofs.Laying.{base_of, Laying, Pointed, fits, begins, lays_more, both_change, both_d, both_r}

module _ (count : ℕ) (sizes : List Size) (end : ℕ) (old : List ℕ) (room : first_at sizes end count ≤ length old) (n : ℕ)
    (k : Known) (out ls : List ℕ) (lay : Laying count sizes end old k out ls) (good : Good n count sizes k)
    (i : Inside k) (c : Cursor) (p : Pointed sizes end c k) (deep : length k.pile ≤ 16) where
  abbrev s : ℕ
  s = length k.parameters

  abbrev base : ℕ
  base = base_of sizes k

  abbrev D : ℕ
  D = (size_at sizes (length k.definitions)).declared

  abbrev Next : Known → List ℕ → List ℕ → Type 0
  Next = Laying count sizes end old

  abbrev After : Known → Type 0
  After = Good n count sizes

  -- an expression that is no application, whose value is at x
  pub lays_expression : (f : ℕ) (e : Expr) (dc rc : List Cmd) (entry x : ℕ)
      → After (add_expr k f k.pile e) → declares e ≡ dc
      → runs s base e (calls_open k.body k.pile) (steps_open k.body k.pile) ≡ rc
      → entry ≡ 7 * length k.pile + top_count k.body k.pile
      → x ≡ location_of base (steps_open k.body k.pile) e
      → Next (add_expr k f k.pile e) (put_commands (put_commands out (place_d c) dc) (place_r c) rc) (set ls entry x)
  lays_expression f e dc rc entry x after ed er at value =
      subst (λ (y : Known). Next y new (set ls entry x)) (sym (add_expr_is k f os e))
      (by (subst After (add_expr_is k f os e) after))
    where
      b : Exprs
      b = k.body

      os : List Opened
      os = k.pile

      new : List ℕ
      new = put_commands (put_commands out (place_d c) dc) (place_r c) rc

      by : After (with_pile k f (body_with b os e) (pile_with os e))
          → Next (with_pile k f (body_with b os e) (pile_with os e)) new (set ls entry x)
      by g =
          let few = few_before b os e (unfold with_pile in (g.inside i).few) in
          lays_more count sizes end old room n k out ls lay good i c p f (body_with b os e) (pile_with os e) dc rc
          (set ls entry x) g
          (more_d b os e ∙ ap (λ (y : List Cmd). emitted_d b os ++ y) ed)
          (more_r s base b os e ∙ ap (λ (y : List Cmd). emitted_r s base b os ++ y) er)
          (length-set ls entry x ∙ lay.long)
          (noted_more ls base b os e entry x lay.long deep at few.1 few.0 value (lay.inside i).noted)

  -- the innermost application is whole, and its value is at x
  pub lays_applied : (f : ℕ) (o : Opened) (os : List Opened) (entry x : ℕ) → k.pile ≡ o ∷ os
      → After (add_expr k f os (apply o.operator o.operands))
      → entry ≡ 7 * length os + top_count k.body os
      → x ≡ location_of base (steps_open k.body os) (apply o.operator o.operands)
      → Next (add_expr k f os (apply o.operator o.operands))
      (put_commands (put_commands out (place_d c) (allocates o.operator)) (place_r c)
      (applied (s + calls_open k.body (o ∷ os)) (locations_of base (steps_open k.body os) o.operands)
      o.operator))
      (set ls entry x)
  unfolding with_pile
  lays_applied f o os entry x e after at value =
      subst (λ (y : Known). Next y new (set ls entry x)) (sym (add_expr_is k f os whole))
      (by (subst After (add_expr_is k f os whole) after))
    where
      b : Exprs
      b = k.body

      whole : Expr
      whole = apply o.operator o.operands

      rc : List Cmd
      rc = applied (s + calls_open b (o ∷ os)) (locations_of base (steps_open b os) o.operands) o.operator

      new : List ℕ
      new = put_commands (put_commands out (place_d c) (allocates o.operator)) (place_r c) rc

      by : After (with_pile k f (body_with b os whole) (pile_with os whole))
          → Next (with_pile k f (body_with b os whole) (pile_with os whole)) new (set ls entry x)
      by g =
          let few = few_before b os whole (g.inside i).few in
          let l = ap length e in
          let noted : Noted ls base b (o ∷ os) = rw e at (lay.inside i).noted in
          lays_more count sizes end old room n k out ls lay good i c p f (body_with b os whole) (pile_with os whole)
          (allocates o.operator) rc (set ls entry x) g
          (whole_d b o os ∙ ap (λ (y : List Opened). emitted_d b y ++ allocates o.operator) (sym e))
          (whole_r b o os s base ∙ ap (λ (y : List Opened). emitted_r s base b y ++ rc) (sym e))
          (length-set ls entry x ∙ lay.long)
          (noted_more ls base b os whole entry x lay.long (omega arith) at few.1 few.0 value noted.1)

  -- ---- the definition is whole

  abbrev d : Definition
  d = record { parameters = length k.parameters; body = k.body }

  last_exact : After (add_definition k) → Exact sizes d (length k.definitions)
  unfolding add_definition
  last_exact after =
      let ds = k.definitions in
      let j = length ds in
      let l = length-append ds (d ∷ []) in
      subst (λ (x : Definition). Exact sizes x j) (snoc_last ds d no_definition j j refl refl)
      (after.exact j (omega arith))

  -- the R commands with their first at y
  abbrev RunAt : List ℕ → ℕ → ℕ → Type 0
  RunAt new a y =
      Stands new a (encode_all (runs_all s y k.body 0 0 ++ sinks_from 0 (locations_of y 0 k.body)))

  pub lays_definition : k.pile ≡ [] → After (add_definition k)
      → Next (add_definition k)
      (put_commands out (place_r c) (sinks_from 0 (locations_of base 0 k.body))) ls
  unfolding add_definition put_commands first_at size_length place_d place_r emitted_d emitted_r calls_open steps_open declared running
      first_r sequence_d sequence_r
  lays_definition e after =
      let j = length k.definitions in
      let F = first_at sizes end j in
      let x = last_exact after in
      let a = x.calls in
      let b = x.runs in
      let R = (size_at sizes j).running in
      let amid = lay.inside i in
      let q : base ≡ first_r d = omega arith in
      let ED = sequence_d d in
      let ER = runs_all s base k.body 0 0 in
      let rc = sinks_from 0 (locations_of base 0 k.body) in
      let in_d : Stands out F (encode_all ED) = rw e at amid.D in
      let in_r : Stands out (F + 8 * D) (encode_all ER) = rw e at amid.R in
      let l_d = length_d k.body [] in
      let l_r = length_runs_all s base k.body 0 0 in
      let l_s = length_sinks 0 (locations_of base 0 k.body) in
      let l_l = length_locations base 0 k.body in
      let pc : c.calls ≡ calls_open k.body [] = p.calls ∙ ap (calls_open k.body) e in
      let ps : c.steps ≡ steps_open k.body [] = p.steps ∙ ap (steps_open k.body) e in
      let pf = p.first in
      let pd = p.declared in
      let ft = fits count sizes end old room n k out ls lay good i c p in
      let low = begins count sizes end old room n k out ls lay good i c p in
      let ch = lay.changes.long in
      let at_d : place_d c ≡ F + 8 * length ED = omega arith in
      let at_r : place_r c ≡ F + 8 * (D + length ER) = omega arith in
      let fit_d : length ED + 0 ≤ D = omega arith in
      let fit_r : length ER + length rc ≤ R = omega arith in
      let rm : F + 8 * (D + R) ≤ length out = omega arith in
      let new = put_commands out (place_r c) rc in
      let bc = both_change out F D R ED ER [] rc (place_d c) (place_r c) at_d at_r fit_d fit_r rm in_d in_r in
      let b_d = both_d out F D R ED ER [] rc (place_d c) (place_r c) at_d at_r fit_d fit_r rm in_d in_r in
      let b_r = both_r out F D R ED ER [] rc (place_d c) (place_r c) at_d at_r fit_d fit_r rm in_d in_r in
      let l_e = length-encode_all ED in
      let s_d : Stands new F (encode_all (sequence_d d)) = rw append-nil at b_d in
      let s_r : Stands new (F + 8 * D) (encode_all (sequence_r d)) = subst (RunAt new (F + 8 * D)) q b_r in
      record {
        changes =
            changes_on old out new end (first_at sizes end count) F (F + 8 * (D + R)) end (first_at sizes end count)
            lay.changes bc (omega arith) (omega arith) (omega arith) (omega arith);
        code =
            rw (code_last k.definitions d)
            (stands_join new end F (code_of k.definitions) (encode_all (sequence_d d) ++ encode_all (sequence_r d)) low
            (stands_kept out new F (F + 8 * (D + R)) end (code_of k.definitions) bc (inl (omega arith)) lay.code)
            (stands_join new F (F + 8 * D) (encode_all (sequence_d d)) (encode_all (sequence_r d)) (omega arith) s_d s_r));
        long = lay.long;
        inside = λ z. absurd (let l = length-append k.definitions (d ∷ []) in omega arith);
      }
