-- The pass that writes the commands: at each word the output is right for what is known there, if the text turns out
-- well; so at the end it is the old one with the code of all definitions put in.
use Rattle.std.specs.Prelude.{ℕ, ◌+◌, ◌≤◌, ◌<◌, ◌≡◌, refl, List, length}
use Rattle.std.proofs.Common.{sym, ◌∙◌, ap, subst, arith}
use Rattle.value.specs.Test.{◌=?◌}
use Rattle.value.proofs.Tests.{both?, le?}
use Rattle.image.specs.Memory.{patch}
use Rattle.haai.specs.Places.{Roomy}
use Rattle.haai.specs.declared.Size.{Size}
use Rattle.haai.specs.declared.Knowing.{Knowing}
use Rattle.haai.specs.Grammar.{takes}
use Rattle.haai.specs.Word.{word_start, word_end, bytes_of, class_of}
use Rattle.haai.specs.Grammar.{begin, step_of, whole, form_of}
use Rattle.haai.specs.Clauses.{check_of, right as right_form}
use Rattle.haai.specs.Names.{Known, nothing, fault_of, learn}
use Rattle.haai.specs.Emit.{code_of, declared, running}
use Rattle.haai.specs.Places.{word_of}
use Rattle.haai.specs.Tables.{first_tally, first_tree, learnt, known_by}
use Rattle.haai.specs.Writing.{first_at, cursor_of, Added, added, adds, Writable}
use Rattle.haai.specs.declared.Cursor.{Cursor}
use Rattle.haai.specs.declared.Reading.{Reading}
use Rattle.haai.specs.declared.Role.{Role}
use Rattle.haai.proofs.Formed.{nth}
use Rattle.haai.proofs.Fitting.{Sane, learn_sane, nothing_sane, unless_clean}
use Rattle.haai.proofs.Counting.{Counted, Phased, StepGood, step_good}
use Rattle.haai.proofs.Paired.{Paired}
use Rattle.haai.proofs.Forming.{class_ok, top_any, limits}
use Rattle.haai.proofs.Counts.{counted_exact}
use Rattle.haai.proofs.Gathering.{Gathering, gather_begins, begins_known, gather_last, gather_ready}
use Rattle.haai.proofs.Gathering.{gather_taken, taken_known}
use Rattle.haai.proofs.Stands.{Changes, no_change, patched}
use Rattle.haai.proofs.Apt.{AptStep, step_apt}
use Rattle.haai.proofs.Hindsight.{Exact, Good, good_before}
use Rattle.haai.proofs.Laying.{Laying, first_is}
use Rattle.haai.proofs.Wording.{word_lays}
use Rattle.haai.proofs.Lengths.{adds_long}

module _ (t : List ℕ) (sizes : List Size) (end : ℕ) (old : List ℕ) where
  abbrev all : Known
  all = known_by (length t) (form_of t)

  abbrev count : ℕ
  count = length all.definitions

  abbrev Lays : Known → List ℕ → List ℕ → Type 0
  Lays k out ls = Good (length t) count sizes k → Laying count sizes end old k out ls

  -- the pass is at the word that begins at a, with the form read up to there
  pub record Passing (s : Reading) (a : ℕ) (x : Knowing) (ls out : List ℕ) : Type 0 where
    pub gathering : Gathering t s a x
    pub sane : Sane (length t) gathering.known
    pub long_out : length out ≡ length old
    pub long_ls : length ls ≡ 119
    pub laying : Lays gathering.known out ls

  begins : (ls : List ℕ) → length ls ≡ 119 → Lays (nothing (length t)) old ls
  unfolding nothing code_of
  begins ls l g =
      record {
        changes = no_change old end (first_at sizes end count);
        code = λ i h. absurd (omega arith);
        long = l;
        inside = λ i. absurd (omega arith);
      }

  pub pass_begins : (s : Reading) (a : ℕ) (x : Knowing) (ls : List ℕ) → s ≡ begin → a ≡ word_start t 0
      → check_of (form_of t) ≡ right_form → x.tally ≡ first_tally (length t) → x.tree ≡ first_tree
      → Roomy x.places → length x.sizes ≡ 32 → length x.pile ≡ 16 → length ls ≡ 119
      → Passing s a x ls old
  pass_begins s a x ls e f r v u ps tb pl l =
      let k = sym (begins_known t s a x e f r v u ps tb pl) in
      record {
        gathering = gather_begins t s a x e f r v u ps tb pl;
        sane = subst (Sane (length t)) k (nothing_sane (length t));
        long_out = refl;
        long_ls = l;
        laying = subst (λ (y : Known). Lays y old ls) k (begins ls l);
      }

  module _ (able : Writable t sizes end old) where
    exact : (j : ℕ) → j < count → Exact sizes (nth all.definitions j) j
    exact j l =
        let r = able.sizes j l in
        let m = limits all.definitions able.limits j l in
        let few_d = m.0 in
        let few_r = m.1 in
        record {
          calls = r.calls ∙ counted_exact (declared (nth all.definitions j)) (omega arith);
          runs = r.runs ∙ counted_exact (running (nth all.definitions j)) (omega arith);
          few_d = few_d;
          few_r = few_r;
        }

    last : first_at sizes end count ≡ end + length (code_of all.definitions)
    last = first_is sizes end all.definitions exact

    module _ (s : Reading) (a : ℕ) (x : Knowing) (ls out : List ℕ) (h : Passing s a x ls out) where
      pub pass_few : x.tree.definitions ≤ 32
      pass_few = let d = h.gathering.grown.definitions in let f = h.gathering.counted.few in omega arith

      abbrev cursor : Cursor
      cursor = cursor_of sizes (first_at sizes end x.tree.definitions) x.tally x.tree

      module _ (l : a < length t) where
        module _ (r : Role) (s₂ : Reading) (step : step_of s (class_of (word_of t a)) ≡ takes r s₂) where
          abbrev k : Known
          k = h.gathering.known

          abbrev after : Known
          after = learn k a (word_of t a) r

          sane_after : Sane (length t) after
          unfolding step_of
          sane_after =
              let c = h.gathering.counted in
              let good =
              step_good (length t) s k a (word_of t a) l c.few_sources c.same c.few c.done s.phase
              c.phased (class_of (word_of t a)) (class_ok (length t) (word_of t a))
              in
              learn_sane (length t) k a (word_of t a) r l (subst (StepGood (length t) k a (word_of t a)) step good).0
              h.sane

          abbrev more : Added
          more =
              adds t (word_of t a) x cursor ls out r

          lays_after : Lays after more.output more.locations
          unfolding word_of
          lays_after g =
              let c = h.gathering.counted in
              let n = length t in
              let ready = gather_ready t s a x h.gathering l r s₂ step in
              let apt =
              subst (AptStep k) step (step_apt n s k c h.gathering.paired (class_of (word_of t a)))
              in
              let before =
              good_before n count sizes k a (word_of t a) r l h.sane (λ j m. (c.done j m).0) apt ready g
              in
              let fits = able.room in
              let q = last in
              word_lays count sizes end old (omega arith) n t k x
              (first_at sizes end x.tree.definitions) out ls h.gathering.named h.gathering.grown refl
              (h.laying before) before a (word_of t a) r c.few_sources c.few apt ready g
              (sane_after.clean g.clean)

          pass_next : (b : ℕ) → b ≡ word_start t (word_end t a)
              → Passing s₂ b (learnt t a (word_of t a) x r) more.locations more.output
          unfolding word_of
          pass_next b e =
              let known = sym (taken_known t s a x h.gathering l b r s₂ e step) in
              let long =
              adds_long (length old) cursor ls out h.long_out h.long_ls t (word_of t a) x r
              in
              record {
                gathering = gather_taken t s a x h.gathering l b r s₂ e step;
                sane = subst (Sane (length t)) known sane_after;
                long_out = long.0;
                long_ls = long.1;
                laying = subst (λ (y : Known). Lays y more.output more.locations) known lays_after;
              }

        -- the word ends before e, as the code has it
        pub pass_goes : (e : ℕ) → e ≡ word_end t a → (b : ℕ) (r : Role) (s₂ : Reading) (y : Knowing)
            (ls₂ out₂ : List ℕ) → b ≡ word_start t e → step_of s (class_of (bytes_of t a e)) ≡ takes r s₂
            → y ≡ learnt t a (bytes_of t a e) x r
            → added out₂ ls₂ ≡ adds t (bytes_of t a e) x cursor ls out r
            → Passing s₂ b y ls₂ out₂
        unfolding word_of added
        pass_goes e q b r s₂ y ls₂ out₂ p f g m =
            let w : bytes_of t a e ≡ word_of t a = ap (bytes_of t a) q in
            let same = m ∙ ap (λ (z : List ℕ). adds t z x cursor ls out r) w in
            let next =
            pass_next r s₂ (ap (λ (z : List ℕ). step_of s (class_of z)) (sym w) ∙ f) b
            (p ∙ ap (word_start t) q)
            in
            subst (λ (z : Knowing). Passing s₂ b z ls₂ out₂)
            (sym (g ∙ ap (λ (z : List ℕ). learnt t a z x r) w))
            (subst (λ (z : Added). Passing s₂ b (learnt t a (word_of t a) x r) z.locations z.output) (sym same)
            next)

      -- the text turns out well
      good_end : length t ≤ a → Good (length t) count sizes all
      unfolding fault_of whole
      good_end l =
          let n = length t in
          let end = gather_last t s a x h.gathering l in
          let b = both? end.0 in
          let c = subst (Counted n s) end.1 h.gathering.counted in
          let sane = subst (Sane n) end.1 h.sane in
          let top = top_any (λ p. Phased n p s all) s.phase b.0 c.phased in
          let pair =
          top_any (λ p. Paired p all) s.phase b.0
          (subst (Paired s.phase) end.1 h.gathering.paired)
          in
          let some : 1 ≤ count = let l : 1 ≤ s.definitions = le? b.1 in let m = c.same in omega arith in
          let u =
          unless_clean (length all.parameters =? 0) all.at all.fault n (top.1 some).0 sane.most
          able.clean
          in
          let outside = pair.0 in
          record { clean = u.1; exact = exact; most = omega arith; inside = λ i. absurd (omega arith) }

      pub pass_ends : length t ≤ a → out ≡ patch old end (code_of all.definitions)
      pass_ends l =
          let e = (gather_last t s a x h.gathering l).1 in
          let lay = subst (λ (k : Known). Lays k out ls) e h.laying (good_end l) in
          let q = last in
          patched old out end (code_of all.definitions) able.room
          (subst (Changes old out end) last lay.changes) lay.code
