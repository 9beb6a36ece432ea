-- One turn of the loops over a reactor's commands, and of the loop over the reactors, said of their definitions.
-- Assumes nothing.
use Rattle.std.specs.Prelude.{ℕ, zero, suc, ◌+◌, ◌-◌, ◌≤◌, ◌<◌, ◌≡◌, ◌≢◌, refl, true, false, List}
use Rattle.std.specs.Prelude.{Option, None, Some, Result, Ok, Err}
use Rattle.std.proofs.Common.{sym, ◌∙◌, ap, subst, arith}
use Rattle.value.specs.Test.{◌<?◌, pick}
use Rattle.value.proofs.Tests.{cases, goes, lt?, lt×?, no, stops, yes}
use Rattle.program.specs.Bytes.{commands_d, commands_in, commands_r, command_at, entry_at}
use Rattle.program.specs.Command.{Cmd, takes_words, decode, bytes_of, cmd_of}
use Rattle.program.specs.Location.{results}
use Rattle.program.specs.declared.Command.{Command}
use Rattle.load.specs.Scan.{Scanned, refusal_of, after_of, scanned, onward, scan_of, begin_of, complete}
use Rattle.load.specs.Refusal.{at_command}
use Rattle.load.specs.Check.{ended, reactors_of}
use Rattle.load.specs.Clauses.{LegalTables, Shaped, Within, state, Stepped, all_of, refusal_next, Stopped, Ran}
use Rattle.load.specs.declared.Locations.{Locations}
use Rattle.load.specs.declared.Progress.{Progress}
use Rattle.load.specs.declared.Scan.{Scan}
use Rattle.answer.specs.Answer.{Answer, Ruling}
use Rattle.answer.specs.declared.Refusal.{Refusal}
use Rattle.answer.specs.declared.Refusal.TheVariants.{Missing}
use Rattle.load.proofs.Shapes.{after_shaped, after_within, begin_shaped, begin_within}

-- a ruling of why is no acceptance
pub not_fine : {A : Type 0} {w : Refusal} → ◌≡◌ {A = Ruling} (Err w) (Ok tt) → A
not_fine e = let z : ◌≡◌ {A = ℕ} 0 1 = cc in absurd (omega arith)

-- ---- a command

module _ (more : Scan → Scanned) (p : List ℕ) (r : ℕ) (s : Scan) (d : Cmd) where
  onward_taken : (n : ℕ) → n ≡ 0 → onward more p r s d n ≡ more (after_of p r s d)
  unfolding onward
  onward_taken zero e = refl
  onward_taken (suc n) e = absurd (omega arith)

  onward_refused : (n : ℕ) → (n ≡ 0 → ⊥) → onward more p r s d n ≡ scanned n (command_at p r s.next) s
  unfolding onward
  onward_refused zero d = absurd (d refl)
  onward_refused (suc n) d = refl

-- where the first i commands lead, none of which is refused
pub record Running (p : List ℕ) (r : ℕ) (t : Locations) (q : Progress) (i : ℕ) : Type 0 where
  pub here : q.next ≡ i
  pub scans : (m : ℕ) → scan_of (i + m) p r (begin_of p r) ≡ scan_of m p r (state t i)
  pub shaped : Shaped p (state t i)
  pub within : Within p r (state t i)
  pub counted : q.results ≡ results p r (i - commands_d p r)

module _ (p : List ℕ) (r : ℕ) where
  pub run_start : (legal : LegalTables p) (t : Locations) (q : Progress) → state t 0 ≡ begin_of p r → q.next ≡ 0 →
      q.results ≡ 0 → Running p r t q 0
  unfolding results
  run_start legal t q e h k =
      let none : 0 - commands_d p r ≡ 0 = omega arith in
      record {
        here = h;
        scans = λ m. ap (λ (n : ℕ). scan_of n p r (begin_of p r)) (omega arith) ∙ ap (scan_of m p r) (sym e);
        shaped = subst (λ (s : Scan). Shaped p s) (sym e) (begin_shaped p legal.some_shape r);
        within = subst (λ (s : Scan). Within p r s) (sym e) (begin_within p r);
        counted = k ∙ ap (results p r) (sym none);
      }

  -- the next command is taken or refused
  module _ (t : Locations) (q : Progress) (i : ℕ) (run : Running p r t q i) (l : i < commands_in p r)
      (c : Command) (read : c ≡ bytes_of p r i) (u : Locations) where
    the_next : refusal_of p r (state t i) c (decode c) ≡ refusal_next p r (state t i)
    the_next = ap (λ (c : Command). refusal_of p r (state t i) c (decode c)) read

    from_here : (o : Option Progress) → Stepped p r (state t q.next) c u o → Stepped p r (state t i) c u o
    from_here o = subst (λ (n : ℕ). Stepped p r (state t n) c u o) run.here

    next_scan : (m : ℕ) → scan_of (i + suc m) p r (begin_of p r) ≡
        onward (scan_of m p r) p r (state t i) (decode (bytes_of p r i)) (refusal_next p r (state t i))
    unfolding scan_of
    next_scan m = run.scans (suc m)

    pub refused_here : Stepped p r (state t q.next) c u None → refusal_next p r (state u i) ≢ 0
    refused_here step z =
        let k = from_here None step in
        k.0 (the_next ∙ ap (refusal_next p r) (sym k.1) ∙ z)

    pub run_refused : {w : Refusal} → Stepped p r (state t q.next) c u None →
        w ≡ at_command (refusal_next p r (state u i)) (command_at p r i) → Ran p r u (Err w)
    run_refused step e =
        let k = from_here None step in
        let m = commands_in p r - i - 1 in
        let no : refusal_next p r (state t i) ≢ 0 = λ z. k.0 (the_next ∙ z) in
        let rest : commands_in p r ≡ i + suc m = omega arith in
        let all : all_of p r ≡ scanned (refusal_next p r (state t i)) (command_at p r i) (state t i) =
        ap (λ (n : ℕ). scan_of n p r (begin_of p r)) rest ∙ next_scan m ∙ onward_refused _ p r (state t i) _ _ no in (
          (i, subst (Stopped p r) (sym k.1) (no, all)),
          e ∙ ap (λ (s : Scan). at_command (refusal_next p r s) (command_at p r i)) k.1
              ∙ ap (λ (x : Scanned). at_command x.code x.place) (sym all),
        )

    -- R commands with a result, one command more
    one_more : (m k : ℕ) → m ≡ results p r (i - commands_d p r) →
        k ≡ m + pick (q.next <? commands_d p r) 0 (pick (takes_words (decode c)) 1 0) →
        k ≡ results p r (i + 1 - commands_d p r)
    unfolding results cmd_of
    one_more m k so then =
        let one : Command → ℕ = λ c. pick (takes_words (decode c)) 1 0 in
        cases (q.next <? commands_d p r)
        (λ e.
        let low : q.next < commands_d p r = lt? e in
        let same : i + 1 - commands_d p r ≡ i - commands_d p r = omega (arith, run.here) in
        then ∙ ap (λ (n : ℕ). m + n) (sym (yes (one c) e refl)) ∙ (omega arith) ∙ so ∙ ap (results p r) (sym same))
        (λ e.
        let high : commands_d p r ≤ q.next = lt×? e in
        let q : i + 1 - commands_d p r ≡ suc (i - commands_d p r) = omega (arith, run.here) in
        let at : i ≡ commands_d p r + (i - commands_d p r) = omega (arith, run.here) in
        let is : one c ≡ one (bytes_of p r (commands_d p r + (i - commands_d p r))) =
        ap one (read ∙ ap (bytes_of p r) at) in
        let put = then ∙ ap (λ (n : ℕ). m + n) (sym (no 0 e refl)) in
        rw q (omega (arith, put, so, is)))

    pub run_taken : (legal : LegalTables p) (then : Progress) → Stepped p r (state t q.next) c u (Some then) →
        then.results ≡ q.results + pick (q.next <? commands_d p r) 0 (pick (takes_words (decode c)) 1 0) →
        Running p r u then (i + 1)
    run_taken legal then step e =
        let k = from_here (Some then) step in
        let s = state t i in
        let to : state u (i + 1) ≡ after_of p r s (decode c) = ap (state u) (sym k.1) ∙ k.2 in
        record {
          here = k.1;
          scans = λ m.
              ap (λ (n : ℕ). scan_of n p r (begin_of p r)) (omega arith) ∙ next_scan m
              ∙ onward_taken _ p r s _ _ (sym the_next ∙ k.0)
              ∙ ap (λ (c : Command). scan_of m p r (after_of p r s (decode c))) (sym read)
              ∙ ap (scan_of m p r) (sym to);
          shaped = subst (λ (s : Scan). Shaped p s) (sym to) (after_shaped p r s c legal run.shaped (decode c) k.0);
          within = subst (λ (s : Scan). Within p r s) (sym to) (after_within p r s c run.within l (decode c) k.0);
          counted = one_more _ _ run.counted e;
        }

  pub run_done : (t : Locations) (q : Progress) (i : ℕ) → Running p r t q i → i ≡ commands_in p r →
      Ran p r t (Ok q.results)
  unfolding scan_of commands_in
  run_done t q i run e =
      let all : commands_in p r ≡ i + 0 = omega arith in
      let rest : i - commands_d p r ≡ commands_r p r = omega arith in (
        ap (λ (n : ℕ). scan_of n p r (begin_of p r)) all ∙ run.scans 0 ∙ ap (λ (n : ℕ). scanned 0 0 (state t n)) e,
        subst (λ (n : ℕ). Within p r (state t n)) e run.within,
        run.counted ∙ ap (results p r) rest,
      )

-- ---- a reactor

module _ (more : Unit {0} → Answer) (entry : ℕ) where
  ended_refused : (t : Scanned) → t.code ≢ 0 → Err (at_command t.code t.place) ≡ ended more entry t t.code
  unfolding ended
  ended_refused t d = elim t.code as (λ n. n ≢ 0 → Err (at_command n t.place) ≡ ended more entry t n) [
    | zero ↦ λ d. absurd (d refl)
    | suc n ↦ λ d. refl
  ] d

  ended_missing : (t : Scanned) (u : Scan) → t ≡ scanned 0 0 u → complete u ≡ false → Err (Missing entry) ≡ ended
      more entry t t.code
  unfolding ended
  ended_missing t u e q = stops _ q refl ∙ sym (ap (λ (t : Scanned). ended more entry t t.code) e)

  ended_on : (t : Scanned) (u : Scan) → t ≡ scanned 0 0 u → complete u ≡ true → ended more entry t t.code ≡ more tt
  unfolding ended
  ended_on t u e q = ap (λ (t : Scanned). ended more entry t t.code) e ∙ sym (goes _ _ q refl)

module _ (accepted : Answer) (p : List ℕ) (r : ℕ) where
  abbrev After : ℕ → Unit {0} → Answer
  After m _ = reactors_of accepted m p (r + 1)

  reactors_step : (m : ℕ) → 0 < m → reactors_of accepted m p r ≡ ended (After (m - 1)) (entry_at p r) (all_of p r)
      (all_of p r).code
  unfolding reactors_of
  reactors_step zero h = absurd (omega arith)
  reactors_step (suc m) h = let e : suc m - 1 ≡ m = omega arith in rw e

  -- what the scan of reactor q of o, which is this one, comes to
  module _ (m : ℕ) (h : 0 < m) (t : Locations) {o : List ℕ} {q : ℕ} (is : (o ≡ p) × (q ≡ r)) where
    ran_here : (x : Result ℕ Refusal) → Ran o q t x → Ran p r t x
    ran_here x ran = subst (λ (q : ℕ). Ran p q t x) is.1 (subst (λ (o : List ℕ). Ran o q t x) is.0 ran)

    pub reactor_refused : {w : Refusal} → Ran o q t (Err w) → Err w ≡ reactors_of accepted m p r
    reactor_refused {w} ran =
        let here = ran_here (Err w) ran in
        let stopped = here.0.1 in
        let some : (all_of p r).code ≢ 0 = λ z. stopped.0 (ap (λ (x : Scanned). x.code) (sym stopped.1) ∙ z) in
        ap Err here.1 ∙ ended_refused (After (m - 1)) (entry_at p r) (all_of p r) some ∙ sym (reactors_step m h)

    module _ (n : ℕ) (ran : Ran o q t (Ok n)) where
      all_taken : all_of p r ≡ scanned 0 0 (state t (commands_in p r))
      all_taken = let here = ran_here (Ok n) ran in here.0

      pub reactor_missing : complete (state t (commands_in p r)) ≡ false → Err (Missing (entry_at p r)) ≡
          reactors_of accepted m p r
      reactor_missing f = ended_missing (After (m - 1)) (entry_at p r) (all_of p r) _ all_taken f ∙ sym
          (reactors_step m h)

      pub reactor_taken : complete (state t (commands_in p r)) ≡ true → reactors_of accepted m p r ≡
          reactors_of accepted (m - 1) p (r + 1)
      reactor_taken f = reactors_step m h ∙ ended_on (After (m - 1)) (entry_at p r) (all_of p r) _ all_taken f

  pub reactors_done : (m : ℕ) → m ≤ 0 → accepted ≡ reactors_of accepted m p r
  unfolding reactors_of
  reactors_done zero h = refl
  reactors_done (suc m) h = absurd (omega arith)
