-- How far a scan of n commands goes: on past those that it takes, and no further than the first that it refuses.
use Rattle.std.specs.Prelude.{ℕ, zero, suc, ◌+◌, ◌<◌, ◌≡◌, refl, ◌≢◌, List}
use Rattle.std.proofs.Common.{sym, ◌∙◌, ap, ⊎_elim, arith}
use Rattle.value.proofs.Tests.{same?}
use Rattle.program.specs.Bytes.{command_at}
use Rattle.program.specs.Command.{Cmd, cmd_of, decode, bytes_of}
use Rattle.load.specs.Scan.{Scanned, refusal_of, after_of, scanned, onward, scan_of}
use Rattle.load.specs.declared.Scan.{Scan}

module _ (p : List ℕ) (r : ℕ) where
  -- the refusal of the next command
  abbrev pub refusal : Scan → ℕ
  refusal s = refusal_of p r s (bytes_of p r s.next) (decode (bytes_of p r s.next))

  -- ---- one command

  onward_taken : (more : Scan → Scanned) (s : Scan) (d : Cmd) (n : ℕ) → (onward more p r s d n).code ≡ 0 → n ≡ 0
  unfolding onward
  onward_taken more s d zero e = refl
  onward_taken more s d (suc n) e = e

  onward_stops : (more : Scan → Scanned) (s : Scan) (d : Cmd) (n : ℕ) → n ≢ 0 →
      onward more p r s d n ≡ scanned n (command_at p r s.next) s
  unfolding onward
  onward_stops more s d zero h = absurd (h refl)
  onward_stops more s d (suc n) h = refl

  pub scan_taken : (m : ℕ) (s : Scan) → (scan_of (suc m) p r s).code ≡ 0 → refusal s ≡ 0
  unfolding scan_of
  scan_taken m s e = onward_taken (scan_of m p r) s _ _ e

  pub scan_next : (m k : ℕ) (s : Scan) → s.next ≡ k → refusal s ≡ 0 →
      scan_of (suc m) p r s ≡ scan_of m p r (after_of p r s (cmd_of p r k))
  unfolding scan_of onward cmd_of
  scan_next m k s e q =
      ap (onward (scan_of m p r) p r s (decode (bytes_of p r s.next))) q
      ∙ ap (λ j. scan_of m p r (after_of p r s (decode (bytes_of p r j)))) e

  pub scan_stops : (m : ℕ) (s : Scan) → refusal s ≢ 0 →
      scan_of (suc m) p r s ≡ scanned (refusal s) (command_at p r s.next) s
  unfolding scan_of
  scan_stops m s h = onward_stops (scan_of m p r) s (decode (bytes_of p r s.next)) (refusal s) h

  scan_none : (s : Scan) → scan_of 0 p r s ≡ scanned 0 0 s
  unfolding scan_of
  scan_none s = refl

  -- ---- many

  -- past k that are taken
  pub scan_on : (k m n : ℕ) (s : Scan) → k + m ≡ n → (scan_of k p r s).code ≡ 0 →
      scan_of n p r s ≡ scan_of m p r (scan_of k p r s).scan
  scan_on zero m n s e z =
      let q : n ≡ m = omega arith in
      ap (λ (j : ℕ). scan_of j p r s) q ∙ ap (λ (v : Scanned). scan_of m p r v.scan) (sym (scan_none s))
  scan_on (suc k) m zero s e z = absurd (omega arith)
  scan_on (suc k) m (suc n) s e z =
      let q = scan_taken k s z in
      let after = after_of p r s (cmd_of p r s.next) in
      let u : (j : ℕ) → scan_of (suc j) p r s ≡ scan_of j p r after = λ j. scan_next j s.next s refl q in
      u n
      ∙ scan_on k m n after (omega arith) (ap (λ (v : Scanned). v.code) (sym (u k)) ∙ z)
      ∙ ap (λ (v : Scanned). scan_of m p r v.scan) (sym (u k))

  -- to the first that is not
  pub scan_found : (n : ℕ) (s : Scan) → (scan_of n p r s).code ≢ 0 →
      (k : ℕ) × (k < n) × ((scan_of k p r s).code ≡ 0) × (refusal (scan_of k p r s).scan ≢ 0)
  scan_found zero s h = absurd (h (ap (λ (v : Scanned). v.code) (scan_none s)))
  scan_found (suc n) s h =
      ⊎_elim
      (λ z. (
        n,
        omega arith,
        z,
        λ q. h (ap (λ (v : Scanned). v.code)
            (scan_on n 1 (suc n) s (omega arith) z ∙ scan_next 0 _ _ refl q ∙ scan_none _)),
      ))
      (λ d. let w = scan_found n s d in (w.0, omega (arith, w.1), w.2, w.3))
      (same? (scan_of n p r s).code 0)
