-- A text that compiles: its bytes pass the check (`always_accepted`), and each completed turn's sinks are what its
-- expressions mean (`always_faithful`).
use Rattle.std.specs.Prelude.{ℕ, ◌+◌, ◌≡◌, refl, true, List, length, take, drop, Ok}
use Rattle.std.proofs.Common.{arith}
use lib.Seq.{take-append_seam}
use Rattle.value.specs.Test.{◌≤?◌, ◌=?◌}
use Rattle.value.proofs.Tests.{eq?}
use Rattle.image.specs.Memory.{patch}
use Rattle.haai.specs.Grammar.{Formed, items, fault, form_of}
use Rattle.haai.specs.Syntax.{Text}
use Rattle.haai.specs.Names.{nothing, learn_all, fault_of, text_of}
use Rattle.haai.specs.Emit.{program_of, within_limits}
use Rattle.haai.specs.Compile.{Compilation, refused, written, by_names, by_form, compile_of, tree_by, tree_of}
use Rattle.haai.specs.Claim.{bytes_for, AlwaysAccepted, AlwaysFaithful}
use Rattle.haai.proofs.Formed.{WellFormed, Bounded}
use Rattle.haai.proofs.Fitting.{guard_any}
use Rattle.haai.proofs.Forming.{tree_right}
use Rattle.haai.proofs.Emitted.{laid}
use Rattle.haai.proofs.Accepting.{accepted}
use Rattle.haai.proofs.Faithful.{from_start}

-- ---- what a text that compiles has

abbrev Right : Text → Type 0
Right x = WellFormed x.definitions x.sources × Bounded x

record Whole (x : Text) (n : ℕ) (c : Compilation) : Type 0 where
  right : Right x
  bytes : take n c.output ≡ program_of x

abbrev Accepts : Text → ℕ → Compilation → Type 0
Accepts x n c = c.answer ≡ Ok n → Whole x n c

module _ (out : List ℕ) (n : ℕ) where
  by_space : (x : Text) → (within_limits x.definitions ≡ true → Right x) → Accepts x n (written out x)
  unfolding written refused patch
  by_space x right =
      let p = program_of x in
      guard_any (Accepts x n) (within_limits x.definitions) _ _
      (λ l. guard_any (Accepts x n) (length p ≤? length out) _ _
      (λ r e.
      let z : length p ≡ n = cc in
      record { right = right l; bytes = rw (← z) (take-append_seam p (drop (0 + length p) out)) })
      (λ r e. let y : ◌≡◌ {A = ℕ} 0 1 = cc in absurd (omega arith)))
      (λ l e. let y : ◌≡◌ {A = ℕ} 0 1 = cc in absurd (omega arith))

  accepts : (t : List ℕ) → Accepts (tree_of t) n (compile_of t out)
  unfolding compile_of tree_of tree_by by_form by_names refused text_of
  accepts t = by (form_of t) refl
    where
      by : (x : Formed) → form_of t ≡ x → Accepts (tree_by (length t) x) n (by_form (length t) out x)
      by (fault q) e = λ z. let y : ◌≡◌ {A = ℕ} 0 1 = cc in absurd (omega arith)
      by (items is) e =
          let k = learn_all (nothing (length t)) is in
          guard_any (Accepts (text_of k) n) (fault_of k =? length t) _ _
          (λ f. by_space (text_of k) (λ l. tree_right t is e (eq? f) l))
          (λ f z. let y : ◌≡◌ {A = ℕ} 0 1 = cc in absurd (omega arith))

-- ---- the theorems

pub always_accepted : AlwaysAccepted
always_accepted t out n e =
    let a = accepts out n t e in rw a.bytes (accepted (tree_of t) a.right.0 a.right.1)

pub always_faithful : AlwaysFaithful
always_faithful t out n e m s is =
    let x = tree_of t in
    let a = accepts out n t e in
    let formed = a.right.0 in
    let bounded = a.right.1 in
    let z : bytes_for t out n ≡ program_of x = a.bytes in
    let passes = accepted x formed bounded in
    rw z (from_start x (program_of x) passes (laid x bounded.some formed) formed m (rw z at s) is)
