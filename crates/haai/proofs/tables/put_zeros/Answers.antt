use Rattle.std.specs.Prelude.{ℕ, ◌+◌, ◌-◌, ◌≡◌, length, replicate, take, drop}
use Rattle.std.proofs.Common.{◌∙◌, ap, arith}
use lib.ListN.{length-replicate}
use Rattle.std.proofs.lemmas.List.{length-take}
use Rattle.std.proofs.Common.{length-drop}
use Rattle.haai.proofs.Puts.{patch_mid}
use Rattle.haai.proofs.tables.put_zeros.Goals as goal

pub returns : goal.returns
returns c = let at = c.args.at in
    let n = c.args.n in
    let out = c.args.out.now in
    let e : at + n - at ≡ n = omega arith in
    let m : length (take (at + n - at) (drop at out)) ≡ n = simp (length-take, length-drop) (omega arith) in
    let f = c.fill.ensures.after (λ y z. z) ∙ ap (λ (k : ℕ). replicate {A = ℕ} k 0) m in
    let l : length (replicate {A = ℕ} n 0) ≡ n = length-replicate n 0 in
    rw f (patch_mid out (replicate n 0) at _ (omega arith))
