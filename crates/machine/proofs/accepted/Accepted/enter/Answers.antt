use Rattle.answer.proofs.Handed.{handed_on}
use Rattle.machine.proofs.Opening.{from_d, opened}
use Rattle.std.proofs.Common.{sym, ◌∙◌}
use Rattle.std.specs.Prelude.{refl}
use Rattle.machine.proofs.accepted.Accepted.enter.Goals as goal

pub returns-then-wired-ne0 : goal.returns-then-wired-ne0
returns-then-wired-ne0 c = let pre = c.requires in
    λ rd f s. opened _ _ _ _ _ _ _ (c.args.self.loaded.some _ pre.o_bound) _ _ refl c.set_wired.ensures
    (from_d _ _ _ _ _ _ pre.workable s (λ z. c.if-wired-ne0.true (c.wired.ensures ∙ z)))

pub returns : goal.returns
returns c = let pre = c.requires in
    λ rd f s. opened _ _ _ _ _ _ _ (c.args.self.loaded.some _ pre.o_bound) _ _ refl c.set_wired-2.ensures
    (c.in_ok-wire.ensures rd f s (sym c.wired.ensures ∙ c.if-wired-ne0.false))

pub returns-in_err-wire : goal.returns-in_err-wire
returns-in_err-wire c = rw (handed_on _ c.from_residual.ensures.1)
    (λ rd f s. c.in_err-wire.ensures rd f s (sym c.wired.ensures ∙ c.if-wired-ne0.false))
