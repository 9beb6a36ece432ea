use Rattle.std.proofs.Common.{not}
use Rattle.image.proofs.Cuts.{main_unfresh, main_followed, main_alone}
use Rattle.program.proofs.Slots.{size_least}
use Rattle.program.specs.Location.{size_of}
use Rattle.value.proofs.Tests.{passed, refused, same_and, same_eq}
use Rattle.std.specs.Prelude.{refl}
use Rattle.std.proofs.Common.{sym, ◌∙◌, ap, arith}
use Rattle.image.proofs.soundness.fresh.Goals as goal

pub overflow_sub-size : goal.overflow_sub-size
overflow_sub-size c = omega (
  arith,
  size_least (c.args.program.now) c.main_of-main.result,
)

pub returns-then-not-clear : goal.returns-then-not-clear
returns-then-not-clear c = let clear = same_and (same_eq c.wired.ensures refl) c.zero_at.ensures in
    main_unfresh _ _ _ (c.size_of-size.ensures.is ∙ ap (size_of _) c.main_of-main.ensures)
    (refused clear (ap not c.if-not-clear.true))

pub returns-then-used-end : goal.returns-then-used-end
returns-then-used-end c = let clear = same_and (same_eq c.wired.ensures refl) c.zero_at.ensures in
    main_followed _ _ _ (c.size_of-size.ensures.is ∙ ap (size_of _) c.main_of-main.ensures)
    (passed clear (ap not c.if-not-clear.false))
    (λ e. c.if-used-end.true (c.used.ensures ∙ e))

pub returns : goal.returns
returns c = let clear = same_and (same_eq c.wired.ensures refl) c.zero_at.ensures in
    main_alone _ _ _ (c.size_of-size.ensures.is ∙ ap (size_of _) c.main_of-main.ensures)
    (passed clear (ap not c.if-not-clear.false))
    (sym c.used.ensures ∙ c.if-used-end.false)
