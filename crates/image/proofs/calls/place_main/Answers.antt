use Rattle.image.proofs.Starts.{main_placed}
use Rattle.std.proofs.Common.{◌∙◌}
use Rattle.image.proofs.calls.place_main.Goals as goal

pub returns : goal.returns
returns c = c.deploy.ensures.is
    ∙ main_placed _ _ _ _ _
    c.requires
    c.deploy.ensures.small
    c.wipe.ensures
    c.set_used.ensures
    c.main_of-main.ensures
