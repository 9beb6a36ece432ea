use Rattle.std.specs.Prelude.{ℕ, ◌/◌, ◌%◌, ◌^◌}
use Rattle.std.proofs.Common.{◌∙◌, ap}
use Rattle.load.specs.Scan.{is_supplied}
use Rattle.value.specs.Test.{◌=?◌}
use Rattle.load.proofs.Scan.is_supplied.Goals as goal

pub returns : goal.returns
unfolding is_supplied
returns c = let args = c.args in
    c.has_source.ensures ∙ ap (λ (t : ℕ). t / 2 ^ args.x % 2 =? 1) c.standing_at.ensures
