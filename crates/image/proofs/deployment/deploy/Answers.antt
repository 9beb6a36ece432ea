use Rattle.image.specs.Memory.{deploy}
use Rattle.image.specs.Clauses.{deploy_fits}
use Rattle.value.proofs.Tests.{le!, le×, no, yes}
use Rattle.std.specs.Prelude.{refl}
use Rattle.std.proofs.Common.{arith}
use Rattle.image.proofs.deployment.deploy.Goals as goal

pub returns-then-end-le4294967295 : goal.returns-then-end-le4294967295
unfolding deploy_fits deploy
returns-then-end-le4294967295 c = record { is = yes _ (le! (omega arith)) (cc); small = omega arith }

pub returns-else-end-le4294967295 : goal.returns-else-end-le4294967295
unfolding deploy_fits
returns-else-end-le4294967295 c = record { is = no _ (le× (omega arith)) refl; small = omega arith }
