use Rattle.std.specs.Prelude.{ℕ, ◌≡◌, Result}
use Rattle.std.specs.declared.result.Result.TheVariants.{Ok, Err}
use Rattle.std.specs.Result.{is_ok}
use Rattle.std.proofs.Common.{sym, ◌∙◌}
use Rattle.value.proofs.Rows.{in_table}
use Rattle.value.proofs.Tests.{lt!, lt×}
use Rattle.value.specs.Clauses.{Coded}
use Rattle.value.specs.Primitive.{is_primitive}
use Rattle.value.specs.declared.table.Primitive.{Primitive}
use Rattle.value.specs.declared.table.UnknownPrimitive.{UnknownPrimitive}
use Rattle.value.proofs.table.is_primitive.Goals as goal

told : (x : ℕ) (r : Result Primitive UnknownPrimitive) → Coded x r → is_ok r ≡ is_primitive x
unfolding is_primitive
told x (Ok p) h = sym (lt! (rw (← h) (in_table p)))
told x (Err e) h = sym (lt× h)

pub returns : goal.returns
returns c = c.is_ok.ensures.value ∙ told _ _ c.try_from.ensures
