use Rattle.std.proofs.Common.{not}
use Rattle.std.specs.Prelude.{ℕ, refl, List}
use Rattle.std.proofs.Common.{◌∙◌, ap}
use Rattle.std.proofs.lemmas.Bool.{false≢true}
use Rattle.image.specs.Memory.{main_at}
use Rattle.image.specs.Passes.{with_table_byte}
use Rattle.value.proofs.Tests.{passed}
use Rattle.image.proofs.sweep.begun.Goals as goal

pub returns-then-not-mark_tiles : goal.returns-then-not-mark_tiles
returns-then-not-mark_tiles c = λ p f e. absurd (false≢true e)

pub returns : goal.returns
returns c = λ p f e.
    let marks = c.mark_tiles.ensures in
    let went = passed refl (ap not c.if-not-mark_tiles.false) in
    record {
      tiled = marks.tiled p f went;
      marked = c.put_table_byte.ensures
          ∙ ap (λ (t : List ℕ). with_table_byte t main_at 5) (marks.marked p f went);
    }
