use Rattle.std.proofs.Common.{not}
use Rattle.std.proofs.Common.{ap}
use Rattle.image.proofs.Sweeping.{placed_here, placed_there, own_swept}
use Rattle.value.proofs.Tests.{passed}
use Rattle.std.proofs.Common.{sym, ◌∙◌, arith}
use Rattle.std.proofs.lemmas.Bool.{false≢true}
use Rattle.image.proofs.sweep.sweep_one.Goals as goal

pub returns-then-k : goal.returns-then-k
returns-then-k c = record { placed = λ e. absurd (false≢true e); swept = λ e. absurd (false≢true e) }

pub returns-then-wired-ne1 : goal.returns-then-wired-ne1
returns-then-wired-ne1 c = record { placed = λ e. absurd (false≢true e); swept = λ e. absurd (false≢true e) }

pub returns-then-not-clear_by : goal.returns-then-not-clear_by
returns-then-not-clear_by c = record { placed = λ e. absurd (false≢true e); swept = λ e. absurd (false≢true e) }

pub sweep_slots-requires : goal.sweep_slots-requires
sweep_slots-requires c = record {
  placed = placed_here _ _ _ c.table_byte-k.ensures
      c.if-k.false;
  tells = c.requires;
}

pub returns : goal.returns
returns c = record {
  placed = (λ e. placed_there _ _ _ c.table_byte-k.ensures c.if-k.false);
  swept = (λ e.
      own_swept _ _ _ _ _ (sym c.wired.ensures ∙ omega arith)
      (passed c.clear_by.ensures (ap not c.if-not-clear_by.false))
      (c.sweep_slots.ensures e));
}
