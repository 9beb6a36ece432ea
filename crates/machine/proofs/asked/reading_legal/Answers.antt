use Rattle.machine.proofs.asked.reading_legal.Goals as goal

pub returns : goal.returns
returns c = rw (← c.global_kind-kind.ensures, ← c.reading_at.ensures) c.legal.ensures
