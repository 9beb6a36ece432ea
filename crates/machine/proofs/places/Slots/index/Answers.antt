use Rattle.machine.proofs.places.Slots.index.Goals as goal

pub returns : goal.returns
returns c = record { is = (λ p m e. c.after.ensures.is p m _ e); at = c.after.ensures.at; small = c.after.ensures.small }
