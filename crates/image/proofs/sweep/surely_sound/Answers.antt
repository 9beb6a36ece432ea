use Rattle.image.proofs.Merging.{grown_sound_lem}
use Rattle.value.proofs.Tests.{passed}
use Rattle.std.proofs.Common.{not, ap}
use Rattle.std.proofs.lemmas.Bool.{false≢true}
use Rattle.image.proofs.sweep.surely_sound.Goals as goal

pub returns-then-n-u : goal.returns-then-n-u
returns-then-n-u c = λ e. absurd (false≢true e)

pub returns-then-not-zero_at : goal.returns-then-not-zero_at
returns-then-not-zero_at c = λ e. absurd (false≢true e)

pub returns-then-u-le-FEW_WORDS : goal.returns-then-u-le-FEW_WORDS
returns-then-u-le-FEW_WORDS c = λ e.
    grown_sound_lem _ _ _ c.used-u.ensures c.if-n-u.false
    (passed c.zero_at.ensures (ap not c.if-not-zero_at.false)) (c.sweep.ensures e)

pub returns : goal.returns
returns c = λ e.
    grown_sound_lem _ _ _ c.used-u.ensures c.if-n-u.false
    (passed c.zero_at.ensures (ap not c.if-not-zero_at.false)) (c.sweep-2.ensures e)
