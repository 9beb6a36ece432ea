use Rattle.std.proofs.Common.{not}
use Rattle.std.proofs.Common.{ap}
use Rattle.image.proofs.Starts.{legal_least, start_full, start_length, start_ready}
use Rattle.value.proofs.Tests.{passed, refused}
use Rattle.std.proofs.Common.{arith}
use Rattle.image.proofs.calls.start_sized.Goals as goal

pub returns-then-not-words_legal : goal.returns-then-not-words_legal
returns-then-not-words_legal c = start_length _ _ _ (refused c.words_legal.ensures (ap not c.if-not-words_legal.true))

pub overflow_sub-n : goal.overflow_sub-n
overflow_sub-n c = omega (arith, legal_least _ (passed c.words_legal.ensures (ap not c.if-not-words_legal.false)))

pub returns-then-n-size : goal.returns-then-n-size
returns-then-n-size c = start_full _ _ _ (passed c.words_legal.ensures (ap not c.if-not-words_legal.false)) _
    c.if-n-size.true c.main_of.ensures

pub place_main-requires : goal.place_main-requires
place_main-requires c = legal_least _ (passed c.words_legal.ensures (ap not c.if-not-words_legal.false))

pub returns : goal.returns
returns c = start_ready _ _ _
    (passed c.words_legal.ensures
    (ap not c.if-not-words_legal.false)) _ c.if-n-size.false
    c.place_main.ensures
