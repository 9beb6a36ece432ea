-- A call in a room of words, and what memory's bytes get of it.
-- Assumes nothing.
use Rattle.std.specs.Prelude.{◌≡◌, refl, true, false, List, ℕ}
use Rattle.value.specs.Test.{pick}
use Rattle.value.proofs.Tests.{yes, no}
use Rattle.answer.specs.Answer.{Answer}
use Rattle.machine.specs.Clauses.{turned}
use Rattle.rig.specs.Words.{holding}
use Rattle.rig.specs.Clauses.{room_of, call_of, saves, held, call_held}
use Rattle.rig.specs.declared.rooms.Call.{Call}

-- w₀ the words in the room before the call, w those then
module _ (what : Call) (p m w₀ w rd sk sk' : List ℕ) (a : Answer) (e : w₀ ≡ room_of what m)
    (h : turned a w sk' ≡ call_of what p w₀ rd sk) where
  in_room : (b : List ℕ) → b ≡ pick (saves what a) (holding m w) m → turned a b sk' ≡ call_held what p m rd sk
  unfolding held turned
  in_room b f = rw (← e, ← h, f)

  pub saved : (b : List ℕ) → saves what a ≡ true → b ≡ holding m w → turned a b sk' ≡ call_held what p m rd sk
  saved b t f = in_room b (yes m t f)

  pub left : saves what a ≡ false → turned a m sk' ≡ call_held what p m rd sk
  left t = in_room m (no (holding m w) t refl)
