-- What a call in a room comes to, and its answer as one number.
-- Assumes nothing.
use Rattle.std.specs.Prelude.{ℕ, ◌/◌, ◌≡◌, refl, Bool, true, false, List, length}
use Rattle.std.proofs.Common.{sym, ◌∙◌, ap, Bor}
use Rattle.value.specs.Test.{pick}
use Rattle.answer.specs.Answer.{place_of, number_of}
use Rattle.answer.specs.Answer.{Answer}
use Rattle.image.specs.Start as Start
use Rattle.image.specs.Start.{start_of}
use Rattle.image.specs.Clauses.{started}
use Rattle.remus.specs.Turn as Turn
use Rattle.remus.specs.Turn.{turn_of}
use Rattle.remus.specs.Preview.{Preview, from_run, tried}
use Rattle.remus.proofs.Previews.{preview_tried}
use Rattle.machine.specs.Clauses.{turned, previewed}
use Rattle.rig.specs.Words.{words_of, holding, packed}
use Rattle.rig.specs.Laws.{Bytes}
use Rattle.rig.specs.Face.{one_number, start_bytes, turn_bytes, preview_bytes, faced, turn_faced, preview_faced}
use Rattle.rig.specs.Clauses.{room_of, call_of, saves, held, call_held, sinks_held}
use Rattle.rig.specs.declared.rooms.Call.TheVariants as C
use Rattle.rig.proofs.Copying.{words_count}
use Rattle.rig.proofs.Holding.{hold_same}

-- a is the number n and the place q of an answer
module _ {n q a : ℕ} (h : a ≡ packed n q) where
  pub answer_faced : (r s : Answer) → r ≡ s → n ≡ number_of r → q ≡ place_of r → a ≡ one_number s
  unfolding one_number
  answer_faced r s e f g = rw (← e, h, f, g)

  pub start_faced : (r : Answer) (m : List ℕ) (s : Start.Start) → started r m ≡ s
      → n ≡ number_of r → q ≡ place_of r → (a ≡ one_number s.answer) × (m ≡ s.memory)
  unfolding one_number started
  start_faced r m s e f g = (rw (← e, h, f, g), ap (λ (x : Start.Start). x.memory) e)

  pub turn_faced_lem : (r : Answer) (m sk : List ℕ) (t : Turn.Turn) → turned r m sk ≡ t
      → n ≡ number_of r → q ≡ place_of r → faced a m sk ≡ turn_faced t
  unfolding one_number turned faced turn_faced
  turn_faced_lem r m sk t e f g = rw (← e, h, f, g)

  pub preview_faced_lem : (r : Answer) (work sk : List ℕ) (v : Preview) → previewed r work sk ≡ v
      → n ≡ number_of r → q ≡ place_of r → faced a work sk ≡ preview_faced v
  unfolding one_number previewed faced preview_faced
  preview_faced_lem r work sk v e f g = rw (← e, h, f, g)

-- a start, with the sink space that it leaves
pub start_turned : (p m m' sk : List ℕ) (a : Answer) → started a m' ≡ start_of p m
    → turned a m' sk ≡ (let s = start_of p m in record { answer = s.answer; memory = s.memory; sink_space = sk })
unfolding started turned
start_turned p m m' sk a e = rw (← e)

-- ---- what a call in a room comes to is what the call on bytes does

pub start_told : (p m m' rd sk sk' : List ℕ) (a : Answer) → turned a m' sk' ≡ call_held C.Start p m rd sk
    → started a m' ≡ start_bytes p m
unfolding turned started held saves room_of pick call_of start_bytes
start_told p m m' rd sk sk' a h = ap (λ (x : Turn.Turn). started x.answer x.memory) h

pub turn_told : (p m rd sk : List ℕ)
    → sinks_held sk (call_held C.Turn p m (words_of rd) (words_of sk)) ≡ turn_bytes p m rd sk
unfolding held saves room_of pick call_of sinks_held turn_bytes
turn_told p m rd sk = refl

by_run_lem : (work : List ℕ) → Bytes work → (t : Bool) (ws : List ℕ)
    → pick t (holding work ws) work ≡ holding work (pick t ws (words_of work))
unfolding pick
by_run_lem work h true ws = refl
by_run_lem work h false ws = sym (hold_same work h)

pub preview_told : (p work rd sk work' sk' : List ℕ) (source : Bor (List ℕ)) (a : Answer) → Bytes work
    → length source.now / 4 ≡ length work / 4
    → turned a work' sk' ≡ sinks_held sk (call_held (C.Preview source) p work (words_of rd) (words_of sk))
    → previewed a work' sk' ≡ preview_bytes p source.now work rd sk
unfolding turned previewed held saves room_of call_of sinks_held preview_bytes tried
preview_told p work rd sk work' sk' source a h e f =
    let m = source.now in
    let t = turn_of p (words_of m) (words_of rd) (words_of sk) in
    let l = words_count work ∙ sym e ∙ sym (words_count m) in
    let v = preview_tried p (words_of m) (words_of work) (words_of rd) (words_of sk) l in
    let told = ap (λ (x : Turn.Turn). previewed x.answer x.memory x.sink_space) f in
    told ∙ rw (v, by_run_lem work h (from_run (number_of t.answer)) t.memory) refl
