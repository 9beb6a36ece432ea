-- What the sweep does for a chain, a D slot, all D slots and a deployment, as the passes' tests and lists say it.
-- Assumes nothing.
use Rattle.std.specs.Prelude.{ℕ, suc, ◌+◌, ◌-◌, ◌*◌, ◌≤◌, ◌<◌, ◌≡◌, refl, true, false, ◌||◌, List, []}
use Rattle.std.proofs.Common.{sym, ◌∙◌, ap}
use Rattle.std.specs.Prelude.{◌∷◌, get_or, set, replicate}
use Rattle.std.proofs.Common.{arith}
use lib.Dec.{ltb}
use Rattle.value.specs.Value.{value, deployment_mark, point_mark}
use Rattle.value.specs.Test.{◌and◌, ◌<?◌, ◌=?◌, sweep}
use Rattle.value.specs.declared.Value.{Value}
use Rattle.value.proofs.Tests.{both!, both?, eq!, lt×?, or×?, same_or, same_lt}
use Rattle.value.proofs.Sweeps.{sweep_next, sweep_done}
use Rattle.program.specs.Bytes.{reactors, commands_d, shape_of}
use Rattle.program.specs.Command.{Made, deployment, point, held, nought, made_by, cmd_of}
use Rattle.program.specs.Kind.{legal}
use Rattle.program.specs.Location.{command_loc, source_count, slot_at}
use Rattle.program.proofs.Slots.{slot_low}
use Rattle.image.specs.Memory.{word, used, reactor, wired, next, slot, mark, content, value_at}
use Rattle.image.specs.Passes.{table_byte, is_start, chain_from, members_from, slot_sound, named_by, children_from}
use Rattle.image.specs.Passes.{children_of, clear_at, own_sound}
use Rattle.image.specs.Clauses.{command_sound, Placed, Sweeps, SlotSwept, SlotsSwept, OwnSwept}
use Rattle.image.proofs.Chains.{chain_ends, chain_next, members_end, members_next}
use Rattle.image.proofs.Merging.{sweeps_none, sweeps_then, sweeps_as}

-- ---- a chain

module _ (p m : List ℕ) (o s last : ℕ) (seen : List ℕ) (c left : ℕ) (t : List ℕ) where
  pub chain_swept : c < 1 → Sweeps o (members_from p m left c)
      (λ (t : List ℕ). chain_from p m (left + 1) t o s last seen c) t t
  chain_swept h =
      sweeps_none o _ _ t (λ r. sym (chain_ends p m r o s last seen c (left + 1) left (omega arith) h))
      (members_end p m c left h)

  pub chain_further : (r : ℕ) (seen₁ : List ℕ) (c₁ : ℕ) (t₁ t₂ : List ℕ) → 0 < left → 0 < c → r ≡ reactor m c
      → ((shape_of p r =? s) and (get_or seen r 0 =? 0)) ≡ true → seen₁ ≡ set seen r 1 → c₁ ≡ next m c
      → Sweeps o (c ∷ []) (λ (t : List ℕ). (o <? c) and (c <? last) and is_start t c) t t₁
      → Sweeps o (members_from p m (left - 1) c₁) (λ (t : List ℕ). chain_from p m (left - 1 + 1) t o s c seen₁ c₁) t₁ t₂
      → Sweeps o (members_from p m left c) (λ (t : List ℕ). chain_from p m (left + 1) t o s last seen c) t t₂
  chain_further r seen₁ c₁ t₁ t₂ some above its joins next_seen next_c link rest =
      let e : left ≡ suc (left - 1) = omega arith in
      let f : left + 1 ≡ suc (left - 1 + 1) = omega arith in
      sweeps_then o _ _ _ _ _ _ t t₁ t₂ (members_next p m c left (left - 1) c₁ e above next_c)
      (λ q g h. sym (chain_next p m q o s last seen c (left + 1)
      (left - 1 + 1) f above g r its seen₁ c₁ joins next_seen next_c) ∙ h)
      link rest

-- ---- a D slot

-- the two words at which the slot begins
module _ (p m : List ℕ) (o l i : ℕ) (v : Value) (e : i ≡ slot p m o l) (f : v ≡ value (word m i) (word m (i + 1))) where
  pub pair_value : v ≡ value_at p m o l
  unfolding value_at mark content
  pair_value = f ∙ ap (λ (i : ℕ). value (word m i) (word m (i + 1))) e

  pub pair_mark : v.mark ≡ mark p m o l
  unfolding value_at
  pair_mark = ap (λ (v : Value). v.mark) pair_value

  pub pair_content : v.content ≡ content p m o l
  unfolding value_at
  pair_content = ap (λ (v : Value). v.content) pair_value

module _ (p m : List ℕ) (o l x : ℕ) (t t₁ : List ℕ) where
  pub mono_swept : (c last : ℕ) → mark p m o l ≡ deployment_mark → c ≡ content p m o l
      → ((reactor m c =? x) and (next m c =? 0)) ≡ true
      → Sweeps o (c ∷ []) (λ (t : List ℕ). (o <? c) and (c <? last) and is_start t c) t t₁
      → SlotSwept p m o t t₁ l (deployment x)
  unfolding named_by slot_sound
  mono_swept c last e f g h =
      rw (← f)
      (sweeps_as o _ _ _ _ t t₁ refl
      (λ r q.
      let w = both? q in
      let v = both? w.1 in
      let u = both? g in
      both! (eq! e) (both! w.0 (both! v.1 (both! u.0 u.1)))) h)

  pub point_swept : (head : ℕ) → mark p m o l ≡ point_mark → head ≡ content p m o l
      → Sweeps o (members_from p m (reactors p) head) (λ (t : List ℕ). chain_from p m (reactors p + 1) t o x (used m)
      (replicate 64 0) head) t t₁
      → SlotSwept p m o t t₁ l (point x)
  unfolding named_by slot_sound
  point_swept head e f h = rw (← f) (sweeps_as o _ _ _ _ t t₁ refl (λ r q. both! (eq! e) q) h)

module _ (p m : List ℕ) (o l x : ℕ) (t : List ℕ) where
  pub cell_swept : (v : Value) → v ≡ value_at p m o l → legal p x v ≡ true → SlotSwept p m o t t l (held x)
  unfolding named_by slot_sound
  cell_swept v e h = sweeps_none o _ _ t (λ r. ap (legal p x) (sym e) ∙ h) refl

pub nought_swept : (p m : List ℕ) (o l : ℕ) (t : List ℕ) → SlotSwept p m o t t l nought
unfolding named_by slot_sound
nought_swept p m o l t = sweeps_none o _ _ t (λ r. refl) refl

-- ---- all D slots

-- the word at which the slot of D command j of o begins: D slots lie in a row
pub slot_in_row : (p m : List ℕ) (o j i d : ℕ) → j < commands_d p (reactor m o)
    → d ≡ slot_at p (reactor m o) (source_count p (reactor m o))
    → i ≡ o + d + 2 * j → i ≡ slot p m o (command_loc p (reactor m o) j)
unfolding slot command_loc
slot_in_row p m o j i d h e f =
    let r = reactor m o in
    let first = slot_low p r (source_count p r) (omega arith) in
    omega (arith, slot_low p r (source_count p r + j) (omega arith))

module _ (p m : List ℕ) (o n j : ℕ) (t : List ℕ) where
  pub slots_swept : n ≤ j → j ≤ n → Sweeps o (children_from p m (n - j) j o)
      (λ (t : List ℕ). sweep (command_sound p m t o) j (n - j) =? n) t t
  unfolding children_from
  slots_swept h g =
      let e : n - j ≡ 0 = omega arith in
      sweeps_none o _ _ t (λ r. eq! (sym (sweep_done (command_sound p m r o) j n h) ∙ omega arith)) (rw e refl)

  pub slots_further : (made : Made) (t₁ t₂ : List ℕ) → j < n → made ≡ made_by (cmd_of p (reactor m o) j)
      → SlotSwept p m o t t₁ (command_loc p (reactor m o) j) made
      → Sweeps o (children_from p m (n - (j + 1)) (j + 1) o)
      (λ (t : List ℕ). sweep (command_sound p m t o) (j + 1) (n - (j + 1)) =? n) t₁ t₂
      → Sweeps o (children_from p m (n - j) j o) (λ (t : List ℕ). sweep (command_sound p m t o) j (n - j) =? n) t t₂
  unfolding children_from command_sound
  slots_further made t₁ t₂ h its one rest =
      let e : n - j ≡ suc (n - (j + 1)) = omega arith in
      sweeps_then o _ _ _ _ _ _ t t₁ t₂ (rw (e, its) refl)
      (λ r a b. ap (λ (i : ℕ). i =? n) (sweep_next (command_sound p m r o) j n h (rw its at a)) ∙ b) one rest

module _ (p m : List ℕ) (o n : ℕ) (t t₁ : List ℕ) (its : n ≡ commands_d p (reactor m o)) where
  pub slots_all : Sweeps o (children_from p m (n - 0) 0 o)
      (λ (t : List ℕ). sweep (command_sound p m t o) 0 (n - 0) =? n) t t₁
      → SlotsSwept p m o t t₁
  unfolding children_of
  slots_all h = let e : n - 0 ≡ n = omega arith in rw (← its) (rw e at h)

-- ---- a deployment

-- its byte is that of a depth from 1 to 64
module _ (a k : ℕ) (t : List ℕ) (its : k ≡ table_byte t a) (tested : (ltb k 5 || ltb 68 k) ≡ false) where
  pub placed_here : Placed a k t
  placed_here =
      let b = or×? (sym (same_or (same_lt refl refl) (same_lt refl refl)) ∙ tested) in
      record { held = sym its; least = lt×? b.0; most = lt×? b.1 }

  pub placed_there : Placed a (table_byte t a) t
  placed_there =
      let q = placed_here in
      let l = q.least in
      let m = q.most in
      record { held = refl; least = omega arith; most = omega arith }

module _ (p m : List ℕ) (a : ℕ) (t t₁ : List ℕ) where
  pub own_swept : wired m a ≡ 1 → clear_at p m a ≡ true
      → SlotsSwept p m a t t₁ → OwnSwept p m a t t₁
  unfolding own_sound command_sound
  own_swept e f h = sweeps_as a _ _ _ _ t t₁ refl (λ r q. both! (eq! e) (both! f q)) h
