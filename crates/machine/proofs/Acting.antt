-- What a command's code leaves, as the definition of the command says it.
-- Assumes nothing.
use Rattle.std.specs.Prelude.{ℕ, zero, suc, ◌+◌, ◌-◌, ◌*◌, ◌≤◌, ◌<◌, ◌≡◌, true, false, List, set, Ok}
use Rattle.std.proofs.Common.{sym, ◌∙◌, ap, arith}
use Rattle.value.specs.Value.{value, blank_mark, deployment_mark, is_blank}
use Rattle.value.specs.declared.Value.{Value}
use Rattle.value.proofs.Tests.{eq!, eq×}
use Rattle.program.specs.Location.{source_count}
use Rattle.program.proofs.Slots.{slot_low}
use Rattle.image.specs.Memory.{word, turns, reactor, slot, mark, content, value_at, store}
use Rattle.remus.specs.Exec.{there, global_value}
use Rattle.remus.specs.Turn.{reading_at}
use Rattle.machine.specs.declared.Outcome.TheVariants.{Given, Move}
use Rattle.machine.specs.Clauses.{Acted, did}

-- ---- a slot's two words, by their index
module _ (p m : List ℕ) (o l i : ℕ) (e : i ≡ slot p m o l) where
  pub read_at : {v : Value} → v ≡ value (word m i) (word m (i + 1)) → v ≡ value_at p m o l
  unfolding value_at mark content
  read_at h = rw e at h

  pub content_at : {n : ℕ} → n ≡ word m (i + 1) → n ≡ content p m o l
  unfolding content
  content_at h = rw e at h

  pub stored_at : (v : Value) {m' : List ℕ} → m' ≡ set (set m i v.mark) (i + 1) v.content → m' ≡ store p m o l v
  unfolding store
  stored_at v h = rw e at h

-- sources come first
pub source_at : (p m : List ℕ) (d x : ℕ) → x < source_count p (reactor m d) → d + 3 + 2 * x ≡ slot p m d x
unfolding slot
source_at p m d x h = omega (arith, slot_low p (reactor m d) x (omega arith))

-- ---- what is at b, by the value v read there
module _ (p m : List ℕ) (o b : ℕ) {v : Value} (e : v ≡ value_at p m o b) where
  pub is_blank_lem : v.mark ≡ blank_mark → is_blank (value_at p m o b) ≡ true
  unfolding is_blank
  is_blank_lem h = eq! (sym (ap (λ (w : Value). w.mark) e) ∙ h)

  pub not_blank : (v.mark ≡ blank_mark → ⊥) → is_blank (value_at p m o b) ≡ false
  unfolding is_blank
  not_blank n = eq× (λ h. n (ap (λ (w : Value). w.mark) e ∙ h))

  pub is_there : v.mark ≡ deployment_mark → there p m o b ≡ true
  unfolding there value_at
  is_there h = eq! (sym (ap (λ (w : Value). w.mark) e) ∙ h)

  pub not_there : (v.mark ≡ deployment_mark → ⊥) → there p m o b ≡ false
  unfolding there value_at
  not_there n = eq× (λ h. n (ap (λ (w : Value). w.mark) e ∙ h))

  pub content_of : v.content ≡ content p m o b
  unfolding value_at
  content_of = ap (λ (w : Value). w.content) e

-- ---- a value given, or stored elsewhere, by what it equals
module _ (p m : List ℕ) (o l : ℕ) (v w : Value) where
  pub gives : {x : Acted} → x ≡ did (Ok Given) (store p m o l v) → v ≡ w → x ≡ did (Ok Given) (store p m o l w)
  gives e f = e ∙ ap (λ (u : Value). did (Ok Given) (store p m o l u)) f

  pub leaves : {m' : List ℕ} → m' ≡ store p m o l v → v ≡ w → did (Ok Move) m' ≡ did (Ok Move) (store p m o l w)
  leaves e f = ap (did (Ok Move)) (e ∙ ap (store p m o l) f)

-- a global by its number
pub global_time : (rd m : List ℕ) (x t : ℕ) → x < 1 → t ≡ turns m + 1 → value 1 t ≡ global_value rd m x
unfolding global_value
global_time rd m zero t h e = ap (value 1) e
global_time rd m (suc x) t h e = absurd (omega arith)

pub global_reading : (rd m : List ℕ) (x : ℕ) {v : Value} → 1 ≤ x → v ≡ reading_at rd (x - 1) → v ≡ global_value rd m x
unfolding global_value reading_at
global_reading rd m zero h e = absurd (omega arith)
global_reading rd m (suc x) h e = let k : suc x - 1 ≡ x = omega arith in rw k at e
