-- D commands, one after the other.
-- Assumes nothing.
use Rattle.std.specs.Prelude.{ℕ, suc, ◌+◌, ◌-◌, ◌*◌, ◌≤◌, ◌<◌, ◌≡◌, refl, List, Ok, Err}
use Rattle.std.proofs.Common.{sym, ◌∙◌, ap, arith}
use Rattle.program.specs.Bytes.{commands_d, commands_in, commands_at, command_at}
use Rattle.program.specs.Command.{bytes_at, bytes_of, cmd_of}
use Rattle.program.specs.declared.Command.{Command}
use Rattle.program.specs.Location.{source_count, command_loc, slot_at}
use Rattle.program.proofs.Slots.{slot_low}
use Rattle.image.specs.Memory.{slot}
use Rattle.answer.specs.declared.Refusal.{Refusal}
use Rattle.remus.specs.Run.{Ran, stopped}
use Rattle.remus.specs.Steady.{Fits}
use Rattle.machine.specs.Clauses.{Here, Declares, ran_as, stepping, Left}
use Rattle.answer.specs.Answer.{Ruling}
use Rattle.machine.proofs.Running.{knows, ready_apart, steps, goes_on, breaks_off}
use Rattle.machine.proofs.Opening.{left_at}

-- the slots of D commands stand in a row
pub row : (p : List ℕ) (r j : ℕ) → j ≤ commands_d p r
    → slot_at p r (source_count p r + j) ≡ slot_at p r (source_count p r) + 2 * j
row p r j h =
    let a = slot_low p r (source_count p r + j) (omega arith) in
    let b = slot_low p r (source_count p r) (omega arith) in
    omega (arith, a, b)

-- the bytes of command j, by where the commands begin
pub bytes_there : (p : List ℕ) (r at j : ℕ) (c : Command) → c ≡ bytes_at p (at + 8 * j) → at ≡ commands_at p r → c ≡
    bytes_of p r j
unfolding bytes_of command_at
bytes_there p r at j c e a = e ∙ ap (λ (x : ℕ). bytes_at p (x + 8 * j)) a

module _ (p rd : List ℕ) (f h o : ℕ) (x : Ran) (r n j : ℕ) (m : List ℕ) (l : Left p rd f h o x r (suc n) j m) where
  -- a D command, by what its code leaves
  declares : j < commands_d p r → (here : ℕ) → here ≡ o + slot_at p r (source_count p r) + 2 * j
      → (q : Ruling) (m₁ : List ℕ) → (Fits p r m o j → Here p m o j here → Declares p h m o j (cmd_of p r j) q m₁)
      → stepping p rd f h o j m ≡ ran_as q m₁
  unfolding slot command_loc
  declares i here e q m₁ code =
      let k = knows p rd f h o x r n j m l in
      let set = ready_apart p m o r k.same j (λ y. omega arith) in
      let fits : Fits p r m o j = rw set at k.fits in
      let at : Here p m o j here = rw k.same (let y = row p r j (omega arith) in omega arith) in
      steps p rd f h o j r m k.same set _ refl ∙ sym (code fits at _ rd)

module _ (p rd : List ℕ) (f h o : ℕ) (x : Ran) (r : ℕ) (m m₁ : List ℕ) (j here : ℕ) (q : Ruling)
    (i : j < commands_d p r) (e : here ≡ o + slot_at p r (source_count p r) + 2 * j)
    (code : Fits p r m o j → Here p m o j here → Declares p h m o j (cmd_of p r j) q m₁)
    (l : Left p rd f h o x r (commands_in p r - j) j m) where
  abbrev rest : ℕ
  rest = commands_in p r - (j + 1)

  more : Left p rd f h o x r (suc rest) j m
  unfolding commands_in
  more = left_at p rd f h o (omega arith) refl l

  pub declared_on : q ≡ Ok tt → Left p rd f h o x r rest (j + 1) m₁
  unfolding ran_as
  declared_on w = goes_on p rd f h o x r rest j m more m₁
      (declares p rd f h o x r rest j m more i here e q m₁ code ∙ ap (λ (y : Ruling). ran_as y m₁) w)

  pub declared_off : (v : Refusal) → q ≡ Err v → x ≡ stopped v m₁
  unfolding ran_as
  declared_off v w =
      breaks_off p rd f h o x r rest j m more v m₁ (declares p rd f h o x r rest j m more i here e q m₁ code ∙ ap
      (λ (y : Ruling). ran_as y m₁) w)
