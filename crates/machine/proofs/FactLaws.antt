-- What the table of facts tells of a reactor, and what follows for the places of its commands and slots.
-- Assumes nothing.
use Rattle.std.specs.Prelude.{ℕ, suc, ◌+◌, ◌*◌, ◌<◌, ◌≡◌, refl, List}
use Rattle.std.proofs.Common.{sym, ◌∙◌, ap, subst, arith}
use native.Mathlib.Numerals.{add-one}
use Rattle.value.specs.Test.{pick}
use Rattle.value.specs.Value.{value}
use Rattle.value.specs.declared.Value.{Value}
use Rattle.program.specs.Bytes.{byte, reactors, commands_d, commands_r, commands_in, commands_at, command_at}
use Rattle.program.specs.Command.{Cmd, takes_words, bytes_at, bytes_of, cmd_of}
use Rattle.program.specs.declared.Command.{Command}
use Rattle.program.specs.Clauses.{Facts, Tells}
use Rattle.program.specs.Location.{source_count, command_loc, slot_at, results}
use Rattle.program.proofs.Decode.{as_keep}
use Rattle.program.proofs.Slots.{slot_low, slot_r}
use Rattle.image.specs.Memory.{word, reactor, slot, mark, content, value_at}
use Rattle.machine.specs.Clauses.{Remembering, Loaded}

-- what `fact` answers for a reactor of the program tells of it
pub told : {p t : List ℕ} {r s w : ℕ} → Loaded p t → r ≡ s → s < reactors p
    → ((q : List ℕ) → Facts q t → r < reactors q → Tells q r w) → Tells p s w
told {p} {t} {r} {s} {w} known e low f =
    subst (λ (x : ℕ). Tells p x w) e (f p known.facts (omega arith))

-- the code of command j
pub code_at : (p : List ℕ) (r j at b : ℕ) → at ≡ commands_at p r → b ≡ byte p (at + 8 * j) → (bytes_of p r j).code ≡ b
unfolding bytes_of bytes_at command_at
code_at p r j at b e f = rw (f, e) refl

-- the bytes of R command j, after d D commands
pub bytes_here : (p : List ℕ) (r j at d : ℕ) (c : Command) → at ≡ commands_at p r → d ≡ commands_d p r
    → c ≡ bytes_at p (at + 8 * d + 8 * j) → c ≡ bytes_of p r (commands_d p r + j)
unfolding bytes_of command_at
bytes_here p r j at d c e f g = g ∙ ap (bytes_at p) (omega arith)

-- the value whose words lie at i
pub value_there : (p m : List ℕ) (o l i : ℕ) (v : Value) → i ≡ slot p m o l → v ≡ value (word m i) (word m (i + 1))
    → v ≡ value_at p m o l
unfolding value_at mark content
value_there p m o l i v e f = rw (← e) f

-- the slot of D command j, d where D slots begin
pub slot_row : (p m : List ℕ) (o r j d : ℕ) → reactor m o ≡ r → j < commands_d p r → d ≡ slot_at p r (source_count p r)
    → o + d + 2 * j ≡ slot p m o (command_loc p (reactor m o) j)
unfolding slot command_loc
slot_row p m o r j d e h f =
    rw e (omega (arith, slot_low p r (source_count p r) (omega arith), slot_low p r (source_count p r + j) (omega arith)))

module _ (p m : List ℕ) (o r : ℕ) (same : reactor m o ≡ r) where
  -- the slot of R command j
  pub slot_run : (i j : ℕ) → i ≡ o + slot_at p r (source_count p r + commands_d p r + j)
      → i ≡ slot p m o (command_loc p (reactor m o) (commands_d p r + j))
  unfolding slot command_loc
  slot_run i j e = rw same (e ∙ ap (λ (l : ℕ). o + slot_at p r l) (omega arith))

  -- that of a Keep's cell: command i is the Keep
  pub slot_cell : (i : ℕ) (c : Command) → Remembering p → r < reactors p → i < commands_in p r → c ≡ bytes_of p r i
      → c.code ≡ 13 → o + 3 + 2 * c.b ≡ slot p m o c.b
  unfolding slot cmd_of command_loc
  slot_cell i c known low h e f =
      let cell = known r i c.a c.b low h (rw (← e) (sym (as_keep (λ (d : Cmd). d) c f refl))) in
      rw same (omega (arith, slot_low p r c.b (omega (arith, cell.located, cell.in_d))))

-- where the slot of the R command after j begins, w the words that j has
pub slot_after : (p : List ℕ) (r j w : ℕ)
    → j < commands_r p r → w ≡ pick (takes_words (cmd_of p r (commands_d p r + j))) 1 0
    → slot_at p r (source_count p r + commands_d p r + j) + 2 * w ≡ slot_at p r (source_count p r + commands_d p r + (j + 1))
unfolding results
slot_after p r j w h e =
    let s : j + 1 ≡ suc j = add-one j in
    rw s (omega (arith, e, slot_r p r j (omega arith), slot_r p r (suc j) (omega arith)))
