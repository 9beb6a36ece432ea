-- What a word adds leaves the lengths of the output and of the locations as they are.
use Rattle.std.specs.Prelude.{ℕ, ◌+◌, ◌≤◌, ◌≡◌, List, [], ◌∷◌, length}
use Rattle.std.proofs.Common.{◌∙◌, arith}
use Rattle.value.specs.Test.{◌≤?◌, ◌<?◌}
use Rattle.value.proofs.Tests.{le?, pick_any}
use lib.ListN.{length-set}
use Rattle.program.specs.Command.{Cmd}
use Rattle.program.specs.Encode.{encode}
use Rattle.program.proofs.Encode.{length-encode}
use Rattle.image.proofs.Memory.Patch.{patch-length}
use Rattle.haai.specs.declared.Knowing.{Knowing}
use Rattle.haai.specs.Writing.{put_command, put_commands, Added, added, add_give, add_meant, add_call, add_applied}
use Rattle.haai.specs.Writing.{add_sinks, add_operand, add_constant, add_apply, adds}
use Rattle.haai.specs.declared.Cursor.{Cursor}
use Rattle.haai.specs.declared.Meant.{Meant}
use Rattle.haai.specs.declared.Meant.TheVariants.{Parameter as AParameter, Global}
use Rattle.haai.specs.declared.Operator.{Operator}
use Rattle.haai.specs.declared.Operator.TheVariants.{Sign, Reactor as AReactor}
use Rattle.haai.specs.declared.Role.{Role}
use Rattle.haai.specs.declared.Role.TheVariants.{Source, Reactor, Parameter, Operand, Constant}
use Rattle.haai.specs.declared.Role.TheVariants.{Operator as AnOperator, Apply, Define, Fixed}
use Rattle.haai.specs.declared.Tally.{Tally}
use Rattle.haai.specs.declared.Tree.{Tree}

module _ (n : ℕ) where
  -- the output and the locations have the lengths n and 119
  abbrev pub Long : Added → Type 0
  Long a = (length a.output ≡ n) × (length a.locations ≡ 119)

  put_long : (out : List ℕ) (at : ℕ) (c : Cmd) → length out ≡ n → length (put_command out at c) ≡ n
  unfolding put_command
  put_long out at c h =
      pick_any (λ (x : List ℕ). length x ≡ n) (at + 8 ≤? length out)
      (λ e.
      let l : at + 8 ≤ length out = le? e in
      let m = length-encode c in
      patch-length out at (encode c) (omega arith) ∙ h)
      (λ e. h)

  puts_long : (cs : List Cmd) (out : List ℕ) (at : ℕ) → length out ≡ n → length (put_commands out at cs) ≡ n
  unfolding put_commands
  puts_long [] out at h = h
  puts_long (c ∷ cs) out at h = puts_long cs (put_command out at c) (at + 8) (put_long out at c h)

  module _ (c : Cursor) (ls out : List ℕ) (h : length out ≡ n) (l : length ls ≡ 119) where
    give_long : (entry : ℕ) (g : Cmd) → Long (add_give c entry g ls out)
    unfolding add_give added
    give_long entry g = (put_long out _ g h, length-set ls entry _ ∙ l)

    meant_long : (entry : ℕ) (m : Meant) → Long (add_meant c entry ls out m)
    unfolding add_meant added
    meant_long entry (AParameter i) = (h, length-set ls entry _ ∙ l)
    meant_long entry (Global g) = give_long entry _

    applied_long : (o : Operator) (i m entry : ℕ) → Long (add_applied c o i m ls entry out)
    unfolding add_applied add_call added
    applied_long (Sign o) i m entry = give_long entry _
    applied_long (AReactor j) i m entry = (puts_long _ _ _ (put_long out _ _ h), length-set ls entry _ ∙ l)

    pub adds_long : (t w : List ℕ) (x : Knowing) (r : Role)
        → Long (adds t w x c ls out r)
    unfolding adds added add_operand add_constant add_apply add_sinks
    adds_long t w x Source = (h, l)
    adds_long t w x Reactor = (h, l)
    adds_long t w x Parameter = (h, l)
    adds_long t w x Operand = meant_long _ _
    adds_long t w x (Constant y) = give_long _ _
    adds_long t w x AnOperator = (h, l)
    adds_long t w x Apply = applied_long _ _ _ _
    adds_long t w x Define = (puts_long _ out _ h, l)
    adds_long t w x Fixed = (h, l)
