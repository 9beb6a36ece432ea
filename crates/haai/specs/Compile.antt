-- 8.12 The call: a text to bytecode.
use Rattle.std.specs.Prelude.{ℕ, List, [], length, Ok, Err}
use Rattle.value.specs.Test.{◌≤?◌, ◌=?◌, guard}
use Rattle.image.specs.Memory.{patch}
use Rattle.answer.specs.Answer.{Answer}
use Rattle.answer.specs.declared.Refusal.{Refusal}
use Rattle.answer.specs.declared.Refusal.TheVariants.{TextForm, TextName, OutputSpace}
use Rattle.haai.specs.Grammar.{Formed, items, fault, form_of}
use Rattle.haai.specs.Syntax.{Text}
use Rattle.haai.specs.Names.{Known, nothing, learn_all, fault_of, text_of}
use Rattle.haai.specs.Emit.{program_of, within_limits}

-- an answer, and the output space then
pub record Compilation : Type 0 where
  pub answer : Answer
  pub output : List ℕ

unfoldable pub refused : List ℕ → Refusal → Compilation
refused out w = record { answer = Err w; output = out }

-- 5.28, 8.12 The bytes from the first of the output space on, if they fit; those after them stay.
unfoldable pub written : List ℕ → Text → Compilation
written out x =
    guard (within_limits x.definitions) (refused out (OutputSpace 0)) (λ _.
    let p = program_of x in
    guard (length p ≤? length out) (refused out (OutputSpace (length p))) (λ _.
    record { answer = Ok (length p); output = patch out 0 p }))

-- 8.13 First 16, of the whole text; then 17, at the lowest byte; then 18.
unfoldable pub by_names : ℕ → List ℕ → Known → Compilation
by_names n out k = guard (fault_of k =? n) (refused out (TextName (fault_of k))) (λ _. written out (text_of k))

unfoldable pub by_form : ℕ → List ℕ → Formed → Compilation
by_form n out (items is) = by_names n out (learn_all (nothing n) is)
by_form n out (fault q) = refused out (TextForm q)

-- the tree of a text whose form is right
unfoldable pub tree_by : ℕ → Formed → Text
tree_by n (items is) = text_of (learn_all (nothing n) is)
tree_by n (fault q) = record { sources = 0; definitions = [] }

unfoldable pub tree_of : List ℕ → Text
tree_of t = tree_by (length t) (form_of t)

-- t the text, out the output space
unfoldable pub compile_of : List ℕ → List ℕ → Compilation
compile_of t out = by_form (length t) out (form_of t)
