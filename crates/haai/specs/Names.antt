-- 8.7, 5.27 Names and counts: the tree of a text whose form is right, and the lowest byte that 17 blames. One pass
-- over the words in their roles, since a name means what was declared before it.
use Rattle.std.specs.Prelude.{ℕ, ◌+◌, Bool, true, not, List, [], ◌∷◌, ◌++◌, length, get_or}
use Rattle.value.specs.Test.{pick, ◌<?◌, ◌=?◌, ◌and◌, ◌or◌, guard}
use Rattle.haai.specs.Word.{same_word, position, among, taken_words, time_bytes, signs}
use Rattle.haai.specs.Grammar.{Item}
use Rattle.haai.specs.Syntax.{Operator, sign, reactor, Expr, Exprs, parameter, global, constant, apply, none}
use Rattle.haai.specs.Syntax.{also, count_of, Definition, Text}
use Rattle.haai.specs.declared.Role.{Role}
use Rattle.haai.specs.declared.Role.TheVariants.{Source, Reactor, Parameter, Operand, Constant}
use Rattle.haai.specs.declared.Role.TheVariants.{Operator as AnOperator, Apply, Define, Fixed}

-- an application whose bracket is open: its operator, the operator's place, its operands so far
pub record Opened : Type 0 where
  pub operator : Operator
  pub at : ℕ
  pub operands : Exprs

-- What is known after some words. `fault` is the lowest byte at fault so far; the text's length if there is none.
pub record Known : Type 0 where
  pub fault : ℕ
  -- the names of the sources, of the reactors (the present one's last) and of all their parameters
  pub sources : List (List ℕ)
  pub reactors : List (List ℕ)
  pub others : List (List ℕ)
  -- the definitions before the present one
  pub definitions : List Definition
  -- the present one: the place of its name, its parameters, its whole expressions, and its open applications, from the
  -- innermost on
  pub at : ℕ
  pub parameters : List (List ℕ)
  pub body : Exprs
  pub pile : List Opened

unfoldable pub nothing : ℕ → Known
nothing n =
    record {
      fault = n;
      sources = [];
      reactors = [];
      others = [];
      definitions = [];
      at = 0;
      parameters = [];
      body = none;
      pile = [];
    }

-- the lowest fault, with one more at q unless t holds
unfoldable pub unless : Bool → ℕ → ℕ → ℕ
unless t q f = pick t f (pick (q <? f) q f)

-- ---- names

-- 8.7 Whether w may be a new name beside these.
unfoldable pub fresh : List (List ℕ) → List ℕ → Bool
fresh ns w = not (among taken_words w or among ns w)

-- 8.7 What an operand's name stands for, and whether it may stand there: a parameter, a source, the time.
unfoldable pub meant : Known → List ℕ → Expr
meant k w =
    guard (not (among k.parameters w)) (parameter (position k.parameters w)) (λ _.
    guard (not (among k.sources w)) (global (position k.sources w + 1)) (λ _.
    global 0))

unfoldable pub fit_operand : Known → List ℕ → Bool
fit_operand k w = among k.parameters w or (among k.sources w or same_word time_bytes w)

unfoldable pub operator_of : Known → List ℕ → Operator
operator_of k w =
    guard (not (among signs w)) (sign (position signs w)) (λ _. reactor (position k.reactors w))

abbrev pub no_definition : Definition
no_definition = record { parameters = 0; body = none }

unfoldable pub definition_of : Known → ℕ → Definition
definition_of k j = get_or k.definitions j no_definition

-- 8.8 An earlier reactor can be called if it has one sink.
unfoldable pub callable : Known → Operator → Bool
callable k (sign o) = true
callable k (reactor j) = (j <? length k.definitions) and (count_of (definition_of k j).body =? 1)

-- 8.8 How many operands an operator takes.
unfoldable pub takes : Known → Operator → ℕ
takes k (sign o) = 2
takes k (reactor j) = (definition_of k j).parameters

-- ---- one word

module _ (k : Known) (q : ℕ) (w : List ℕ) where
  unfoldable pub add_source : Known
  add_source =
      record {
        fault = unless (fresh k.sources w) q k.fault;
        sources = k.sources ++ (w ∷ []);
        reactors = k.reactors;
        others = k.others;
        definitions = k.definitions;
        at = k.at;
        parameters = k.parameters;
        body = k.body;
        pile = k.pile;
      }

  unfoldable pub add_reactor : Known
  add_reactor =
      record {
        fault = unless (fresh (k.sources ++ (k.reactors ++ k.others)) w) q k.fault;
        sources = k.sources;
        reactors = k.reactors ++ (w ∷ []);
        others = k.others;
        definitions = k.definitions;
        at = q;
        parameters = [];
        body = none;
        pile = [];
      }

  unfoldable pub add_parameter : Known
  add_parameter =
      record {
        fault = unless (fresh (k.sources ++ (k.reactors ++ k.parameters)) w) q k.fault;
        sources = k.sources;
        reactors = k.reactors;
        others = k.others ++ (w ∷ []);
        definitions = k.definitions;
        at = k.at;
        parameters = k.parameters ++ (w ∷ []);
        body = k.body;
        pile = k.pile;
      }

unfoldable pub with_pile : Known → ℕ → Exprs → List Opened → Known
with_pile k f b os =
    record {
      fault = f;
      sources = k.sources;
      reactors = k.reactors;
      others = k.others;
      definitions = k.definitions;
      at = k.at;
      parameters = k.parameters;
      body = b;
      pile = os;
    }

unfoldable pub with_operand : Opened → Expr → Opened
with_operand o e = record { operator = o.operator; at = o.at; operands = also o.operands e }

-- a whole expression: an operand of the innermost application, or of the body
unfoldable pub add_expr : Known → ℕ → List Opened → Expr → Known
add_expr k f [] e = with_pile k f (also k.body e) []
add_expr k f (o ∷ os) e = with_pile k f k.body (with_operand o e ∷ os)

unfoldable pub add_operator : Known → ℕ → Operator → Known
add_operator k q o =
    with_pile k (unless (callable k o) q k.fault) k.body
    (record { operator = o; at = q; operands = none } ∷ k.pile)

-- a wrong count of operands is at the operator
unfoldable pub closed : Known → List Opened → Known
closed k [] = k
closed k (o ∷ os) =
    add_expr k (unless (count_of o.operands =? takes k o.operator) o.at k.fault) os
    (apply o.operator o.operands)

unfoldable pub add_definition : Known → Known
add_definition k =
    record {
      fault = k.fault;
      sources = k.sources;
      reactors = k.reactors;
      others = k.others;
      definitions = k.definitions ++ (record { parameters = length k.parameters; body = k.body } ∷ []);
      at = k.at;
      parameters = k.parameters;
      body = k.body;
      pile = k.pile;
    }

unfoldable pub learn : Known → ℕ → List ℕ → Role → Known
learn k q w Source = add_source k q w
learn k q w Reactor = add_reactor k q w
learn k q w Parameter = add_parameter k q w
learn k q w Operand = add_expr k (unless (fit_operand k w) q k.fault) k.pile (meant k w)
learn k q w (Constant n) = add_expr k k.fault k.pile (constant n)
learn k q w AnOperator = add_operator k q (operator_of k w)
learn k q w Apply = closed k k.pile
learn k q w Define = add_definition k
learn k q w Fixed = k

unfoldable pub learn_all : Known → List Item → Known
learn_all k [] = k
learn_all k (i ∷ is) = let next = learn k i.word.at i.word.bytes i.role in learn_all next is

-- ---- the text

-- 8.2 Main has no parameters: else the fault is at its name.
unfoldable pub fault_of : Known → ℕ
fault_of k = unless (length k.parameters =? 0) k.at k.fault

unfoldable pub text_of : Known → Text
text_of k = record { sources = length k.sources; definitions = k.definitions }
