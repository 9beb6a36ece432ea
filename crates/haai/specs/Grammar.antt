-- 8.2 The form of a text, word by word from the left: which word can come next, and what it is in the form. A taken
-- word counts as a name where a name can stand, and is for 17 to refuse.
use Rattle.std.specs.Prelude.{ℕ, ◌+◌, ◌-◌, Bool, true, false, List, [], ◌∷◌, length, Option, Some, None}
use Rattle.value.specs.Test.{pick, ◌<?◌, ◌≤?◌, ◌=?◌, ◌and◌}
use Rattle.program.specs.Bytes.{most_globals}
use Rattle.haai.specs.Word.{Word, words_of, class_of, taken_number, defr_word, out_word, source_word}
use Rattle.haai.specs.declared.Class.{Class}
use Rattle.haai.specs.declared.Class.TheVariants.{Open, Shut, Sign, Number, Taken, Name, Other}
use Rattle.haai.specs.declared.Phase.{Phase}
use Rattle.haai.specs.declared.Phase.TheVariants.{Top, Form, SourceName, SourceEnd, Head, ReactorName}
use Rattle.haai.specs.declared.Phase.TheVariants.{Parameters, Body, First, Out, Operator, Operands, End}
use Rattle.haai.specs.declared.Reading.{Reading}
use Rattle.haai.specs.declared.Role.{Role}
use Rattle.haai.specs.declared.Role.TheVariants.{Source, Reactor, Parameter, Operand, Constant}
use Rattle.haai.specs.declared.Role.TheVariants.{Operator as AnOperator, Apply, Define, Fixed}
use Rattle.haai.specs.declared.Taken.{Taken as TakenWord}

-- 8.2, 8.3, 8.4 The most definitions, the most parameters or expressions of one, the most open brackets.
abbrev pub most_definitions : ℕ
most_definitions = 32

abbrev pub most_ports : ℕ
most_ports = 7

abbrev pub most_brackets : ℕ
most_brackets = 16

-- The form takes a word, in a role, and the state after it; or it can't.
abbrev pub Step : Type 0
Step = Option (Role × Reading)

abbrev pub takes : Role → Reading → Step
takes r s = Some (r, s)

abbrev pub refuses : Step
refuses = None

-- ---- classes

unfoldable pub is_open : Class → Bool
is_open Open = true
is_open Shut = false
is_open (Sign o) = false
is_open (Number n) = false
is_open (Taken k) = false
is_open Name = false
is_open Other = false

unfoldable pub is_shut : Class → Bool
is_shut Open = false
is_shut Shut = true
is_shut (Sign o) = false
is_shut (Number n) = false
is_shut (Taken k) = false
is_shut Name = false
is_shut Other = false

-- whether a word can be taken for a name: a taken word can, and 17 blames it then
unfoldable pub named : Class → Bool
named Open = false
named Shut = false
named (Sign o) = false
named (Number n) = false
named (Taken k) = true
named Name = true
named Other = false

unfoldable pub operates : Class → Bool
operates Open = false
operates Shut = false
operates (Sign o) = true
operates (Number n) = false
operates (Taken k) = true
operates Name = true
operates Other = false

-- the taken word k
unfoldable pub is_taken : TakenWord → Class → Bool
is_taken k Open = false
is_taken k Shut = false
is_taken k (Sign o) = false
is_taken k (Number n) = false
is_taken k (Taken j) = taken_number j =? taken_number k
is_taken k Name = false
is_taken k Other = false

-- ---- states

unfoldable pub begin : Reading
begin = record { phase = Top; sources = 0; definitions = 0; count = 0; depth = 0; many = false }

-- on to phase q
unfoldable pub on_to : Phase → Reading → Reading
on_to q s =
    record {
      phase = q;
      sources = s.sources;
      definitions = s.definitions;
      count = s.count;
      depth = s.depth;
      many = s.many;
    }

-- on to phase q with n parameters or expressions, `more` if the body is an `out`
unfoldable pub counting : Phase → ℕ → Bool → Reading → Reading
counting q n more s =
    record { phase = q; sources = s.sources; definitions = s.definitions; count = n; depth = 0; many = more }

unfoldable pub deepened : Phase → ℕ → Reading → Reading
deepened q n s =
    record {
      phase = q;
      sources = s.sources;
      definitions = s.definitions;
      count = s.count;
      depth = n;
      many = s.many;
    }

unfoldable pub sourced : Reading → Reading
sourced s =
    record {
      phase = Top;
      sources = s.sources + 1;
      definitions = s.definitions;
      count = 0;
      depth = 0;
      many = false;
    }

unfoldable pub defined : Reading → Reading
defined s =
    record {
      phase = Top;
      sources = s.sources;
      definitions = s.definitions + 1;
      count = 0;
      depth = 0;
      many = false;
    }

-- after a whole expression with d brackets around it: an operand, an e of `out`, or the body
unfoldable pub after_expression : Reading → ℕ → Reading
after_expression s d =
    pick (0 <? d) (deepened Operands d s)
    (pick s.many (counting Out (s.count + 1) true s)
    (counting End 1 false s))

-- ---- one word

-- an expression's first word: a bracket, a number or a name
unfoldable pub expression : Reading → Class → Step
expression s Open = pick (s.depth <? most_brackets) (takes Fixed (deepened Operator (s.depth + 1) s)) refuses
expression s Shut = refuses
expression s (Sign o) = refuses
expression s (Number n) = takes (Constant n) (after_expression s s.depth)
expression s (Taken k) = takes Operand (after_expression s s.depth)
expression s Name = takes Operand (after_expression s s.depth)
expression s Other = refuses

-- 8.2 to 8.4 What each phase takes; counts of operands are no matter of the form.
unfoldable pub step_at : Phase → Reading → Class → Step
-- between forms: 32 definitions are all
step_at Top s c = pick (is_open c and (s.definitions <? most_definitions)) (takes Fixed (on_to Form s)) refuses
-- `source` while there is no definition, up to 31 times; or `defr`
step_at Form s c =
    pick (is_taken source_word c and ((s.definitions =? 0) and (s.sources <? most_globals)))
    (takes Fixed (on_to SourceName s))
    (pick (is_taken defr_word c) (takes Fixed (on_to Head s)) refuses)
step_at SourceName s c = pick (named c) (takes Source (on_to SourceEnd s)) refuses
step_at SourceEnd s c = pick (is_shut c) (takes Fixed (sourced s)) refuses
-- `(name p ...)`
step_at Head s c = pick (is_open c) (takes Fixed (on_to ReactorName s)) refuses
step_at ReactorName s c = pick (named c) (takes Reactor (counting Parameters 0 false s)) refuses
step_at Parameters s c =
    pick (is_shut c) (takes Fixed (counting Body 0 false s))
    (pick (named c and (s.count <? most_ports))
    (takes Parameter (counting Parameters (s.count + 1) false s))
    refuses)
-- one expression or `(out e ...)`
step_at Body s c = pick (is_open c) (takes Fixed (deepened First 1 s)) (expression s c)
step_at First s c =
    pick (is_taken out_word c) (takes Fixed (counting Out 0 true s))
    (pick (operates c) (takes AnOperator (on_to Operands s)) refuses)
step_at Out s c =
    pick (is_shut c and (1 ≤? s.count)) (takes Fixed (counting End s.count true s))
    (pick (s.count <? most_ports) (expression s c) refuses)
-- after an expression's bracket: + - * / or a name
step_at Operator s c = pick (operates c) (takes AnOperator (on_to Operands s)) refuses
step_at Operands s c = pick (is_shut c) (takes Apply (after_expression s (s.depth - 1))) (expression s c)
-- the end of a definition
step_at End s c = pick (is_shut c) (takes Define (defined s)) refuses

unfoldable pub step_of : Reading → Class → Step
step_of s c = step_at s.phase s c

unfoldable pub is_top : Phase → Bool
is_top Top = true
is_top Form = false
is_top SourceName = false
is_top SourceEnd = false
is_top Head = false
is_top ReactorName = false
is_top Parameters = false
is_top Body = false
is_top First = false
is_top Out = false
is_top Operator = false
is_top Operands = false
is_top End = false

-- the text may end here
unfoldable pub whole : Reading → Bool
whole s = is_top s.phase and (1 ≤? s.definitions)

-- ---- the text

-- a word in its role
pub record Item : Type 0 where
  pub role : Role
  pub word : Word

-- 5.26 The words in their roles; or 16's place: the first word that has none, or the length of a text that is not
-- whole.
pub data Formed : Type 0 where
  items : List Item → Formed
  fault : (at : ℕ) → Formed

unfoldable pub with_item : Item → Formed → Formed
with_item i (items is) = items (i ∷ is)
with_item i (fault q) = fault q

-- `rest` reads the words that follow
unfoldable pub taken : (Reading → Formed) → Word → Step → Formed
taken rest w (Some (r, s)) = with_item (record { role = r; word = w }) (rest s)
taken rest w None = fault w.at

-- the words ws from state s on; the text's length is n
unfoldable pub form_from : ℕ → List Word → Reading → Formed
form_from n [] s = pick (whole s) (items []) (fault n)
form_from n (w ∷ ws) s = taken (form_from n ws) w (step_of s (class_of w.bytes))

unfoldable pub form_of : List ℕ → Formed
form_of t = form_from (length t) (words_of t) begin
