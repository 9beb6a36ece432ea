-- The tree of a text as the code keeps it: counts, the sizes of the whole definitions, and a pile of the open
-- applications, from the outermost on.
use Rattle.std.specs.Prelude.{ℕ, zero, suc, ◌+◌, ◌-◌, ◌*◌, ◌≤◌, ◌<◌, ◌≡◌, Bool, true, false, List, [], ◌∷◌, length}
use Rattle.std.specs.Prelude.{get_or, set}
use Rattle.value.specs.Test.{pick, guard, ◌<?◌, ◌≤?◌, ◌=?◌, ◌and◌, ◌or◌}
use Rattle.haai.specs.Word.{among, same_word, time_bytes}
use Rattle.haai.specs.Grammar.{Item, Formed, items, fault}
use Rattle.haai.specs.Syntax.{count_of, Definition}
use Rattle.haai.specs.Names.{Known, nothing, unless, learn_all, no_definition, fault_of}
use Rattle.haai.specs.Emit.{declared, running}
use Rattle.haai.specs.Places.{sources_in, parameters_in, reactors_in, operator_in, blamed, Held, held, source_held}
use Rattle.haai.specs.Places.{reactor_held, parameter_held}
use Rattle.haai.specs.declared.Application.{Application}
use Rattle.haai.specs.declared.Found.{Found}
use Rattle.haai.specs.declared.Knowing.{Knowing}
use Rattle.haai.specs.declared.Operator.{Operator}
use Rattle.haai.specs.declared.Operator.TheVariants.{Sign, Reactor as AReactor}
use Rattle.haai.specs.declared.Places.{Places}
use Rattle.haai.specs.declared.Role.{Role}
use Rattle.haai.specs.declared.Role.TheVariants.{Source, Reactor, Parameter, Operand, Constant}
use Rattle.haai.specs.declared.Role.TheVariants.{Operator as AnOperator, Apply, Define, Fixed}
use Rattle.haai.specs.declared.Sign.TheVariants.{Plus}
use Rattle.haai.specs.declared.Size.{Size}
use Rattle.haai.specs.declared.Tally.{Tally}
use Rattle.haai.specs.declared.Tree.{Tree}

-- ---- counts, which stay at 200 once they reach it: no reactor has so many operands or commands

abbrev pub most_counted : ℕ
most_counted = 200

unfoldable pub counted : ℕ → ℕ
counted n = pick (n <? most_counted) n most_counted

-- ---- sizes and open applications

abbrev pub no_size : Size
no_size = record { parameters = 0; sinks = 0; declared = 0; running = 0 }

-- the size of definition j
unfoldable pub size_at : List Size → ℕ → Size
size_at zs j = get_or zs j no_size

abbrev pub no_application : Application
no_application = record { operator = Sign Plus; at = 0; operands = 0 }

-- the i-th open application
unfoldable pub opened_at : List Application → ℕ → Application
opened_at pl i = get_or pl i no_application

-- ---- operators: n definitions have their sizes in zs

unfoldable pub callable_in : ℕ → List Size → Operator → Bool
callable_in n zs (Sign o) = true
callable_in n zs (AReactor j) = (j <? n) and ((size_at zs j).sinks =? 1)

unfoldable pub takes_in : ℕ → List Size → Operator → ℕ
takes_in n zs (Sign o) = 2
takes_in n zs (AReactor j) = pick (j <? n) (size_at zs j).parameters 0

-- how many AllocMonos and R commands an application takes after those of its operands, of which it has c
unfoldable pub own_calls : Operator → ℕ
own_calls (Sign o) = 0
own_calls (AReactor j) = 1

unfoldable pub own_runs : Operator → ℕ → ℕ
own_runs (Sign o) c = 1
own_runs (AReactor j) c = counted (c + 2)

-- ---- the tree and its pile

pub data Grove : Type 0 where
  grove : Tree → List Application → Grove

unfoldable pub grounded : Tree → Tree
grounded u = record { definitions = u.definitions; count = 0; level = 0; calls = 0; steps = 0 }

-- d more AllocMonos and r more R commands
unfoldable pub spent : Tree → ℕ → ℕ → Tree
spent u d r =
    record {
      definitions = u.definitions;
      count = u.count;
      level = u.level;
      calls = counted (u.calls + d);
      steps = counted (u.steps + r);
    }

unfoldable pub levelled : Tree → ℕ → Tree
levelled u n =
    record { definitions = u.definitions; count = u.count; level = n; calls = u.calls; steps = u.steps }

-- the innermost open application
unfoldable pub innermost : Tree → List Application → Application
innermost u pl = opened_at pl (u.level - 1)

-- a with one operand more
unfoldable pub with_operand : Application → Application
with_operand a = record { operator = a.operator; at = a.at; operands = counted (a.operands + 1) }

-- a whole expression: one more of the body, or one more operand of the innermost application
unfoldable pub whole_grove : Tree → List Application → Grove
whole_grove u pl =
    pick (u.level =? 0)
    (grove
    (record {
      definitions = u.definitions;
      count = counted (u.count + 1);
      level = u.level;
      calls = u.calls;
      steps = u.steps;
    })
    pl)
    (grove u (set pl (u.level - 1) (with_operand (innermost u pl))))

-- an application of the operator o at a begins
unfoldable pub open_grove : Tree → Operator → ℕ → List Application → Grove
open_grove u o a pl =
    grove (levelled u (counted (u.level + 1))) (set pl u.level (record { operator = o; at = a; operands = 0 }))

-- the innermost application is whole
unfoldable pub close_grove : Tree → List Application → Grove
close_grove u pl =
    let a = innermost u pl in
    whole_grove (levelled (spent u (own_calls a.operator) (own_runs a.operator a.operands)) (u.level - 1)) pl

-- the definition with s parameters is whole
unfoldable pub defined_tree : Tree → Tree
defined_tree u =
    record {
      definitions = counted (u.definitions + 1);
      count = u.count;
      level = u.level;
      calls = u.calls;
      steps = u.steps;
    }

unfoldable pub size_of : Tree → ℕ → Size
size_of u s = record { parameters = s; sinks = u.count; declared = u.calls; running = counted (u.steps + u.count) }

-- ---- all that is kept

abbrev pub kept : Tally → Tree → Places → List Size → List Application → Knowing
kept v u ps zs pl = record { tally = v; tree = u; places = ps; sizes = zs; pile = pl }

-- before the first word of a text of n bytes
abbrev pub first_tally : ℕ → Tally
first_tally n = record { fault = n; sources = 0; reactors = 0; names = 0; own = 0; at = 0 }

abbrev pub first_tree : Tree
first_tree = record { definitions = 0; count = 0; level = 0; calls = 0; steps = 0 }

unfoldable pub with_names : Knowing → Held → Tree → Knowing
with_names x (held v ps) u = kept v u ps x.sizes x.pile

unfoldable pub with_grove : Knowing → Tally → Grove → Knowing
with_grove x v (grove u pl) = kept v u x.places x.sizes pl

-- whether w, as an operand, is a parameter; and whether it may stand there
unfoldable pub is_parameter : List ℕ → List ℕ → Knowing → Bool
is_parameter t w x = among (parameters_in t x.places x.tally) w

unfoldable pub fits_operand : List ℕ → List ℕ → Knowing → Bool
fits_operand t w x =
    is_parameter t w x or (among (sources_in t x.places x.tally) w or same_word time_bytes w)

unfoldable pub constant_kept : Knowing → Knowing
constant_kept x = with_grove x x.tally (whole_grove (spent x.tree 0 1) x.pile)

unfoldable pub apply_kept : Knowing → Knowing
apply_kept x =
    let u = x.tree in
    let a = innermost u x.pile in
    with_grove x (blamed (a.operands =? takes_in u.definitions x.sizes a.operator) a.at x.tally) (close_grove u x.pile)

unfoldable pub define_kept : Knowing → Knowing
define_kept x =
    let u = x.tree in
    kept x.tally (defined_tree u) x.places (set x.sizes u.definitions (size_of u (x.tally.names - x.tally.own))) x.pile

module _ (t : List ℕ) (a : ℕ) (w : List ℕ) (x : Knowing) where
  unfoldable pub operand_kept : Knowing
  operand_kept =
      with_grove x (blamed (fits_operand t w x) a x.tally)
      (whole_grove (spent x.tree 0 (pick (is_parameter t w x) 0 1)) x.pile)

  unfoldable pub operator_kept : Knowing
  operator_kept =
      let o = operator_in (reactors_in t x.places x.tally) w in
      with_grove x (blamed (callable_in x.tree.definitions x.sizes o) a x.tally)
      (open_grove x.tree o a x.pile)

  -- one word of the text, w at a, in its role
  unfoldable pub learnt : Role → Knowing
  learnt Source = with_names x (source_held t a w x.tally x.places) x.tree
  learnt Reactor = with_names x (reactor_held t a w x.tally x.places) (grounded x.tree)
  learnt Parameter = with_names x (parameter_held t a w x.tally x.places) x.tree
  learnt Operand = operand_kept
  learnt (Constant n) = constant_kept x
  learnt AnOperator = operator_kept
  learnt Apply = apply_kept x
  learnt Define = define_kept x
  learnt Fixed = x

-- ---- what the pass over the names comes to

-- the words of a text in their roles
unfoldable pub items_of : Formed → List Item
items_of (items is) = is
items_of (fault q) = []

unfoldable pub known_by : ℕ → Formed → Known
known_by n f = learn_all (nothing n) (items_of f)

-- z is the size of d
pub record SizeIs (z : Size) (d : Definition) : Type 0 where
  pub parameters : z.parameters ≡ d.parameters
  pub sinks : z.sinks ≡ count_of d.body
  pub calls : z.declared ≡ counted (declared d)
  pub runs : z.running ≡ counted (running d)

-- zs has the sizes of these definitions
abbrev pub Sizes : List Size → List Definition → Type 0
Sizes zs ds = (j : ℕ) → j < length ds → SizeIs (size_at zs j) (get_or ds j no_definition)

-- 17 and the counts, from what is kept at the text's end; main's name is at fault if it has parameters
unfoldable pub found_of : Tally → Tree → Found
found_of v u =
    record {
      fault = unless (v.names - v.own =? 0) v.at v.fault;
      sources = v.sources;
      definitions = u.definitions;
    }

-- what is found of a text of which k is known
pub record FoundIs (k : Known) (f : Found) (zs : List Size) : Type 0 where
  pub fault : f.fault ≡ fault_of k
  pub sources : f.sources ≡ length k.sources
  pub definitions : f.definitions ≡ length k.definitions
  pub few_sources : f.sources ≤ 31
  pub few : f.definitions ≤ 32
  pub sizes : Sizes zs k.definitions
  pub long : length zs ≡ 32

-- ---- what the sizes come to

-- 18's limits, at most 32 D and 128 R commands
unfoldable pub size_fits : Size → Bool
size_fits z = (z.declared ≤? 32) and (z.running ≤? 128)

unfoldable pub sizes_fit : List Size → Bool
sizes_fit [] = true
sizes_fit (z ∷ zs) = guard (size_fits z) false (λ _. sizes_fit zs)

-- the bytes of the commands
unfoldable pub size_length : Size → ℕ
size_length z = 8 * (z.declared + z.running)

unfoldable pub sizes_length : List Size → ℕ
sizes_length [] = 0
sizes_length (z ∷ zs) = size_length z + sizes_length zs
