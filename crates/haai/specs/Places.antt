-- Names by their places in the text, where their first bytes are: those of the sources, of the reactors, and of the
-- parameters of all reactors.
use Rattle.std.specs.Prelude.{ℕ, zero, suc, ◌+◌, ◌-◌, ◌≤◌, ◌≡◌, Bool, not, List, [], ◌∷◌, ◌++◌, length, get_or, set}
use Rattle.value.specs.Test.{guard}
use Rattle.haai.specs.Word.{word_end, bytes_of, position, among, signs, sign_at, sign_number}
use Rattle.haai.specs.Names.{unless, fresh}
use Rattle.haai.specs.Syntax as S
use Rattle.haai.specs.Syntax.{sign, reactor, Expr, parameter, global}
use Rattle.haai.specs.declared.Meant.{Meant}
use Rattle.haai.specs.declared.Meant.TheVariants.{Parameter, Global}
use Rattle.haai.specs.declared.Operator.{Operator}
use Rattle.haai.specs.declared.Operator.TheVariants.{Sign, Reactor}
use Rattle.haai.specs.declared.Places.{Places}
use Rattle.haai.specs.declared.Tally.{Tally}

-- place i, and 0 past the end
unfoldable pub place_at : List ℕ → ℕ → ℕ
place_at ps i = get_or ps i 0

-- the word that begins at a
unfoldable pub word_of : List ℕ → ℕ → List ℕ
word_of t a = bytes_of t a (word_end t a)

-- the n names from place i on
unfoldable pub names_at : List ℕ → List ℕ → ℕ → ℕ → List (List ℕ)
names_at t ps i zero = []
names_at t ps i (suc n) = word_of t (place_at ps i) ∷ names_at t ps (i + 1) n

module _ (t : List ℕ) (ps : Places) (v : Tally) where
  unfoldable pub sources_in : List (List ℕ)
  sources_in = names_at t ps.sources 0 v.sources

  unfoldable pub reactors_in : List (List ℕ)
  reactors_in = names_at t ps.reactors 0 v.reactors

  -- all parameters, and the present reactor's
  unfoldable pub names_in : List (List ℕ)
  names_in = names_at t ps.parameters 0 v.names

  unfoldable pub parameters_in : List (List ℕ)
  parameters_in = names_at t ps.parameters v.own (v.names - v.own)

-- how many places there are
abbrev pub Roomy : Places → Type 0
Roomy ps = (length ps.sources ≡ 31) × ((length ps.reactors ≡ 32) × (length ps.parameters ≡ 224))

-- the places have room for what is counted
abbrev pub Fits : Tally → Type 0
Fits v = (v.sources ≤ 31) × ((v.reactors ≤ 32) × ((v.names ≤ 224) × (v.own ≤ v.names)))

unfoldable pub blamed : Bool → ℕ → Tally → Tally
blamed ok q v =
    record {
      fault = unless ok q v.fault;
      sources = v.sources;
      reactors = v.reactors;
      names = v.names;
      own = v.own;
      at = v.at;
    }

-- a tally with its places
pub data Held : Type 0 where
  held : Tally → Places → Held

-- a name that begins at a, w, is one more source's, reactor's or parameter's
module _ (t : List ℕ) (a : ℕ) (w : List ℕ) (v : Tally) (ps : Places) where
  unfoldable pub source_held : Held
  source_held =
      held
      (record {
        fault = unless (fresh (sources_in t ps v) w) a v.fault;
        sources = v.sources + 1;
        reactors = v.reactors;
        names = v.names;
        own = v.own;
        at = v.at;
      })
      (record { sources = set ps.sources v.sources a; reactors = ps.reactors; parameters = ps.parameters })

  unfoldable pub reactor_held : Held
  reactor_held =
      held
      (record {
        fault = unless (fresh (sources_in t ps v ++ (reactors_in t ps v ++ names_in t ps v)) w) a v.fault;
        sources = v.sources;
        reactors = v.reactors + 1;
        names = v.names;
        own = v.names;
        at = a;
      })
      (record { sources = ps.sources; reactors = set ps.reactors v.reactors a; parameters = ps.parameters })

  unfoldable pub parameter_held : Held
  parameter_held =
      held
      (record {
        fault = unless (fresh (sources_in t ps v ++ (reactors_in t ps v ++ parameters_in t ps v)) w) a v.fault;
        sources = v.sources;
        reactors = v.reactors;
        names = v.names + 1;
        own = v.own;
        at = v.at;
      })
      (record { sources = ps.sources; reactors = ps.reactors; parameters = set ps.parameters v.names a })

-- ---- what a name means

unfoldable pub applied_by : Operator → S.Operator
applied_by (Sign o) = sign (sign_number o)
applied_by (Reactor j) = reactor j

unfoldable pub operator_in : List (List ℕ) → List ℕ → Operator
operator_in rs w = guard (not (among signs w)) (Sign (sign_at (position signs w))) (λ _. Reactor (position rs w))

unfoldable pub expr_of : Meant → Expr
expr_of (Parameter i) = parameter i
expr_of (Global g) = global g

unfoldable pub global_in : List (List ℕ) → List ℕ → Meant
global_in ss w = guard (not (among ss w)) (Global (position ss w + 1)) (λ _. Global 0)

unfoldable pub meant_in : List (List ℕ) → List (List ℕ) → List ℕ → Meant
meant_in ps ss w = guard (not (among ps w)) (Parameter (position ps w)) (λ _. global_in ss w)
