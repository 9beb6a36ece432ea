-- The kind of each location, class by class; the shape of what a command makes; and the kind that a primitive gives.
use Rattle.std.specs.Prelude.{ℕ, zero, suc, ◌+◌, ◌-◌, ◌≤◌, ◌<◌, ◌≡◌, refl, ◌⊎◌, Bool, true, List}
use Rattle.std.proofs.Common.{sym, ◌∙◌, ap}
use Rattle.std.specs.Prelude.{length}
use Rattle.std.proofs.Common.{arith}
use native.Mathlib.Nat.{not-suc-le-zero}
use lib.Dec.{leb}
use borrow.Author.Tests.{leb-true}
use Rattle.value.specs.Primitive.{row_of, table, operands, count_of, kind_given}
use Rattle.value.specs.declared.Gives.{Gives}
use Rattle.value.specs.declared.Gives.TheVariants.{ANumber, ATruth, TheirKind}
use Rattle.value.proofs.Tests.{remains, yes, no, lt!, lt×}
use Rattle.program.specs.Bytes.{shape_of, source_kind, sink_kind, commands_in}
use Rattle.program.specs.Command.{cmd_of, made_by, make_poly}
use Rattle.program.specs.Location.{source_count, command_loc, sink_loc, cmd_at, point_shape, shape_made, shape_there}
use Rattle.program.specs.Kind.{kind_made, kind_in, kind_of}
use Rattle.value.proofs.Below.{all_below, at}
use Rattle.load.proofs.Exact.Places.{cmd_there}

module _ (p : List ℕ) (r : ℕ) where
  pub kind_of_source : (f l : ℕ) → l < source_count p r → l < f → kind_in f p r l ≡ source_kind p (shape_of p r) l
  unfolding kind_in
  kind_of_source zero l h m = absurd (not-suc-le-zero m)
  kind_of_source (suc f) l h m = sym (yes _ (lt! h) refl)

  pub kind_of_sink : (x : ℕ) → kind_of p r (sink_loc p r x) ≡ sink_kind p (shape_of p r) x
  unfolding kind_of kind_in sink_loc
  kind_of_sink x =
      let e : source_count p r + commands_in p r + x - (source_count p r + commands_in p r + 0) ≡ x = omega arith in
      sym (no _ (lt× (omega arith)) (no _ (lt× (omega arith)) (ap (sink_kind p (shape_of p r)) (sym e))))

  -- a branch point's shape is the one that its MakePoly names
  pub shape_at_point : (b x : ℕ) → cmd_at p r b ≡ make_poly x → shape_there p r b ≡ point_shape (made_by (cmd_at p r b))
  unfolding shape_there shape_made point_shape made_by
  shape_at_point b x e = ap (shape_made p r) e ∙ sym (ap (λ c. point_shape (made_by c)) e)

  module _ (k : ℕ) (h : k < commands_in p r) where
    -- a command's kind, by the kinds of lower locations
    pub kind_here : (f : ℕ) → kind_in (suc f) p r (command_loc p r k) ≡ kind_made p r (kind_in f p r) (cmd_of p r k)
    unfolding kind_in command_loc sink_loc
    kind_here f =
        sym (no _ (lt× (omega arith)) (yes _ (lt! (omega arith))
        (ap (kind_made p r (kind_in f p r)) (unfold command_loc in sym (cmd_there p r k h)))))

    pub command_kind : kind_of p r (command_loc p r k) ≡ kind_made p r (kind_in (command_loc p r k) p r) (cmd_of p r k)
    unfolding kind_of
    command_kind = kind_here (command_loc p r k)

    pub shape_here : shape_there p r (command_loc p r k) ≡ shape_made p r (cmd_of p r k)
    unfolding shape_there
    shape_here = ap (shape_made p r) (cmd_there p r k h)

-- ---- the kind that a primitive gives

-- a primitive that gives its operands' kind takes the second operand
abbrev takes_second : Gives → ℕ → Bool
takes_second ANumber n = true
takes_second ATruth n = true
takes_second TheirKind n = leb 2 n

all_take : all_below (length table) (λ x. takes_second (row_of x).gives (operands x)) ≡ true
unfolding table row_of operands count_of
all_take = refl

given_alike : (g : Gives) (n j k : ℕ) → takes_second g n ≡ true → (n < 2) ⊎ (j ≡ k) → kind_given g j ≡ kind_given g k
unfolding kind_given
given_alike ANumber n j k e h = refl
given_alike ATruth n j k e h = refl
given_alike TheirKind n j k e h = remains (λ l. let m : 2 ≤ n = leb-true 2 n e in omega arith) h

pub given_same : (x j k : ℕ) → x < length table → (operands x < 2) ⊎ (j ≡ k) →
    kind_given (row_of x).gives j ≡ kind_given (row_of x).gives k
given_same x j k h =
    given_alike (row_of x).gives (operands x) j k
    (at (length table) (λ y. takes_second (row_of y).gives (operands y)) all_take x h)
