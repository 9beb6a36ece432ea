-- 4.31 The bound of a reactor: the most words that a deployment of it takes, with all that it may ever deploy.
use Rattle.std.specs.Prelude.{ℕ, zero, suc, ◌+◌, List, [], get_or}
use Rattle.value.specs.Test.{pick, ◌=?◌}
use Rattle.program.specs.Bytes.{reactors, shape_of, commands_d}
use Rattle.program.specs.Command.{Made, deployment, point, held, nought, made_by, cmd_of}
use Rattle.program.specs.Location.{size_of}
use Rattle.figure.specs.Steps.{tabled}

-- f 0 + .. + f (n − 1)
unfoldable pub sum_below : (ℕ → ℕ) → ℕ → ℕ
sum_below f zero = 0
sum_below f (suc n) = sum_below f n + f n

-- 4.31 The bounds of all reactors of shape s, b the bounds.
unfoldable pub shape_sum : List ℕ → (ℕ → ℕ) → ℕ → ℕ
shape_sum p b s = sum_below (λ q. pick (shape_of p q =? s) (b q) 0) (reactors p)

-- 4.31 What a D command adds, by what it makes.
unfoldable pub share : List ℕ → (ℕ → ℕ) → Made → ℕ
share p b (deployment x) = b x
share p b (point s) = shape_sum p b s
share p b (held k) = 0
share p b nought = 0

-- 4.31 A reactor's bound, b the bounds of those it leads to.
unfoldable pub bound_by : List ℕ → (ℕ → ℕ) → ℕ → ℕ
bound_by p b r = size_of p r + sum_below (λ j. share p b (made_by (cmd_of p r j))) (commands_d p r)

-- all bounds anew, by those before
unfoldable pub round_of : List ℕ → List ℕ → List ℕ
round_of p t = tabled (bound_by p (λ q. get_or t q 0)) 0 (reactors p)

unfoldable pub bounds_after : ℕ → List ℕ → List ℕ
bounds_after zero p = []
bounds_after (suc k) p = round_of p (bounds_after k p)

-- Where no reactor reaches itself, no way is longer than there are reactors, and after as many rounds bounds stay.
unfoldable pub bound_of : List ℕ → ℕ → ℕ
bound_of p r = get_or (bounds_after (reactors p) p) r 0
