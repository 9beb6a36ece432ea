-- Lengths and positions of the lists of commands and locations that a tree gives.
use Rattle.std.specs.Prelude.{ℕ, zero, suc, ◌+◌, ◌<◌, ◌≡◌, refl, List, [], ◌∷◌, ◌++◌, length, get_or}
use Rattle.std.proofs.Common.{sym, ◌∙◌, ap}
use Rattle.std.proofs.Common.{arith}
use lib.ListN.{length-append, get_or-append}
use lib.Seq.{get_or_at}
use Rattle.program.specs.Command.{supply, sink, react, gives, consume}
use Rattle.program.specs.Command as C
use Rattle.haai.specs.Syntax as S
use Rattle.haai.specs.Syntax.{Operator, sign, reactor, Expr, Exprs, parameter, apply, none, also, count_of}
use Rattle.haai.specs.Emit.{calls, own_steps, steps, steps_all, location_of, locations_of, supplies, applied, runs}
use Rattle.haai.specs.Emit.{runs_all, sinks_from}

-- an element of a list with one more at its end
pub snoc_less : {A : Type 0} (xs : List A) (y d : A) (n i : ℕ) → length xs ≡ n → i < n
    → get_or (xs ++ (y ∷ [])) i d ≡ get_or xs i d
snoc_less xs y d n i e h = get_or-append xs (y ∷ []) d i (omega arith)

pub snoc_last : {A : Type 0} (xs : List A) (y d : A) (n i : ℕ) → length xs ≡ n → i ≡ n → get_or (xs ++ (y ∷ [])) i d ≡ y
snoc_last xs y d n i e h = get_or_at xs y [] d i (e ∙ sym h)

-- ---- supplies and sinks

pub length-supplies : (b x : ℕ) (ls : List ℕ) → length (supplies b x ls) ≡ length ls
unfolding supplies
length-supplies b x [] = refl
length-supplies b x (l ∷ ls) = ap suc (length-supplies b (x + 1) ls)

pub supplies_at : (b y : ℕ) (ls : List ℕ) (x : ℕ) → x < length ls
    → get_or (supplies b y ls) x C.none ≡ supply (y + x) (get_or ls x 0) b
unfolding supplies
supplies_at b y [] x h = absurd (omega arith)
supplies_at b y (l ∷ ls) zero h = let e : y ≡ y + 0 = omega arith in ap (λ (z : ℕ). supply z l b) e
supplies_at b y (l ∷ ls) (suc x) h =
    let e : y + 1 + x ≡ y + suc x = omega arith in
    supplies_at b (y + 1) ls x (omega arith) ∙ ap (λ (z : ℕ). supply z (get_or ls x 0) b) e

pub length_sinks : (y : ℕ) (ls : List ℕ) → length (sinks_from y ls) ≡ length ls
unfolding sinks_from
length_sinks y [] = refl
length_sinks y (l ∷ ls) = ap suc (length_sinks (y + 1) ls)

pub sinks_at_lem : (y : ℕ) (ls : List ℕ) (x : ℕ) → x < length ls
    → get_or (sinks_from y ls) x C.none ≡ sink (y + x) (get_or ls x 0)
unfolding sinks_from
sinks_at_lem y [] x h = absurd (omega arith)
sinks_at_lem y (l ∷ ls) zero h = let e : y ≡ y + 0 = omega arith in ap (λ (z : ℕ). sink z l) e
sinks_at_lem y (l ∷ ls) (suc x) h =
    let e : y + 1 + x ≡ y + suc x = omega arith in
    sinks_at_lem (y + 1) ls x (omega arith) ∙ ap (λ (z : ℕ). sink z (get_or ls x 0)) e

-- ---- an expression's commands and locations

pub length_locations : (base r : ℕ) (es : Exprs) → length (locations_of base r es) ≡ count_of es
unfolding locations_of count_of
length_locations base r none = refl
length_locations base r (also es e) =
    let h = length_locations base r es in
    let q = length-append (locations_of base r es) (location_of base (r + steps_all es) e ∷ []) in
    omega arith

pub length-applied : (b base r : ℕ) (es : Exprs) (f : Operator)
    → length (applied b (locations_of base r es) f) ≡ own_steps f (count_of es)
unfolding applied own_steps
length-applied b base r es (sign o) = refl
length-applied b base r es (reactor k) =
    let h = length_locations base r es in
    let q = length-supplies b 0 (locations_of base r es) in
    let z = length-append (supplies b 0 (locations_of base r es)) (react b ∷ gives (consume 0 b) ∷ []) in
    omega arith

module _ (s base : ℕ) where
  mutual
    unfolding runs steps

    pub length_runs : (e : Expr) (d r : ℕ) → length (runs s base e d r) ≡ steps e
    length_runs (parameter i) d r = refl
    length_runs (S.global g) d r = refl
    length_runs (S.constant n) d r = refl
    length_runs (apply f es) d r =
        length-append (runs_all s base es d r) (applied (s + (d + calls es)) (locations_of base r es) f)
        ∙ ap (λ (n : ℕ). n + length (applied (s + (d + calls es)) (locations_of base r es) f)) (length_runs_all es d r)
        ∙ ap (λ (n : ℕ). steps_all es + n) (length-applied (s + (d + calls es)) base r es f)

    pub length_runs_all : (es : Exprs) (d r : ℕ) → length (runs_all s base es d r) ≡ steps_all es
    length_runs_all none d r = refl
    length_runs_all (also es e) d r =
        length-append (runs_all s base es d r) (runs s base e (d + calls es) (r + steps_all es))
        ∙ ap (λ (n : ℕ). n + length (runs s base e (d + calls es) (r + steps_all es))) (length_runs_all es d r)
        ∙ ap (λ (n : ℕ). steps_all es + n) (length_runs e (d + calls es) (r + steps_all es))
