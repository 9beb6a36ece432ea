-- Main's sinks are what the text means, where the program is laid out as the text's definitions say and these are
-- well-formed: by the definitions in their order, each of which is a function of the earlier ones.
use Rattle.std.specs.Prelude.{ℕ, suc, ◌+◌, ◌-◌, ◌≤◌, ◌<◌, ◌≡◌, refl, ◌⊎◌, List, [], ◌∷◌}
use Rattle.std.proofs.Common.{sym, ◌∙◌, ap, inl, inr}
use Rattle.std.specs.Prelude.{◌++◌, length, get_or, drop}
use Rattle.std.proofs.Common.{arith}
use lib.ListN.{length-append, length-drop}
use lib.Seq.{get_or-drop, drop-drop}
use Rattle.value.specs.Value.{blank}
use Rattle.value.specs.declared.Value.{Value}
use Rattle.value.proofs.Tests.{below}
use Rattle.program.specs.Bytes.{main_of, commands_d}
use Rattle.program.specs.Command.{cmd_of, sink}
use Rattle.program.specs.Location.{source_count, sink_loc}
use Rattle.image.specs.Memory.{main_at, reactor, value_at}
use Rattle.remus.specs.Exec.{global_value}
use Rattle.remus.specs.Solved.{Solution}
use Rattle.haai.specs.Syntax as S
use Rattle.haai.specs.Syntax.{Definition}
use Rattle.haai.specs.Names.{no_definition}
use Rattle.haai.specs.Emit.{declares_all, calls, steps_all, locations_of, runs_all, sinks_from, declared, first_r}
use Rattle.haai.specs.Emit.{sequence_d, sequence_r, commands_of}
use Rattle.haai.specs.Meaning.{Function, no_function, meanings, function_of, last_of, sinks_of}
use Rattle.haai.proofs.Lists.{snoc_less, snoc_last, length_sinks, sinks_at_lem, length_locations, length_runs_all}
use Rattle.haai.proofs.Formed.{nth, FitAll, Stretch, stretch_left, stretch_right, Laid, WellFormed}
use Rattle.haai.proofs.Valued.{first_values}
use Rattle.haai.proofs.Means.{Right, values_mean}

-- the definitions from the k-th on
pub drop_head : (k : ℕ) (ds : List Definition) (d : Definition) (rest : List Definition) → drop k ds ≡ d ∷ rest
    → nth ds k ≡ d
drop_head k ds d rest e =
    let z : k ≡ k + 0 = omega arith in
    ap (nth ds) z ∙ sym (get_or-drop k ds 0 no_definition) ∙ ap (λ (l : List Definition). nth l 0) e

pub drop_tail : (k : ℕ) (ds : List Definition) (d : Definition) (rest : List Definition) → drop k ds ≡ d ∷ rest
    → drop (suc k) ds ≡ rest
drop_tail k ds d rest e =
    let z : suc k ≡ k + 1 = omega arith in
    ap (λ (n : ℕ). drop n ds) z ∙ sym (drop-drop 1 k ds) ∙ ap (λ (l : List Definition). drop 1 l) e

module _ (p rd w m : List ℕ) (Ran : ℕ → Type 0) (sol : Solution p rd w m Ran) (ds : List Definition) (g : ℕ)
    (laid : Laid p ds) (formed : WellFormed ds g) where
  abbrev gs : ℕ → Value
  gs = global_value rd w

  -- the values of d's sources, as a deployment of reactor j
  abbrev given : ℕ → ℕ → List Value
  given d j = first_values (value_at p m d) (nth ds j).parameters

  abbrev Means : List Function → ℕ → Type 0
  Means fs k = Right p rd w m Ran sol ds g fs k

  -- the sinks of a deployment
  sinks_mean : (o : ℕ) → Ran o → (fs : List Function) → Means fs (reactor m o)
      → (x : ℕ) → x < S.count_of (nth ds (reactor m o)).body
      → value_at p m o (sink_loc p (reactor m o) x)
      ≡ get_or (meanings gs (nth ds (reactor m o)).body fs (given o (reactor m o))) x blank
  unfolding commands_of sequence_d sequence_r first_r declared calls
  sinks_mean o ran fs right x h =
      let k = reactor m o in
      let low : k < length ds = omega (arith, laid.count, sol.low o ran) in
      let f = nth ds k in
      let es : source_count p k ≡ f.parameters = laid.count_of_sources k low in
      let ds' = declares_all f.body in
      let D = length ds' in
      let ed : commands_d p k ≡ D = laid.d_count k low in
      let base = f.parameters + D in
      let ls = locations_of base 0 f.body in
      let rs = runs_all f.parameters base f.body 0 0 in
      let whole = laid.commands k low in
      let decl = stretch_left p k 0 ds' (rs ++ sinks_from 0 ls) whole in
      let rest = stretch_right p k 0 D ds' (rs ++ sinks_from 0 ls) (omega arith) whole in
      let run = stretch_left p k D rs (sinks_from 0 ls) rest in
      let n = length_runs_all f.parameters base f.body 0 0 in
      let sunk = stretch_right p k D (D + steps_all f.body) rs (sinks_from 0 ls) (omega arith) rest in
      let nl = length_locations base 0 f.body in
      let ns = length_sinks 0 ls in
      let at = sunk x (omega arith) in
      let z : 0 + x ≡ x = omega arith in
      let e : cmd_of p k (D + steps_all f.body + x) ≡ sink x (get_or ls x 0) =
      at.0 ∙ sinks_at_lem 0 ls x (omega arith) ∙ ap (λ (y : ℕ). sink y (get_or ls x 0)) z in
      let fit : FitAll ds g (source_count p k) k f.body = rw es (formed.bodies k low) in
      let z₀ : D + 0 ≡ D = omega arith in
      let base₂ = source_count p k + commands_d p k in
      let run₂ : Stretch p k (commands_d p k + 0) (runs_all (source_count p k) base₂ f.body 0 0) =
      rw (es, ed, z₀) run in
      let means = values_mean p rd w m Ran sol ds g o ran fs right f.body 0 0 fit run₂ decl x h in
      sol.sinks o (D + steps_all f.body + x) x (get_or ls x 0) ran at.1 e ∙ rw (es, ed) at means

  -- one definition more
  grows : (fs : List Function) (k : ℕ) → length fs ≡ k → k < length ds → Means fs k
      → Means (fs ++ (function_of gs fs (nth ds k) ∷ [])) (k + 1)
  unfolding function_of
  grows fs k e low right j d h ran is one = by (below j k)
    where
      by : (j < k) ⊎ (k ≤ j)
          → value_at p m d (sink_loc p j 0) ≡ get_or (fs ++ (function_of gs fs (nth ds k) ∷ [])) j no_function (given d j)
      by (inl l) =
          right j d l ran is one
          ∙ ap (λ (f : Function). f (given d j)) (sym (snoc_less fs (function_of gs fs (nth ds k)) no_function k j e l))
      by (inr l) =
          let z : j ≡ k = omega arith in
          let z₂ : reactor m d ≡ k = is ∙ z in
          let one₂ : 0 < S.count_of (nth ds (reactor m d)).body = rw is (omega arith) in
          let mean = sinks_mean d ran fs (rw z₂ right) 0 one₂ in
          let f₀ = function_of gs fs (nth ds k) in
          rw z (rw z₂ at mean ∙ ap (λ (f : Function). f (given d k)) (sym (snoc_last fs f₀ no_function k k e refl)))

  abbrev last : ℕ
  last = length ds - 1

  main_from : (rest : List Definition) (d : Definition) (fs : List Function) (k : ℕ) → drop k ds ≡ d ∷ rest
      → length fs ≡ k → Means fs k → (o : ℕ) → Ran o → reactor m o ≡ last
      → (x : ℕ) → x < S.count_of (nth ds last).body
      → value_at p m o (sink_loc p last x) ≡ get_or (last_of gs fs d rest) x blank
  unfolding last_of
  main_from [] d fs k e n right o ran is x h =
      let len : length ds - k ≡ 1 = sym (length-drop k ds) ∙ ap (λ (l : List Definition). length l) e in
      let z : k ≡ last = omega arith in
      let z₂ : reactor m o ≡ k = is ∙ sym z in
      let b : nth ds (reactor m o) ≡ d = rw z₂ (drop_head k ds d [] e) in
      let bare : (nth ds (reactor m o)).parameters ≡ 0 = rw is formed.main_bare in
      let mean = sinks_mean o ran fs (rw z₂ right) x (rw is h) in
      rw (← is) (mean ∙ rw bare (rw b refl))
  main_from (f ∷ rest) d fs k e n right o ran is x h =
      let len : length ds - k ≡ suc (suc (length rest)) =
      sym (length-drop k ds) ∙ ap (λ (l : List Definition). length l) e in
      let b = drop_head k ds d (f ∷ rest) e in
      let more = fs ++ (function_of gs fs d ∷ []) in
      let means : Means more (k + 1) = rw b at (grows fs k n (omega arith) right) in
      let long : length more ≡ suc k = let q = length-append fs (function_of gs fs d ∷ []) in omega arith in
      main_from rest f more (suc k) (drop_tail k ds d (f ∷ rest) e) long (λ j c l. means j c (omega arith)) o ran is x h

  -- main's sinks
  pub main_means : (x : ℕ) → x < S.count_of (nth ds last).body
      → value_at p m main_at (sink_loc p (main_of p) x) ≡ get_or (sinks_of gs ds) x blank
  unfolding sinks_of main_of
  main_means x h = by ds refl
    where
      main_last : main_of p ≡ length ds - 1
      main_last = omega (arith, laid.count)

      by : (l : List Definition) → ds ≡ l
          → value_at p m main_at (sink_loc p (main_of p) x) ≡ get_or (sinks_of gs l) x blank
      by [] e = let z = ap (λ (l : List Definition). length l) e in absurd (omega (arith, laid.some))
      by (d ∷ rest) e =
          rw main_last
          (main_from rest d [] 0 e refl (λ j c h. absurd (omega arith)) main_at sol.main (sol.main_is ∙ main_last)
          x h)
