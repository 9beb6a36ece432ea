-- Each call's deployment is served by one block of commands: its Supplies in order, its React, its Consume. No other
-- command names it.
use Rattle.std.specs.Prelude.{ℕ, ◌+◌, ◌-◌, ◌≤◌, ◌<◌, ◌≡◌, refl, ◌⊎◌, List, [], ◌∷◌, ◌++◌, length}
use Rattle.std.proofs.Common.{◌∙◌, ap, inl, inr}
use Rattle.std.specs.Prelude.{get_or}
use Rattle.std.proofs.Common.{arith}
use lib.ListN.{length-append}
use Rattle.value.specs.Value.{number_kind}
use Rattle.value.proofs.Tests.{below}
use Rattle.program.specs.Bytes.{commands_d, commands_in}
use Rattle.program.specs.Command.{Cmd, cmd_of, alloc_mono, make_poly, cell, gives, supply, react, sink, alloc_poly, keep}
use Rattle.program.specs.Command.{constant, global, consume, primitive, fetch}
use Rattle.program.specs.Command as C
use Rattle.program.specs.Location.{source_count}
use Rattle.haai.specs.Syntax as S
use Rattle.haai.specs.Syntax.{Operator, sign, Expr, Exprs, parameter, apply, none, also, Definition}
use Rattle.haai.specs.Emit.{allocates, declares, declares_all, calls, own_steps, steps, steps_all, locations_of}
use Rattle.haai.specs.Emit.{supplies, applied, runs, runs_all}
use Rattle.haai.proofs.Lists.{length-supplies, supplies_at, length_locations, length_runs_all}
use Rattle.haai.proofs.Formed.{nth, FitOperator, Fit, FitAll, Stretch, stretch_left, stretch_right, stretch_head}

-- the command names the deployment at b
abbrev pub Names : ℕ → Cmd → Type 0
Names b (alloc_mono x) = ⊥
Names b (make_poly x) = ⊥
Names b (cell x v) = ⊥
Names b (gives (constant x v)) = ⊥
Names b (gives (global x)) = ⊥
Names b (gives (consume x c)) = c ≡ b
Names b (gives (primitive x a c d)) = ⊥
Names b (gives (fetch c)) = ⊥
Names b (supply x a c) = c ≡ b
Names b (react c) = c ≡ b
Names b (sink x a) = ⊥
Names b (alloc_poly a c) = c ≡ b
Names b (keep a c) = ⊥
Names b C.none = ⊥

module _ (p : List ℕ) (ds : List Definition) (g k : ℕ) where
  abbrev s : ℕ
  s = source_count p k

  abbrev D : ℕ
  D = commands_d p k

  abbrev base : ℕ
  base = s + D

  -- the block of D command c, among the commands from lo to hi
  pub record Block (c lo hi : ℕ) : Type 0 where
    pub first : ℕ
    pub count : ℕ
    pub callee : ℕ
    pub mono : cmd_of p k c ≡ alloc_mono callee
    pub arity : count ≡ (nth ds callee).parameters
    pub after : lo ≤ first
    pub within : first + count + 2 ≤ hi
    pub supplied : (x : ℕ) → x < count → (a : ℕ) × (cmd_of p k (first + x) ≡ supply x a (s + c))
    pub reacts : cmd_of p k (first + count) ≡ react (s + c)
    pub consumes : cmd_of p k (first + count + 1) ≡ gives (consume 0 (s + c))
    pub only : (i : ℕ) → lo ≤ i → i < hi → Names (s + c) (cmd_of p k i) → (first ≤ i) × (i < first + count + 2)

  -- the commands from lo to hi name only deployments of D commands from d to e
  abbrev Confined : ℕ → ℕ → ℕ → ℕ → Type 0
  Confined lo hi d e = (c i : ℕ) → lo ≤ i → i < hi → Names (s + c) (cmd_of p k i) → (d ≤ c) × (c < e)

  -- what is shown of a stretch: every D command from d to e has its block there
  pub record AllServed (lo hi d e : ℕ) : Type 0 where
    pub blocks : (c : ℕ) → d ≤ c → c < e → Block c lo hi
    confined : Confined lo hi d e

  -- a block among more commands, if none of these names its deployment
  widened : (c lo hi low high : ℕ) → low ≤ lo → hi ≤ high → Block c lo hi
      → ((i : ℕ) → low ≤ i → i < high → Names (s + c) (cmd_of p k i) → (lo ≤ i) × (i < hi)) → Block c low high
  widened c lo hi low high h₁ h₂ x back =
      record {
        first = x.first;
        count = x.count;
        callee = x.callee;
        mono = x.mono;
        arity = x.arity;
        after = let z = x.after in omega arith;
        within = let z = x.within in omega arith;
        supplied = x.supplied;
        reacts = x.reacts;
        consumes = x.consumes;
        only = λ i u v q. let z = back i u v q in x.only i z.0 z.1 q;
      }

  -- two stretches in a row
  joined : (lo mid hi d e f : ℕ) → lo ≤ mid → mid ≤ hi → d ≤ e → e ≤ f → AllServed lo mid d e → AllServed mid hi e f
      → AllServed lo hi d f
  joined lo mid hi d e f h₁ h₂ h₃ h₄ a b =
      record { blocks = λ c l m. block c l m (below c e); confined = λ c i l m q. sides c i l m q (below i mid) }
    where
      in_first : (c i : ℕ) → c < e → i < hi → Names (s + c) (cmd_of p k i) → (i < mid) ⊎ (mid ≤ i) → i < mid
      in_first c i n v q (inl y) = y
      in_first c i n v q (inr y) = absurd (let z = (b.confined c i y v q).0 in omega arith)

      in_second : (c i : ℕ) → e ≤ c → lo ≤ i → Names (s + c) (cmd_of p k i) → (i < mid) ⊎ (mid ≤ i) → mid ≤ i
      in_second c i n u q (inl y) = absurd (let z = (a.confined c i u y q).1 in omega arith)
      in_second c i n u q (inr y) = y

      block : (c : ℕ) → d ≤ c → c < f → (c < e) ⊎ (e ≤ c) → Block c lo hi
      block c l m (inl n) =
          widened c lo mid lo hi (omega arith) h₂ (a.blocks c l n)
          (λ i u v q. (u, in_first c i n v q (below i mid)))
      block c l m (inr n) =
          widened c mid hi lo hi h₁ (omega arith) (b.blocks c n m)
          (λ i u v q. (in_second c i n u q (below i mid), v))

      sides : (c i : ℕ) → lo ≤ i → i < hi → Names (s + c) (cmd_of p k i) → (i < mid) ⊎ (mid ≤ i) → (d ≤ c) × (c < f)
      sides c i l m q (inl y) = let z = a.confined c i l y q in (z.0, let w = z.1 in omega arith)
      sides c i l m q (inr y) = let z = b.confined c i y m q in (let w = z.0 in omega arith, z.1)

  -- the commands after the D commands bs, then those after cs
  in_row : (i d t u : ℕ) (bs cs : List Cmd) → AllServed i (i + t) d (d + length bs)
      → AllServed (i + t) (i + t + u) (d + length bs) (d + length bs + length cs)
      → AllServed i (i + (t + u)) d (d + length (bs ++ cs))
  in_row i d t u bs cs left right =
      let w = length-append bs cs in
      let z : i + t + u ≡ i + (t + u) = omega arith in
      let y : d + length bs + length cs ≡ d + length (bs ++ cs) = omega arith in
      joined i (i + t) (i + (t + u)) d (d + length bs) (d + length (bs ++ cs)) (omega arith) (omega arith) (omega arith)
      (omega arith) left (rw (z, y) at right)

  -- a stretch that names nothing
  idle : (lo hi d : ℕ) → ((b i : ℕ) → lo ≤ i → i < hi → Names b (cmd_of p k i) → ⊥) → AllServed lo hi d (d + 0)
  idle lo hi d h = record { blocks = λ c l m. absurd (omega arith); confined = λ c i l m q. absurd (h (s + c) i l m q) }

  one_idle : (i d : ℕ) (c : Cmd) → cmd_of p k i ≡ c → ((b : ℕ) → Names b c → ⊥) → AllServed i (i + 1) d (d + 0)
  one_idle i d c e h = idle i (i + 1) d (λ b j l m q. let z : j ≡ i = omega arith in h b (rw (z, e) at q))

  -- a call's own commands, from index i on
  call_served : (j d i n : ℕ) (ls : List ℕ) → length ls ≡ n → n ≡ (nth ds j).parameters → cmd_of p k d ≡ alloc_mono j
      → Stretch p k i (supplies (s + d) 0 ls ++ (react (s + d) ∷ gives (consume 0 (s + d)) ∷ []))
      → AllServed i (i + (n + 2)) d (d + 1)
  call_served j d i n ls el ep mono run =
      record {
        blocks = λ c l m.
            let z : d ≡ c = omega arith in
            rw (← z) (record {
              first = i;
              count = n;
              callee = j;
              mono = mono;
              arity = ep;
              after = omega arith;
              within = omega arith;
              supplied = λ x h. (get_or ls x 0, supplied x h);
              reacts = reacts.0;
              consumes = consumes.0;
              only = λ y u v q. (u, omega arith);
            });
        confined = λ c y u v q. let z = same c y u v q (below y (i + n)) in (omega arith, omega arith);
      }
    where
      k₁ : length (supplies (s + d) 0 ls) ≡ length ls
      k₁ = length-supplies (s + d) 0 ls

      supplied : (x : ℕ) → x < n → cmd_of p k (i + x) ≡ supply x (get_or ls x 0) (s + d)
      supplied x h =
          let q = k₁ in
          let z : 0 + x ≡ x = omega arith in
          let left = stretch_left p k i (supplies (s + d) 0 ls) (react (s + d) ∷ gives (consume 0 (s + d)) ∷ []) run in
          (left x (omega arith)).0 ∙ supplies_at (s + d) 0 ls x (omega arith)
          ∙ ap (λ (y : ℕ). supply y (get_or ls x 0) (s + d)) z

      rest : Stretch p k (i + n) (react (s + d) ∷ gives (consume 0 (s + d)) ∷ [])
      rest =
          let q = k₁ in
          stretch_right p k i (i + n) (supplies (s + d) 0 ls) (react (s + d) ∷ gives (consume 0 (s + d)) ∷ [])
          (omega arith) run

      reacts : (cmd_of p k (i + n) ≡ react (s + d)) × (i + n < commands_in p k)
      reacts = stretch_head p k (i + n) (react (s + d)) (gives (consume 0 (s + d)) ∷ []) rest

      consumes : (cmd_of p k (i + n + 1) ≡ gives (consume 0 (s + d))) × (i + n + 1 < commands_in p k)
      consumes =
          stretch_head p k (i + n + 1) (gives (consume 0 (s + d))) []
          (stretch_right p k (i + n) (i + n + 1) (react (s + d) ∷ []) (gives (consume 0 (s + d)) ∷ []) refl rest)

      last : (c y : ℕ) → Names (s + c) (cmd_of p k y) → i + n ≤ y → y < i + (n + 2)
          → (y < i + n + 1) ⊎ (i + n + 1 ≤ y) → s + d ≡ s + c
      last c y q u v (inl h) = let z : y ≡ i + n = omega arith in rw (z, reacts.0) at q
      last c y q u v (inr h) = let z : y ≡ i + n + 1 = omega arith in rw (z, consumes.0) at q

      same : (c y : ℕ) → i ≤ y → y < i + (n + 2) → Names (s + c) (cmd_of p k y) → (y < i + n) ⊎ (i + n ≤ y)
          → s + d ≡ s + c
      same c y u v q (inl h) =
          let z : y ≡ i + (y - i) = omega arith in let e = supplied (y - i) (omega arith) in rw (z, e) at q
      same c y u v q (inr h) = last c y q h v (below y (i + n + 1))

  -- an application's own commands
  applied_served : (f : Operator) (d i n : ℕ) (ls : List ℕ) → length ls ≡ n → FitOperator ds g s k f n
      → Stretch p k d (allocates f) → Stretch p k i (applied (s + d) ls f)
      → AllServed i (i + own_steps f n) d (d + length (allocates f))
  unfolding applied allocates own_steps
  applied_served (sign o) d i n ls el fit decl run =
      let c = stretch_head p k i (gives (primitive o (get_or ls 0 0) (get_or ls 1 0) 0)) [] run in
      one_idle i d (gives (primitive o (get_or ls 0 0) (get_or ls 1 0) 0)) c.0 (λ b q. q)
  applied_served (S.reactor j) d i n ls el fit decl run =
      let mono = stretch_head p k d (alloc_mono j) [] decl in call_served j d i n ls el fit.1 mono.0 run

  -- no command at all
  empty : (i d : ℕ) → AllServed i (i + 0) d (d + 0)
  empty i d = idle i (i + 0) d (λ b j l m q. absurd (omega arith))

  mutual
    unfolding runs declares steps calls

    served : (e : Expr) (d i r : ℕ) → i ≡ D + r → Fit ds g s k e → Stretch p k i (runs s base e d r)
        → Stretch p k d (declares e) → AllServed i (i + steps e) d (d + length (declares e))
    served (parameter x) d i r ei fit run decl = empty i d
    served (S.global x) d i r ei fit run decl =
        let c = stretch_head p k i (gives (global x)) [] run in
        one_idle i d (gives (global x)) c.0 (λ b q. q)
    served (S.constant n) d i r ei fit run decl =
        let c = stretch_head p k i (gives (constant number_kind n)) [] run in
        one_idle i d (gives (constant number_kind n)) c.0 (λ b q. q)
    served (apply f es) d i r ei fit run decl =
        let q = length_runs_all s base es d r in
        let own = applied (s + (d + calls es)) (locations_of base r es) f in
        in_row i d (steps_all es) (own_steps f (S.count_of es)) (declares_all es) (allocates f)
        (served_all es d i r ei fit.0 (stretch_left p k i (runs_all s base es d r) own run)
        (stretch_left p k d (declares_all es) (allocates f) decl))
        (applied_served f (d + calls es) (i + steps_all es) (S.count_of es) (locations_of base r es)
        (length_locations base r es) fit.1
        (stretch_right p k d (d + calls es) (declares_all es) (allocates f) refl decl)
        (stretch_right p k i (i + steps_all es) (runs_all s base es d r) own (omega arith) run))

    pub served_all : (es : Exprs) (d i r : ℕ) → i ≡ D + r → FitAll ds g s k es
        → Stretch p k i (runs_all s base es d r) → Stretch p k d (declares_all es)
        → AllServed i (i + steps_all es) d (d + length (declares_all es))
    served_all none d i r ei fit run decl = empty i d
    served_all (also es e) d i r ei fit run decl =
        let q = length_runs_all s base es d r in
        let later = runs s base e (d + calls es) (r + steps_all es) in
        in_row i d (steps_all es) (steps e) (declares_all es) (declares e)
        (served_all es d i r ei fit.0 (stretch_left p k i (runs_all s base es d r) later run)
        (stretch_left p k d (declares_all es) (declares e) decl))
        (served e (d + calls es) (i + steps_all es) (r + steps_all es) (omega arith) fit.1
        (stretch_right p k i (i + steps_all es) (runs_all s base es d r) later (omega arith) run)
        (stretch_right p k d (d + calls es) (declares_all es) (declares e) refl decl))
