-- A reactor of a tree's program obeys the rules.
use Rattle.std.specs.Prelude.{ℕ, ◌+◌, ◌-◌, ◌≤◌, ◌<◌, ◌≡◌, refl, ◌⊎◌, List, length}
use Rattle.std.proofs.Common.{sym, ◌∙◌, ap, subst, inl, inr}
use Rattle.std.specs.Prelude.{get_or}
use Rattle.std.proofs.Common.{arith}
use Rattle.value.proofs.Tests.{below}
use Rattle.program.specs.Bytes.{sources_in, sink_kind, commands_d, commands_in}
use Rattle.program.specs.Command.{Cmd, bytes_of, cmd_of, sequence_of, class_of, D, R, alloc_mono, make_poly, cell, gives}
use Rattle.program.specs.Command.{supply, react, sink, alloc_poly, consume}
use Rattle.program.specs.Location.{source_count, sink_count, command_loc, cmd_at, shape_there}
use Rattle.load.specs.Rules.{IsDeployment, IsPoint, IsCell, CommandRule, Once, Sets, Served, ReactorRule}
use Rattle.load.proofs.Exact.Class.{IsMade}
use Rattle.load.proofs.Exact.Places.{cmd_where}
use Rattle.haai.specs.Syntax as S
use Rattle.haai.specs.Syntax.{Exprs, Definition}
use Rattle.haai.specs.Emit.{declares_all, steps_all}
use Rattle.haai.proofs.Formed.{nth, FitAll, Stretch, Laid, WellFormed}
use Rattle.haai.proofs.Placing.{as_command}
use Rattle.haai.proofs.Clean.{Clean, clean}
use Rattle.haai.proofs.Righting.{Ports, shape_of_call, numbers_there, right_runs_all}
use Rattle.haai.proofs.Serving.{Names, Block, served_all}
use Rattle.haai.proofs.Standing.{plain_r, Written, stretch_at, exprs, values, runs_of, sinks_at, Where, in_d, in_r}
use Rattle.haai.proofs.Standing.{in_sink, fit, count_d, declared_there, runs_there, length_rs, sink_there, in_all}
use Rattle.haai.proofs.Standing.{every_here, written, stands}

module _ (p : List ℕ) (ds : List Definition) (g : ℕ) (ports : Ports p ds g) (laid : Laid p ds)
    (formed : WellFormed ds g) (k : ℕ) (low : k < length ds) where
  abbrev es : Exprs
  es = exprs p ds k

  abbrev s : ℕ
  s = source_count p k

  abbrev N : ℕ
  N = commands_d p k

  abbrev sinks : ℕ
  sinks = sinks_at p ds k

  bodies_fit : FitAll ds g s k es
  bodies_fit = fit p ds g laid formed k low

  decl : Stretch p k 0 (declares_all es)
  decl = declared_there p ds g laid formed k low

  run : Stretch p k (N + 0) (runs_of p ds k)
  run = let z : N + 0 ≡ N = omega arith in rw z (runs_there p ds g laid formed k low)

  many : commands_in p k ≡ sinks + S.count_of es
  many = in_all p ds g laid formed k low

  here : (i : ℕ) → i < commands_in p k → Where p ds k i
  here = stands p ds g laid formed k low

  -- ---- the sequences, and each command

  sequence_d_lem : (i : ℕ) → i < N → sequence_of (cmd_of p k i) ≡ D
  unfolding sequence_of
  sequence_d_lem i h = by (here i (let a = many in omega arith))
    where
      by : Where p ds k i → sequence_of (cmd_of p k i) ≡ D
      by (in_d l j q m) = ap sequence_of q
      by (in_r l m q) = absurd (omega arith)
      by (in_sink y z l q) = absurd (omega arith)

  sequence_r_lem : (i : ℕ) → N ≤ i → i < commands_in p k → sequence_of (cmd_of p k i) ≡ R
  unfolding sequence_of
  sequence_r_lem i h l = by (here i l)
    where
      by : Where p ds k i → sequence_of (cmd_of p k i) ≡ R
      by (in_d l j q m) = absurd (omega arith)
      by (in_r l m q) = plain_r (cmd_of p k i) q
      by (in_sink y z l q) = ap sequence_of q

  right : (i : ℕ) → i < commands_in p k → CommandRule p k (command_loc p k i) (cmd_of p k i)
  right i h = by (here i h)
    where
      by : Where p ds k i → CommandRule p k (command_loc p k i) (cmd_of p k i)
      by (in_d l j q m) = rw q (let c = ports.count in omega arith, m)
      by (in_r l m q) =
          let c = length_rs p ds g laid formed k low in
          let z : N + 0 + (i - N) ≡ i = omega arith in
          let e = stretch_at p k (N + 0) (runs_of p ds k) run i (i - N) (omega arith) (omega arith) in
          let r = right_runs_all p ds g ports k low es 0 0 bodies_fit run decl (i - N) (omega arith) in
          rw e (rw z at r)
      by (in_sink y z l q) =
          let c = laid.count_of_sinks k low in
          let few : y < 7 = let w = ports.few_sinks k low in omega arith in
          let v = numbers_there p ds g ports k low es 0 0 bodies_fit run decl y i l (omega arith) in
          let kind = ap (λ (x : ℕ). sink_kind p x y) (ports.shape k low) ∙ ports.kind_of_sink k y low few in
          rw q (v.0, rw c l, v.1 ∙ sym kind)

  -- ---- each deployment is served

  module _ (c j : ℕ) (h : c < commands_in p k) (e : cmd_of p k c ≡ alloc_mono j) where
    abbrev b : ℕ
    b = source_count p k + c

    its_place : (c < N) × (j < k)
    its_place = by (here c h)
      where
        by : Where p ds k c → (c < N) × (j < k)
        by (in_d l x q m) = let w : alloc_mono j ≡ alloc_mono x = sym e ∙ q in let v : j ≡ x = cc in (l, omega arith)
        by (in_r l m q) = absurd (rw e at q)
        by (in_sink y z l q) =
            let w : alloc_mono j ≡ sink y (get_or (values p ds k) y 0) = sym e ∙ q in
            let v : ◌≡◌ {A = ℕ} 0 1 = cc in
            absurd (omega arith)

    block : Block p ds g k c (N + 0) (N + 0 + steps_all es)
    block =
        let q = count_d p ds g laid formed k low in
        let l = its_place.0 in
        (served_all p ds g k es 0 (N + 0) 0 refl bodies_fit run decl).blocks c (omega arith) (omega arith)

    abbrev start : ℕ
    start = block.first

    abbrev end : ℕ
    end = block.first + block.count

    -- a command that names it is in its block
    inside : (i : ℕ) → i < commands_in p k → Names b (cmd_of p k i) → (start ≤ i) × (i < end + 2)
    inside i l n = by (here i l)
      where
        by : Where p ds k i → (start ≤ i) × (i < end + 2)
        by (in_d u x q m) = absurd (rw q at n)
        by (in_r u m q) = block.only i (omega arith) (omega arith) n
        by (in_sink y z u q) = absurd (rw q at n)

    -- and is one of these
    data Role (i : ℕ) : Type 0 where
      a_supply : (x a : ℕ) → i < end → i ≡ start + x → cmd_of p k i ≡ supply x a b → Role i
      the_react : i ≡ end → cmd_of p k i ≡ react b → Role i
      the_consume : i ≡ end + 1 → cmd_of p k i ≡ gives (consume 0 b) → Role i

    role : (i : ℕ) → i < commands_in p k → Names b (cmd_of p k i) → Role i
    role i l n = by (inside i l n) (below i end) (below i (end + 1))
      where
        by : (start ≤ i) × (i < end + 2) → (i < end) ⊎ (end ≤ i) → (i < end + 1) ⊎ (end + 1 ≤ i) → Role i
        by w (inl u) v =
            let w₀ = w.0 in
            let z : start + (i - start) ≡ i = omega arith in
            let t = block.supplied (i - start) (omega arith) in
            a_supply (i - start) t.0 u (sym z) (ap (λ (y : ℕ). cmd_of p k y) (sym z) ∙ t.1)
        by w (inr u) (inl v) =
            let z : i ≡ end = omega arith in the_react z (ap (λ (y : ℕ). cmd_of p k y) z ∙ block.reacts)
        by w (inr u) (inr v) =
            let w₁ = w.1 in
            let z : i ≡ end + 1 = omega arith in
            the_consume z (ap (λ (y : ℕ). cmd_of p k y) z ∙ block.consumes)

    in_bounds : (x : ℕ) → x < block.count + 2 → start + x < commands_in p k
    in_bounds x l = let a = many in let w = block.within in omega arith

    react_only : (i : ℕ) → i < commands_in p k → cmd_of p k i ≡ react b → i ≡ end
    react_only i l q = by (role i l (rw q refl))
      where
        by : Role i → i ≡ end
        by (a_supply x a u z w) =
            let v : react b ≡ supply x a b = sym q ∙ w in let y : ◌≡◌ {A = ℕ} 0 1 = cc in absurd (omega arith)
        by (the_react z w) = z
        by (the_consume z w) =
            let v : react b ≡ gives (consume 0 b) = sym q ∙ w in let y : ◌≡◌ {A = ℕ} 0 1 = cc in absurd (omega arith)

    supply_only : (i x a : ℕ) → i < commands_in p k → cmd_of p k i ≡ supply x a b → i ≡ start + x
    supply_only i x a l q = by (role i l (rw q refl))
      where
        by : Role i → i ≡ start + x
        by (a_supply y d u z w) = let v : supply x a b ≡ supply y d b = sym q ∙ w in let t : x ≡ y = cc in omega arith
        by (the_react z w) =
            let v : supply x a b ≡ react b = sym q ∙ w in let y : ◌≡◌ {A = ℕ} 0 1 = cc in absurd (omega arith)
        by (the_consume z w) =
            let v : supply x a b ≡ gives (consume 0 b) = sym q ∙ w in
            let y : ◌≡◌ {A = ℕ} 0 1 = cc in
            absurd (omega arith)

    consume_after : (i x : ℕ) → i < commands_in p k → cmd_of p k i ≡ gives (consume x b) → end < i
    consume_after i x l q = by (role i l (rw q refl))
      where
        by : Role i → end < i
        by (a_supply y d u z w) =
            let v : gives (consume x b) ≡ supply y d b = sym q ∙ w in
            let t : ◌≡◌ {A = ℕ} 0 1 = cc in
            absurd (omega arith)
        by (the_react z w) =
            let v : gives (consume x b) ≡ react b = sym q ∙ w in let y : ◌≡◌ {A = ℕ} 0 1 = cc in absurd (omega arith)
        by (the_consume z w) = omega arith

    -- as many Supplies as the callee has sources
    enough : (x : ℕ) → x < sources_in p (shape_there p k b) → x < block.count
    unfolding command_loc
    enough x l =
        let m = its_place.1 in
        let shape = shape_of_call p ds g ports k low c j h e m in
        let w : alloc_mono block.callee ≡ alloc_mono j = sym block.mono ∙ e in
        let z : block.callee ≡ j = cc in
        let l₂ : x < sources_in p j = rw shape at l in
        let q = ports.sources_in_lem j (omega arith) in
        let a = block.arity in
        let a₂ : block.count ≡ (nth ds j).parameters = rw z at a in
        omega arith

    served : Served p k b
    served =
        record {
          at = end;
          react = record { there = in_bounds block.count (omega arith); is = block.reacts; only = react_only };
          supplied = λ x l.
              let few = enough x l in (
                start + x,
                record {
                  there = in_bounds x (omega arith);
                  is = block.supplied x few;
                  only = λ i u q. supply_only i x q.0 u q.1;
                },
                omega arith,
              );
          consumed = λ i u q. consume_after i q.0 u q.1;
        }

  -- ---- what stands at a location

  -- a deployment, a branch point or a cell is some command's
  made : (l : ℕ) (c : Cmd) → IsMade (class_of c) → cmd_at p k l ≡ c
      → (i : ℕ) × (i < commands_in p k) × (l ≡ command_loc p k i) × (cmd_of p k i ≡ c)
  unfolding class_of
  made l c is e = cmd_where p k l c e (λ q. subst (λ d. IsMade (class_of d)) q is)

  -- which is one that a text can have
  known : (l : ℕ) (c : Cmd) → IsMade (class_of c) → cmd_at p k l ≡ c → Written c
  known l c is e =
      let w = made l c is e in let t = written p ds g laid formed k low w.0 w.1 in rw w.3 at t

  all_served : (l : ℕ) → IsDeployment p k (command_loc p k (commands_in p k)) l → Served p k l
  unfolding class_of command_loc
  all_served l (inl q) =
      let w = made l (alloc_mono q.0) tt q.1 in
      let z : l ≡ s + w.0 = w.2 in
      rw z (served w.0 q.0 w.1 w.3)
  all_served l (inr q) = absurd (known l (alloc_poly q.1.0 q.1.1) tt q.1.2)

  no_point : (l : ℕ) → IsPoint p k l → ⊥
  unfolding class_of
  no_point l q = known l (make_poly q.0) tt q.1

  no_cell : (l : ℕ) → IsCell p k l → ⊥
  unfolding class_of
  no_cell l q = known l (cell q.0 q.1) tt q.2

  sink_only : (i x a : ℕ) → i < commands_in p k → cmd_of p k i ≡ sink x a → i ≡ sinks + x
  sink_only i x a h q = by (here i h)
    where
      by : Where p ds k i → i ≡ sinks + x
      by (in_d l j w m) =
          let v : sink x a ≡ alloc_mono j = sym q ∙ w in let y : ◌≡◌ {A = ℕ} 0 1 = cc in absurd (omega arith)
      by (in_r l m w) = absurd (rw q at w)
      by (in_sink y z l w) =
          let v : sink x a ≡ sink y (get_or (values p ds k) y 0) = sym q ∙ w in let t : x ≡ y = cc in omega arith

  sink_set : (x : ℕ) → x < sink_count p k → (i : ℕ) × Once p k (Sets p k x) i
  sink_set x h =
      let l : x < S.count_of es = let c = laid.count_of_sinks k low in omega arith in (
        sinks + x,
        record {
          there = let a = many in omega arith;
          is = (get_or (values p ds k) x 0, sink_there p ds g laid formed k low x l);
          only = λ i u q. sink_only i x q.0 u q.1;
        },
      )

  pub reactor_rule : ((i : ℕ) → i < commands_in p k → bytes_of p k i ≡ as_command (cmd_of p k i)) → ReactorRule p k
  reactor_rule bytes =
      record {
        in_d = sequence_d_lem;
        in_r = sequence_r_lem;
        zero_bytes = λ i h.
            rw (bytes i h) (every_here p ds g laid formed k low Clean (clean ds g s k (nth ds k) bodies_fit) i h);
        commands = right;
        deployments = all_served;
        points = λ l q. absurd (no_point l q);
        cells = λ l q. absurd (no_cell l q);
        set = sink_set;
      }
