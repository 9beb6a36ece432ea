-- The equations of a turn: what each command says of the values at its locations. A slot is held (`Held`) once its
-- value is final: its command is behind, or it is a source or a sink that is noted. A change that writes no final slot
-- keeps what is held (`held_on`), and so each equation (`equation_on`).
use Rattle.std.specs.Prelude.{ℕ, ◌≤◌, ◌<◌, ◌≡◌, ◌⊎◌, ◌≢◌, true, false, List}
use Rattle.std.proofs.Common.{◌∙◌, inl, inr}
use Rattle.value.specs.Value.{deployment_mark, mark_of, value, blank, is_blank}
use Rattle.value.specs.Primitive as P
use Rattle.value.specs.Primitive.{operands}
use Rattle.value.specs.declared.Value.{Value}
use Rattle.program.specs.Command.{Cmd, alloc_mono, make_poly, constant, global, supply, react, consume, sink, alloc_poly}
use Rattle.program.specs.Command.{primitive, cell, fetch, keep, none, gives}
use Rattle.program.specs.Location.{source_count, sink_loc, HasSlot}
use Rattle.image.specs.Memory.{reactor, value_at}
use Rattle.image.specs.Sound.{Deployed}
use Rattle.image.proofs.Memory.Changes.{Change, unwritten, same_value}
use Rattle.remus.specs.Exec.{global_value}
use Rattle.remus.specs.Walk.{Note, location}
use Rattle.remus.specs.Point.{◌∈◌}
use Rattle.remus.proofs.Walk.MidTurn.{own, cmd}

abbrev pub deployment : ℕ → Value
deployment d = value deployment_mark d

module _ (p : List ℕ) where
  -- m the words, ns the notes, B the commands that are behind
  module _ (m : List ℕ) (ns : List Note) (B : ℕ → ℕ → Type 0) where
    -- why slot l of d is final
    pub data Final (d l : ℕ) : Type 0 where
      by_command : (j : ℕ) → B d j → own p m d j ≡ l → ((x : ℕ) → cmd p m d j ≢ make_poly x) → Final d l
      by_source : l < source_count p (reactor m d) → location d l ∈ ns → Final d l
      by_sink : (x : ℕ) → sink_loc p (reactor m d) x ≡ l → location d l ∈ ns → Final d l

    pub record Held (d l : ℕ) (v : Value) : Type 0 where
      pub deployed : Deployed p m d
      pub has_slot : HasSlot p (reactor m d) l
      pub final : Final d l
      pub is : value_at p m d l ≡ v

    -- no deployment at operand b of o
    abbrev pub Absent : ℕ → ℕ → Type 0
    Absent o b = (v : Value) × Held o b v × (v.mark ≢ deployment_mark)

    -- the equation of command c of o, whose own location is l; w are the words before the turn
    abbrev pub Equation : List ℕ → List ℕ → ℕ → ℕ → Cmd → Type 0
    Equation rd w o l (alloc_mono x) = Unit {0}
    Equation rd w o l (make_poly x) = Unit {0}
    Equation rd w o l (cell x a) = Unit {0}
    Equation rd w o l (gives (constant x a)) = Held o l (value (mark_of x) a)
    Equation rd w o l (gives (global x)) = Held o l (global_value rd w x)
    Equation rd w o l (gives (consume x b)) =
        ((d : ℕ) × (v : Value) × Held o b (deployment d) × Held d (sink_loc p (reactor m d) x) v × Held o l v)
        ⊎ Absent o b
    Equation rd w o l (gives (primitive x a b c)) =
        (s : Value) × (t : Value) × (v : Value) × Held o a s × (2 ≤ operands x → Held o b t)
        × (3 ≤ operands x → Held o c v) × Held o l (P.primitive x s t v)
    Equation rd w o l (gives (fetch b)) = (v : Value) × Held o b v × Held o l v
    Equation rd w o l (supply x a b) =
        ((d : ℕ) × (v : Value) × Held o b (deployment d) × Held o a v × Held d x v) ⊎ Absent o b
    Equation rd w o l (react b) = Unit {0}
    Equation rd w o l (sink x a) = (v : Value) × Held o a v × Held o (sink_loc p (reactor m o) x) v
    Equation rd w o l (alloc_poly a b) =
        (v : Value) × Held o a v × (is_blank v ≡ true → Held o l blank)
        × (is_blank v ≡ false → (d : ℕ) × Held o l (deployment d) × Deployed p m d × (reactor m d ≡ v.content))
    Equation rd w o l (keep a b) = Unit {0}
    Equation rd w o l none = Unit {0}

    -- every command that is behind has its equation
    abbrev pub Equations : List ℕ → List ℕ → Type 0
    Equations rd w = (o j : ℕ) → B o j → Equation rd w o (own p m o j) (cmd p m o j)

  -- ---- a change that writes no final slot

  module _ {W : ℕ → ℕ → Type 0} {N L : ℕ → Type 0} {m m' : List ℕ} {ns ns' : List Note} {B B' : ℕ → ℕ → Type 0}
      (c : Change p W N L m m') (spared : (d l : ℕ) → Final m ns B d l → W d l → ⊥)
      (notes : (n : Note) → n ∈ ns → n ∈ ns') (behind : (o j : ℕ) → B o j → B' o j) where
    final_on : {d l : ℕ} → Deployed p m d → Final m ns B d l → Final m' ns' B' d l
    final_on {d} t (by_command j b e n) = let r = c.reactors d t in by_command j (behind d j b) (rw r e) (rw r n)
    final_on {d} t (by_source h n) = by_source (rw (c.reactors d t) h) (notes _ n)
    final_on {d} t (by_sink x e n) = by_sink x (rw (c.reactors d t) e) (notes _ n)

    pub held_on : {d l : ℕ} {v : Value} → Held m ns B d l v → Held m' ns' B' d l v
    held_on {d} {l} h =
        record {
          deployed = c.kept d h.deployed;
          has_slot = rw (c.reactors d h.deployed) h.has_slot;
          final = final_on h.deployed h.final;
          is = same_value p d l (unwritten p c d l h.deployed h.has_slot (spared d l h.final)) ∙ h.is;
        }

    absent_on : {o b : ℕ} → Absent m ns B o b → Absent m' ns' B' o b
    absent_on a = (a.0, held_on a.1, a.2)

    pub equation_on : (rd w : List ℕ) (o l : ℕ) → Deployed p m o → (k : Cmd) → Equation m ns B rd w o l k
        → Equation m' ns' B' rd w o l k
    equation_on rd w o l t (alloc_mono x) q = tt
    equation_on rd w o l t (make_poly x) q = tt
    equation_on rd w o l t (cell x a) q = tt
    equation_on rd w o l t (gives (constant x a)) q = held_on q
    equation_on rd w o l t (gives (global x)) q = held_on q
    equation_on rd w o l t (gives (consume x b)) (inl q) =
        let r = c.reactors q.0 q.3.deployed in
        inl (q.0, q.1, held_on q.2, rw r (held_on q.3), held_on q.4)
    equation_on rd w o l t (gives (consume x b)) (inr q) = inr (absent_on q)
    equation_on rd w o l t (gives (primitive x a b d)) q =
        (q.0, q.1, q.2, held_on q.3, λ h. held_on (q.4 h), λ h. held_on (q.5 h), held_on q.6)
    equation_on rd w o l t (gives (fetch b)) q = (q.0, held_on q.1, held_on q.2)
    equation_on rd w o l t (supply x a b) (inl q) =
        inl (q.0, q.1, held_on q.2, held_on q.3, held_on q.4)
    equation_on rd w o l t (supply x a b) (inr q) = inr (absent_on q)
    equation_on rd w o l t (react b) q = tt
    equation_on rd w o l t (sink x a) q = (q.0, held_on q.1, rw (c.reactors o t) (held_on q.2))
    equation_on rd w o l t (alloc_poly a b) q = (
      q.0,
      held_on q.1,
      λ e. held_on (q.2 e),
      λ e. let z = q.3 e in (z.0, held_on z.1, c.kept z.0 z.2, c.reactors z.0 z.2 ∙ z.3),
    )
    equation_on rd w o l t (keep a b) q = tt
    equation_on rd w o l t none q = tt
