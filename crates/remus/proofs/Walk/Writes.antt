-- What a command leaves alone (`Writes`): of other commands' slots it writes a branch point's only. And what Cell and
-- Keep leave in their own (`Gave`).
use Rattle.std.specs.Prelude.{ℕ, ◌<◌, ◌≡◌, refl, ◌⊎◌, ◌≢◌, true, List}
use Rattle.std.proofs.Common.{inl}
use Rattle.std.proofs.Math.Logic.{⊎_map}
use Rattle.std.proofs.lemmas.Bool.{false≢true}
use Rattle.value.specs.Value.{mark_of, value}
use Rattle.program.specs.Bytes.{commands_in}
use Rattle.program.specs.Command.{Cmd, gives_value, takes_words, alloc_mono, make_poly, supply, react, sink, alloc_poly}
use Rattle.program.specs.Command.{cell, keep, none, gives}
use Rattle.program.proofs.Slots.{slot_command}
use Rattle.image.specs.Memory.{reactor, wired, value_at}
use Rattle.image.specs.Sound.{Deployed}
use Rattle.image.proofs.Memory.Changes.{Same, same_self, Change, This-slot, Nothing, unwritten, unwired}
use Rattle.remus.specs.Cells.{pending}
use Rattle.remus.proofs.Walk.MidTurn.{own, cmd}
use Rattle.remus.proofs.Walk.Locations.{own_one}

-- from m to m', by command i of o
pub record Writes (p m m' : List ℕ) (o i : ℕ) : Type 0 where
  pub others : (a j : ℕ) → Deployed p m a → j < commands_in p (reactor m a) → takes_words (cmd p m a j) ≡ true
      → (This-slot p o i a j → ⊥) → ((x : ℕ) → cmd p m a j ≢ make_poly x) → Same p m m' a (own p m a j)
  pub wireds : (d : ℕ) → Deployed p m d → wired m' d ≡ wired m d
  pub back : (d : ℕ) → Deployed p m' d → Deployed p m d ⊎ (wired m' d ≡ 0)

-- what the command leaves in its own slot
abbrev pub Gave : List ℕ → List ℕ → List ℕ → ℕ → ℕ → Cmd → Type 0
Gave p m m' o i (alloc_mono x) = Unit {0}
Gave p m m' o i (make_poly x) = Unit {0}
Gave p m m' o i (cell x v) = value_at p m' o (own p m o i) ≡ value (mark_of x) v
Gave p m m' o i (gives g) = Unit {0}
Gave p m m' o i (supply x a b) = Unit {0}
Gave p m m' o i (react b) = Unit {0}
Gave p m m' o i (sink x a) = Unit {0}
Gave p m m' o i (alloc_poly a b) = Unit {0}
Gave p m m' o i (keep a b) = value_at p m' o (own p m o i) ≡ pending (value_at p m o a)
Gave p m m' o i none = Unit {0}

pub gave_value : (p m m' : List ℕ) (o i : ℕ) (c : Cmd) → gives_value c ≡ true → Gave p m m' o i c
unfolding gives_value
gave_value p m m' o i (alloc_mono x) e = tt
gave_value p m m' o i (make_poly x) e = tt
gave_value p m m' o i (cell x v) e = absurd (false≢true e)
gave_value p m m' o i (gives g) e = tt
gave_value p m m' o i (supply x a b) e = tt
gave_value p m m' o i (react b) e = tt
gave_value p m m' o i (sink x a) e = tt
gave_value p m m' o i (alloc_poly a b) e = tt
gave_value p m m' o i (keep a b) e = absurd (false≢true e)
gave_value p m m' o i none e = tt

module _ (p : List ℕ) {W : ℕ → ℕ → Type 0} {N : ℕ → Type 0} {m m' : List ℕ} {o i : ℕ} where
  pub writes : Change p W N (Nothing p) m m' →
      ((a j : ℕ) → Deployed p m a → j < commands_in p (reactor m a) → (This-slot p o i a j → ⊥) →
      ((x : ℕ) → cmd p m a j ≢ make_poly x) → W a (own p m a j) → ⊥) →
      ((d : ℕ) → N d → wired m' d ≡ 0) → Writes p m m' o i
  writes c off new =
      record {
        others = λ a j t h e n k.
            unwritten p c a (own p m a j) t (slot_command p (reactor m a) j h e) (off a j t h n k);
        wireds = λ d t. unwired p c d t (λ z. z);
        back = λ d t. ⊎_map (λ z. z) (new d) (c.back d t);
      }

-- a command that writes its own slot only
pub own_writes : (p : List ℕ) {N : ℕ → Type 0} {m m' : List ℕ} {o i : ℕ} →
    Change p (This-slot p o (own p m o i)) N (Nothing p) m m' → ((d : ℕ) → N d → wired m' d ≡ 0) → Writes p m m' o i
own_writes p {m = m} {o = o} {i = i} c new =
    writes p c (λ a j t h n k z. let e = z.0 in n (e, own_one p (reactor m o) j i (rw e at z.1))) new

pub no_writes : (p m : List ℕ) (o i : ℕ) → Writes p m m o i
no_writes p m o i = record { others = λ a j t h e n k. same_self p; wireds = λ d t. refl; back = λ d t. inl t }
