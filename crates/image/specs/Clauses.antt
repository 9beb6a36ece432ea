-- What the contracts of the code speak of beside the definitions. Passes.antt is cut into what each function answers;
-- and the sweep's one table is tied to those of the three passes.
use Rattle.std.specs.Prelude.{ℕ, zero, suc, Ok, Err, ◌+◌, ◌≤◌, ◌<◌, ◌≡◌, ◌≢◌, Bool, true, List, ◌∷◌, length, get_or}
use Rattle.std.specs.Borrow.{MutBor}
use Rattle.std.specs.Fn.{Shared}
use Rattle.value.specs.Test.{pick, ◌≤?◌, ◌=?◌, ◌and◌, ◌<?◌, sweep}
use Rattle.program.specs.Bytes.{reactors, commands_at, main_of, commands_d}
use Rattle.program.specs.Command.{Made, deployment, point, held, nought, made_by, cmd_of}
use Rattle.program.specs.Location.{command_loc, size_of}
use Rattle.image.specs.Memory.{used, reactor, deploy, starts_from, most_turns, main_at, turns, next}
use Rattle.image.specs.Passes.{Judged, name, deepen, tiles_from, slot_sound, named_by, lowest, over, table_byte}
use Rattle.image.specs.Passes.{with_table_byte, visit, children_of, own_sound, lowest_unfit}
use Rattle.image.specs.declared.DSlot.{DSlot}
use Rattle.image.specs.declared.Makes.{Makes}
use Rattle.image.specs.declared.Makes.TheVariants.{Deployment, Point, Cell, Nothing}
use Rattle.image.specs.declared.Pass.TheVariants.{Starts, Names, Depths}
use Rattle.image.specs.Start.{Start}
use Rattle.answer.specs.Answer.{Answer}

-- where u after it fits a word; else nothing is placed
unfoldable pub deploy_fits : List ℕ → List ℕ → ℕ → ℕ → List ℕ
deploy_fits p m r old = pick (used m + size_of p r ≤? 4294967295) (deploy p m r old) m

-- what a D command makes, of the enum that the code has
unfoldable pub made : Makes → Made
made (Deployment x) = deployment x
made (Point x) = point x
made (Cell x) = held x
made Nothing = nought

-- a table of the byte at which each reactor's commands begin
abbrev pub Positions : List ℕ → List ℕ → Type 0
Positions p places = (r : ℕ) → r < reactors p → get_or places r 0 ≡ commands_at p r

module _ (p m : List ℕ) where
  -- the deployments from a on
  abbrev pub starts_on : ℕ → ℕ → List ℕ
  starts_on u a = starts_from p (length m) m u a

  -- the deployments from a on tile the words up to u
  pub record Tiling (u a : ℕ) : Type 0 where
    pub fits : u ≤ length m
    pub tiled : tiles_from p m (length m) u a ≡ true

  -- b is where the deployment at a ends
  pub record Follows (u a b : ℕ) : Type 0 where
    pub tiling : Tiling u b
    pub within : b ≤ u
    pub rises : a < b
    pub legal : reactor m a < reactors p
    pub here : starts_on u a ≡ a ∷ starts_on u b

-- what a pass answers by the place of a fault; 0 is none
unfoldable pub judged : ℕ → Judged
judged zero = Ok tt
judged (suc a) = Err (suc a)

-- calls of f on a table, which is changed in place, and a deployment leave in the table what `does` says
abbrev pub Leaves : {F : Type 0} → Shared F (MutBor (List ℕ) × (ℕ × Unit {0})) (Unit {0} × (MutBor (List ℕ) × Unit {0})) → F
    → (List ℕ → ℕ → List ℕ) → Type 0
Leaves g f does = (t t₁ : MutBor (List ℕ)) (c : ℕ) → g.post f (t, (c, tt)) (tt, (t₁, tt)) → t₁.now ≡ does t.now c

module _ (p m : List ℕ) where
  -- whether the slot of D command j of o is right
  unfoldable pub command_sound : List ℕ → ℕ → ℕ → Bool
  command_sound t o j = slot_sound p m t o (command_loc p (reactor m o) j) (made_by (cmd_of p (reactor m o) j))

  -- the deployments that D command j of o names
  unfoldable pub named_at : ℕ → ℕ → List ℕ
  named_at o j = named_by p m o (command_loc p (reactor m o) j) (made_by (cmd_of p (reactor m o) j))

  -- s is the slot of D command j of o
  pub record SlotOf (o j : ℕ) (s : DSlot) : Type 0 where
    pub located : s.location ≡ command_loc p (reactor m o) j
    pub makes : made s.makes ≡ made_by (cmd_of p (reactor m o) j)

-- ---- the sweep

-- A grown image is tested in two walks over the deployments, with one table. A byte is 0 where no deployment begins, 1
-- to 3 where one begins that is not named yet, and 4 more than its depth once it is named. A sweep that succeeds shows
-- that the passes find nothing; where it fails they are gone through, since their places count.

-- the sweep's table t with those of the passes: s of the starts, n of the names so far, d of the depths so far
pub record Merged (s n d t : List ℕ) : Type 0 where
  pub unnamed : (i : ℕ) → 1 ≤ get_or t i 0 → get_or t i 0 ≤ 3 → (get_or s i 0 ≡ get_or t i 0) × (get_or n i 0 ≡ 0)
  pub named : (i : ℕ) → 4 ≤ get_or t i 0 → (get_or n i 0 ≡ 1) × (get_or d i 0 + 4 ≡ get_or t i 0)
  pub names : length t ≤ length n
  pub depths : length t ≤ length d

-- what is named in t stays so, at its depth
pub record Later (t t₁ : List ℕ) : Type 0 where
  pub kept : (i : ℕ) → 4 ≤ get_or t i 0 → get_or t₁ i 0 ≡ get_or t i 0

-- the deployment at o is named, at a depth from 1 to 64; k is its byte
pub record Placed (o k : ℕ) (t : List ℕ) : Type 0 where
  pub held : table_byte t o ≡ k
  pub least : 5 ≤ k
  pub most : k ≤ 68

-- from t to t₁ the children l of o are named, and a test of them by the table of starts holds
pub record Sweeps (o : ℕ) (l : List ℕ) (ok : List ℕ → Bool) (t t₁ : List ℕ) : Type 0 where
  pub holds : (s n d : List ℕ) → Merged s n d t → ok s ≡ true
  pub steps : (s n d : List ℕ) → Merged s n d t → Merged s (over name n l) (over (deepen o) d l) t₁
  pub later : Later t t₁

module _ (p m : List ℕ) (o : ℕ) (t t₁ : List ℕ) where
  -- D slot l of o is swept
  abbrev pub SlotSwept : ℕ → Made → Type 0
  SlotSwept l made = Sweeps o (named_by p m o l made) (λ s. slot_sound p m s o l made) t t₁

  -- all D slots of o are
  abbrev pub SlotsSwept : Type 0
  SlotsSwept =
      Sweeps o (children_of p m o)
      (λ s. sweep (command_sound p m s o) 0 (commands_d p (reactor m o)) =? commands_d p (reactor m o)) t t₁

  -- and so is o
  abbrev pub OwnSwept : Type 0
  OwnSwept = Sweeps o (children_of p m o) (λ s. own_sound p m s o) t t₁

-- from t to t₁ the deployments l are swept: each is sound by itself, and named, at a depth of at most 64
pub record Swept (p m l t t₁ : List ℕ) : Type 0 where
  pub owns : (s n d : List ℕ) → Merged s n d t → lowest (own_sound p m s) l ≡ 0
  pub steps : (s n d : List ℕ) → Merged s n d t → Merged s (over (visit p m Names) n l) (over (visit p m Depths) d l) t₁
  pub later : Later t t₁
  pub deep : (ok : ℕ → Bool) → ((a : ℕ) → 5 ≤ table_byte t₁ a → table_byte t₁ a ≤ 68 → ok a ≡ true) → lowest ok l ≡ 0

-- from t to t₁ the starts are marked, as the deployments tile the words up to u, and main is named
pub record Begun (p m : List ℕ) (u : ℕ) (t t₁ : List ℕ) : Type 0 where
  pub tiled : tiles_from p m (length m) u main_at ≡ true
  pub marked : t₁ ≡ with_table_byte (over (visit p m Starts) t (starts_on p m u main_at)) main_at 5

-- word 1 and main's first and next are those of a grown image
pub record Headed (p m : List ℕ) : Type 0 where
  pub late : turns m ≢ 0
  pub few : turns m ≤ most_turns
  pub first : ((main_at <? used m) and (reactor m main_at =? main_of p)) ≡ true
  pub last : next m main_at ≡ 0

-- what a sweep that succeeds shows: the deployments tile the words up to u too, and no pass finds a fault
pub record Grown (p m : List ℕ) : Type 0 where
  pub head : Headed p m
  pub tiled : tiles_from p m (length m) (used m) main_at ≡ true
  pub owns : lowest_unfit p m Starts (starts_on p m (used m) main_at) ≡ 0
  pub names : lowest_unfit p m Names (starts_on p m (used m) main_at) ≡ 0
  pub depths : lowest_unfit p m Depths (starts_on p m (used m) main_at) ≡ 0

-- start's answer, and the memory then
unfoldable pub started : Answer → List ℕ → Start
started r m = record { answer = r; memory = m }
