-- Soundness by three passes over the deployments. A pass changes a table of bytes for each of them, then asks each
-- whether it is fit: where deployments begin, how often each is named, how deep each is. Each pass reads each
-- deployment's words, and each chain's, once. The ladder of sound_of is the order in which faults are found.
use Rattle.std.specs.Prelude.{ℕ, zero, suc, ◌+◌, ◌-◌, ◌/◌, ◌%◌, ◌≤◌, ◌≡◌, ◌↔◌, Bool, true, false, List, [], ◌∷◌, ◌++◌}
use Rattle.std.specs.Prelude.{length, get_or, set, replicate}
use Rattle.value.specs.Test.{◌and◌, pick, ◌<?◌, ◌≤?◌, ◌=?◌, guard, sweep}
use Rattle.value.specs.Value.{deployment_mark, point_mark}
use Rattle.program.specs.Bytes.{reactors, shape_of, commands_d, main_of, most_reactors}
use Rattle.program.specs.Command.{Made, deployment, point, held, nought, made_by, cmd_of}
use Rattle.program.specs.Location.{head_words, command_loc, size_of}
use Rattle.program.specs.Kind.{legal}
use Rattle.image.specs.Sound.{SoundImage}
use Rattle.image.specs.Memory.{most_words, most_turns, most_depth, main_at, used, turns, reactor, wired, next, zero_at}
use Rattle.image.specs.Memory.{mark, content, value_at, size_at, starts_below, slots_d, slots_r}
use Rattle.std.specs.Prelude.{Result, Ok, Err}
use Rattle.image.specs.declared.Pass.{Pass}
use Rattle.image.specs.declared.Pass.TheVariants.{Starts, Names, Depths}

-- whether an image is sound; if not, the place that refusal 9 names
abbrev pub Judged : Type 0
Judged = Result (Unit {0}) ℕ

-- the first deployment of a list for which the test fails, 0 if none
unfoldable pub lowest : (ℕ → Bool) → List ℕ → ℕ
lowest ok [] = 0
lowest ok (a ∷ rest) = guard (ok a) a (λ _. lowest ok rest)

-- a table changed for each of a list
unfoldable pub over : (List ℕ → ℕ → List ℕ) → List ℕ → List ℕ → List ℕ
over f t [] = t
over f t (a ∷ rest) = over f (f t a) rest

-- a byte for each three of 16,384 words
abbrev pub table_bytes : ℕ
table_bytes = 5462

-- the byte for the deployment at c: by 3.4 each takes three words or more, so that no two begin in the same three
unfoldable pub table_byte : List ℕ → ℕ → ℕ
table_byte t c = get_or t (c / 3) 0

unfoldable pub with_table_byte : List ℕ → ℕ → ℕ → List ℕ
with_table_byte t c v = set t (c / 3) v

-- each pass begins with zeros but for main, which counts as named once, and whose depth is 1
unfoldable pub blank_table : List ℕ
blank_table = with_table_byte (replicate table_bytes 0) main_at 1

-- a start's byte tells in which of its three words it is
abbrev pub start_byte : ℕ → ℕ
start_byte c = 1 + c % 3

unfoldable pub is_start : List ℕ → ℕ → Bool
is_start t c = table_byte t c =? start_byte c

-- one more name for c; more than once is as twice
unfoldable pub name : List ℕ → ℕ → List ℕ
name t c = with_table_byte t c (pick (table_byte t c <? 2) (table_byte t c + 1) 2)

-- one more than depth d; past the limit every depth is as the first past it, so that a byte holds each
unfoldable pub one_deeper : ℕ → ℕ
one_deeper d = pick (d ≤? most_depth) (d + 1) d

-- c is one deeper than its owner o
unfoldable pub deepen : ℕ → List ℕ → ℕ → List ℕ
deepen o t c = with_table_byte t c (one_deeper (table_byte t o))

module _ (p : List ℕ) (m : List ℕ) where
  -- the deployments from a on tile the words up to u exactly
  unfoldable pub tiles_from : ℕ → ℕ → ℕ → Bool
  tiles_from zero u a = a =? u
  tiles_from (suc f) u a =
      guard (a <? u) (a =? u) (λ _.
      guard (reactor m a <? reactors p) false (λ _.
      tiles_from f u (a + size_at p m a)))

  -- 3.18 The chain from c: indices fall and stay above the owner o, shapes are s, and no reactor comes twice. last: the
  -- index of the one before; seen: a byte for each reactor. So f, one more than there are reactors, is enough.
  unfoldable pub chain_from : ℕ → List ℕ → ℕ → ℕ → ℕ → List ℕ → ℕ → Bool
  chain_from zero t o s last seen c = false
  chain_from (suc f) t o s last seen c =
      guard (0 <? c) true (λ _.
      guard ((o <? c) and (c <? last) and is_start t c) false (λ _.
      guard ((shape_of p (reactor m c) =? s) and (get_or seen (reactor m c) 0 =? 0)) false (λ _.
      chain_from f t o s c (set seen (reactor m c) 1) (next m c))))

  -- what D slot l of o has to hold
  unfoldable pub slot_sound : List ℕ → ℕ → ℕ → Made → Bool
  slot_sound t o l (deployment x) =
      let c = content p m o l in
      (mark p m o l =? deployment_mark) and (o <? c) and is_start t c and (reactor m c =? x) and (next m c =? 0)
  slot_sound t o l (point x) = (mark p m o l =? point_mark)
      and chain_from (reactors p + 1) t o x (used m) (replicate most_reactors 0) (content p m o l)
  slot_sound t o l (held x) = legal p x (value_at p m o l)
  slot_sound t o l nought = true

  -- 3.16 Every slot of a but the D slots is zero.
  unfoldable pub clear_at : ℕ → Bool
  clear_at a =
      let r = reactor m a in
      zero_at m (a + head_words) (slots_d p r - head_words) and zero_at m (a + slots_r p r) (size_of p r - slots_r p r)

  -- a deployment's own words
  unfoldable pub own_sound : List ℕ → ℕ → Bool
  own_sound t a =
      let r = reactor m a in
      (wired m a =? 1) and clear_at a
      and (sweep (λ j. slot_sound t a (command_loc p r j) (made_by (cmd_of p r j))) 0 (commands_d p r) =? commands_d p r)

  -- the chain from c, as a list
  unfoldable pub members_from : ℕ → ℕ → List ℕ
  members_from zero c = []
  members_from (suc f) c = guard (0 <? c) [] (λ _. c ∷ members_from f (next m c))

  -- the deployments that D slot l of o names
  unfoldable pub named_by : ℕ → ℕ → Made → List ℕ
  named_by o l (deployment x) = content p m o l ∷ []
  named_by o l (point x) = members_from (reactors p) (content p m o l)
  named_by o l (held x) = []
  named_by o l nought = []

  -- all that the n D commands from j on of o name
  unfoldable pub children_from : ℕ → ℕ → ℕ → List ℕ
  children_from zero j o = []
  children_from (suc n) j o =
      named_by o (command_loc p (reactor m o) j) (made_by (cmd_of p (reactor m o) j)) ++ children_from n (j + 1) o

  -- all that o names
  unfoldable pub children_of : ℕ → List ℕ
  children_of o = children_from (commands_d p (reactor m o)) 0 o

  -- what a pass does for the deployment at o. Owners come before their children.
  unfoldable pub visit : Pass → List ℕ → ℕ → List ℕ
  visit Starts t o = with_table_byte t o (start_byte o)
  visit Names t o = over name t (children_of o)
  visit Depths t o = over (deepen o) t (children_of o)

  -- the table after a pass
  unfoldable pub table_after : Pass → List ℕ → List ℕ
  table_after pass starts = over (visit pass) blank_table starts

  -- what has to hold then of the deployment at a: its own words, 3.16 to 3.19; that one slot names it; its depth, 3.20
  unfoldable pub fits : Pass → List ℕ → ℕ → Bool
  fits Starts t a = own_sound t a
  fits Names t a = table_byte t a =? 1
  fits Depths t a = table_byte t a ≤? most_depth

  -- the lowest deployment that a pass finds unfit, 0 if none
  unfoldable pub lowest_unfit : Pass → List ℕ → ℕ
  lowest_unfit pass starts = let t = table_after pass starts in lowest (fits pass t) starts

  -- with turns 0: main is unwired and its slots are zero; then, no deployment follows it
  unfoldable pub fresh_sound : Judged
  fresh_sound =
      let end = main_at + size_of p (main_of p) in
      guard ((wired m main_at =? 0) and zero_at m (main_at + head_words) (size_of p (main_of p) - head_words))
      (Err main_at) (λ _.
      guard (used m =? end) (Err end) (λ _. Ok tt))

  -- with turns above 0: each deployment's own words, then how often each is named, then how deep each is
  unfoldable pub grown_sound : List ℕ → Judged
  grown_sound starts =
      let own = lowest_unfit Starts starts in
      guard (own =? 0) (Err own) (λ _.
      let named = lowest_unfit Names starts in
      guard (named =? 0) (Err named) (λ _.
      guard (lowest_unfit Depths starts =? 0) (Err 0) (λ _. Ok tt)))

  unfoldable pub by_turns : Bool → Judged
  by_turns true = fresh_sound
  by_turns false = grown_sound (starts_below p m (used m))

  -- words 0 and 1, the tiling with main first, and the words from u on
  unfoldable pub framed : Bool
  framed =
      (used m ≤? length m) and (turns m ≤? most_turns) and ((main_at <? used m) and (reactor m main_at =? main_of p))
      and tiles_from (length m) (used m) main_at and zero_at m (used m) (length m - used m)

  -- main is the lowest deployment, so that its next comes before all that is asked of others
  unfoldable pub sound_of : Judged
  sound_of =
      guard framed (Err 0) (λ _.
      guard (next m main_at =? 0) (Err main_at) (λ _.
      by_turns (turns m =? 0)))

-- Exact soundness, for a program of no more reactors than the check accepts. Proved in proofs/Exact.antt.
abbrev pub ExactSoundness : List ℕ → Type 0
ExactSoundness p = reactors p ≤ most_reactors → (m : List ℕ) → length m ≤ most_words →
    (sound_of p m ≡ Ok tt) ↔ SoundImage p m
