-- What the contracts of the check's code speak of beside the definitions: what the scan rests on, the lent tables as a
-- state, and what is asked of a command at once. Only proofs rest on this; what is accepted is said in Scan.antt and
-- Check.antt.
use Rattle.std.specs.Prelude.{ℕ, ◌+◌, ◌^◌, ◌≤◌, ◌<◌, ◌≡◌, ◌≢◌, Bool, true, false, List, get_or, replicate}
use Rattle.std.specs.Prelude.{Option, None, Some, Result, Ok, Err}
use Rattle.std.specs.Bool.{then_some}
use Rattle.value.specs.Test.{pick, ◌<?◌, ◌and◌, ◌or◌, ◌=?◌}
use Rattle.program.specs.Bytes.{shapes, reactors, sources_in, shape_of, commands_in, commands_r, command_at}
use Rattle.program.specs.declared.Command.{Command}
use Rattle.program.specs.Location.{most_locations, locations, results}
use Rattle.program.specs.Command.{Cmd, Give, gives, sequence_of, decode, bytes_of, v_of}
use Rattle.program.specs.Kind.{give_kind}
use Rattle.load.specs.Refusal.{at_command}
use Rattle.load.specs.Scan.{Scanned, free_point, standing_at, kind_at, is_supplied, is_value, scanned, some_value, stand}
use Rattle.load.specs.Scan.{in_sequence, formed, remaining, located, agreed, disorder, refusal_of, standing_after}
use Rattle.load.specs.Scan.{after_of, scan_of, begin_of, settled}
use Rattle.answer.specs.declared.Refusal.{Refusal}
use Rattle.load.specs.declared.Location.{Location}
use Rattle.load.specs.declared.Progress.{Progress}
use Rattle.load.specs.declared.Scan.{Scan}
use Rattle.load.specs.declared.Locations.{Locations}

-- the weight of bit x of a byte; for a higher one 256, which no byte reaches
unfoldable pub byte_bit : ℕ → ℕ
byte_bit x = pick (x <? 8) (2 ^ x) 256

-- ---- what the scan of a reactor rests on, so that no number in it wraps

-- the tables are legal, as far as the scan asks
pub record LegalTables (p : List ℕ) : Type 0 where
  pub some_shape : 0 < shapes p
  pub few_sources : (s : ℕ) → s < shapes p → sources_in p s ≤ 7
  pub shape : (r : ℕ) → r < reactors p → shape_of p r < shapes p
  pub few_commands : (r : ℕ) → r < reactors p → commands_in p r ≤ 160

-- the source that c supplies is one of a byte's bits, and not supplied
abbrev pub FreeSource : Scan → Command → Type 0
FreeSource s c = (c.x < 8) × (is_supplied s c.b c.x ≡ false)

-- a branch point's or deployment's kind is a shape; an own sink's is 0
abbrev pub Shaped : List ℕ → Scan → Type 0
Shaped p s = (l : ℕ) → free_point ≤ standing_at s l → kind_at s l < shapes p

-- nothing stands past the locations of reactor r
abbrev pub Within : List ℕ → ℕ → Scan → Type 0
Within p r s = (l : ℕ) → locations p r ≤ l → standing_at s l ≡ 0

-- ---- the lent tables

-- before anything stands anywhere
abbrev pub blank : Locations
blank = record { standing = replicate most_locations 0; kind = replicate most_locations 0 }

-- the tables of standings and kinds, and the index of the next command
abbrev pub state : Locations → ℕ → Scan
state t n = record { standing = t.standing; kind = t.kind; next = n }

-- a value of this kind at location `here`, if there is one
abbrev pub valued : Option ℕ → Scan → ℕ → Scan
valued None s here = s
valued (Some k) s here = stand s here some_value k

-- ---- one command

-- no test but that of the sequence refuses the command
unfoldable pub right : List ℕ → ℕ → Scan → Command → Cmd → Bool
right p r s c d = formed p c d and remaining d and located s d and agreed p r s d and (disorder p r s d =? 0)

-- and neither does that one; `is_d` among the D commands
unfoldable pub allowed : Bool → List ℕ → ℕ → Scan → Command → Cmd → Bool
allowed is_d p r s c d = in_sequence (sequence_of d) is_d and right p r s c d

-- k is the kind of the value that the command gives, or none where it is refused
abbrev pub Giving : List ℕ → ℕ → Locations → Command → Give → Option ℕ → Type 0
Giving p r t c g k = (n : ℕ) →
    let s = state t n in k ≡ then_some (right p r s c (gives g)) (give_kind p (kind_at s) (kind_at s) g)

-- a primitive's operands, by what it takes: one, any or a truth; two of kind k; two of one
-- kind; a truth and two of one kind
abbrev pub one_right : Scan → Command → Bool → Bool
one_right s c any = (c.b + v_of c =? 0) and is_value s c.a and (any or (kind_at s c.a =? 1))

abbrev pub two_right : Scan → Command → ℕ → Bool
two_right s c k = (v_of c =? 0) and (is_value s c.a and is_value s c.b) and
    ((kind_at s c.a =? k) and (kind_at s c.b =? k))

abbrev pub alike_right : Scan → Command → Bool
alike_right s c = (v_of c =? 0) and (is_value s c.a and is_value s c.b) and (kind_at s c.a =? kind_at s c.b)

abbrev pub three_right : Scan → Command → Bool
three_right s c =
    (v_of c =? c.v0) and (is_value s c.a and is_value s c.b and is_value s c.v0)
    and ((kind_at s c.a =? 1) and (kind_at s c.b =? kind_at s c.v0))

-- t tells whether the R command is right; if so the tables are as after it, else as before
pub record Taking (p : List ℕ) (r here : ℕ) (before after : Locations) (c : Command) (d : Cmd) (t : Bool) : Type 0 where
  pub told : (n : ℕ) → t ≡ allowed false p r (state before n) c d
  pub done : (n : ℕ) →
      let s = state before n in state after n ≡ pick t (standing_after p r s here d) s

-- m is what a D command makes of its location, or none where it is refused
abbrev pub Making : List ℕ → ℕ → Scan → ℕ → Command → Cmd → Option Location → Type 0
Making p r s here c d None = allowed true p r s c d ≡ false
Making p r s here c d (Some m) =
    (allowed true p r s c d ≡ true) × (stand s here m.standing m.kind ≡ standing_after p r s here d)

-- a refusal's number as an answer, at byte q
unfoldable pub told : ℕ → ℕ → Result (Unit {0}) Refusal
told n q = pick (n =? 0) (Ok tt) (Err (at_command n q))

-- from s the command c leads to the state that is handed back, or is refused and nothing has changed
abbrev pub Stepped : List ℕ → ℕ → Scan → Command → Locations → Option Progress → Type 0
Stepped p r s c t None = (refusal_of p r s c (decode c) ≢ 0) × (state t s.next ≡ s)
Stepped p r s c t (Some q) =
    (refusal_of p r s c (decode c) ≡ 0) × (q.next ≡ s.next + 1) × (state t q.next ≡ after_of p r s (decode c))

-- ---- many commands

-- what the commands of reactor r come to
abbrev pub all_of : List ℕ → ℕ → Scanned
all_of p r = scan_of (commands_in p r) p r (begin_of p r)

-- the refusal of the next command
abbrev pub refusal_next : List ℕ → ℕ → Scan → ℕ
refusal_next p r u = refusal_of p r u (bytes_of p r u.next) (decode (bytes_of p r u.next))

-- they stop at u, where one of them is refused
abbrev pub Stopped : List ℕ → ℕ → Scan → Type 0
Stopped p r u = (refusal_next p r u ≢ 0) × (all_of p r ≡ scanned (refusal_next p r u) (command_at p r u.next) u)

-- one of them is refused, and the tables are those before it; or none is, and n have a result
abbrev pub Ran : List ℕ → ℕ → Locations → Result ℕ Refusal → Type 0
Ran p r t (Err w) = ((i : ℕ) × Stopped p r (state t i)) × (w ≡ at_command (all_of p r).code (all_of p r).place)
Ran p r t (Ok n) =
    let s = state t (commands_in p r) in
    (all_of p r ≡ scanned 0 0 s) × Within p r s × (n ≡ results p r (commands_r p r))

-- t tells whether the n locations from `at` on are settled
abbrev pub Sweeping : List ℕ → ℕ → ℕ → Bool → Type 0
Sweeping standing at n t = (t ≡ true → (i : ℕ) → at ≤ i → i < at + n → settled (get_or standing i 0) ≡ true)
    × (((i : ℕ) → i < most_locations → settled (get_or standing i 0) ≡ true) → t ≡ true)
