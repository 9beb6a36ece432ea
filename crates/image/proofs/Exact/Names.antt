-- Names: the lists of children against `Owner`, and the table that counts names against `NamedOnce`.
use Rattle.std.specs.Prelude.{ℕ, zero, suc, ◌+◌, ◌/◌, ◌≤◌, ◌<◌, min, ◌≡◌, refl, ◌↔◌, ◌≢◌, true}
use Rattle.std.proofs.Common.{sym, ◌∙◌, ap, subst}
use Rattle.std.specs.Prelude.{List, [], ◌∷◌, ◌++◌, length}
use Rattle.std.proofs.Common.{arith}
use mathlib.Core.List.Memᴰ.{head as first}
use mathlib.Core.List.Memᴰ.{not-nil as in_nil}
use mathlib.Core.List.Memᴰ.{tail as later}
use mathlib.Core.List.Memᴰ.{eq_of_singleton as in_one}
use Rattle.value.specs.Test.{pick, ◌<?◌}
use Rattle.value.proofs.Tests.{cases, lt?, lt×?, eq!, eq?, yes, no}
use Rattle.program.specs.Bytes.{reactors, commands_d}
use Rattle.program.specs.Command.{alloc_mono, make_poly, cell, nought, made_by, cmd_of}
use Rattle.program.specs.Location.{command_loc}
use Rattle.image.specs.Memory.{main_at, reactor, content}
use Rattle.image.specs.Sound.{Deployed, Chain, Names as NamedBy, by_mono, by_point, Owner, NamedOnce}
use Rattle.image.specs.Fault.{SlotsRight}
use Rattle.image.specs.Passes.{over, table_byte, blank_table, name, members_from, named_by, children_from, children_of}
use Rattle.image.specs.Passes.{visit, table_after, fits}
use Rattle.image.specs.declared.Pass.TheVariants.{Names}
use Rattle.image.proofs.Exact.Lists.{◌∈◌, same, from, from_in, from_rising, total, OneOf, total_one, is, is_same}
use Rattle.image.proofs.Exact.Lists.{is_other, count, count_none, count_in, count_most, flat, flat_in}
use Rattle.image.proofs.Exact.Lists.{total_flat}
use Rattle.image.proofs.Exact.Tables.{over_flat, entry_near, entry_here, entry_other, entry_length, blank_main}
use Rattle.image.proofs.Exact.Tables.{blank_other}
use Rattle.image.proofs.Exact.Tiling.{Laid, starts, table_of, start_in, start_rising, main_deployed, deployed_one}
use Rattle.image.proofs.Exact.Tiling.{deployed_entry}
use Rattle.image.proofs.Memory.Tiles.{in_ge}
use Rattle.image.proofs.Exact.Chains.{members, members_once}
use Rattle.image.proofs.Memory.Slots.{names_above}
use Rattle.image.proofs.Exact.SlotTests.{Makes, a_deployment, a_point, a_cell, neither, makes, made_mono}
use Rattle.image.proofs.Exact.SlotTests.{made_point, made_cell}

module _ (p m : List ℕ) where
  -- what D command j of o names, as a list
  abbrev pub owned : ℕ → ℕ → List ℕ
  owned o j = named_by p m o (command_loc p (reactor m o) j) (made_by (cmd_of p (reactor m o) j))

  module _ (o j : ℕ) where
    pub owned_mono : {x : ℕ} → cmd_of p (reactor m o) j ≡ alloc_mono x →
        owned o j ≡ content p m o (command_loc p (reactor m o) j) ∷ []
    unfolding named_by
    owned_mono e = ap (named_by p m o (command_loc p (reactor m o) j)) (made_mono e)

    pub owned_point : {x : ℕ} → cmd_of p (reactor m o) j ≡ make_poly x →
        owned o j ≡ members_from p m (reactors p) (content p m o (command_loc p (reactor m o) j))
    unfolding named_by
    owned_point e = ap (named_by p m o (command_loc p (reactor m o) j)) (made_point e)

    pub owned_cell : {x v : ℕ} → cmd_of p (reactor m o) j ≡ cell x v → owned o j ≡ []
    unfolding named_by
    owned_cell e = ap (named_by p m o (command_loc p (reactor m o) j)) (made_cell e)

    pub owned_none : made_by (cmd_of p (reactor m o) j) ≡ nought → owned o j ≡ []
    unfolding named_by
    owned_none e = ap (named_by p m o (command_loc p (reactor m o) j)) e

  -- the D commands of o
  abbrev pub commands : ℕ → List ℕ
  commands o = from (commands_d p (reactor m o)) 0

  pub command_in : (o j : ℕ) → (j ∈ commands o) ↔ (j < commands_d p (reactor m o))
  command_in o j =
      let w = from_in (commands_d p (reactor m o)) 0 j in
      (λ i. omega (arith, w.0 i), λ l. w.1 (omega arith))

  children_flat : (n j o : ℕ) → children_from p m n j o ≡ flat (owned o) (from n j)
  unfolding children_from flat from
  children_flat zero j o = refl
  children_flat (suc n) j o = ap (λ (l : List ℕ). owned o j ++ l) (children_flat n (j + 1) o)

  children_list : (o : ℕ) → children_of p m o ≡ flat (owned o) (commands o)
  unfolding children_of
  children_list o = children_flat (commands_d p (reactor m o)) 0 o

  -- how often o names d
  abbrev times : ℕ → ℕ → ℕ
  times d o = count d (children_of p m o)

  times_total : (d o : ℕ) → times d o ≡ total (λ j. count d (owned o j)) (commands o)
  times_total d o = ap (count d) (children_list o) ∙ total_flat (is d) (owned o) (commands o)

  -- ---- the lists of children

  -- what D command j of o names is on its list, where the slot of a branch point heads a chain
  pub names_owned : Laid p m → {o j d : ℕ} → ((x : ℕ) → cmd_of p (reactor m o) j ≡ make_poly x →
      Chain p m o x (content p m o (command_loc p (reactor m o) j))) → NamedBy p m o j d → d ∈ owned o j
  names_owned laid {o} {j} {d} ch (by_mono x e q) =
      subst (λ (k : List ℕ). d ∈ k) (sym (owned_mono o j e)) (first (sym q))
  names_owned laid {o} {j} {d} ch (by_point x e i) =
      subst (λ (k : List ℕ). d ∈ k) (sym (owned_point o j e)) ((members p m laid o x d (ch x e)).1 i)

  module _ (laid : Laid p m) {o : ℕ} (right : SlotsRight p m o) {j : ℕ} (l : j < commands_d p (reactor m o)) where
    owned_above : {d : ℕ} → NamedBy p m o j d → (Deployed p m d × (o < d))
    owned_above k = names_above p (λ x e. right.monos j x l e) (λ x e. right.points j x l e) k

    owned_names : (d : ℕ) → Makes (cmd_of p (reactor m o) j) → d ∈ owned o j → NamedBy p m o j d
    owned_names d (a_deployment x e) i = by_mono x e (sym (in_one (subst (λ (k : List ℕ). d ∈ k) (owned_mono o j e) i)))
    owned_names d (a_point x e) i = by_point x e
        ((members p m laid o x d (right.points j x l e).chain).0 (subst (λ (k : List ℕ). d ∈ k) (owned_point o j e) i))
    owned_names d (a_cell x v e) i = absurd (in_nil (subst (λ (k : List ℕ). d ∈ k) (owned_cell o j e) i))
    owned_names d (neither e) i = absurd (in_nil (subst (λ (k : List ℕ). d ∈ k) (owned_none o j e) i))

    -- one command names none twice
    owned_once : (d : ℕ) → Makes (cmd_of p (reactor m o) j) → count d (owned o j) ≤ 1
    owned_once d (a_deployment x e) = omega (arith, count_most d (owned o j), ap length (owned_mono o j e))
    owned_once d (a_point x e) = subst (λ (k : List ℕ). count d k ≤ 1) (sym (owned_point o j e))
        (members_once p m (reactors p) d (right.points j x l e).chain)
    owned_once d (a_cell x v e) = omega (arith, count_most d (owned o j), ap length (owned_cell o j e))
    owned_once d (neither e) = omega (arith, count_most d (owned o j), ap length (owned_none o j e))

  module _ (laid : Laid p m) (right : (o : ℕ) → Deployed p m o → SlotsRight p m o) where
    -- what is named is deployed above its owner
    pub owner_above : {o j d : ℕ} → Owner p m o j d → (Deployed p m d × (o < d))
    owner_above {o} w = owned_above laid (right o w.deployed) w.low w.names

    owner_owned : {o j d : ℕ} → Owner p m o j d → d ∈ owned o j
    owner_owned {o} {j} w =
        names_owned laid (λ x e. ((right o w.deployed).points j x w.low e).chain) w.names

    owned_owner : {o j d : ℕ} → Deployed p m o → j < commands_d p (reactor m o) → d ∈ owned o j → Owner p m o j d
    owned_owner {o} {j} {d} h l i =
        record { deployed = h; low = l; names = owned_names laid (right o h) l d (makes (cmd_of p (reactor m o) j)) i }

    pub owner_child : {o j d : ℕ} → Owner p m o j d → d ∈ children_of p m o
    owner_child {o} {j} {d} w = subst (λ (l : List ℕ). d ∈ l) (sym (children_list o))
        ((flat_in d (owned o) (commands o)).1 (j, (command_in o j).1 w.low, owner_owned w))

    pub child_owner : {o d : ℕ} → Deployed p m o → d ∈ children_of p m o → (j : ℕ) × Owner p m o j d
    child_owner {o} {d} h i =
        let k = (flat_in d (owned o) (commands o)).0 (subst (λ (l : List ℕ). d ∈ l) (children_list o) i) in
        (k.0, owned_owner h ((command_in o k.0).0 k.1) k.2)

    pub child_above : {o d : ℕ} → Deployed p m o → d ∈ children_of p m o → (Deployed p m d × (o < d))
    child_above h i = owner_above (child_owner h i).1

    -- ---- named once

    once? : (d : ℕ) → total (times d) (starts p m) ≡ 1 → NamedOnce p m d
    once? d h =
        let a = (total_one (times d) (start_rising p m laid)).0 h in
        let o = a.which in
        let b = (total_one (λ j. count d (owned o j)) (from_rising (commands_d p (reactor m o)) 0)).0
        (sym (times_total d o) ∙ a.one) in
        let j = b.which in
        record {
          owner = o;
          command = j;
          named = owned_owner ((start_in p m laid o).0 a.there) ((command_in o j).0 b.there)
              (count_in d (owned o j) (omega (arith, b.one)));
          only = λ o' j' w.
              let e : o' ≡ o = same o' o (λ q. q) (λ n.
              absurd ((count_none d _).0 (a.others o' ((start_in p m laid o').1 w.deployed) n) (owner_child w))) in
              let v : Owner p m o j' d = subst (λ (x : ℕ). Owner p m x j' d) e w in (
                e,
                same j' j (λ q. q)
                    (λ n. absurd ((count_none d _).0 (b.others j' ((command_in o j').1 v.low) n) (owner_owned v))),
              );
        }

    once! : (d : ℕ) → NamedOnce p m d → total (times d) (starts p m) ≡ 1
    once! d h =
        let o = h.owner in
        let j = h.command in
        let w = h.named in
        let by_one : OneOf (λ k. count d (owned o k)) (commands o) =
        record {
          which = j;
          there = (command_in o j).1 w.low;
          one =
              let some : count d (owned o j) ≢ 0 = (λ z. (count_none d (owned o j)).0 z (owner_owned w)) in
              omega (arith, owned_once laid (right o w.deployed) w.low d (makes (cmd_of p (reactor m o) j)));
          others = λ k i n.
              (count_none d (owned o k)).1 (λ e. n (h.only o k (owned_owner w.deployed ((command_in o k).0 i) e)).1);
        } in
        (total_one (times d) (start_rising p m laid)).1
        (record {
          which = o;
          there = (start_in p m laid o).1 w.deployed;
          one = times_total d o
              ∙ (total_one (λ k. count d (owned o k)) (from_rising (commands_d p (reactor m o)) 0)).1 by_one;
          others = λ a i n.
              (count_none d (children_of p m a)).1
              (λ e. let k = child_owner ((start_in p m laid a).0 i) e in n (h.only a k.0 k.1).0);
        })

-- ---- the table

-- one more, up to 2
more : ℕ → ℕ
more v = pick (v <? 2) (v + 1) 2

more_entry : (v : ℕ) → v ≤ 2 → more v ≡ min 2 (v + 1)
unfolding more
more_entry v h =
    cases (v <? 2)
    (λ e. let l : v < 2 = lt? e in sym (yes 2 e (omega arith)))
    (λ e. let l : 2 ≤ v = lt×? e in sym (no (v + 1) e (omega arith)))

module _ (d : ℕ) where
  name_entry : (a : ℕ) (t : List ℕ) → (d / 3 ≡ a / 3 → d ≡ a) → d / 3 < length t → table_byte t d ≤ 2 →
      table_byte (name t a) d ≡ min 2 (table_byte t d + is d a)
  unfolding name more
  name_entry a t one h g =
      same (d / 3) (a / 3)
      (λ e.
      let before = entry_near t d a e in
      omega (
        arith,
        entry_here t a (more (table_byte t a)) d e h,
        more_entry (table_byte t a) (omega arith),
        is_same {d = d} {a = a} (sym (one e)),
      ))
      (λ n. omega (
        arith,
        entry_other t a (more (table_byte t a)) d n,
        is_other {d = d} {a = a} (λ q. n (ap (λ (x : ℕ). x / 3) (sym q))),
      ))

  name-length : (a : ℕ) (t : List ℕ) → length (name t a) ≡ length t
  unfolding name
  name-length a t = entry_length t a _

  -- an entry grows by the number of times that it is named, up to 2, where no other of its three words is
  names_entry : (l t : List ℕ) → ((a : ℕ) → a ∈ l → d / 3 ≡ a / 3 → d ≡ a) → d / 3 < length t → table_byte t d ≤ 2 →
      table_byte (over name t l) d ≡ min 2 (table_byte t d + count d l)
  unfolding over total
  names_entry [] t one h g = omega arith
  names_entry (a ∷ l) t one h g =
      let k = name_entry a t (one a (first refl)) h g in
      omega (arith, names_entry l (name t a) (λ b i. one b (later i)) (rw name-length h) (omega arith))

module _ (p m : List ℕ) (laid : Laid p m) (right : (o : ℕ) → Deployed p m o → SlotsRight p m o) where
  -- all that is named
  abbrev named : List ℕ
  named = flat (children_of p m) (starts p m)

  named_above : {d : ℕ} → d ∈ named → (Deployed p m d × (main_at < d))
  named_above {d} i =
      let k = (flat_in d (children_of p m) (starts p m)).0 i in
      let o = (start_in p m laid k.0).0 k.1 in
      let a = child_above p m laid right o k.2 in
      (a.0, omega (arith, in_ge p o, a.1))

  named_entry : {d : ℕ} → Deployed p m d → table_byte blank_table d ≤ 2 →
      table_byte (table_of p m Names) d ≡ min 2 (table_byte blank_table d + count d named)
  unfolding table_after visit
  named_entry {d} i g =
      ap (λ (t : List ℕ). table_byte t d) (over_flat name (children_of p m) (starts p m) blank_table)
      ∙ names_entry d named blank_table (λ a j. deployed_one p m laid i (named_above j).0) (deployed_entry p m laid i) g

  -- main begins as named once, and nothing names it
  main_named : table_byte (table_of p m Names) main_at ≡ 1
  main_named =
      let none : count main_at named ≡ 0 = (count_none main_at named).1 (λ i. omega (arith, (named_above i).1)) in
      omega (arith, blank_main, named_entry (main_deployed p m laid) (omega (arith, blank_main)))

  other_named : {d : ℕ} → Deployed p m d → d ≢ main_at →
      table_byte (table_of p m Names) d ≡ min 2 (total (times p m d) (starts p m))
  other_named {d} i n =
      let blank = blank_other d (λ e. n (deployed_one p m laid i (main_deployed p m laid) e)) in
      omega (arith, named_entry i (omega arith), total_flat (is d) (children_of p m) (starts p m))

  pub named_test : {d : ℕ} → Deployed p m d →
      (fits p m Names (table_of p m Names) d ≡ true) ↔ (d ≢ main_at → NamedOnce p m d)
  unfolding fits
  named_test {d} i = (
    λ e n. once? p m laid right d (omega (arith, eq? e, other_named i n)),
    λ h.
        eq!
        (same d main_at
        (λ e. ap (table_byte (table_of p m Names)) e ∙ main_named)
        (λ n. omega (arith, other_named i n, once! p m laid right d (h n)))),
  )
