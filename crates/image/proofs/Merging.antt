-- The sweep's table beside those of the passes: a child named, children one after the other, deployments one after the
-- other, and the tables before the first. A sweep that comes to its end shows that no pass finds a fault.
-- Assumes nothing.
use Rattle.std.specs.Prelude.{ℕ, ◌+◌, ◌-◌, ◌/◌, ◌%◌, ◌≤◌, ◌<◌, ◌≡◌, refl, ◌≢◌, Bool, true, Ok}
use Rattle.std.proofs.Common.{sym, ◌∙◌, ap, ⊎_elim}
use Rattle.std.specs.Prelude.{List, [], ◌∷◌, ◌++◌, length, get_or, set, replicate}
use Rattle.std.proofs.Common.{arith}
use lib.ListN.{length-set, length-replicate, get_or-eq_default}
use lib.Seq.{get_or-set_same, get_or-set_other, set_out}
use Rattle.value.specs.Test.{◌and◌, ◌<?◌, pick}
use Rattle.value.proofs.Tests.{same?, below, both!, lt!, le!, eq!, eq?, yes, goes}
use Rattle.value.proofs.Zeros.{zeros_at}
use Rattle.image.specs.Memory.{main_at, used, zero_at}
use Rattle.image.specs.Passes as P
use Rattle.image.specs.Passes.{table_bytes, lowest, over, table_byte, with_table_byte, blank_table, is_start, name}
use Rattle.image.specs.Passes.{deepen, visit, fits, own_sound, children_of, table_after, lowest_unfit, tiles_from}
use Rattle.image.specs.Passes.{grown_sound, framed, sound_of}
use Rattle.image.specs.Clauses.{starts_on, Merged, Later, Placed, Sweeps, Swept, Begun, Headed, Grown}
use Rattle.image.specs.declared.Pass.{Pass}
use Rattle.image.specs.declared.Pass.TheVariants.{Starts, Names, Depths}
use Rattle.image.proofs.Lists.{over_append}
use Rattle.image.proofs.Cuts.{grown_judged}

-- ---- a table that changes

-- a byte that is not 0 lies within the table
inside : (t : List ℕ) (i : ℕ) → 1 ≤ get_or t i 0 → i < length t
inside t i h =
    ⊎_elim (λ (l : i < length t). l)
    (λ (l : length t ≤ i). let e : get_or t i 0 ≡ 0 = get_or-eq_default t 0 l in absurd (omega arith))
    (below i (length t))

later_same : (t : List ℕ) → Later t t
later_same t = record { kept = λ i h. refl }

later_then : (t t₁ t₂ : List ℕ) → Later t t₁ → Later t₁ t₂ → Later t t₂
later_then t t₁ t₂ f g = record { kept = λ i h. let e = f.kept i h in g.kept i (omega arith) ∙ e }

pub placed_later : (o k : ℕ) (t t₁ : List ℕ) → Placed o k t → Later t t₁ → Placed o k t₁
unfolding table_byte
placed_later o k t t₁ f g =
    let h = f.held in
    let l = f.least in
    record { held = g.kept (o / 3) (omega arith) ∙ h; least = l; most = f.most }

-- ---- a child named

-- byte i becomes b, and the entries of the passes go with it
module _ (s n d t : List ℕ) (i b v : ℕ) (f : Merged s n d t) (least : 4 ≤ b) (its : v + 4 ≡ b)
    (within : i < length t) where
  set_named : (j : ℕ) → 4 ≤ get_or (set t i b) j 0 → (get_or (set n i 1) j 0 ≡ 1) ×
      (get_or (set d i v) j 0 + 4 ≡ get_or (set t i b) j 0)
  set_named j h =
      ⊎_elim
      (λ (e : j ≡ i).
      let l = f.names in
      let m = f.depths in
      rw e (
        get_or-set_same n i 1 0 (omega arith),
        ap (λ (k : ℕ). k + 4) (get_or-set_same d i v 0 (omega arith)) ∙ its
            ∙ sym (get_or-set_same t i b 0 within),
      ))
      (λ (e : j ≢ i).
      let q = get_or-set_other t i j b 0 e in
      let w = f.named j (omega (arith, q)) in
      (get_or-set_other n i j 1 0 e ∙ w.0, ap (λ (k : ℕ). k + 4) (get_or-set_other d i j v 0 e) ∙ w.1 ∙ sym q))
      (same? j i)

  set_unnamed : (j : ℕ) → 1 ≤ get_or (set t i b) j 0 → get_or (set t i b) j 0 ≤ 3
      → (get_or s j 0 ≡ get_or (set t i b) j 0) × (get_or (set n i 1) j 0 ≡ 0)
  set_unnamed j h g =
      ⊎_elim
      (λ (e : j ≡ i).
      let q : get_or (set t i b) j 0 ≡ b = ap (λ (k : ℕ). get_or (set t i b) k 0) e ∙ get_or-set_same t i b 0 within in
      absurd (omega arith))
      (λ (e : j ≢ i).
      let q = get_or-set_other t i j b 0 e in
      let w = f.unnamed j (omega (arith, q)) (omega (arith, q)) in
      (w.0 ∙ sym q, get_or-set_other n i j 1 0 e ∙ w.1))
      (same? j i)

  merged_set : Merged s (set n i 1) (set d i v) (set t i b)
  merged_set =
      let l = f.names in
      let m = f.depths in
      record { unnamed = set_unnamed; named = set_named; names = simp length-set l; depths = simp length-set m }

one_deeper_lem : (x : ℕ) → x ≤ 64 → x + 1 ≡ P.one_deeper x
unfolding P.one_deeper
one_deeper_lem x h = yes _ (le! h) refl

-- the child c of o, not named yet, is named
module _ (o k last c : ℕ) (t : List ℕ) (at : Placed o k t) (start : is_start t c ≡ true) where
  its_byte : get_or t (c / 3) 0 ≡ 1 + c % 3
  unfolding is_start table_byte
  its_byte = eq? start

  linked_holds : o < c → c < last → (s n d : List ℕ) → Merged s n d t
      → ((o <? c) and (c <? last) and is_start s c) ≡ true
  unfolding is_start table_byte
  linked_holds above low s n d f =
      let e = its_byte in
      let w = f.unnamed (c / 3) (omega arith) (omega arith) in
      both! (lt! above) (both! (lt! low) (eq! (w.0 ∙ e)))

  linked_steps : (s n d : List ℕ) → Merged s n d t → Merged s (name n c) (deepen o d c) (with_table_byte t c (k + 1))
  unfolding name deepen with_table_byte table_byte
  linked_steps s n d f =
      let e = its_byte in
      let l = at.least in
      let h = at.most in
      let g : get_or t (o / 3) 0 ≡ k = at.held in
      let w = f.unnamed (c / 3) (omega arith) (omega arith) in
      let v = f.named (o / 3) (omega arith) in
      let z : get_or n (c / 3) 0 ≡ 0 = w.1 in
      let q : get_or d (o / 3) 0 + 4 ≡ k = v.1 ∙ g in
      let one : 1 ≡ pick (get_or n (c / 3) 0 <? 2) (get_or n (c / 3) 0 + 1) 2 = yes _ (lt! (omega arith)) (omega arith) in
      let deep : get_or d (o / 3) 0 + 1 ≡ P.one_deeper (get_or d (o / 3) 0) = one_deeper_lem (get_or d (o / 3) 0) (omega arith) in
      rw (← one, ← deep) (merged_set s n d t (c / 3) (k + 1) (get_or d (o / 3) 0 + 1) f (omega arith) (omega arith)
      (inside t (c / 3) (omega arith)))

  linked_kept : (i : ℕ) → 4 ≤ get_or t i 0 → get_or (with_table_byte t c (k + 1)) i 0 ≡ get_or t i 0
  unfolding with_table_byte
  linked_kept i h =
      let e = its_byte in
      get_or-set_other t (c / 3) i (k + 1) 0
      (λ q. let x : get_or t i 0 ≡ 1 + c % 3 = ap (λ (j : ℕ). get_or t j 0) q ∙ e in omega arith)

  pub sweeps_link : o < c → c < last → (t₁ : List ℕ) → t₁ ≡ with_table_byte t c (k + 1)
      → Sweeps o (c ∷ []) (λ s. (o <? c) and (c <? last) and is_start s c) t t₁
  unfolding over
  sweeps_link above low t₁ e =
      rw e
      (record { holds = linked_holds above low; steps = linked_steps; later = record { kept = linked_kept } })

-- ---- children one after the other

module _ (o : ℕ) where
  pub sweeps_none : (ok : List ℕ → Bool) (l t : List ℕ) → ((s : List ℕ) → ok s ≡ true) → l ≡ [] → Sweeps o l ok t t
  unfolding over
  sweeps_none ok l t h e = rw e (record { holds = λ s n d f. h s; steps = λ s n d f. f; later = later_same t })

  -- first l, then l₁; what both tests give
  pub sweeps_then : (l l₁ l₂ : List ℕ) (ok ok₁ ok₂ : List ℕ → Bool) (t t₁ t₂ : List ℕ) → l₂ ≡ l ++ l₁
      → ((s : List ℕ) → ok s ≡ true → ok₁ s ≡ true → ok₂ s ≡ true) → Sweeps o l ok t t₁ → Sweeps o l₁ ok₁ t₁ t₂
      → Sweeps o l₂ ok₂ t t₂
  sweeps_then l l₁ l₂ ok ok₁ ok₂ t t₁ t₂ e h f g =
      rw e
      (record {
        holds = λ s n d q. h s (f.holds s n d q) (g.holds s _ _ (f.steps s n d q));
        steps = λ s n d q. rw (← over_append name n l l₁, ← over_append (deepen o) d l l₁)
            (g.steps s _ _ (f.steps s n d q));
        later = later_then t t₁ t₂ f.later g.later;
      })

  -- the same children, by a weaker test
  pub sweeps_as : (l l₁ : List ℕ) (ok ok₁ : List ℕ → Bool) (t t₁ : List ℕ) → l ≡ l₁
      → ((s : List ℕ) → ok s ≡ true → ok₁ s ≡ true)
      → Sweeps o l ok t t₁ → Sweeps o l₁ ok₁ t t₁
  sweeps_as l l₁ ok ok₁ t t₁ e h f =
      rw (← e) (record { holds = λ s n d q. h s (f.holds s n d q); steps = f.steps; later = f.later })

-- ---- deployments one after the other

module _ (p m : List ℕ) where
  pub swept_none : (l t : List ℕ) → l ≡ [] → Swept p m l t t
  unfolding over lowest
  swept_none l t e =
      rw e (record { owns = λ s n d f. refl; steps = λ s n d f. f; later = later_same t; deep = λ ok h. refl })

  module _ (a k : ℕ) (rest t t₁ t₂ : List ℕ) (at : Placed a k t)
      (f : Sweeps a (children_of p m a) (λ s. own_sound p m s a) t t₁) (g : Swept p m rest t₁ t₂) where
    first_deep : (ok : ℕ → Bool) → ((b : ℕ) → 5 ≤ table_byte t₂ b → table_byte t₂ b ≤ 68 → ok b ≡ true) → ok a ≡ true
    first_deep ok h =
        let w = placed_later a k t t₂ at (later_then t t₁ t₂ f.later g.later) in
        let e = w.held in
        let l = w.least in
        let q = w.most in
        h a (omega arith) (omega arith)

    pub swept_next : (l : List ℕ) → l ≡ a ∷ rest → Swept p m l t t₂
    unfolding over lowest visit
    swept_next l e =
        rw e
        (record {
          owns = λ s n d q. sym (goes _ _ (f.holds s n d q) (sym (g.owns s _ _ (f.steps s n d q))));
          steps = λ s n d q. g.steps s _ _ (f.steps s n d q);
          later = later_then t t₁ t₂ f.later g.later;
          deep = λ ok h. sym (goes _ _ (first_deep ok h) (sym (g.deep ok h)));
        })

-- ---- the tables before the first deployment

-- starts marked in a shorter table
record Marks (s t : List ℕ) : Type 0 where
  marked : (i : ℕ) → 1 ≤ get_or t i 0 → get_or s i 0 ≡ get_or t i 0
  few : (i : ℕ) → get_or t i 0 ≤ 3
  room : length t ≤ length s

marks_set : (s t : List ℕ) (i v : ℕ) → v ≤ 3 → Marks s t → Marks (set s i v) (set t i v)
marks_set s t i v h f =
    record { marked = one; few = two; room = (let l = f.room in simp length-set l) }
  where
    out : length t ≤ i → set t i v ≡ t
    out l = set_out t i v l

    one : (j : ℕ) → 1 ≤ get_or (set t i v) j 0 → get_or (set s i v) j 0 ≡ get_or (set t i v) j 0
    one j g =
        ⊎_elim
        (λ (e : j ≡ i).
        let w = inside (set t i v) j g in
        let q : length (set t i v) ≡ length t = length-set t i v in
        let l = f.room in
        rw e (get_or-set_same s i v 0 (omega arith) ∙ sym (get_or-set_same t i v 0 (omega arith))))
        (λ (e : j ≢ i).
        let q = get_or-set_other t i j v 0 e in
        get_or-set_other s i j v 0 e ∙ f.marked j (omega (arith, q)) ∙ sym q)
        (same? j i)

    two : (j : ℕ) → get_or (set t i v) j 0 ≤ 3
    two j =
        ⊎_elim
        (λ (e : j ≡ i).
        ⊎_elim
        (λ (l : i < length t). let q : get_or (set t i v) j 0 ≡ v = ap (λ (k : ℕ). get_or (set t i v) k 0) e
        ∙ get_or-set_same t i v 0 l in omega arith)
        (λ (l : length t ≤ i). let q : get_or (set t i v) j 0 ≡ get_or t j 0 =
        ap (λ (r : List ℕ). get_or r j 0) (out l) in omega (arith, f.few j)) (below i (length t)))
        (λ (e : j ≢ i). omega (arith, get_or-set_other t i j v 0 e, f.few j)) (same? j i)

module _ (p m : List ℕ) where
  marks_all : (l s t : List ℕ) → Marks s t → Marks (over (visit p m Starts) s l) (over (visit p m Starts) t l)
  unfolding over visit with_table_byte
  marks_all [] s t f = f
  marks_all (a ∷ l) s t f = marks_all l _ _ (marks_set s t (a / 3) (1 + a % 3) (omega arith) f)

  marks_length : (l t : List ℕ) → length (over (visit p m Starts) t l) ≡ length t
  unfolding over visit with_table_byte
  marks_length [] t = refl
  marks_length (a ∷ l) t = marks_length l _ ∙ length-set t (a / 3) (1 + a % 3)

blank_byte : (i : ℕ) → i ≢ 0 → get_or blank_table i 0 ≡ 0
unfolding blank_table with_table_byte
blank_byte i h = get_or-set_other (replicate table_bytes 0) 0 i 1 0 h ∙ zeros_at table_bytes i

blank_first : get_or blank_table 0 0 ≡ 1
unfolding blank_table with_table_byte
blank_first = get_or-set_same (replicate table_bytes 0) 0 1 0 (rw (length-replicate {A = ℕ}) (omega arith))

blank_length : length blank_table ≡ table_bytes
unfolding blank_table with_table_byte
blank_length = length-set {A = ℕ} (replicate table_bytes 0) 0 1 ∙ length-replicate {A = ℕ} table_bytes 0

-- main is named as the sweep begins
merged_first : (s t : List ℕ) → Marks s t → 0 < length t → length t ≤ table_bytes
    → Merged s blank_table blank_table (set t 0 5)
merged_first s t f h g =
    record {
      unnamed = one;
      named = two;
      names = (let e = length-set t 0 5 in let w = blank_length in omega arith);
      depths = (let e = length-set t 0 5 in let w = blank_length in omega arith);
    }
  where
    one : (i : ℕ) → 1 ≤ get_or (set t 0 5) i 0 → get_or (set t 0 5) i 0 ≤ 3
        → (get_or s i 0 ≡ get_or (set t 0 5) i 0) × (get_or blank_table i 0 ≡ 0)
    one i a b =
        ⊎_elim
        (λ (e : i ≡ 0). let q : get_or (set t 0 5) i 0 ≡ 5 = ap (λ (k : ℕ). get_or (set t 0 5) k 0) e
        ∙ get_or-set_same t 0 5 0 h in absurd (omega arith))
        (λ (e : i ≢ 0). let q = get_or-set_other t 0 i 5 0 e in
        (f.marked i (omega (arith, q)) ∙ sym q, blank_byte i e)) (same? i 0)

    two : (i : ℕ) → 4 ≤ get_or (set t 0 5) i 0 → (get_or blank_table i 0 ≡ 1) ×
        (get_or blank_table i 0 + 4 ≡ get_or (set t 0 5) i 0)
    two i a =
        ⊎_elim
        (λ (e : i ≡ 0).
        rw e (blank_first, ap (λ (k : ℕ). k + 4) blank_first ∙ sym (get_or-set_same t 0 5 0 h)))
        (λ (e : i ≢ 0). absurd (omega (arith, get_or-set_other t 0 i 5 0 e, f.few i))) (same? i 0)

-- ---- a sweep that comes to its end

module _ (p m l t t₁ t₂ : List ℕ) (zeros : t ≡ replicate (length t) 0) (some : 0 < length t)
    (few : length t ≤ table_bytes)
    (marked : t₁ ≡ over (visit p m Starts) t l) (swept : Swept p m l (with_table_byte t₁ main_at 5) t₂) where
  begun : Merged (table_after p m Starts l) blank_table blank_table (with_table_byte t₁ main_at 5)
  unfolding with_table_byte table_after
  begun =
      let e : length t₁ ≡ length t = ap length marked ∙ marks_length p m l t in
      let f : Marks (over (visit p m Starts) blank_table l) t₁ = rw marked (marks_all p m l blank_table t unmarked) in
      merged_first (over (visit p m Starts) blank_table l) t₁ f (omega arith) (omega arith)
    where
      unmarked : Marks blank_table t
      unmarked =
          let none : (i : ℕ) → get_or t i 0 ≡ 0 = (λ i. ap (λ (r : List ℕ). get_or r i 0) zeros ∙ zeros_at (length t) i) in
          record {
            marked = λ i h. absurd (omega (arith, none i));
            few = λ i. omega (arith, none i);
            room = (let w = blank_length in omega arith);
          }

  ended : Merged (table_after p m Starts l) (table_after p m Names l) (table_after p m Depths l) t₂
  unfolding table_after
  ended = swept.steps _ _ _ begun

  starts_fit : lowest_unfit p m Starts l ≡ 0
  unfolding lowest_unfit fits
  starts_fit = swept.owns _ _ _ begun

  names_fit : lowest_unfit p m Names l ≡ 0
  unfolding lowest_unfit fits table_byte
  names_fit = swept.deep _ (λ a h g. eq! (ended.named (a / 3) (omega arith)).0)

  depths_fit : lowest_unfit p m Depths l ≡ 0
  unfolding lowest_unfit fits table_byte
  depths_fit = swept.deep _ (λ a h g. let w = ended.named (a / 3) (omega arith) in le! (omega (arith, w.1)))

pub swept_grown : (p m : List ℕ) (u n : ℕ) (t b t₂ : List ℕ) → t ≡ replicate n 0 → 0 < n → n ≤ table_bytes
    → u ≡ used m → Headed p m → Begun p m u t b → Swept p m (starts_on p m u main_at) b t₂
    → Grown p m
swept_grown p m u n t b t₂ y i j e h g w =
    let k : length t ≡ n = ap length y ∙ length-replicate {A = ℕ} n 0 in
    let z : t ≡ replicate (length t) 0 = rw k y in
    let s : 0 < length t = omega arith in
    let f : length t ≤ table_bytes = omega arith in
    let l = starts_on p m u main_at in
    let t₁ = over (visit p m Starts) t l in
    let begins : Swept p m l (with_table_byte t₁ main_at 5) t₂ = rw g.marked at w in
    let fit : (pass : Pass) → lowest_unfit p m pass (starts_on p m (used m) main_at) ≡ lowest_unfit p m pass l =
    (λ pass. ap (λ (v : ℕ). lowest_unfit p m pass (starts_on p m v main_at)) (sym e)) in
    record {
      head = h;
      tiled = ap (λ (v : ℕ). tiles_from p m (length m) v main_at) (sym e) ∙ g.tiled;
      owns = fit Starts ∙ starts_fit p m l t t₁ t₂ z s f refl begins;
      names = fit Names ∙ names_fit p m l t t₁ t₂ z s f refl begins;
      depths = fit Depths ∙ depths_fit p m l t t₁ t₂ z s f refl begins;
    }

-- ---- the whole image

module _ (p m : List ℕ) (u : ℕ) (its : u ≡ used m) (fits : u ≤ length m) (rest : zero_at m u (length m - u) ≡ true)
    (g : Grown p m) where
  framed_true : framed p m ≡ true
  unfolding framed
  framed_true =
      let h = g.head in
      rw (← its) (both! (le! fits) (both! (le! h.few)
      (both! (rw (← its) at h.first) (both! (rw (← its) at g.tiled) rest))))

  grown_true : Ok tt ≡ grown_sound p m (starts_on p m (used m) main_at)
  unfolding grown_sound
  grown_true = goes _ _ (eq! g.owns) (goes _ _ (eq! g.names) (goes _ _ (eq! g.depths) refl))

  pub grown_sound_lem : sound_of p m ≡ Ok tt
  grown_sound_lem = sym (grown_true ∙ grown_judged p m framed_true g.head.last g.head.late)
