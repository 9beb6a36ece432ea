-- Chains: the test of a branch point's chain, by a table of the reactors met, against `Chain`; and the list of
-- its members against `OnChain`.
use Rattle.std.specs.Prelude.{ℕ, zero, suc, ◌+◌, ◌≤◌, ◌<◌, ◌≡◌, refl, ◌↔◌, ◌≢◌, Bool, true}
use Rattle.std.proofs.Common.{sym, ◌∙◌, subst, ⊎_elim}
use Rattle.std.proofs.lemmas.Bool.{false≢true}
use Rattle.std.specs.Prelude.{List, ◌∷◌, length, get_or, set, replicate}
use Rattle.std.proofs.Common.{arith}
use mathlib.Core.List.Memᴰ.{cases_cons as in_cons}
use mathlib.Core.List.Memᴰ.{head as first}
use mathlib.Core.List.Memᴰ.{tail as later}
use mathlib.Core.List.Memᴰ.{not-nil as in_nil}
use lib.ListN.{length-set, length-replicate}
use lib.Seq.{get_or-set_same, get_or-set_other}
use Rattle.value.proofs.Tests.{lt!, lt×, lt?, eq!, eq?, both!, both?, goes, stops, guards}
use Rattle.program.specs.Bytes.{reactors, most_reactors, shape_of}
use Rattle.image.specs.Memory.{used, reactor, next}
use Rattle.image.specs.Sound.{Deployed, OnChain, head, tail, Chain, empty, link}
use Rattle.image.specs.Passes.{chain_from, members_from}
use Rattle.image.specs.declared.Pass.TheVariants.{Starts}
use Rattle.value.proofs.Zeros.{zeros_at}
use Rattle.image.proofs.Chains.{members_end, members_next}
use Rattle.image.proofs.Memory.Tiles.{in_to}
use Rattle.image.proofs.Memory.Distinct.{Members, end, one, few_members}
use Rattle.image.proofs.Exact.Lists.{◌∈◌, same, total, is, is_same, is_other, count, count_none, Apart, none}
use Rattle.image.proofs.Exact.Lists.{and}
use Rattle.image.proofs.Exact.Tiling.{Laid, table_of, start_test, deployed_reactor}

module _ (p m : List ℕ) where
  -- the test accepts the chain from c, after an index `last` and the reactors of `seen`: o is the
  -- owner, s the shape, f the steps
  abbrev pub Accepts : ℕ → ℕ → ℕ → ℕ → List ℕ → ℕ → Type 0
  Accepts o s f last seen c = chain_from p m f (table_of p m Starts) o s last seen c ≡ true

  -- what the test asks of a link, and of what follows it
  pub record Linked (o s f last : ℕ) (seen : List ℕ) (c : ℕ) : Type 0 where
    pub deployed : Deployed p m c
    pub above : o < c
    pub falls : c < last
    pub shape : shape_of p (reactor m c) ≡ s
    pub new : get_or seen (reactor m c) 0 ≡ 0
    pub rest : Accepts o s f c (set seen (reactor m c) 1) (next m c)

  -- ---- members

  after : (f c : ℕ) → c ≢ 0 → members_from p m (suc f) c ≡ c ∷ members_from p m f (next m c)
  after f c n = members_next p m c (suc f) f (next m c) refl (omega arith) refl

  pub members? : (f c : ℕ) {d : ℕ} → d ∈ members_from p m f c → OnChain p m c d
  unfolding members_from
  members? zero c i = absurd (in_nil i)
  members? (suc f) c {d} i =
      same c 0
      (λ e. absurd (in_nil (subst (λ (l : List ℕ). d ∈ l) (members_end p m c (suc f) (omega arith)) i)))
      (λ n.
      ⊎_elim (λ e. subst (OnChain p m c) (sym e) (head n)) (λ k. tail n (members? f (next m c) k))
      (in_cons (subst (λ (l : List ℕ). d ∈ l) (after f c n) i)))

  -- as many steps as there are members find them all
  listed : (f : ℕ) {c d n : ℕ} → Members m c n → n ≤ f → OnChain p m c d → d ∈ members_from p m f c
  listed f end l (head n) = absurd (n refl)
  listed f end l (tail n i) = absurd (n refl)
  listed zero (one n k) l i = absurd (omega arith)
  listed (suc f) (one {c = c} n k) l (head q) = subst (λ (l : List ℕ). c ∈ l) (sym (after f c n)) (first refl)
  listed (suc f) {d = d} (one {c = c} n k) l (tail q i) =
      subst (λ (l : List ℕ). d ∈ l) (sym (after f c n)) (later (listed f k (omega arith) i))

  module _ {o s : ℕ} where
    chain_falls : {c d : ℕ} → Chain p m o s c → OnChain p m c d → d ≤ c
    chain_falls empty (head n) = absurd (n refl)
    chain_falls empty (tail n i) = absurd (n refl)
    chain_falls (link h l e g u r) (head n) = omega arith
    chain_falls (link h l e g u r) (tail n i) = let q = chain_falls r i in omega arith

    -- no index stands twice on a chain
    pub members_once : (f : ℕ) {c : ℕ} (d : ℕ) → Chain p m o s c → count d (members_from p m f c) ≤ 1
    unfolding members_from total
    members_once zero d r = omega arith
    members_once (suc f) d empty = rw (members_end p m 0 (suc f) (omega arith)) (omega arith)
    members_once (suc f) d (link {c = c} h l e g u r) =
        rw (after f c (omega arith))
        (same c d
        (λ q.
        let none : count d (members_from p m f (next m c)) ≡ 0 =
        (count_none d _).1 (λ i. let k = chain_falls r (members? f (next m c) i) in omega arith) in
        let here : is d c ≡ 1 = is_same q in
        omega arith)
        (λ q. omega (arith, is_other q, members_once f d r)))

    -- nor does a reactor
    pub members_apart : (f : ℕ) {c : ℕ} → Chain p m o s c → Apart (reactor m) (members_from p m f c)
    unfolding members_from
    members_apart zero r = none
    members_apart (suc f) empty = rw (members_end p m 0 (suc f) (omega arith)) none
    members_apart (suc f) (link {c = c} h l e g u r) =
        rw (after f c (omega arith)) (and (λ d i. u d (members? f (next m c) i)) (members_apart f r))

  -- ---- the test

  module _ (laid : Laid p m) (o s : ℕ) where
    pub never : (last : ℕ) (seen : List ℕ) (c : ℕ) → Accepts o s 0 last seen c → ⊥
    unfolding chain_from
    never last seen c e = false≢true e

    ended : (f last : ℕ) (seen : List ℕ) → Accepts o s (suc f) last seen 0
    unfolding chain_from
    ended f last seen = sym (stops _ (lt× (omega arith)) refl)

    pub linked : (f last : ℕ) (seen : List ℕ) (c : ℕ) → c ≢ 0 →
        Accepts o s (suc f) last seen c ↔ Linked o s f last seen c
    unfolding chain_from
    linked f last seen c n =
        let g = guards (λ (b : Bool). b ≡ true) in (
          λ e.
              let a = (g _ _ _ false≢true).0 (goes _ _ (lt! (omega arith)) refl ∙ e) in
              let b = (g _ _ _ false≢true).0 a.1 in
              let order = both? a.0 in
              let place = both? order.1 in
              let kind = both? b.0 in
              record {
                deployed = (start_test p m laid c).0 place.1;
                above = lt? order.0;
                falls = lt? place.0;
                shape = eq? kind.0;
                new = eq? kind.1;
                rest = b.1;
              },
          λ r.
              sym (goes _ _ (lt! (omega arith)) (sym ((g _ _ _ false≢true).1 (
                both! (lt! r.above) (both! (lt! r.falls) ((start_test p m laid c).1 r.deployed)),
                (g _ _ _ false≢true).1 (both! (eq! r.shape) (eq! r.new), r.rest),
              )))),
        )

    pub falls? : (f last : ℕ) (seen : List ℕ) (c : ℕ) → Accepts o s f last seen c → 0 < last → c < last
    falls? zero last seen c e l = absurd (never last seen c e)
    falls? (suc f) last seen c e l = same c 0 (λ q. omega arith) (λ n. ((linked f last seen c n).0 e).falls)

    -- none of the chain's reactors was met before
    pub new? : (f last : ℕ) (seen : List ℕ) {c d : ℕ} → Accepts o s f last seen c → OnChain p m c d →
        get_or seen (reactor m d) 0 ≡ 0
    new? zero last seen {c} e i = absurd (never last seen c e)
    new? (suc f) last seen {c} e (head n) = ((linked f last seen c n).0 e).new
    new? (suc f) last seen {c} {d} e (tail n i) =
        let k = (linked f last seen c n).0 e in
        same (reactor m d) (reactor m c)
        (λ q. subst (λ (r : ℕ). get_or seen r 0 ≡ 0) (sym q) k.new)
        (λ q. sym (get_or-set_other seen (reactor m c) (reactor m d) 1 0 q) ∙ new? f c _ k.rest i)

    met : (seen : List ℕ) {c : ℕ} → length seen ≡ most_reactors → Deployed p m c →
        get_or (set seen (reactor m c) 1) (reactor m c) 0 ≡ 1
    met seen {c} w h = get_or-set_same seen (reactor m c) 1 0 (omega (arith, deployed_reactor p m laid h, laid.few))

    pub chain? : (f last : ℕ) (seen : List ℕ) (c : ℕ) → length seen ≡ most_reactors →
        Accepts o s f last seen c → Chain p m o s c
    chain? zero last seen c w e = absurd (never last seen c e)
    chain? (suc f) last seen c w e =
        same c 0
        (λ q. subst (Chain p m o s) (sym q) empty)
        (λ n.
        let k = (linked f last seen c n).0 e in
        link k.deployed k.above k.shape (falls? f c _ (next m c) k.rest (omega arith))
        (λ d i q. omega (
          arith,
          met seen w k.deployed,
          subst (λ (r : ℕ). get_or (set seen (reactor m c) 1) r 0 ≡ 0) q (new? f c _ k.rest i),
        ))
        (chain? f c (set seen (reactor m c) 1) (next m c) (rw length-set w) k.rest))

    -- one step more than the chain has members is enough
    chain! : (f last : ℕ) (seen : List ℕ) {c n : ℕ} → length seen ≡ most_reactors → Members m c n → n < f → c < last →
        ((d : ℕ) → OnChain p m c d → get_or seen (reactor m d) 0 ≡ 0) → Chain p m o s c → Accepts o s f last seen c
    chain! zero last seen w k l g h r = absurd (omega arith)
    chain! (suc f) last seen w k l g h empty = ended f last seen
    chain! (suc f) last seen w end l g h (link a b e q u r) = absurd (omega arith)
    chain! (suc f) last seen w (one n k) l g h (link {c = c} a b e q u r) =
        (linked f last seen c n).1
        (record {
          deployed = a;
          above = b;
          falls = g;
          shape = e;
          new = h c (head n);
          rest =
              chain! f c (set seen (reactor m c) 1) (rw length-set w) k (omega arith) q
              (λ d i. get_or-set_other seen (reactor m c) (reactor m d) 1 0 (u d i) ∙ h d (tail n i)) r;
        })

    -- ---- a branch point's chain, from its head

    none_met : length {A = ℕ} (replicate most_reactors 0) ≡ most_reactors
    none_met = length-replicate {A = ℕ} most_reactors 0

    low : {c : ℕ} → 0 < used m → Chain p m o s c → c < used m
    low h empty = h
    low h (link a b e q u r) = in_to p a

    accepted : {c : ℕ} → 0 < used m → Chain p m o s c →
        Accepts o s (reactors p + 1) (used m) (replicate most_reactors 0) c
    accepted h r =
        let k = few_members laid.tiles r in
        chain! (reactors p + 1) (used m) (replicate most_reactors 0) none_met k.1 (omega (arith, k.2)) (low h r)
        (λ d i. zeros_at most_reactors (reactor m d)) r

    pub chain : (c : ℕ) → 0 < used m →
        Accepts o s (reactors p + 1) (used m) (replicate most_reactors 0) c ↔ Chain p m o s c
    chain c h = (λ e. chain? (reactors p + 1) (used m) (replicate most_reactors 0) c none_met e, λ r. accepted h r)

    pub members : {c : ℕ} (d : ℕ) → Chain p m o s c → (d ∈ members_from p m (reactors p) c) ↔ OnChain p m c d
    members {c} d r = (
      λ i. members? (reactors p) c i,
      λ i. let k = few_members laid.tiles r in listed (reactors p) k.1 k.2 i,
    )
