-- A chain, on which no reactor comes twice, has at most as many members as the program has reactors.
use Rattle.std.specs.Prelude.{ℕ, ◌+◌, ◌≤◌, ◌≡◌, refl, ◌≢◌, List, [], ◌∷◌, length}
use Rattle.std.proofs.Common.{⊎_elim, arith}
use mathlib.Core.List.Memᴰ.{cases_cons as in_cons}
use mathlib.Core.List.Memᴰ.{not-nil as in_nil}
use Rattle.program.specs.Bytes.{reactors}
use Rattle.image.specs.Memory.{used, main_at, reactor, next}
use Rattle.image.specs.Sound.{Tiles, OnChain, head, tail, Chain, empty, link}
use Rattle.image.proofs.Memory.Tiles.{in_reactor}
use Rattle.image.proofs.Memory.Slots.{member}
use Rattle.image.proofs.Exact.Lists.{◌∈◌, from, from_in, from_length, total_ones, Apart, none, and, covered}

-- the chain from c has n members
pub data Members (m : List ℕ) : ℕ → ℕ → Type 0 where
  end : Members m 0 0
  one : {c n : ℕ} → c ≢ 0 → Members m (next m c) n → Members m c (n + 1)

-- l are the n members of the chain from c
record Listed (p m : List ℕ) (c n : ℕ) (l : List ℕ) : Type 0 where
  count : Members m c n
  long : length l ≡ n
  apart : Apart (reactor m) l
  on : (d : ℕ) → d ∈ l → OnChain p m c d

listed : {p m : List ℕ} {o s c : ℕ} → Chain p m o s c → (n : ℕ) × (l : List ℕ) × Listed p m c n l
listed empty = (0, [], record { count = end; long = refl; apart = none; on = λ d i. absurd (in_nil i) })
listed {p} {m} (link {c = c} k h₁ h₂ h₃ h₄ ch) =
    let w = listed ch in
    let ne : c ≢ 0 = omega arith in (
      w.0 + 1,
      c ∷ w.1,
      record {
        count = one ne w.2.count;
        long = omega (arith, w.2.long);
        apart = and (λ d i. h₄ d (w.2.on d i)) w.2.apart;
        on = λ d i. ⊎_elim (λ e. rw e (head ne)) (λ j. tail ne (w.2.on d j)) (in_cons i);
      },
    )

pub few_members : {p m : List ℕ} → Tiles p m (used m) main_at → {o s c : ℕ} → Chain p m o s c →
    (n : ℕ) × Members m c n × (n ≤ reactors p)
few_members {p} {m} t ch =
    let w = listed ch in
    let all = from (reactors p) 0 in
    let q = covered (λ x. 1) (reactor m) all w.2.apart
    (λ d i.
    let l = in_reactor p t (member p ch (w.2.on d i)).deployed in
    (from_in (reactors p) 0 (reactor m d)).1 (omega arith)) in
    (w.0, w.2.count, omega (arith, w.2.long, total_ones w.1, total_ones all, from_length (reactors p) 0))
