-- States that stand alike, the bytes of ports, and the state after a command.
-- Assumes nothing.
use Rattle.std.specs.Prelude.{ℕ, ◌+◌, ◌≡◌, refl, List, set}
use Rattle.std.proofs.Common.{sym, ◌∙◌, ap, arith}
use native.Mathlib.Numerals.{add-one}
use lib.Seq.{set-get_or}
use Rattle.program.specs.Bytes.{byte, shape_at, sources_in, sinks_in, source_kind, sink_kind, shape_of}
use Rattle.program.specs.Command.{Cmd, alloc_mono, make_poly, supply, react, sink, alloc_poly, gives, cell, keep, none}
use Rattle.program.specs.Location.{sink_loc}
use Rattle.load.specs.Clauses.{state}
use Rattle.load.specs.Scan.{some_value, unset_sink, kind_at, stand, standing_after, advance, with_sources}
use Rattle.load.specs.Scan.{with_sinks}
use Rattle.load.specs.declared.Locations.{Locations}
use Rattle.load.specs.declared.Scan.{Scan}

pub stands : {u : Scan} (s : Scan) {l m t v k j : ℕ} → u ≡ stand s l t k → l ≡ m → t ≡ v → k ≡ j → u ≡ stand s m v j
stands s e f g h = simp (← f, ← g, ← h) e

-- a port's byte is the shape's count or kind
module _ (p : List ℕ) {b s k : ℕ} where
  pub port_sources : b ≡ byte p (shape_at p s + 0) → s ≡ k → b ≡ sources_in p k
  unfolding sources_in
  port_sources e f = let z : shape_at p s + 0 ≡ shape_at p s = omega arith in e ∙ ap (byte p) z ∙ ap
      (λ (k : ℕ). byte p (shape_at p k)) f

  pub port_sinks : b ≡ byte p (shape_at p s + 1) → s ≡ k → b ≡ sinks_in p k
  unfolding sinks_in
  port_sinks e f = e ∙ ap (λ (k : ℕ). byte p (shape_at p k + 1)) f

  pub port_source : (x : ℕ) → b ≡ byte p (shape_at p s + (2 + x)) → s ≡ k → b ≡ source_kind p k x
  unfolding source_kind
  port_source x e f = let z : shape_at p s + (2 + x) ≡ shape_at p s + 2 + x = omega arith in e ∙ ap (byte p) z ∙ ap
      (λ (k : ℕ). byte p (shape_at p k + 2 + x)) f

  pub port_sink : (x : ℕ) → b ≡ byte p (shape_at p s + (9 + x)) → s ≡ k → b ≡ sink_kind p k x
  unfolding sink_kind
  port_sink x e f = let z : shape_at p s + (9 + x) ≡ shape_at p s + 9 + x = omega arith in e ∙ ap (byte p) z ∙ ap
      (λ (k : ℕ). byte p (shape_at p k + 9 + x)) f

-- another standing alone
pub stands_as : {xs : List ℕ} (t : Locations) (n l v : ℕ) → xs ≡ set t.standing l v →
    state (record { standing = xs; kind = t.kind }) n ≡ stand (state t n) l v (kind_at (state t n) l)
unfolding stand kind_at
stands_as t n l v e = λ i. record { standing = e i; kind = sym (set-get_or t.kind l 0) i; next = n }

module _ (p : List ℕ) (r : ℕ) (s : Scan) (here : ℕ) where
  next_kept : (d : Cmd) → (standing_after p r s here d).next ≡ s.next
  unfolding standing_after stand
  next_kept (alloc_mono x) = refl
  next_kept (make_poly x) = refl
  next_kept (cell x v) = refl
  next_kept (gives g) = refl
  next_kept (supply x a b) = refl
  next_kept (react b) = refl
  next_kept (sink x a) = refl
  next_kept (alloc_poly a b) = refl
  next_kept (keep a b) = refl
  next_kept none = refl

  pub advanced : (d : Cmd) {u : Scan} → u ≡ standing_after p r s here d →
      ◌≡◌ {A = Scan} (record { standing = u.standing; kind = u.kind; next = s.next + 1 })
      (advance (standing_after p r s here d))
  unfolding advance
  advanced d {u} e =
      λ i. record {
        standing = (e i).standing;
        kind = (e i).kind;
        next = sym (next_kept d) i + 1;
      }

-- one source more, and one sink
module _ (p : List ℕ) (r : ℕ) (s : Scan) where
  pub one_source : (x k : ℕ) {t u : Scan} → t ≡ with_sources x p r s → k ≡ source_kind p (shape_of p r) x → u ≡ stand t x
      some_value k →
      u ≡ with_sources (x + 1) p r s
  unfolding with_sources
  one_source x k {t} e f g = rw add-one (g ∙ ap (λ (t : Scan). stand t x some_value k) e ∙ ap
      (λ (k : ℕ). stand (with_sources x p r s) x some_value k) f)

  pub one_sink : (x l : ℕ) {t u : Scan} → t ≡ with_sinks x p r s → l ≡ sink_loc p r x → u ≡ stand t l unset_sink 0 → u ≡
      with_sinks (x + 1) p r s
  unfolding with_sinks
  one_sink x l {t} e f g = rw add-one (g ∙ ap (λ (t : Scan). stand t l unset_sink 0) e ∙ ap
      (λ (l : ℕ). stand (with_sinks x p r s) l unset_sink 0) f)
