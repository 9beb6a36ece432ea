-- Before the first command the tables hold what they should: sources are values, own sinks are not set.
use Rattle.std.specs.Prelude.{ℕ, zero, suc, ◌≤◌, ◌<◌, ◌≡◌, refl, ◌⊎◌, List, replicate}
use Rattle.std.proofs.Common.{sym, ◌∙◌, subst, inl, inr}
use Rattle.std.proofs.Common.{arith}
use native.Mathlib.Nat.{not-suc-le-zero}
use lib.ListN.{length-replicate}
use Rattle.program.specs.Bytes.{reactors, shape_of, source_kind}
use Rattle.program.specs.Location.{most_locations, source_count, sink_count, command_loc, sink_loc, locations}
use Rattle.load.specs.Scan.{standing_at, kind_at, stand, with_sources, with_sinks, begin_of, some_value, unset_sink}
use Rattle.load.specs.Rules.{Sets, TablesRight}
use Rattle.load.specs.declared.Scan.{Scan}
use Rattle.value.proofs.Zeros.{zeros_at}
use Rattle.value.proofs.Below.{last_or_below}
use Rattle.load.proofs.Exact.Seen.{never_start}
use Rattle.program.specs.Command.{a_value, a_sink, nothing}
use Rattle.load.proofs.Exact.Places.{by_place}
use Rattle.load.proofs.Exact.KindLaws.{kind_of_source}
use Rattle.load.proofs.Exact.Holds.{Touches, HoldsAt, as_read, Holding}
use Rattle.load.proofs.Exact.Stand.{Sized, Reads, stand_sized, stand-next, reads_there, reads_else}
use Rattle.load.proofs.Exact.Stand.{few_locations}

abbrev blank : Scan
blank = record { standing = replicate most_locations 0; kind = replicate most_locations 0; next = 0 }

module _ (p : List ℕ) (r : ℕ) where
  -- ---- the first n sources

  sourced : ℕ → Scan
  sourced n = with_sources n p r blank

  sourced_sized : (n : ℕ) → Sized (sourced n)
  unfolding sourced with_sources
  sourced_sized zero =
      record { long = length-replicate {A = ℕ} most_locations 0; wide = length-replicate {A = ℕ} most_locations 0 }
  sourced_sized (suc n) = stand_sized _ n some_value _ (sourced_sized n)

  sourced-next : (n : ℕ) → (sourced n).next ≡ 0
  unfolding sourced with_sources
  sourced-next zero = refl
  sourced-next (suc n) = stand-next _ n some_value _ ∙ sourced-next n

  source_set : (n l : ℕ) → l < n → n ≤ most_locations → Reads (sourced n) l some_value (source_kind p (shape_of p r) l)
  unfolding sourced with_sources
  source_set zero l h few = absurd (not-suc-le-zero h)
  source_set (suc n) l h few =
      let s = sourced n in
      let kd = source_kind p (shape_of p r) n in
      last_or_below l n h
      (λ e.
      subst (λ j. Reads (stand s n some_value kd) j some_value (source_kind p (shape_of p r) j)) (sym e)
      (reads_there s n some_value kd (sourced_sized n) few))
      (λ b.
      let i = source_set n l b (omega arith) in
      let o = reads_else s n some_value kd l (omega arith) in
      (o.0 ∙ i.0, o.1 ∙ i.1))

  source_clear : (n l : ℕ) → n ≤ l → standing_at (sourced n) l ≡ 0
  unfolding sourced with_sources
  source_clear zero l h = unfold standing_at in zeros_at most_locations l
  source_clear (suc n) l h =
      (reads_else (sourced n) n some_value (source_kind p (shape_of p r) n) l (omega arith)).0 ∙ source_clear n l (omega arith)

  -- ---- and the first n sinks

  started : ℕ → Scan
  started n = with_sinks n p r (sourced (source_count p r))

  started_sized : (n : ℕ) → Sized (started n)
  unfolding started with_sinks
  started_sized zero = sourced_sized (source_count p r)
  started_sized (suc n) = stand_sized _ (sink_loc p r n) unset_sink 0 (started_sized n)

  started-next : (n : ℕ) → (started n).next ≡ 0
  unfolding started with_sinks
  started-next zero = sourced-next (source_count p r)
  started-next (suc n) = stand-next _ (sink_loc p r n) unset_sink 0 ∙ started-next n

  sink_set : (n x : ℕ) → x < n → sink_loc p r n ≤ most_locations → standing_at (started n) (sink_loc p r x) ≡ unset_sink
  unfolding started with_sinks
  sink_set zero x h room = absurd (not-suc-le-zero h)
  sink_set (suc n) x h room =
      let l = sink_loc p r n in
      let less : l < most_locations = unfold sink_loc in omega arith in
      last_or_below x n h
      (λ e.
      subst (λ j. standing_at (stand (started n) l unset_sink 0) (sink_loc p r j) ≡ unset_sink) (sym e)
      (reads_there (started n) l unset_sink 0 (started_sized n) less).0)
      (λ b.
      (reads_else (started n) l unset_sink 0 (sink_loc p r x) (unfold sink_loc in omega arith)).0
      ∙ sink_set n x b (omega arith))

  -- no sink is at l
  abbrev Apart : ℕ → ℕ → Type 0
  Apart n l = (l < sink_loc p r 0) ⊎ (sink_loc p r n ≤ l)

  sink_clear : (n l : ℕ) → Apart n l →
      Reads (started n) l (standing_at (sourced (source_count p r)) l) (kind_at (sourced (source_count p r)) l)
  unfolding started with_sinks
  sink_clear zero l h = (refl, refl)
  sink_clear (suc n) l h =
      let i = sink_clear n l (narrower n l h) in
      let o = reads_else (started n) (sink_loc p r n) unset_sink 0 l (apart n l h) in
      (o.0 ∙ i.0, o.1 ∙ i.1)
    where
      apart : (n l : ℕ) → Apart (suc n) l → l ≡ sink_loc p r n → ⊥
      apart n l (inl h) e = unfold sink_loc in omega arith
      apart n l (inr h) e = unfold sink_loc in omega arith

      narrower : (n l : ℕ) → Apart (suc n) l → Apart n l
      narrower n l (inl h) = inl h
      narrower n l (inr h) = inr (unfold sink_loc in omega arith)

  -- ---- the beginning

  module _ (t : TablesRight p) (low : r < reactors p) where
    begun : Scan
    begun = started (sink_count p r)

    room : locations p r ≤ most_locations
    room = few_locations p r t low

    source_holds : (l : ℕ) → l < source_count p r → HoldsAt p r 0 begun l a_value
    unfolding begun
    source_holds l h =
        let before : l < sink_loc p r 0 = unfold sink_loc in omega arith in
        let few : source_count p r ≤ most_locations = unfold locations sink_loc in omega (arith, room) in
        let c = sink_clear (sink_count p r) l (inl before) in
        let i = source_set (source_count p r) l h few in
        as_read p r 0 l a_value begun (c.0 ∙ i.0, c.1 ∙ i.1) (refl, λ f m. sym (kind_of_source p r f l h m))

    nothing_holds : (l : ℕ) → source_count p r ≤ l → (l < sink_loc p r 0) ⊎ (locations p r ≤ l) →
        HoldsAt p r 0 begun l nothing
    unfolding begun locations
    nothing_holds l h o =
        ((sink_clear (sink_count p r) l o).0 ∙ source_clear (source_count p r) l h, never_start p r (Touches p r l))

    sink_holds : (x : ℕ) → x < sink_count p r → HoldsAt p r 0 begun (sink_loc p r x) (a_sink x)
    unfolding begun locations
    sink_holds x h = (refl, inl (sink_set (sink_count p r) x h room, never_start p r (Sets p r x)))

    begins : Holding p r 0 begun
    unfolding begun
    begins =
        record {
          next = started-next (sink_count p r);
          few = omega arith;
          sized = started_sized (sink_count p r);
          holds =
              by_place p r 0 (HoldsAt p r 0 begun) (omega arith)
              source_holds
              (λ i h. absurd (not-suc-le-zero h))
              (λ i h l.
              nothing_holds (command_loc p r i) (unfold command_loc in omega arith)
              (inl (unfold command_loc sink_loc in omega arith)))
              sink_holds
              (λ l h. nothing_holds l (unfold locations sink_loc in omega arith) (inr h));
        }

    pub begin_holding : Holding p r 0 (begin_of p r)
    unfolding begin_of begun started sourced
    begin_holding = begins
