-- The walk's result of a turn is one: a step is a function, so that two ends that the walk comes to are the same.
use Rattle.std.specs.Prelude.{ℕ, ◌≡◌, refl, ◌⊎◌, List, [], Ok, Err}
use Rattle.std.proofs.Common.{sym, ap, subst, inl, inr, arith}
use Rattle.answer.specs.declared.Refusal.{Refusal}
use Rattle.image.specs.Memory.{used}
use Rattle.remus.specs.Clear.{finished, sunk}
use Rattle.remus.specs.Turn.{Turn}
use Rattle.remus.specs.Walk.{State, go, stop, over, step, step_on, Reach, stay, on, begun, Input, refused, stopped}
use Rattle.remus.specs.Walk.{left}
use Rattle.remus.specs.Claim.{WalkedOnce}

module _ (p rd : List ℕ) where
  -- the walk goes no further from s
  abbrev pub Ended : State → Type 0
  Ended s = (u : State) → step p rd s ≡ go u → ⊥

  -- the walk comes from s to t, and its first step is looked at
  abbrev First : State → State → Type 0
  First s t = (s ≡ t) ⊎ ((u : State) × (step p rd s ≡ go u) × Reach p rd u t)

  reach_first : {s t : State} → Reach p rd s t → First s t
  reach_first stay = inl refl
  reach_first {s} (on {t} {u} r e) = by (reach_first r)
    where
      by : First s t → First s u
      by (inl q) = inr (u, rw q e, stay)
      by (inr f) = inr (f.0, f.1, on f.2 e)

  -- of two states that the walk comes to, one is on the way to the other
  pub reach_both : {b s t : State} → Reach p rd b s → Reach p rd b t → Reach p rd s t ⊎ Reach p rd t s
  reach_both stay q = inl q
  reach_both {t = v} (on {t} {u} r e) q = by (reach_both r q)
    where
      first : First t v → Reach p rd u v ⊎ Reach p rd v u
      first (inl q) = inr (on {t = v} {u = u} stay (rw (← q) e))
      first (inr f) = let q : f.0 ≡ u = cc in inl (subst (λ (x : State). Reach p rd x v) q f.2)

      by : Reach p rd t v ⊎ Reach p rd v t → Reach p rd u v ⊎ Reach p rd v u
      by (inl q) = first (reach_first q)
      by (inr q) = inr (on q e)

  -- from an end the walk comes to that end only
  reach_ended : {s t : State} → Ended s → Reach p rd s t → s ≡ t
  reach_ended {s} {t} n r = by (reach_first r)
    where
      by : First s t → s ≡ t
      by (inl q) = q
      by (inr f) = absurd (n f.0 f.1)

  -- the walk comes to one end
  pub one_end : {b s t : State} → Reach p rd b s → Reach p rd b t → Ended s → Ended t → s ≡ t
  one_end {s = s} {t} r q n k = by (reach_both r q)
    where
      by : Reach p rd s t ⊎ Reach p rd t s → s ≡ t
      by (inl f) = reach_ended n f
      by (inr f) = sym (reach_ended k f)

  pub stop_ended : (s : State) (w : Refusal) → step p rd s ≡ stop w → Ended s
  stop_ended s w e u f = let z : ◌≡◌ {A = ℕ} 0 1 = cc in omega arith

  -- where the pile is empty there is no step
  pub empty_over : (s : State) → s.pile ≡ [] → step p rd s ≡ over s
  unfolding step step_on
  empty_over s e = rw e refl

  pub empty_ended : (s : State) → s.pile ≡ [] → Ended s
  empty_ended s e u f = let o = empty_over s e in let z : ◌≡◌ {A = ℕ} 0 1 = cc in omega arith

-- a refusal leaves what it found
abbrev entry : List ℕ → Input → Refusal → Turn
entry w t v = record { answer = Err v; memory = w; sink_space = t.sink_space }

abbrev exit : List ℕ → Input → State → Turn
exit p t s = record {
  answer = Ok (used s.words);
  memory = finished p s.words;
  sink_space = sunk p s.words t.sink_space;
}

-- a walk that stops and one in which main leaves are not both there
never_both : (p w : List ℕ) (t : Input) (x y : State) (v : Refusal) → Reach p t.readings (begun p w) x
    → step p t.readings x ≡ stop v → Reach p t.readings (begun p w) y → y.pile ≡ [] → ⊥
never_both p w t x y v q k l j =
    let rd = t.readings in
    let e : x ≡ y = one_end p rd q l (stop_ended p rd x v k) (empty_ended p rd y j) in
    let o : step p rd y ≡ over y = empty_over p rd y j in
    let z : ◌≡◌ {A = ℕ} 0 1 = cc in omega arith

pub walked_once : WalkedOnce
walked_once p w t r s (refused {w = a} e) (refused {w = b} f) = let z : a ≡ b = cc in ap (entry w t) z
walked_once p w t r s (refused e) (stopped x f q k) = let z : ◌≡◌ {A = ℕ} 0 1 = cc in absurd (omega arith)
walked_once p w t r s (refused e) (left x f q k) = let z : ◌≡◌ {A = ℕ} 0 1 = cc in absurd (omega arith)
walked_once p w t r s (stopped x e q k) (refused f) = let z : ◌≡◌ {A = ℕ} 0 1 = cc in absurd (omega arith)
walked_once p w t r s (stopped {w = a} x e q k) (stopped {w = b} y f l j) =
    let rd = t.readings in
    let i : x ≡ y = one_end p rd q l (stop_ended p rd x a k) (stop_ended p rd y b j) in
    let z : a ≡ b = cc in ap (entry w t) z
walked_once p w t r s (stopped {w = a} x e q k) (left y f l j) = absurd (never_both p w t x y a q k l j)
walked_once p w t r s (left x e q k) (refused f) = let z : ◌≡◌ {A = ℕ} 0 1 = cc in absurd (omega arith)
walked_once p w t r s (left x e q k) (stopped {w = a} y f l j) = absurd (never_both p w t y x a l j q k)
walked_once p w t r s (left x e q k) (left y f l j) =
    let rd = t.readings in
    let i : x ≡ y = one_end p rd q l (empty_ended p rd x k) (empty_ended p rd y j) in ap (exit p t) i
