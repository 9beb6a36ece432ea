-- A command by its code: what holds of each row of the command table holds of what the bytes say.
-- Assumes nothing.
use Rattle.std.specs.Prelude.{ℕ, zero, suc, ◌≤◌, ◌<◌, ◌≡◌, ◌⊎◌, refl}
use Rattle.std.proofs.Common.{sym, inl, inr, ⊎_elim, arith}
use Rattle.value.specs.Test.{pick, ◌=?◌}
use Rattle.value.proofs.Tests.{pick_any, eq?, eq×?, below}
use Rattle.program.specs.Command.{Cmd, decode, alloc_mono, make_poly, constant, global, supply, react, consume}
use Rattle.program.specs.Command.{sink, alloc_poly, primitive, cell, fetch, keep, none, v_of, gives}
use Rattle.program.specs.Clauses.{byte_of, row_of, NoCode}
use Rattle.program.specs.declared.commands.Code.{Code}
use Rattle.program.specs.declared.commands.Code.TheVariants.{AllocMono, MakePoly, Constant, Global, Supply, React}
use Rattle.program.specs.declared.commands.Code.TheVariants.{Consume, Sink, AllocPoly, Primitive, Cell, Fetch, Keep}
use Rattle.program.specs.declared.Command.{Command}

from_zero : (n : ℕ) → (n < 1) ⊎ (0 < n)
from_zero zero = inl (omega arith)
from_zero (suc n) = inr (omega arith)

-- no code up to k, and not k + 1
beyond : {k n : ℕ} → (n < 1) ⊎ (k < n) → (n ≡ suc k → ⊥) → (n < 1) ⊎ (suc k < n)
beyond (inl h) d = inl h
beyond {k} {n} (inr h) d =
    ⊎_elim (λ (q : suc k < n). inr q) (λ (q : n ≤ suc k). absurd (d (omega arith))) (below (suc k) n)

pub by_code : (P : Cmd → Type 0) (c : Command) →
    (c.code ≡ 1 → P (alloc_mono c.x)) →
    (c.code ≡ 2 → P (make_poly c.x)) →
    (c.code ≡ 3 → P (gives (constant c.x (v_of c)))) →
    (c.code ≡ 4 → P (gives (global c.x))) →
    (c.code ≡ 5 → P (supply c.x c.a c.b)) →
    (c.code ≡ 6 → P (react c.b)) →
    (c.code ≡ 7 → P (gives (consume c.x c.b))) →
    (c.code ≡ 8 → P (sink c.x c.a)) →
    (c.code ≡ 9 → P (alloc_poly c.a c.b)) →
    (c.code ≡ 10 → P (gives (primitive c.x c.a c.b c.v0))) →
    (c.code ≡ 11 → P (cell c.x (v_of c))) →
    (c.code ≡ 12 → P (gives (fetch c.b))) →
    (c.code ≡ 13 → P (keep c.a c.b)) →
    (NoCode c.code → P none) →
    P (decode c)
unfolding decode
by_code P c p1 p2 p3 p4 p5 p6 p7 p8 p9 p10 p11 p12 p13 p0 =
    pick_any P (c.code =? 1) (λ e. p1 (eq? e)) (λ n1.
    (pick_any P (c.code =? 2) (λ e. p2 (eq? e)) (λ n2.
    (pick_any P (c.code =? 3) (λ e. p3 (eq? e)) (λ n3.
    (pick_any P (c.code =? 4) (λ e. p4 (eq? e)) (λ n4.
    (pick_any P (c.code =? 5) (λ e. p5 (eq? e)) (λ n5.
    (pick_any P (c.code =? 6) (λ e. p6 (eq? e)) (λ n6.
    (pick_any P (c.code =? 7) (λ e. p7 (eq? e)) (λ n7.
    (pick_any P (c.code =? 8) (λ e. p8 (eq? e)) (λ n8.
    (pick_any P (c.code =? 9) (λ e. p9 (eq? e)) (λ n9.
    (pick_any P (c.code =? 10) (λ e. p10 (eq? e)) (λ n10.
    (pick_any P (c.code =? 11) (λ e. p11 (eq? e)) (λ n11.
    (pick_any P (c.code =? 12) (λ e. p12 (eq? e)) (λ n12.
    (pick_any P (c.code =? 13) (λ e. p13 (eq? e)) (λ n13.
    let b4 = beyond (beyond (beyond (beyond (from_zero c.code) (eq×? n1)) (eq×? n2)) (eq×? n3)) (eq×? n4) in
    let b8 = beyond (beyond (beyond (beyond b4 (eq×? n5)) (eq×? n6)) (eq×? n7)) (eq×? n8) in
    let b12 = beyond (beyond (beyond (beyond b8 (eq×? n9)) (eq×? n10)) (eq×? n11)) (eq×? n12) in
    p0 (beyond b12 (eq×? n13)))))))))))))))))))))))))))

-- what the bytes say is the row of their code
module _ {A : Type 0} (F : Cmd → A) (c : Command) {z : A} where
  pub as_mono : c.code ≡ 1 → z ≡ F (alloc_mono c.x) → z ≡ F (decode c)
  unfolding decode pick ◌=?◌
  as_mono e h = rw e h

  pub as_make : c.code ≡ 2 → z ≡ F (make_poly c.x) → z ≡ F (decode c)
  unfolding decode pick ◌=?◌
  as_make e h = rw e h

  pub as_constant : c.code ≡ 3 → z ≡ F (gives (constant c.x (v_of c))) → z ≡ F (decode c)
  unfolding decode pick ◌=?◌
  as_constant e h = rw e h

  pub as_global : c.code ≡ 4 → z ≡ F (gives (global c.x)) → z ≡ F (decode c)
  unfolding decode pick ◌=?◌
  as_global e h = rw e h

  pub as_supply : c.code ≡ 5 → z ≡ F (supply c.x c.a c.b) → z ≡ F (decode c)
  unfolding decode pick ◌=?◌
  as_supply e h = rw e h

  pub as_react : c.code ≡ 6 → z ≡ F (react c.b) → z ≡ F (decode c)
  unfolding decode pick ◌=?◌
  as_react e h = rw e h

  pub as_consume : c.code ≡ 7 → z ≡ F (gives (consume c.x c.b)) → z ≡ F (decode c)
  unfolding decode pick ◌=?◌
  as_consume e h = rw e h

  pub as_sink : c.code ≡ 8 → z ≡ F (sink c.x c.a) → z ≡ F (decode c)
  unfolding decode pick ◌=?◌
  as_sink e h = rw e h

  pub as_poly : c.code ≡ 9 → z ≡ F (alloc_poly c.a c.b) → z ≡ F (decode c)
  unfolding decode pick ◌=?◌
  as_poly e h = rw e h

  pub as_primitive : c.code ≡ 10 → z ≡ F (gives (primitive c.x c.a c.b c.v0)) → z ≡ F (decode c)
  unfolding decode pick ◌=?◌
  as_primitive e h = rw e h

  pub as_cell : c.code ≡ 11 → z ≡ F (cell c.x (v_of c)) → z ≡ F (decode c)
  unfolding decode pick ◌=?◌
  as_cell e h = rw e h

  pub as_fetch : c.code ≡ 12 → z ≡ F (gives (fetch c.b)) → z ≡ F (decode c)
  unfolding decode pick ◌=?◌
  as_fetch e h = rw e h

  pub as_keep : c.code ≡ 13 → z ≡ F (keep c.a c.b) → z ≡ F (decode c)
  unfolding decode pick ◌=?◌
  as_keep e h = rw e h

-- ---- none of the codes

-- what a match over the codes leaves
abbrev pub Others : ℕ → Type 0
Others n =
    ((((((((((((Unit {0} × (n ≡ 1 → ⊥)) × (n ≡ 2 → ⊥)) × (n ≡ 3 → ⊥)) × (n ≡ 4 → ⊥)) × (n ≡ 5 → ⊥))
    × (n ≡ 6 → ⊥)) × (n ≡ 7 → ⊥)) × (n ≡ 8 → ⊥)) × (n ≡ 9 → ⊥)) × (n ≡ 10 → ⊥))
    × (n ≡ 11 → ⊥)) × (n ≡ 12 → ⊥)) × (n ≡ 13 → ⊥)

module _ {A : Type 0} (F : Cmd → A) (c : Command) {z : A} where
  pub as_none : NoCode c.code → z ≡ F none → z ≡ F (decode c)
  as_none n h =
      by_code (λ (d : Cmd). z ≡ F d) c
      (no 1 (omega arith) (omega arith)) (no 2 (omega arith) (omega arith)) (no 3 (omega arith) (omega arith))
      (no 4 (omega arith) (omega arith))
      (no 5 (omega arith) (omega arith)) (no 6 (omega arith) (omega arith)) (no 7 (omega arith) (omega arith))
      (no 8 (omega arith) (omega arith))
      (no 9 (omega arith) (omega arith)) (no 10 (omega arith) (omega arith)) (no 11 (omega arith) (omega arith))
      (no 12 (omega arith) (omega arith)) (no 13 (omega arith) (omega arith))
      (λ w. h)
    where
      no : {B : Type 0} (k : ℕ) → 1 ≤ k → k ≤ 13 → c.code ≡ k → B
      no k l u e = absurd (⊎_elim (λ (q : c.code < 1). omega arith) (λ (q : 13 < c.code). omega arith) n)

  pub as_rest : Others c.code → z ≡ F none → z ≡ F (decode c)
  as_rest r h =
      by_code (λ (d : Cmd). z ≡ F d) c
      (λ e. absurd (r.0.0.0.0.0.0.0.0.0.0.0.0.1 e))
      (λ e. absurd (r.0.0.0.0.0.0.0.0.0.0.0.1 e))
      (λ e. absurd (r.0.0.0.0.0.0.0.0.0.0.1 e))
      (λ e. absurd (r.0.0.0.0.0.0.0.0.0.1 e))
      (λ e. absurd (r.0.0.0.0.0.0.0.0.1 e))
      (λ e. absurd (r.0.0.0.0.0.0.0.1 e))
      (λ e. absurd (r.0.0.0.0.0.0.1 e))
      (λ e. absurd (r.0.0.0.0.0.1 e))
      (λ e. absurd (r.0.0.0.0.1 e))
      (λ e. absurd (r.0.0.0.1 e))
      (λ e. absurd (r.0.0.1 e))
      (λ e. absurd (r.0.1 e))
      (λ e. absurd (r.1 e))
      (λ w. h)

-- ---- by the code's name

pub decoded : (c : Command) (k : Code) → byte_of k ≡ c.code → decode c ≡ row_of k c
unfolding decode pick ◌=?◌
decoded c AllocMono e = rw (← e)
decoded c MakePoly e = rw (← e)
decoded c Constant e = rw (← e)
decoded c Global e = rw (← e)
decoded c Supply e = rw (← e)
decoded c React e = rw (← e)
decoded c Consume e = rw (← e)
decoded c Sink e = rw (← e)
decoded c AllocPoly e = rw (← e)
decoded c Primitive e = rw (← e)
decoded c Cell e = rw (← e)
decoded c Fetch e = rw (← e)
decoded c Keep e = rw (← e)

pub undecoded : (c : Command) → NoCode c.code → decode c ≡ none
undecoded c n = sym (as_none (λ (d : Cmd). d) c n refl)
