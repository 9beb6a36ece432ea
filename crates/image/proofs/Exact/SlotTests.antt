-- One deployment's own words: the test of each, against what a sound image asks of it.
use Rattle.std.specs.Prelude.{ℕ, ◌<◌, ◌≡◌, refl, ◌↔◌, true, List}
use Rattle.std.proofs.Common.{sym, ◌∙◌, ap, subst, arith}
use Rattle.value.proofs.Tests.{lt!, lt?, eq!, eq?, both!, both?}
use Rattle.value.proofs.Sweeps.{sweeps?}
use Rattle.program.specs.Bytes.{commands_d}
use Rattle.program.specs.Command.{Cmd, alloc_mono, make_poly, supply, react, sink, alloc_poly, cell, keep, none, Made}
use Rattle.program.specs.Command.{deployment, point, held, nought, made_by, cmd_of, gives}
use Rattle.program.specs.Location.{command_loc}
use Rattle.program.proofs.OfKind.{legal_kind}
use Rattle.image.specs.Memory.{main_at, used, reactor, next, content, value_at}
use Rattle.image.specs.Sound.{Deployed, MonoSlot, PointSlot, CellSlot}
use Rattle.image.specs.Fault.{SlotsRight, Own}
use Rattle.image.specs.Passes.{slot_sound, own_sound, fits}
use Rattle.image.specs.declared.Pass.TheVariants.{Starts}
use Rattle.image.proofs.Exact.Tiling.{Laid, table_of, start_test}
use Rattle.image.proofs.Memory.Tiles.{in_to}
use Rattle.image.proofs.Exact.Zeros.{clear}
use Rattle.image.proofs.Exact.Chains.{chain}

-- which of a command's four meanings between turns it has
pub data Makes (c : Cmd) : Type 0 where
  a_deployment : (x : ℕ) → c ≡ alloc_mono x → Makes c
  a_point : (x : ℕ) → c ≡ make_poly x → Makes c
  a_cell : (x v : ℕ) → c ≡ cell x v → Makes c
  neither : made_by c ≡ nought → Makes c

pub makes : (c : Cmd) → Makes c
unfolding made_by
makes (alloc_mono x) = a_deployment x refl
makes (make_poly x) = a_point x refl
makes (cell x v) = a_cell x v refl
makes (gives g) = neither refl
makes (supply x a b) = neither refl
makes (react b) = neither refl
makes (sink x a) = neither refl
makes (alloc_poly a b) = neither refl
makes (keep a b) = neither refl
makes none = neither refl

pub made_mono : {c : Cmd} {x : ℕ} → c ≡ alloc_mono x → made_by c ≡ deployment x
unfolding made_by
made_mono e = ap made_by e

pub made_point : {c : Cmd} {x : ℕ} → c ≡ make_poly x → made_by c ≡ point x
unfolding made_by
made_point e = ap made_by e

pub made_cell : {c : Cmd} {x v : ℕ} → c ≡ cell x v → made_by c ≡ held x
unfolding made_by
made_cell e = ap made_by e

module _ (p m : List ℕ) where
  -- what D slot l of o has to hold, by what its command makes
  abbrev pub SlotRight : ℕ → ℕ → Made → Type 0
  SlotRight o l (deployment x) = MonoSlot p m o l x
  SlotRight o l (point x) = PointSlot p m o l x
  SlotRight o l (held x) = CellSlot p m o l x
  SlotRight o l nought = Unit {0}

  -- the same of all D slots, by commands
  slots_right : (o : ℕ) → ((j : ℕ) → j < commands_d p (reactor m o) →
      SlotRight o (command_loc p (reactor m o) j) (made_by (cmd_of p (reactor m o) j)))
      ↔ SlotsRight p m o
  slots_right o = (
    λ h.
        record {
          monos = λ j x l e. subst (SlotRight o (command_loc p (reactor m o) j)) (made_mono e) (h j l);
          points = λ j x l e. subst (SlotRight o (command_loc p (reactor m o) j)) (made_point e) (h j l);
          cells = λ j x v l e. subst (SlotRight o (command_loc p (reactor m o) j)) (made_cell e) (h j l);
        },
    λ r j l. by r j l (cmd_of p (reactor m o) j) refl (makes (cmd_of p (reactor m o) j)),
  )
    where
      by : SlotsRight p m o → (j : ℕ) → j < commands_d p (reactor m o) → (c : Cmd) → cmd_of p (reactor m o) j ≡ c →
          Makes c → SlotRight o (command_loc p (reactor m o) j) (made_by c)
      by r j l c q (a_deployment x e) =
          subst (SlotRight o (command_loc p (reactor m o) j)) (sym (made_mono e)) (r.monos j x l (q ∙ e))
      by r j l c q (a_point x e) =
          subst (SlotRight o (command_loc p (reactor m o) j)) (sym (made_point e)) (r.points j x l (q ∙ e))
      by r j l c q (a_cell x v e) =
          subst (SlotRight o (command_loc p (reactor m o) j)) (sym (made_cell e)) (r.cells j x v l (q ∙ e))
      by r j l c q (neither e) = subst (SlotRight o (command_loc p (reactor m o) j)) (sym e) tt

  module _ (laid : Laid p m) where
    slot_test : (o l : ℕ) (k : Made) → 0 < used m → (slot_sound p m (table_of p m Starts) o l k ≡ true) ↔ SlotRight o l k
    unfolding slot_sound
    slot_test o l (deployment x) h = (
      λ e.
          let a = both? e in
          let b = both? a.1 in
          let c = both? b.1 in
          let d = both? c.1 in
          record {
            marked = eq? a.0;
            child = (start_test p m laid (content p m o l)).0 c.0;
            its = eq? d.0;
            alone = eq? d.1;
            above = lt? b.0;
          },
      λ r.
          both! (eq! r.marked)
          (both! (lt! r.above)
          (both! ((start_test p m laid (content p m o l)).1 r.child) (both! (eq! r.its) (eq! r.alone)))),
    )
    slot_test o l (point x) h =
        let w = chain p m laid o x (content p m o l) h in (
          λ e. let a = both? e in record { marked = eq? a.0; chain = w.0 a.1 },
          λ r. both! (eq! r.marked) (w.1 r.chain),
        )
    slot_test o l (held x) h =
        let w = legal_kind p x (value_at p m o l) in
        (λ e. record { holds = w.0 e }, λ r. w.1 r.holds)
    slot_test o l nought h = (λ e. tt, λ r. refl)

    -- main's next is asked before the passes
    pub own_test : {o : ℕ} → next m main_at ≡ 0 → Deployed p m o →
        (fits p m Starts (table_of p m Starts) o ≡ true) ↔ Own p m o
    unfolding fits own_sound
    own_test {o} z i =
        let r = reactor m o in
        let some : 0 < used m = omega (arith, in_to p i) in
        let w = sweeps? (λ j. slot_sound p m (table_of p m Starts) o (command_loc p r j) (made_by (cmd_of p r j))) 0
        (commands_d p r) (commands_d p r) (omega arith) in (
          λ e.
              let a = both? e in
              let b = both? a.1 in
              record {
                is_wired = eq? a.0;
                empty = (clear p m o).0 b.0;
                slots = (slots_right o).0
                    (λ j l. (slot_test o _ (made_by (cmd_of p r j)) some).0 (w.0 b.1 j (omega arith) l));
                last = λ q. subst (λ (a : ℕ). next m a ≡ 0) (sym q) z;
              },
          λ h.
              both! (eq! h.is_wired)
              (both! ((clear p m o).1 h.empty)
              (w.1 (λ j g l. (slot_test o _ (made_by (cmd_of p r j)) some).1 ((slots_right o).1 h.slots j l)))),
        )
