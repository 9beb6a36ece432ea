-- A completed turn runs no deployment twice, and at most 160 commands for each that stands at its end: `work`. The
-- commands carried out are at most those behind in the open deployments and 160 for each deployment that has run; and
-- no two of these are the same. Assumes nothing.
use Rattle.std.specs.Prelude.{ℕ, ◌+◌, ◌*◌, ◌≤◌, ◌<◌, ◌≡◌, refl, List, [], ◌∷◌, Ok}
use Rattle.std.proofs.Common.{sym, ◌∙◌, ap, inl, inr, ⊎_elim}
use Rattle.std.specs.Prelude.{◌++◌, length}
use Rattle.std.proofs.Common.{arith}
use mathlib.Core.List.Memᴰ.{cases_cons as in_cons}
use mathlib.Core.List.Memᴰ.{not-nil as in_nil}
use mathlib.Core.List.{Memᴰ}
use Rattle.value.proofs.Tests.{same?}
use Rattle.program.specs.Bytes.{commands_in}
use Rattle.program.specs.Command.{cmd_of}
use Rattle.load.specs.Rules.{Rules}
use Rattle.load.proofs.Exact.{exact}
use Rattle.load.proofs.TableBytes.{few_commands}
use Rattle.image.specs.Memory.{most_words, reactor}
use Rattle.image.specs.Sound.{SoundImage}
use Rattle.image.proofs.Memory.Tiles.{in_to, in_reactor}
use Rattle.image.proofs.Exact.Lists.{total_ones, Apart, none, and, covered}
use Rattle.image.proofs.Exact.Tiling.{Laid, starts, start_in}
use Rattle.remus.specs.Exec.{Eff, move, call, fail, opening, ready}
use Rattle.remus.specs.Clear.{finished}
use Rattle.remus.specs.Walk.{Note, run, Frame, State, go, notes_of, onto, begun, step, Reach, stay, on, Input}
use Rattle.remus.specs.Point.{◌∈◌, first, later}
use Rattle.remus.specs.Turn.{asked_of}
use Rattle.remus.specs.Work.{Carried, stay as none_carried, command, leaving, RunTwice, now, before, standing}
use Rattle.remus.specs.Work.{Work}
use Rattle.remus.proofs.Once.{empty_over}
use Rattle.remus.proofs.Fits.{fits}
use Rattle.remus.proofs.Demand.{holds}
use Rattle.remus.proofs.Walk.Core as Core
use Rattle.remus.proofs.Walk.Pile.{frame, state, Inv, first as top}
use Rattle.remus.proofs.Walk.Top.{top_frame}
use Rattle.remus.proofs.Walk.Walking.{at_end, no_run}
use Rattle.remus.proofs.Walk.Meets.{leaving as leave_step, acting}

-- ---- notes

-- other notes do not matter
twice_past : {d : ℕ} (xs : List Note) {ns : List Note} → (run d ∈ xs → ⊥) → RunTwice d (xs ++ ns) → RunTwice d ns
twice_past [] n z = z
twice_past (x ∷ xs) n (now z) = absurd (n first)
twice_past (x ∷ xs) n (before z) = twice_past xs (λ k. n (later k)) z

noted_on : {n : Note} (xs : List Note) {ns : List Note} → n ∈ ns → n ∈ (xs ++ ns)
noted_on [] z = z
noted_on (x ∷ xs) z = later (noted_on xs z)

-- ---- the count

-- the commands behind in the open deployments
abbrev behind : List Frame → ℕ
behind [] = 0
behind (f ∷ fs) = f.next + behind fs

module _ (p : List ℕ) (rules : Rules p) (w : List ℕ) (few : length w ≤ most_words) (image : SoundImage p w)
    (t : Input) where
  abbrev rd : List ℕ
  rd = t.readings

  -- what holds of each state; `ran` lists deployments that have run
  record Counted (s : State) : Type 0 where
    count : ℕ
    carried : Carried p rd (begun p w) s count
    once : (d : ℕ) → RunTwice d s.notes → ⊥
    ran : List ℕ
    noted : (d : ℕ) → Memᴰ d ran → run d ∈ s.notes
    apart : Apart (λ d. d) ran
    most : count ≤ behind s.pile + 160 * length ran

  module _ {m : List ℕ} {o i : ℕ} {fs : List Frame} {ns : List Note} (v : Inv p w (state m (frame o i ∷ fs) ns))
      (k : Counted (state m (frame o i ∷ fs) ns)) where
    abbrev here : State
    here = state m (frame o i ∷ fs) ns

    not_ran : run o ∈ ns → ⊥
    not_ran = v.piled.apart o i (top refl refl)

    leaves : i ≡ commands_in p (reactor m o) → Counted (state m fs (run o ∷ ns))
    leaves e =
        let r = reactor m o in
        let f = few_commands p r
        (rules.tables.entries r (in_reactor p v.mid.good.tiles (top_frame p v).deployed)) in
        record {
          count = k.count;
          carried = leaving k.carried (λ m' o' c b. at_end e b) (leave_step p rd m o i fs ns e);
          once = λ d z. twice z;
          ran = o ∷ k.ran;
          noted = λ d h. ⊎_elim (λ q. rw q first) (λ j. later (k.noted d j)) (in_cons h);
          apart = and (λ d h q. not_ran (rw q at (k.noted d h))) k.apart;
          most = omega (arith, k.most);
        }
      where
        twice : {d : ℕ} → RunTwice d (run o ∷ ns) → ⊥
        twice (now z) = not_ran z
        twice {d} (before z) = k.once d z

    module _ (l : i < commands_in p (reactor m o)) where
      abbrev noting : List Note
      noting = notes_of p (ready p m o i) o i (cmd_of p (reactor m o) i)

      acts : (m' : List ℕ) (pile : List Frame) → step p rd here ≡ go (state m' pile (noting ++ ns))
          → behind (frame o i ∷ fs) + 1 ≤ behind pile → Counted (state m' pile (noting ++ ns))
      acts m' pile s b =
          record {
            count = k.count + 1;
            carried = command k.carried (record {
              index = i;
              lower = fs;
              top = refl;
              goes_on = λ z. omega (arith, l, z);
              is = refl;
              wiring = refl;
            }) s;
            once = λ d z. k.once d (twice_past noting (no_run p (ready p m o i) o i (cmd_of p (reactor m o) i)) z);
            ran = k.ran;
            noted = λ d h. noted_on noting (k.noted d h);
            apart = k.apart;
            most = omega (arith, k.most);
          }

      by_effect : (x : Eff) {z : State} → step p rd here ≡ go z → onto p o i fs (noting ++ ns) x ≡ go z → Counted z
      unfolding onto
      by_effect (move m') {z} s e =
          let pile = frame o (i + 1) ∷ fs in
          let q : z ≡ state m' pile (noting ++ ns) = cc in
          rw q (acts m' pile (rw q at s) (omega arith))
      by_effect (call m' d) {z} s e =
          let pile = frame d (opening p m' d) ∷ frame o (i + 1) ∷ fs in
          let q : z ≡ state m' pile (noting ++ ns) = cc in
          rw q (acts m' pile (rw q at s) (omega arith))
      by_effect (fail r) s e = let q : ◌≡◌ {A = ℕ} 0 1 = cc in absurd (omega arith)

    onward : {z : State} → step p rd here ≡ go z → Counted z
    onward {z} s =
        elim (same? i (commands_in p (reactor m o))) [
          | inl e ↦
              let f = leave_step p rd m o i fs ns e in
              let q : z ≡ state m fs (run o ∷ ns) = cc in
              rw q (leaves e)
          | inr e ↦
              let l : i < commands_in p (reactor m o) = omega (arith, (top_frame p v).bound) in
              by_effect l _ s (sym (acting p rd m o i fs ns l _ refl) ∙ s)
        ]

  by_pile : {m : List ℕ} {ns : List Note} (fs : List Frame) {z : State} → Inv p w (state m fs ns)
      → Counted (state m fs ns) → step p rd (state m fs ns) ≡ go z → Counted z
  by_pile {m} {ns} [] v k s =
      let e = empty_over p rd (state m [] ns) refl in let q : ◌≡◌ {A = ℕ} 0 1 = cc in absurd (omega arith)
  by_pile (f ∷ fs) v k s = onward v k s

  counted : asked_of p w rd t.sink_space ≡ Ok tt → {s : State} → Reach p rd (begun p w) s → Counted s
  unfolding begun
  counted a stay =
      record {
        count = 0;
        carried = none_carried;
        once = λ d. elim [ ];
        ran = [];
        noted = λ d h. absurd (in_nil h);
        apart = none;
        most = omega arith;
      }
  counted a (on {t = y} r e) =
      by_pile y.pile (Core.holds p rules w few image t (record { allowed = a; comes = r })) (counted a r) e

-- ---- as main leaves

pub work : Work
unfolding standing
work p w t s a few image l =
    let rules = (exact p).0 a in
    let k = counted p rules w few image t l.during.allowed l.during.comes in
    let f = (holds p w t a few image).lasting.finish s l in
    let m = finished p s.words in
    let clock = ((fits p w t).1 l.during.allowed).clock in
    let sound = f.sound_image (omega (arith, Core.same_clock p rules w few image t s l.during)) in
    let laid : Laid p m =
    record {
      few = rules.tables.header.few_reactors;
      small = omega (arith, f.after.same_length);
      fits = sound.fits;
      some = in_to p sound.main;
      tiles = sound.tiles;
    } in
    let ran = covered (λ d. 1) (λ d. d) (starts p m) k.apart
    (λ d h. (start_in p m laid d).1 (f.ran d (k.noted d h))) in
    record {
      once = k.once;
      commands = k.count;
      carried = k.carried;
      few = omega (arith, k.most, ap behind l.empty, total_ones k.ran, total_ones (starts p m));
    }
