-- What cells hold over a list of turns: from what holds of each turn (`Lasting`) to what every Fetch reads (`history`).
-- One turn leads a cell from its content to the next (`leads`).
use Rattle.std.specs.Prelude.{ℕ, ◌≤◌, ◌<◌, ◌≡◌, refl, ◌⊎◌, List, [], ◌∷◌, length, Ok, Err}
use Rattle.std.proofs.Common.{sym, ◌∙◌, ap, subst, inl, inr}
use Rattle.std.proofs.Common.{arith}
use Rattle.value.specs.declared.Value.{Value}
use Rattle.value.proofs.Tests.{below}
use Rattle.program.specs.Command.{Cmd, fetch, gives}
use Rattle.image.specs.Memory.{most_turns, main_at, used, turns, wired, value_at, size_at}
use Rattle.image.specs.Sound.{Tiles, Deployed, SoundImage}
use Rattle.image.proofs.Memory.Tiles.{size_at_lem, in_ge, own_unique}
use Rattle.image.proofs.Memory.Each.{in_below}
use Rattle.image.proofs.Memory.Offsets.{covered}
use Rattle.remus.specs.Turn.{Turn, turn_of}
use Rattle.remus.specs.Clear.{finished}
use Rattle.remus.specs.Walk.{State, run, Input, Walked, left}
use Rattle.remus.specs.Point.{◌∈◌}
use Rattle.remus.specs.Claim.{CellIn, Begins, stands, fresh, Runs, Becomes, stays, Point, Leaves, AfterTurn}
use Rattle.remus.specs.Claim.{TurnClaim, TurnOf, now, after as next_turn, Remembers, no_turn, and_then}
use Rattle.answer.specs.Answer.{Answer}
use Rattle.remus.proofs.Once.{walked_once}
use Rattle.remus.proofs.Walk.Top.{Onward, onward_self, onward_on}
use Rattle.remus.proofs.Walk.Past.{begins_one, cell_moved}

-- a deployment below the old u is an old one
old_deployed : {p w m : List ℕ} → Tiles p w (used w) main_at → Onward p w m → {d : ℕ} → Deployed p m d → d < used w
    → Deployed p w d
unfolding size_at
old_deployed {p} {w} {m} tl on {d} t l =
    let c = covered d tl (in_ge p t) l in
    let r = on.reactors c.at c.is in
    let e : c.at ≡ d = own_unique p c.at d d (on.kept c.at c.is) t c.from (rw r c.to) (omega arith)
    (omega (arith, size_at_lem p m d)) in
    subst (Deployed p w) e c.is

-- the content of a cell that is not there yet is its first
absent : {p w : List ℕ} {d l : ℕ} {v a : Value} → (Deployed p w d → ⊥) → Begins p w d l v a → a ≡ v
absent n (stands t e) = absurd (n t)
absent n (fresh k) = refl

no_turns : {p w v : List ℕ} {bs : List Input} {t : Input} → TurnOf p w [] bs v t → ⊥
no_turns = elim [ ]

-- what the machine makes of a turn
abbrev pub result_of : List ℕ → List ℕ → Input → Turn
result_of p w t = turn_of p w t.readings t.sink_space

-- what is left as main leaves in state s: each word, a sound image, and the same deployments, all wired
pub record Finish (p w : List ℕ) (t : Input) (s : State) : Type 0 where
  pub after : AfterTurn p w t s.words (finished p s.words)
  pub sound_image : turns s.words < most_turns → SoundImage p (finished p s.words)
  pub to : Onward p s.words (finished p s.words)
  pub back : Onward p (finished p s.words) s.words
  pub ran : (d : ℕ) → run d ∈ s.notes → Deployed p (finished p s.words) d
  pub all_wired : (d : ℕ) → Deployed p (finished p s.words) d → wired (finished p s.words) d ≡ 1

-- what a turn keeps of deployments, beside its claim
pub record Lasting (p w : List ℕ) (t : Input) : Type 0 where
  pub claim : TurnClaim p w t
  pub sound : SoundImage p (result_of p w t).memory
  pub same_length : length (result_of p w t).memory ≡ length w
  pub inner : (s : State) (m : List ℕ) (o : ℕ) (c : Cmd) → Point p w t s m o c → Onward p w m × Deployed p m o
  pub outer : Onward p w (result_of p w t).memory
  pub finish : (s : State) → Leaves p w t s → Finish p w t s

-- ---- one turn

module _ (p w : List ℕ) (t : Input) (h : Lasting p w t) (d l : ℕ) (f : Value) where
  abbrev w' : List ℕ
  w' = (result_of p w t).memory

  -- the words that a completed turn leaves
  leaves_words : (s : State) → Leaves p w t s → w' ≡ finished p s.words
  leaves_words s k =
      let end = left s k.during.allowed k.during.comes k.empty in
      ap (λ (x : Turn). x.memory) (walked_once p w t (result_of p w t) _ h.claim.result end)

  -- the cell's next content, and that the next turn begins with it
  abbrev Next : Value → Type 0
  Next x = (y : Value) × Becomes p w t d l x y × Begins p w' d l f y

  leads : (x : Value) → Begins p w d l f x → (Deployed p w' d → CellIn p w' d l f)
      → (Deployed p w' d) ⊎ (Deployed p w' d → ⊥) → Next x
  leads x b will there = by (result_of p w t).answer refl there
    where
      not_run : (Deployed p w' d → ⊥) → Runs p w t d → ⊥
      not_run n r =
          let i = (h.finish r.state r.leaves).ran d r.ran in
          n (subst (λ (z : List ℕ). Deployed p z d) (sym (leaves_words r.state r.leaves)) i)

      by : (a : Answer) → (result_of p w t).answer ≡ a → (Deployed p w' d) ⊎ (Deployed p w' d → ⊥) → Next x
      by (Err v) e z =
          let same = (h.claim.refused (result_of p w t) v h.claim.result e).0 in (
            x,
            stays (λ r.
                let u = used r.state.words in
                let k = (h.claim.complete (result_of p w t) u h.claim.result).1 (r.state, r.leaves, refl) in
                let c : ◌≡◌ {A = ℕ} 0 1 = cc in
                omega arith),
            subst (λ (z : List ℕ). Begins p z d l f x) (sym same) b,
          )
      by (Ok n) e (inr z) =
          let first = absent (λ i. z (h.outer.kept d i)) b in
          (x, stays (not_run z), subst (Begins p w' d l f) (sym first) (fresh (λ i. absurd (z i))))
      by (Ok n) e (inl i) =
          let k = (h.claim.complete (result_of p w t) n h.claim.result).0 e in
          let m = finished p k.0.words in
          let g = h.finish k.0 k.1 in
          let q : w' ≡ m = leaves_words k.0 k.1 in
          let i₂ : Deployed p m d = subst (λ (z : List ℕ). Deployed p z d) q i in
          let c : CellIn p m d l f = subst (λ (z : List ℕ). CellIn p z d l f) q (will i) in
          let c₂ = cell_moved c (g.back.kept d i₂) (g.back.reactors d i₂) in (
            value_at p m d l,
            g.after.cells d l f x c₂ b,
            subst (λ (z : List ℕ). Begins p z d l f (value_at p m d l)) (sym q) (stands i₂ (g.all_wired d i₂)),
          )

-- ---- a list

module _ (p : List ℕ) (n : ℕ) (each : (w : List ℕ) (t : Input) → length w ≡ n → SoundImage p w → Lasting p w t) where
  -- a turn of the list, after the first: the same from what the first leaves
  rest_of : {ts bs : List Input} {w v : List ℕ} {t u : Input} {r : Turn} → Lasting p w t → Walked p w t r
      → TurnOf p r.memory ts bs v u → TurnOf p (result_of p w t).memory ts bs v u
  rest_of {ts} {bs} {w} {v} {t} {u} {r} h q o =
      let same = walked_once p w t r (result_of p w t) q h.claim.result in
      subst (λ (x : Turn). TurnOf p x.memory ts bs v u) same o

  -- from the first words of a list to those of one of its turns
  forward : (ts : List Input) {bs : List Input} {w v : List ℕ} {t : Input} → length w ≡ n → SoundImage p w
      → TurnOf p w ts bs v t → Onward p w v × SoundImage p v × (length v ≡ n)
  forward [] e s q = absurd (no_turns q)
  forward (x ∷ ts) e s now = (onward_self, s, e)
  forward (x ∷ ts) {w = w} e s (next_turn {t = t} q o) =
      let h = each w t e s in
      let g = forward ts (h.same_length ∙ e) h.sound (rest_of h q o) in
      (onward_on h.outer g.0, g.1, g.2)

  pub history : (ts : List Input) {bs : List Input} {w v : List ℕ} {t : Input} → length w ≡ n → SoundImage p w
      → TurnOf p w ts bs v t → (s : State) (m : List ℕ) (o b : ℕ) (f : Value) → Point p v t s m o (gives (fetch b))
      → CellIn p m o b f → (x : Value) → Begins p w o b f x → Remembers p o b w x bs (value_at p m o b)
  history [] e k z s m o b f q c x g = absurd (no_turns z)
  history (u ∷ us) {w = w} {t = t} e k now s m o b f q c x g =
      let y = begins_one g ((each w t e k).claim.fetched s m o b f q c) in
      subst (λ (z : Value). Remembers p o b w x [] z) y no_turn
  history (u ∷ ts) {w = w} {v = v} {t = t} e k (next_turn {t = t₀} z a) s m o b f q c x g =
      let h = each w t₀ e k in
      let w' = (result_of p w t₀).memory in
      let a₂ = rest_of h z a in
      let e₂ : length w' ≡ n = h.same_length ∙ e in
      let on = forward ts e₂ h.sound a₂ in
      let here = (each v t on.2 on.1).inner s m o (gives (fetch b)) q in
      let to : Onward p w' m = onward_on on.0 here.0 in
      let will : Deployed p w' o → CellIn p w' o b f = λ i. cell_moved c i (sym (to.reactors o i)) in
      let y = leads p w t₀ h o b f x g will (there h.sound to here.1 (below o (used w'))) in
      and_then {y = y.0} h.claim.result y.1 (history ts e₂ h.sound a₂ s m o b f q c y.0 y.2)
    where
      there : {u : List ℕ} → SoundImage p u → Onward p u m → Deployed p m o → (o < used u) ⊎ (used u ≤ o)
          → (Deployed p u o) ⊎ (Deployed p u o → ⊥)
      there su on i (inl l) = inl (old_deployed su.tiles on i l)
      there su on i (inr l) = inr (λ j. omega (arith, in_below p j))
