-- Bytes put one by one, or stretch after stretch, are one stretch; rows and commands put in a loop are all of them.
use Rattle.std.specs.Prelude.{ℕ, zero, suc, ◌+◌, ◌-◌, ◌*◌, ◌/◌, ◌%◌, ◌≤◌, ◌<◌, ◌≡◌, refl}
use Rattle.std.proofs.Common.{sym, ◌∙◌, ap, ap₂, ⊎_elim}
use Rattle.std.specs.Prelude.{List, [], ◌∷◌, ◌++◌, length, get_or, set, take, drop, replicate}
use Rattle.std.proofs.Common.{append_assoc, arith}
use native.Mathlib.Numerals.{add-one}
use Rattle.std.proofs.lemmas.List.{drop-drop}
use lib.ListN.{take-append-drop, length-set, length-append, length-replicate}
use lib.Seq.{take-suc-set, drop-set-lt}
use Rattle.value.specs.Test.{pick, ◌≤?◌}
use Rattle.value.proofs.Tests.{below, yes, no, le!, le×, lt!, lt×}
use Rattle.program.specs.Bytes.{byte}
use Rattle.program.specs.Command.{Cmd, gives, supply, react, sink, consume}
use Rattle.program.specs.Encode.{eight, encode, encode_give}
use Rattle.image.specs.Memory.{patch}
use Rattle.image.proofs.Memory.Patch.{patch-length}
use Rattle.haai.specs.declared.Size.{Size}
use Rattle.haai.specs.Tables.{no_size}
use Rattle.haai.specs.Emit.{supplies, sinks_from, header_bytes}
use Rattle.haai.specs.Writing.{put_eight, put_command, put_commands, place_r, deployment_loc, row_of, call_r, added, few}
use Rattle.haai.specs.Writing.{shapes_by, entries_by, tables_of}
use Rattle.haai.specs.declared.Cursor.{Cursor}

-- ---- stretches

pub patch_nothing : (m : List ℕ) (i : ℕ) → patch m i [] ≡ m
unfolding patch
patch_nothing m i = let e : i + 0 ≡ i = omega arith in rw e (take-append-drop i m)

-- a byte, and then a stretch right after it
pub patch_more : (m : List ℕ) (i j w : ℕ) (ws : List ℕ) → i < length m → j ≡ i + 1 →
    patch (set m i w) j ws ≡ patch m i (w ∷ ws)
unfolding patch
patch_more m i j w ws h e =
    let f : j ≡ suc i = omega arith in
    let g : j + length ws ≡ i + suc (length ws) = omega arith in
    ap₂ (λ (xs ys : List ℕ). xs ++ (ws ++ ys)) (ap (λ (k : ℕ). take k (set m i w)) f ∙ take-suc-set m i w h)
    (drop-set-lt (j + length ws) m i w (omega arith) ∙ ap (λ (k : ℕ). drop k m) g)
    ∙ append_assoc (take i m) (w ∷ []) (ws ++ drop (i + suc (length ws)) m)

pub patch_on : (m : List ℕ) (i : ℕ) (xs : List ℕ) (j : ℕ) (ys : List ℕ) → i + length xs ≤ length m →
    j ≡ i + length xs → patch (patch m i xs) j ys ≡ patch m i (xs ++ ys)
patch_on m i [] j ys h e =
    let f : j ≡ i = omega arith in ap₂ (λ (x : List ℕ) (k : ℕ). patch x k ys) (patch_nothing m i) f
patch_on m i (x ∷ xs) j ys h e =
    ap (λ (n : List ℕ). patch n j ys) (sym (patch_more m i (i + 1) x xs (omega arith) refl))
    ∙ patch_on (set m i x) (i + 1) xs j ys (rw length-set (omega arith)) (omega arith)
    ∙ patch_more m i (i + 1) x (xs ++ ys) (omega arith) refl

-- what a slice of m has become
pub patch_mid : (m xs : List ℕ) (i n : ℕ) → n ≡ length xs → take i m ++ (xs ++ drop n (drop i m)) ≡ patch m i xs
unfolding patch
patch_mid m xs i n e =
    ap (λ (k : ℕ). take i m ++ (xs ++ drop k (drop i m))) e
    ∙ ap (λ (l : List ℕ). take i m ++ (xs ++ l)) (drop-drop (length xs) i m)

-- ---- shapes and entries, one after the other

pub shapes_more : (zs : List Size) (j : ℕ) → j < length zs
    → shapes_by (take (j + 1) zs)
    ≡ shapes_by (take j zs) ++ ((get_or zs j no_size).parameters ∷ (get_or zs j no_size).sinks ∷ replicate 14 0)
unfolding shapes_by
shapes_more [] j h = absurd (omega arith)
shapes_more (z ∷ zs) zero h = refl
shapes_more (z ∷ zs) (suc j) h =
    let e : suc j + 1 ≡ suc (j + 1) = omega arith in
    rw e
    (ap (λ (l : List ℕ). (z.parameters ∷ z.sinks ∷ replicate 14 0) ++ l) (shapes_more zs j (omega arith)))

pub entries_more : (i : ℕ) (zs : List Size) (j : ℕ) → j < length zs
    → entries_by i (take (j + 1) zs)
    ≡ entries_by i (take j zs) ++ ((i + j) ∷ (get_or zs j no_size).declared ∷ (get_or zs j no_size).running ∷ 0 ∷ [])
unfolding entries_by
entries_more i [] j h = absurd (omega arith)
entries_more i (z ∷ zs) zero h = let e : i + 0 ≡ i = omega arith in rw e
entries_more i (z ∷ zs) (suc j) h =
    let e : suc j + 1 ≡ suc (j + 1) = omega arith in
    let f : i + suc j ≡ i + 1 + j = omega arith in
    rw (e, f)
    (ap (λ (l : List ℕ). i ∷ z.declared ∷ z.running ∷ 0 ∷ l) (entries_more (i + 1) zs j (omega arith)))

pub length_shapes : (zs : List Size) → length (shapes_by zs) ≡ 16 * length zs
unfolding shapes_by
length_shapes [] = refl
length_shapes (z ∷ zs) = simp length-append (omega (arith, length_shapes zs))

pub length_entries : (j : ℕ) (zs : List Size) → length (entries_by j zs) ≡ 4 * length zs
unfolding entries_by
length_entries j [] = refl
length_entries j (z ∷ zs) = omega (arith, length_entries (j + 1) zs)

-- one more stretch put after those that are there
module _ (old out new xs ys : List ℕ) (at p : ℕ) (e : out ≡ patch old at xs) (q : p ≡ at + length xs)
    (room : p + length ys ≤ length old) (put : new ≡ patch out p ys) where
  pub stretch_more : new ≡ patch old at (xs ++ ys)
  stretch_more =
      put ∙ ap (λ (m : List ℕ). patch m p ys) e ∙ patch_on old at xs p ys (omega arith) q

-- ---- commands

module _ (out : List ℕ) (at code x a b v : ℕ) where
  pub eight_put : at + 8 ≤ length out → put_eight out at code x a b v ≡ patch out at (eight code x a b v)
  unfolding put_eight
  eight_put h = sym (yes _ (le! h) refl)

  pub eight_unput : length out < at + 8 → put_eight out at code x a b v ≡ out
  unfolding put_eight
  eight_unput h = sym (no _ (le× h) refl)

  pub eight_length : length (put_eight out at code x a b v) ≡ length out
  unfolding eight
  eight_length =
      ⊎_elim (λ h. ap length (eight_unput h))
      (λ h. ap length (eight_put h) ∙ patch-length out at (eight code x a b v) h) (below (length out) (at + 8))

  pub eight_is : (c : Cmd) → eight code x a b v ≡ encode c → put_eight out at code x a b v ≡ put_command out at c
  unfolding put_eight put_command
  eight_is c e = ap (λ (l : List ℕ). pick (at + 8 ≤? length out) (patch out at l) out) e

-- a shape is two commands' bytes
pub shape_put : (out mid new : List ℕ) (p x y : ℕ) → p + 16 ≤ length out → mid ≡ put_eight out p x y 0 0 0
    → new ≡ put_eight mid (p + 8) 0 0 0 0 0 → new ≡ patch out p (x ∷ y ∷ replicate 14 0)
unfolding eight
shape_put out mid new p x y h e f =
    let m = e ∙ eight_put out p x y 0 0 0 (omega arith) in
    let long = ap length e ∙ eight_length out p x y 0 0 0 in
    f ∙ eight_put mid (p + 8) 0 0 0 0 0 (omega (arith, long))
    ∙ ap (λ (o : List ℕ). patch o (p + 8) (eight 0 0 0 0 0)) m
    ∙ patch_on out p (eight x y 0 0 0) (p + 8) (eight 0 0 0 0 0) (omega arith) refl

-- header, kinds, shapes and entries
pub table_parts : (zs : List Size) (n g : ℕ) (out o₁ o₂ o₃ o₄ : List ℕ) → n ≡ length zs → 8 + g + 20 * n ≤ length out →
    o₁ ≡ put_eight out 0 1 n n g 0 → o₂ ≡ patch o₁ 8 (replicate g 0) → o₃ ≡ patch o₂ (8 + g) (shapes_by zs) →
    o₄ ≡ patch o₃ (8 + g + 16 * n) (entries_by 0 zs) → o₄ ≡ patch out 0 (tables_of zs g)
unfolding tables_of header_bytes eight
table_parts zs n g out o₁ o₂ o₃ o₄ same h e₁ e₂ e₃ e₄ =
    let gs = replicate {A = ℕ} g 0 in
    let ss = shapes_by zs in
    let es = entries_by 0 zs in
    let lz : length gs ≡ g = length-replicate g 0 in
    let ls = length_shapes zs in
    let long₁ = ap length e₁ ∙ eight_length out 0 1 n n g 0 in
    let long₂ = ap length e₂ ∙ patch-length o₁ 8 gs (omega (arith, lz, long₁)) in
    e₄ ∙ ap (λ (o : List ℕ). patch o (8 + g + 16 * n) es) e₃
    ∙ patch_on o₂ (8 + g) ss (8 + g + 16 * n) es (omega (arith, ls, long₁, long₂)) (omega (arith, ls))
    ∙ ap (λ (o : List ℕ). patch o (8 + g) (ss ++ es)) e₂
    ∙ patch_on o₁ 8 gs (8 + g) (ss ++ es) (omega (arith, lz, long₁)) (omega (arith, lz))
    ∙ ap (λ (o : List ℕ). patch o 8 (gs ++ (ss ++ es))) (e₁ ∙ eight_put out 0 1 n n g 0 (omega arith))
    ∙ patch_on out 0 (eight 1 n n g 0) 8 (gs ++ (ss ++ es)) (omega arith) refl
    ∙ ap (λ (m : ℕ). patch out 0 (header_bytes m g ++ (gs ++ (ss ++ es)))) same

pub puts_append : (out : List ℕ) (at j : ℕ) (cs ds : List Cmd) → j ≡ at + 8 * length cs →
    put_commands out at (cs ++ ds) ≡ put_commands (put_commands out at cs) j ds
unfolding put_commands
puts_append out at j [] ds e = let f : at ≡ j = omega arith in ap (λ (k : ℕ). put_commands out k ds) f
puts_append out at j (c ∷ cs) ds e = puts_append (put_command out at c) (at + 8) j cs ds (omega arith)

-- ---- a command for each location of a row

unfoldable pub numbered : (ℕ → ℕ → Cmd) → ℕ → List ℕ → List Cmd
numbered g x [] = []
numbered g x (l ∷ ls) = g x l ∷ numbered g (x + 1) ls

pub supplies_numbered : (b x : ℕ) (ls : List ℕ) → numbered (λ y l. supply y l b) x ls ≡ supplies b x ls
unfolding numbered supplies
supplies_numbered b x [] = refl
supplies_numbered b x (l ∷ ls) = ap (λ (cs : List Cmd). supply x l b ∷ cs) (supplies_numbered b (x + 1) ls)

pub sinks_numbered : (x : ℕ) (ls : List ℕ) → numbered sink x ls ≡ sinks_from x ls
unfolding numbered sinks_from
sinks_numbered x [] = refl
sinks_numbered x (l ∷ ls) = ap (λ (cs : List Cmd). sink x l ∷ cs) (sinks_numbered (x + 1) ls)

pub length-supplies : (b x : ℕ) (ls : List ℕ) (i n : ℕ) → length (supplies b x (row_of ls i n)) ≡ n
unfolding supplies row_of
length-supplies b x ls i zero = refl
length-supplies b x ls i (suc n) = ap suc (length-supplies b (x + 1) ls (i + 1) n)

-- the commands before x are in `out`, and the others follow
pub record Putting (g : ℕ → ℕ → Cmd) (ls : List ℕ) (i n at : ℕ) (old out : List ℕ) (x : ℕ) : Type 0 where
  pub rest : put_commands out (at + 8 * x) (numbered g x (row_of ls (i + x) (n - x)))
      ≡ put_commands old at (numbered g 0 (row_of ls i n))
  pub within : x ≤ n
  pub long : length out ≡ length old

module _ (g : ℕ → ℕ → Cmd) (ls : List ℕ) (i n at : ℕ) (old : List ℕ) where
  pub putting_begins : Putting g ls i n at old old 0
  putting_begins =
      let e : at + 8 * 0 ≡ at = omega arith in
      let f : i + 0 ≡ i = omega arith in
      let h : n - 0 ≡ n = omega arith in
      record { rest = rw (e, f, h); within = omega arith; long = refl }

  pub putting_goes : (out new : List ℕ) (x l k code y a b v : ℕ) → Putting g ls i n at old out x → x < n →
      l ≡ byte ls k → k ≡ i + x → new ≡ put_eight out (at + 8 * x) code y a b v →
      eight code y a b v ≡ encode (g x l) → Putting g ls i n at old new (x + 1)
  unfolding put_commands numbered row_of byte
  putting_goes out new x l k code y a b v f h el ek m en =
      let s : n - x ≡ suc (n - (x + 1)) = omega arith in
      let p : at + 8 * (x + 1) ≡ at + 8 * x + 8 = omega arith in
      let q : i + (x + 1) ≡ i + x + 1 = omega arith in
      let one = eight_is out (at + 8 * x) code y a b v (g x l) en in
      let here = el ∙ ap (λ (k : ℕ). get_or ls k 0) ek in
      record {
        rest =
            rw (p, q)
            (ap
            (λ (o : List ℕ). put_commands o (at + 8 * x + 8) (numbered g (x + 1) (row_of ls (i + x + 1) (n - (x + 1)))))
            (m ∙ one ∙ ap (λ (l : ℕ). put_command out (at + 8 * x) (g x l)) here)
            ∙ ap (λ (k : ℕ). put_commands out (at + 8 * x) (numbered g x (row_of ls (i + x) k))) (sym s) ∙ f.rest);
        within = omega arith;
        long = ap length m ∙ eight_length out (at + 8 * x) code y a b v ∙ f.long;
      }

  pub putting_ends : (out : List ℕ) (x : ℕ) → Putting g ls i n at old out x → n ≤ x →
      out ≡ put_commands old at (numbered g 0 (row_of ls i n))
  unfolding put_commands numbered row_of
  putting_ends out x f h =
      let s : n - x ≡ 0 = omega arith in
      ap (λ (k : ℕ). put_commands out (at + 8 * x) (numbered g x (row_of ls (i + x) k))) (sym s) ∙ f.rest

-- a call's supplies, React and Consume
pub call_put : (c : Cursor) (ls : List ℕ) (i n at b : ℕ) (out o₁ o₂ o₃ : List ℕ) → at ≡ place_r c →
    b ≡ deployment_loc c → o₁ ≡ put_commands out at (supplies b 0 (row_of ls i n)) →
    o₂ ≡ put_eight o₁ (at + 8 * n) 6 0 0 b 0 → o₃ ≡ put_eight o₂ (at + 8 * n + 8) 7 0 0 b 0 →
    o₃ ≡ put_commands out (place_r c) (call_r c ls i n)
unfolding put_commands call_r encode encode_give
call_put c ls i n at b out o₁ o₂ o₃ ea eb e f g =
    let two = react b ∷ gives (consume 0 b) ∷ [] in
    let j : at + 8 * n ≡ at + 8 * length (supplies b 0 (row_of ls i n)) = rw length-supplies in
    g ∙ eight_is o₂ (at + 8 * n + 8) 7 0 0 b 0 (gives (consume 0 b)) refl
    ∙ ap (λ (o : List ℕ). put_command o (at + 8 * n + 8) (gives (consume 0 b)))
    (f ∙ eight_is o₁ (at + 8 * n) 6 0 0 b 0 (react b) refl)
    ∙ ap (λ (o : List ℕ). put_commands o (at + 8 * n) two) e
    ∙ sym (puts_append out at (at + 8 * n) (supplies b 0 (row_of ls i n)) two j)
    ∙ ap₂ (λ (k y : ℕ). put_commands out k (supplies y 0 (row_of ls i n) ++ (react y ∷ gives (consume 0 y) ∷ []))) ea eb

-- ---- the rest

pub added_same : {out new ls ms : List ℕ} → out ≡ new → ls ≡ ms → added out ls ≡ added new ms
added_same e f = ap₂ added e f

few_below : (n : ℕ) → n < 7 → n ≡ few n
unfolding few
few_below n h = yes _ (lt! h) refl

few_above : (n : ℕ) → 7 ≤ n → 7 ≡ few n
unfolding few
few_above n h = no _ (lt× h) refl

pub few_most : (n : ℕ) → few n ≤ 7
few_most n = ⊎_elim (λ h. omega (arith, few_below n h)) (λ h. omega (arith, few_above n h)) (below n 7)
