-- The kind of each location, and which values are of a kind.
use Rattle.std.specs.Prelude.{ℕ, zero, suc, ◌-◌, ◌<◌, ◌≡◌, Bool, true, List}
use Rattle.value.specs.Test.{◌and◌, ◌or◌, pick, ◌<?◌, ◌=?◌}
use Rattle.value.specs.Value.{mark_of, Content as ContentIn, OfKind as OfKindIn}
use Rattle.value.specs.Primitive.{row_of, kind_given}
use Rattle.value.specs.declared.Value.{Value}
use Rattle.program.specs.Bytes.{reactors, shape_of, global_kind, source_kind, sink_kind}
use Rattle.program.specs.Command.{Give, Cmd, alloc_mono, make_poly, constant, global, supply, react, consume, sink}
use Rattle.program.specs.Command.{alloc_poly, primitive, cell, fetch, keep, none, gives}
use Rattle.program.specs.Location.{source_count, sink_loc, cmd_at, shape_there}

-- 2.21 The kind of the value that a command gives: a Constant's own, a Global's declared one, a Consume's sink's, a
-- primitive's by its row, a Fetch's cell's. `shape` is the shape of a deployment's location, `kind` the kind of an
-- operand's.
unfoldable pub give_kind : List ℕ → (ℕ → ℕ) → (ℕ → ℕ) → Give → ℕ
give_kind p shape kind (constant x v) = x
give_kind p shape kind (global x) = global_kind p x
give_kind p shape kind (consume x b) = sink_kind p (shape b) x
give_kind p shape kind (primitive x a b c) = kind_given (row_of x).gives (kind b)
give_kind p shape kind (fetch b) = kind b

-- a value's or a cell's; `lower` is the kind of an operand's location
unfoldable pub kind_made : List ℕ → ℕ → (ℕ → ℕ) → Cmd → ℕ
unfolding give_kind
kind_made p r lower (alloc_mono x) = 0
kind_made p r lower (make_poly x) = 0
kind_made p r lower (cell x v) = x
kind_made p r lower (gives g) = give_kind p (shape_there p r) lower g
kind_made p r lower (supply x a b) = 0
kind_made p r lower (react b) = 0
kind_made p r lower (sink x a) = 0
kind_made p r lower (alloc_poly a b) = 0
kind_made p r lower (keep a b) = 0
kind_made p r lower none = 0

-- operands lie lower, so a location's own number is depth enough
unfoldable pub kind_in : ℕ → List ℕ → ℕ → ℕ → ℕ
kind_in zero p r l = 0
kind_in (suc f) p r l =
    pick (l <? source_count p r) (source_kind p (shape_of p r) l)
    (pick (l <? sink_loc p r 0) (kind_made p r (kind_in f p r) (cmd_at p r l))
    (sink_kind p (shape_of p r) (l - sink_loc p r 0)))

unfoldable pub kind_of : List ℕ → ℕ → ℕ → ℕ
kind_of p r l = kind_in (suc l) p r l

-- 1.7 Whether a content is legal beside the mark of kind k: a truth is 0 or 1, a reactor exists and has the kind's
-- shape. Asked of constants, readings and cells.
unfoldable pub content_legal : List ℕ → ℕ → ℕ → Bool
content_legal p zero c = true
content_legal p (suc zero) c = c <? 2
content_legal p (suc (suc s)) c = (c <? reactors p) and (shape_of p c =? s)

-- 1.7, 1.4 v is of kind k: blank, which is 0, 0, or the kind's mark with a legal content.
unfoldable pub legal : List ℕ → ℕ → Value → Bool
legal p k v = ((v.mark =? 0) and (v.content =? 0)) or ((v.mark =? mark_of k) and content_legal p k v.content)

-- 1.7 The same as a proposition: c is a reactor of the program, and its shape is s.
abbrev pub Named : List ℕ → ℕ → ℕ → Type 0
Named p s c = (c < reactors p) × (shape_of p c ≡ s)

abbrev pub Content : List ℕ → ℕ → ℕ → Type 0
Content p = ContentIn (Named p)

abbrev pub OfKind : List ℕ → ℕ → Value → Type 0
OfKind p = OfKindIn (Named p)
