-- A command of D, and one of R, by its code: code that carries out one sequence has no way for the other's.
-- Assumes nothing.
use Rattle.std.specs.Prelude.{ℕ, ◌≡◌, ◌⊎◌, refl, List}
use Rattle.std.proofs.Common.{◌∙◌, ap, arith, inl, inr}
use Rattle.program.specs.Bytes.{command_at}
use Rattle.program.specs.Command.{D, R, neither, sequence_of, decode, bytes_at, bytes_of, cmd_of}
use Rattle.program.specs.declared.Command.{Command}
use Rattle.program.specs.Clauses.{row_of}
use Rattle.program.specs.declared.commands.Code.{Code}
use Rattle.program.specs.declared.commands.Code.TheVariants.{AllocMono, MakePoly, Constant, Global, Supply, React}
use Rattle.program.specs.declared.commands.Code.TheVariants.{Consume, Sink, AllocPoly, Primitive, Cell, Fetch, Keep}

-- command i of reactor r by its bytes, and by where they begin
pub command_of : (p : List ℕ) (r i : ℕ) {c : Command} → c ≡ bytes_of p r i → decode c ≡ cmd_of p r i
unfolding cmd_of
command_of p r i e = ap decode e

pub command_at_lem : (p : List ℕ) (r i at : ℕ) {c : Command} → c ≡ bytes_at p at → at ≡ command_at p r i
    → decode c ≡ cmd_of p r i
unfolding bytes_of
command_at_lem p r i at e f = command_of p r i (e ∙ ap (bytes_at p) f)

r_d : {A : Type 0} → R ≡ D → A
r_d e = let z : ◌≡◌ {A = ℕ} 0 1 = cc in absurd (omega arith)

d_r : {A : Type 0} → D ≡ R → A
d_r e = let z : ◌≡◌ {A = ℕ} 0 1 = cc in absurd (omega arith)

pub neither_d : {A : Type 0} → neither ≡ D → A
neither_d e = let z : ◌≡◌ {A = ℕ} 0 1 = cc in absurd (omega arith)

pub neither_r : {A : Type 0} → neither ≡ R → A
neither_r e = let z : ◌≡◌ {A = ℕ} 0 1 = cc in absurd (omega arith)

-- what the last arm for D is left with cannot come
pub no_d : (k : Code) (c : Command) → (k ≡ AllocMono → ⊥) → (k ≡ MakePoly → ⊥) → (k ≡ Cell → ⊥)
    → sequence_of (row_of k c) ≡ D → ⊥
unfolding sequence_of
no_d AllocMono c a b d s = a refl
no_d MakePoly c a b d s = b refl
no_d Constant c a b d s = r_d s
no_d Global c a b d s = r_d s
no_d Supply c a b d s = r_d s
no_d React c a b d s = r_d s
no_d Consume c a b d s = r_d s
no_d Sink c a b d s = r_d s
no_d AllocPoly c a b d s = r_d s
no_d Primitive c a b d s = r_d s
no_d Cell c a b d s = d refl
no_d Fetch c a b d s = r_d s
no_d Keep c a b d s = r_d s

-- nor what the one for R is
pub no_r : (k : Code) (c : Command) → (k ≡ AllocMono) ⊎ ((k ≡ MakePoly) ⊎ (k ≡ Cell)) → sequence_of (row_of k c) ≡ R → ⊥
unfolding sequence_of
no_r k c (inl e) s = d_r (rw e at s)
no_r k c (inr (inl e)) s = d_r (rw e at s)
no_r k c (inr (inr e)) s = d_r (rw e at s)
