-- The bytes that an emitted command does not name are zero: `clean`.
use Rattle.std.specs.Prelude.{ℕ, ◌<◌, refl, List}
use Rattle.std.proofs.Common.{arith}
use Rattle.value.specs.Value.{number_kind}
use Rattle.program.specs.Bytes.{byte}
use Rattle.program.specs.Command.{Cmd, bytes_at, alloc_mono, gives, supply, react, sink, constant, global, consume}
use Rattle.program.specs.Command.{primitive}
use Rattle.program.specs.Encode.{eight, encode_give, encode}
use Rattle.load.specs.Rules.{ZeroBytes}
use Rattle.haai.specs.Syntax.{Definition}
use Rattle.haai.specs.Emit.{commands_of}
use Rattle.haai.proofs.Formed.{FitAll}
use Rattle.haai.proofs.Placing.{as_command}
use Rattle.haai.proofs.Emitted.{Every, every_command}
use Rattle.haai.proofs.Signs.{two_operands}

abbrev pub Clean : Cmd → Type 0
Clean c = ZeroBytes (as_command c) c

clean_mono : (j : ℕ) → Clean (alloc_mono j)
unfolding bytes_at byte encode eight
clean_mono j = (refl, refl, refl)

clean_sink : (x a : ℕ) → Clean (sink x a)
unfolding bytes_at byte encode eight
clean_sink x a = (refl, refl)

clean_global : (x : ℕ) → Clean (gives (global x))
unfolding bytes_at byte encode encode_give eight
clean_global x = (refl, refl, refl)

clean_constant : (n : ℕ) → Clean (gives (constant number_kind n))
unfolding bytes_at byte encode encode_give eight
clean_constant n = (refl, refl)

clean_sign : (o a b : ℕ) → o < 4 → Clean (gives (primitive o a b 0))
unfolding bytes_at byte encode encode_give eight
clean_sign o a b h = (refl, refl, refl, λ l. absurd (let q = two_operands o h in omega arith), λ l. refl)

clean_supply : (x a b : ℕ) → Clean (supply x a b)
unfolding bytes_at byte encode eight
clean_supply x a b = refl

clean_react : (b : ℕ) → Clean (react b)
unfolding bytes_at byte encode eight
clean_react b = (refl, refl, refl)

clean_consume : (b : ℕ) → Clean (gives (consume 0 b))
unfolding bytes_at byte encode encode_give eight
clean_consume b = (refl, refl)

pub clean : (ds : List Definition) (g s k : ℕ) (f : Definition) → FitAll ds g s k f.body → Every Clean (commands_of f)
clean ds g s k f fit =
    every_command Clean ds g s k (λ x h. clean_global x) (λ n h. clean_constant n) clean_sign clean_supply clean_react
    clean_consume clean_mono clean_sink f fit
