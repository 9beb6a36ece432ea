-- Two commands are equal by their bytes.
-- Assumes nothing.
use Rattle.std.specs.Prelude.{◌≡◌}
use Rattle.program.specs.declared.Command.{Command}

pub same_command : {c d : Command} → c.code ≡ d.code → c.x ≡ d.x → c.a ≡ d.a → c.b ≡ d.b → c.v0 ≡ d.v0 →
    c.v1 ≡ d.v1 → c.v2 ≡ d.v2 → c.v3 ≡ d.v3 → c ≡ d
same_command p q r s t u v w =
    λ i. record { code = p i; x = q i; a = r i; b = s i; v0 = t i; v1 = u i; v2 = v i; v3 = w i }
