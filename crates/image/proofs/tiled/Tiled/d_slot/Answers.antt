use Rattle.image.proofs.MadeByBytes.{made_at}
use Rattle.image.specs.Memory.{reactor, word}
use Rattle.program.specs.Bytes.{commands_at}
use Rattle.program.specs.Location.{command_loc, source_count}
use Rattle.std.specs.Prelude.{ℕ, ◌≡◌, get_or}
use Rattle.std.proofs.Common.{◌∙◌, ap, arith}
use Rattle.image.proofs.tiled.Tiled.d_slot.Goals as goal

pub returns : goal.returns
unfolding command_loc word
returns c = let t = c.args.self.now in
    let p = t.program.now in
    let r = reactor t.memory.now c.args.o in
    let e : c.source_count.result ≡ source_count p r = c.source_count.ensures ∙ ap (source_count p) c.reactor-r.ensures in
    let at : c.word.result ≡ commands_at p r =
    c.word.ensures ∙ ap (λ (r : ℕ). get_or t.places.now r 0) c.reactor-r.ensures ∙ t.positions r c.requires in
    record {
      located = omega arith;
      makes = c.makes_at.ensures ∙ made_at p r c.args.j _ at;
    }
