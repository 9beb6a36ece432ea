use Rattle.std.proofs.Common.{sym, ◌∙◌}
use Rattle.haai.proofs.Compiled.{clean_goes, fault_stops}
use Rattle.haai.proofs.calls.compile_formed.Goals as goal

pub names-f-requires : goal.names-f-requires
names-f-requires c = c.requires

pub returns-then-f-text : goal.returns-then-f-text
returns-then-f-text c = fault_stops _ (c.args.output.now) _ _ c.names-f.ensures.fault c.if-f-text.true

pub compile_clean-requires : goal.compile_clean-requires
compile_clean-requires c = record {
  right = c.requires;
  found = c.names-f.ensures;
  clean = c.if-f-text.false;
}

pub returns : goal.returns
returns c = let names = c.names-f.ensures in
    c.compile_clean.ensures
    ∙ clean_goes _ (c.args.output.now) _ (sym names.fault ∙ c.if-f-text.false)
