use Rattle.std.proofs.Common.{not}
use Rattle.std.specs.Prelude.{ℕ, refl, Err}
use Rattle.std.proofs.Common.{sym, ◌∙◌, ap, arith}
use Rattle.load.proofs.TableBytes.{few_reactors, legal_tables, some_reactor}
use Rattle.load.proofs.Loops.{not_fine}
use Rattle.load.specs.Check.{check_of, checked}
use Rattle.answer.specs.declared.Refusal.TheVariants.{TableByte}
use Rattle.value.proofs.Tests.{both?, eq!, eq?, eq×, eq×?, goes, le!, le?, le×, passed, refused, stops}
use Rattle.load.proofs.calls.judge.Goals as goal

pub returns-then-not-length_legal : goal.returns-then-not-length_legal
unfolding check_of checked
returns-then-not-length_legal c = record { ruling = stops _ (refused c.length_legal.ensures (ap not c.if-not-length_legal.true)) refl; facts = not_fine }

pub returns-then-not-header_passes : goal.returns-then-not-header_passes
unfolding check_of checked
returns-then-not-header_passes c = let at_header_passes = c.header_passes in
    let at_if1 = c.if-not-length_legal in
    let at_length_legal = c.length_legal in record {
      ruling = goes _ _ (passed at_length_legal.ensures (ap not c.if-not-length_legal.false))
          (stops _ (refused at_header_passes.ensures (ap not c.if-not-header_passes.true))
          (ap (λ (h : ℕ). Err (TableByte h)) c.header_fault.ensures));
      facts = not_fine;
    }

pub header_fault-requires : goal.header_fault-requires
header_fault-requires c = eq×? (refused c.header_passes.ensures (ap not c.if-not-header_passes.true))

pub table_fault-requires-clause-fault : goal.table_fault-requires-clause-fault
table_fault-requires-clause-fault c = eq×? (refused c.tables_pass.ensures (ap not c.if-not-tables_pass.true))

pub returns-then-n-end : goal.returns-then-n-end
unfolding check_of checked
returns-then-n-end c = let at_if2 = c.if-not-header_passes in
    let at_header_passes = c.header_passes in
    let at_if1 = c.if-not-length_legal in
    let at_length_legal = c.length_legal in record {
      ruling = goes _ _ (passed at_length_legal.ensures (ap not c.if-not-length_legal.false))
          (goes _ _ (passed at_header_passes.ensures (ap not c.if-not-header_passes.false))
          (stops _ (le× (omega arith)) refl));
      facts = not_fine;
    }

pub returns-then-not-tables_pass : goal.returns-then-not-tables_pass
unfolding check_of checked
returns-then-not-tables_pass c = let at_tables_pass = c.tables_pass in
    let at_if2 = c.if-not-header_passes in
    let at_header_passes = c.header_passes in
    let at_if1 = c.if-not-length_legal in
    let at_length_legal = c.length_legal in record {
      ruling = goes _ _ (passed at_length_legal.ensures (ap not c.if-not-length_legal.false))
          (goes _ _ (passed at_header_passes.ensures (ap not c.if-not-header_passes.false))
          (goes _ _ (le! (omega arith))
          (stops _ (refused at_tables_pass.ensures (ap not c.if-not-tables_pass.true))
          (ap (λ (t : ℕ). Err (TableByte t)) c.table_fault.ensures))));
      facts = not_fine;
    }

pub returns-then-n-whole_length : goal.returns-then-n-whole_length
unfolding check_of checked
returns-then-n-whole_length c = let at_if4 = c.if-not-tables_pass in
    let at_tables_pass = c.tables_pass in
    let at_if2 = c.if-not-header_passes in
    let at_header_passes = c.header_passes in
    let at_if1 = c.if-not-length_legal in
    let at_length_legal = c.length_legal in record {
      ruling = goes _ _ (passed at_length_legal.ensures (ap not c.if-not-length_legal.false))
          (goes _ _ (passed at_header_passes.ensures (ap not c.if-not-header_passes.false))
          (goes _ _ (le! (omega arith))
          (goes _ _ (passed at_tables_pass.ensures (ap not c.if-not-tables_pass.false))
          (stops _ (eq× (λ e. c.if-n-whole_length.true (e ∙ sym c.whole_length.ensures))) refl))));
      facts = not_fine;
    }

pub judge_reactors-requires : goal.judge_reactors-requires
judge_reactors-requires c = let at_if4 = c.if-not-tables_pass in
    let at_tables_pass = c.tables_pass in
    let at_if2 = c.if-not-header_passes in
    let at_header_passes = c.header_passes in
    let at_if1 = c.if-not-length_legal in
    let at_length_legal = c.length_legal in
    let args = c.args in
    let p = args.program.now in
    let header = eq? (passed at_header_passes.ensures (ap not c.if-not-header_passes.false)) in record {
      tables = legal_tables p header (eq? (passed at_tables_pass.ensures (ap not c.if-not-tables_pass.false)));
      few = (some_reactor p header, few_reactors p header);
      zeros = c.requires;
      whole = (
        c.if-n-whole_length.false ∙ c.whole_length.ensures,
        le? (both? (passed at_length_legal.ensures (ap not c.if-not-length_legal.false))).1,
      );
    }

pub returns : goal.returns
unfolding check_of checked
returns c = let at_whole_length = c.whole_length in
    let at_if4 = c.if-not-tables_pass in
    let at_tables_pass = c.tables_pass in
    let at_if2 = c.if-not-header_passes in
    let at_header_passes = c.header_passes in
    let at_if1 = c.if-not-length_legal in
    let at_length_legal = c.length_legal in record {
      ruling = goes _ _ (passed at_length_legal.ensures (ap not c.if-not-length_legal.false))
          (goes _ _ (passed at_header_passes.ensures (ap not c.if-not-header_passes.false))
          (goes _ _ (le! (omega arith))
          (goes _ _ (passed at_tables_pass.ensures (ap not c.if-not-tables_pass.false))
          (goes _ _ (eq! (c.if-n-whole_length.false ∙ at_whole_length.ensures))
          c.judge_reactors.ensures.ruling))));
      facts = c.judge_reactors.ensures.facts;
    }
