use Rattle.std.proofs.Common.{List, subst, sym, arith}
use Rattle.arrow_array.specs.declared.array.Array.{Array}
use Rattle.arrow_dictionaries.specs.Encoding.{HaveFirstValues}
use Rattle.arrow_core.specs.declared.types.Field.{Field}
use Rattle.json_line.specs.Lines.{AreColumnsOf}
use Rattle.ndjson.specs.LineColumns.{AreMadeOf}
use Rattle.ndjson.proofs.MadeLaws.{all_written, lines_made, values_made}
use Rattle.ndjson.proofs.line_columns.LineColumns.read_lines.Goals as goal

pub returns-clause-ok : goal.returns-clause-ok
returns-clause-ok c =
    let b = c.self.inside in
    let old = c.in_ok-columns.columns.items in
    let new = c.encode_columns.new.columns in
    let made = subst (λ (p : List Field × List Array). AreMadeOf p.0 p.1 new) (λ j. (c.as_slice.ensures.value j, c.as_mut_slice.ensures.value j)) c.in_ok-encode_columns.ensures in
    let same = all_written b.fields.items old new c.in_ok-columns.columns.len made (omega (arith, c.in_ok-columns.columns.ok.0)) in
    subst (λ (p : List Field × List Array). AreColumnsOf p.0 c.args.lines.now p.1) (λ j. (c.self.view_is j, sym same j)) (lines_made b.fields.items b.lines c.args.lines.now old new c.self.invariant.stored_for c.in_ok-columns.ensures.ok made)

pub returns-clause-dictionaries : goal.returns-clause-dictionaries
returns-clause-dictionaries c =
    let b = c.self.inside in
    let old = c.in_ok-columns.columns.items in
    let new = c.encode_columns.new.columns in
    let made = subst (λ (p : List Field × List Array). AreMadeOf p.0 p.1 new) (λ j. (c.as_slice.ensures.value j, c.as_mut_slice.ensures.value j)) c.in_ok-encode_columns.ensures in
    let same = all_written b.fields.items old new c.in_ok-columns.columns.len made (omega (arith, c.in_ok-columns.columns.ok.0)) in
    subst HaveFirstValues (sym same) (values_made b.fields.items old new made)
