use Rattle.std.proofs.Common.{◌≡◌, ◌∙◌, ◌∷◌, [], sym, ap}
use Rattle.json_tree.specs.Reading.{skip, text_at, found}
use Rattle.json_tree.specs.Tree.{object}
use Rattle.json_tree.proofs.TextLaws.{json-found}
use Rattle.json_lend.proofs.RowLaws.{object-ends}
use Rattle.json_line.proofs.Rows.{row-filled, tight-so_far}
use Rattle.json_line.proofs.line.push_line.Goals as goal

pub fill_columns-requires : goal.fill_columns-requires
fill_columns-requires c = tight-so_far c.args.count _ c.args.builders.now c.read_columns.new.builders c.requires.tight c.in_ok-read_columns.ensures.ok.2

pub returns-in_err-fill_columns-clause-shapes : goal.returns-in_err-fill_columns-clause-shapes
returns-in_err-fill_columns-clause-shapes c = c.fill_columns.ensures.shapes ∙ c.read_columns.ensures.shapes

pub returns-in-Some-clause-shapes : goal.returns-in-Some-clause-shapes
returns-in-Some-clause-shapes c = c.fill_columns.ensures.shapes ∙ c.read_columns.ensures.shapes

pub returns-in-None-clause-shapes : goal.returns-in-None-clause-shapes
returns-in-None-clause-shapes c = c.fill_columns.ensures.shapes ∙ c.read_columns.ensures.shapes

pub returns-in-None-clause-tight : goal.returns-in-None-clause-tight
returns-in-None-clause-tight c =
    let r = c.in_ok-read_columns.ensures.ok in
    (row-filled c.args.count c.args.names.now r.0 c.args.builders.now c.read_columns.new.builders c.fill_columns.new.builders c.requires.tight r.2 c.in_ok-fill_columns.ensures.ok).1

pub returns-in-None-clause-ok : goal.returns-in-None-clause-ok
returns-in-None-clause-ok c =
    let line = c.args.line.now in
    let r = c.in_ok-read_columns.ensures.ok in
    let taken = rw c.if-not-takes.false at c.takes.ensures.taken in
    let begins : skip line ≡ 123 ∷ c.takes.new.self = ap skip (sym (c.new-reader.ensures ∙ c.as_bytes.ensures.value)) ∙ (sym c.skip_spaces.ensures.skipped ∙ taken) in
    let whole : text_at 128 line ≡ found (object r.0) [] = object-ends line c.takes.new.self c.read_columns.new.reader (object r.0) begins r.1 (sym c.skip_spaces-2.ensures.skipped ∙ c.in-None.ensures) in
    (r.0, json-found line [] (object r.0) c.utf8.line whole, (row-filled c.args.count c.args.names.now r.0 c.args.builders.now c.read_columns.new.builders c.fill_columns.new.builders c.requires.tight r.2 c.in_ok-fill_columns.ensures.ok).0)
