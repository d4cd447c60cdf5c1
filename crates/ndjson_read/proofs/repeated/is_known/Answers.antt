use Rattle.std.proofs.Common.{◌∙◌, sym, ap}
use Rattle.json_tree.specs.Reading.{string_at, value_at}
use Rattle.json_tree.proofs.CharTurns.{plain-string}
use Rattle.json_tree.proofs.Turns.{member-ok}
use Rattle.json_infer.specs.Inferred.{type_of}
use Rattle.ndjson_read.proofs.MemberLaws.{among_known, null_known}
use Rattle.ndjson_read.proofs.repeated.is_known.Goals as goal

pub returns-in-Some-types_near-clause-reads : goal.returns-in-Some-types_near-clause-reads
returns-in-Some-types_near-clause-reads c = λ e.
    let p = c.in-Some.ensures.found in
    let name = c.in-Some.name.now in
    let key = ap string_at (sym c.skip_spaces.ensures.skipped) ∙ plain-string c.skip_spaces.new.self name c.plain_string.new.self p.0 p.1 in
    let r = c.is_among.ensures.reads e in (
      name,
      r.0,
      member-ok (value_at 127) c.args.reader.now name c.plain_string.new.self c.name_separator.new.reader c.is_among.new.reader r.0 key c.in-Ok.ensures.found (ap (value_at 127) (sym c.skip_spaces-2.ensures.skipped) ∙ r.1),
      among_known c.args.columns.now name (type_of r.0) c.in-Some-types_near.data_types.now c.in-Some-types_near.ensures r.2,
    )

pub returns-in-None-clause-reads : goal.returns-in-None-clause-reads
returns-in-None-clause-reads c = λ e.
    let p = c.in-Some.ensures.found in
    let name = c.in-Some.name.now in
    let key = ap string_at (sym c.skip_spaces.ensures.skipped) ∙ plain-string c.skip_spaces.new.self name c.plain_string.new.self p.0 p.1 in
    let r = c.is_expected.ensures.reads e in (
      name,
      r.0,
      member-ok (value_at 127) c.args.reader.now name c.plain_string.new.self c.name_separator.new.reader c.is_expected.new.reader r.0 key c.in-Ok.ensures.found (ap (value_at 127) (sym c.skip_spaces-2.ensures.skipped) ∙ r.1),
      null_known c.args.columns.now name (type_of r.0) r.2,
    )
