use Rattle.std.proofs.Common.{◌≡◌, ◌∙◌, [], ◌∷◌, sym, ap}
use Rattle.json_tree.specs.Reading.{skip}
use Rattle.json_tree.proofs.TextLaws.{json-found}
use Rattle.json_lend.proofs.RowLaws.{object-ends}
use Rattle.ndjson_read.proofs.MemberLaws.{stands_still}
use Rattle.ndjson_read.proofs.repeated.adds_nothing.Goals as goal

pub returns-in-None : goal.returns-in-None
returns-in-None c = λ e.
    let row = c.args.row.now in
    let first : skip row ≡ 123 ∷ c.takes.new.self = ap skip (sym (c.new-reader.ensures ∙ c.as_bytes.ensures.value)) ∙ (sym c.skip_spaces.ensures.skipped ∙ c.if-not-takes.ensures.taken) in
    let r = c.is_repeated.ensures c.if-not-is_repeated.false in
    let whole = object-ends row c.takes.new.self c.is_repeated.new.reader r.0 first r.1 (sym c.skip_spaces-2.ensures.skipped ∙ c.in-None.ensures) in
    (r.0, json-found row [] r.0 c.utf8.row whole, λ rows k. stands_still c.args.types.now rows r.0 r.2 k)
