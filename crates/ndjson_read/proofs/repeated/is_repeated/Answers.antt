use Rattle.std.proofs.Common.{◌≡◌, ◌∙◌, rules}
use Rattle.arrow_core.specs.declared.types.DataType as types
use Rattle.json_tree.specs.Tree.{object}
use Rattle.json_infer.specs.Inferred.{type_of}
use Rattle.ndjson_read.proofs.MemberLaws.{still_one, still_structs}
use Rattle.ndjson_read.proofs.repeated.is_repeated.Goals as goal

pub returns-in-Some : goal.returns-in-Some
returns-in-Some c = λ e.
    let r = c.are_known.ensures e in
    (object r.0, r.1, still_structs c.args.types.now c.in-Some.columns.now r.0 c.in-Some.ensures r.2)

pub returns-in-Some-Struct : goal.returns-in-Some-Struct
returns-in-Some-Struct c = λ e.
    let r = c.has_fields.ensures.reads e in
    let is : types.Struct c.as_slice.result.now ≡ c.in-Some-Struct.field-0.now = search rules in
    (r.0, r.1, still_one c.args.types.now c.in-Some-Struct.field-0.now (type_of r.0) c.in-Some-Struct.ensures (r.2 ∙ is))
