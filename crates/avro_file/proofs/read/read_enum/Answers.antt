-- An enum is found where its name and its symbols are.
use Rattle.std.proofs.Common.{◌≡◌, Err, rules, ◌∙◌}
use Rattle.avro_file.specs.Reading.{enum_of, strings}
use Rattle.avro_file.proofs.Parts.{enum_unnamed, enum_without, enum_is, then_fault, then_found, told}
use Rattle.avro_file.proofs.read.read_enum.Goals as goal

pub returns-in_default : goal.returns-in_default
returns-in_default c = enum_unnamed c.args.object.now c.in_default.ensures

pub returns-in_default-items_at : goal.returns-in_default-items_at
returns-in_default-items_at c = enum_without c.args.object.now c.in-Some.name.now c.in-Some.ensures c.in_default-items_at.ensures

pub returns-in_err-symbols : goal.returns-in_err-symbols
returns-in_err-symbols c =
    let is : c.from_residual.result ≡ Err c.in_err-symbols.field-0.0 = search rules in
    told c.from_residual.result (enum_of c.args.object.now) _ (enum_is c.args.object.now c.in-Some.name.now c.in-Some-items_at.items.now c.in-Some.ensures c.in-Some-items_at.ensures)
    (then_fault c.from_residual.result c.in_err-symbols.field-0.0 _ (strings c.in-Some-items_at.items.now) is c.in_err-symbols.ensures)

pub returns : goal.returns
returns c =
    let name = c.in_ok-copy_of.ensures.copy in
    let namespace = c.in_ok-copy_at.ensures.copy in
    let doc = c.in_ok-copy_at-2.ensures.copy in
    rw (name, namespace, doc)
    (enum_is c.args.object.now c.in-Some.name.now c.in-Some-items_at.items.now c.in-Some.ensures c.in-Some-items_at.ensures ∙ then_found _ (strings c.in-Some-items_at.items.now) c.in_ok-symbols.symbols c.in_ok-symbols.ensures)
