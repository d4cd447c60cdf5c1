use Rattle.std.proofs.Common.{◌∙◌, ap, sym, refl}
use Rattle.json_tree.specs.Reading.{found}
use Rattle.json_tree.proofs.Escapes.{unit-short, unit-told, unit-text}
use Rattle.json_tree.proofs.strings.code_unit.Goals as goal

pub returns-then-rest-lt4-clause-reads : goal.returns-then-rest-lt4-clause-reads
returns-then-rest-lt4-clause-reads c = (refl, unit-short c.args.reader.now c.rest-rest.result.now c.rest-rest.ensures c.if-rest-lt4.true)

pub returns-in-Some-clause-reads : goal.returns-in-Some-clause-reads
returns-in-Some-clause-reads c =
    let r = c.rest-rest in
    let e = c.in-Some.ensures in
    (unit-told c.args.reader.now r.result.now _ r.ensures c.if-rest-lt4.false e.value ∙ ap (found c.in-Some.unit) (sym c.advance.ensures), e.bounds.0, unit-text c.args.reader.now r.result.now c.advance.new.self r.ensures c.if-rest-lt4.false c.requires e.bounds.1 c.advance.ensures)

pub returns-in-None-clause-reads : goal.returns-in-None-clause-reads
returns-in-None-clause-reads c = (refl, unit-told c.args.reader.now c.rest-rest.result.now _ c.rest-rest.ensures c.if-rest-lt4.false c.in-None.ensures.value)
