use Rattle.std.proofs.Common.{◌≡◌, ◌∙◌, ap, sym, refl, rules}
use Rattle.std.proofs.lemmas.Result.{err_from_is_err_and}
use Rattle.std.specs.Char.{encode_utf8}
use Rattle.json_tree.specs.Reading.{found}
use Rattle.json_tree.proofs.Escapes.{unicode-unit, unicode-high, unicode-alone, unicode-low}
use Rattle.json_tree.proofs.strings.unicode_escape.Goals as goal

pub returns-in_err-unit-clause-reads : goal.returns-in_err-unit-clause-reads
returns-in_err-unit-clause-reads c =
    let p = err_from_is_err_and c.from_residual.result c.from_residual.ensures.1 in
    let e = c.in_err-unit.ensures.reads in
    rw (p.1, p.2, e.0) (refl, unicode-unit c.args.reader.now e.1)

pub returns-then-is_high_surrogate-clause-reads : goal.returns-then-is_high_surrogate-clause-reads
returns-then-is_high_surrogate-clause-reads c =
    let k = sym c.is_high_surrogate.ensures.value ∙ c.if-is_high_surrogate.true in
    rw (unicode-high c.in_ok-unit.unit c.args.reader.now c.code_unit.new.reader c.in_ok-unit.ensures.reads.0 k) c.low_surrogate.ensures.reads

pub returns-then-is_low_surrogate-clause-reads : goal.returns-then-is_low_surrogate-clause-reads
returns-then-is_low_surrogate-clause-reads c =
    let k = sym c.is_high_surrogate.ensures.value ∙ c.if-is_high_surrogate.false in
    let l = sym c.is_low_surrogate.ensures.value ∙ c.if-is_low_surrogate.true in
    (refl, unicode-low c.in_ok-unit.unit c.args.reader.now c.code_unit.new.reader c.in_ok-unit.ensures.reads.0 k l)

pub returns-in-Some-clause-reads : goal.returns-in-Some-clause-reads
returns-in-Some-clause-reads c =
    let k = sym c.is_high_surrogate.ensures.value ∙ c.if-is_high_surrogate.false in
    let l = sym c.is_low_surrogate.ensures.value ∙ c.if-is_low_surrogate.false in
    let v : c.in-Some.c ≡ c.in_ok-unit.unit = search rules in
    (unicode-alone c.in_ok-unit.unit c.args.reader.now c.code_unit.new.reader c.in_ok-unit.ensures.reads.0 k l ∙ ap (λ w. found (encode_utf8 w) c.code_unit.new.reader) (sym v), c.in_ok-unit.ensures.reads.2)
