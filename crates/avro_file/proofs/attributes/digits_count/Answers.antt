-- No exponent stands there.
use Rattle.std.proofs.Common.{◌≡◌, length, sym, ◌∙◌, ap, arith}
use Rattle.std.proofs.lemmas.Bool.Decides.{nat_tests}
use Rattle.avro_file.specs.Attributes.{digits_count}
use Rattle.avro_file.proofs.Digits.{read_is, empty}
use Rattle.avro_file.proofs.attributes.digits_count.Goals as goal

pub returns : goal.returns
returns c =
    let none : length c.args.exponent.now ≡ 0 = grind (arith, nat_tests, c.if-not-is_empty.false, c.is_empty.ensures) in
    read_is c.args.mantissa.now c.read_digits.result c.read_digits.ensures.count c.read_digits.ensures.none ∙ ap (digits_count c.args.mantissa.now) (sym (empty c.args.exponent.now none))
