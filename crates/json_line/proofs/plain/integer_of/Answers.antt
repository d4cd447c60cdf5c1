use Rattle.std.proofs.Common.{◌∙◌, sym, ap}
use Rattle.json_flat.specs.Meaning.{slot_of}
use Rattle.json_line.proofs.Meanings.{whole-number, whole-boolean, no-whole}
use Rattle.json_line.proofs.plain.integer_of.Goals as goal

pub returns-in-Some : goal.returns-in-Some
returns-in-Some g c =
    let h = c.in-Some.ensures in
    rw c.in-Number.is (whole-number c.in-Number.mantissa.now c.in-Number.exponent.now g.T.WholeNumber.low g.T.WholeNumber.high h.0 h.1 ∙ ap slot_of (sym h.2))

pub returns-in-Bool : goal.returns-in-Bool
returns-in-Bool g c = rw c.in-Bool.is (whole-boolean c.in-Bool.boolean g.T.WholeNumber.low g.T.WholeNumber.high ∙ ap slot_of (sym c.from_bool.ensures))

pub returns-in_default : goal.returns-in_default
returns-in_default g c = no-whole c.args.lent.now g.T.WholeNumber.low g.T.WholeNumber.high c.in_default.not-Bool c.in_default.not-Number
