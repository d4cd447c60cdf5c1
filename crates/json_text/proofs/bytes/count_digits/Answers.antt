-- The power of ten below an integer tells its digits; 0 has one.
use Rattle.json_text.proofs.Digits.{digits_are, digits_of_zero}
use Rattle.json_text.proofs.bytes.count_digits.Goals as goal

pub returns-in-Some : goal.returns-in-Some
returns-in-Some c = digits_are c.in-Some.power c.args.integer c.in-Some.ensures.power_le c.in-Some.ensures.next_power_gt c.ranges.integer.fits

pub returns-in-None : goal.returns-in-None
returns-in-None c = digits_of_zero c.args.integer c.in-None.ensures.none
