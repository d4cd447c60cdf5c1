use Rattle.std.proofs.Common.{arith, refl}
use Rattle.arrow_array.proofs.fixed_size_list.FixedSizeListArray.try_new.Goals as goal

pub invariant_of-result : goal.invariant_of-result
invariant_of-result c =
    let values = rw c.in_ok-values.ensures.first at c.new-values.ensures.holds in
    rw (c.in_ok-values.ensures.second, c.in_ok-values.ensures.third, values) record {
      fits = c.fits.ensures.0 c.if-not-fits.false;
      size_is = c.size_of_type-size.ensures;
      count_is = rw (c.len.ensures, c.size_of_type-size.ensures) refl;
      bounded = omega (arith, c.len.ensures, c.len.type_inv);
    }

pub returns-clause-slots : goal.returns-clause-slots
returns-clause-slots c =
    let values = rw c.in_ok-values.ensures.first at c.new-values.ensures.holds in
    rw (c.in_ok-values.ensures.second, c.in_ok-values.ensures.third, values) refl

pub returns-clause-dictionaries : goal.returns-clause-dictionaries
returns-clause-dictionaries c =
    let values = rw c.in_ok-values.ensures.first at c.new-values.ensures.holds in
    rw values refl

pub returns-clause-fits : goal.returns-clause-fits
returns-clause-fits c = c.fits.ensures.0 c.if-not-fits.false
