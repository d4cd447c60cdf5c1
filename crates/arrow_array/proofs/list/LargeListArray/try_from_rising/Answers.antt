use Rattle.std.proofs.Common.{◌≡◌, refl, arith, ◌-◌, length, vec_len}
use Rattle.std.proofs.lemmas.List.{map-id}
use Rattle.arrow_array.proofs.list.LargeListArray.try_from_rising.Goals as goal

pub fits-requires : goal.fits-requires
fits-requires c = rw (map-id c.as_slice.result.now, c.as_slice.ensures.value) c.requires

pub invariant_of-result : goal.invariant_of-result
invariant_of-result c =
    let fit = rw (map-id c.as_slice.result.now, c.as_slice.ensures.value) at (c.fits.ensures.0 c.if-not-fits.false) in
    let first = rw c.in_ok-offsets.ensures.first at c.both-shared.ensures.first in
    let second = rw c.in_ok-offsets.ensures.first at c.both-shared.ensures.second in
    let offsets = rw first at c.try_from_vec.ensures.values in
    let values = rw second at c.new.ensures.holds in
    rw (c.in_ok-offsets.ensures.second, c.in_ok-offsets.ensures.third, offsets, values) fit

pub returns-clause-slots : goal.returns-clause-slots
returns-clause-slots c =
    let e : length c.args.offsets.items - 1 ≡ vec_len c.args.offsets - 1 = omega (arith, c.args.offsets.ok.0) in
    let first = rw c.in_ok-offsets.ensures.first at c.both-shared.ensures.first in
    let second = rw c.in_ok-offsets.ensures.first at c.both-shared.ensures.second in
    let offsets = rw first at c.try_from_vec.ensures.values in
    let values = rw second at c.new.ensures.holds in
    rw (c.in_ok-offsets.ensures.third, offsets, values, e) refl

pub returns-clause-offsets : goal.returns-clause-offsets
returns-clause-offsets c =
    let first = rw c.in_ok-offsets.ensures.first at c.both-shared.ensures.first in
    let offsets = rw first at c.try_from_vec.ensures.values in
    offsets

pub returns-clause-items : goal.returns-clause-items
returns-clause-items c =
    let second = rw c.in_ok-offsets.ensures.first at c.both-shared.ensures.second in
    let values = rw second at c.new.ensures.holds in
    rw values refl

pub returns-clause-dictionaries : goal.returns-clause-dictionaries
returns-clause-dictionaries c =
    let second = rw c.in_ok-offsets.ensures.first at c.both-shared.ensures.second in
    let values = rw second at c.new.ensures.holds in
    rw values refl

pub returns-clause-fits : goal.returns-clause-fits
returns-clause-fits c = rw (map-id c.as_slice.result.now, c.as_slice.ensures.value) at (c.fits.ensures.0 c.if-not-fits.false)
