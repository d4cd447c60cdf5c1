use Rattle.std.proofs.Common.{◌≡◌, refl, arith, ◌-◌, length, map, vec_len}
use Rattle.std.proofs.lemmas.List.{length-map}
use Rattle.arrow_array.proofs.binary.BinaryArray.from_parts.Goals as goal

pub invariant_of-result : goal.invariant_of-result
invariant_of-result g c =
    let first = rw c.in_ok-offsets.ensures.first at c.both-content.ensures.first in
    let second = rw c.in_ok-offsets.ensures.first at c.both-content.ensures.second in
    let offsets = rw first at c.try_from_vec.ensures.values in
    let values = rw second at c.try_from_vec-2.ensures.values in
    let n : length c.args.values.items ≡ vec_len c.args.values = omega (arith, c.args.values.ok.0) in
    rw (c.in_ok-offsets.ensures.second, c.in_ok-offsets.ensures.third, offsets, values, n) c.requires

pub returns-clause-slots : goal.returns-clause-slots
returns-clause-slots g c =
    let e : length (map g.O.Offset.number c.args.offsets.items) - 1 ≡ vec_len c.args.offsets - 1 = omega (arith, length-map c.args.offsets.items g.O.Offset.number, c.args.offsets.ok.0) in
    let first = rw c.in_ok-offsets.ensures.first at c.both-content.ensures.first in
    let second = rw c.in_ok-offsets.ensures.first at c.both-content.ensures.second in
    let offsets = rw first at c.try_from_vec.ensures.values in
    let values = rw second at c.try_from_vec-2.ensures.values in
    rw (c.in_ok-offsets.ensures.third, offsets, values, e) refl

pub returns-clause-offsets : goal.returns-clause-offsets
returns-clause-offsets g c =
    let first = rw c.in_ok-offsets.ensures.first at c.both-content.ensures.first in
    let offsets = rw first at c.try_from_vec.ensures.values in
    rw offsets refl

pub returns-clause-bytes : goal.returns-clause-bytes
returns-clause-bytes g c =
    let second = rw c.in_ok-offsets.ensures.first at c.both-content.ensures.second in
    let values = rw second at c.try_from_vec-2.ensures.values in
    values
