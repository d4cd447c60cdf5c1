use Rattle.std.proofs.Common.{refl}
use Rattle.arrow_array.proofs.dictionary.DictionaryArray.from_parts.Goals as goal

pub invariant_of-result : goal.invariant_of-result
invariant_of-result c =
    let values = rw c.in_ok-values.ensures.first at c.new-values.ensures.holds in
    rw (c.in_ok-values.ensures.second, c.in_ok-values.ensures.third, values) c.requires

pub returns-clause-slots : goal.returns-clause-slots
returns-clause-slots c =
    let values = rw c.in_ok-values.ensures.first at c.new-values.ensures.holds in
    rw (c.in_ok-values.ensures.third, values) refl

pub returns-clause-keys : goal.returns-clause-keys
returns-clause-keys c = rw c.in_ok-values.ensures.third refl

pub returns-clause-items : goal.returns-clause-items
returns-clause-items c =
    let values = rw c.in_ok-values.ensures.first at c.new-values.ensures.holds in
    rw values refl
