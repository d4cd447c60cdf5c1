use Rattle.std.proofs.Common.{◌≡◌, arith, rules}
use Rattle.arrow_flat.proofs.Bits.{none_counted}
use Rattle.arrow_flat.proofs.validity.MutableValidity.freeze.Goals as goal

pub returns-clause-ok : goal.returns-clause-ok
returns-clause-ok c =
    let z : c.self.inside.capacity ≡ 0 = none_counted _ _ _ _ c.self.invariant (omega arith) in
    search (rules, z)
