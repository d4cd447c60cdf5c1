use Rattle.std.proofs.Common.{◌≡◌, ◌∙◌, false, inl, sym}
use Rattle.std.specs.Prelude.{is_some}
use Rattle.arrow_builders.specs.MutableArrays.{nodes}
use Rattle.avro_decode.proofs.Reserved.{nodes_still_empty, one_node}
use Rattle.avro_decode.proofs.reserve.reserve_column.Goals as goal

pub returns-clause-empty : goal.returns-clause-empty
returns-clause-empty c = λ h. nodes_still_empty _ _ c.reserve_for-reserved.ensures.capacity h

pub returns-clause-nested : goal.returns-clause-nested
returns-clause-nested c =
    let none : is_some c.node_lengths.result ≡ false = sym c.is_some.ensures ∙ c.if-is_some.false in
    inl (one_node (nodes c.args.builder.now) (rw c.node_lengths.ensures at none))
