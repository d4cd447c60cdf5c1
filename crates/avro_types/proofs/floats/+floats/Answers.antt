use Rattle.std.proofs.Common.{refl, arith}
use Rattle.std.proofs.lemmas.Bool.{false≢true}
use Rattle.avro_schema.specs.ValidBlock.{HasFloat}
use Rattle.avro_types.proofs.Parts.{any_at, any_none, float_array, float_map, float_union, float_record}
use Rattle.avro_types.proofs.floats.+floats.Goals as goal

pub has_float-returns-in-Record : goal.has_float-returns-in-Record
has_float-returns-in-Record t c =
    float_record c.args.schema.now c.field_has_float.result c.in-Record.record c.as_slice.result.now c.in-Record.is c.as_slice.ensures c.field_has_float.ensures

pub has_float-returns-in-Array : goal.has_float-returns-in-Array
has_float-returns-in-Array t c =
    float_array c.args.schema.now c.has_float.result c.in-Array.item c.get.result.now c.in-Array.is c.get.ensures c.has_float.ensures

pub has_float-returns-in-Map : goal.has_float-returns-in-Map
has_float-returns-in-Map t c =
    float_map c.args.schema.now c.has_float-in-Map.result c.in-Map.value c.get-in-Map.result.now c.in-Map.is c.get-in-Map.ensures c.has_float-in-Map.ensures

pub has_float-returns-in-Union : goal.has_float-returns-in-Union
has_float-returns-in-Union t c =
    float_union c.args.schema.now c.member_has_float.result c.in-Union.members c.as_slice-in-Union.result.now c.in-Union.is c.as_slice-in-Union.ensures c.member_has_float.ensures

pub field_has_float-returns-then-has_float : goal.field_has_float-returns-then-has_float
field_has_float-returns-then-has_float t c =
    (λ h. any_at (λ a. HasFloat a.schema) c.args.fields.now c.loop-i.i c.index-fields-i.result c.loop-i-test.true (c.has_float.ensures.0 c.if-has_float.true), λ h. refl)

pub field_has_float-returns : goal.field_has_float-returns
field_has_float-returns t c =
    (λ h. absurd (false≢true h), λ h. absurd (any_none (λ a. HasFloat a.schema) c.args.fields.now (λ k d lt. c.loop-i.invariant.none k d (omega (arith, lt, c.loop-i-test.false))) h))

pub member_has_float-returns-then-has_float : goal.member_has_float-returns-then-has_float
member_has_float-returns-then-has_float t c =
    (λ h. any_at HasFloat c.args.members.now c.loop-i.i c.index-members-i.result c.loop-i-test.true (rw c.index-members-i.is at (c.has_float.ensures.0 c.if-has_float.true)), λ h. refl)

pub member_has_float-returns : goal.member_has_float-returns
member_has_float-returns t c =
    (λ h. absurd (false≢true h), λ h. absurd (any_none HasFloat c.args.members.now (λ k d lt. c.loop-i.invariant.none k d (omega (arith, lt, c.loop-i-test.false))) h))
