use Rattle.std.proofs.Common.{refl, arith}
use Rattle.std.proofs.lemmas.Bool.{false≢true}
use Rattle.avro_schema.specs.ValidBlock.{IsSmall}
use Rattle.avro_types.proofs.Parts.{any_at, any_none}
use Rattle.avro_types.proofs.SmallOffsets.{small_fixed_list, small_large_list, small_map, small_struct, small_union, small_extension}
use Rattle.avro_types.proofs.small_types.+small.Goals as goal

pub is_small-returns-in-FixedSizeList : goal.is_small-returns-in-FixedSizeList
is_small-returns-in-FixedSizeList t c =
    small_fixed_list c.args.data_type.now c.is_small.result c.in-FixedSizeList.item c.get.result.now _ c.in-FixedSizeList.is c.get.ensures c.is_small.ensures

pub is_small-returns-in-LargeList : goal.is_small-returns-in-LargeList
is_small-returns-in-LargeList t c =
    small_large_list c.args.data_type.now c.is_small-in-LargeList.result c.in-LargeList.item c.get-in-LargeList.result.now c.in-LargeList.is c.get-in-LargeList.ensures c.is_small-in-LargeList.ensures

pub is_small-returns-in-Struct : goal.is_small-returns-in-Struct
is_small-returns-in-Struct t c =
    small_struct c.args.data_type.now c.holds_small.result c.in-Struct.fields c.as_slice.result.now c.in-Struct.is c.as_slice.ensures c.holds_small.ensures

pub is_small-returns-in-Map : goal.is_small-returns-in-Map
is_small-returns-in-Map t c =
    small_map c.args.data_type.now c.is_small-in-Map.result c.in-Map.entries c.get-in-Map.result.now _ c.in-Map.is c.get-in-Map.ensures c.is_small-in-Map.ensures

pub is_small-returns-in-Union : goal.is_small-returns-in-Union
is_small-returns-in-Union t c =
    small_union c.args.data_type.now c.holds_small-in-Union.result c.in-Union.fields c.as_slice-in-Union.result.now _ _ c.in-Union.is c.as_slice-in-Union.ensures c.holds_small-in-Union.ensures

pub is_small-returns-in-Extension : goal.is_small-returns-in-Extension
is_small-returns-in-Extension t c =
    small_extension c.args.data_type.now c.is_small-in-Extension.result _ c.in-Extension.inner c.get-in-Extension.result.now _ c.in-Extension.is c.get-in-Extension.ensures c.is_small-in-Extension.ensures

pub holds_small-returns-then-is_small : goal.holds_small-returns-then-is_small
holds_small-returns-then-is_small t c =
    (λ h. any_at (λ f. IsSmall f.data_type) c.args.fields.now c.loop-i.i c.index-fields-i.result c.loop-i-test.true (c.is_small.ensures.0 c.if-is_small.true), λ h. refl)

pub holds_small-returns : goal.holds_small-returns
holds_small-returns t c =
    (λ h. absurd (false≢true h), λ h. absurd (any_none (λ f. IsSmall f.data_type) c.args.fields.now (λ k d lt. c.loop-i.invariant.none k d (omega (arith, lt, c.loop-i-test.false))) h))
