-- The type of an array, by what is kept of the types of its items.
use Rattle.std.proofs.Common.{◌≡◌, sym, ap, ◌∙◌, List, map, Result, IfOk}
use Rattle.std.proofs.lemmas.Result.{IfOk-weaker}
use Rattle.arrow_core.specs.declared.error.Error.{Error}
use Rattle.arrow_core.specs.declared.types.DataType.{DataType}
use Rattle.arrow_core.specs.declared.types.Field.{Field}
use Rattle.json_tree.specs.declared.value.Value.{Value, fold-roll-Value}
use Rattle.json_tree.specs.declared.value.Value.TheOpen as layer
use Rattle.json_tree.specs.declared.value.Value.TheVariants as variant
use Rattle.json_infer.specs.declared.seen.Seen.TheVariants as seen
use Rattle.json_infer.specs.Inferred.{kept, items_type, by_kind, by_members, type_of, type_of_types}
use Rattle.json_infer.specs.Seen.{seen_after, result_of}
use Rattle.json_infer.proofs.Keeping.{one_at_a_time}

type_of_array : (items : List Value) → type_of (variant.Array items) ≡ items_type (type_of_types (map type_of items))
unfolding type_of
type_of_array items = ap type_of (sym (variant.rolls-Array items)) ∙ fold-roll-Value DataType (List Field) by_kind by_members (layer.Array items)

pub array_type : (r : Result DataType Error) (v : Value) (items slice : List Value) → v ≡ variant.Array items → slice ≡ items
    → IfOk r (λ t. t ≡ items_type (result_of (seen_after seen.Nothing (kept (map type_of slice))))) → IfOk r (λ t. t ≡ type_of v)
array_type r v items slice e s h =
    let by_items : items_type (result_of (seen_after seen.Nothing (kept (map type_of slice)))) ≡ items_type (result_of (seen_after seen.Nothing (kept (map type_of items)))) =
    ap (λ (vs : List Value). items_type (result_of (seen_after seen.Nothing (kept (map type_of vs))))) s in
    let coerced : items_type (result_of (seen_after seen.Nothing (kept (map type_of items)))) ≡ items_type (type_of_types (map type_of items)) =
    ap items_type (sym (one_at_a_time (kept (map type_of items)))) in
    let whole : items_type (type_of_types (map type_of items)) ≡ type_of v = sym (type_of_array items) ∙ ap type_of (sym e) in
    IfOk-weaker r _ _ (λ t k. k ∙ by_items ∙ coerced ∙ whole) h
