-- A list or a struct is a text under a timestamp where an item or a member is.
use Rattle.std.proofs.Common.{◌≡◌, ap, sym, ◌∙◌, true, eqb, ◌&&◌, length}
use Rattle.std.specs.Cmp.{unsigned_Decides}
use Rattle.arrow_core.specs.declared.types.DataType.TheVariants as types
use Rattle.json_tree.specs.declared.value.Value.TheVariants as variant
use Rattle.json_flat.specs.Columns.{means}
use Rattle.json_flat.specs.Reading.{reading}
use Rattle.json_columns.specs.Texts.{is_text, item_is_text}
use Rattle.json_columns.proofs.ByFields.{list_reading, large_list_reading, sized_reading, struct_reading, dictionary_reading}
use Rattle.json_tree.specs.Keys.{value_of}
use Rattle.json_columns.proofs.TextLaws.{list_text, missing_text, sized_text, struct_text}
use Rattle.json_columns.proofs.texts.+texts.Goals as goal

pub has_text-returns-in-List : goal.has_text-returns-in-List
has_text-returns-in-List t c =
    c.list_has_text.ensures ∙ ap (λ r. is_text (means r c.args.value.now)) (sym (ap reading (c.in-List.is ∙ ap types.List (sym c.get.ensures)) ∙ list_reading c.get.result.now))

pub has_text-returns-in-LargeList : goal.has_text-returns-in-LargeList
has_text-returns-in-LargeList t c =
    c.list_has_text-in-LargeList.ensures ∙ ap (λ r. is_text (means r c.args.value.now)) (sym (ap reading (c.in-LargeList.is ∙ ap types.LargeList (sym c.get-in-LargeList.ensures)) ∙ large_list_reading c.get-in-LargeList.result.now))

pub has_text-returns-in-Struct : goal.has_text-returns-in-Struct
has_text-returns-in-Struct t c =
    c.struct_has_text.ensures ∙ ap (λ r. is_text (means r c.args.value.now)) (sym (ap reading (c.in-Struct.is ∙ ap types.Struct (sym c.as_slice.ensures)) ∙ struct_reading c.as_slice.result.now))

pub list_has_text-returns-in-Array : goal.list_has_text-returns-in-Array
list_has_text-returns-in-Array t c =
    c.items_have_text.ensures ∙ list_text (reading c.args.item.now.data_type) c.args.value.now c.as_slice.result.now (c.in-Array.is ∙ ap variant.Array (sym c.as_slice.ensures))

pub struct_has_text-returns-in-Object : goal.struct_has_text-returns-in-Object
struct_has_text-returns-in-Object t c = c.members_have_text.ensures ∙ struct_text c.args.fields.now c.args.value.now c.in-Object.object c.in-Object.is

pub has_text-returns-in-FixedSizeList : goal.has_text-returns-in-FixedSizeList
has_text-returns-in-FixedSizeList t c =
    c.sized_list_has_text.ensures
    ∙ ap (λ r. is_text (means r c.args.value.now)) (sym (ap reading (c.in-FixedSizeList.is ∙ ap (λ f. types.FixedSizeList f c.in-FixedSizeList.size) (sym c.get-in-FixedSizeList.ensures)) ∙ sized_reading c.get-in-FixedSizeList.result.now c.in-FixedSizeList.size))

pub has_text-returns-in-Dictionary : goal.has_text-returns-in-Dictionary
has_text-returns-in-Dictionary t c =
    c.has_text.ensures ∙ ap (λ d. is_text (means (reading d) c.args.value.now)) c.get-in-Dictionary.ensures
    ∙ ap (λ r. is_text (means r c.args.value.now)) (sym (ap reading c.in-Dictionary.is ∙ dictionary_reading c.in-Dictionary.field-0 c.in-Dictionary.inner c.in-Dictionary.field-2))

pub sized_list_has_text-returns-then-items-size : goal.sized_list_has_text-returns-then-items-size
sized_list_has_text-returns-then-items-size t c =
    let r = reading c.args.item.now.data_type in
    let items = c.as_slice-items.result.now in
    let test : eqb (length items) c.args.size ≡ true = (unsigned_Decides (length items) c.args.size).1 c.if-items-size.true in
    c.items_have_text.ensures ∙ ap (λ b. b && item_is_text r items) (sym test) ∙ sized_text r c.args.size c.args.value.now items (c.in-Array.is ∙ ap variant.Array (sym c.as_slice-items.ensures))

pub member_has_text-returns-in-None : goal.member_has_text-returns-in-None
member_has_text-returns-in-None t c =
    let members = c.args.object.now.members in
    missing_text c.args.field.now.data_type (value_of c.args.field.now.name members) (ap (λ n. value_of n members) (sym c.as_str.ensures) ∙ c.in-None.ensures)
