-- No item, and no member, so far is a text under a timestamp.
use Rattle.std.proofs.Common.{◌≡◌, false, take}
use Rattle.json_flat.specs.Reading.{reading}
use Rattle.json_columns.specs.Texts.{item_is_text, member_is_text}
use Rattle.json_columns.proofs.texts.+texts.Given as goal

abbrev pub invariant-items_have_text-loop-value : goal.invariant-items_have_text-loop-value
invariant-items_have_text-loop-value l = item_is_text (reading l.item.data_type) (take l.value-index l.items) ≡ false

abbrev pub invariant-members_have_text-loop-field : goal.invariant-members_have_text-loop-field
invariant-members_have_text-loop-field l = member_is_text (take l.field-index l.fields) l.object.members ≡ false
