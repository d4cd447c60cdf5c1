-- The type of an object, by its members.
use Rattle.std.proofs.Common.{◌≡◌, sym, ap, ◌∙◌, List, ℕ, map}
use Rattle.arrow_core.specs.declared.types.DataType.{DataType}
use Rattle.arrow_core.specs.declared.types.DataType as data_type
use Rattle.arrow_core.specs.declared.types.Field.{Field}
use Rattle.json_tree.specs.declared.value.Object.{fold_out-Object}
use Rattle.json_tree.specs.declared.value.Value.{fold-roll-Value}
use Rattle.json_tree.specs.declared.value.Value.TheOpen as layer
use Rattle.json_tree.specs.declared.value.Value.TheVariants as variant
use Rattle.json_tree.specs.Tree.{Json, object}
use Rattle.json_infer.specs.Inferred.{kept_fields, by_kind, by_members, type_of}

pub type_of_object : (members : List (List ℕ × Json)) → type_of (object members) ≡ data_type.Struct (kept_fields (map (λ m. (m.0, type_of m.1)) members))
unfolding type_of
type_of_object members =
    ap type_of (sym (variant.rolls-Object (record { members = members })))
    ∙ fold-roll-Value DataType (List Field) by_kind by_members (layer.Object (record { members = members }))
    ∙ ap data_type.Struct (fold_out-Object DataType (List Field) by_kind by_members (record { members = members }))
