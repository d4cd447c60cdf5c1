-- A list and a struct are written by their fields.
use Rattle.std.proofs.Common.{◌++◌, codes, map, List, sym, ap, ◌∙◌}
use Rattle.std.proofs.Math.Seq.{take-length}
use Rattle.arrow_core.specs.declared.types.Field.{Field}
use Rattle.arrow_base.specs.Joined.{joined}
use Rattle.json_infer.specs.Texts.{type_text}
use Rattle.json_infer.proofs.FieldTexts.{field_text, list_text, struct_text, same_part}
use Rattle.arrow_base.proofs.Joins.{led_joined}
use Rattle.json_infer.proofs.text.+texts.Goals as goal

pub append_type_text-returns-in-List-clause-appended : goal.append_type_text-returns-in-List-clause-appended
append_type_text-returns-in-List-clause-appended t c =
    same_part c.push_list.result c.args.out.now.items c.push_list.new.out.items (codes "List(" ++ (type_text c.get.result.now.data_type ++ codes ")")) (type_text c.args.data_type.now)
    (ap type_text c.in-List.is ∙ list_text c.in-List.item ∙ ap (λ (f : Field). codes "List(" ++ (type_text f.data_type ++ codes ")")) (sym c.get.ensures)) c.push_list.ensures.appended

pub append_type_text-returns-in-Struct-clause-appended : goal.append_type_text-returns-in-Struct-clause-appended
append_type_text-returns-in-Struct-clause-appended t c =
    same_part c.push_struct.result c.args.out.now.items c.push_struct.new.out.items (codes "Struct{" ++ (joined (map field_text c.as_slice.result.now) ++ codes "}")) (type_text c.args.data_type.now)
    (ap type_text c.in-Struct.is ∙ struct_text c.in-Struct.fields ∙ ap (λ (fs : List Field). codes "Struct{" ++ (joined (map field_text fs) ++ codes "}")) (sym c.as_slice.ensures)) c.push_struct.ensures.appended

pub push_members-loop-field-init : goal.push_members-loop-field-init
push_members-loop-field-init t c = record { text = ap (λ z. c.args.out.now.items ++ z) (led_joined (map field_text c.args.fields.now)); kept = take-length c.args.out.now.items }
