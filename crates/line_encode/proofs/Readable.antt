-- A type that has a plan has a reading, and no struct in it names a field twice.
use Rattle.std.proofs.Common.{◌≡◌, ◌∙◌, ◌<◌, ◌&&◌, ◌||◌, Bool, true, false, not, List, [], ◌∷◌, length, refl, ap, arith}
use Rattle.arrow_core.specs.declared.types.DataType.TheVariants as types
use Rattle.arrow_core.specs.declared.types.DataType.TheBlock.{shape-the_row-Field-0, hidden-the_row-Field-0, shape-the_row-Field-1, hidden-the_row-Field-1}
use Rattle.arrow_core.specs.declared.types.Field.{Field}
use Rattle.avro_schema.specs.declared.schema.AvroField.{AvroField}
use Rattle.json_flat.specs.Reading.{has_field, has_reading, have_reading}
use Rattle.line_encode.specs.declared.plan.Plan.{Plan}
use Rattle.json_flat.specs.Names.{names_twice, repeat, row_names, row_names_twice}
use Rattle.json_flat.proofs.RowNames.{row_named}
use Rattle.line_encode.specs.Makes.{AreNamed, ArePlansOf, IsReadable}

-- ---- lists

and_true : (b : Bool) → (b && true) ≡ b
and_true true = refl
and_true false = refl

or_false : (b : Bool) → (b || false) ≡ b
or_false true = refl
or_false false = refl

pub list_readable : (f : Field) → IsReadable f.data_type → IsReadable (types.List f)
unfolding shape-the_row-Field-0 hidden-the_row-Field-0 denote.Hole.Carrier.hidden
list_readable f h = (and_true (has_reading f.data_type) ∙ h.0, or_false (names_twice f.data_type) ∙ h.1)

pub large_list_readable : (f : Field) → IsReadable f.data_type → IsReadable (types.LargeList f)
unfolding shape-the_row-Field-0 hidden-the_row-Field-0 denote.Hole.Carrier.hidden
large_list_readable f h = (and_true (has_reading f.data_type) ∙ h.0, or_false (names_twice f.data_type) ∙ h.1)

-- ---- structs

row_filled : (fields : List Field) → 0 < length fields → has_field (hidden-the_row-Field-1 fields) ≡ true
unfolding shape-the_row-Field-1 hidden-the_row-Field-1 denote.Hole.Carrier.hidden
row_filled [] some = absurd (omega (arith, some))
row_filled (f ∷ fields) some = refl

row_readable : (fields : List Field) (avro_fields : List AvroField) (plans : List Plan) → ArePlansOf fields avro_fields plans → have_reading (hidden-the_row-Field-1 fields) ≡ true
unfolding shape-the_row-Field-1 hidden-the_row-Field-1 denote.Hole.Carrier.hidden
row_readable [] avro_fields plans h = refl
row_readable (f ∷ fields) [] plans h = absurd h
row_readable (f ∷ fields) (a ∷ avro_fields) [] h = absurd h
row_readable (f ∷ fields) (a ∷ avro_fields) (p ∷ plans) h = λ i. h.0.readable.0 i && row_readable fields avro_fields plans h.1 i

row_differs : (fields : List Field) (avro_fields : List AvroField) (plans : List Plan) → ArePlansOf fields avro_fields plans → row_names_twice (hidden-the_row-Field-1 fields) ≡ false
unfolding shape-the_row-Field-1 hidden-the_row-Field-1 denote.Hole.Carrier.hidden
row_differs [] avro_fields plans h = refl
row_differs (f ∷ fields) [] plans h = absurd h
row_differs (f ∷ fields) (a ∷ avro_fields) [] h = absurd h
row_differs (f ∷ fields) (a ∷ avro_fields) (p ∷ plans) h = λ i. h.0.readable.1 i || row_differs fields avro_fields plans h.1 i

pub struct_readable : (fields : List Field) (avro_fields : List AvroField) (plans : List Plan) → AreNamed fields → ArePlansOf fields avro_fields plans → IsReadable (types.Struct fields)
unfolding shape-the_row-Field-1 hidden-the_row-Field-1 denote.Hole.Carrier.hidden
struct_readable fields avro_fields plans named h =
    let differ : repeat (row_names (hidden-the_row-Field-1 fields)) ≡ false = ap repeat (row_named fields) ∙ ap not named.1 in
    (λ i. row_filled fields named.0 i && row_readable fields avro_fields plans h i, λ i. differ i || row_differs fields avro_fields plans h i)
