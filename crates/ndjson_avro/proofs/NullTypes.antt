-- Where Null stands in lists and structs, in terms of the fields that code sees.
use Rattle.std.proofs.Common.{◌≡◌, Bool, true, false, ◌||◌, List, [], ◌∷◌, refl, ap}
use Rattle.arrow_core.specs.declared.types.Field.{Field}
use Rattle.arrow_core.specs.declared.types.DataType.TheVariants as types
use Rattle.arrow_core.specs.declared.types.DataType.TheBlock.{shape-the_row-Field-0, hidden-the_row-Field-0, shape-the_row-Field-1, hidden-the_row-Field-1}
use Rattle.ndjson_avro.specs.Nulls.{any_holds_null, holds_null, row_holds_null}

or_false : (b : Bool) → (b || false) ≡ b
or_false true = refl
or_false false = refl

pub list_nulls : (f : Field) → holds_null (types.List f) ≡ holds_null f.data_type
unfolding shape-the_row-Field-0 hidden-the_row-Field-0 denote.Hole.Carrier.hidden
list_nulls f = or_false (holds_null f.data_type)

pub large_list_nulls : (f : Field) → holds_null (types.LargeList f) ≡ holds_null f.data_type
unfolding shape-the_row-Field-0 hidden-the_row-Field-0 denote.Hole.Carrier.hidden
large_list_nulls f = or_false (holds_null f.data_type)

row_nulls : (fs : List Field) → row_holds_null (hidden-the_row-Field-1 fs) ≡ any_holds_null fs
unfolding shape-the_row-Field-1 hidden-the_row-Field-1 denote.Hole.Carrier.hidden
row_nulls [] = refl
row_nulls (f ∷ fs) = ap (λ z. holds_null f.data_type || z) (row_nulls fs)

pub struct_nulls : (fs : List Field) → holds_null (types.Struct fs) ≡ any_holds_null fs
unfolding shape-the_row-Field-1 hidden-the_row-Field-1 denote.Hole.Carrier.hidden
struct_nulls fs = row_nulls fs
