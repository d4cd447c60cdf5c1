-- The texts of lists and structs, by their fields.
use Rattle.std.proofs.Common.{◌≡◌, ◌∙◌, ℕ, List, [], ◌∷◌, ◌++◌, map, codes, Result, Ok, Err, OnOk, refl, sym, ap}
use Rattle.arrow_core.specs.declared.types.DataType.{DataType}
use Rattle.arrow_core.specs.declared.types.DataType as data_type
use Rattle.arrow_core.specs.declared.types.DataType.TheBlock.{shape-the_row-Field-0, hidden-the_row-Field-0, shape-the_row-Field-1, hidden-the_row-Field-1}
use Rattle.arrow_core.specs.declared.types.Field.{Field}
use Rattle.arrow_base.specs.Joined.{joined}
use Rattle.json_infer.specs.Texts.{member_text, type_text, member_texts}

abbrev pub field_text : Field → List ℕ
field_text f = member_text f.name (type_text f.data_type)

pub list_text : (f : Field) → type_text (data_type.List f) ≡ codes "List(" ++ (type_text f.data_type ++ codes ")")
unfolding shape-the_row-Field-0 hidden-the_row-Field-0 denote.Hole.Carrier.hidden
list_text f = refl

row_texts : (fs : List Field) → member_texts (hidden-the_row-Field-1 fs) ≡ map field_text fs
unfolding shape-the_row-Field-1 hidden-the_row-Field-1 denote.Hole.Carrier.hidden
row_texts [] = refl
row_texts (f ∷ fs) = ap (λ (ts : List (List ℕ)). field_text f ∷ ts) (row_texts fs)

pub struct_text : (fs : List Field) → type_text (data_type.Struct fs) ≡ codes "Struct{" ++ (joined (map field_text fs) ++ codes "}")
unfolding shape-the_row-Field-1 hidden-the_row-Field-1 denote.Hole.Carrier.hidden
struct_text fs = ap (λ ts. codes "Struct{" ++ (joined ts ++ codes "}")) (row_texts fs)

-- the same part, by another name
pub same_part : {T E : Type 0} (r : Result T E) (old new part whole : List ℕ) → whole ≡ part → OnOk r (new ≡ old ++ part) → OnOk r (new ≡ old ++ whole)
same_part (Ok x) old new part whole e h = h ∙ ap (λ t. old ++ t) (sym e)
same_part (Err x) old new part whole e h = tt
