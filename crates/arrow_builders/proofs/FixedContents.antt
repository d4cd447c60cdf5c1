-- How many content bytes fixed-size binary values have: of builders that hold none, and of builders of structs.
use Rattle.std.proofs.Common.{◌≡◌, All, refl, sym, subst}
use Rattle.std.proofs.lemmas.List.Elements.{All-head, All-tail}
use mathlib.Core.Former.{Count}
use Rattle.arrow_builders.specs.FixedContent.{HasFixedContent, HaveFixedContent}
use Rattle.arrow_builders.specs.Shapes.{IsFlat}
use Rattle.arrow_builders.specs.declared.structs.DynMutableStructArray.{DynMutableStructArray}
use Rattle.arrow_builders.specs.declared.array.MutableArray.{MutableArray, Struct, List', LargeList', FixedSizeList', Struct', Row_of-MutableArray, end_of-MutableArray, more_of-MutableArray, items-the_row-MutableArray, items_hidden-the_row-MutableArray-0}
use Rattle.arrow_builders.specs.declared.array.MutableArray.TheVariants.{FixedSizeBinary}

-- a flat builder of another kind holds none
pub other_content : (b : MutableArray) → IsFlat b → ((x : _) → b ≡ FixedSizeBinary x → ⊥) → HasFixedContent b
other_content (FixedSizeBinary b) h n = absurd (n b refl)
other_content (List' lists p child) h n = absurd h
other_content (LargeList' lists p child) h n = absurd h
other_content (FixedSizeList' marks p child) h n = absurd h
other_content (Struct' marks size row) h n = absurd h
other_content _ h n = tt

abbrev row_of : MutableArray → (n : Count) × Row_of-MutableArray n
row_of (Struct' marks _ row) = (_, row)
row_of _ = (_, end_of-MutableArray)

content-row : (n : _) (row : Row_of-MutableArray n) → All HasFixedContent (items-the_row-MutableArray n row) → HaveFixedContent row
content-row n end_of-MutableArray h = tt
content-row n (more_of-MutableArray b rest) h =
    let bs = items-the_row-MutableArray _ rest in
    (All-head HasFixedContent b bs h, content-row _ rest (All-tail HasFixedContent b bs h))

pub content-record : (b : DynMutableStructArray) → All HasFixedContent b.values.items → HasFixedContent (Struct b)
content-record b h =
    let row = row_of (Struct b) in
    content-row row.0 row.1 (subst (All HasFixedContent) (sym (items_hidden-the_row-MutableArray-0 b.values)) h)
