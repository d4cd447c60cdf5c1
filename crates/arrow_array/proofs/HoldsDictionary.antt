-- Types that hold dictionaries, in terms of the fields that code sees, and arrays that hold none.
use Rattle.std.proofs.Common.{◌≡◌, ◌∙◌, sym, ap, refl, ℕ, Bool, true, false, ◌||◌, List, [], ◌∷◌}
use Rattle.std.specs.List.{All}
use Rattle.std.proofs.lemmas.List.Elements.{All-head, All-tail}
use Rattle.arrow_core.specs.declared.types.DataType.{DataType}
use Rattle.arrow_core.specs.declared.types.DataType.TheBlock.{shape-the_row-Field-0, hidden-the_row-Field-0, shape-the_row-Field-1, hidden-the_row-Field-1, hidden-the_row-DataType-2}
use Rattle.arrow_core.specs.declared.types.DataType.TheVariants as types
use Rattle.arrow_core.specs.declared.types.Field.{Field}
use Rattle.arrow_core.specs.declared.types.IntegerType.{IntegerType}
use Rattle.arrow_array.specs.declared.array.Array.{Array}
use Rattle.arrow_array.specs.Arrays.{all_dictionaries, dictionaries_of}
use Rattle.arrow_array.specs.Dictionaries.{IsDictionaryOf}
use Rattle.arrow_array.specs.FixedLists.{IsFixedListOf, list_size}
use Rattle.arrow_array.specs.HoldsDictionary.{any_holds_dictionary, holds_dictionary, row_holds_dictionary, HoldsNone}
use Rattle.arrow_array.specs.Lists.{IsListOf, list_type}
use Rattle.arrow_array.specs.Structs.{AreChildren, IsStructOf}

pub list_holds : (is_large : Bool) (f : Field) → holds_dictionary (list_type is_large f) ≡ holds_dictionary f.data_type
unfolding shape-the_row-Field-0 hidden-the_row-Field-0 denote.Hole.Carrier.hidden
list_holds false f = refl
list_holds true f = refl

pub fixed_list_holds : (f : Field) (size : ℕ) → holds_dictionary (types.FixedSizeList f size) ≡ holds_dictionary f.data_type
unfolding shape-the_row-Field-0 hidden-the_row-Field-0 denote.Hole.Carrier.hidden
fixed_list_holds f size = refl

row_holds : (fs : List Field) → row_holds_dictionary (hidden-the_row-Field-1 fs) ≡ any_holds_dictionary fs
unfolding shape-the_row-Field-1 hidden-the_row-Field-1 denote.Hole.Carrier.hidden
row_holds [] = refl
row_holds (f ∷ fs) = ap (λ z. holds_dictionary f.data_type || z) (row_holds fs)

pub struct_holds : (fs : List Field) → holds_dictionary (types.Struct fs) ≡ any_holds_dictionary fs
unfolding shape-the_row-Field-1 hidden-the_row-Field-1 denote.Hole.Carrier.hidden
struct_holds fs = row_holds fs

dictionary_holds : (key : IntegerType) (value : DataType) (is_sorted : Bool) → holds_dictionary (types.Dictionary key value is_sorted) ≡ true
unfolding hidden-the_row-DataType-2 denote.Hole.Carrier.hidden
dictionary_holds key value is_sorted = refl

-- ---- arrays

-- a dictionary's type holds one
pub is_dictionary : (key : IntegerType) (t value : DataType) → IsDictionaryOf key t value → holds_dictionary t ≡ true
is_dictionary key t value h = ap holds_dictionary h.1 ∙ dictionary_holds key value h.0

-- the type of lists holds what that of the items holds
pub of_items : (is_large : Bool) (t item : DataType) → IsListOf is_large t item → holds_dictionary t ≡ false → holds_dictionary item ≡ false
of_items is_large t item h e = sym (ap holds_dictionary h.2) ∙ sym (list_holds is_large h.0) ∙ sym (ap holds_dictionary h.1) ∙ e

pub of_fixed_items : (t item : DataType) → IsFixedListOf t item → holds_dictionary t ≡ false → holds_dictionary item ≡ false
of_fixed_items t item h e = sym (ap holds_dictionary h.2) ∙ sym (fixed_list_holds h.0 (list_size t)) ∙ sym (ap holds_dictionary h.1) ∙ e

neither_first : (a b : Bool) → (a || b) ≡ false → a ≡ false
neither_first true b e = e
neither_first false b e = refl

neither_second : (a b : Bool) → (a || b) ≡ false → b ≡ false
neither_second true b e = let d : true ≡ false = e in absurd cc
neither_second false b e = e

children_hold_none : (n : ℕ) (fields : List Field) (children : List Array) → AreChildren n fields children → any_holds_dictionary fields ≡ false → All HoldsNone children → all_dictionaries children ≡ []
children_hold_none n [] [] h e all = refl
children_hold_none n [] (a ∷ children) h e all = absurd h
children_hold_none n (f ∷ fields) [] h e all = absurd h
children_hold_none n (f ∷ fields) (a ∷ children) h e all =
    let first : holds_dictionary f.data_type ≡ false = neither_first (holds_dictionary f.data_type) (any_holds_dictionary fields) e in
    let none : dictionaries_of a ≡ [] = All-head HoldsNone a children all (sym (ap holds_dictionary h.0.0) ∙ first) in
    let more : all_dictionaries children ≡ [] = children_hold_none n fields children h.1 (neither_second (holds_dictionary f.data_type) (any_holds_dictionary fields) e) (All-tail HoldsNone a children all) in
    rw (none, more) refl

-- structs hold what their children hold
pub of_children : (t : DataType) (children : List Array) (n : ℕ) → IsStructOf t children n → All HoldsNone children → holds_dictionary t ≡ false → all_dictionaries children ≡ []
of_children t children n h all e = children_hold_none n h.0 children h.2 (sym (struct_holds h.0) ∙ sym (ap holds_dictionary h.1) ∙ e) all
