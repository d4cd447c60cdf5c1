-- Cited by a ghost field alone: that columns fit arrays has one proof at most, so a struct may keep it. Nobody has to believe these lemmas.
use Rattle.std.specs.Prelude.{◌≡◌, ℕ, Bool, true, false, List, [], ◌∷◌, length, take, drop}
use Rattle.std.specs.Coded.{Coded-set, coded_bool, coded_list, coded_ℕ, ×_prop, Π_prop, Unit-prop, le_prop}
use Rattle.arrow_core.specs.declared.types.DataType.{DataType, Row_of-Field, end_of-Field, more_of-Field, Row_of-DataType, end_of-DataType, more_of-DataType}
use Rattle.arrow_core.specs.declared.types.DataType as types
use Rattle.arrow_array.specs.declared.array.Array.{Array}
use Rattle.arrow_array.specs.Arrays.{array_type}
use Rattle.json_text.specs.declared.columns.Column.{Column}
use Rattle.json_text.specs.declared.integers.IntegerForm.{IntegerForm}
use Rattle.json_text.specs.Columns.{IsForm, IsItemForm, IsValueForm, AreWithin, AreInItem, AreInValue, AreMembers, AreColumns}

bytes-prop : (a b : List ℕ) → IsProp (a ≡ b)
bytes-prop a b = Coded-set (coded_list coded_ℕ) a b

number-prop : (a b : ℕ) → IsProp (a ≡ b)
number-prop a b = Coded-set coded_ℕ a b

bool-prop : (a b : Bool) → IsProp (a ≡ b)
bool-prop a b = Coded-set coded_bool a b

mutual
  form-prop : (form : IntegerForm) (t : DataType) → IsProp (IsForm form t)
  form-prop form (types.List' shape item) = item_form-prop form item
  form-prop form (types.LargeList' shape item) = item_form-prop form item
  form-prop form (types.FixedSizeList' shape item size) = item_form-prop form item
  form-prop form (types.Dictionary' key shape value is_sorted) = value_form-prop form value
  form-prop form _ = Π_prop λ n. ×_prop (bytes-prop _ _) (bool-prop _ _)

  item_form-prop : {m : _} → (form : IntegerForm) (row : Row_of-Field m) → IsProp (IsItemForm form row)
  item_form-prop form end_of-Field = Unit-prop
  item_form-prop form (more_of-Field name t is_nullable metadata rest) = form-prop form t

  value_form-prop : {m : _} → (form : IntegerForm) (row : Row_of-DataType m) → IsProp (IsValueForm form row)
  value_form-prop form end_of-DataType = Unit-prop
  value_form-prop form (more_of-DataType t rest) = form-prop form t

mutual
  within-prop : (t : DataType) (cs : List Column) → IsProp (AreWithin t cs)
  within-prop (types.List' shape item) cs = item-prop item cs
  within-prop (types.LargeList' shape item) cs = item-prop item cs
  within-prop (types.FixedSizeList' shape item size) cs = item-prop item cs
  within-prop (types.Dictionary' key shape value is_sorted) cs = value-prop value cs
  within-prop (types.Struct' shape fields) cs = members-prop true fields cs
  within-prop _ cs = Unit-prop

  item-prop : {m : _} → (row : Row_of-Field m) (cs : List Column) → IsProp (AreInItem row cs)
  item-prop end_of-Field cs = Unit-prop
  item-prop (more_of-Field name t is_nullable metadata rest) cs = within-prop t cs

  value-prop : {m : _} → (row : Row_of-DataType m) (cs : List Column) → IsProp (AreInValue row cs)
  value-prop end_of-DataType cs = Unit-prop
  value-prop (more_of-DataType t rest) cs = within-prop t cs

  members-prop : {m : _} → (b : Bool) (row : Row_of-Field m) (cs : List Column) → IsProp (AreMembers b row cs)
  members-prop b end_of-Field cs = number-prop (length cs) 0
  members-prop b (more_of-Field name t is_nullable metadata rest) [] = λ x y. absurd x
  members-prop b (more_of-Field name t is_nullable metadata rest) (c ∷ cs) =
      ×_prop (×_prop (bytes-prop _ _) (×_prop le_prop (×_prop (form-prop c.form t) (within-prop t (take c.within cs))))) (members-prop false rest (drop c.within cs))

pub columns-prop : (arrays : List Array) (cs : List Column) → IsProp (AreColumns arrays cs)
columns-prop [] cs = Unit-prop
columns-prop (a ∷ arrays) [] = λ x y. absurd x
columns-prop (a ∷ arrays) (c ∷ cs) =
    ×_prop (×_prop le_prop (×_prop (form-prop c.form (array_type a)) (within-prop (array_type a) (take c.within cs)))) (columns-prop arrays (drop c.within cs))
