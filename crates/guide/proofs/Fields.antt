-- The columns of fields of structs.
use Rattle.std.proofs.Common.{◌≡◌, SomeIff, ok_or, Option, Some, None, Result, Ok, refl, sym, ap, ◌∙◌, arith, ℕ, zero, suc, ◌+◌, ◌<◌, false, List, [], ◌∷◌, map, length, take, take-suc, get_or, slice_index_or, subst, IsTrue, ℤ, pos, ◌+ℤ◌}
use Rattle.std.specs.Prelude.{option_map, slice_get}
use Rattle.std.proofs.lemmas.Option.{slice_get_read}
use Rattle.std.proofs.lemmas.List.Sums.{fold-append}
use Rattle.arrow_core.specs.declared.error.Error.{Error}
use Rattle.arrow_core.specs.declared.error.Error.TheVariants.{Overflow}
use Rattle.arrow_core.specs.declared.slot.Slot.{Slot, out-Slot, Null, Boolean as BooleanSlot, Integer as IntegerSlot, String as StringSlot, Binary as BinarySlot, List' as ListSlot', Struct' as StructSlot'}
use Rattle.arrow_core.specs.declared.slot.Slot.TheVariants as slot
use Rattle.arrow_core.specs.declared.slot.Slot.TheViews.{outs-Struct}
use Rattle.arrow_core.specs.declared.types.DataType.{DataType}
use Rattle.arrow_core.specs.declared.types.Field.{Field}
use Rattle.arrow_array.specs.declared.array.Array.{Array}
use Rattle.arrow_array.specs.Arrays.{array_slots}
use Rattle.arrow_array.specs.Slots.{slot_at, is_held}
use Rattle.arrow_array.specs.Structs.{record_at, AreChildren, IsStructOf}
use Rattle.guide.specs.LineSum.{IsFieldOf, added, field_in, field_of, long_of}

-- the field that stands at a place has its name
pub name_at : (fields all : List Field) (place : ℕ) (field : Field) (name : List ℕ) → fields ≡ all → place < length fields → field ≡ get_or fields place field → field.name ≡ name
    → option_map (λ (f : Field). f.name) (slice_get all place) ≡ Some name
name_at fields all place field name same within at named =
    let read : option_map (λ (f : Field). f.name) (slice_get fields place) ≡ Some name =
    ap (option_map (λ (f : Field). f.name)) (slice_get_read fields (length fields) place field refl within at) ∙ ap Some named in
    subst (λ (z : List Field). option_map (λ (f : Field). f.name) (slice_get z place) ≡ Some name) same read

child_length : (n : ℕ) (fields : List Field) (children : List Array) (k : ℕ) (a : Array) → k < length children → a ≡ slice_index_or children k a → AreChildren n fields children → length (array_slots a) ≡ n
child_length n fields [] k a l e h = absurd (omega (arith, l))
child_length n [] (b ∷ children) k a l e h = absurd h
child_length n (f ∷ fields) (b ∷ children) zero a l e h = ap (λ z. length (array_slots z)) e ∙ h.0.1
child_length n (f ∷ fields) (b ∷ children) (suc k) a l e h = child_length n fields children k a (omega (arith, l)) e h.1

-- a field of a record is the slot of the field's child
child_slot : (children : List Array) (i k : ℕ) (a : Array) → k < length children → a ≡ slice_index_or children k a → slot_at (map (λ slots. slot_at slots i) (map array_slots children)) k ≡ slot_at (array_slots a) i
child_slot [] i k a l e = absurd (omega (arith, l))
child_slot (b ∷ children) i zero a l e = ap (λ z. slot_at (array_slots z) i) (sym e)
child_slot (b ∷ children) i (suc k) a l e = child_slot children i k a (omega (arith, l)) e

-- a child of structs is the column of its field
pub is_field : (t : DataType) (children : List Array) (place : ℕ) (a : Array) (rows column : List Slot)
    → place < length children → a ≡ slice_index_or children place a → array_slots a ≡ column
    → IsStructOf t children (length rows)
    → ((k : ℕ) → k < length rows → IsTrue (is_held (slot_at rows k)) → slot_at rows k ≡ record_at (map array_slots children) k)
    → IsFieldOf place rows column
is_field t children place a rows column l e is h records = record {
  as_many = ap length (sym is) ∙ child_length (length rows) h.0 children place a l e h.2;
  same = λ k m d.
      ap (field_of place) (records k m d)
      ∙ ap (field_in place) (outs-Struct (map (λ slots. slot_at slots k) (map array_slots children)))
      ∙ child_slot children k place a l e
      ∙ ap (λ z. slot_at z k) is;
}

no_long : (x : Slot) → false ≡ is_held x → pos 0 ≡ long_of x
no_long Null e = refl
no_long (BooleanSlot b) e = cc
no_long (IntegerSlot n) e = cc
no_long (StringSlot string) e = cc
no_long (BinarySlot bytes) e = cc
no_long (ListSlot' a b) e = cc
no_long (StructSlot' a b) e = cc

no_field : (place : ℕ) (x : Slot) → false ≡ is_held x → pos 0 ≡ long_of (field_of place x)
unfolding out-Slot denote.Hole.Carrier.out
no_field place Null e = refl
no_field place (BooleanSlot b) e = cc
no_field place (IntegerSlot n) e = cc
no_field place (StringSlot string) e = cc
no_field place (BinarySlot bytes) e = cc
no_field place (ListSlot' a b) e = cc
no_field place (StructSlot' a b) e = cc

-- a row that is null, or a null in the field, adds nothing
pub no_row : (place i : ℕ) (rows column : List Slot) → IsFieldOf place rows column → false ≡ is_held (slot_at rows i) → pos 0 ≡ long_of (field_of place (slot_at rows i))
no_row place i rows column h e = no_field place (slot_at rows i) e

pub null_in_field : (place i : ℕ) (rows column : List Slot) → IsFieldOf place rows column → i < length rows → IsTrue (is_held (slot_at rows i)) → false ≡ is_held (slot_at column i) → pos 0 ≡ long_of (field_of place (slot_at rows i))
null_in_field place i rows column h l d e = no_long (slot_at column i) e ∙ sym (ap long_of (h.same i l d))

pub long_in_field : (place i : ℕ) (n : ℤ) (rows column : List Slot) → IsFieldOf place rows column → i < length rows → IsTrue (is_held (slot_at rows i)) → slot_at column i ≡ slot.Integer n → n ≡ long_of (field_of place (slot_at rows i))
long_in_field place i n rows column h l d e = sym (ap long_of (h.same i l d ∙ e))

-- one row more is added
pub added_more : (place i : ℕ) (n sum long next : ℤ) (rows : List Slot) → i < length rows → sum ≡ added place n (take i rows) → long ≡ long_of (field_of place (slot_at rows i)) → next ≡ sum +ℤ long
    → next ≡ added place n (take (i + 1) rows)
added_more place i n sum long next rows l is one added_long =
    let same : suc i ≡ i + 1 = omega arith in
    let more : added place n (take (suc i) rows) ≡ sum +ℤ long =
    ap (added place n) (take-suc rows i slot.Null l) ∙ fold-append (λ (m : ℤ) (row : Slot). m +ℤ long_of (field_of place row)) n (take i rows) (slot_at rows i ∷ []) ∙ (λ j. sym is j +ℤ sym one j) in
    added_long ∙ sym more ∙ ap (λ z. added place n (take z rows)) same

-- a sum that is checked, and wasn't too great
pub checked_sum : (checked : Option ℤ) (result : Result ℤ Error) (sum : ℤ) (P : Type 0) (v : ℤ) → result ≡ ok_or checked Overflow → result ≡ Ok sum → SomeIff checked P v → sum ≡ v
checked_sum None result sum P v made was fits = absurd cc
checked_sum (Some x) result sum P v made was fits = let same : sum ≡ x = cc in same ∙ fits.1
