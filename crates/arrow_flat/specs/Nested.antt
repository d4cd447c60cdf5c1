-- What contracts see of a builder whose slots lie in children, besides its children.
use Rattle.std.specs.Prelude.{◌≡◌, ℕ, zero, suc, ◌+◌, ◌-◌, ◌*◌, ◌≤◌, ℤ, pos, Bool, true, false, Option, Some, None, is_some, List, [], ◌∷◌, length, map, refl}
use Rattle.std.specs.Coded.{Coded, code_by, coded×, coded_list, coded_ℕ, coded_bool, coded_option}
use Rattle.std.specs.List.{range_with_len}
use Rattle.arrow_core.specs.declared.slot.Slot.{Slot}
use Rattle.arrow_core.specs.declared.slot.Slot.TheVariants as slot
use Rattle.arrow_core.specs.declared.types.DataType.{DataType}
use Rattle.arrow_core.specs.contracts.types.DataType as the_types
use Rattle.arrow_core.specs.Numbers.{greatest_offset}
use Rattle.arrow_array.specs.Slots.{slot_at}
use Rattle.arrow_flat.specs.Builders.{no_limit}
use Rattle.arrow_flat.specs.Nodes.{Node}

-- of structs and of fixed-size lists: the data type, which slots are valid, and how many more slots fit before memory is asked for
pub record Marks : Type 0 where
  pub data_type : DataType
  pub booleans : List Bool
  pub spare : ℕ

abbrev pub marks_code : Coded Marks
marks_code =
    code_by (DataType × (List Bool × ℕ)) (coded× the_types.the_row.coded (coded× (coded_list coded_bool) coded_ℕ))
    (λ m. (m.data_type, (m.booleans, m.spare))) (λ p. record { data_type = p.0; booleans = p.1.0; spare = p.1.1 }) (λ _. refl)

abbrev pub marks_node : Marks → Node
marks_node m = record { slots = length m.booleans; spare = m.spare; bytes = 0; byte_spare = no_limit }

-- of lists: the data type, how many items each list has, where None is a null, and how many more lists fit before memory is asked for
pub record ListMarks : Type 0 where
  pub data_type : DataType
  pub lens : List (Option ℕ)
  pub spare : ℕ

abbrev pub list_marks_code : Coded ListMarks
list_marks_code =
    code_by (DataType × (List (Option ℕ) × ℕ)) (coded× the_types.the_row.coded (coded× (coded_list (coded_option coded_ℕ)) coded_ℕ))
    (λ m. (m.data_type, (m.lens, m.spare))) (λ p. record { data_type = p.0; lens = p.1.0; spare = p.1.1 }) (λ _. refl)

abbrev pub lists_node : ListMarks → Node
lists_node m = record { slots = length m.lens; spare = m.spare; bytes = 0; byte_spare = no_limit }

-- how many items a slot has
abbrev pub list_len : Option ℕ → ℕ
list_len None = 0
list_len (Some n) = n

-- how many items lists have together
abbrev pub items_of : List (Option ℕ) → ℕ
items_of [] = 0
items_of (l ∷ more) = list_len l + items_of more

-- the n slots from index start on; past the last slot each is null
abbrev pub slots_from : List Slot → ℕ → ℕ → List Slot
slots_from items start n = map (slot_at items) (range_with_len start n)

-- so many nulls
abbrev pub null_slots : ℕ → List Slot
null_slots zero = []
null_slots (suc n) = slot.Null ∷ null_slots n

-- the list that begins at this index in the child's slots, or a null
abbrev pub list_slot : List Slot → ℕ → Option ℕ → Slot
list_slot items start None = slot.Null
list_slot items start (Some n) = slot.List (slots_from items start n)

-- the lists, each of which begins where the one before ends (Arrow columnar format, "Variable-size List Layout")
abbrev pub lists_from : ℕ → List (Option ℕ) → List Slot → List Slot
lists_from start [] items = []
lists_from start (l ∷ more) items = list_slot items start l ∷ lists_from (start + list_len l) more items

-- the list at index k, where each list has so many of the child's slots (Arrow columnar format, "Fixed-Size List Layout")
abbrev pub fixed_list_slot : ℕ → List Slot → ℕ → Slot
fixed_list_slot size items k = slot.List (slots_from items (k * size) size)

-- the offsets past the first of lists that begin at an index
abbrev pub ends_from : ℕ → List (Option ℕ) → List ℤ
ends_from start [] = []
ends_from start (l ∷ more) = pos (start + list_len l) ∷ ends_from (start + list_len l) more

abbrev pub offsets_of : List (Option ℕ) → List ℤ
offsets_of lens = pos 0 ∷ ends_from 0 lens

-- ---- What follows is cited by the model of `MutableLists` alone; none of it has to be read to believe a public contract.

-- from one offset to another
abbrev pub gap : ℤ → ℤ → ℕ
gap (pos a) (pos b) = b - a
gap _ _ = 0

-- how many items a list has between two offsets, if it is valid
abbrev pub len_between : Bool → ℤ → ℤ → Option ℕ
len_between true a b = Some (gap a b)
len_between false a b = None

-- the same of each list
abbrev pub lens_of : List ℤ → List Bool → List (Option ℕ)
lens_of (a ∷ b ∷ more) (valid ∷ booleans) = len_between valid a b ∷ lens_of (b ∷ more) booleans
lens_of _ _ = []

-- offsets and validity that stand for lists of such lengths, the last offset no greater than an offset can be
pub record HoldLists (is_large : Bool) (offsets : List ℤ) (booleans : List Bool) (lens : List (Option ℕ)) : Type 0 where
  pub offsets_are : offsets ≡ offsets_of lens
  pub booleans_are : booleans ≡ map is_some lens
  pub limit : items_of lens ≤ greatest_offset is_large
