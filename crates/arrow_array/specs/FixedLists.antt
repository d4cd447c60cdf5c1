-- Fixed-size lists (Arrow columnar format, "Fixed-Size List Layout").
use Rattle.std.specs.Prelude.{◌≡◌, ℕ, ◌*◌, ◌/◌, ◌%◌, ◌^◌, ◌<◌, List, take, drop, Option}
use Rattle.arrow_core.specs.declared.slot.Slot.{Slot}
use Rattle.arrow_core.specs.declared.slot.Slot.TheVariants as slot
use Rattle.arrow_core.specs.declared.types.DataType.{DataType, FixedSizeList'}
use Rattle.arrow_core.specs.declared.types.DataType.TheVariants as types
use Rattle.arrow_core.specs.declared.types.Field.{Field}
use Rattle.arrow_array.specs.Bits.{Packed}
use Rattle.arrow_array.specs.Parts.{IsValidityOf}

-- the list of so many of the child's slots from index k times as many
abbrev pub fixed_list_at : ℕ → List Slot → ℕ → Slot
fixed_list_at size items k = slot.List (take size (drop (k * size) items))

-- how many items each list has; 0 for a type that isn't one of fixed-size lists
abbrev pub list_size : DataType → ℕ
list_size (FixedSizeList' shape item size) = size
list_size _ = 0

-- the type of fixed-size lists whose items are of this type
abbrev pub IsFixedListOf : DataType → DataType → Type 0
IsFixedListOf data_type item = (field : Field) × (data_type ≡ types.FixedSizeList field (list_size data_type)) × (field.data_type ≡ item)

-- parts of an array of fixed-size lists, at least 1, of a child of this type with n slots
pub record FixedListFits (data_type item : DataType) (n : ℕ) (validity : Option Packed) : Type 0 where
  pub filled : 0 < list_size data_type
  pub kind : IsFixedListOf data_type item
  pub whole_lists : n % list_size data_type ≡ 0
  pub validity_fits : IsValidityOf validity (n / list_size data_type)

-- what an array keeps besides: the length of a list, and how many lists there are, all of whose items can be counted
pub record FixedListParts (data_type item : DataType) (n : ℕ) (validity : Option Packed) (size count : ℕ) : Type 0 where
  pub fits : FixedListFits data_type item n validity
  pub size_is : size ≡ list_size data_type
  pub count_is : count ≡ n / list_size data_type
  pub bounded : n < 2 ^ 64
