-- The integers that a native value stands for, and the indexes that an offset names.
use Rattle.std.specs.Prelude.{◌≡◌, ℕ, Bool, true, false, ℤ, pos, negsuc, List, [], ◌∷◌, map}
use Rattle.std.specs.List.{All}
use Rattle.arrow_core.specs.declared.slot.Slot.{Slot}
use Rattle.arrow_core.specs.declared.slot.Slot.TheVariants as slot

-- each of the numbers is 0
abbrev pub AreZeros : List ℤ → Type 0
AreZeros = All (λ n. n ≡ pos 0)

-- the slot of a value that stands for these numbers: the number, or a struct of several
abbrev pub slot_of_numbers : List ℤ → Slot
slot_of_numbers (n ∷ []) = slot.Integer n
slot_of_numbers ns = slot.Struct (map slot.Integer ns)

-- an offset that names no index
abbrev pub IsNegative : ℤ → Type 0
IsNegative (pos n) = ⊥
IsNegative (negsuc n) = Unit {0}

-- an offset that names an index
abbrev pub IsIndex : ℤ → Type 0
IsIndex (pos n) = Unit {0}
IsIndex (negsuc n) = ⊥

-- the last index that an offset of 32 bits, and one of 64 bits, can name
abbrev pub greatest_offset : Bool → ℕ
greatest_offset false = 2147483647
greatest_offset true = 9223372036854775807
