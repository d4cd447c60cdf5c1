-- Offsets that are told by lengths, and when they make an array of lists.
use Rattle.std.proofs.Common.{◌≡◌, ap, Bool, ℕ, ◌≤◌, ℤ, pos, List, map, length, Option, Some, arith, subst}
use Rattle.std.specs.Option.{is_some}
use Rattle.std.proofs.lemmas.List.{length-map}
use Rattle.arrow_core.specs.declared.slot.Slot.{Slot}
use Rattle.arrow_core.specs.declared.types.DataType.{DataType}
use Rattle.arrow_array.specs.Bits.{Packed}
use Rattle.arrow_array.specs.Lists.{ListFits}
use Rattle.arrow_array.specs.Offsets.{IsWithin, IsOffsets}
use Rattle.arrow_builders.specs.Fits.{ListsFit}
use Rattle.arrow_flat.specs.Nested.{items_of, offsets_of}
use Rattle.arrow_flat.proofs.ListOffsets.{are_offsets, length-offsets, last_offset}

-- offsets into n items reach no further
pub offsets_reach : (ls : List (Option ℕ)) (n : ℕ) → IsOffsets (offsets_of ls) n → items_of ls ≤ n
offsets_reach ls n h = subst (λ (z : ℤ). IsWithin z n) (last_offset ls (pos 0)) (h.within (length ls) (omega (arith, length-offsets ls)))

-- the parts of an array of lists
pub list_parts : (is_large : Bool) (t item : DataType) (ls : List (Option ℕ)) (xs : List Slot) (v : Packed) (P : Type 0) → ListsFit is_large t item (items_of ls) (length xs) P → v.booleans ≡ map is_some ls → ListFits is_large t item (offsets_of ls) xs (Some v)
list_parts is_large t item ls xs v P h d = record {
  kind = h.kind;
  offsets_fit = are_offsets ls (length xs) h.within;
  validity_fits = omega (arith, ap length d, length-map ls is_some, length-offsets ls);
}

-- parts of an array reach no further than its child
pub parts_reach : (is_large : Bool) (t item : DataType) (ls : List (Option ℕ)) (xs : List Slot) (v : Packed) → ListFits is_large t item (offsets_of ls) xs (Some v) → items_of ls ≤ length xs
parts_reach is_large t item ls xs v h = offsets_reach ls (length xs) h.offsets_fit
