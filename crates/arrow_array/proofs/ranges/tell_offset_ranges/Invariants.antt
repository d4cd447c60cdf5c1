use Rattle.std.proofs.Common.{◌≡◌, ℕ, ◌≤◌, pos}
use Rattle.std.specs.List.{AllWithin}
use Rattle.arrow_core.specs.Numbers.{greatest_offset}
use Rattle.arrow_array.proofs.ranges.tell_offset_ranges.Given as goal

abbrev pub invariant-loop-offset : goal.invariant-loop-offset
invariant-loop-offset g l = AllWithin (λ x. (n : ℕ) → g.O.Offset.number x ≡ pos n → n ≤ greatest_offset g.O.Offset.IS_LARGE) l.offsets 0 l.offset-index
