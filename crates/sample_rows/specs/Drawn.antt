-- The columns of the rows that are drawn.
use Rattle.std.specs.Prelude.{ℕ, pos, List, map}
use Rattle.std.specs.List.{range_with_len}
use Rattle.arrow_core.specs.declared.slot.Slot.{Slot}
use Rattle.arrow_core.specs.declared.slot.Slot.TheVariants as slot
use Rattle.sample_rows.specs.Drawing.{before_row, user, tags, is_ok}

abbrev pub ids : ℕ → List Slot
ids n = map (λ i. slot.Integer (pos i)) (range_with_len 0 n)

abbrev pub users : ℕ → ℕ → List Slot
users start n = map (λ i. user (before_row start i)) (range_with_len 0 n)

abbrev pub tag_lists : ℕ → ℕ → List Slot
tag_lists start n = map (λ i. slot.List (tags (before_row start i))) (range_with_len 0 n)

abbrev pub oks : ℕ → ℕ → List Slot
oks start n = map (λ i. is_ok (before_row start i)) (range_with_len 0 n)
