-- The rows that `avrocat make` draws: each draw is one step of a linear congruential generator, with the
-- constants of the example of `rand` in the C standard.
use Rattle.std.specs.Prelude.{ℕ, zero, suc, ◌+◌, ◌*◌, ◌/◌, ◌%◌, ◌==◌, pos, List, [], ◌∷◌, ◌++◌, map, codes, decimal, if◌then◌else◌}
use Rattle.std.specs.List.{range_with_len}
use Rattle.arrow_core.specs.declared.slot.Slot.{Slot}
use Rattle.arrow_core.specs.declared.slot.Slot.TheVariants as slot

-- ---- the generator

-- the state after one more draw
unfoldable pub next : ℕ → ℕ
next state = (state * 1103515245 + 12345) % 2147483648

-- the number that was drawn, by the state after it
unfoldable pub drawn : ℕ → ℕ
drawn state = state / 65536

-- the state after so many draws
abbrev pub after : ℕ → ℕ → ℕ
after zero state = state
after (suc draws) state = next (after draws state)

-- ---- a row, by the state before its draws

-- the first draw: no user for one number of four, else `u` and the number's last three digits
abbrev pub user_of : ℕ → Slot
user_of number = if number % 4 == 0 then slot.Null else slot.String (codes "u" ++ decimal (number % 1000))

unfoldable pub user : ℕ → Slot
user state = user_of (drawn (after 1 state))

-- the second draw: how many tags there are
unfoldable pub tag_count : ℕ → ℕ
tag_count state = drawn (after 2 state) % 3

-- one draw for each tag: `t` and the number's last digit
abbrev pub tag_of : ℕ → Slot
tag_of number = slot.String (codes "t" ++ decimal (number % 10))

unfoldable pub tags : ℕ → List Slot
tags state = map (λ k. tag_of (drawn (after (k + 3) state))) (range_with_len 0 (tag_count state))

-- the state after the last draw
unfoldable pub after_row : ℕ → ℕ
after_row state = after (tag_count state + 3) state

-- the last draw: whether the number is odd
unfoldable pub is_ok : ℕ → Slot
is_ok state = slot.Boolean (drawn (after_row state) % 2 == 1)

-- ---- rows

-- the state before row i, of the state before the first
abbrev pub before_row : ℕ → ℕ → ℕ
before_row start zero = start
before_row start (suc i) = after_row (before_row start i)

-- row i: its index is its id
abbrev pub drawn_row : ℕ → ℕ → List Slot
drawn_row start i =
    slot.Integer (pos i) ∷ user (before_row start i) ∷ slot.List (tags (before_row start i)) ∷ is_ok (before_row start i) ∷ []

-- n rows, from this state on
abbrev pub drawn_table : ℕ → ℕ → List (List Slot)
drawn_table start n = map (drawn_row start) (range_with_len 0 n)
