-- Where a record's first field ends. Only the contracts of the private functions that split a record cite this; no public one does.
use Rattle.std.specs.Prelude.{ℕ, ◌+◌, ◌-◌, ◌==◌, ◌&&◌, List, [], ◌∷◌, if◌then◌else◌}

-- how many records are open after a byte
abbrev pub level_after : ℕ → ℕ → ℕ
level_after byte level = if byte == 123 then level + 1 else (if byte == 125 then level - 1 else level)

-- how many bytes stand before the first semicolon outside of the braces of records: all, if there is none
abbrev pub field_length : ℕ → List ℕ → ℕ
field_length level [] = 0
field_length level (byte ∷ bytes) = if (byte == 59) && (level == 0) then 0 else field_length (level_after byte level) bytes + 1
