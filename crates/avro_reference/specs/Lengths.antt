-- The length of a string or of a binary value (Avro 1.11, "Primitive Types": bytes and string).
use Rattle.std.specs.Prelude.{ℕ, ℤ, pos, negsuc, Option, Some, None}
use Rattle.avro_schema.specs.AndThen.{◌>>=◌}
use Rattle.avro_reference.specs.Prefix.{Reader, number_at}

-- a length is a number of 0 or more
abbrev pub as_length : ℤ → Option ℕ
as_length (pos n) = Some n
as_length (negsuc n) = None

unfoldable pub length_at : Reader ℕ
length_at bytes = do
  v ← number_at bytes
  n ← as_length v.0
  Some (n, v.1)
