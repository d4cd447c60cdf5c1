-- Bytes that end a text of UTF-8 (RFC 8259, section 8.1). Contracts of private functions and the
-- model of `Reader` alone cite this file.
use Rattle.std.specs.Prelude.{ℕ, List, ◌++◌}
use Rattle.std.specs.Str.{IsUtf8}

pub record InText (b : List ℕ) : Type 0 where
  pub prefix : List ℕ
  pub text : IsUtf8 (prefix ++ b)
