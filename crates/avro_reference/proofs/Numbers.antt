-- Numbers at the start of bytes, as the code takes them.
use Rattle.std.proofs.Common.{◌≡◌, ℤ, List, ℕ, Option, Some, None}
use Rattle.std.specs.Prelude.{IfSome, IfNone, MatchOption}
use Rattle.avro_schema.specs.Number.{Number, PassesNumber, NoNumber}
use Rattle.avro_reference.specs.Prefix.{number_at}
use Rattle.avro_reference.proofs.Exact.{reads_all, reads_no_more}
use Rattle.avro_reference.proofs.Prefixes.{number_sound, number_complete}

pub number_passed : (old new : List ℕ) (v : ℤ) → PassesNumber old new v → number_at old ≡ Some (v, new)
number_passed old new v p = (reads_all number_at Number number_sound number_complete old new v).1 (p.0, p.1, p.2)

pub number_missing : (old : List ℕ) → NoNumber old → number_at old ≡ None
number_missing old h = (reads_no_more number_at Number number_sound number_complete old).1 (λ rest v p. h p.0 rest v p.1 p.2)

pub number_is : (r : Option ℤ) (old new : List ℕ) → IfSome r (PassesNumber old new) → IfNone r (NoNumber old) → MatchOption r (number_at old ≡ None) (λ v. number_at old ≡ Some (v, new))
number_is None old new some none = number_missing old none
number_is (Some v) old new some none = number_passed old new v some
