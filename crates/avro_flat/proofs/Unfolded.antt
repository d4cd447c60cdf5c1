-- What the reading functions are, as equations that a check rewrites by.
use Rattle.std.proofs.Common.{◌≡◌, ℕ, ℤ, true, false, List, [], ◌∷◌, ◌++◌, Some, None, refl}
use Rattle.std.specs.Prelude.{◌==◌, if◌then◌else◌}
use Rattle.arrow_core.specs.declared.slot.Slot.{Slot}
use Rattle.arrow_core.specs.declared.slot.Slot.TheVariants as slot
use Rattle.avro_schema.specs.AndThen.{◌>>=◌}
use Rattle.avro_reference.specs.Prefix.{number_at}
use Rattle.avro_reference.specs.Read.{push_one, boolean_at, is_int, int_at, long_at}

pub push_none : (old : List Slot) → push_one old None ≡ None
unfolding push_one
push_none old = refl

pub push_some : (old : List Slot) (x : Slot) (rest : List ℕ) → push_one old (Some (x, rest)) ≡ Some (old ++ x ∷ [], rest)
unfolding push_one
push_some old x rest = refl

pub boolean_none : boolean_at [] ≡ None
unfolding boolean_at
boolean_none = refl

pub boolean_some : (b : ℕ) (bytes : List ℕ) → boolean_at (b ∷ bytes) ≡ (if b == 0 then Some (slot.Boolean false, bytes) else (if b == 1 then Some (slot.Boolean true, bytes) else None))
unfolding boolean_at
boolean_some b bytes = refl

pub int_is : (bytes : List ℕ) → int_at bytes ≡ (number_at bytes >>= λ n. if is_int n.0 then Some (slot.Integer n.0, n.1) else None)
unfolding int_at
int_is bytes = refl

pub long_is : (bytes : List ℕ) → long_at bytes ≡ (number_at bytes >>= λ n. Some (slot.Integer n.0, n.1))
unfolding long_at
long_is bytes = refl

pub long_read : (bytes rest : List ℕ) (v : ℤ) → number_at bytes ≡ Some (v, rest) → long_at bytes ≡ Some (slot.Integer v, rest)
unfolding long_at
long_read bytes rest v e = rw e refl

pub long_missing : (bytes : List ℕ) → number_at bytes ≡ None → long_at bytes ≡ None
unfolding long_at
long_missing bytes e = rw e refl
