-- What a test for null tells, and what is known of optional values one after another.
use Rattle.std.proofs.Common.{◌≡◌, true, Option, Some, None, refl}
use Rattle.std.proofs.lemmas.Bool.{false≢true}
use Rattle.std.proofs.lemmas.Option.{none-some}
use Rattle.avro_schema.specs.declared.schema.Schema.{Schema, Null}
use Rattle.avro_schema.specs.AndThen.{◌>>=◌}
use Rattle.avro_schema.specs.Encodes.{IsNull, is_null}

pub null_is : (s : Schema) → is_null s ≡ true → IsNull s
null_is Null e = tt
null_is _ e = absurd (false≢true e)

pub null_told : (s : Schema) → IsNull s → is_null s ≡ true
null_told Null h = refl
null_told _ h = absurd h

pub bind_some : {A B : Type 0} (o : Option A) (f : A → Option B) (y : B) → (o >>= f) ≡ Some y → (x : A) × (o ≡ Some x) × (f x ≡ Some y)
bind_some None f y e = absurd (none-some y e)
bind_some (Some x) f y e = (x, refl, e)
