-- What a call that decodes a value gives, in terms of a reading function on the bytes ahead; out of memory says
-- nothing of the bytes. Contracts below the decoder's public calls alone cite this file.
use Rattle.std.specs.Prelude.{◌≡◌, ℕ, List, Option, Some, None, Result, Ok, Err}
use Rattle.std.specs.Str.{IsUtf8}
use Rattle.avro_flat.specs.declared.fault.DecodeFault.{DecodeFault}
use Rattle.avro_flat.specs.declared.fault.DecodeFault.TheVariants.{Bytes, Memory}

abbrev pub Fails : {Y : Type 0} → DecodeFault → Option Y → Type 0
Fails Bytes reading = reading ≡ None
Fails Memory reading = Unit {0}

abbrev pub Gives : {X Y : Type 0} → (X → Y) → Result X DecodeFault → Option Y → Type 0
Gives view (Ok x) reading = reading ≡ Some (view x)
Gives view (Err e) reading = Fails e reading

-- why a string is not pushed
abbrev pub IsStringFault : DecodeFault → List ℕ → Type 0
IsStringFault Bytes string = IsUtf8 string → ⊥
IsStringFault Memory string = Unit {0}

-- the answer is not out of memory
abbrev pub HasMemory : {X : Type 0} → Result X DecodeFault → Type 0
HasMemory (Ok x) = Unit {0}
HasMemory (Err Bytes) = Unit {0}
HasMemory (Err Memory) = ⊥
