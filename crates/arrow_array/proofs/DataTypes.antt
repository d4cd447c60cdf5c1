-- The data types of arrays of each kind.
use Rattle.std.proofs.Common.{◌≡◌, sym, ◌∙◌, ap, refl, arith, ℕ, ◌<◌, List, Option}
use Rattle.arrow_core.specs.declared.types.DataType.{DataType, FixedSizeBinary}
use Rattle.arrow_core.specs.declared.types.DataType.TheVariants as types
use Rattle.arrow_core.specs.declared.types.IntegerType.{IntegerType}
use Rattle.arrow_array.specs.Bits.{Packed}
use Rattle.arrow_array.specs.declared.array.Array.{Array}
use Rattle.arrow_array.specs.Dictionaries.{IsDictionaryOf}
use Rattle.arrow_array.specs.FixedLists.{FixedListFits}
use Rattle.arrow_array.specs.Kinds.{IsFixedListType, IsFixedBinaryType, IsStructType, key_type}
use Rattle.arrow_array.specs.Parts.{byte_width}
use Rattle.arrow_array.specs.Structs.{StructParts}
use Rattle.arrow_array.proofs.Records.{as_many}

pub fixed_binary_type : (t : DataType) → 0 < byte_width t → IsFixedBinaryType t
fixed_binary_type (FixedSizeBinary width) h = (refl, h)
fixed_binary_type _ h = absurd (omega (arith, h))

pub fixed_list_type : (t item : DataType) (n : ℕ) (v : Option Packed) → FixedListFits t item n v → IsFixedListType t
fixed_list_type t item n v h = (h.kind.0, h.kind.1, h.filled)

pub struct_type : (t : DataType) (children : List Array) (n : ℕ) (v : Option Packed) → StructParts t children n v → IsStructType t
struct_type t children n v h = (h.kind.0, h.kind.1, omega (arith, h.filled, as_many n h.kind.0 children h.kind.2))

pub key_is : (key : IntegerType) (t value : DataType) → IsDictionaryOf key t value → key_type t ≡ key
key_is key t value h = ap key_type h.1

pub dictionary_over : (key : IntegerType) (t value : DataType) → IsDictionaryOf key t value → IsDictionaryOf (key_type t) t value
dictionary_over key t value h = (h.0, h.1 ∙ ap (λ k. types.Dictionary k value h.0) (sym (key_is key t value h)))
