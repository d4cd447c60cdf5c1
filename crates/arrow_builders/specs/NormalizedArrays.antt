-- What an array that was just made begins and ends with.
use Rattle.std.specs.Prelude.{length}
use Rattle.arrow_array.specs.declared.array.Array.{Array}
use Rattle.arrow_array.specs.declared.array.Array.TheVariants.{Utf8, LargeUtf8, Binary, LargeBinary, List as ListOf, LargeList}
use Rattle.arrow_flat.specs.Normalized.{AreNormalized}

-- The offsets begin at 0 and end with the bytes, or with the slots of the child: of the array itself, not of its children.
abbrev pub IsNormalized : Array → Type 0
IsNormalized (Utf8 a) = AreNormalized a.offsets (length a.bytes)
IsNormalized (LargeUtf8 a) = AreNormalized a.offsets (length a.bytes)
IsNormalized (Binary a) = AreNormalized a.offsets (length a.bytes)
IsNormalized (LargeBinary a) = AreNormalized a.offsets (length a.bytes)
IsNormalized (ListOf a) = AreNormalized a.offsets (length a.items)
IsNormalized (LargeList a) = AreNormalized a.offsets (length a.items)
IsNormalized _ = Unit {0}
