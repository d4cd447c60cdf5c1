-- What a file means at most, which file stands for given blocks, and what an answer says of the bytes of a source
-- that tells them.
use Rattle.std.specs.Prelude.{◌≡◌, ◌≢◌, ℕ, ◌^◌, ◌<◌, ◌≤◌, ℤ, pos, negsuc, true, List, [], ◌∷◌, length, ◌++◌, Some, None}
use Rattle.arrow_base.specs.Outside.{RoseOrFull}
use Rattle.arrow_core.specs.declared.error.Error.{Error}
use Rattle.arrow_core.specs.declared.error.Error.TheVariants.{ExternalFormat, NotYetImplemented, LimitExceeded, OutOfMemory}
use Rattle.arrow_core.specs.declared.error.Reason.TheVariants as reason
use Rattle.avro_schema.specs.Parts.{Grammar}
use Rattle.avro_schema.specs.Number.{Number}
use Rattle.avro_container.specs.BlockReader.{NoBlock, AtEnd, Next}
use Rattle.avro_container.specs.File.{Entry, header_parts, HeaderParts, Header, magic, FileBlock, MarkedBlock, IsFileBlock, FileOf, schema_entry, codec_entry, IsPlain}
use Rattle.avro_container.specs.Canonical.{canonical_file}
use Rattle.avro_container.specs.Forms.{Form}
use Rattle.avro_container.specs.ReadHeader.{NoHeader}
use Rattle.avro_container.specs.Shortest.{shortest}
use Rattle.avro_container.specs.Taking.{State, state}

-- a text has one meaning at most
abbrev pub OneMeaning : {R : Type 0} → (List ℕ → R → Type 0) → Type 0
OneMeaning {R} stands = (text : List ℕ) (r q : R) → stands text r → stands text q → r ≡ q

-- bytes are a file of one root, one marker and one list of blocks at most
abbrev pub OneFile : {R : Type 0} → (List ℕ → R → Type 0) → Type 0
OneFile {R} stands =
    (bytes : List ℕ) (r q : R) (m n : List ℕ) (bs cs : List FileBlock) → FileOf stands bytes r m bs → FileOf stands bytes q n cs → (r ≡ q) × (m ≡ n) × (bs ≡ cs)

-- counts and lengths that a number of 64 bits can state
abbrev pub AllSmall : List FileBlock → Type 0
AllSmall [] = Unit {0}
AllSmall (b ∷ bs) = (b.rows < 2 ^ 63) × (length b.bytes < 2 ^ 63) × AllSmall bs

abbrev pub CanonicalIsFile : {R : Type 0} → (List ℕ → R → Type 0) → Type 0
CanonicalIsFile {R} stands =
    (text : List ℕ) (r : R) (m : List ℕ) (bs : List FileBlock) → stands text r → length text < 2 ^ 63 → length m ≡ 16 → AllSmall bs → FileOf stands (canonical_file text m bs) r m bs

-- instead of what a schema text means: the text itself
abbrev pub IsItself : List ℕ → List ℕ → Type 0
IsItself text root = root ≡ text

-- no two of these at once: some prefix of the bytes is whole; some prefix is wrong; they have only begun
pub record Settles {A : Type 0} (F : Form A) : Type 0 where
  pub whole_or_wrong : (a b x y : List ℕ) (v : A) → F.whole a v → F.wrong b → a ++ x ≡ b ++ y → ⊥
  pub whole_or_begun : (a x : List ℕ) (v : A) → F.whole a v → F.begun (a ++ x) → ⊥
  pub wrong_or_begun : (b x : List ℕ) → F.wrong b → F.begun (b ++ x) → ⊥

-- ---- of a source that tells these bytes, and that failed so often

abbrev pub told : List ℕ → ℕ → ℕ → State
told bytes faults limit = state (Some bytes) faults limit None

-- no prefix of the bytes is a value of P
abbrev pub NoPrefix : {A : Type 0} → Grammar A → List ℕ → Type 0
NoPrefix {A} P bytes = (prefix rest : List ℕ) (v : A) → bytes ≡ prefix ++ rest → P prefix v → ⊥

-- the bytes begin with a value of P of which R holds
pub record BeginsWith {A : Type 0} (P : Grammar A) (R : A → Type 0) (bytes : List ℕ) : Type 0 where
  pub prefix : List ℕ
  pub rest : List ℕ
  pub joined : bytes ≡ prefix ++ rest
  pub value : A
  pub first : P prefix value
  pub holds : R value

-- no prefix of the bytes that is within the limit is a value of P
abbrev pub NoPrefixWithin : {A : Type 0} → ℕ → Grammar A → List ℕ → Type 0
NoPrefixWithin {A} limit P bytes = (prefix rest : List ℕ) (v : A) → bytes ≡ prefix ++ rest → P prefix v → length prefix ≤ limit → ⊥

-- where the bytes begin with a block of the marker, within the limit, and no read fails, no error but out of
-- memory is answered
abbrev pub BlockIsRead : Type 0
BlockIsRead =
    (marker bytes prefix rest : List ℕ) (block : FileBlock) (faults limit : ℕ) (new : State) → bytes ≡ prefix ++ rest → IsFileBlock marker prefix block → length prefix ≤ limit → (RoseOrFull faults new.faults → ⊥) → (e : Error) → NoBlock marker (told bytes faults limit) new e → e ≡ OutOfMemory

-- false is answered only where there are no bytes
abbrev pub EndIsEnd : Type 0
EndIsEnd = (bytes : List ℕ) (faults limit : ℕ) (new : State) → AtEnd (told bytes faults limit) new → bytes ≡ []

-- and where there are no bytes and no read fails, no block is answered, and no error but out of memory
abbrev pub NoBytesAreEnd : Type 0
NoBytesAreEnd =
    (marker : List ℕ) (faults limit : ℕ) (new : State) → (RoseOrFull faults new.faults → ⊥) → ((rows : ℕ) (block : List ℕ) → Next marker (told [] faults limit) new rows block true → ⊥) × ((e : Error) → NoBlock marker (told [] faults limit) new e → e ≡ OutOfMemory)

-- `Container` is answered only where the bytes begin with no block, of whatever marker, and are some
abbrev pub ContainerCause : Type 0
ContainerCause =
    (marker bytes : List ℕ) (faults limit : ℕ) (new : State) → NoBlock marker (told bytes faults limit) new (ExternalFormat reason.Container) → NoPrefix MarkedBlock bytes × (bytes ≢ [])

-- `Marker` is answered only where they begin with a whole block of another marker, and with none of this one
abbrev pub MarkerCause : Type 0
MarkerCause =
    (marker bytes : List ℕ) (faults limit : ℕ) (new : State) → NoBlock marker (told bytes faults limit) new (ExternalFormat reason.Marker) → BeginsWith MarkedBlock (λ b. b.1 ≢ marker) bytes × NoPrefix (IsFileBlock marker) bytes

-- `LimitExceeded` is answered only where they begin with no block within the limit
abbrev pub BlockLimitCause : Type 0
BlockLimitCause =
    (marker bytes : List ℕ) (faults limit : ℕ) (new : State) → NoBlock marker (told bytes faults limit) new LimitExceeded → NoPrefixWithin limit MarkedBlock bytes

-- where the bytes begin with a header that names a schema and no codec but `null`, within the limit, and no read
-- fails, no error but out of memory is answered
abbrev pub HeaderIsRead : Type 0
HeaderIsRead =
    (bytes prefix rest : List ℕ) (entries : List Entry) (marker text : List ℕ) (faults limit : ℕ) (new : State) → bytes ≡ prefix ++ rest → Header prefix (header_parts entries marker) → schema_entry entries ≡ Some text → IsPlain (codec_entry entries) → length prefix ≤ limit → (RoseOrFull faults new.faults → ⊥) → (e : Error) → NoHeader (told bytes faults limit) new e → e ≡ OutOfMemory

-- `Magic` is answered only where the first four bytes are missing or others
abbrev pub MagicCause : Type 0
MagicCause =
    (bytes : List ℕ) (faults limit : ℕ) (new : State) → NoHeader (told bytes faults limit) new (ExternalFormat reason.Magic) → (rest : List ℕ) → bytes ≡ magic ++ rest → ⊥

-- no prefix of the bytes is a header that names a schema
abbrev pub NamesNoSchema : List ℕ → Type 0
NamesNoSchema bytes =
    (prefix rest : List ℕ) (entries : List Entry) (marker text : List ℕ) → bytes ≡ prefix ++ rest → Header prefix (header_parts entries marker) → schema_entry entries ≡ Some text → ⊥

-- `Header` is answered only after the magic, and where they begin with no header that names a schema
abbrev pub HeaderCause : Type 0
HeaderCause =
    (bytes : List ℕ) (faults limit : ℕ) (new : State) → NoHeader (told bytes faults limit) new (ExternalFormat reason.Header) → ((rest : List ℕ) × (bytes ≡ magic ++ rest)) × NamesNoSchema bytes

-- the header names a schema, and a codec that isn't `null`
abbrev pub NamesOtherCodec : HeaderParts → Type 0
NamesOtherCodec h = ((text : List ℕ) × (schema_entry h.entries ≡ Some text)) × (IsPlain (codec_entry h.entries) → ⊥)

-- `Codec` is answered only where they begin with a whole header whose codec is neither missing nor `null`
abbrev pub CodecCause : Type 0
CodecCause = (bytes : List ℕ) (faults limit : ℕ) (new : State) → NoHeader (told bytes faults limit) new (NotYetImplemented reason.Codec) → BeginsWith Header NamesOtherCodec bytes

-- `LimitExceeded` is answered only where they begin with no header within the limit
abbrev pub HeaderLimitCause : Type 0
HeaderLimitCause = (bytes : List ℕ) (faults limit : ℕ) (new : State) → NoHeader (told bytes faults limit) new LimitExceeded → NoPrefixWithin limit Header bytes

-- ---- numbers

-- an integer of 64 bits, of two's complement: negsuc n is -(n + 1)
abbrev pub Has64Bits : ℤ → Type 0
Has64Bits (pos n) = n < 2 ^ 63
Has64Bits (negsuc n) = n < 2 ^ 63

-- the shortest encoding of an integer of 64 bits is one of its encodings, and none is shorter
abbrev pub ShortestIsShortest : Type 0
ShortestIsShortest =
    (v : ℤ) → Has64Bits v → Number (shortest v) v × ((bytes : List ℕ) → Number bytes v → length (shortest v) ≤ length bytes)
