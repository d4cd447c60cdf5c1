-- What the reader of a file's header answers.
use Rattle.std.specs.Prelude.{◌≡◌, ℕ, ◌≤◌, List, length, Option, Some, None, ◌⊎◌}
use Rattle.std.specs.Io.KnownBytes.{Consumes}
use Rattle.arrow_core.specs.declared.error.Error.{Error}
use Rattle.arrow_core.specs.declared.error.Error.TheVariants.{NotYetImplemented, ExternalFormat, LimitExceeded, ReadFault, OutOfMemory}
use Rattle.arrow_core.specs.declared.error.Reason.TheVariants as reason
use Rattle.arrow_core.specs.declared.error.Reason.{Reason}
use Rattle.avro_container.specs.declared.parts.Stop.{Stop}
use Rattle.avro_container.specs.declared.parts.Stop.TheVariants as stop
use Rattle.avro_container.specs.Forms.{Form}
use Rattle.avro_container.specs.File.{header_parts, Entry, Header, schema_entry, codec_entry, IsPlain}
use Rattle.avro_container.specs.FileForms.{magic_form, after_magic, header}
use Rattle.avro_container.specs.Taking.{State, state, Passed, Stopped}

-- bytes of the form are wrong, or the source ended where they had begun
abbrev pub Broken : {A : Type 0} → Form A → State → State → Type 0
Broken F old new = Stopped F old new stop.Wrong ⊎ Stopped F old new stop.Ended

-- after the magic the header is wrong, or the source ended in it; or the whole header names no schema
pub record BrokenHeader (old new : State) : Type 0 where
  pub between : State
  pub first : (b : List ℕ) × Passed magic_form old between b
  pub rest : Broken after_magic between new ⊎ ((es : List Entry) × (m : List ℕ) × Passed after_magic between new (header_parts es m) × (schema_entry es ≡ None))

-- the whole header names another codec than `null`
pub record OtherCodec (old new : State) : Type 0 where
  pub entries : List Entry
  pub marker : List ℕ
  pub passed : Passed header old new (header_parts entries marker)
  pub schema : (text : List ℕ) × (schema_entry entries ≡ Some text)
  pub other : IsPlain (codec_entry entries) → ⊥

-- why there is no header, by the error that says so
abbrev pub NoHeader : State → State → Error → Type 0
NoHeader old new (ReadFault None) = Stopped header old new stop.Fault
NoHeader old new LimitExceeded = Stopped header old new stop.Limit
NoHeader old new (ExternalFormat reason.Magic) = Broken magic_form old new
NoHeader old new (ExternalFormat reason.Header) = BrokenHeader old new
NoHeader old new (NotYetImplemented reason.Codec) = OtherCodec old new
NoHeader old new OutOfMemory = Stopped header old new stop.Memory
NoHeader old new _ = ⊥

-- cited by a private contract alone: the error of a stop, where wrong bytes have this reason
abbrev pub error_of : Stop → Reason → Error
error_of stop.Ended r = ExternalFormat r
error_of stop.Wrong r = ExternalFormat r
error_of stop.UsedUp r = ExternalFormat r
error_of stop.Limit r = LimitExceeded
error_of stop.Fault r = ReadFault None
error_of stop.Memory r = OutOfMemory

-- what a source tells before a call and after it, and how many bytes the call may take
pub record Change : Type 0 where
  pub left : Option (List ℕ)
  pub faults : ℕ
  pub left_after : Option (List ℕ)
  pub faults_after : ℕ
  pub limit : ℕ

abbrev pub change : {S : Type 0} → (S → Option (List ℕ)) → (S → ℕ) → S → S → ℕ → Change
change left faults old new limit = record { left = left old; faults = faults old; left_after = left new; faults_after = faults new; limit = limit }

-- the bytes of a header were taken, so many, and nothing more; it names this schema text, and no
-- codec but `null`
pub record ReadsHeader (c : Change) (text marker : List ℕ) (count : ℕ) : Type 0 where
  pub entries : List Entry
  pub bytes : List ℕ
  pub consumed : Consumes c.left c.left_after bytes
  pub head : Header bytes (header_parts entries marker)
  pub count_is : count ≡ length bytes
  pub within : length bytes ≤ c.limit
  pub schema : schema_entry entries ≡ Some text
  pub codec : IsPlain (codec_entry entries)

-- no header was read, for the reason that the error says
abbrev pub HeaderFails : Change → Error → Type 0
HeaderFails c e = (limit : ℕ) × (size_left : Option ℕ) × NoHeader (state c.left c.faults c.limit None) (state c.left_after c.faults_after limit size_left) e
