-- What the program says of a command that it didn't carry out.
use Rattle.std.specs.Prelude.{ℕ, ◌⊎◌, List, [], ◌++◌, codes, Some, decimal}
use Rattle.std.specs.Io.KnownBytes.{Appends}
use Rattle.arrow_base.specs.Outside.{AppendsPrefix}
use Rattle.arrow_core.specs.declared.error.Error.{Error}
use Rattle.arrow_core.specs.declared.error.Error.TheVariants.{InvalidArgumentError, NotYetImplemented, ExternalFormat, OutOfSpec, ReadFault}
use Rattle.arrow_core.specs.Errors.{error_name, reason_name}
use Rattle.avro_container.specs.Changes.{Change, Failed}

-- of words that are no command
abbrev pub usage_note : List ℕ
usage_note = codes "avrocat: usage\n"

-- the program's name, the error's name, a mark and a detail, and a line feed
abbrev pub note_line : List ℕ → List ℕ → List ℕ → List ℕ
note_line name mark detail = (codes "avrocat: " ++ name) ++ ((mark ++ detail) ++ codes "\n")

-- of an error: its name, then its reason where it has one, or the line where it has one
abbrev pub error_note : Error → List ℕ
error_note (InvalidArgumentError reason) = note_line (codes "InvalidArgumentError") (codes ": ") (reason_name reason)
error_note (NotYetImplemented reason) = note_line (codes "NotYetImplemented") (codes ": ") (reason_name reason)
error_note (ExternalFormat reason) = note_line (codes "ExternalFormat") (codes ": ") (reason_name reason)
error_note (OutOfSpec reason) = note_line (codes "OutOfSpec") (codes ": ") (reason_name reason)
error_note (ReadFault (Some line)) = note_line (codes "ReadFault") (codes ": line ") (decimal line)
error_note error = note_line (error_name error) [] []

-- the text was written, or where a write failed, a prefix of it
abbrev pub Notes : Change → List ℕ → Type 0
Notes note text = Appends note.bytes note.bytes_after text ⊎ (AppendsPrefix note.bytes note.bytes_after text × Failed note)
