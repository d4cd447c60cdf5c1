-- The exit status of each error, the names of errors and reasons, and out of memory as the one error.
use Rattle.std.specs.Prelude.{◌≡◌, ℕ, List, Result, IfErr, codes}
use Rattle.arrow_core.specs.declared.error.Reason.{Reason}
use Rattle.arrow_core.specs.declared.error.Reason.TheVariants.{Lengths, FieldType, ArrayParts, NullUnderRequired, Interval, DuplicateName, DateRange, ZoneOffset, KeepNumber, NothingKept, NoField, NotCarried, Float, Codec, RootNotRecord, TypeReference, MapOrUnion, NoAvroType, NoJsonText, NoJsonReading, SerializerPair, NotAnArray, TextTimestamp, Rows, BlockBytes, Number, Json, SchemaText, Magic, Header, Container, Marker, Utf8Line, EmptyInput, OuterNotArray, FirstNotObject, NotAnObject, UnknownKey, MissingKey, NegativeSize, RecordDiffers, TestField, TestType, JsonRow, Unresolved, Utf8Value}
use Rattle.arrow_core.specs.declared.error.Error.{Error}
use Rattle.arrow_core.specs.declared.error.Error.TheVariants.{InvalidArgumentError, NotYetImplemented, ExternalFormat, OutOfSpec, Overflow, LimitExceeded, ReadFault, WriteFault, OutOfMemory}

-- the only error is out of memory
abbrev pub OnlyOutOfMemory : {A : Type 0} → Result A Error → Type 0
OnlyOutOfMemory result = IfErr result (λ e. e ≡ OutOfMemory)

-- the exit status of a program that ends with the error
abbrev pub status_of : Error → ℕ
status_of (InvalidArgumentError r) = 2
status_of (NotYetImplemented r) = 3
status_of (ExternalFormat r) = 4
status_of (OutOfSpec r) = 5
status_of Overflow = 6
status_of LimitExceeded = 7
status_of (ReadFault l) = 8
status_of WriteFault = 9
status_of OutOfMemory = 10

-- the name of the variant
abbrev pub error_name : Error → List ℕ
error_name (InvalidArgumentError r) = codes "InvalidArgumentError"
error_name (NotYetImplemented r) = codes "NotYetImplemented"
error_name (ExternalFormat r) = codes "ExternalFormat"
error_name (OutOfSpec r) = codes "OutOfSpec"
error_name Overflow = codes "Overflow"
error_name LimitExceeded = codes "LimitExceeded"
error_name (ReadFault l) = codes "ReadFault"
error_name WriteFault = codes "WriteFault"
error_name OutOfMemory = codes "OutOfMemory"

-- the name of the reason
abbrev pub reason_name : Reason → List ℕ
reason_name Lengths = codes "Lengths"
reason_name FieldType = codes "FieldType"
reason_name ArrayParts = codes "ArrayParts"
reason_name NullUnderRequired = codes "NullUnderRequired"
reason_name Interval = codes "Interval"
reason_name DuplicateName = codes "DuplicateName"
reason_name DateRange = codes "DateRange"
reason_name ZoneOffset = codes "ZoneOffset"
reason_name KeepNumber = codes "KeepNumber"
reason_name NothingKept = codes "NothingKept"
reason_name NoField = codes "NoField"
reason_name NotCarried = codes "NotCarried"
reason_name Float = codes "Float"
reason_name Codec = codes "Codec"
reason_name RootNotRecord = codes "RootNotRecord"
reason_name TypeReference = codes "TypeReference"
reason_name MapOrUnion = codes "MapOrUnion"
reason_name NoAvroType = codes "NoAvroType"
reason_name NoJsonText = codes "NoJsonText"
reason_name NoJsonReading = codes "NoJsonReading"
reason_name SerializerPair = codes "SerializerPair"
reason_name NotAnArray = codes "NotAnArray"
reason_name TextTimestamp = codes "TextTimestamp"
reason_name Rows = codes "Rows"
reason_name BlockBytes = codes "BlockBytes"
reason_name Number = codes "Number"
reason_name Json = codes "Json"
reason_name SchemaText = codes "SchemaText"
reason_name Magic = codes "Magic"
reason_name Header = codes "Header"
reason_name Container = codes "Container"
reason_name Marker = codes "Marker"
reason_name Utf8Line = codes "Utf8Line"
reason_name EmptyInput = codes "EmptyInput"
reason_name OuterNotArray = codes "OuterNotArray"
reason_name FirstNotObject = codes "FirstNotObject"
reason_name NotAnObject = codes "NotAnObject"
reason_name UnknownKey = codes "UnknownKey"
reason_name MissingKey = codes "MissingKey"
reason_name NegativeSize = codes "NegativeSize"
reason_name RecordDiffers = codes "RecordDiffers"
reason_name TestField = codes "TestField"
reason_name TestType = codes "TestType"
reason_name JsonRow = codes "JsonRow"
reason_name Unresolved = codes "Unresolved"
reason_name Utf8Value = codes "Utf8Value"
