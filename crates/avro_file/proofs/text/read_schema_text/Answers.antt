-- The JSON text has one value.
use Rattle.std.proofs.Common.{List, ℕ, Result, Ok, Err, ap, ◌∙◌, IfOk, IfErr}
use Rattle.json_tree.specs.Tree.{Json}
use Rattle.json_tree.specs.Meaning.{IsJson, HoldsTooMany}
use Rattle.json_tree.proofs.TextLaws.{one_value}
use Rattle.avro_schema.specs.declared.schema.Schema.{Schema}
use Rattle.avro_file.specs.declared.fault.SchemaTextFault.{SchemaTextFault}
use Rattle.avro_file.specs.declared.fault.SchemaTextFault.TheVariants.{Form, Reference, Depth, Memory}
use Rattle.avro_file.specs.Gives.{Gives}
use Rattle.avro_file.specs.Reading.{schema_of, IsSchemaText, SchemaTextRefused}
use Rattle.avro_file.proofs.text.read_schema_text.Goals as goal

is_text : (bytes : List ℕ) (value : Json) (r : Result Schema SchemaTextFault) → IsJson value bytes → Gives r (schema_of value) → IfOk r (λ schema. IsSchemaText bytes schema)
is_text bytes value (Ok s) is h = (value, is, h)
is_text bytes value (Err e) is h = tt

refused : (bytes : List ℕ) (value : Json) (r : Result Schema SchemaTextFault) → IsJson value bytes → (HoldsTooMany bytes → ⊥) → Gives r (schema_of value) → IfErr r (λ fault. SchemaTextRefused bytes fault)
refused bytes value (Ok s) is shallow h = tt
refused bytes value (Err Form) is shallow h =
    (shallow, λ other so. ap schema_of (one_value bytes other value (so.0, (128, so.1)) (is.0, (128, is.1))) ∙ h)
refused bytes value (Err Reference) is shallow h = (value, is, h)
refused bytes value (Err Depth) is shallow h = absurd h
refused bytes value (Err Memory) is shallow h = tt

pub returns-in-Ok-clause-ok : goal.returns-in-Ok-clause-ok
returns-in-Ok-clause-ok c = is_text c.args.bytes.now c.in-Ok.value c.read_value.result c.in-Ok.ensures.value c.read_value.ensures

pub returns-in-Ok-clause-err : goal.returns-in-Ok-clause-err
returns-in-Ok-clause-err c = refused c.args.bytes.now c.in-Ok.value c.read_value.result c.in-Ok.ensures.value c.in-Ok.ensures.shallow c.read_value.ensures

pub returns-in-Err-Text-clause-err : goal.returns-in-Err-Text-clause-err
returns-in-Err-Text-clause-err c =
    (c.in-Err-Text.ensures.not_deep (ap Err c.in-Err-Text.field-0-is), λ value is. absurd (c.in-Err-Text.ensures.text (ap Err c.in-Err-Text.field-0-is) value (is.0, (128, is.1))))
