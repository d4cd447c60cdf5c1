-- A text that stands for a schema stands for no other, and is refused for out of memory alone.
use Rattle.std.proofs.Common.{◌≡◌, ℕ, List, sym, ap, ◌∙◌, refl, subst}
use Rattle.json_tree.specs.Meaning.{IsJson}
use Rattle.json_tree.proofs.TextLaws.{one_value}
use Rattle.avro_schema.specs.declared.schema.Schema.{Schema}
use Rattle.avro_file.specs.Outcome.{wrong, reference, found}
use Rattle.avro_file.specs.Reading.{IsSchemaText, SchemaTextRefused, schema_of}
use Rattle.avro_file.specs.declared.fault.SchemaTextFault.{SchemaTextFault}
use Rattle.avro_file.specs.declared.fault.SchemaTextFault.TheVariants.{Form, Reference, Depth, Memory}

found_same : (one other : Schema) → found one ≡ found other → one ≡ other
found_same one other e = cc

wrong_found : (s : Schema) → wrong ≡ found s → ⊥
wrong_found s e = cc

reference_found : (s : Schema) → reference ≡ found s → ⊥
reference_found s e = cc

pub one_schema : (bytes : List ℕ) (one other : Schema) → IsSchemaText bytes one → IsSchemaText bytes other → one ≡ other
one_schema bytes one other h k =
    found_same one other (sym h.2 ∙ ap schema_of (one_value bytes h.0 k.0 (h.1.0, (128, h.1.1)) (k.1.0, (128, k.1.1))) ∙ k.2)

pub only_memory : (bytes : List ℕ) (schema : Schema) → IsSchemaText bytes schema → (fault : SchemaTextFault) → SchemaTextRefused bytes fault → fault ≡ Memory
only_memory bytes s h Form f = absurd (wrong_found s (sym (f.1 h.0 h.1) ∙ h.2))
only_memory bytes s h Reference f =
    absurd (reference_found s (sym f.2 ∙ ap schema_of (one_value bytes f.0 h.0 (f.1.0, (128, f.1.1)) (h.1.0, (128, h.1.1))) ∙ h.2))
only_memory bytes s h Depth f = absurd (f.4 f.1 h.0 (subst (λ b. IsJson h.0 b) f.2 h.1))
only_memory bytes s h Memory f = refl
