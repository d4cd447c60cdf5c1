-- Of a source whose bytes the contract knows: metadata that stands there within the limit is read, and nothing else is answered.
use Rattle.std.proofs.Common.{◌≡◌, ℕ, ◌≤◌, inl, inr, List, ◌++◌, length, Some, None, refl, sym, ◌∙◌, ap, subst}
use Rattle.std.proofs.lemmas.List.{append_cancel_left}
use Rattle.std.specs.Io.KnownBytes.{Consumes}
use Rattle.arrow_base.specs.Outside.{RoseOrFull}
use Rattle.arrow_core.specs.declared.error.Error.{Error}
use Rattle.arrow_core.specs.declared.error.Error.TheVariants.{ExternalFormat, NotYetImplemented, LimitExceeded, OutOfMemory}
use Rattle.arrow_core.specs.declared.error.Reason.TheVariants as reason
use Rattle.avro_schema.specs.declared.schema.Schema as schema
use Rattle.avro_schema.specs.declared.schema.Record.{Record}
use Rattle.avro_file.specs.Reading.{SchemaTextRefused}
use Rattle.avro_file.specs.declared.fault.SchemaTextFault.{SchemaTextFault}
use Rattle.avro_file.specs.declared.fault.SchemaTextFault.TheVariants.{Form, Reference, Depth, Memory}
use Rattle.avro_file.proofs.Answered.{one_schema, only_memory}
use Rattle.avro_container.specs.File.{HeaderParts, header_parts, schema_entry}
use Rattle.avro_container.specs.ReadHeader.{Change, ReadsHeader, NoHeader}
use Rattle.avro_container.specs.Taking.{state}
use Rattle.avro_container.proofs.OneFile.{header_reads}
use Rattle.avro_container.proofs.Complete.{header_is_read}
use Rattle.avro_container.proofs.Reading.{consumed_some}
use Rattle.avro_file.specs.File.{StandsFor}
use Rattle.avro_file.specs.Laws.{IsMetadata}
use Rattle.avro_file.specs.Metadata.{ReadsMetadata, RootFails, IsRecord, MetadataFails}
use Rattle.avro_file.proofs.Roots.{one_root}

-- ---- the schema's text

module _ (text : List ℕ) (root : Record) (stands : StandsFor text root) where
  no_fault : (fault : SchemaTextFault) → (fault ≡ Memory → ⊥) → SchemaTextRefused text fault → ⊥
  no_fault fault isnt f = isnt (only_memory text (schema.Record root) stands.means fault f)

  root_is_read : (e : Error) → RootFails text e → e ≡ OutOfMemory
  root_is_read (ExternalFormat reason.SchemaText) f = absurd (no_fault Form (λ e. cc) f)
  root_is_read (NotYetImplemented reason.TypeReference) f = absurd (no_fault Reference (λ e. cc) f)
  root_is_read LimitExceeded f = absurd (no_fault Depth (λ e. cc) f)
  root_is_read (NotYetImplemented reason.RootNotRecord) f =
      absurd (f.differs (subst IsRecord (one_schema text (schema.Record root) f.other stands.means f.means) tt))
  root_is_read OutOfMemory f = refl
  root_is_read _ f = absurd f

-- ---- the header

some_is : (a b : List ℕ) → Some a ≡ Some b → a ≡ b
some_is a b e = cc

module _ (prefix rest marker : List ℕ) (root : Record) (c : Change) (tells : c.left ≡ Some (prefix ++ rest)) (m : IsMetadata prefix root marker) where
  -- the header that was read is the one that stands there
  module _ (text answered : List ℕ) (count : ℕ) (h : ReadsHeader c text answered count) where
    told : (back : List ℕ) × (c.left_after ≡ Some back) × (prefix ++ rest ≡ h.bytes ++ back)
    told = consumed_some (prefix ++ rest) h.bytes c.left_after (subst (λ z. Consumes z c.left_after h.bytes) tells h.consumed)

    same : (prefix ≡ h.bytes) × (header_parts m.entries marker ≡ header_parts h.entries answered)
    same = header_reads prefix h.bytes rest told.0 (header_parts m.entries marker) (header_parts h.entries answered) m.head h.head told.2

    same_text : m.text ≡ text
    same_text = some_is m.text text (sym m.schema ∙ ap (λ (p : HeaderParts). schema_entry p.entries) same.1 ∙ h.schema)

    stands_too : StandsFor text root
    stands_too = subst (λ t. StandsFor t root) same_text m.means

  pub metadata_is_right : (answered_marker : List ℕ) (answered : Record) (count : ℕ) → ReadsMetadata c answered answered_marker count → (answered ≡ root) × (answered_marker ≡ marker) × (count ≡ length prefix) × (c.left_after ≡ Some rest)
  metadata_is_right answered_marker answered count r =
      let t = told r.text answered_marker count r.header in
      let s = same r.text answered_marker count r.header in
      let backs : rest ≡ t.0 = append_cancel_left r.header.bytes rest t.0 (ap (λ (z : List ℕ). z ++ rest) (sym s.0) ∙ t.2) in (
        one_root r.text answered root r.means (stands_too r.text answered_marker count r.header),
        sym (ap (λ (p : HeaderParts). p.marker) s.1),
        r.header.count_is ∙ ap length (sym s.0),
        t.1 ∙ ap (λ (z : List ℕ). Some z) (sym backs),
      )

  module _ (within : length prefix ≤ c.limit) (steady : RoseOrFull c.faults c.faults_after → ⊥) where
    pub metadata_is_read : (e : Error) → MetadataFails c e → e ≡ OutOfMemory
    metadata_is_read e (inl (l, s, fails)) =
        header_is_read (prefix ++ rest) prefix rest m.entries marker m.text c.faults c.limit (state c.left_after c.faults_after l s) refl m.head m.schema m.codec within steady e (subst (λ z. NoHeader (state z c.faults c.limit None) (state c.left_after c.faults_after l s) e) tells fails)
    metadata_is_read e (inr n) = root_is_read n.text root (stands_too n.text n.marker n.count n.header) e n.fails
