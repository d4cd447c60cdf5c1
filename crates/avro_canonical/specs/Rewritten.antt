-- The canonical form of a file (Avro 1.11, "Object Container Files"), which files have one, and why a file isn't
-- rewritten. Each error has its one cause, and out of memory may come at any time.
use Rattle.std.specs.Prelude.{◌≡◌, ℕ, ◌-◌, ◌≤◌, List, [], ◌∷◌, length, sum_by, Option, None, ◌⊎◌}
use Rattle.std.specs.List.{AllByRecursion, AllZip}
use Rattle.std.specs.Io.KnownBytes.{Appends, Keeps, Consumes, IsAtEnd}
use Rattle.arrow_core.specs.declared.error.Error.{Error}
use Rattle.arrow_core.specs.declared.slot.Slot.{Slot}
use Rattle.arrow_core.specs.declared.types.Field.{Field}
use Rattle.avro_schema.specs.declared.schema.AvroField.{AvroField}
use Rattle.avro_schema.specs.declared.schema.Record.{Record, out-Record}
use Rattle.avro_container.specs.File.{FileBlock, the_block}
use Rattle.avro_container.specs.Taking.{state}
use Rattle.avro_container.specs.Changes.{Change, change_of, header_of}
use Rattle.avro_container.specs.Written.{StopsAtBlock, WithAllRows}
use Rattle.avro_file.specs.File.{AvroFile, canonical_file, metadata_bytes}
use Rattle.avro_file.specs.Metadata.{ReadsMetadata, MetadataFails, WriteFails}
use Rattle.avro_schema.specs.Projected.{projected, HasTable}
use Rattle.avro_types.specs.Named.{named_root}
use Rattle.avro_write.specs.Laws.{all_kept, plain_table}
use Rattle.avro_canonical.specs.Canonical.{BlockIsRefused, CanBeRewritten, CannotBeRewritten, HasEncodings, HasTarget, RewritesBlock, Rewriting, rewriting}

-- ---- a file

-- the canonical encodings of the tables that have a row, each as a block
abbrev pub table_blocks : List AvroField → List (List (List Slot)) → List FileBlock
table_blocks fields [] = []
table_blocks fields ([] ∷ tables) = table_blocks fields tables
table_blocks fields ((row ∷ table) ∷ tables) = the_block (length (row ∷ table)) (plain_table fields (row ∷ table)) ∷ table_blocks fields tables

-- what the record's blocks are rewritten by
abbrev pub rewriting_of : Record → List Field → Record → List ℕ → Rewriting
rewriting_of root = rewriting (out-Record root).fields

-- The bytes are a file whose rows can be rewritten: the tables are those of its blocks.
pub record HasCanonicalForm (bytes : List ℕ) : Type 0 where
  pub root : Record
  pub source_marker : List ℕ
  pub blocks : List FileBlock
  pub is_file : AvroFile bytes root source_marker blocks
  pub columns : List Field
  pub nameless : Record
  pub can : CanBeRewritten (out-Record root).fields columns nameless
  pub tables : List (List (List Slot))
  pub rows : AllZip (λ b. HasTable (projected columns (out-Record root).fields (all_kept (out-Record root).fields)) b.rows b.bytes) blocks tables

-- The bytes are a file of so many rows, and the text is the canonical file of the same rows, in the same cut into
-- blocks, those without rows left out, under the record of their columns, the given name and the given marker. Each
-- slot has a canonical encoding under its field.
pub record RewritesFile (name marker bytes text : List ℕ) (count : ℕ) : Type 0 where
  pub form : HasCanonicalForm bytes
  pub target : Record
  pub named : target ≡ named_root name form.nameless
  pub encoded : AllByRecursion (HasEncodings (out-Record target).fields) form.tables
  pub is : text ≡ canonical_file target marker (table_blocks (out-Record target).fields form.tables)
  pub counted : count ≡ sum_by (λ b. b.rows) form.blocks

-- ---- the whole rewriting

-- All bytes of the source, no more than the limit, are a file, and the sink got its canonical form. Of a source or a
-- sink whose bytes the contract knows, these are the bytes.
pub record Rewrites (name marker : List ℕ) (limit : ℕ) (source sink : Change) (count : ℕ) : Type 0 where
  pub bytes : List ℕ
  pub text : List ℕ
  pub taken : Consumes source.bytes source.bytes_after bytes
  pub whole : IsAtEnd source.bytes_after
  pub within : length bytes ≤ limit
  pub rewrites : RewritesFile name marker bytes text count
  pub written : Appends sink.bytes sink.bytes_after text

-- a header was read, and the rows of its record can't be rewritten
pub record HeaderNotRewritten (limit : ℕ) (source : Change) (e : Error) : Type 0 where
  pub root : Record
  pub marker : List ℕ
  pub count : ℕ
  pub reads : ReadsMetadata (header_of limit source source.bytes_after source.faults_after) root marker count
  pub why : CannotBeRewritten (out-Record root).fields e

-- a header was read, whose record can be rewritten, and the new header wasn't written
pub record HeaderNotWritten (name marker : List ℕ) (limit : ℕ) (source sink : Change) (e : Error) : Type 0 where
  pub root : Record
  pub source_marker : List ℕ
  pub count : ℕ
  pub reads : ReadsMetadata (header_of limit source source.bytes_after source.faults_after) root source_marker count
  pub columns : List Field
  pub target : Record
  pub has_target : HasTarget name (out-Record root).fields columns target
  pub fails : WriteFails sink.bytes sink.bytes_after sink.faults sink.faults_after (metadata_bytes target marker) e

-- The new header was written; of the blocks after the file's header whole ones were rewritten, and the next one was
-- not.
pub record BlockNotRewritten (name marker : List ℕ) (limit : ℕ) (source sink : Change) (e : Error) : Type 0 where
  pub root : Record
  pub source_marker : List ℕ
  pub count : ℕ
  pub left : Option (List ℕ)
  pub faults : ℕ
  pub never_falls : source.faults ≤ faults
  pub reads : ReadsMetadata (header_of limit source left faults) root source_marker count
  pub columns : List Field
  pub target : Record
  pub has_target : HasTarget name (out-Record root).fields columns target
  pub held : Option (List ℕ)
  pub sink_faults : ℕ
  pub sink_never_falls : sink.faults ≤ sink_faults
  pub header : Appends sink.bytes held (metadata_bytes target marker)
  pub limit_after : ℕ
  pub stops : StopsAtBlock (WithAllRows (RewritesBlock (rewriting_of root columns target marker))) (BlockIsRefused (rewriting_of root columns target marker)) source_marker
      (state left faults (limit - count) None) (state source.bytes_after source.faults_after limit_after None) (change_of held sink_faults sink.bytes_after sink.faults_after) e

-- why a rewriting stops; before the new header the sink got nothing
abbrev pub RewritingFails : List ℕ → List ℕ → ℕ → Change → Change → Error → Type 0
RewritingFails name marker limit source sink e =
    (Keeps sink.bytes sink.bytes_after
    × (MetadataFails (header_of limit source source.bytes_after source.faults_after) e ⊎ HeaderNotRewritten limit source e))
    ⊎ HeaderNotWritten name marker limit source sink e ⊎ BlockNotRewritten name marker limit source sink e
