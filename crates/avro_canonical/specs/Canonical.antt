-- The canonical form of a file's blocks: the same rows, under the record of their columns, each slot in its one
-- canonical encoding and each number in its shortest (Avro 1.11, "Binary Encoding" and "Object Container Files").
use Rattle.std.specs.Prelude.{◌≡◌, ℕ, ◌<◌, List, [], ◌∷◌, length, Bool, true, Option, Some, None, IsTrue, refl}
use Rattle.std.specs.List.{AllByRecursion}
use Rattle.std.specs.Coded.{Coded, code_by, coded×, coded_list, coded_ℕ}
use Rattle.arrow_core.specs.declared.error.Error.{Error}
use Rattle.arrow_core.specs.declared.error.Error.TheVariants.{NotYetImplemented, OutOfMemory}
use Rattle.arrow_core.specs.declared.error.Reason.TheVariants as reason
use Rattle.arrow_core.specs.declared.slot.Slot.{Slot}
use Rattle.arrow_core.specs.declared.types.Field.{Field}
use Rattle.avro_schema.specs.declared.schema.AvroField.{AvroField}
use Rattle.avro_schema.specs.contracts.schema.AvroField as the_avro_fields
use Rattle.avro_schema.specs.declared.schema.Record.{Record, out-Record}
use Rattle.avro_schema.specs.AndThen.{◌>>=◌}
use Rattle.avro_schema.specs.Carried.{CarriedList}
use Rattle.avro_schema.specs.Inferred.{inferred_columns}
use Rattle.avro_schema.specs.ValidBlock.{KeepNoFloat}
use Rattle.avro_container.specs.Canonical.{canonical_block}
use Rattle.avro_container.specs.File.{FileBlock, the_block}
use Rattle.avro_schema.specs.Projected.{Projected, projected, projected_code, HasTable}
use Rattle.avro_schema.specs.Refusals.{AreCarried, BlockRefused}
use Rattle.avro_encode.specs.Listed.{PairsFieldsOf}
use Rattle.avro_types.specs.Listed.{named_all}
use Rattle.avro_types.specs.Named.{named_root}
use Rattle.avro_types.specs.Schemas.{columns_fields, record_of}
use Rattle.avro_verbatim.specs.Alike.{AreAlike}
use Rattle.avro_write.specs.Laws.{all_kept, plain_table}

-- ---- the record

-- no field holds a float
abbrev pub HoldNoFloat : List AvroField → Type 0
HoldNoFloat avro_fields = KeepNoFloat avro_fields (all_kept avro_fields)

-- The rows of these Avro fields can be rewritten: there is at least one field, all are carried and hold no float, these
-- are their columns, and the columns have this record.
pub record CanBeRewritten (avro_fields : List AvroField) (columns : List Field) (target : Record) : Type 0 where
  pub carried : AreCarried avro_fields
  pub no_float : HoldNoFloat avro_fields
  pub inferred : inferred_columns avro_fields ≡ Some columns
  pub recorded : record_of true columns ≡ Some target

-- the rows of these Avro fields can be rewritten; these are their columns, and the target is the columns' record, which
-- has this name
pub record HasTarget (name : List ℕ) (avro_fields : List AvroField) (columns : List Field) (target : Record) : Type 0 where
  pub nameless : Record
  pub can : CanBeRewritten avro_fields columns nameless
  pub named : target ≡ named_root name nameless

-- no record has the columns: an enum's have a type that no Avro schema gives back
abbrev pub HasNoRecord : List AvroField → Type 0
HasNoRecord avro_fields = (columns : List Field) × (inferred_columns avro_fields ≡ Some columns) × (record_of true columns ≡ None)

-- why the rows of these fields can't be rewritten, in this order; out of memory may come at any time
abbrev pub CannotBeRewritten : List AvroField → Error → Type 0
CannotBeRewritten avro_fields (NotYetImplemented reason.NoField) = avro_fields ≡ []
CannotBeRewritten avro_fields (NotYetImplemented reason.NotCarried) = (0 < length avro_fields) × (CarriedList avro_fields → ⊥)
CannotBeRewritten avro_fields (NotYetImplemented reason.Float) = AreCarried avro_fields × (HoldNoFloat avro_fields → ⊥)
CannotBeRewritten avro_fields (NotYetImplemented reason.NoAvroType) = AreCarried avro_fields × HoldNoFloat avro_fields × HasNoRecord avro_fields
CannotBeRewritten avro_fields OutOfMemory = Unit {0}
CannotBeRewritten avro_fields _ = ⊥

-- ---- a block

-- what contracts see of a rewriter: what blocks are read by, the fields of the canonical record, and the sync marker
pub record Rewriting : Type 0 where
  pub decoder : Projected
  pub fields : List AvroField
  pub marker : List ℕ

abbrev pub rewriting_code : Coded Rewriting
rewriting_code = code_by (Projected × (List AvroField × List ℕ)) (coded× projected_code (coded× (coded_list the_avro_fields.the_row.coded) (coded_list coded_ℕ))) (λ w. (w.decoder, (w.fields, w.marker))) (λ q. record { decoder = q.0; fields = q.1.0; marker = q.1.1 }) (λ _. refl)

-- of blocks of the rows of these Avro fields, whose columns these are, into blocks of this record
abbrev pub rewriting : List AvroField → List Field → Record → List ℕ → Rewriting
rewriting avro_fields columns target marker = record { decoder = projected columns avro_fields (all_kept avro_fields); fields = (out-Record target).fields; marker = marker }

-- a table's canonical block, and no bytes where the table has no row
abbrev pub table_block : List ℕ → List AvroField → List (List Slot) → List ℕ
table_block marker fields [] = []
table_block marker fields (row ∷ table) = canonical_block marker (the_block (length (row ∷ table)) (plain_table fields (row ∷ table)))

-- each slot of the table has a canonical encoding under its field
abbrev pub HasEncodings : List AvroField → List (List Slot) → Type 0
HasEncodings fields = AllByRecursion (PairsFieldsOf fields)

-- the text is the canonical form of the block, that of the table of its rows
pub record RewritesBlock (w : Rewriting) (block : FileBlock) (text : List ℕ) : Type 0 where
  pub table : List (List Slot)
  pub has : HasTable w.decoder block.rows block.bytes table
  pub encoded : HasEncodings w.fields table
  pub is : text ≡ table_block w.marker w.fields table

-- why it has none: it is refused as a block alone is
abbrev pub BlockIsRefused : Rewriting → FileBlock → Error → Type 0
BlockIsRefused w block e = BlockRefused w.decoder.fields block.rows w.decoder.avro_fields w.decoder.projection block.bytes e

-- ---- cited by the rewriter's own definition alone

-- the fields of the record of columns, once its fixed types have names
abbrev pub target_fields : List Field → Option (List AvroField)
target_fields columns = (columns_fields true 0 columns >>= λ fields. Some (named_all 0 fields))

-- it reads all fields, and writes those of the record of their columns
pub record IsRewriting (w : Rewriting) : Type 0 where
  pub whole : w.decoder.projection ≡ all_kept w.decoder.avro_fields
  pub inferred : inferred_columns w.decoder.avro_fields ≡ Some w.decoder.fields
  pub target : target_fields w.decoder.fields ≡ Some w.fields

-- and where it may copy blocks, the fields that it reads are encoded as those that it writes are
pub record IsRewriter (may_copy : Bool) (w : Rewriting) : Type 0 where
  pub rewriting : IsRewriting w
  pub alike : IsTrue may_copy → AreAlike w.decoder.avro_fields w.fields
