-- Of a source whose bytes the contract knows: a file whose rows can be shown is converted, and no other error than that of its
-- fields is answered where they can't be shown.
use Rattle.std.proofs.Common.{◌≡◌, ◌≢◌, ◌∙◌, ◌⊎◌, inl, inr, ℕ, ◌+◌, ◌-◌, true, false, List, ◌++◌, length, All, Option, Some, None, sym, ap, subst, append_assoc, length-append, arith}
use Rattle.std.proofs.lemmas.Option.{same_Some}
use Rattle.std.specs.Io.KnownBytes.{Consumes}
use Rattle.arrow_core.specs.declared.error.Error.{Error}
use Rattle.arrow_core.specs.declared.error.Error.TheVariants.{OutOfMemory}
use Rattle.arrow_core.specs.declared.types.Field.{Field}
use Rattle.avro_schema.specs.declared.schema.Record.{Record, out-Record}
use Rattle.avro_schema.specs.Inferred.{inferred_columns}
use Rattle.avro_schema.proofs.RowLaws.{same_table}
use Rattle.avro_schema.specs.ValidBlock.{ValidBlock}
use Rattle.avro_container.specs.File.{FileBlock, HeaderParts, header_parts, schema_entry}
use Rattle.avro_container.specs.Laws.{told}
use Rattle.avro_container.specs.Taking.{State, state}
use Rattle.avro_container.proofs.OneFile.{header_reads}
use Rattle.avro_container.specs.Changes.{Change, header_of, Failed, IsTold, CameFromOutside}
use Rattle.avro_container.specs.Written.{WithAllRows}
use Rattle.avro_container.proofs.AllRows.{with_all_rows}
use Rattle.avro_container.proofs.Reading.{consumed_some, IsGood, stops_for_memory}
use Rattle.avro_container.proofs.Results.{memory_or_not}
use Rattle.avro_container.proofs.Steps.{rose_from}
use Rattle.avro_file.specs.File.{StandsFor, AvroFile}
use Rattle.avro_file.specs.Laws.{IsMetadata}
use Rattle.avro_file.proofs.Complete.{metadata_is_read, metadata_is_right}
use Rattle.avro_file.proofs.Roots.{one_root}
use Rattle.avro_schema.specs.Projected.{Projected, CanBeDecoded}
use Rattle.avro_decode.proofs.Valid.{valid_blocks}
use Rattle.avro_ndjson.specs.Laws.{CanBeConverted, IsHeaderDue, FilesAreConverted, FieldsAreRefused, RefusedIsNotConverted}
use Rattle.avro_ndjson.specs.Refusals.{CannotBeShown, BlockNotShown, ConversionFails}
use Rattle.avro_ndjson.specs.Shown.{projected_of, dates_in_range, ShowsBlock}
use Rattle.avro_ndjson.specs.Taken.{BlockIsWrong, StopsAtBlock}
use Rattle.avro_ndjson.proofs.Decoders.{can_be_decoded}
use Rattle.avro_ndjson.proofs.Reasons.{shown_or_not, one_reason}

-- ---- a block that can be shown

module _ (p : Projected) (can : CanBeDecoded p) where
  good_is_valid : (b : FileBlock) → IsGood (WithAllRows (ShowsBlock p)) b → ValidBlock b.rows b.bytes p.fields p.avro_fields p.projection
  good_is_valid b good =
      let shows = good.2.0 in
      let has = shows.is in
      record {
        columns = record { lengths = can.lengths; some = can.some; carried = can.carried; fits = can.fits; no_float = can.no_float; offsets = has.counted.0; symbols = has.symbols };
        table = shows.table;
        rows = has.rows;
      }

  -- a good block has nothing wrong
  pub good_block : (b : FileBlock) (e : Error) → IsGood (WithAllRows (ShowsBlock p)) b → BlockIsWrong p b e → e ≡ OutOfMemory
  good_block b e good (inl h) = valid_blocks p.fields b.rows p.avro_fields p.projection b.bytes e (good_is_valid b good) h
  good_block b e good (inr late) =
      let shows = good.2.0 in
      let same : shows.table ≡ late.1.0 = same_table b.rows p.avro_fields p.projection b.bytes shows.table late.1.0 shows.is.rows late.1.1.rows in
      absurd (true_false (sym shows.in_range ∙ ap (dates_in_range p) same ∙ late.1.2))
    where
      true_false : true ≡ false → ⊥
      true_false q = cc

-- ---- headers

-- the metadata that a file begins with
file_metadata : (bytes marker : List ℕ) (root : Record) (blocks : List FileBlock) (f : AvroFile bytes root marker blocks) → IsMetadata f.prefix root marker
file_metadata bytes marker root blocks f = record { entries = f.entries; head = f.head; text = f.text; schema = f.schema; means = f.means; codec = f.codec }

begins_with : (source : Change) (limit : ℕ) (bytes prefix rest : List ℕ) → IsTold source limit bytes → bytes ≡ prefix ++ rest → source.bytes ≡ Some (prefix ++ rest)
begins_with source limit bytes prefix rest tells e = tells.told ∙ ap (λ (z : List ℕ). Some z) e

pub files_end : FilesAreConverted
files_end keep bytes limit source sink e tells (text, count, can) = from
  where
    f : AvroFile bytes can.root can.marker can.blocks
    f = can.is_file

    m : IsMetadata f.prefix can.root can.marker
    m = file_metadata bytes can.marker can.root can.blocks f

    lengths : length bytes ≡ length f.prefix + length f.back
    lengths = ap length f.joined ∙ length-append f.prefix f.back

    at : source.bytes ≡ Some (f.prefix ++ f.back)
    at = begins_with source limit bytes f.prefix f.back tells f.joined

    p : Projected
    p = projected_of keep can.root can.fields

    good : All (IsGood (WithAllRows (ShowsBlock p))) can.blocks
    good = with_all_rows (ShowsBlock p) can.blocks can.texts can.shows

    stopped : BlockNotShown keep limit source sink e → CameFromOutside sink e
    stopped n =
        let r = metadata_is_right f.prefix f.back can.marker can.root (header_of limit source n.left n.faults) at m n.marker n.root n.count n.reads in
        let same : n.fields ≡ can.fields = same_Some n.fields can.fields (sym (subst (λ (root : Record). inferred_columns (out-Record root).fields ≡ Some n.fields) r.0 n.shown.columns) ∙ can.shown.columns) in
        let new : State = state source.bytes_after source.faults_after n.limit_after None in
        let stops : StopsAtBlock p can.marker (told f.back n.faults (limit - n.count)) new sink e =
        subst (λ (x : Record × List Field × List ℕ × Option (List ℕ)). StopsAtBlock (projected_of keep x.0 x.1) x.2 (state x.3 n.faults (limit - n.count) None) new sink e) (λ i. (r.0 i, same i, r.1 i, r.3 i)) n.stops in
        stops_for_memory (WithAllRows (ShowsBlock p)) (BlockIsWrong p) (IsGood (WithAllRows (ShowsBlock p))) (good_block p (can_be_decoded keep can.root can.fields can.shown)) can.marker f.back can.blocks n.faults (limit - n.count) new sink e f.blocks good (omega (arith, lengths, tells.within, r.2))
        (λ rose. tells.steady (rose_from source.faults n.faults source.faults_after n.never_falls rose)) stops

    from : ConversionFails keep limit source sink e → CameFromOutside sink e
    from (inl (keeps, inl fails)) =
        inl (metadata_is_read f.prefix f.back can.marker can.root (header_of limit source source.bytes_after source.faults_after) at m (omega (arith, lengths, tells.within)) tells.steady e fails)
    from (inl (keeps, inr n)) =
        let r = metadata_is_right f.prefix f.back can.marker can.root (header_of limit source source.bytes_after source.faults_after) at m n.marker n.root n.count n.reads in
        inl (shown_or_not keep (out-Record can.root).fields can.fields can.shown e (subst (λ (root : Record). CannotBeShown keep (out-Record root).fields e) r.0 n.why))
    from (inr n) = stopped n

-- where the sink doesn't fail
pub files_are_converted : (keep : Option (List ℕ)) (bytes : List ℕ) (limit : ℕ) (source sink : Change) (e : Error) → IsTold source limit bytes → CanBeConverted keep bytes → (Failed sink → ⊥) → ConversionFails keep limit source sink e → e ≡ OutOfMemory
files_are_converted keep bytes limit source sink e tells can open_sink h = from (files_end keep bytes limit source sink e tells can h)
  where
    from : CameFromOutside sink e → e ≡ OutOfMemory
    from (inl memory) = memory
    from (inr failed) = absurd (open_sink failed.1)

-- ---- fields that can't be shown

pub fields_are_refused : FieldsAreRefused
fields_are_refused keep bytes limit source sink e d tells due = from
  where
    at : source.bytes ≡ Some (due.header ++ due.rest)
    at = begins_with source limit bytes due.header due.rest tells due.joined

    lengths : length bytes ≡ length due.header + length due.rest
    lengths = ap length due.joined ∙ length-append due.header due.rest

    by_reason : CannotBeShown keep (out-Record due.root).fields d → (d ≡ OutOfMemory) ⊎ (d ≢ OutOfMemory) → (d ≡ e) ⊎ (d ≡ OutOfMemory)
    by_reason why (inl memory) = inr memory
    by_reason why (inr other) = inl (one_reason keep (out-Record due.root).fields d e why due.why other due.wrong)

    from : ConversionFails keep limit source sink d → (d ≡ e) ⊎ (d ≡ OutOfMemory)
    from (inl (keeps, inl fails)) =
        inr (metadata_is_read due.header due.rest due.marker due.root (header_of limit source source.bytes_after source.faults_after) at due.begins (omega (arith, lengths, tells.within)) tells.steady d fails)
    from (inl (keeps, inr n)) =
        let r = metadata_is_right due.header due.rest due.marker due.root (header_of limit source source.bytes_after source.faults_after) at due.begins n.marker n.root n.count n.reads in
        by_reason (subst (λ (root : Record). CannotBeShown keep (out-Record root).fields d) r.0 n.why) (memory_or_not d)
    from (inr n) =
        let r = metadata_is_right due.header due.rest due.marker due.root (header_of limit source n.left n.faults) at due.begins n.marker n.root n.count n.reads in
        absurd (due.wrong (shown_or_not keep (out-Record n.root).fields n.fields n.shown e (subst (λ (root : Record). CannotBeShown keep (out-Record root).fields e) (sym r.0) due.why)))

pub refused_is_not_converted : RefusedIsNotConverted
refused_is_not_converted keep bytes limit count source sink e tells due c = from (subst (λ (z : Option (List ℕ)). Consumes z source.bytes_after c.bytes) tells.told c.taken)
  where
    some_is : (a b : List ℕ) → Some a ≡ Some b → a ≡ b
    some_is a b q = cc

    from : Consumes (Some bytes) source.bytes_after c.bytes → ⊥
    from taken =
        let t = consumed_some bytes c.bytes source.bytes_after taken in
        let f = c.shows.is_file in
        let both : f.prefix ++ (f.back ++ t.0) ≡ due.header ++ due.rest = sym (append_assoc f.prefix f.back t.0) ∙ ap (λ (z : List ℕ). z ++ t.0) (sym f.joined) ∙ sym t.2 ∙ due.joined in
        let heads = header_reads f.prefix due.header (f.back ++ t.0) due.rest (header_parts f.entries c.shows.marker) (header_parts due.begins.entries due.marker) f.head due.begins.head both in
        let same_text : f.text ≡ due.begins.text = some_is f.text due.begins.text (sym f.schema ∙ ap (λ (h : HeaderParts). schema_entry h.entries) heads.1 ∙ due.begins.schema) in
        let same : c.shows.root ≡ due.root = one_root due.begins.text c.shows.root due.root (subst (λ t. StandsFor t c.shows.root) same_text f.means) due.begins.means in
        due.wrong (shown_or_not keep (out-Record c.shows.root).fields c.shows.fields c.shows.shown e (subst (λ (root : Record). CannotBeShown keep (out-Record root).fields e) (sym same) due.why))

-- ---- what is due

-- bytes begin with the metadata of one root at most
same_root : (bytes a b x y m n : List ℕ) (r q : Record) → bytes ≡ a ++ x → bytes ≡ b ++ y → IsMetadata a r m → IsMetadata b q n → r ≡ q
same_root bytes a b x y m n r q e d f g =
    let heads = header_reads a b x y (header_parts f.entries m) (header_parts g.entries n) f.head g.head (sym e ∙ d) in
    let same_text : f.text ≡ g.text = text_is f.text g.text (sym f.schema ∙ ap (λ (h : HeaderParts). schema_entry h.entries) heads.1 ∙ g.schema) in
    one_root g.text r q (subst (λ t. StandsFor t r) same_text f.means) g.means
  where
    text_is : (a b : List ℕ) → Some a ≡ Some b → a ≡ b
    text_is a b q = cc

pub due_once : (keep : Option (List ℕ)) (bytes : List ℕ) (e d : Error) → IsHeaderDue keep bytes e → IsHeaderDue keep bytes d → e ≡ d
due_once keep bytes e d h k =
    let same = same_root bytes k.header h.header k.rest h.rest k.marker h.marker k.root h.root k.joined h.joined k.begins h.begins in
    one_reason keep (out-Record h.root).fields e d h.why (subst (λ (root : Record). CannotBeShown keep (out-Record root).fields d) same k.why) h.wrong k.wrong

pub never_due : (keep : Option (List ℕ)) (bytes : List ℕ) (e : Error) → CanBeConverted keep bytes → IsHeaderDue keep bytes e → ⊥
never_due keep bytes e (text, count, can) h =
    let f = can.is_file in
    let same = same_root bytes h.header f.prefix h.rest f.back h.marker can.marker h.root can.root h.joined f.joined h.begins (file_metadata bytes can.marker can.root can.blocks f) in
    h.wrong (shown_or_not keep (out-Record can.root).fields can.fields can.shown e (subst (λ (root : Record). CannotBeShown keep (out-Record root).fields e) same h.why))
