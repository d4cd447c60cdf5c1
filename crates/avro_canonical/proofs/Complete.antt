-- Of a source whose bytes the contract knows: a file that has a canonical form is rewritten, and no other error than that of its
-- fields is answered where they can't be rewritten.
use Rattle.std.proofs.Common.{◌≡◌, ◌≢◌, ◌∙◌, ◌⊎◌, inl, inr, ℕ, zero, suc, ◌+◌, ◌-◌, ◌≤◌, List, [], ◌∷◌, ◌++◌, length, All, Option, Some, None, refl, sym, ap, subst, length-append, arith}
use Rattle.std.proofs.lemmas.List.{append-nil}
use Rattle.std.proofs.lemmas.Option.{same_Some}
use Rattle.std.specs.List.{AllZip}
use Rattle.std.specs.Io.KnownBytes.{Consumes, IsAtEnd}
use Rattle.arrow_core.specs.declared.error.Error.{Error}
use Rattle.arrow_core.specs.declared.error.Error.TheVariants.{WriteFault, OutOfMemory}
use Rattle.arrow_core.specs.declared.slot.Slot.{Slot}
use Rattle.arrow_core.specs.declared.types.Field.{Field}
use Rattle.avro_schema.specs.declared.schema.Record.{Record, out-Record}
use Rattle.avro_schema.specs.Inferred.{inferred_columns}
use Rattle.avro_schema.specs.ValidBlock.{ValidBlock}
use Rattle.avro_container.specs.File.{FileBlock, HeaderParts, header_parts, schema_entry}
use Rattle.avro_container.specs.Laws.{told}
use Rattle.avro_container.specs.Taking.{State, state}
use Rattle.avro_container.proofs.OneFile.{header_reads}
use Rattle.avro_container.specs.Changes.{Change, change_of, Failed, header_of, IsTold, CameFromOutside}
use Rattle.avro_container.specs.Written.{StopsAtBlock, WithAllRows}
use Rattle.avro_container.proofs.Reading.{consumed_some, stops_for_memory}
use Rattle.avro_container.proofs.Results.{memory_or_not}
use Rattle.avro_container.proofs.Steps.{rose_from}
use Rattle.avro_file.specs.File.{StandsFor, AvroFile}
use Rattle.avro_file.specs.Laws.{IsMetadata}
use Rattle.avro_file.specs.Metadata.{WriteFails}
use Rattle.avro_file.proofs.Complete.{metadata_is_read, metadata_is_right}
use Rattle.avro_file.proofs.Roots.{one_root}
use Rattle.avro_schema.specs.Projected.{CanBeDecoded, Projected, projected, HasTable}
use Rattle.avro_schema.specs.Refusals.{BlockRefused}
use Rattle.avro_decode.proofs.Valid.{valid_blocks}
use Rattle.avro_write.specs.Laws.{all_kept}
use Rattle.avro_canonical.specs.Answers.{IsHeaderDue}
use Rattle.avro_canonical.specs.Canonical.{BlockIsRefused, CanBeRewritten, CannotBeRewritten, RewritesBlock, Rewriting}
use Rattle.avro_canonical.specs.Rewritten.{HasCanonicalForm, BlockNotRewritten, Rewrites, RewritingFails, rewriting_of}
use Rattle.avro_canonical.proofs.Making.{can_be_decoded}
use Rattle.avro_canonical.proofs.Reasons.{rewritten_or_not, one_reason}

-- ---- a block that has a canonical form

abbrev HasRows : Projected → FileBlock → Type 0
HasRows p b = (table : List (List Slot)) × HasTable p b.rows b.bytes table

module _ (p : Projected) (can : CanBeDecoded p) where
  rows_are_valid : (b : FileBlock) (table : List (List Slot)) → HasTable p b.rows b.bytes table → ValidBlock b.rows b.bytes p.fields p.avro_fields p.projection
  rows_are_valid b table has = record {
    columns = record { lengths = can.lengths; some = can.some; carried = can.carried; fits = can.fits; no_float = can.no_float; offsets = has.counted.0; symbols = has.symbols };
    table = table;
    rows = has.rows;
  }

  -- such a block has nothing wrong
  good_block : (b : FileBlock) (e : Error) → HasRows p b → BlockRefused p.fields b.rows p.avro_fields p.projection b.bytes e → e ≡ OutOfMemory
  good_block b e good h = valid_blocks p.fields b.rows p.avro_fields p.projection b.bytes e (rows_are_valid b good.0 good.1) h

all_have : (p : Projected) (blocks : List FileBlock) (tables : List (List (List Slot))) → AllZip (λ (b : FileBlock). HasTable p b.rows b.bytes) blocks tables → All (HasRows p) blocks
all_have p [] tables h k d lt = absurd (omega (arith, lt))
all_have p (b ∷ blocks) [] h k d lt = absurd h
all_have p (b ∷ blocks) (t ∷ tables) h zero d lt = (t, h.0)
all_have p (b ∷ blocks) (t ∷ tables) h (suc k) d lt = all_have p blocks tables h.1 k d (omega (arith, lt))

-- ---- headers

-- the metadata that a file begins with
file_metadata : (bytes marker : List ℕ) (root : Record) (blocks : List FileBlock) (f : AvroFile bytes root marker blocks) → IsMetadata f.prefix root marker
file_metadata bytes marker root blocks f = record { entries = f.entries; head = f.head; text = f.text; schema = f.schema; means = f.means; codec = f.codec }

begins_with : (source : Change) (limit : ℕ) (bytes prefix rest : List ℕ) → IsTold source limit bytes → bytes ≡ prefix ++ rest → source.bytes ≡ Some (prefix ++ rest)
begins_with source limit bytes prefix rest tells e = tells.told ∙ ap (λ (z : List ℕ). Some z) e

-- a record has one list of columns, and its blocks are read in one way
one_columns : (root also : Record) (columns others : List Field) (nameless other : Record) → also ≡ root → CanBeRewritten (out-Record root).fields columns nameless → CanBeRewritten (out-Record also).fields others other → others ≡ columns
one_columns root also columns others nameless other same h k =
    let inferred : inferred_columns (out-Record root).fields ≡ Some others = subst (λ (r : Record). inferred_columns (out-Record r).fields ≡ Some others) same k.inferred in
    same_Some others columns (sym inferred ∙ h.inferred)

-- a new header fails for memory or the sink alone
header_fails : (held held_after : Option (List ℕ)) (faults faults_after : ℕ) (bytes : List ℕ) (e : Error) → WriteFails held held_after faults faults_after bytes e → CameFromOutside (change_of held faults held_after faults_after) e
header_fails held held_after faults faults_after bytes WriteFault h = inr (refl, h.1)
header_fails held held_after faults faults_after bytes OutOfMemory h = inl refl
header_fails held held_after faults faults_after bytes _ h = absurd h

from_outside : (held : Option (List ℕ)) (faults : ℕ) (sink : Change) (e : Error) → sink.faults ≤ faults → CameFromOutside (change_of held faults sink.bytes_after sink.faults_after) e → CameFromOutside sink e
from_outside held faults sink e le (inl memory) = inl memory
from_outside held faults sink e le (inr h) = inr (h.0, rose_from sink.faults faults sink.faults_after le h.1)

-- bytes begin with the metadata of one root at most
same_root : (bytes a b x y m n : List ℕ) (r q : Record) → bytes ≡ a ++ x → bytes ≡ b ++ y → IsMetadata a r m → IsMetadata b q n → r ≡ q
same_root bytes a b x y m n r q e d f g =
    let heads = header_reads a b x y (header_parts f.entries m) (header_parts g.entries n) f.head g.head (sym e ∙ d) in
    let same_text : f.text ≡ g.text = text_is f.text g.text (sym f.schema ∙ ap (λ (h : HeaderParts). schema_entry h.entries) heads.1 ∙ g.schema) in
    one_root g.text r q (subst (λ t. StandsFor t r) same_text f.means) g.means
  where
    text_is : (a b : List ℕ) → Some a ≡ Some b → a ≡ b
    text_is a b q = cc

-- what was taken whole is all that was told
all_taken : (all taken : List ℕ) (left : Option (List ℕ)) → Consumes (Some all) left taken → IsAtEnd left → taken ≡ all
all_taken all taken left c end =
    let t = consumed_some all taken left c in
    let none : t.0 ≡ [] = subst IsAtEnd t.1 end in
    sym (append-nil taken) ∙ ap (λ (z : List ℕ). taken ++ z) (sym none) ∙ sym t.2

-- where the rows can be rewritten, out of memory alone is due
due_or_not : (root also : Record) (columns : List Field) (nameless : Record) (e : Error) → also ≡ root → CanBeRewritten (out-Record also).fields columns nameless → CannotBeRewritten (out-Record root).fields e → e ≡ OutOfMemory
due_or_not root also columns nameless e same can why =
    rewritten_or_not (out-Record also).fields columns nameless can e (subst (λ (r : Record). CannotBeRewritten (out-Record r).fields e) (sym same) why)

pub never_due : (bytes : List ℕ) (e : Error) → HasCanonicalForm bytes → IsHeaderDue bytes e → ⊥
never_due bytes e form h =
    let f = form.is_file in
    let same = same_root bytes h.header f.prefix h.rest f.back h.marker form.source_marker h.root form.root h.joined f.joined h.begins (file_metadata bytes form.source_marker form.root form.blocks f) in
    h.wrong (due_or_not h.root form.root form.columns form.nameless e (sym same) form.can h.why)

-- ---- files

-- what the blocks of a file are read by
abbrev decoder_of : Record → List Field → Projected
decoder_of root columns = projected columns (out-Record root).fields (all_kept (out-Record root).fields)

module _ (name marker : List ℕ) where
  pub files_are_rewritten : (bytes : List ℕ) (limit : ℕ) (source sink : Change) (e : Error) → IsTold source limit bytes → HasCanonicalForm bytes → RewritingFails name marker limit source sink e → CameFromOutside sink e
  files_are_rewritten bytes limit source sink e tells form = from
    where
      f : AvroFile bytes form.root form.source_marker form.blocks
      f = form.is_file

      m : IsMetadata f.prefix form.root form.source_marker
      m = file_metadata bytes form.source_marker form.root form.blocks f

      lengths : length bytes ≡ length f.prefix + length f.back
      lengths = ap length f.joined ∙ length-append f.prefix f.back

      at : source.bytes ≡ Some (f.prefix ++ f.back)
      at = begins_with source limit bytes f.prefix f.back tells f.joined

      p : Projected
      p = decoder_of form.root form.columns

      possible : CanBeDecoded p
      possible = can_be_decoded (out-Record form.root).fields form.columns form.nameless form.can

      stopped : BlockNotRewritten name marker limit source sink e → CameFromOutside sink e
      stopped n =
          let r = metadata_is_right f.prefix f.back form.source_marker form.root (header_of limit source n.left n.faults) at m n.source_marker n.root n.count n.reads in
          let same = one_columns form.root n.root form.columns n.columns form.nameless n.has_target.nameless r.0 form.can n.has_target.can in
          let new : State = state source.bytes_after source.faults_after n.limit_after None in
          let after : Change = change_of n.held n.sink_faults sink.bytes_after sink.faults_after in
          let w : Rewriting = rewriting_of form.root form.columns n.target marker in
          let stops : StopsAtBlock (WithAllRows (RewritesBlock w)) (BlockIsRefused w) form.source_marker (told f.back n.faults (limit - n.count)) new after e =
          subst (λ (x : Rewriting × List ℕ × Option (List ℕ)). StopsAtBlock (WithAllRows (RewritesBlock x.0)) (BlockIsRefused x.0) x.1 (state x.2 n.faults (limit - n.count) None) new after e) (λ i. (rewriting_of (r.0 i) (same i) n.target marker, r.1 i, r.3 i)) n.stops in
          from_outside n.held n.sink_faults sink e n.sink_never_falls
          (stops_for_memory (WithAllRows (RewritesBlock w)) (BlockIsRefused w) (HasRows p) (good_block p possible) form.source_marker f.back form.blocks n.faults (limit - n.count) new after e f.blocks (all_have p form.blocks form.tables form.rows) (omega (arith, lengths, tells.within, r.2))
          (λ rose. tells.steady (rose_from source.faults n.faults source.faults_after n.never_falls rose)) stops)

      from : RewritingFails name marker limit source sink e → CameFromOutside sink e
      from (inl (keeps, inl fails)) =
          inl (metadata_is_read f.prefix f.back form.source_marker form.root (header_of limit source source.bytes_after source.faults_after) at m (omega (arith, lengths, tells.within)) tells.steady e fails)
      from (inl (keeps, inr n)) =
          let r = metadata_is_right f.prefix f.back form.source_marker form.root (header_of limit source source.bytes_after source.faults_after) at m n.marker n.root n.count n.reads in
          inl (rewritten_or_not (out-Record form.root).fields form.columns form.nameless form.can e (subst (λ (root : Record). CannotBeRewritten (out-Record root).fields e) r.0 n.why))
      from (inr (inl n)) = header_fails sink.bytes sink.bytes_after sink.faults sink.faults_after _ e n.fails
      from (inr (inr n)) = stopped n

  pub fields_are_refused : (bytes : List ℕ) (limit : ℕ) (source sink : Change) (e d : Error) → IsTold source limit bytes → IsHeaderDue bytes e → RewritingFails name marker limit source sink d → (d ≡ e) ⊎ (d ≡ OutOfMemory)
  fields_are_refused bytes limit source sink e d tells due = from
    where
      at : source.bytes ≡ Some (due.header ++ due.rest)
      at = begins_with source limit bytes due.header due.rest tells due.joined

      lengths : length bytes ≡ length due.header + length due.rest
      lengths = ap length due.joined ∙ length-append due.header due.rest

      by_reason : CannotBeRewritten (out-Record due.root).fields d → (d ≡ OutOfMemory) ⊎ (d ≢ OutOfMemory) → (d ≡ e) ⊎ (d ≡ OutOfMemory)
      by_reason why (inl memory) = inr memory
      by_reason why (inr other) = inl (one_reason (out-Record due.root).fields d e why due.why other due.wrong)

      from : RewritingFails name marker limit source sink d → (d ≡ e) ⊎ (d ≡ OutOfMemory)
      from (inl (keeps, inl fails)) =
          inr (metadata_is_read due.header due.rest due.marker due.root (header_of limit source source.bytes_after source.faults_after) at due.begins (omega (arith, lengths, tells.within)) tells.steady d fails)
      from (inl (keeps, inr n)) =
          let r = metadata_is_right due.header due.rest due.marker due.root (header_of limit source source.bytes_after source.faults_after) at due.begins n.marker n.root n.count n.reads in
          by_reason (subst (λ (root : Record). CannotBeRewritten (out-Record root).fields d) r.0 n.why) (memory_or_not d)
      from (inr (inl n)) =
          let r = metadata_is_right due.header due.rest due.marker due.root (header_of limit source source.bytes_after source.faults_after) at due.begins n.source_marker n.root n.count n.reads in
          absurd (due.wrong (due_or_not due.root n.root n.columns n.has_target.nameless e r.0 n.has_target.can due.why))
      from (inr (inr n)) =
          let r = metadata_is_right due.header due.rest due.marker due.root (header_of limit source n.left n.faults) at due.begins n.source_marker n.root n.count n.reads in
          absurd (due.wrong (due_or_not due.root n.root n.columns n.has_target.nameless e r.0 n.has_target.can due.why))

  had_form : (bytes : List ℕ) (limit count : ℕ) (source sink : Change) → source.bytes ≡ Some bytes → Rewrites name marker limit source sink count → HasCanonicalForm bytes × (length bytes ≤ limit)
  had_form bytes limit count source sink tells c =
      let same : c.bytes ≡ bytes = all_taken bytes c.bytes source.bytes_after (subst (λ (z : Option (List ℕ)). Consumes z source.bytes_after c.bytes) tells c.taken) c.whole in
      (subst HasCanonicalForm same c.rewrites.form, subst (λ (b : List ℕ). length b ≤ limit) same c.within)

  pub refused_is_not_rewritten : (bytes : List ℕ) (limit count : ℕ) (source sink : Change) (e : Error) → IsTold source limit bytes → IsHeaderDue bytes e → Rewrites name marker limit source sink count → ⊥
  refused_is_not_rewritten bytes limit count source sink e tells due c =
      never_due bytes e (had_form bytes limit count source sink tells.told c).0 due

  pub rewritten_does_not_fail : (bytes : List ℕ) (limit count : ℕ) (source other sink another : Change) (e : Error) → source.bytes ≡ Some bytes → other.bytes ≡ Some bytes → (Failed other → ⊥)
      → Rewrites name marker limit source sink count → RewritingFails name marker limit other another e → CameFromOutside another e
  rewritten_does_not_fail bytes limit count source other sink another e tells also_tells steady c h =
      let had = had_form bytes limit count source sink tells c in
      files_are_rewritten bytes limit other another e (record { told = also_tells; within = had.1; steady = steady }) had.0 h

-- bytes are due one error at most
pub due_once : (bytes : List ℕ) (e d : Error) → IsHeaderDue bytes e → IsHeaderDue bytes d → e ≡ d
due_once bytes e d h k =
    let same = same_root bytes k.header h.header k.rest h.rest k.marker h.marker k.root h.root k.joined h.joined k.begins h.begins in
    one_reason (out-Record h.root).fields e d h.why (subst (λ (root : Record). CannotBeRewritten (out-Record root).fields d) same k.why) h.wrong k.wrong
