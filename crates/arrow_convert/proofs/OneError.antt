-- Of the same bytes a rewriting has one error at most, those from outside aside.
use Rattle.std.proofs.Common.{◌≡◌, ◌≢◌, ◌∙◌, ◌⊎◌, inl, inr, ℕ, ◌-◌, ◌≤◌, List, length, true, Option, Some, None, refl, sym, ap, subst}
use Rattle.std.proofs.lemmas.Option.{same_Some}
use Rattle.arrow_base.specs.Outside.{RoseOrFull}
use Rattle.arrow_core.specs.declared.error.Error.{Error}
use Rattle.arrow_core.specs.declared.error.Error.TheVariants.{WriteFault, OutOfMemory}
use Rattle.arrow_core.specs.declared.types.Field.{Field}
use Rattle.avro_schema.specs.declared.schema.Record.{Record, out-Record}
use Rattle.avro_schema.specs.Inferred.{inferred_columns}
use Rattle.avro_schema.specs.ValidBlock.{ValidBlock}
use Rattle.avro_container.specs.File.{FileBlock}
use Rattle.avro_container.specs.Laws.{told}
use Rattle.avro_container.specs.Taking.{State, state}
use Rattle.avro_container.specs.Changes.{Change, change_of, CameFromOutside}
use Rattle.avro_container.specs.Written.{StopsAtBlock, WithAllRows}
use Rattle.avro_container.proofs.OneBlock.{AreOne, AreOneOr, or_outside, one_stop}
use Rattle.avro_container.proofs.Reading.{IsGood}
use Rattle.avro_container.proofs.Results.{memory_or_not}
use Rattle.avro_container.proofs.Steps.{rose_from}
use Rattle.avro_file.specs.Metadata.{WriteFails}
use Rattle.avro_schema.specs.Projected.{CanBeDecoded}
use Rattle.avro_decode.proofs.Valid.{valid_blocks}
use Rattle.avro_types.specs.Named.{named_root}
use Rattle.avro_types.specs.Schemas.{record_of}
use Rattle.avro_ndjson.proofs.OneBlock.{one_wrong}
use Rattle.avro_ndjson.proofs.OneMetadata.{told_change, Stands, stands, stands_or_none, stands_once, one_metadata}
use Rattle.avro_canonical.specs.Canonical.{BlockIsRefused, CanBeRewritten, CannotBeRewritten, RewritesBlock, Rewriting}
use Rattle.avro_canonical.specs.Rewritten.{BlockNotRewritten, HeaderNotRewritten, RewritingFails, rewriting_of}
use Rattle.avro_canonical.proofs.Making.{can_be_decoded}
use Rattle.avro_canonical.proofs.Reasons.{one_reason, rewritten_or_not}
use Rattle.arrow_convert.specs.Laws.{OneErrorComes}

-- ---- a block

module _ (w : Rewriting) (can : CanBeDecoded w.decoder) where
  good_block : (b : FileBlock) (e : Error) → IsGood (WithAllRows (RewritesBlock w)) b → BlockIsRefused w b e → e ≡ OutOfMemory
  good_block b e good h = valid_blocks w.decoder.fields b.rows w.decoder.avro_fields w.decoder.projection b.bytes e valid h
    where
      valid : ValidBlock b.rows b.bytes w.decoder.fields w.decoder.avro_fields w.decoder.projection
      valid = record {
        columns = record { lengths = can.lengths; some = can.some; carried = can.carried; fits = can.fits; no_float = can.no_float; offsets = good.2.0.has.counted.0; symbols = good.2.0.has.symbols };
        table = good.2.0.table;
        rows = good.2.0.has.rows;
      }

  one_refusal : (b : FileBlock) (e d : Error) → BlockIsRefused w b e → BlockIsRefused w b d → AreOne e d
  one_refusal b e d h k = one_wrong w.decoder can b e d (inl h) (inl k)

-- ---- the header

-- a new header fails for memory or the sink alone
header_fails : (sink : Change) (bytes : List ℕ) (e : Error) → WriteFails sink.bytes sink.bytes_after sink.faults sink.faults_after bytes e → CameFromOutside sink e
header_fails sink bytes WriteFault h = inr (refl, h.1)
header_fails sink bytes OutOfMemory h = inl refl
header_fails sink bytes _ h = absurd h

-- what came from outside after the new header came from outside
earlier : (held : Option (List ℕ)) (faults : ℕ) (sink : Change) (e : Error) → sink.faults ≤ faults → CameFromOutside (change_of held faults sink.bytes_after sink.faults_after) e → CameFromOutside sink e
earlier held faults sink e le (inl memory) = inl memory
earlier held faults sink e le (inr h) = inr (h.0, rose_from sink.faults faults sink.faults_after le h.1)

-- ---- the whole, of two sources of these bytes

module _ (name new_marker all : List ℕ) (limit f g f_after g_after : ℕ) (left also_left : Option (List ℕ)) (sink another : Change) (steady : RoseOrFull f f_after → ⊥) (also_steady : RoseOrFull g g_after → ⊥) where
  abbrev one : Change
  one = told_change all f left f_after

  abbrev two : Change
  two = told_change all g also_left g_after

  abbrev Same : Error → Error → Type 0
  Same e d = AreOneOr sink another e d

  by_reason : (e d : Error) (root : Record) → CannotBeRewritten (out-Record root).fields e → CannotBeRewritten (out-Record root).fields d → (e ≡ OutOfMemory) ⊎ (e ≢ OutOfMemory) → (d ≡ OutOfMemory) ⊎ (d ≢ OutOfMemory) → AreOne e d
  by_reason e d root h k (inl memory) more = inr (inl memory)
  by_reason e d root h k (inr other) (inl memory) = inr (inr memory)
  by_reason e d root h k (inr other) (inr also) = inl (one_reason (out-Record root).fields e d h k other also)

  both_refused : (e d : Error) → HeaderNotRewritten limit one e → HeaderNotRewritten limit two d → AreOne e d
  both_refused e d h k =
      let s = stands all limit f f_after left h.root h.marker h.count h.reads in
      let r = stands_once all limit g g_after k.count also_left h.root k.root h.marker k.marker s k.reads in
      by_reason e d h.root h.why (subst (λ (root : Record). CannotBeRewritten (out-Record root).fields d) r.0 k.why) (memory_or_not e) (memory_or_not d)

  both_stop : (e d : Error) → BlockNotRewritten name new_marker limit one sink e → BlockNotRewritten name new_marker limit two another d → Same e d
  both_stop e d h k =
      from (one_stop (WithAllRows (RewritesBlock w)) (BlockIsRefused w) (good_block w can) (one_refusal w can) h.source_marker s.rest h.faults k.faults (limit - h.count) new other after also_after e d still also_still first second)
    where
      s : Stands all limit h.root h.source_marker
      s = stands all limit f h.faults h.left h.root h.source_marker h.count h.reads

      own : (h.root ≡ h.root) × (h.source_marker ≡ h.source_marker) × (h.count ≡ length s.prefix) × (h.left ≡ Some s.rest)
      own = stands_once all limit f h.faults h.count h.left h.root h.root h.source_marker h.source_marker s h.reads

      r : (k.root ≡ h.root) × (k.source_marker ≡ h.source_marker) × (k.count ≡ length s.prefix) × (k.left ≡ Some s.rest)
      r = stands_once all limit g k.faults k.count k.left h.root k.root h.source_marker k.source_marker s k.reads

      same : k.columns ≡ h.columns
      same = same_Some k.columns h.columns (sym (subst (λ (root : Record). inferred_columns (out-Record root).fields ≡ Some k.columns) r.0 k.has_target.can.inferred) ∙ h.has_target.can.inferred)

      nameless : k.has_target.nameless ≡ h.has_target.nameless
      nameless = same_Some k.has_target.nameless h.has_target.nameless (sym k.has_target.can.recorded ∙ ap (record_of true) same ∙ h.has_target.can.recorded)

      target : k.target ≡ h.target
      target = k.has_target.named ∙ ap (named_root name) nameless ∙ sym h.has_target.named

      w : Rewriting
      w = rewriting_of h.root h.columns h.target new_marker

      can : CanBeDecoded w.decoder
      can = can_be_decoded (out-Record h.root).fields h.columns h.has_target.nameless h.has_target.can

      new : State
      new = state left f_after h.limit_after None

      other : State
      other = state also_left g_after k.limit_after None

      after : Change
      after = change_of h.held h.sink_faults sink.bytes_after sink.faults_after

      also_after : Change
      also_after = change_of k.held k.sink_faults another.bytes_after another.faults_after

      still : RoseOrFull h.faults f_after → ⊥
      still rose = steady (rose_from f h.faults f_after h.never_falls rose)

      also_still : RoseOrFull k.faults g_after → ⊥
      also_still rose = also_steady (rose_from g k.faults g_after k.never_falls rose)

      first : StopsAtBlock (WithAllRows (RewritesBlock w)) (BlockIsRefused w) h.source_marker (told s.rest h.faults (limit - h.count)) new after e
      first = subst (λ (z : Option (List ℕ)). StopsAtBlock (WithAllRows (RewritesBlock w)) (BlockIsRefused w) h.source_marker (state z h.faults (limit - h.count) None) new after e) own.3 h.stops

      second : StopsAtBlock (WithAllRows (RewritesBlock w)) (BlockIsRefused w) h.source_marker (told s.rest k.faults (limit - h.count)) other also_after d
      second =
          subst (λ (x : Rewriting × List ℕ × Option (List ℕ) × ℕ). StopsAtBlock (WithAllRows (RewritesBlock x.0)) (BlockIsRefused x.0) x.1 (state x.2 k.faults (limit - x.3) None) other also_after d)
          (λ i. (rewriting_of (r.0 i) (same i) (target i) new_marker, r.1 i, r.3 i, (r.2 ∙ sym own.2) i)) k.stops

      from : AreOneOr after also_after e d → Same e d
      from (inl is) = inl is
      from (inr (inl x)) = inr (inl (earlier h.held h.sink_faults sink e h.sink_never_falls x))
      from (inr (inr x)) = inr (inr (earlier k.held k.sink_faults another d k.sink_never_falls x))

  rewritten_or_refused : (e : Error) (root also : Record) (columns : List Field) (nameless : Record) → also ≡ root → CannotBeRewritten (out-Record also).fields e → CanBeRewritten (out-Record root).fields columns nameless → e ≡ OutOfMemory
  rewritten_or_refused e root also columns nameless same why can = rewritten_or_not (out-Record root).fields columns nameless can e (subst (λ (r : Record). CannotBeRewritten (out-Record r).fields e) same why)

  one_error : (e d : Error) → RewritingFails name new_marker limit one sink e → RewritingFails name new_marker limit two another d → Same e d
  one_error e d (inr (inl h)) k = inr (inl (header_fails sink _ e h.fails))
  one_error e d (inl h) (inr (inl k)) = inr (inr (header_fails another _ d k.fails))
  one_error e d (inr (inr h)) (inr (inl k)) = inr (inr (header_fails another _ d k.fails))
  one_error e d (inl (keeps, inl h)) (inl (holds, inl k)) = or_outside sink another e d (one_metadata all limit f g left also_left f_after g_after steady also_steady e d h k)
  one_error e d (inl (keeps, inl h)) (inl (holds, inr k)) =
      inr (inl (inl (stands_or_none all limit f f_after left k.root k.marker (stands all limit g g_after also_left k.root k.marker k.count k.reads) steady e h)))
  one_error e d (inl (keeps, inl h)) (inr (inr k)) =
      inr (inl (inl (stands_or_none all limit f f_after left k.root k.source_marker (stands all limit g k.faults k.left k.root k.source_marker k.count k.reads) steady e h)))
  one_error e d (inl (keeps, inr h)) (inl (holds, inl k)) =
      inr (inr (inl (stands_or_none all limit g g_after also_left h.root h.marker (stands all limit f f_after left h.root h.marker h.count h.reads) also_steady d k)))
  one_error e d (inl (keeps, inr h)) (inl (holds, inr k)) = or_outside sink another e d (both_refused e d h k)
  one_error e d (inl (keeps, inr h)) (inr (inr k)) =
      let s = stands all limit g k.faults k.left k.root k.source_marker k.count k.reads in
      let r = stands_once all limit f f_after h.count left k.root h.root k.source_marker h.marker s h.reads in
      inr (inl (inl (rewritten_or_refused e k.root h.root k.columns k.has_target.nameless r.0 h.why k.has_target.can)))
  one_error e d (inr (inr h)) (inl (holds, inl k)) =
      inr (inr (inl (stands_or_none all limit g g_after also_left h.root h.source_marker (stands all limit f h.faults h.left h.root h.source_marker h.count h.reads) also_steady d k)))
  one_error e d (inr (inr h)) (inl (holds, inr k)) =
      let s = stands all limit f h.faults h.left h.root h.source_marker h.count h.reads in
      let r = stands_once all limit g g_after k.count also_left h.root k.root h.source_marker k.marker s k.reads in
      inr (inr (inl (rewritten_or_refused d h.root k.root h.columns h.has_target.nameless r.0 k.why h.has_target.can)))
  one_error e d (inr (inr h)) (inr (inr k)) = both_stop e d h k

-- ---- of what sources tell

told_is : (source : Change) (bytes : List ℕ) → source.bytes ≡ Some bytes → source ≡ told_change bytes source.faults source.bytes_after source.faults_after
told_is source bytes e = λ i. record { bytes = e i; faults = source.faults; bytes_after = source.bytes_after; faults_after = source.faults_after }

pub one_error_comes : OneErrorComes
one_error_comes name marker bytes limit source other sink another e d tells also_tells steady also_steady h k =
    one_error name marker bytes limit source.faults other.faults source.faults_after other.faults_after source.bytes_after other.bytes_after sink another steady also_steady e d
    (subst (λ (s : Change). RewritingFails name marker limit s sink e) (told_is source bytes tells) h)
    (subst (λ (s : Change). RewritingFails name marker limit s another d) (told_is other bytes also_tells) k)
