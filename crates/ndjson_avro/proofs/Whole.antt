-- The whole conversion, by what its parts do.
use Rattle.std.proofs.Common.{◌≡◌, inr, ℕ, ◌≤◌, List, Option, Some, None, IfSome, IfOk, IfErr, Result, Ok, Err, subst, arith}
use Rattle.std.specs.Io.KnownBytes.{Appends}
use Rattle.std.proofs.KnownBytes.{Appends-trans}
use Rattle.arrow_core.specs.declared.error.Error.{Error}
use Rattle.arrow_core.specs.declared.types.DataType as types
use Rattle.arrow_core.specs.declared.types.DataType.{DataType}
use Rattle.arrow_core.specs.declared.types.Field.{Field}
use Rattle.avro_container.specs.Canonical.{canonical_blocks}
use Rattle.avro_file.specs.File.{metadata_bytes}
use Rattle.avro_schema.specs.declared.schema.Record.{Record}
use Rattle.avro_schema.specs.declared.schema.Schema as schema
use Rattle.avro_schema.specs.declared.schema.Schema.{Schema}
use Rattle.ndjson_read.specs.Lines.{rows_of}
use Rattle.ndjson_read.specs.Reading.{State, state}
use Rattle.avro_container.specs.Changes.{Change, change_of}
use Rattle.ndjson_avro.specs.Batches.{StopsAtBatch}
use Rattle.ndjson_avro.specs.Conversion.{BatchNotWritten, ConversionFails, Converts}
use Rattle.ndjson_avro.specs.Rows.{rows_blocks}
use Rattle.ndjson_avro.specs.Steps.{AllWritten}
use Rattle.ndjson_avro.specs.Taken.{AreRowsOf}
use Rattle.ndjson_avro.specs.Target.{HasTarget}
use Rattle.ndjson_avro.proofs.Nexts.{stops_earlier}

module _ (fields : List Field) (name marker : List ℕ) (n limit : ℕ) (source sink : Change) (target : Record) (held : Option (List ℕ)) (has : HasTarget fields name target) (header : Appends sink.bytes held (metadata_bytes target marker)) where
  abbrev begin : State
  begin = state source.bytes source.faults limit 0

  abbrev end : ℕ → ℕ → State
  end limit_after lines_after = state source.bytes_after source.faults_after limit_after lines_after

  told_rows : (o : Option (List ℕ)) (old new : State) (taken : List ℕ) (texts : List (List ℕ)) → IfSome o (λ _. AreRowsOf old new taken texts) → IfSome o (λ _. texts ≡ rows_of taken)
  told_rows None old new taken texts h = tt
  told_rows (Some bytes) old new taken texts h = h.rows

  pub converts : (limit_after lines_after count : ℕ) → AllWritten (types.Struct fields) (schema.Record target) marker n begin (end limit_after lines_after) held sink.bytes_after count → Converts fields name marker n limit source sink count
  converts limit_after lines_after count a = record {
    target = target;
    has = has;
    bytes = a.takes.taken;
    taken = a.takes.takes.consumed;
    whole = a.end;
    within = omega (arith, a.takes.takes.limit);
    texts = a.texts;
    lines = told_rows source.bytes begin (end limit_after lines_after) a.takes.taken a.texts a.takes.told;
    batches = a.batches;
    rows = a.rows;
    cut = a.cut;
    written = Appends-trans sink.bytes held sink.bytes_after (metadata_bytes target marker) (canonical_blocks marker (rows_blocks (schema.Record target) a.batches)) header a.written;
    counted = a.counted;
  }

  pub stops : (limit_after lines_after : ℕ) (e : Error) → StopsAtBatch (types.Struct fields) (schema.Record target) marker n begin (end limit_after lines_after) (change_of held sink.faults sink.bytes_after sink.faults_after) e
      → BatchNotWritten fields name marker n limit source sink e
  stops limit_after lines_after e s = record { target = target; has = has; held = held; header = header; limit_after = limit_after; lines_after = lines_after; stops = s }

  -- the states as the calls tell them
  module _ (limit_after lines_after : ℕ) (t : DataType) (root : Schema) (same : t ≡ types.Struct fields) (also : root ≡ schema.Record target) (old new : State) (from : old ≡ begin) (to : new ≡ end limit_after lines_after) where
    pub if_converts : (r : Result ℕ Error) → IfOk r (AllWritten t root marker n old new held sink.bytes_after) → IfOk r (Converts fields name marker n limit source sink)
    if_converts (Ok count) h =
        converts limit_after lines_after count (subst (λ (x : DataType × Schema × State × State). AllWritten x.0 x.1 marker n x.2 x.3 held sink.bytes_after count) (λ i. (same i, also i, from i, to i)) h)
    if_converts (Err e) h = tt

    pub if_stops : (sink_faults : ℕ) → sink.faults ≤ sink_faults → (r : Result ℕ Error) → IfErr r (StopsAtBatch t root marker n old new (change_of held sink_faults sink.bytes_after sink.faults_after)) → IfErr r (ConversionFails fields name marker n limit source sink)
    if_stops sink_faults l (Ok count) h = tt
    if_stops sink_faults l (Err e) h =
        let moved = subst (λ (x : DataType × Schema × State × State). StopsAtBatch x.0 x.1 marker n x.2 x.3 (change_of held sink_faults sink.bytes_after sink.faults_after) e) (λ i. (same i, also i, from i, to i)) h in
        inr (inr (stops limit_after lines_after e (stops_earlier (types.Struct fields) (schema.Record target) marker n begin (end limit_after lines_after) held sink.bytes_after sink.faults sink_faults sink.faults_after e l moved)))

-- the source as it stands at the end
pub ended : {S : Type 0} (left : S → Option (List ℕ)) (faults : S → ℕ) (P : Change → Type 0) (first last now : S) → last ≡ now → P (change_of (left first) (faults first) (left last) (faults last)) → P (change_of (left first) (faults first) (left now) (faults now))
ended left faults P first last now is h = subst (λ z. P (change_of (left first) (faults first) (left z) (faults z))) is h
