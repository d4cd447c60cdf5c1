-- A header, and the blocks after it as lines.
use Rattle.std.proofs.Common.{◌≡◌, ◌∙◌, inr, ℕ, ◌-◌, ◌≤◌, List, [], ◌++◌, map, Option, None, Result, Ok, Err, refl, subst, length-append, arith}
use Rattle.std.specs.Prelude.{IfOk, IfErr}
use Rattle.std.specs.List.{flat_map}
use Rattle.std.proofs.KnownBytes.{Appends-kept, Consumes-trans}
use Rattle.std.proofs.lemmas.List.{append-nil}
use Rattle.std.specs.Io.KnownBytes.{Consumes}
use Rattle.arrow_core.specs.declared.error.Error.{Error}
use Rattle.arrow_core.specs.declared.types.Field.{Field}
use Rattle.avro_schema.specs.declared.schema.Record.{Record, out-Record}
use Rattle.avro_container.specs.Taking.{State, state}
use Rattle.avro_container.specs.Changes.{Change, header_of}
use Rattle.avro_container.specs.Written.{AllWritten, BlockText, WithAllRows}
use Rattle.avro_container.proofs.AllRows.{rows_of_blocks, texts_joined, whole_texts}
use Rattle.avro_file.specs.Metadata.{ReadsMetadata}
use Rattle.avro_schema.specs.Projected.{Projected}
use Rattle.avro_ndjson.specs.Refusals.{Converts, ConversionFails}
use Rattle.avro_ndjson.specs.Shown.{CanBeShown, projected_of, ShowsBlock}
use Rattle.avro_ndjson.specs.Taken.{StopsAtBlock}

pub converts : (keep : Option (List ℕ)) (limit limit_after : ℕ) (source sink : Change) (root : Record) (marker : List ℕ) (taken count faults : ℕ) (left : Option (List ℕ)) (fields : List Field)
    → ReadsMetadata (header_of limit source left faults) root marker taken → CanBeShown keep (out-Record root).fields fields
    → AllWritten (WithAllRows (ShowsBlock (projected_of keep root fields))) marker (state left faults (limit - taken) None) (state source.bytes_after source.faults_after limit_after None) sink.bytes sink.bytes_after count
    → Converts keep limit source sink count
converts keep limit limit_after source sink root marker taken count faults left fields reads shown all =
    let w = all.writes in
    let p = projected_of keep root fields in
    let head = reads.header in
    let last : Consumes left source.bytes_after (w.bytes ++ []) = Consumes-trans left all.between.left source.bytes_after w.bytes [] w.taken.consumed all.ended.0.consumed in
    let rest : Consumes left source.bytes_after w.bytes = subst (Consumes left source.bytes_after) (append-nil w.bytes) last in
    record {
      bytes = head.bytes ++ w.bytes;
      text = flat_map (λ (t : BlockText). t.text) w.texts;
      taken = Consumes-trans source.bytes left source.bytes_after head.bytes w.bytes head.consumed rest;
      whole = all.ended.1;
      within = omega (arith, length-append head.bytes w.bytes, head.within, head.count_is, w.taken.limit);
      shows = record {
        root = root;
        marker = marker;
        blocks = w.blocks;
        is_file = record { prefix = head.bytes; back = w.bytes; joined = refl; entries = head.entries; head = head.head; text = reads.text; schema = head.schema; means = reads.means; codec = head.codec; blocks = w.sequence };
        fields = fields;
        shown = shown;
        texts = map (λ (t : BlockText). t.text) w.texts;
        shows = whole_texts (ShowsBlock p) w.blocks w.texts w.shows;
        joined = texts_joined w.texts;
        counted = w.counted ∙ rows_of_blocks (ShowsBlock p) w.blocks w.texts w.shows;
      };
      written = Appends-kept sink.bytes all.held_between sink.bytes_after _ w.written all.keeps;
    }

module _ (keep : Option (List ℕ)) (limit limit_after : ℕ) (source sink : Change) (root : Record) (marker other : List ℕ) (taken faults : ℕ) (left : Option (List ℕ)) (fields : List Field) (p : Projected) (old new : State)
    (never_falls : source.faults ≤ faults) (reads : ReadsMetadata (header_of limit source left faults) root marker taken) (shown : CanBeShown keep (out-Record root).fields fields)
    (is : p ≡ projected_of keep root fields) (same : other ≡ marker) (from : old ≡ state left faults (limit - taken) None) (to : new ≡ state source.bytes_after source.faults_after limit_after None) where
  all_told : p ≡ projected_of keep root fields → ◌≡◌ {A = Projected × List ℕ × State × State} (p, other, old, new) (projected_of keep root fields, marker, state left faults (limit - taken) None, state source.bytes_after source.faults_after limit_after None)
  all_told e = λ i. (e i, same i, from i, to i)

  pub if_converts : (r : Result ℕ Error) → IfOk r (AllWritten (WithAllRows (ShowsBlock p)) other old new sink.bytes sink.bytes_after) → IfOk r (Converts keep limit source sink)
  if_converts (Ok count) h =
      converts keep limit limit_after source sink root marker taken count faults left fields reads shown
      (subst (λ (x : Projected × List ℕ × State × State). AllWritten (WithAllRows (ShowsBlock x.0)) x.1 x.2 x.3 sink.bytes sink.bytes_after count) (all_told is) h)
  if_converts (Err e) h = tt

  pub if_stops : (r : Result ℕ Error) → IfErr r (StopsAtBlock p other old new sink) → IfErr r (ConversionFails keep limit source sink)
  if_stops (Ok count) h = tt
  if_stops (Err e) h =
      inr (record {
        root = root;
        marker = marker;
        count = taken;
        left = left;
        faults = faults;
        never_falls = never_falls;
        reads = reads;
        fields = fields;
        shown = shown;
        limit_after = limit_after;
        stops = subst (λ (x : Projected × List ℕ × State × State). StopsAtBlock x.0 x.1 x.2 x.3 sink e) (all_told is) h;
      })
