-- Blocks rewritten one after another, and headers before them.
use Rattle.std.proofs.Common.{◌≡◌, ◌∙◌, inr, ℕ, ◌-◌, ◌≤◌, List, [], ◌∷◌, ◌++◌, map, Option, None, Result, Ok, Err, refl, ap, subst, length-append, arith}
use Rattle.std.specs.Prelude.{IfOk, IfErr}
use Rattle.std.specs.List.{concat, flat_map, AllByRecursion, AllZip}
use Rattle.std.proofs.KnownBytes.{Appends-trans, Appends-kept, Consumes-trans}
use Rattle.std.proofs.lemmas.List.{append-nil}
use Rattle.std.specs.Io.KnownBytes.{Appends, Consumes}
use Rattle.arrow_core.specs.declared.error.Error.{Error}
use Rattle.arrow_core.specs.declared.slot.Slot.{Slot}
use Rattle.avro_schema.specs.declared.schema.AvroField.{AvroField}
use Rattle.avro_schema.specs.declared.schema.Record.{Record, out-Record}
use Rattle.avro_container.specs.Canonical.{canonical_blocks}
use Rattle.avro_container.specs.File.{FileBlock}
use Rattle.avro_container.specs.Taking.{State, state}
use Rattle.avro_container.specs.Changes.{Change, change_of, header_of}
use Rattle.avro_container.specs.Written.{AllWritten, BlockText, StopsAtBlock, WithAllRows}
use Rattle.avro_container.proofs.AllRows.{rows_of_blocks, texts_joined, whole_texts}
use Rattle.avro_file.specs.File.{metadata_bytes}
use Rattle.avro_file.specs.Metadata.{ReadsMetadata}
use Rattle.avro_schema.specs.Projected.{HasTable}
use Rattle.avro_canonical.specs.Canonical.{BlockIsRefused, HasEncodings, RewritesBlock, Rewriting, rewriting, table_block}
use Rattle.avro_canonical.specs.Targets.{AreMade}
use Rattle.avro_canonical.specs.Rewritten.{Rewrites, RewritingFails, table_blocks}

first_block : (marker : List ℕ) (fields : List AvroField) (table : List (List Slot)) (tables : List (List (List Slot))) → table_block marker fields table ++ canonical_blocks marker (table_blocks fields tables) ≡ canonical_blocks marker (table_blocks fields (table ∷ tables))
first_block marker fields [] tables = refl
first_block marker fields (row ∷ table) tables = refl

-- the tables of rewritten blocks, and what they are together
record HaveTables (w : Rewriting) (blocks : List FileBlock) (texts : List (List ℕ)) : Type 0 where
  tables : List (List (List Slot))
  rows : AllZip (λ b. HasTable w.decoder b.rows b.bytes) blocks tables
  encoded : AllByRecursion (HasEncodings w.fields) tables
  joined : concat texts ≡ canonical_blocks w.marker (table_blocks w.fields tables)

have_tables : (w : Rewriting) (blocks : List FileBlock) (texts : List (List ℕ)) → AllZip (RewritesBlock w) blocks texts → HaveTables w blocks texts
have_tables w [] [] h = record { tables = []; rows = tt; encoded = tt; joined = refl }
have_tables w [] (t ∷ texts) h = absurd h
have_tables w (b ∷ blocks) [] h = absurd h
have_tables w (b ∷ blocks) (t ∷ texts) h =
    let more = have_tables w blocks texts h.1 in
    record {
      tables = h.0.table ∷ more.tables;
      rows = (h.0.has, more.rows);
      encoded = (h.0.encoded, more.encoded);
      joined = (λ i. h.0.is i ++ more.joined i) ∙ first_block w.marker w.fields h.0.table more.tables;
    }

module _ (name marker : List ℕ) (limit limit_after : ℕ) (source sink : Change) (root target : Record) (source_marker other : List ℕ) (taken faults sink_faults : ℕ) (left held : Option (List ℕ)) (w : Rewriting) (old new : State)
    (never_falls : source.faults ≤ faults) (sink_never_falls : sink.faults ≤ sink_faults) (reads : ReadsMetadata (header_of limit source left faults) root source_marker taken) (made : AreMade (out-Record root).fields name marker w target)
    (header : Appends sink.bytes held (metadata_bytes target marker))
    (same : other ≡ source_marker) (from : old ≡ state left faults (limit - taken) None) (to : new ≡ state source.bytes_after source.faults_after limit_after None) where
  abbrev v : Rewriting
  v = rewriting (out-Record root).fields made.columns target marker

  all_told : ◌≡◌ {A = Rewriting × List ℕ × State × State} (w, other, old, new) (v, source_marker, state left faults (limit - taken) None, state source.bytes_after source.faults_after limit_after None)
  all_told = λ i. (made.made i, same i, from i, to i)

  rewrites : (count : ℕ) → AllWritten (WithAllRows (RewritesBlock v)) source_marker (state left faults (limit - taken) None) (state source.bytes_after source.faults_after limit_after None) held sink.bytes_after count → Rewrites name marker limit source sink count
  rewrites count all =
      let b = all.writes in
      let head = reads.header in
      let last : Consumes left source.bytes_after (b.bytes ++ []) = Consumes-trans left all.between.left source.bytes_after b.bytes [] b.taken.consumed all.ended.0.consumed in
      let rest : Consumes left source.bytes_after b.bytes = subst (Consumes left source.bytes_after) (append-nil b.bytes) last in
      let t = have_tables v b.blocks (map (λ (t : BlockText). t.text) b.texts) (whole_texts (RewritesBlock v) b.blocks b.texts b.shows) in
      record {
        bytes = head.bytes ++ b.bytes;
        text = metadata_bytes target marker ++ flat_map (λ (t : BlockText). t.text) b.texts;
        taken = Consumes-trans source.bytes left source.bytes_after head.bytes b.bytes head.consumed rest;
        whole = all.ended.1;
        within = omega (arith, length-append head.bytes b.bytes, head.within, head.count_is, b.taken.limit);
        rewrites = record {
          form = record {
            root = root;
            source_marker = source_marker;
            blocks = b.blocks;
            is_file = record { prefix = head.bytes; back = b.bytes; joined = refl; entries = head.entries; head = head.head; text = reads.text; schema = head.schema; means = reads.means; codec = head.codec; blocks = b.sequence };
            columns = made.columns;
            nameless = made.has_target.nameless;
            can = made.has_target.can;
            tables = t.tables;
            rows = t.rows;
          };
          target = target;
          named = made.has_target.named;
          encoded = t.encoded;
          is = ap (λ (z : List ℕ). metadata_bytes target marker ++ z) (texts_joined b.texts ∙ t.joined);
          counted = b.counted ∙ rows_of_blocks (RewritesBlock v) b.blocks b.texts b.shows;
        };
        written = Appends-trans sink.bytes held sink.bytes_after (metadata_bytes target marker) (flat_map (λ (t : BlockText). t.text) b.texts) header (Appends-kept held all.held_between sink.bytes_after _ b.written all.keeps);
      }

  pub if_rewrites : (r : Result ℕ Error) → IfOk r (AllWritten (WithAllRows (RewritesBlock w)) other old new held sink.bytes_after) → IfOk r (Rewrites name marker limit source sink)
  if_rewrites (Ok count) h =
      rewrites count (subst (λ (x : Rewriting × List ℕ × State × State). AllWritten (WithAllRows (RewritesBlock x.0)) x.1 x.2 x.3 held sink.bytes_after count) all_told h)
  if_rewrites (Err e) h = tt

  pub if_stops : (r : Result ℕ Error) → IfErr r (StopsAtBlock (WithAllRows (RewritesBlock w)) (BlockIsRefused w) other old new (change_of held sink_faults sink.bytes_after sink.faults_after)) → IfErr r (RewritingFails name marker limit source sink)
  if_stops (Ok count) h = tt
  if_stops (Err e) h =
      inr (inr (record {
        root = root;
        source_marker = source_marker;
        count = taken;
        left = left;
        faults = faults;
        never_falls = never_falls;
        reads = reads;
        columns = made.columns;
        target = target;
        has_target = made.has_target;
        held = held;
        sink_faults = sink_faults;
        sink_never_falls = sink_never_falls;
        header = header;
        limit_after = limit_after;
        stops = subst (λ (x : Rewriting × List ℕ × State × State). StopsAtBlock (WithAllRows (RewritesBlock x.0)) (BlockIsRefused x.0) x.1 x.2 x.3 (change_of held sink_faults sink.bytes_after sink.faults_after) e) all_told h;
      }))
