-- One block after another, and a header before them.
use Rattle.std.proofs.Common.{◌≡◌, inr, ℕ, ◌+◌, ◌-◌, ◌≤◌, List, [], ◌∷◌, ◌++◌, length, Option, None, Result, Ok, Err, refl, subst, length-append, arith}
use Rattle.std.specs.Prelude.{sum_by, IfOk, IfErr}
use Rattle.std.proofs.KnownBytes.{Consumes-trans}
use Rattle.std.proofs.lemmas.List.{append-nil}
use Rattle.std.proofs.lemmas.List.Sums.{sum_by_push}
use Rattle.std.specs.Io.KnownBytes.{Consumes}
use Rattle.arrow_core.specs.declared.error.Error.{Error}
use Rattle.avro_schema.specs.declared.schema.Record.{Record}
use Rattle.avro_container.specs.File.{FileBlock, IsFileBlock, the_block, none}
use Rattle.avro_container.specs.FileForms.{marked_block}
use Rattle.avro_container.specs.Taking.{State, state, Passed}
use Rattle.avro_container.proofs.Sequences.{one_more}
use Rattle.avro_container.proofs.Taken.{takes_nothing, takes_more}
use Rattle.avro_container.specs.Changes.{Change, header_of}
use Rattle.avro_file.specs.Metadata.{ReadsMetadata}
use Rattle.avro_inspect.specs.Counts.{CountsFile, CountingFails}
use Rattle.avro_inspect.specs.Taken.{TakesBlocks, CountsBlocks, StopsCounting}
use Rattle.avro_inspect.specs.declared.count.FileCounts.{FileCounts}

-- ---- blocks so far

-- so many blocks were taken, of so many rows
pub record CountedSoFar (marker : List ℕ) (old new : State) (rows number : ℕ) : Type 0 where
  pub blocks : List FileBlock
  pub takes : TakesBlocks marker old new blocks
  pub rows_are : rows ≡ sum_by (λ b. b.rows) blocks
  pub number_is : number ≡ length blocks

pub none_so_far : (marker : List ℕ) (s : State) → CountedSoFar marker s s 0 0
none_so_far marker s = record { blocks = []; takes = record { bytes = []; taken = takes_nothing s; sequence = none }; rows_are = refl; number_is = refl }

pub one_more_block : (marker other : List ℕ) (a b c : State) (rows number more : ℕ) (bytes : List ℕ) → other ≡ marker → CountedSoFar marker a b rows number → Passed marked_block b c (the_block more bytes, other) → CountedSoFar marker a c (rows + more) (number + 1)
one_more_block marker other a b c rows number more bytes same w h =
    let block : FileBlock = the_block more bytes in
    let x : Passed marked_block b c (block, marker) = subst (λ (m : List ℕ). Passed marked_block b c (block, m)) same h in
    record {
      blocks = w.blocks ++ block ∷ [];
      takes = record {
        bytes = w.takes.bytes ++ x.0;
        taken = takes_more a b c w.takes.bytes x.0 w.takes.taken x.1;
        sequence = one_more (IsFileBlock marker) w.takes.bytes x.0 w.blocks block w.takes.sequence x.2;
      };
      rows_are = omega (arith, w.rows_are, sum_by_push (λ (d : FileBlock). d.rows) w.blocks block);
      number_is = omega (arith, w.number_is, length-append w.blocks (block ∷ []));
    }

-- ---- a header, and the blocks after it

counts_file : (limit limit_after : ℕ) (source : Change) (root : Record) (marker : List ℕ) (taken faults : ℕ) (left : Option (List ℕ)) (counts : FileCounts)
    → ReadsMetadata (header_of limit source left faults) root marker taken
    → CountsBlocks marker (state left faults (limit - taken) None) (state source.bytes_after source.faults_after limit_after None) counts
    → CountsFile limit source counts
counts_file limit limit_after source root marker taken faults left counts reads all =
    let w = all.takes in
    let head = reads.header in
    let last : Consumes left source.bytes_after (w.bytes ++ []) = Consumes-trans left all.between.left source.bytes_after w.bytes [] w.taken.consumed all.ended.0.consumed in
    let rest : Consumes left source.bytes_after w.bytes = subst (Consumes left source.bytes_after) (append-nil w.bytes) last in
    record {
      bytes = head.bytes ++ w.bytes;
      taken = Consumes-trans source.bytes left source.bytes_after head.bytes w.bytes head.consumed rest;
      whole = all.ended.1;
      within = omega (arith, length-append head.bytes w.bytes, head.within, head.count_is, w.taken.limit);
      has = record {
        root = root;
        marker = marker;
        blocks = all.blocks;
        is_file = record { prefix = head.bytes; back = w.bytes; joined = refl; entries = head.entries; head = head.head; text = reads.text; schema = head.schema; means = reads.means; codec = head.codec; blocks = w.sequence };
        are = all.counted;
      };
    }

module _ (limit limit_after : ℕ) (source : Change) (root : Record) (marker other : List ℕ) (taken faults : ℕ) (left : Option (List ℕ)) (old new : State)
    (never_falls : source.faults ≤ faults) (reads : ReadsMetadata (header_of limit source left faults) root marker taken)
    (same : other ≡ marker) (from : old ≡ state left faults (limit - taken) None) (to : new ≡ state source.bytes_after source.faults_after limit_after None) where
  all_told : ◌≡◌ {A = List ℕ × State × State} (other, old, new) (marker, state left faults (limit - taken) None, state source.bytes_after source.faults_after limit_after None)
  all_told = λ i. (same i, from i, to i)

  pub if_counts : (r : Result FileCounts Error) → IfOk r (CountsBlocks other old new) → IfOk r (CountsFile limit source)
  if_counts (Ok counts) h =
      counts_file limit limit_after source root marker taken faults left counts reads
      (subst (λ (x : List ℕ × State × State). CountsBlocks x.0 x.1 x.2 counts) all_told h)
  if_counts (Err e) h = tt

  pub if_stops : (r : Result FileCounts Error) → IfErr r (StopsCounting other old new) → IfErr r (CountingFails limit source)
  if_stops (Ok counts) h = tt
  if_stops (Err e) h =
      inr (record {
        root = root;
        marker = marker;
        count = taken;
        left = left;
        faults = faults;
        never_falls = never_falls;
        reads = reads;
        limit_after = limit_after;
        stops = subst (λ (x : List ℕ × State × State). StopsCounting x.0 x.1 x.2 e) all_told h;
      })
