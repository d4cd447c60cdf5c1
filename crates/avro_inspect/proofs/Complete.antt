-- Of a source whose bytes the contract knows: a file is counted, and has one count.
use Rattle.std.proofs.Common.{◌≡◌, ◌∙◌, inl, inr, ℕ, ◌+◌, ◌-◌, List, [], ◌∷◌, ◌++◌, length, Option, Some, None, refl, sym, ap, subst, length-append, arith}
use Rattle.std.specs.Prelude.{sum_by}
use Rattle.arrow_core.specs.declared.error.Error.{Error}
use Rattle.arrow_core.specs.declared.error.Error.TheVariants.{OutOfMemory}
use Rattle.avro_schema.specs.declared.schema.Schema as schema
use Rattle.avro_schema.specs.declared.schema.Record.{Record}
use Rattle.avro_container.specs.File.{FileBlock}
use Rattle.avro_container.specs.Laws.{told}
use Rattle.avro_container.specs.Taking.{State, state}
use Rattle.avro_container.proofs.OneFile.{one_file}
use Rattle.avro_file.specs.Writing.{schema_text_of}
use Rattle.avro_container.specs.Changes.{Change, change_of, header_of, IsTold, CameFromOutside}
use Rattle.avro_container.specs.Written.{BlockText, ShowBlocks, StopsAtBlock}
use Rattle.avro_container.proofs.Reading.{stops_for_memory}
use Rattle.avro_container.proofs.Steps.{rose_from}
use Rattle.avro_file.specs.File.{StandsFor, AvroFile}
use Rattle.avro_file.specs.Laws.{IsMetadata}
use Rattle.avro_file.proofs.Complete.{metadata_is_read, metadata_is_right}
use Rattle.avro_file.proofs.Roots.{one_root}
use Rattle.avro_inspect.specs.Counts.{NoNextBlock, CountingFails}
use Rattle.avro_inspect.specs.Laws.{FilesAreCounted, OneCount, SchemaIsRight}
use Rattle.avro_inspect.specs.Taken.{StopsCounting}

-- ---- counting is to write nothing of each block, where no block is wrong

abbrev Nothing : FileBlock → List ℕ → ℕ → Type 0
Nothing block text rows = text ≡ []

abbrev Never : FileBlock → Error → Type 0
Never block e = ⊥

abbrev Any : FileBlock → Type 0
Any block = Unit {0}

-- a sink that tells nothing, and doesn't fail
abbrev untold : Change
untold = change_of None 0 None 0

nothings : (blocks : List FileBlock) → (texts : List BlockText) × ShowBlocks Nothing blocks texts
nothings [] = ([], tt)
nothings (b ∷ blocks) = let more = nothings blocks in (record { text = []; rows = 0 } ∷ more.0, (refl, more.1))

as_written : (marker : List ℕ) (old new : State) (e : Error) → StopsCounting marker old new e → StopsAtBlock Nothing Never marker old new untold e
as_written marker old new e h = record {
  between = h.between;
  held = None;
  count = sum_by (λ (t : BlockText). t.rows) (nothings h.blocks).0;
  before = record { bytes = h.takes.bytes; taken = h.takes.taken; blocks = h.blocks; sequence = h.takes.sequence; texts = (nothings h.blocks).0; shows = (nothings h.blocks).1; written = tt; counted = refl };
  fails = inl (tt, inl h.no_next);
}

for_memory : (e : Error) → CameFromOutside untold e → e ≡ OutOfMemory
for_memory e (inl memory) = memory
for_memory e (inr (is, inl rose)) = absurd (omega (arith, rose))
for_memory e (inr (is, inr full)) = absurd (omega (arith, full))

-- ---- a file

module _ (bytes : List ℕ) (limit : ℕ) (source : Change) (e : Error) (tells : IsTold source limit bytes) (root : Record) (marker : List ℕ) (blocks : List FileBlock) (f : AvroFile bytes root marker blocks) where
  begins : IsMetadata f.prefix root marker
  begins = record { entries = f.entries; head = f.head; text = f.text; schema = f.schema; means = f.means; codec = f.codec }

  lengths : length bytes ≡ length f.prefix + length f.back
  lengths = ap length f.joined ∙ length-append f.prefix f.back

  at : source.bytes ≡ Some (f.prefix ++ f.back)
  at = tells.told ∙ ap (λ (z : List ℕ). Some z) f.joined

  stopped : NoNextBlock limit source e → e ≡ OutOfMemory
  stopped n =
      let r = metadata_is_right f.prefix f.back marker root (header_of limit source n.left n.faults) at begins n.marker n.root n.count n.reads in
      let new : State = state source.bytes_after source.faults_after n.limit_after None in
      let stops : StopsCounting marker (told f.back n.faults (limit - n.count)) new e =
      subst (λ (x : List ℕ × Option (List ℕ)). StopsCounting x.0 (state x.1 n.faults (limit - n.count) None) new e) (λ i. (r.1 i, r.3 i)) n.stops in
      for_memory e
      (stops_for_memory Nothing Never Any (λ block error any never. absurd never) marker f.back blocks n.faults (limit - n.count) new untold e f.blocks (λ k d low. tt) (omega (arith, lengths, tells.within, r.2))
      (λ rose. tells.steady (rose_from source.faults n.faults source.faults_after n.never_falls rose)) (as_written marker (told f.back n.faults (limit - n.count)) new e stops))

  counted : CountingFails limit source e → e ≡ OutOfMemory
  counted (inl fails) = metadata_is_read f.prefix f.back marker root (header_of limit source source.bytes_after source.faults_after) at begins (omega (arith, lengths, tells.within)) tells.steady e fails
  counted (inr n) = stopped n

pub files_are_counted : FilesAreCounted
files_are_counted bytes limit source e tells (root, marker, blocks, f) fails = counted bytes limit source e tells root marker blocks f fails

pub one_count : OneCount
one_count bytes counts other h d =
    let same = one_file StandsFor one_root bytes h.root d.root h.marker d.marker h.blocks d.blocks h.is_file d.is_file in
    let rows : counts.rows ≡ other.rows = h.are.rows ∙ ap (sum_by (λ (b : FileBlock). b.rows)) same.2 ∙ sym d.are.rows in
    let number : counts.blocks ≡ other.blocks = h.are.number ∙ ap length same.2 ∙ sym d.are.number in
    λ i. record { rows = rows i; blocks = number i }

-- ---- the schema

pub schema_is_right : SchemaIsRight
schema_is_right header rest marker text root c tells begins s =
    let r = metadata_is_right header rest marker root c tells begins s.marker s.root s.count s.reads in
    (s.written ∙ ap (λ (q : Record). schema_text_of (schema.Record q)) r.0, r.3)
