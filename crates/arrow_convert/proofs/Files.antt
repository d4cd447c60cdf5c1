-- Canonical files that can be read, and what a sink got and a source told.
use Rattle.std.proofs.Common.{◌≡◌, ◌∙◌, ℕ, pos, ◌+◌, ◌^◌, ◌<◌, ◌≤◌, List, [], ◌∷◌, ◌++◌, length, codes, Option, Some, sym, ap, subst, length-append, arith}
use Rattle.std.specs.List.{AllByRecursion}
use Rattle.std.specs.Io.KnownBytes.{Appends, Consumes, IsAtEnd}
use Rattle.std.proofs.lemmas.List.{append-nil, append_cancel_left}
use Rattle.avro_schema.specs.declared.schema.Schema as schema
use Rattle.avro_schema.specs.declared.schema.Record.{Record}
use Rattle.avro_container.specs.Canonical as container
use Rattle.avro_container.specs.Canonical.{canonical_blocks, canonical_block, canonical_header, counted_bytes}
use Rattle.avro_container.specs.File.{FileBlock, magic}
use Rattle.avro_container.specs.Laws.{AllSmall}
use Rattle.avro_container.specs.Shortest.{shortest}
use Rattle.avro_container.specs.Changes.{Change}
use Rattle.avro_container.proofs.Reading.{consumed_some}
use Rattle.avro_file.specs.Writing.{schema_text_of}
use Rattle.avro_file.specs.File.{AvroFile, canonical_file}
use Rattle.avro_file.proofs.Roots.{canonical}
use Rattle.arrow_convert.specs.ReadAgain.{CanBeRead, Got}

-- ---- bytes that were told

-- what a sink got is what was appended
pub got_is : (sink : Change) (bytes text : List ℕ) → Got sink bytes → Appends sink.bytes sink.bytes_after text → bytes ≡ text
got_is sink bytes text g a =
    append_cancel_left g.before bytes text (subst (λ (x : Option (List ℕ) × Option (List ℕ)). Appends x.0 x.1 text) (λ i. (g.told i, g.after i)) a)

-- what was taken whole is all that was told
pub all_taken : (source : Change) (all taken : List ℕ) → source.bytes ≡ Some all → Consumes source.bytes source.bytes_after taken → IsAtEnd source.bytes_after → taken ≡ all
all_taken source all taken told c end =
    let t = consumed_some all taken source.bytes_after (subst (λ (z : Option (List ℕ)). Consumes z source.bytes_after taken) told c) in
    let none : t.0 ≡ [] = subst IsAtEnd t.1 end in
    sym (append-nil taken) ∙ ap (λ (z : List ℕ). taken ++ z) (sym none) ∙ sym t.2

-- ---- parts of a file are no longer than it

text_below : (text marker : List ℕ) (bs : List FileBlock) → length text ≤ length (container.canonical_file text marker bs)
text_below text marker bs =
    let last = shortest (pos 0) ++ marker in
    let written = shortest (pos (length text)) ++ (text ++ last) in
    let entry = counted_bytes (codes "avro.schema") ++ written in
    let entries = shortest (pos 1) ++ entry in
    let whole : length (container.canonical_file text marker bs) ≡ length (canonical_header text marker) + length (canonical_blocks marker bs) = length-append (canonical_header text marker) (canonical_blocks marker bs) in
    let header : length (canonical_header text marker) ≡ length magic + length entries = length-append magic entries in
    omega (arith, whole, header, length-append (shortest (pos 1)) entry, length-append (counted_bytes (codes "avro.schema")) written, length-append (shortest (pos (length text))) (text ++ last), length-append text last)

all_blocks_below : (text marker : List ℕ) (bs : List FileBlock) → length (canonical_blocks marker bs) ≤ length (container.canonical_file text marker bs)
all_blocks_below text marker bs =
    let whole : length (container.canonical_file text marker bs) ≡ length (canonical_header text marker) + length (canonical_blocks marker bs) = length-append (canonical_header text marker) (canonical_blocks marker bs) in
    omega (arith, whole)

blocks_below : (marker : List ℕ) (bs : List FileBlock) (n : ℕ) → length (canonical_blocks marker bs) ≤ n → AllByRecursion (λ (b : FileBlock). length b.bytes ≤ n) bs
blocks_below marker [] n h = tt
blocks_below marker (b ∷ bs) n h =
    let sized = shortest (pos (length b.bytes)) ++ (b.bytes ++ marker) in
    let all : length (canonical_blocks marker (b ∷ bs)) ≡ length (canonical_block marker b) + length (canonical_blocks marker bs) = length-append (canonical_block marker b) (canonical_blocks marker bs) in
    let one : length (canonical_block marker b) ≡ length (shortest (pos b.rows)) + length sized = length-append (shortest (pos b.rows)) sized in (
      omega (arith, h, all, one, length-append (shortest (pos (length b.bytes))) (b.bytes ++ marker), length-append b.bytes marker),
      blocks_below marker bs n (omega (arith, h, all)),
    )

-- each block has a byte for each row at least
abbrev pub AreFilled : List FileBlock → Type 0
AreFilled = AllByRecursion (λ (b : FileBlock). b.rows ≤ length b.bytes)

all_small : (bs : List FileBlock) (n : ℕ) → n < 2 ^ 63 → AllByRecursion (λ (b : FileBlock). length b.bytes ≤ n) bs → AreFilled bs → AllSmall bs
all_small [] n lt below filled = tt
all_small (b ∷ bs) n lt below filled = (omega (arith, lt, below.0, filled.0), omega (arith, lt, below.0), all_small bs n lt below.1 filled.1)

-- ---- a file

pub is_avro_file : (target : Record) (marker bytes : List ℕ) (bs : List FileBlock) → CanBeRead target marker bytes → bytes ≡ canonical_file target marker bs → AreFilled bs → AvroFile bytes target marker bs
is_avro_file target marker bytes bs can is filled =
    let text = schema_text_of (schema.Record target) in
    let size : length bytes ≡ length (container.canonical_file text marker bs) = ap length is in
    let small = all_small bs (length bytes) can.few (blocks_below marker bs (length bytes) (omega (arith, size, all_blocks_below text marker bs))) filled in
    subst (λ (b : List ℕ). AvroFile b target marker bs) (sym is) (canonical target marker bs can.writable (omega (arith, size, can.few, text_below text marker bs)) can.sixteen small)
