-- The forms of a file's header and of its blocks. What is whole of them is `Header` and `MarkedBlock`.
use Rattle.std.specs.Prelude.{◌≡◌, ℕ, List}
use Rattle.std.specs.Str.{IsUtf8}
use Rattle.avro_schema.specs.Encodes.{Any}
use Rattle.avro_container.specs.Forms.{Form, raw, count, sized, both, meaning, blocks, sized_many_of}
use Rattle.avro_container.specs.File.{Entry, the_entry, magic, HeaderParts, header_parts, FileBlock, the_block}

abbrev pub key_form : Form (List ℕ)
key_form = meaning sized IsUtf8 (λ k. k)

abbrev pub after_key : List ℕ → Form Entry
after_key k = meaning sized Any (the_entry k)

abbrev pub entry : Form Entry
entry = both key_form after_key

-- cited by private contracts alone: entries of a stated number
abbrev pub sized_many : ℕ → Form (List Entry)
sized_many = sized_many_of entry

abbrev pub magic_form : Form (List ℕ)
magic_form = meaning (raw 4) (λ b. b ≡ magic) (λ b. b)

abbrev pub after_map : List Entry → Form HeaderParts
after_map es = meaning (raw 16) Any (header_parts es)

abbrev pub after_magic : Form HeaderParts
after_magic = both (blocks entry) after_map

abbrev pub header : Form HeaderParts
header = both magic_form (λ _. after_magic)

abbrev pub after_size : ℕ → ℕ → Form (FileBlock × List ℕ)
after_size n s = both (raw s) (λ b. meaning (raw 16) Any (λ m. (the_block n b, m)))

abbrev pub after_rows : ℕ → Form (FileBlock × List ℕ)
after_rows n = both count (after_size n)

-- a block of whatever marker: another one than the header's is refused once it is whole
abbrev pub marked_block : Form (FileBlock × List ℕ)
marked_block = both count after_rows
