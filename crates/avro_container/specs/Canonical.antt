-- The canonical file (Avro 1.11, "Object Container Files"): each number in its shortest encoding, and one entry
-- in the header.
use Rattle.std.specs.Prelude.{ℕ, pos, List, [], ◌∷◌, ◌++◌, length, codes}
use Rattle.avro_container.specs.Shortest.{shortest}
use Rattle.avro_container.specs.File.{FileBlock, magic}

-- bytes after their length
abbrev pub counted_bytes : List ℕ → List ℕ
counted_bytes bytes = shortest (pos (length bytes)) ++ bytes

-- a block: its count of rows, its size, its bytes and the marker
abbrev pub canonical_block : List ℕ → FileBlock → List ℕ
canonical_block marker b = shortest (pos b.rows) ++ (shortest (pos (length b.bytes)) ++ (b.bytes ++ marker))

-- the header of one entry, `avro.schema`, of this schema text
abbrev pub canonical_header : List ℕ → List ℕ → List ℕ
canonical_header text marker =
    magic ++ (shortest (pos 1) ++ (counted_bytes (codes "avro.schema") ++ (shortest (pos (length text)) ++ (text ++ (shortest (pos 0) ++ marker)))))

abbrev pub canonical_blocks : List ℕ → List FileBlock → List ℕ
canonical_blocks marker [] = []
canonical_blocks marker (b ∷ bs) = canonical_block marker b ++ canonical_blocks marker bs

abbrev pub canonical_file : List ℕ → List ℕ → List FileBlock → List ℕ
canonical_file text marker bs = canonical_header text marker ++ canonical_blocks marker bs
