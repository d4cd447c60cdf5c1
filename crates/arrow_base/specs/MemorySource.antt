-- What contracts see of a source in memory.
use Rattle.std.specs.Prelude.{ℕ, List, drop}
use Rattle.arrow_base.specs.declared.memory_source.MemorySource.{MemorySource}

-- the bytes still to come
abbrev pub left_of : MemorySource → List ℕ
left_of source = drop source.pieces.at source.pieces.bytes

-- how many bytes a read gives at most
abbrev pub piece_of : MemorySource → ℕ
piece_of source = source.pieces.piece

-- the numbers of the reads that fail
abbrev pub failing_of : MemorySource → List ℕ
failing_of source = source.calls.failing

-- how many reads there were
abbrev pub reads_of : MemorySource → ℕ
reads_of source = source.calls.made

-- how many of them failed
abbrev pub faults_of : MemorySource → ℕ
faults_of source = source.faults.count
