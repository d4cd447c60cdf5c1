-- What contracts see of a sink in memory.
use Rattle.std.specs.Prelude.{ℕ, List}
use Rattle.arrow_base.specs.declared.memory_sink.MemorySink.{MemorySink}

-- the bytes taken
abbrev pub held_of : MemorySink → List ℕ
held_of sink = sink.bytes.items

-- how many bytes it takes in all
abbrev pub capacity_of : MemorySink → ℕ
capacity_of sink = sink.capacity

-- how many bytes a write takes at most
abbrev pub piece_of : MemorySink → ℕ
piece_of sink = sink.piece

-- the numbers of the writes that fail
abbrev pub failing_of : MemorySink → List ℕ
failing_of sink = sink.calls.failing

-- how many writes there were
abbrev pub writes_of : MemorySink → ℕ
writes_of sink = sink.calls.made

-- how many of them failed
abbrev pub faults_of : MemorySink → ℕ
faults_of sink = sink.faults.count
