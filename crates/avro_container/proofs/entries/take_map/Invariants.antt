use Rattle.std.proofs.Common.{◌≡◌, List, codes, None}
use Rattle.avro_container.specs.File.{Entry}
use Rattle.avro_container.specs.Kept.{last_of}
use Rattle.avro_container.specs.FileForms.{entry}
use Rattle.avro_container.specs.Taking.{state}
use Rattle.avro_container.proofs.Manies.{Along}
use Rattle.avro_container.proofs.entries.take_map.Given as goal

abbrev pub invariant-loop-count : goal.invariant-loop-count
invariant-loop-count g l = record {
  entries : List Entry;
  along : Along entry (state (g.S.Source.left l.fn.source) (g.S.Source.faults l.fn.source) l.fn.allowed.limit l.fn.allowed.size_left) (state (g.S.Source.left l.source) (g.S.Source.faults l.source) l.allowed.limit l.allowed.size_left) entries;
  schema : l.found.schema ≡ last_of (codes "avro.schema") l.fn.found.schema entries;
  codec : l.found.codec ≡ last_of (codes "avro.codec") l.fn.found.codec entries;
  size_left : l.allowed.size_left ≡ None;
  same : g.S.Source.identity l.source ≡ g.S.Source.identity l.fn.source;
}

abbrev pub decreases-loop-count : goal.decreases-loop-count
decreases-loop-count g l = l.allowed.limit
