use Rattle.std.proofs.Common.{◌≡◌, List, ℕ, codes}
use Rattle.avro_schema.specs.Parts.{Many}
use Rattle.avro_container.specs.File.{Entry}
use Rattle.avro_container.specs.Kept.{last_of}
use Rattle.avro_container.specs.FileForms.{entry}
use Rattle.avro_container.specs.Taking.{state, Takes}
use Rattle.avro_container.proofs.entries.take_entries.Given as goal

abbrev pub invariant-loop-index : goal.invariant-loop-index
invariant-loop-index g l = record {
  taken : List ℕ;
  entries : List Entry;
  takes : Takes (state (g.S.Source.left l.fn.source) (g.S.Source.faults l.fn.source) l.fn.allowed.limit l.fn.allowed.size_left) (state (g.S.Source.left l.source) (g.S.Source.faults l.source) l.allowed.limit l.allowed.size_left) taken;
  so_far : Many entry.whole l.index taken entries;
  schema : l.found.schema ≡ last_of (codes "avro.schema") l.fn.found.schema entries;
  codec : l.found.codec ≡ last_of (codes "avro.codec") l.fn.found.codec entries;
  same : g.S.Source.identity l.source ≡ g.S.Source.identity l.fn.source;
}
