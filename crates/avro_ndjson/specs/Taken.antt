-- What was taken of a source and written to a sink, block after block, where blocks become lines.
use Rattle.std.specs.Prelude.{◌≡◌, ℕ, List, false, Option, ◌⊎◌}
use Rattle.arrow_core.specs.declared.error.Error.{Error}
use Rattle.arrow_core.specs.declared.error.Error.TheVariants.{InvalidArgumentError}
use Rattle.arrow_core.specs.declared.error.Reason.TheVariants.{DateRange}
use Rattle.arrow_core.specs.declared.slot.Slot.{Slot}
use Rattle.avro_container.specs.File.{FileBlock}
use Rattle.avro_container.specs.Taking.{State}
use Rattle.avro_container.specs.Changes.{Change}
use Rattle.avro_container.specs.Written as written
use Rattle.avro_schema.specs.Projected.{Projected, HasTable}
use Rattle.avro_schema.specs.Refusals.{BlockRefused}
use Rattle.avro_ndjson.specs.Shown.{dates_in_range, ShowsBlock}

-- one block after another was taken, and the lines of their rows, so many in all, were written
abbrev pub WritesBlocks : Projected → List ℕ → State → State → Option (List ℕ) → Option (List ℕ) → ℕ → Type 0
WritesBlocks p = written.WritesBlocks (written.WithAllRows (ShowsBlock p))

-- what is wrong with a block: it is refused as a block alone is, or shows a date that is in no year from 0 to 9999
abbrev pub BlockIsWrong : Projected → FileBlock → Error → Type 0
BlockIsWrong p block e =
    BlockRefused p.fields block.rows p.avro_fields p.projection block.bytes e
    ⊎ ((e ≡ InvalidArgumentError DateRange)
    × ((table : List (List Slot)) × HasTable p block.rows block.bytes table × (dates_in_range p table ≡ false)))

-- whole blocks were shown, and the next one was not: there is none, or it is wrong, or the sink failed within its lines
abbrev pub StopsAtBlock : Projected → List ℕ → State → State → Change → Error → Type 0
StopsAtBlock p = written.StopsAtBlock (written.WithAllRows (ShowsBlock p)) (BlockIsWrong p)
