-- Strings are equal exactly where their bytes are.
use Rattle.std.proofs.Common.{sym, ◌∙◌}
use Rattle.std.specs.Cmp.Derive.Mapped.{pointwise-map}
use Rattle.arrow_core.specs.Entries.{entry_bytes}
use Rattle.arrow_core.specs.EntryComparisons.{entry_eq, entries_eq}
use Rattle.arrow_core.proofs.metadata.MetadataPartialEq.eq.Goals as goal

pub returns : goal.returns
returns c =
    let by_bytes = pointwise-map entry_bytes entry_eq c.self.inside.texts.entries c.other.inside.texts.entries in
    c.eq.ensures ∙ sym by_bytes ∙ (λ i. entries_eq (c.self.view_is i) (c.other.view_is i))
