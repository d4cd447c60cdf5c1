-- The order of the strings is the order of their bytes.
use Rattle.std.proofs.Common.{sym, ◌∙◌}
use Rattle.std.specs.Cmp.Derive.Mapped.{lex_map}
use Rattle.arrow_core.specs.Entries.{entry_bytes}
use Rattle.arrow_core.specs.EntryComparisons.{entry_cmp, entries_cmp}
use Rattle.arrow_core.proofs.metadata.MetadataOrd.cmp.Goals as goal

pub returns : goal.returns
returns c =
    let by_bytes = lex_map entry_bytes entry_cmp c.self.inside.texts.entries c.other.inside.texts.entries in
    c.cmp.ensures ∙ sym by_bytes ∙ (λ i. entries_cmp (c.self.view_is i) (c.other.view_is i))
