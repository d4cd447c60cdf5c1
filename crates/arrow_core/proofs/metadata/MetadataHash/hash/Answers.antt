-- A string hashes as its bytes.
use Rattle.std.proofs.Common.{sym, ap, ◌∙◌, ◌++◌}
use Rattle.std.specs.Hash as fed
use Rattle.std.specs.Cmp.Derive.Mapped.{items_map}
use Rattle.arrow_core.specs.Entries.{entry_bytes}
use Rattle.arrow_core.specs.EntryComparisons.{entries_hash}
use Rattle.arrow_core.proofs.metadata.MetadataHash.hash.Goals as goal

pub returns : goal.returns
returns g c =
    let by_bytes = items_map entry_bytes (λ e. fed.str e.0 ++ fed.str e.1) c.self.inside.texts.entries in
    fed.fed_along g.H.Hasher.write c.args.state.now c.hash.new.state (sym by_bytes ∙ ap entries_hash c.self.view_is) c.hash.ensures
