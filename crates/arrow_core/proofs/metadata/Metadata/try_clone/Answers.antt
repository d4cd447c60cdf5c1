-- The copied strings have the bytes of the map.
use Rattle.std.proofs.Common.{◌∙◌}
use Rattle.arrow_core.proofs.EntryViews.{copied_entries}
use Rattle.arrow_core.proofs.metadata.Metadata.try_clone.Goals as goal

pub returns-clause-copy : goal.returns-clause-copy
returns-clause-copy c = copied_entries _ _ c.in_ok-texts.ensures.cases ∙ c.self.view_is
