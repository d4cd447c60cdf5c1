-- The map is looked up by the bytes of its keys.
use Rattle.std.proofs.Common.{◌∙◌, ap, Some, option_map, string_bytes}
use Rattle.arrow_core.specs.Entries.{value_at}
use Rattle.arrow_core.proofs.EntryViews.{value_seen}
use Rattle.arrow_core.proofs.metadata.Metadata.get.Goals as goal

pub returns-in-Some : goal.returns-in-Some
returns-in-Some c =
    let seen = value_seen c.self.inside.texts.entries c.args.key.now ∙ ap (λ es. value_at es c.args.key.now) c.self.view_is in
    ap Some c.as_str.ensures.value ∙ ap (option_map string_bytes) c.in-Some.ensures.value ∙ seen

pub returns-in-None : goal.returns-in-None
returns-in-None c =
    let seen = value_seen c.self.inside.texts.entries c.args.key.now ∙ ap (λ es. value_at es c.args.key.now) c.self.view_is in
    ap (option_map string_bytes) c.in-None.ensures.value ∙ seen
