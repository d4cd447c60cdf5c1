-- The map takes the strings, and so their bytes. What a key has then is a law of entries.
use Rattle.std.proofs.Common.{◌≡◌, ◌∙◌, ap, map}
use Rattle.arrow_core.specs.Entries.{entry_bytes, value_at, with_value}
use Rattle.arrow_core.proofs.EntryLaws.{value_at-with_value, value_at-with_other}
use Rattle.arrow_core.proofs.EntryViews.{insertion_seen, ascending_seen}
use Rattle.arrow_core.proofs.metadata.Metadata.insert.Goals as goal

taken : (c : goal.Joined-branch-2) → map entry_bytes c.insert.new.self.entries ≡ with_value c.args.self.now c.args.key c.args.value
taken c =
    let seen = insertion_seen c.self.inside.texts.entries c.into_string.result c.into_string-2.result in
    ap (map entry_bytes) c.in_ok-insert.ensures.entries ∙ seen ∙ (λ i. with_value (c.self.view_is i) (c.into_string.ensures i) (c.into_string-2.ensures i))

pub returns-clause-inserted : goal.returns-clause-inserted
returns-clause-inserted c = taken c

pub returns-clause-found : goal.returns-clause-found
returns-clause-found c = ap (λ es. value_at es c.args.key) (taken c) ∙ value_at-with_value c.args.self.now c.args.key c.args.value

pub returns-clause-others : goal.returns-clause-others
returns-clause-others c other apart =
    ap (λ es. value_at es other) (taken c) ∙ value_at-with_other c.args.self.now c.args.key c.args.value other apart

pub returns-clause-ascending : goal.returns-clause-ascending
returns-clause-ascending c = ascending_seen _ c.in_ok-insert.ensures.ordered
