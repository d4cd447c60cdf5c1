use Rattle.std.proofs.Common.{sym, ◌∙◌}
use Rattle.std.proofs.lemmas.Result.{on_ok_weaker}
use Rattle.json_infer.specs.Parts.{same}
use Rattle.json_infer.proofs.Entries.{type_added, type_kept}
use Rattle.json_infer.proofs.columns.add_type.Goals as goal

pub returns-then-is_some-clause-added : goal.returns-then-is_some-clause-added
unfolding same
returns-then-is_some-clause-added c = type_kept c.args.types.now c.args.data_type.now c.index_of.result c.index_of.ensures (sym c.is_some.ensures ∙ c.if-is_some.true)

pub returns-clause-added : goal.returns-clause-added
unfolding same
returns-clause-added c =
    on_ok_weaker c.push.result
    (type_added c.args.types.now c.push.new.self c.args.data_type.now c.in_ok-added.added c.index_of.result c.index_of.ensures (sym c.is_some.ensures ∙ c.if-is_some.false) c.in_ok-added.ensures.copy)
    c.push.ensures.pushed
