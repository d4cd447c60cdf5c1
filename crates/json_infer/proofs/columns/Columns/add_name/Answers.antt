use Rattle.std.proofs.Common.{◌∙◌, ◌++◌, ◌∷◌, [], ap}
use Rattle.std.specs.List.{zip}
use Rattle.std.specs.Str.{bytes_eq}
use Rattle.first_seen.specs.Keys.{index_of}
use Rattle.json_infer.specs.Columns.{with_type}
use Rattle.json_infer.proofs.Entries.{absent_name, added_name}
use Rattle.json_infer.proofs.columns.Columns.add_name.Goals as goal

pub push-requires-clause-absent : goal.push-requires-clause-absent
push-requires-clause-absent c =
    ap (index_of bytes_eq c.self.inside.names) c.in_ok-added.ensures.copy
    ∙ absent_name c.self.inside.names c.self.inside.types.items c.args.self.now c.args.name.now c.self.invariant c.self.view_is c.requires

pub returns-clause-added : goal.returns-clause-added
returns-clause-added c =
    let names = c.self.inside.names in
    let types = c.self.inside.types.items in
    let absent = absent_name names types c.args.self.now c.args.name.now c.self.invariant c.self.view_is c.requires in
    ap (λ us. zip c.push.new.self us) (c.push_reserved.ensures.items ∙ ap (λ us. us ++ c.add_type.new.types ∷ []) c.in_ok-reserve.ensures.items)
    ∙ added_name names c.push.new.self types c.args.name.now c.in_ok-added.added c.new-types.result c.add_type.new.types c.args.data_type.now c.self.invariant absent
    c.in_ok-added.ensures.copy c.new-types.ensures c.in_ok-add_type.ensures.added c.in_ok-push.ensures.pushed
    ∙ ap (λ cs. with_type cs c.args.name.now c.args.data_type.now) c.self.view_is
