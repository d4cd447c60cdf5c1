use Rattle.std.proofs.Common.{◌∙◌, ap, arith, sym}
use Rattle.std.specs.Str.{bytes_eq}
use Rattle.first_seen.proofs.Indices.{below}
use Rattle.json_infer.specs.Columns.{with_type}
use Rattle.json_infer.proofs.Entries.{absent_column, written}
use Rattle.json_infer.proofs.columns.Columns.add.Goals as goal

pub index_mut-requires : goal.index_mut-requires
index_mut-requires c = omega (arith, below (bytes_eq c.args.name.now) 0 c.in-Some.at c.self.inside.names (sym c.in-Some.ensures), c.self.invariant, c.self.inside.types.ok.0)

pub add_name-requires : goal.add_name-requires
add_name-requires c = absent_column c.self.inside.names c.self.inside.types.items c.args.self.now c.args.name.now c.self.invariant c.self.view_is c.in-None.ensures

pub returns-in_ok-add_type-in-Some-clause-added : goal.returns-in_ok-add_type-in-Some-clause-added
returns-in_ok-add_type-in-Some-clause-added c =
    written c.self.inside.names c.self.inside.types.items c.args.name.now c.in-Some.at c.index_mut.result.now c.add_type.new.types c.args.data_type.now c.self.invariant (sym c.in-Some.ensures)
    c.index_mut.ensures.value c.in_ok-add_type-in-Some.ensures.added
    ∙ ap (λ cs. with_type cs c.args.name.now c.args.data_type.now) c.self.view_is
