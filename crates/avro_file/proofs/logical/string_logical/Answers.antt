-- The name of the logical type is looked up in its table.
use Rattle.std.proofs.Common.{sym, ap, ◌∙◌}
use Rattle.json_tree.specs.Keys.{value_of}
use Rattle.avro_file.specs.Types.{string_logical, string_logicals}
use Rattle.avro_file.proofs.Tables.{none_of}
use Rattle.avro_file.proofs.logical.string_logical.Goals as goal

pub returns-in-uuid : goal.returns-in-uuid
unfolding string_logical
returns-in-uuid c = ap (λ name. value_of name string_logicals) (sym c.in-uuid.is ∙ c.logical_name.ensures)

pub returns-in_default : goal.returns-in_default
unfolding string_logical
returns-in_default c = sym (none_of c.logical_name.result.now string_logicals (c.in_default.not-uuid, tt)) ∙ ap (λ name. value_of name string_logicals) c.logical_name.ensures
