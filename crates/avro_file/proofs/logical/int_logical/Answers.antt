-- The name of the logical type is looked up in its table.
use Rattle.std.proofs.Common.{sym, ap, ◌∙◌}
use Rattle.json_tree.specs.Keys.{value_of}
use Rattle.avro_file.specs.Types.{int_logical, int_logicals}
use Rattle.avro_file.proofs.Tables.{none_of}
use Rattle.avro_file.proofs.logical.int_logical.Goals as goal

pub returns-in-date : goal.returns-in-date
unfolding int_logical
returns-in-date c = ap (λ name. value_of name int_logicals) (sym c.in-date.is ∙ c.logical_name.ensures)

pub returns-in-text : goal.returns-in-text
unfolding int_logical
returns-in-text c = ap (λ name. value_of name int_logicals) (sym c.in-text.is ∙ c.logical_name.ensures)

pub returns-in_default : goal.returns-in_default
unfolding int_logical
returns-in_default c = sym (none_of c.logical_name.result.now int_logicals (c.in_default.not-date, (c.in_default.not-text, tt))) ∙ ap (λ name. value_of name int_logicals) c.logical_name.ensures
