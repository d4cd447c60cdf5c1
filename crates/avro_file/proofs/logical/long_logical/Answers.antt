-- The name of the logical type is looked up in its table.
use Rattle.std.proofs.Common.{sym, ap, ◌∙◌}
use Rattle.json_tree.specs.Keys.{value_of}
use Rattle.avro_file.specs.Types.{long_logical, long_logicals}
use Rattle.avro_file.proofs.Tables.{none_of}
use Rattle.avro_file.proofs.logical.long_logical.Goals as goal

pub returns-in-text : goal.returns-in-text
unfolding long_logical
returns-in-text c = ap (λ name. value_of name long_logicals) (sym c.in-text.is ∙ c.logical_name.ensures)

pub returns-in-text-2 : goal.returns-in-text-2
unfolding long_logical
returns-in-text-2 c = ap (λ name. value_of name long_logicals) (sym c.in-text-2.is ∙ c.logical_name.ensures)

pub returns-in-text-3 : goal.returns-in-text-3
unfolding long_logical
returns-in-text-3 c = ap (λ name. value_of name long_logicals) (sym c.in-text-3.is ∙ c.logical_name.ensures)

pub returns-in-text-4 : goal.returns-in-text-4
unfolding long_logical
returns-in-text-4 c = ap (λ name. value_of name long_logicals) (sym c.in-text-4.is ∙ c.logical_name.ensures)

pub returns-in-text-5 : goal.returns-in-text-5
unfolding long_logical
returns-in-text-5 c = ap (λ name. value_of name long_logicals) (sym c.in-text-5.is ∙ c.logical_name.ensures)

pub returns-in-text-6 : goal.returns-in-text-6
unfolding long_logical
returns-in-text-6 c = ap (λ name. value_of name long_logicals) (sym c.in-text-6.is ∙ c.logical_name.ensures)

pub returns-in-text-7 : goal.returns-in-text-7
unfolding long_logical
returns-in-text-7 c = ap (λ name. value_of name long_logicals) (sym c.in-text-7.is ∙ c.logical_name.ensures)

pub returns-in_default : goal.returns-in_default
unfolding long_logical
returns-in_default c = sym (none_of c.logical_name.result.now long_logicals (c.in_default.not-text, (c.in_default.not-text-2, (c.in_default.not-text-3, (c.in_default.not-text-4, (c.in_default.not-text-5, (c.in_default.not-text-6, (c.in_default.not-text-7, tt)))))))) ∙ ap (λ name. value_of name long_logicals) c.logical_name.ensures
