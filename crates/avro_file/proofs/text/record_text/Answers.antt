-- The text of a record is that of its schema.
use Rattle.std.proofs.Common.{◌++◌, sym, ap, ◌∙◌}
use Rattle.avro_file.specs.Writing.{record_text_of}
use Rattle.avro_file.proofs.Texts.{text-Record}
use Rattle.avro_file.proofs.text.record_text.Goals as goal

pub returns-clause-text : goal.returns-clause-text
returns-clause-text c =
    c.from_vec.ensures ∙ c.in_ok-push_record.ensures.appended ∙ ap (λ t. t ++ record_text_of c.args.record.now) c.new-text.ensures.items ∙ sym (text-Record c.args.record.now)
