use Rattle.std.proofs.Common.{true}
use Rattle.std.proofs.lemmas.Result.{err_from_is_err_and}
use Rattle.arrow_array.specs.Dictionaries.{keys_slots}
use Rattle.arrow_core.specs.Numbers.{greatest_offset}
use Rattle.arrow_dictionaries.specs.Encoding.{HasTooLongStrings}
use Rattle.json_flat.specs.Columns.{IsTooLong, lent}
use Rattle.json_flat.specs.Meaning.{text_in}
use Rattle.json_columns.proofs.Counting.{few_encoded}
use Rattle.json_columns.proofs.DictionaryColumns.{encoded, long_fault, read_fault}
use Rattle.json_columns.proofs.dictionary.encode_texts.Goals as goal

pub returns-in_err-array-clause-err : goal.returns-in_err-array-clause-err
returns-in_err-array-clause-err g c =
    let p = err_from_is_err_and c.from_residual.result c.from_residual.ensures.1 in
    rw (p.1, p.2) (read_fault text_in c.args.key (HasTooLongStrings (greatest_offset g.O.Offset.IS_LARGE)) (IsTooLong (greatest_offset true) text_in (lent c.args.values.now)) (lent c.args.values.now) _ c.in_err-array.ensures.err)

pub returns-clause-slots : goal.returns-clause-slots
returns-clause-slots g c =
    encoded text_in (lent c.args.values.now) c.in_ok-array.array.slots (λ p. (keys_slots p.0, p.1.slots)) c.encode_strings.result c.in_ok-array.ensures.slots c.encode_strings.ensures.slots

pub returns-clause-counted : goal.returns-clause-counted
returns-clause-counted g c =
    few_encoded text_in c.args.key (HasTooLongStrings (greatest_offset g.O.Offset.IS_LARGE)) (IsTooLong (greatest_offset true) text_in (lent c.args.values.now)) (lent c.args.values.now) c.in_ok-array.array.slots c.encode_strings.result c.in_ok-array.ensures.slots c.encode_strings.ensures.few
    c.encode_strings.ensures.counted c.in_ok-array.ensures.counted

pub returns-clause-err : goal.returns-clause-err
returns-clause-err g c =
    long_fault text_in c.args.key (HasTooLongStrings (greatest_offset g.O.Offset.IS_LARGE)) (IsTooLong (greatest_offset true) text_in (lent c.args.values.now)) (lent c.args.values.now) c.in_ok-array.array.slots c.encode_strings.result c.in_ok-array.ensures.slots c.encode_strings.ensures.err
