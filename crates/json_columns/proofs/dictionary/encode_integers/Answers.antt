use Rattle.std.proofs.lemmas.Result.{err_from_is_err_and}
use Rattle.arrow_array.specs.Dictionaries.{keys_slots}
use Rattle.json_flat.specs.Columns.{lent}
use Rattle.json_flat.specs.Meaning.{whole_in}
use Rattle.json_columns.proofs.Counting.{always, few_encoded}
use Rattle.json_columns.proofs.DictionaryColumns.{encoded, many_faults, read_fault, typed}
use Rattle.json_columns.proofs.dictionary.encode_integers.Goals as goal

pub returns-in_err-array-clause-err : goal.returns-in_err-array-clause-err
returns-in_err-array-clause-err g c =
    let p = err_from_is_err_and c.from_residual.result c.from_residual.ensures.1 in
    rw (p.1, p.2) (read_fault (whole_in g.T.WholeNumber.low g.T.WholeNumber.high) c.args.key (λ _. ⊥) ⊥ (lent c.args.values.now) _ c.in_err-array.ensures.err)

pub returns-clause-slots : goal.returns-clause-slots
returns-clause-slots g c =
    encoded (whole_in g.T.WholeNumber.low g.T.WholeNumber.high) (lent c.args.values.now) c.in_ok-array.array.slots (λ p. (keys_slots p.0, p.1.slots)) c.encode_primitives.result c.in_ok-array.ensures.slots c.encode_primitives.ensures.slots

pub returns-clause-counted : goal.returns-clause-counted
returns-clause-counted g c =
    few_encoded (whole_in g.T.WholeNumber.low g.T.WholeNumber.high) c.args.key (λ _. ⊥) ⊥ (lent c.args.values.now) c.in_ok-array.array.slots c.encode_primitives.result c.in_ok-array.ensures.slots c.encode_primitives.ensures.few
    (always c.encode_primitives.result (⊥ → ⊥) (λ h. h)) (λ h. h)

pub returns-clause-err : goal.returns-clause-err
returns-clause-err g c =
    many_faults (whole_in g.T.WholeNumber.low g.T.WholeNumber.high) c.args.key (λ _. ⊥) ⊥ (lent c.args.values.now) c.in_ok-array.array.slots c.encode_primitives.result c.in_ok-array.ensures.slots c.encode_primitives.ensures.err

pub returns-clause-data_type : goal.returns-clause-data_type
returns-clause-data_type g c =
    typed c.encode_primitives.result (λ p. p.1.data_type) c.in_ok-array.array.data_type c.args.data_type.now c.in_ok-array.ensures.data_type c.encode_primitives.ensures.data_type
