use Rattle.std.proofs.Common.{IfOk, OnOk, subst, sym}
use Rattle.arrow_array.specs.Arrays.{array_slots}
use Rattle.arrow_array.specs.Dictionaries.{keys_slots}
use Rattle.json_flat.specs.Columns.{lent}
use Rattle.json_columns.specs.Dictionaries.{AreEncoded, TooManyDistinct}
use Rattle.json_flat.specs.Reading.{reading}
use Rattle.json_columns.proofs.dictionary.encode_values.Goals as goal

pub returns-in-Utf8-clause-slots : goal.returns-in-Utf8-clause-slots
returns-in-Utf8-clause-slots c =
    subst (λ t. IfOk c.encode_utf8.result (λ p. AreEncoded (reading t) (lent c.args.values.now) (keys_slots p.0) (array_slots p.1))) (sym c.in-Utf8.is) c.encode_utf8.ensures.slots

pub returns-in-LargeUtf8-clause-slots : goal.returns-in-LargeUtf8-clause-slots
returns-in-LargeUtf8-clause-slots c =
    subst (λ t. IfOk c.encode_large_utf8.result (λ p. AreEncoded (reading t) (lent c.args.values.now) (keys_slots p.0) (array_slots p.1))) (sym c.in-LargeUtf8.is) c.encode_large_utf8.ensures.slots

pub returns-in-Utf8-clause-counted : goal.returns-in-Utf8-clause-counted
returns-in-Utf8-clause-counted c = subst (λ t. OnOk c.encode_utf8.result (TooManyDistinct c.args.key t (lent c.args.values.now) → ⊥)) (sym c.in-Utf8.is) c.encode_utf8.ensures.counted

pub returns-in-LargeUtf8-clause-counted : goal.returns-in-LargeUtf8-clause-counted
returns-in-LargeUtf8-clause-counted c = subst (λ t. OnOk c.encode_large_utf8.result (TooManyDistinct c.args.key t (lent c.args.values.now) → ⊥)) (sym c.in-LargeUtf8.is) c.encode_large_utf8.ensures.counted

pub returns-in_ok-keys-in-Int8-clause-counted : goal.returns-in_ok-keys-in-Int8-clause-counted
returns-in_ok-keys-in-Int8-clause-counted c = subst (λ t. TooManyDistinct c.args.key t (lent c.args.values.now) → ⊥) (sym c.in-Int8.is) c.in_ok-keys-in-Int8.ensures.counted

pub returns-in_ok-keys-in-Int16-clause-counted : goal.returns-in_ok-keys-in-Int16-clause-counted
returns-in_ok-keys-in-Int16-clause-counted c = subst (λ t. TooManyDistinct c.args.key t (lent c.args.values.now) → ⊥) (sym c.in-Int16.is) c.in_ok-keys-in-Int16.ensures.counted

pub returns-in_ok-keys-in-Int32-clause-counted : goal.returns-in_ok-keys-in-Int32-clause-counted
returns-in_ok-keys-in-Int32-clause-counted c = subst (λ t. TooManyDistinct c.args.key t (lent c.args.values.now) → ⊥) (sym c.in-Int32.is) c.in_ok-keys-in-Int32.ensures.counted

pub returns-in_ok-keys-in-Int64-clause-counted : goal.returns-in_ok-keys-in-Int64-clause-counted
returns-in_ok-keys-in-Int64-clause-counted c = subst (λ t. TooManyDistinct c.args.key t (lent c.args.values.now) → ⊥) (sym c.in-Int64.is) c.in_ok-keys-in-Int64.ensures.counted
