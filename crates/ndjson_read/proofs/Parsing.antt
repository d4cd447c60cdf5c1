-- What parsing a row answers, and the type of no rows.
use Rattle.std.proofs.Common.{◌≡◌, ◌≢◌, ℕ, ◌<◌, ◌≤◌, inl, inr, List, [], length, take, Some, Result, Ok, Err, IfOk, OnOk, refl, sym, subst, length-take, arith}
use Rattle.std.specs.Prelude.{IsUtf8}
use Rattle.std.specs.Io.KnownBytes.{Consumes}
use Rattle.std.proofs.lemmas.List.Elements.{All-nil}
use Rattle.arrow_core.specs.declared.error.Error.{Error}
use Rattle.arrow_core.specs.declared.types.DataType as data_type
use Rattle.json_tree.specs.declared.value.Value.{Value}
use Rattle.json_tree.specs.declared.value.JsonFault.{JsonFault}
use Rattle.json_tree.specs.declared.value.JsonFault.TheVariants.{Text, Depth, Memory}
use Rattle.json_tree.specs.Meaning.{HoldsTooMany, IsJson, IsJsonText, IsErrorOf}
use Rattle.json_infer.proofs.Turns.{coerce_none}
use Rattle.ndjson_read.specs.Inference.{Told, NoValue, InfersType}

-- why a row stands for no value, by the fault that parsing it gave
pub no_value : (row : List ℕ) (fault : JsonFault) (e : Error) → IsErrorOf fault e → (fault ≡ Depth → HoldsTooMany row) → (fault ≡ Text → HoldsTooMany row → ⊥)
    → (fault ≡ Text → (value : Value) → IsJsonText value row → ⊥) → NoValue row e
no_value row Text e is deep not_deep text = subst (NoValue row) (sym is) (not_deep refl, text refl)
no_value row Depth e is deep not_deep text = subst (NoValue row) (sym is) (deep refl)
no_value row Memory e is deep not_deep text = subst (NoValue row) (sym is) tt

-- the value of a row, with what is said of it
pub with_value : {T E : Type 0} (row : List ℕ) (value : Value) (Said : Value → Type 0) (r : Result T E) → IsJson value row → OnOk r (Said value)
    → IfOk r (λ _. (v : Value) × IsJson v row × Said v)
with_value row value Said (Ok x) json said = (value, json, said)
with_value row value Said (Err e) json said = tt

-- of no rows one byte was taken
pub one_byte : (byte_limit : ℕ) (old new : Told) (n : ℕ) (buffer : List ℕ) → Consumes old.left new.left (take n buffer) → n ≢ 0 → n ≤ 1 → length buffer ≡ 1 → 0 < byte_limit → old.faults ≤ new.faults
    → InfersType (Some 0) byte_limit old new data_type.Null
one_byte byte_limit old new n buffer consumed some few size may_take faults =
    let one : length (take n buffer) ≡ 1 = omega (arith, length-take n buffer, some, few, size) in
    record {
      taken = take n buffer;
      values = [];
      takes = record { consumed = consumed; limit = omega (arith, one, may_take); faults = faults };
      some = omega (arith, one);
      no_more = omega (arith, one);
      utf8 = All-nil IsUtf8;
      rows = tt;
      enough = inl (refl, inr refl);
      inferred = sym coerce_none;
    }
