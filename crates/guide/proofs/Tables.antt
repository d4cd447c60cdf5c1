-- The columns of a text.
use Rattle.std.proofs.Common.{◌≡◌, List, ℕ, Result, Ok, Err, IfOk}
use Rattle.arrow_array.specs.declared.array.Array.{Array}
use Rattle.arrow_core.specs.declared.error.Error.{Error}
use Rattle.arrow_core.specs.declared.types.Field.{Field}
use Rattle.json_columns.specs.Records.{IsTableOf}
use Rattle.json_infer.specs.Inferred.{records_fields}
use Rattle.json_tree.specs.Meaning.{IsJson}
use Rattle.json_tree.specs.declared.value.Value.{Value}
use Rattle.guide.specs.Records.{IsTableOfText}

pub if_table : (text : List ℕ) (json : Value) (fields : List Field) (r : Result (List Array) Error) → IsJson json text → records_fields json ≡ Ok fields → IfOk r (IsTableOf json fields) → IfOk r (IsTableOfText text)
if_table text json fields (Err e) stands inferred h = tt
if_table text json fields (Ok columns) stands inferred h = record { json = json; stands = stands; fields = fields; inferred = inferred; table = h }
