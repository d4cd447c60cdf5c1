-- The columns of a JSON array of objects.
use Rattle.std.specs.Prelude.{◌≡◌, ℕ, List, Ok}
use Rattle.arrow_array.specs.declared.array.Array.{Array}
use Rattle.arrow_core.specs.declared.types.Field.{Field}
use Rattle.json_columns.specs.Records.{IsTableOf}
use Rattle.json_infer.specs.Inferred.{records_fields}
use Rattle.json_tree.specs.Meaning.{IsJson}
use Rattle.json_tree.specs.declared.value.Value.{Value}

-- the text is an array of records, the first of which tells the fields, and the columns are those of the records
pub record IsTableOfText (text : List ℕ) (columns : List Array) : Type 0 where
  pub json : Value
  pub stands : IsJson json text
  pub fields : List Field
  pub inferred : records_fields json ≡ Ok fields
  pub table : IsTableOf json fields columns
