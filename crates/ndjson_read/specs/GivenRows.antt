-- What inferring the type of given rows answers.
use Rattle.std.specs.Prelude.{◌≡◌, ◌⊎◌, ℕ, List, [], ◌∷◌, ◌++◌, map, Option}
use Rattle.std.specs.Borrow.{Bor}
use Rattle.std.specs.Iterator.{Yields, Drains}
use Rattle.arrow_core.specs.declared.error.Error.{Error}
use Rattle.arrow_core.specs.declared.error.Error.TheVariants.{OutOfMemory}
use Rattle.arrow_core.specs.declared.types.DataType.{DataType}
use Rattle.json_tree.specs.declared.value.Value.{Value}
use Rattle.json_infer.specs.Inferred.{type_of_rows}
use Rattle.ndjson_read.specs.Needed.{StandFor}
use Rattle.ndjson_read.specs.Inference.{NoValue}

-- the texts of rows
abbrev pub texts_of : List (Bor (List ℕ)) → List (List ℕ)
texts_of rows = map (λ row. row.now) rows

-- of an iterator over rows, by what its calls give
module _ {I : Type 0} (next_gives : I → Option (Bor (List ℕ)) → I → Type 0) (rows : I) where
  -- the type of all rows that the iterator gave
  pub record InfersAll (data_type : DataType) : Type 0 where
    pub given : List (Bor (List ℕ))
    pub drained : Drains next_gives rows given
    pub values : List Value
    pub stand : StandFor (texts_of given) values
    pub inferred : data_type ≡ type_of_rows values

  -- the values of all rows that the iterator gave are such
  pub record StandsForAll (Stands : List Value → Type 0) : Type 0 where
    pub given : List (Bor (List ℕ))
    pub drained : Drains next_gives rows given
    pub values : List Value
    pub stand : StandFor (texts_of given) values
    pub kept : Stands values

  -- a row was given that stands for no value, and those before it stand for some
  pub record FailsAtRow (e : Error) : Type 0 where
    pub given : List (Bor (List ℕ))
    pub row : Bor (List ℕ)
    pub after : I
    pub yielded : Yields next_gives rows (given ++ row ∷ []) after
    pub values : List Value
    pub stand : StandFor (texts_of given) values
    pub fault : NoValue row.now e

  -- why there is no type
  abbrev pub FailsAt : Error → Type 0
  FailsAt e = FailsAtRow e ⊎ (e ≡ OutOfMemory)

  -- each row that the iterator may give stands for a value
  abbrev pub GivesValues : Type 0
  GivesValues = (given : List (Bor (List ℕ))) (after : I) → Yields next_gives rows given after → (values : List Value) × StandFor (texts_of given) values
