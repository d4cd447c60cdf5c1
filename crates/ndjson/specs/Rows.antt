-- The values that rows stand for, or the first row that stands for none.
use Rattle.std.specs.Prelude.{◌≡◌, ℕ, List, ◌∷◌, ◌++◌, Option}
use Rattle.std.specs.Borrow.{Bor}
use Rattle.std.specs.Iterator.{Drains}
use Rattle.arrow_core.specs.declared.error.Error.{Error}
use Rattle.json_tree.specs.Tree.{Json}
use Rattle.ndjson_read.specs.GivenRows.{texts_of}
use Rattle.ndjson_read.specs.Inference.{NoValue}
use Rattle.ndjson_read.specs.Needed.{StandFor}

-- this row stands for no value, by the error, and those before it stand for some; or there was no memory for it
pub record FailsAtRow (rows : List (List ℕ)) (e : Error) : Type 0 where
  pub before : List (List ℕ)
  pub row : List ℕ
  pub others : List (List ℕ)
  pub split : rows ≡ before ++ row ∷ others
  pub values : List Json
  pub stand : StandFor before values
  pub fault : NoValue row e

-- of an iterator over rows, by what its calls give
module _ {I : Type 0} (next_gives : I → Option (Bor (List ℕ)) → I → Type 0) (rows : I) where
  -- these are the values of all rows that the iterator gave
  pub record AllStandFor (values : List Json) : Type 0 where
    pub given : List (Bor (List ℕ))
    pub drained : Drains next_gives rows given
    pub stand : StandFor (texts_of given) values
