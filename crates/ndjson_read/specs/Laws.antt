-- Laws of the types of lines.
use Rattle.std.specs.Prelude.{◌≡◌, ◌⊎◌, ℕ, List, Option, Some}
use Rattle.arrow_base.specs.Outside.{RoseOrFull}
use Rattle.arrow_core.specs.declared.error.Error.{Error}
use Rattle.arrow_core.specs.declared.error.Error.TheVariants.{OutOfMemory}
use Rattle.arrow_core.specs.declared.types.DataType.{DataType}
use Rattle.json_tree.specs.declared.value.Value.{Value}
use Rattle.json_infer.specs.Lists.{SameMembers}
use Rattle.json_infer.specs.Inferred.{type_of_rows}
use Rattle.json_infer.specs.UpToOrder.{SameUpToOrder}
use Rattle.ndjson_read.specs.Inference.{Told, InfersType, NoType}
use Rattle.ndjson_read.specs.Needed.{StandFor}

-- The types of the same lines in another order, however often each stands, are the same but for the order of fields.
abbrev pub LinesInAnyOrder : Type 0
LinesInAnyOrder =
    (rows others : List (List ℕ)) (values other_values : List Value) → StandFor rows values → StandFor others other_values → SameMembers rows others
    → SameUpToOrder (type_of_rows values) (type_of_rows other_values)

-- Where rows stand for values, so do the same rows in another order, however often each stands.
abbrev pub ValuesInAnyOrder : Type 0
ValuesInAnyOrder =
    (rows others : List (List ℕ)) (values : List Value) → StandFor rows values → SameMembers rows others → (other_values : List Value) × StandFor others other_values

-- the source told these bytes, and didn't fail in the call
pub record IsTold (bytes : List ℕ) (old new : Told) : Type 0 where
  pub told : old.left ≡ Some bytes
  pub steady : RoseOrFull old.faults new.faults → ⊥

-- Of bytes that two sources told one error is answered at most, under one number of rows and one limit, out of memory aside.
abbrev pub OneErrorComes : Type 0
OneErrorComes =
    (number : Option ℕ) (byte_limit : ℕ) (bytes : List ℕ) (old new other another : Told) (e d : Error) → IsTold bytes old new → IsTold bytes other another
    → NoType number byte_limit old new e → NoType number byte_limit other another d → (e ≡ d) ⊎ (e ≡ OutOfMemory) ⊎ (d ≡ OutOfMemory)

-- Where a type is answered of such bytes, no other error than out of memory is.
abbrev pub TypeOrError : Type 0
TypeOrError =
    (number : Option ℕ) (byte_limit : ℕ) (bytes : List ℕ) (old new other another : Told) (data_type : DataType) (e : Error) → IsTold bytes old new → IsTold bytes other another
    → InfersType number byte_limit old new data_type → NoType number byte_limit other another e → e ≡ OutOfMemory

-- And no other type is.
abbrev pub OneTypeComes : Type 0
OneTypeComes =
    (number : Option ℕ) (byte_limit : ℕ) (bytes : List ℕ) (old new other another : Told) (data_type another_type : DataType) → IsTold bytes old new → IsTold bytes other another
    → InfersType number byte_limit old new data_type → InfersType number byte_limit other another another_type → data_type ≡ another_type
