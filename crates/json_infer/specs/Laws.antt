-- Laws of the definitions.
use Rattle.std.specs.Prelude.{◌≡◌, List}
use Rattle.arrow_core.specs.declared.types.DataType.{DataType}
use Rattle.json_tree.specs.declared.value.Value.{Value}
use Rattle.json_infer.specs.declared.seen.Seen.TheVariants as seen
use Rattle.json_infer.specs.Lists.{distinct, EachOnce, SameMembers}
use Rattle.json_infer.specs.Parts.{same}
use Rattle.json_infer.specs.Coercion.{by_rules, coerce}
use Rattle.json_infer.specs.Inferred.{type_of_rows}
use Rattle.json_infer.specs.UpToOrder.{SameUpToOrder}
use Rattle.json_infer.specs.Seen.{seen_after, result_of}

-- Each list of types is coerced by the first rule that applies, and so are the parts of the types.
abbrev pub CoercionRules : Type 0
CoercionRules = (ts : List DataType) → coerce ts ≡ by_rules coerce ts

-- The same types, each once, in another order are coerced to the same type but for the order of fields.
abbrev pub AnyOrder : Type 0
AnyOrder = (ts us : List DataType) → EachOnce ts → EachOnce us → SameMembers ts us → SameUpToOrder (coerce ts) (coerce us)

-- So are the types of the same rows in another order, however often each stands.
abbrev pub RowsInAnyOrder : Type 0
RowsInAnyOrder = (rows others : List Value) → SameMembers rows others → SameUpToOrder (type_of_rows rows) (type_of_rows others)

-- What is kept of types that come one at a time tells what the distinct ones are coerced to.
abbrev pub OneAtATime : Type 0
OneAtATime = (ts : List DataType) → coerce (distinct same ts) ≡ result_of (seen_after seen.Nothing ts)
