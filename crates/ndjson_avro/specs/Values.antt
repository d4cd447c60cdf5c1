-- The values of lines (RFC 8259).
use Rattle.std.specs.Prelude.{◌≡◌, ℕ, Bool, true, false, List, ◌∷◌, ◌++◌}
use Rattle.std.specs.List.{AllZip}
use Rattle.arrow_core.specs.declared.error.Error.{Error}
use Rattle.arrow_core.specs.declared.error.Error.TheVariants.{ExternalFormat, LimitExceeded, OutOfMemory}
use Rattle.arrow_core.specs.declared.error.Reason.TheVariants as reason
use Rattle.json_tree.specs.Meaning.{HoldsTooMany, IsJson, IsJsonText}
use Rattle.json_tree.specs.Tree.{Json}
use Rattle.json_tree.specs.declared.value.Object.{Object}
use Rattle.json_tree.specs.declared.value.Value.{Value, Value-F, out-Value}
use Rattle.json_tree.specs.declared.value.Value.TheOpen as layer

-- a value is an object (RFC 8259, section 4)
abbrev pub is_object_in : Value-F Value Object → Bool
is_object_in (layer.Object object) = true
is_object_in _ = false

abbrev pub is_object : Json → Bool
is_object value = is_object_in (out-Value value)

-- why a text has no value, by the error that says so
abbrev pub IsNoValue : List ℕ → Error → Type 0
IsNoValue text (ExternalFormat reason.Json) = (HoldsTooMany text → ⊥) × ((value : Json) → IsJsonText value text → ⊥)
IsNoValue text LimitExceeded = HoldsTooMany text
IsNoValue text OutOfMemory = Unit {0}
IsNoValue text _ = ⊥

-- the first text without a value
pub record FirstWithout (texts : List (List ℕ)) (e : Error) : Type 0 where
  pub before : List (List ℕ)
  pub text : List ℕ
  pub after : List (List ℕ)
  pub split : texts ≡ before ++ text ∷ after
  pub values : List Json
  pub have : AllZip IsJson values before
  pub fault : IsNoValue text e
