-- What a JSON value can be where a schema is asked for (Avro 1.11, "Schema Declaration").
use Rattle.std.specs.Prelude.{List, [], ◌∷◌, Option, Some, None}

pub data Outcome (A : Type 0) : Type 0 where
  -- it has the wrong form
  wrong : Outcome A
  -- it has the form of a schema, and a type in it is given by reference
  reference : Outcome A
  -- it stands for this
  found : A → Outcome A

-- the same, with f of what was found
abbrev pub then_for : {A B : Type 0} → (A → B) → Outcome A → Outcome B
then_for f wrong = wrong
then_for f reference = reference
then_for f (found x) = found (f x)

-- what f makes of one that is there; where it is missing, the form is wrong
abbrev pub need : {A B : Type 0} → Option A → (A → Outcome B) → Outcome B
need None f = wrong
need (Some x) f = f x

-- one more before these: the wrong form of any is the wrong form of all, and a reference in any is one in all
abbrev pub one_more : {A : Type 0} → Outcome A → Outcome (List A) → Outcome (List A)
one_more wrong more = wrong
one_more reference wrong = wrong
one_more reference reference = reference
one_more reference (found xs) = reference
one_more (found x) more = then_for (λ xs. x ∷ xs) more

-- all of them
abbrev pub each : {A : Type 0} → List (Outcome A) → Outcome (List A)
each [] = found []
each (one ∷ more) = one_more one (each more)
