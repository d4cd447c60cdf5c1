-- What is appended of a value by a plan, and what was read where it was. Contracts of private functions cite
-- this file, and `IsLinePlanOf`, by which the contracts of a `LinePlan` say which plan it is.
use Rattle.std.specs.Prelude.{◌≡◌, ◌⊎◌, ◌+◌, ◌<◌, ◌^◌, ℕ, zero, suc, ℤ, pos, negsuc, Bool, true, false, cond, List, [], ◌∷◌, ◌++◌, length, get_or, Option, Some, None}
use Rattle.std.specs.List.{AllZip}
use Rattle.std.specs.Str.{IsUtf8}
use Rattle.avro_container.specs.Shortest.{shortest}
use Rattle.avro_encode.specs.Pairs.{IsCounted}
use Rattle.avro_encode.specs.Plain.{counted}
use Rattle.json_tree.specs.Meaning.{IsJson}
use Rattle.json_tree.specs.Reading.{Outcome, found, array_at, value_at}
use Rattle.json_tree.specs.Tree.{Json, null, boolean, number, string, array, object}
use Rattle.json_flat.specs.Whole.{whole_value, within}
use Rattle.json_lend.specs.Fields.{values_of}
use Rattle.line_encode.specs.declared.plan.Primitive.{Primitive}
use Rattle.line_encode.specs.declared.plan.Primitive.TheVariants as primitive
use Rattle.line_encode.specs.declared.plan.Plan.{Plan, Primitive as PrimitivePlan, List', Record', Row_of-Plan, end_of-Plan, more_of-Plan}

-- which bytes stand for a value
abbrev pub Form : Type 1
Form = Json → List ℕ → Type 0

-- ---- values without others in them

-- the index of a value's schema in a union, where there is one
abbrev pub index : Bool → List ℕ
index true = 2 ∷ []
index false = []

-- where there is a union of null and another schema, null has the index 0 and a value the index 1 (Avro 1.11, "Unions")
abbrev pub OrNull : Bool → Form → Form
OrNull true Held value bytes = ((value ≡ null) × (bytes ≡ 0 ∷ [])) ⊎ ((rest : List ℕ) × (bytes ≡ 2 ∷ rest) × Held value rest)
OrNull false Held value bytes = Held value bytes

abbrev pub WritesBoolean : Form
WritesBoolean value bytes = (b : Bool) × (value ≡ boolean b) × (bytes ≡ cond b 1 0 ∷ [])

-- a number whose whole value lies between these
abbrev pub WritesInteger : ℤ → ℤ → Form
WritesInteger low high value bytes =
    (mantissa : List ℕ) × (exponent : List ℕ) × (n : ℤ) × (value ≡ number mantissa exponent) × (within low high (whole_value mantissa exponent) ≡ Some n) × (bytes ≡ shortest n)

abbrev pub WritesBytes : Form
WritesBytes value bytes = (text : List ℕ) × (value ≡ string text) × IsUtf8 text × IsCounted text × (bytes ≡ counted text)

abbrev pub WritesPrimitive : Primitive → Form
WritesPrimitive primitive.Boolean = WritesBoolean
WritesPrimitive primitive.Int = WritesInteger (negsuc 2147483647) (pos 2147483647)
WritesPrimitive primitive.Long = WritesInteger (negsuc 9223372036854775807) (pos 9223372036854775807)
WritesPrimitive primitive.Bytes = WritesBytes

-- ---- values with others in them

-- what stands for each, one after another
abbrev pub WritesAll : {A : Type 0} → (A → List ℕ → Type 0) → List A → List ℕ → Type 0
WritesAll Writes [] bytes = bytes ≡ []
WritesAll Writes (x ∷ xs) bytes = (first : List ℕ) × (more : List ℕ) × (bytes ≡ first ++ more) × Writes x first × WritesAll Writes xs more

-- a list's items as one block (Avro 1.11, "Arrays")
abbrev pub block : ℕ → List ℕ → List ℕ
block zero items = shortest (pos 0)
block (suc n) items = shortest (pos (suc n)) ++ (items ++ shortest (pos 0))

abbrev pub WritesList : Form → Form
WritesList Item value bytes =
    (items : List Json) × (content : List ℕ) × (value ≡ array items) × IsCounted items × WritesAll Item items content × (bytes ≡ block (length items) content)

abbrev pub is_nullable : Plan → Bool
is_nullable (PrimitivePlan nullable primitive) = nullable
is_nullable (List' nullable shape item) = nullable
is_nullable (Record' nullable names shape fields) = nullable

abbrev mutual
  -- by a plan, of a value that isn't null
  pub WritesHeld : Plan → Json → List ℕ → Type 0
  WritesHeld (PrimitivePlan nullable primitive) value bytes = WritesPrimitive primitive value bytes
  WritesHeld (List' nullable shape item) value bytes = WritesList (OrNull (is_nullable item) (WritesHeld item)) value bytes
  WritesHeld (Record' nullable names shape fields) value bytes =
      (members : List (List ℕ × Json)) × (value ≡ object members) × WritesRow fields (values_of members names) bytes

  -- of each field's value
  pub WritesRow : {m : _} → Row_of-Plan m → List Json → List ℕ → Type 0
  WritesRow end_of-Plan [] bytes = bytes ≡ []
  WritesRow (more_of-Plan plan rest) (value ∷ values) bytes =
      (first : List ℕ) × (more : List ℕ) × (bytes ≡ first ++ more) × OrNull (is_nullable plan) (WritesHeld plan) value first × WritesRow rest values more
  WritesRow _ _ bytes = ⊥

-- by a plan, of any value
abbrev pub Writes : Plan → Json → List ℕ → Type 0
Writes plan = OrNull (is_nullable plan) (WritesHeld plan)

-- the same of each field's value, by the list of plans that code sees
abbrev pub WritesFields : List Plan → List Json → List ℕ → Type 0
WritesFields [] [] bytes = bytes ≡ []
WritesFields (plan ∷ plans) (value ∷ values) bytes =
    (first : List ℕ) × (more : List ℕ) × (bytes ≡ first ++ more) × Writes plan value first × WritesFields plans values more
WritesFields _ _ bytes = ⊥

abbrev pub WritesRecord : List (List ℕ) → List Plan → Json → List ℕ → Type 0
WritesRecord names plans value bytes = (members : List (List ℕ × Json)) × (value ≡ object members) × WritesFields plans (values_of members names) bytes

-- ---- the fields before an index

-- as many values, each null
abbrev pub AreNull : List Plan → List Json → Type 0
AreNull [] [] = Unit {0}
AreNull (plan ∷ plans) (value ∷ values) = (value ≡ null) × AreNull plans values
AreNull _ _ = ⊥

-- what stands for the first n fields' values, where the others are null
abbrev pub WritesFirst : ℕ → List Plan → List Json → List ℕ → Type 0
WritesFirst zero plans values bytes = (bytes ≡ []) × AreNull plans values
WritesFirst (suc n) (plan ∷ plans) (value ∷ values) bytes =
    (first : List ℕ) × (more : List ℕ) × (bytes ≡ first ++ more) × Writes plan value first × WritesFirst n plans values more
WritesFirst (suc n) _ _ bytes = ⊥

-- ---- what is appended

abbrev pub Adds : (List ℕ → Type 0) → List ℕ → List ℕ → Type 0
Adds Are old new = (bytes : List ℕ) × (new ≡ old ++ bytes) × Are bytes

-- a value was read, and what stands for it was appended
abbrev pub Reads : (Json → List ℕ → Type 0) → (List ℕ → Outcome Json) → List ℕ → List ℕ → List ℕ → List ℕ → Type 0
Reads Writes read before after old new = (value : Json) × (read before ≡ found value after) × Adds (Writes value) old new

-- `count` items were read up to the closing bracket
abbrev pub ReadsItems : (Json → List ℕ → Type 0) → ℕ → ℕ → List ℕ → List ℕ → List ℕ → List ℕ → Type 0
ReadsItems Item depth count before after old new =
    (items : List Json) × (array_at (value_at depth) before ≡ found (array items) after) × (length items ≡ count) × (count < 2 ^ 63) × Adds (WritesAll Item items) old new

-- the block of `count` items, which stand after a zero at the index
abbrev pub Blocks : ℕ → ℕ → List ℕ → List ℕ → Type 0
Blocks start count old new =
    (before : List ℕ) (items : List ℕ) → length before ≡ start → old ≡ (before ++ 0 ∷ []) ++ items → (count ≡ 0 → items ≡ []) → new ≡ before ++ block count items

-- null was appended for each field from `from` to before `to`: after the encodings of the fields before `from` these bytes give the encodings of the fields before `to`
abbrev pub Fills : List Plan → ℕ → ℕ → List ℕ → List ℕ → Type 0
Fills plans from to old new =
    (bytes : List ℕ) × (new ≡ old ++ bytes) × ((values : List Json) (before : List ℕ) → WritesFirst from plans values before → WritesFirst to plans values (before ++ bytes))

-- what is appended of a field's value: null for those before it, and then its own; nothing where it is of no field
abbrev pub AddsField : Option ℕ → List Plan → ℕ → ℕ → Json → List ℕ → List ℕ → Type 0
AddsField None plans from to value old new = (to ≡ from) × (new ≡ old)
AddsField (Some i) plans from to value old new =
    (to ≡ i + 1) × (plan : Plan) × (plan ≡ get_or plans i plan) × (mid : List ℕ) × Fills plans from i old mid × Adds (Writes plan value) mid new

-- a value was read, and appended where it is of a field
abbrev pub ReadsField : ℕ → Option ℕ → List Plan → ℕ → ℕ → List ℕ → List ℕ → List ℕ → List ℕ → Type 0
ReadsField depth at plans from to before after old new = (value : Json) × (value_at depth before ≡ found value after) × AddsField at plans from to value old new

-- ---- lines

abbrev pub WritesMembers : List (List ℕ) → List Plan → List (List ℕ × Json) → List ℕ → Type 0
WritesMembers names plans members bytes = WritesFields plans (values_of members names) bytes

-- a line is an object, and its row was appended
abbrev pub PushesLine : List (List ℕ) → List Plan → List ℕ → List ℕ → List ℕ → Type 0
PushesLine names plans line old new = (members : List (List ℕ × Json)) × IsJson (object members) line × Adds (WritesMembers names plans members) old new

abbrev pub AreObjects : List (List (List ℕ × Json)) → List (List ℕ) → Type 0
AreObjects rows lines = AllZip (λ members line. IsJson (object members) line) rows lines

abbrev pub PushesLines : List (List ℕ) → List Plan → List (List ℕ) → List ℕ → List ℕ → Type 0
PushesLines names plans lines old new =
    (rows : List (List (List ℕ × Json))) × AreObjects rows lines × Adds (WritesAll (WritesMembers names plans) rows) old new
