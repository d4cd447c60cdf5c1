-- How the nodes of builders grow while they are filled, and what else of builders the decoder goes by. Contracts of
-- private functions alone cite this file.
use Rattle.std.specs.Prelude.{◌≡◌, ℕ, zero, suc, ◌+◌, ◌≤◌, ◌⊎◌, Bool, true, false, List, [], ◌∷◌, ◌++◌, length, Option, None, Some, ◌&&◌, if◌then◌else◌}
use Rattle.arrow_core.specs.Numbers.{greatest_offset}
use Rattle.arrow_core.specs.declared.types.IntegerType.TheVariants as integer
use Rattle.arrow_core.specs.declared.physical.PhysicalType.{PhysicalType}
use Rattle.arrow_core.specs.declared.physical.PhysicalType.TheVariants as physical
use Rattle.arrow_core.specs.declared.physical.PrimitiveType.TheVariants as primitive
use Rattle.arrow_builders.specs.MutableArrays.{builder_slots, nodes}
use Rattle.arrow_builders.specs.Nodes.{Node, Takes, HasSpare}
use Rattle.arrow_builders.specs.Shapes.{Shape, flat, lists, fixed_lists, records, field, shape}
use Rattle.arrow_builders.specs.Tight.{IsTight, AllTight}
use Rattle.arrow_builders.specs.declared.array.MutableArray.{MutableArray}
use Rattle.avro_schema.specs.declared.schema.AvroField.{AvroField}
use Rattle.avro_schema.specs.declared.schema.FixedLogical.{FixedLogical}
use Rattle.avro_schema.specs.declared.schema.FixedLogical.TheVariants as fixed_logical
use Rattle.avro_schema.specs.declared.schema.Schema.{Schema, Boolean, Int, Long, Bytes, String, Fixed, Record, Enum, Array'}
use Rattle.avro_schema.specs.Carried.{IsNoUnion}
use Rattle.avro_schema.specs.Encodes.{IsNull, is_null}
use Rattle.avro_decode.specs.Masks.{mask, bounded, later, content, total}
use Rattle.avro_decode.specs.Suits.{Suits}

-- n slots are added at most, and n content bytes where these are bounded; none goes, and no other capacity is lost
abbrev pub Fills : Bool → ℕ → Node → Node → Type 0
Fills true n x y = Takes n n x y
Fills false n x y = (b : ℕ) × Takes n b x y

abbrev pub AllFill : List Bool → ℕ → List Node → List Node → Type 0
AllFill ms n [] [] = Unit {0}
AllFill ms n (x ∷ xs) (y ∷ ys) = Fills (bounded ms) n x y × AllFill (later ms) n xs ys
AllFill ms n _ _ = ⊥

pub record Grows (ms : List Bool) (n : ℕ) (xs ys : List Node) : Type 0 where
  pub each : AllFill ms n xs ys
  pub all : content ms ys ≤ content ms xs + n

-- no offsets of the builders have 32 bits
abbrev pub all_large : Shape → Bool
all_large (flat physical.Utf8 data_type) = false
all_large (flat physical.Binary data_type) = false
all_large (lists physical.LargeList data_type item) = all_large item
all_large (lists kind data_type item) = false
all_large (fixed_lists data_type item) = all_large item
all_large (records data_type fields) = all_large fields
all_large (field first more) = all_large first && all_large more
all_large _ = true

-- offsets, of 64 bits where large, can count n more slots, and, where these are bounded, n more content bytes
abbrev pub Reaches : Bool → Bool → ℕ → Node → Type 0
Reaches large true n x = (x.slots + n ≤ greatest_offset large) × (x.bytes + n ≤ greatest_offset large)
Reaches large false n x = (x.slots + n ≤ greatest_offset large) × Unit {0}

abbrev pub AllReach : Bool → List Bool → ℕ → List Node → Type 0
AllReach large ms n [] = Unit {0}
AllReach large ms n (x ∷ xs) = Reaches large (bounded ms) n x × AllReach large (later ms) n xs

-- the same at each node of the builder
abbrev pub AllOffsetsReach : List Bool → ℕ → MutableArray → Type 0
AllOffsetsReach ms n b = AllReach (all_large (shape b)) ms n (nodes b)

-- each node's content is bounded, and has spare capacity for n more
abbrev pub HaveSpare : List Bool → ℕ → List Node → Type 0
HaveSpare ms n [] = Unit {0}
HaveSpare ms n (x ∷ xs) = (bounded ms ≡ true) × HasSpare n x × HaveSpare (later ms) n xs

-- the masks of a union's and of a record's builders, by members and fields as lists
abbrev pub mask_pair : List Schema → List Bool
mask_pair (a ∷ b ∷ []) = if is_null a then mask true b else mask true a
mask_pair _ = []

abbrev pub masks : Bool → List AvroField → List Bool
masks nulls [] = []
masks nulls (f ∷ fs) = mask nulls f.schema ++ masks nulls fs

-- ---- children side by side. Nulls come to them by their parent alone, where this stands beneath a union

abbrev pub BothFill : ℕ → List AvroField → List MutableArray → List MutableArray → Type 0
BothFill n [] [] [] = Unit {0}
BothFill n (f ∷ fs) (b ∷ bs) (c ∷ cs) = AllFill (mask false f.schema) n (nodes b) (nodes c) × BothFill n fs bs cs
BothFill n _ _ _ = ⊥

pub record ChildrenGrow (n : ℕ) (fields : List AvroField) (bs cs : List MutableArray) : Type 0 where
  pub each : BothFill n fields bs cs
  pub all : total fields cs ≤ total fields bs + n

abbrev pub ChildrenReach : ℕ → List AvroField → List MutableArray → Type 0
ChildrenReach n (f ∷ fs) (b ∷ bs) = AllOffsetsReach (mask true f.schema) n b × ChildrenReach n fs bs
ChildrenReach n _ _ = Unit {0}

abbrev pub ChildrenHaveSpare : ℕ → List AvroField → List MutableArray → Type 0
ChildrenHaveSpare n (f ∷ fs) (b ∷ bs) = HaveSpare (mask false f.schema) n (nodes b) × ChildrenHaveSpare n fs bs
ChildrenHaveSpare n _ _ = Unit {0}

-- ---- tight builders

-- the first k children have a slot more
abbrev pub PartTight : ℕ → ℕ → List MutableArray → Type 0
PartTight n zero bs = AllTight n bs
PartTight n (suc k) [] = Unit {0}
PartTight n (suc k) (b ∷ bs) = (length (builder_slots b) ≡ n + 1) × IsTight b × PartTight n k bs

-- ---- the kinds of builders

-- the builder takes the values of a union of these members
abbrev pub SuitsPair : List Schema → Shape → Type 0
SuitsPair (a ∷ b ∷ []) s = (IsNull a × Suits b s × IsNoUnion b) ⊎ (Suits a s × IsNoUnion a × IsNull b)
SuitsPair _ s = ⊥

-- the kind of a builder that takes a record's or an array's values
abbrev pub HasKindOf : Schema → PhysicalType → Type 0
HasKindOf (Record r) k = k ≡ physical.Struct
HasKindOf (Array' p item) k = (k ≡ physical.List) ⊎ (k ≡ physical.LargeList)
HasKindOf _ k = Unit {0}

abbrev pub fixed_kind : Option FixedLogical → PhysicalType
fixed_kind None = physical.FixedSizeBinary
fixed_kind (Some (fixed_logical.Decimal precision scale)) = physical.Primitive primitive.Int128
fixed_kind (Some fixed_logical.Duration) = physical.Primitive primitive.MonthDayNano

-- the same of flat values; strings and binary values have two kinds
abbrev pub HasFlatKind : Schema → PhysicalType → Type 0
HasFlatKind Boolean k = k ≡ physical.Boolean
HasFlatKind (Int logical) k = k ≡ physical.Primitive primitive.Int32
HasFlatKind (Long logical) k = k ≡ physical.Primitive primitive.Int64
HasFlatKind (Bytes None) k = (k ≡ physical.Binary) ⊎ (k ≡ physical.LargeBinary)
HasFlatKind (Bytes (Some decimal)) k = k ≡ physical.Primitive primitive.Int128
HasFlatKind (String logical) k = (k ≡ physical.Utf8) ⊎ (k ≡ physical.LargeUtf8)
HasFlatKind (Fixed f) k = k ≡ fixed_kind f.logical
HasFlatKind (Enum e) k = k ≡ physical.Dictionary integer.Int32
HasFlatKind _ k = Unit {0}
