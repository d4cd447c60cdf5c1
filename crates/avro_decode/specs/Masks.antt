-- Which content bytes of a builder are bounded by the bytes of its values. A fixed-size binary value that is null takes
-- as many content bytes as any other, though it has no byte in the encoding (Arrow columnar format, "Fixed-size
-- Primitive Layout"), so beneath a union, and beneath a record in one, such values may hold more content bytes
-- than were read. Elsewhere a content byte is a byte that was read. Decimals and durations hold no content bytes.
use Rattle.std.specs.Prelude.{ℕ, ◌+◌, Bool, true, false, IsTrue, List, [], ◌∷◌, ◌++◌, Option, None, Some, All, if◌then◌else◌}
use Rattle.arrow_builders.specs.MutableArrays.{nodes}
use Rattle.arrow_builders.specs.Nodes.{Node}
use Rattle.arrow_builders.specs.declared.array.MutableArray.{MutableArray}
use Rattle.avro_schema.specs.declared.schema.AvroField.{AvroField}
use Rattle.avro_schema.specs.declared.schema.FixedLogical.{FixedLogical}
use Rattle.avro_schema.specs.declared.schema.Schema.{Schema, Record, Array', Union', Fixed, Row_of-Schema, end_of-Schema, more_of-Schema}
use Rattle.avro_schema.specs.declared.schema.Record.{Record as TheRecord, Record', Row_of-AvroField, end_of-AvroField, more_of-AvroField}
use Rattle.avro_schema.specs.Encodes.{is_null}

-- whether the content of a fixed type's node is bounded by the bytes that are read
abbrev pub fixed_bounded : Bool → Option FixedLogical → Bool
fixed_bounded false logical = true
fixed_bounded true None = false
fixed_bounded true (Some logical) = true

-- For each node of a schema's builder, in preorder, whether its content is so bounded; `nulls` says whether nulls
-- can come to the node.
abbrev mutual
  pub mask : Bool → Schema → List Bool
  mask nulls (Record r) = true ∷ mask_record nulls r
  mask nulls (Array' shape item) = true ∷ mask_item item
  mask nulls (Union' shape members) = mask_members members
  mask nulls (Fixed f) = fixed_bounded nulls f.logical ∷ []
  mask nulls _ = true ∷ []

  pub mask_record : Bool → TheRecord → List Bool
  mask_record nulls (Record' name namespace doc shape fields) = mask_fields nulls fields

  -- no null comes to the items of an array by the array
  pub mask_item : {m : _} → Row_of-Schema m → List Bool
  mask_item end_of-Schema = []
  mask_item (more_of-Schema s rest) = mask false s

  -- null comes to the other member
  pub mask_members : {m : _} → Row_of-Schema m → List Bool
  mask_members (more_of-Schema a (more_of-Schema b end_of-Schema)) = if is_null a then mask true b else mask true a
  mask_members _ = []

  pub mask_fields : {m : _} → Bool → Row_of-AvroField m → List Bool
  mask_fields nulls end_of-AvroField = []
  mask_fields nulls (more_of-AvroField name doc s rest) = mask nulls s ++ mask_fields nulls rest

-- what stands first in a mask, and what follows it; where it ends, all is bounded
abbrev pub bounded : List Bool → Bool
bounded [] = true
bounded (m ∷ ms) = m

abbrev pub later : List Bool → List Bool
later [] = []
later (m ∷ ms) = ms

-- the content bytes that are bounded
abbrev pub content : List Bool → List Node → ℕ
content ms [] = 0
content ms (x ∷ xs) = (if bounded ms then x.bytes else 0) + content (later ms) xs

-- those of builders, each of its field
abbrev pub total : List AvroField → List MutableArray → ℕ
total (f ∷ fs) (b ∷ bs) = content (mask false f.schema) (nodes b) + total fs bs
total _ _ = 0

-- the bytes of these fields bound all of their content
abbrev pub BytesBoundContent : List AvroField → Type 0
BytesBoundContent fields = All (λ f. All IsTrue (mask false f.schema)) fields
