-- Which builders take the values of a schema, by the kinds of the builder and of its children at every depth, and by
-- the values of a dictionary; data types do not count, but for the size of fixed-size binary values, and that those of
-- strings and binary values are of the builder's kind.
use Rattle.std.specs.Prelude.{◌≡◌, List, [], ◌∷◌, ◌⊎◌, map, Option, None, Some}
use Rattle.arrow_core.specs.declared.slot.Slot.TheVariants as slot
use Rattle.arrow_core.specs.declared.types.DataType.TheVariants as types
use Rattle.arrow_core.specs.declared.physical.PhysicalType.TheVariants as physical
use Rattle.arrow_core.specs.declared.physical.PrimitiveType.TheVariants as primitive
use Rattle.arrow_array.specs.Parts.{byte_width}
use Rattle.arrow_builders.specs.Shapes.{Shape, flat, dictionary, lists, records, no_field, field, shape as shape_of}
use Rattle.arrow_builders.specs.declared.array.MutableArray.{MutableArray}
use Rattle.avro_schema.specs.declared.schema.AvroField.{AvroField}
use Rattle.avro_schema.specs.declared.schema.FixedLogical.{FixedLogical}
use Rattle.avro_schema.specs.declared.schema.FixedLogical.TheVariants as fixed_logical
use Rattle.avro_schema.specs.declared.schema.Schema.{Schema, Boolean, Int, Long, Bytes, String, Record, Enum, Fixed, Array', Union', Row_of-Schema, end_of-Schema, more_of-Schema}
use Rattle.avro_schema.specs.declared.schema.Record.{Record as TheRecord, Record', Row_of-AvroField, end_of-AvroField, more_of-AvroField}
use Rattle.avro_schema.specs.Carried.{IsNoUnion, IsFixedSize, HasFields}
use Rattle.avro_schema.specs.Encodes.{IsNull}
use Rattle.avro_schema.specs.ValidBlock.{SymbolsFit}

abbrev pub IsFixedDecimal : Option FixedLogical → Type 0
IsFixedDecimal (Some (fixed_logical.Decimal precision scale)) = Unit {0}
IsFixedDecimal _ = ⊥

abbrev mutual
  pub Suits : Schema → Shape → Type 0
  Suits Boolean (flat physical.Boolean t) = Unit {0}
  Suits (Int logical) (flat (physical.Primitive primitive.Int32) t) = Unit {0}
  Suits (Long logical) (flat (physical.Primitive primitive.Int64) t) = Unit {0}
  Suits (Bytes None) (flat physical.Binary t) = t ≡ types.Binary
  Suits (Bytes None) (flat physical.LargeBinary t) = t ≡ types.LargeBinary
  Suits (Bytes (Some decimal)) (flat (physical.Primitive primitive.Int128) t) = Unit {0}
  Suits (String logical) (flat physical.Utf8 t) = t ≡ types.Utf8
  Suits (String logical) (flat physical.LargeUtf8 t) = t ≡ types.LargeUtf8
  Suits (Fixed f) (flat physical.FixedSizeBinary t) = (f.logical ≡ None) × IsFixedSize f.size f.logical × (byte_width t ≡ f.size)
  Suits (Fixed f) (flat (physical.Primitive primitive.Int128) t) = IsFixedDecimal f.logical × IsFixedSize f.size f.logical
  Suits (Fixed f) (flat (physical.Primitive primitive.MonthDayNano) t) = (f.logical ≡ Some fixed_logical.Duration) × IsFixedSize f.size f.logical
  Suits (Enum e) (dictionary t items) = SymbolsFit e × (items ≡ map slot.String e.symbols)
  Suits (Record r) (records t fields) = SuitsRecord r fields
  Suits (Array' shape item) (lists physical.List t s) = SuitsItem item s
  Suits (Array' shape item) (lists physical.LargeList t s) = SuitsItem item s
  Suits (Union' shape members) s = SuitsMembers members s
  Suits _ _ = ⊥

  pub SuitsRecord : TheRecord → Shape → Type 0
  SuitsRecord (Record' name namespace doc shape fields) s = HasFields fields × SuitsFields fields s

  pub SuitsItem : {m : _} → Row_of-Schema m → Shape → Type 0
  SuitsItem end_of-Schema s = ⊥
  SuitsItem (more_of-Schema item rest) s = Suits item s

  -- one member is null, and the other no union
  pub SuitsMembers : {m : _} → Row_of-Schema m → Shape → Type 0
  SuitsMembers (more_of-Schema a (more_of-Schema b end_of-Schema)) s = (IsNull a × Suits b s × IsNoUnion b) ⊎ (Suits a s × IsNoUnion a × IsNull b)
  SuitsMembers _ s = ⊥

  pub SuitsFields : {m : _} → Row_of-AvroField m → Shape → Type 0
  SuitsFields end_of-AvroField no_field = Unit {0}
  SuitsFields (more_of-AvroField name doc s rest) (field first more) = Suits s first × SuitsFields rest more
  SuitsFields _ _ = ⊥

-- each builder takes the values of its field
abbrev pub AllSuit : List AvroField → List MutableArray → Type 0
AllSuit [] [] = Unit {0}
AllSuit (f ∷ fs) (b ∷ bs) = Suits f.schema (shape_of b) × AllSuit fs bs
AllSuit _ _ = ⊥
