-- The values of builders' dictionaries are the symbols of the schemas that they suit.
use Rattle.std.proofs.Common.{◌≡◌, ◌∙◌, Bool, Some, None, List, [], ◌∷◌, ◌++◌, map, Result, Ok, Err, IfOk, refl, sym, ap, subst, inl, inr}
use Rattle.std.proofs.lemmas.List.{append-nil, map-append}
use Rattle.arrow_core.specs.declared.slot.Slot.{Slot}
use Rattle.arrow_core.specs.declared.physical.PhysicalType.TheVariants as physical
use Rattle.arrow_array.specs.Arrays.{dictionaries_of}
use Rattle.arrow_array.specs.declared.array.Array.{Array as AnyArray}
use Rattle.arrow_builders.specs.MutableArrays.{builder_dictionaries, dictionaries_below}
use Rattle.arrow_builders.specs.Shapes.{Shape, flat, dictionary, lists, fixed_lists, records, no_field, field, shape, shapes_below}
use Rattle.arrow_builders.specs.declared.array.MutableArray.{MutableArray, List', LargeList', FixedSizeList', Struct', Row_of-MutableArray, end_of-MutableArray, more_of-MutableArray}
use Rattle.arrow_builders.specs.declared.array.MutableArray.{Null as NullOf, Boolean as BooleanOf, Int8, Int16, Int32, Int64, UInt8, UInt16, UInt32, UInt64, Int128, MonthDayNano, Utf8, LargeUtf8, Binary, LargeBinary, FixedSizeBinary, Dictionary}
use Rattle.avro_schema.specs.declared.schema.AvroField.{AvroField}
use Rattle.avro_schema.specs.declared.schema.Record.{Record as TheRecord, Record', Row_of-AvroField, end_of-AvroField, more_of-AvroField}
use Rattle.avro_schema.specs.declared.schema.Schema.{Schema, Null, Boolean, Int, Long, Bytes, String, Enum, Record, Array', Union', Fixed, Row_of-Schema, end_of-Schema, more_of-Schema}
use Rattle.avro_schema.specs.Encodes.{IsNull}
use Rattle.avro_schema.specs.ValidBlock.{kept}
use Rattle.avro_decode.specs.Suits.{Suits, SuitsFields, SuitsRecord, SuitsItem, SuitsMembers, AllSuit}
use Rattle.avro_decode.specs.Symbols.{symbols_in, symbols_in_record, symbols_in_fields, symbols_in_item, symbols_in_members, kept_symbols, dictionary_values}

-- ---- a shape tells the values of dictionaries

abbrev items_in : Shape → List (List Slot)
items_in (dictionary t items) = items ∷ []
items_in (lists k t item) = items_in item
items_in (fixed_lists t item) = items_in item
items_in (records t fs) = items_in fs
items_in (field first more) = items_in first ++ items_in more
items_in _ = []

abbrev values : List (List Slot × List Slot) → List (List Slot)
values ds = map (λ d. d.1) ds

mutual
  values_in : (b : MutableArray) → values (builder_dictionaries b) ≡ items_in (shape b)
  values_in (List' l p child) = values_in child
  values_in (LargeList' l p child) = values_in child
  values_in (FixedSizeList' m p child) = values_in child
  values_in (Struct' m p row) = values_below row
  values_in (NullOf b) = refl
  values_in (BooleanOf b) = refl
  values_in (Int8 b) = refl
  values_in (Int16 b) = refl
  values_in (Int32 b) = refl
  values_in (Int64 b) = refl
  values_in (UInt8 b) = refl
  values_in (UInt16 b) = refl
  values_in (UInt32 b) = refl
  values_in (UInt64 b) = refl
  values_in (Int128 b) = refl
  values_in (MonthDayNano b) = refl
  values_in (Utf8 b) = refl
  values_in (LargeUtf8 b) = refl
  values_in (Binary b) = refl
  values_in (LargeBinary b) = refl
  values_in (FixedSizeBinary b) = refl
  values_in (Dictionary b) = refl

  values_below : {m : _} (row : Row_of-MutableArray m) → values (dictionaries_below row) ≡ items_in (shapes_below row)
  values_below end_of-MutableArray = refl
  values_below (more_of-MutableArray b rest) =
      map-append (λ (d : List Slot × List Slot). d.1) (builder_dictionaries b) (dictionaries_below rest)
      ∙ ap (λ (xs : List (List Slot)). xs ++ values (dictionaries_below rest)) (values_in b)
      ∙ ap (λ (xs : List (List Slot)). items_in (shape b) ++ xs) (values_below rest)

-- ---- where the shape suits a schema, they are its symbols

null_symbols : (s : Schema) → IsNull s → symbols_in s ≡ []
null_symbols Null h = refl
null_symbols _ h = absurd h

mutual
  symbols_suit : (s : Schema) (sh : Shape) → Suits s sh → items_in sh ≡ symbols_in s
  symbols_suit Boolean (flat k t) h = refl
  symbols_suit (Int logical) (flat k t) h = refl
  symbols_suit (Long logical) (flat k t) h = refl
  symbols_suit (Bytes logical) (flat k t) h = refl
  symbols_suit (String logical) (flat k t) h = refl
  symbols_suit (Enum e) (dictionary t items) h = ap (λ (xs : List Slot). xs ∷ []) h.1
  symbols_suit (Fixed f) (flat k t) h = refl
  symbols_suit (Record r) (records t fs) h = record_symbols r fs h
  symbols_suit (Array' p item) (lists physical.List t s) h = item_symbols item s h
  symbols_suit (Array' p item) (lists physical.LargeList t s) h = item_symbols item s h
  symbols_suit (Union' p members) s h = members_symbols members s h
  symbols_suit (Bytes None) _ h = absurd h
  symbols_suit (Bytes (Some decimal)) _ h = absurd h
  symbols_suit _ _ h = absurd h

  record_symbols : (r : TheRecord) (sh : Shape) → SuitsRecord r sh → items_in sh ≡ symbols_in_record r
  record_symbols (Record' name namespace doc p fields) sh h = fields_symbols fields sh h.1

  item_symbols : {m : _} (item : Row_of-Schema m) (sh : Shape) → SuitsItem item sh → items_in sh ≡ symbols_in_item item
  item_symbols end_of-Schema sh h = absurd h
  item_symbols (more_of-Schema s rest) sh h = symbols_suit s sh h

  members_symbols : {m : _} (row : Row_of-Schema m) (sh : Shape) → SuitsMembers row sh → items_in sh ≡ symbols_in_members row
  members_symbols (more_of-Schema a (more_of-Schema b end_of-Schema)) sh (inl h) =
      symbols_suit b sh h.1 ∙ sym (append-nil (symbols_in b)) ∙ ap (λ (xs : List (List Slot)). xs ++ (symbols_in b ++ [])) (sym (null_symbols a h.0))
  members_symbols (more_of-Schema a (more_of-Schema b end_of-Schema)) sh (inr h) =
      symbols_suit a sh h.0 ∙ sym (append-nil (symbols_in a)) ∙ ap (λ (xs : List (List Slot)). symbols_in a ++ (xs ++ [])) (sym (null_symbols b h.2))
  members_symbols _ sh h = absurd h

  fields_symbols : {m : _} (row : Row_of-AvroField m) (sh : Shape) → SuitsFields row sh → items_in sh ≡ symbols_in_fields row
  fields_symbols end_of-AvroField no_field h = refl
  fields_symbols (more_of-AvroField name doc s rest) (field first more) h =
      ap (λ (xs : List (List Slot)). xs ++ items_in more) (symbols_suit s first h.0)
      ∙ ap (λ (xs : List (List Slot)). symbols_in s ++ xs) (fields_symbols rest more h.1)
  fields_symbols _ _ h = absurd h

-- ---- the arrays of builders

builders_symbols : (fs : List AvroField) (bs : List MutableArray) → AllSuit fs bs → map (λ b. values (builder_dictionaries b)) bs ≡ map (λ f. symbols_in f.schema) fs
builders_symbols [] [] h = refl
builders_symbols [] (b ∷ bs) h = absurd h
builders_symbols (f ∷ fs) [] h = absurd h
builders_symbols (f ∷ fs) (b ∷ bs) h =
    ap (λ (xs : List (List Slot)). xs ∷ map (λ b. values (builder_dictionaries b)) bs) (values_in b ∙ symbols_suit f.schema (shape b) h.0)
    ∙ ap (λ (xs : List (List (List Slot))). symbols_in f.schema ∷ xs) (builders_symbols fs bs h.1)

values_each : {A : Type 0} (f : A → List (List Slot × List Slot)) (xs : List A) → map (λ x. values (f x)) xs ≡ map values (map f xs)
values_each f [] = refl
values_each f (x ∷ xs) = ap (λ (ys : List (List (List Slot))). values (f x) ∷ ys) (values_each f xs)

pub decoded_symbols : (fs : List AvroField) (projection : List Bool) (bs : List MutableArray) (arrays : List AnyArray) → AllSuit (kept fs projection) bs → map dictionaries_of arrays ≡ map builder_dictionaries bs → map dictionary_values arrays ≡ kept_symbols fs projection
decoded_symbols fs projection bs arrays h e =
    values_each dictionaries_of arrays ∙ ap (map values) e ∙ sym (values_each builder_dictionaries bs) ∙ builders_symbols (kept fs projection) bs h

-- what holds of the arrays holds of their chunk
pub of_chunk : {C E : Type 0} (P : C → Type 0) (r : Result C E) (x : C) → IfOk r (λ c. c ≡ x) → P x → IfOk r P
of_chunk P (Ok c) x e h = subst P (sym e) h
of_chunk P (Err z) x e h = tt
