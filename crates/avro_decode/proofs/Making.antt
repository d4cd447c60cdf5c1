-- Which schemas and data types stand in a schema that can be kept, and the builder that is made for it.
use Rattle.std.proofs.Common.{◌≡◌, ◌∙◌, ◌⊎◌, inl, inr, suc, ◌<◌, ◌≤◌, Bool, false, true, Option, None, Some, List, [], ◌∷◌, length, map, All, refl, sym, ap, subst, arith}
use Rattle.std.specs.Prelude.{sum_by}
use Rattle.std.proofs.lemmas.Bool.{cases_lt}
use Rattle.std.proofs.lemmas.List.Elements.{All-cons}
use Rattle.arrow_core.specs.declared.physical.PhysicalType.{PhysicalType}
use Rattle.arrow_core.specs.declared.physical.PhysicalType.TheVariants as physical
use Rattle.arrow_core.specs.declared.types.Field.{Field}
use Rattle.arrow_core.specs.declared.types.DataType.{DataType, List', LargeList', Struct', items-the_row-Field, items_hidden-the_row-Field-1}
use Rattle.arrow_core.specs.declared.types.DataType as data_type
use Rattle.arrow_core.specs.declared.types.IntervalUnit.TheVariants as interval
use Rattle.arrow_core.specs.declared.types.DataType.TheBlock.{shape-the_row-Field-0, hidden-the_row-Field-0}
use Rattle.arrow_core.specs.Layouts.{physical_type}
use Rattle.arrow_array.specs.Lists.{list_type, IsListOf}
use Rattle.arrow_builders.specs.Children.{fields_of}
use Rattle.arrow_builders.specs.Fits.{TypesFit, field_types}
use Rattle.arrow_builders.specs.MutableArrays.{builder_type, nodes}
use Rattle.arrow_builders.specs.Nodes.{IsEmpty}
use Rattle.arrow_builders.specs.Shapes.{Shape, flat, lists, records, shape, shape_type}
use Rattle.arrow_builders.specs.declared.array.MutableArray.{MutableArray}
use Rattle.arrow_builders.proofs.Heads.{type_is}
use Rattle.avro_schema.specs.declared.schema.AvroField.{AvroField}
use Rattle.avro_schema.specs.declared.schema.BytesLogical.TheVariants as bytes_logical
use Rattle.avro_schema.specs.declared.schema.Enum.{Enum as TheEnum}
use Rattle.avro_schema.specs.declared.schema.Fixed.{Fixed as TheFixed}
use Rattle.avro_schema.specs.declared.schema.FixedLogical.{FixedLogical}
use Rattle.avro_schema.specs.declared.schema.FixedLogical.TheVariants as fixed_logical
use Rattle.avro_schema.specs.declared.schema.IntLogical.TheVariants as int_logical
use Rattle.avro_schema.specs.declared.schema.LongLogical.TheVariants as long_logical
use Rattle.avro_schema.specs.declared.schema.Record.{Record as TheRecord, out-Record}
use Rattle.avro_schema.specs.declared.schema.Schema.{Schema, Null, Boolean, Int, Long, Float, Double, Bytes, String, Record, Enum, Fixed, Array, Union, Array', Map', Union'}
use Rattle.avro_schema.specs.declared.schema.Schema.TheBlock.{shape-the_row-Schema-0 as shape_0, hidden-the_row-Schema-0 as hidden_0}
use Rattle.avro_schema.specs.Carried.{IsFixedSize, Carried}
use Rattle.avro_schema.specs.Encodes.{IsNull}
use Rattle.avro_schema.specs.Listed.{CarriedMembersOf}
use Rattle.avro_schema.specs.TypeLaws.{HasMemberTypeOf}
use Rattle.avro_schema.specs.Types.{IsListOf as TheForm, HasType, HasColumnType, Fits, fixed_type}
use Rattle.avro_schema.specs.ValidBlock.{small_limit, HasFloat, SymbolsFit, EnumsFit}
use Rattle.avro_schema.proofs.ByLists.{moved, carried_array, carried_union, carried_record}
use Rattle.avro_schema.proofs.TypeLemmas.{type_composites, float_composites, enum_composites}
use Rattle.avro_types.proofs.ColumnTypes.{flip}
use Rattle.avro_decode.specs.Making.{CanBeKept, IsNewBuilder, AreNewBuilders, IsFlatType}
use Rattle.avro_decode.specs.Growth.{SuitsPair}
use Rattle.avro_decode.specs.Suits.{Suits, IsFixedDecimal, AllSuit}
use Rattle.avro_decode.proofs.Suited.{suits_union, record_suits_all}

-- ---- flat values

fixed_typed : (f : TheFixed) (t : DataType) → IsFixedSize f.size f.logical → t ≡ fixed_type f.size f.logical → IsFlatType t × Suits (Fixed f) (flat (physical_type t) t)
fixed_typed f t c h = from f.logical refl
  where
    from : (logical : Option FixedLogical) → f.logical ≡ logical → IsFlatType t × Suits (Fixed f) (flat (physical_type t) t)
    from None e =
        let q : t ≡ data_type.FixedSizeBinary f.size = h ∙ ap (fixed_type f.size) e in
        let s : 1 ≤ f.size = subst (IsFixedSize f.size) e c in
        rw q (s, (e, c, refl))
    from (Some (fixed_logical.Decimal precision scale)) e =
        let q : t ≡ data_type.Decimal precision scale = h ∙ ap (fixed_type f.size) e in
        rw q (tt, (subst IsFixedDecimal (sym e) tt, c))
    from (Some fixed_logical.Duration) e =
        let q : t ≡ data_type.Interval interval.MonthDayNano = h ∙ ap (fixed_type f.size) e in
        rw q (tt, (e, c))

-- the schema is flat, and no enum
abbrev pub IsOther : Schema → Type 0
IsOther (Record r) = ⊥
IsOther (Array' p item) = ⊥
IsOther (Union' p members) = ⊥
IsOther (Enum e) = ⊥
IsOther _ = Unit {0}

flat_typed : (s : Schema) (t : DataType) → IsOther s → CanBeKept s → HasType true s t → IsFlatType t × Suits s (flat (physical_type t) t)
flat_typed Boolean t o k h = rw h (tt, tt)
flat_typed (Int None) t o k h = rw h (tt, tt)
flat_typed (Int (Some int_logical.Date)) t o k h = rw h (tt, tt)
flat_typed (Int (Some int_logical.Time)) t o k h = rw h (tt, tt)
flat_typed (Long None) t o k h = rw h (tt, tt)
flat_typed (Long (Some long_logical.Time)) t o k h = rw h (tt, tt)
flat_typed (Long (Some long_logical.TimestampMillis)) t o k h = rw h (tt, tt)
flat_typed (Long (Some long_logical.TimestampMicros)) t o k h = rw h (tt, tt)
flat_typed (Long (Some long_logical.TimestampNanos)) t o k h = rw h (tt, tt)
flat_typed (Long (Some long_logical.LocalTimestampMillis)) t o k h = rw h (tt, tt)
flat_typed (Long (Some long_logical.LocalTimestampMicros)) t o k h = rw h (tt, tt)
flat_typed (Long (Some long_logical.LocalTimestampNanos)) t o k h = rw h (tt, tt)
flat_typed (Bytes None) t o k (inl h) = rw h (tt, refl)
flat_typed (Bytes None) t o k (inr h) = rw h.1 (tt, refl)
flat_typed (Bytes (Some (bytes_logical.Decimal precision scale))) t o k h = rw h (tt, tt)
flat_typed (String logical) t o k (inl h) = rw h (tt, refl)
flat_typed (String logical) t o k (inr h) = rw h.1 (tt, refl)
flat_typed (Fixed f) t o k h = fixed_typed f t k.carried h
flat_typed Float t o k h = absurd (k.no_float tt)
flat_typed Double t o k h = absurd (k.no_float tt)
flat_typed Null t o k h = absurd k.carried
flat_typed (Map' p value) t o k h = absurd k.carried
flat_typed (Record r) t o k h = absurd o
flat_typed (Enum e) t o k h = absurd o
flat_typed (Array' p item) t o k h = absurd o
flat_typed (Union' p members) t o k h = absurd o

pub flat_type : (s : Schema) (t : DataType) → IsOther s → CanBeKept s → HasType true s t → IsFlatType t
flat_type s t o k h = (flat_typed s t o k h).0

-- ---- enums

symbols_fit : (e : TheEnum) → EnumsFit (Enum e) → SymbolsFit e
symbols_fit e h = from (cases_lt small_limit (length e.symbols)) (cases_lt small_limit (sum_by length e.symbols))
  where
    from : (small_limit < length e.symbols) ⊎ (length e.symbols ≤ small_limit) → (small_limit < sum_by length e.symbols) ⊎ (sum_by length e.symbols ≤ small_limit) → SymbolsFit e
    from (inl many) total = absurd (h (λ fit. omega (arith, many, fit.0)))
    from (inr few) (inl large) = absurd (h (λ fit. omega (arith, large, fit.1)))
    from (inr few) (inr total) = (few, total)

-- ---- arrays

abbrev items_of : DataType → List Field
items_of (List' p row) = items-the_row-Field _ row
items_of (LargeList' p row) = items-the_row-Field _ row
items_of (Struct' p row) = items-the_row-Field _ row
items_of _ = []

items_of_list : (large : Bool) (f : Field) → items_of (list_type large f) ≡ f ∷ []
unfolding shape-the_row-Field-0 hidden-the_row-Field-0 denote.Hole.Carrier.hidden
items_of_list false f = refl
items_of_list true f = refl

items_of_struct : (fs : List Field) → items_of (data_type.Struct fs) ≡ fs
items_of_struct fs = items_hidden-the_row-Field-1 fs

only : (f g : Field) → f ∷ [] ≡ g ∷ [] → f ≡ g
only f g e = cc

abbrev list_kind : Bool → PhysicalType
list_kind false = physical.List
list_kind true = physical.LargeList

suits_lists : (large : Bool) (item : Schema) (t : DataType) (s : Shape) → Suits (Array item) (lists (list_kind large) t s) ≡ Suits item s
unfolding shape_0 hidden_0 denote.Hole.Carrier.hidden
suits_lists false item t s = refl
suits_lists true item t s = refl

list_fits : (large : Bool) (t : DataType) (s : Shape) → IsListOf large t (shape_type s) → TypesFit s → TypesFit (lists (list_kind large) t s)
list_fits false t s l f = (l, f)
list_fits true t s l f = (l, f)

module _ (s : Schema) (t : DataType) (item i : Schema) (e : s ≡ Array item) (x : i ≡ item) where
  abbrev ListOfItem : Type 0
  ListOfItem = (large : Bool) × (g : Field) × (t ≡ list_type large g) × HasColumnType true item g

  listed : HasType true s t → ListOfItem
  listed h = from ((type_composites.array true item t).0 (subst (λ (y : Schema). HasType true y t) e h))
    where
      from : (g : Field) × TheForm true g t × HasColumnType true item g → ListOfItem
      from (g, inl l, c) = (false, g, l, c)
      from (g, inr l, c) = (true, g, l.1, c)

  pub is_list : HasType true s t → (large : Bool) × (g : Field) × (t ≡ list_type large g)
  is_list h = let k = listed h in (k.0, k.1, k.2)

  pub item_kept : CanBeKept s → CanBeKept i
  item_kept k = subst CanBeKept (sym x) (record {
    carried = moved (carried_array item) (subst Carried e k.carried);
    no_float = λ h. k.no_float (subst HasFloat (sym e) ((float_composites.array item).1 h));
    symbols = (enum_composites.array item).0 (subst EnumsFit e k.symbols);
  })

  module _ (large : Bool) (f y : Field) (d : t ≡ list_type large f) (z : y ≡ f) where
    pub item_typed : HasType true s t → HasType true i y.data_type
    item_typed h =
        let k = listed h in
        let same : k.1 ≡ y = only k.1 f (sym (items_of_list k.0 k.1) ∙ ap items_of (sym k.2 ∙ d) ∙ items_of_list large f) ∙ sym z in
        subst (λ (j : Schema). HasType true j y.data_type) (sym x) (subst (λ (g : Field). HasType true item g.data_type) same k.3.1)

    pub new_list : (v b : MutableArray) → IsNewBuilder i y.data_type v → shape b ≡ lists (list_kind large) t (shape v) → All IsEmpty (nodes b) → IsNewBuilder s t b
    new_list v b h sh n =
        let suits : Suits (Array item) (lists (list_kind large) t (shape v)) = moved (sym (suits_lists large item t (shape v))) (subst (λ (j : Schema). Suits j (shape v)) x h.suits) in
        let type : f.data_type ≡ shape_type (shape v) = ap (λ (g : Field). g.data_type) (sym z) ∙ sym h.data_type ∙ type_is v in
        record {
          suits = subst (λ (y : Schema). Suits y (shape b)) (sym e) (subst (Suits (Array item)) (sym sh) suits);
          types_fit = subst TypesFit (sym sh) (list_fits large t (shape v) (f, d, type) h.types_fit);
          data_type = type_is b ∙ ap shape_type sh;
          empty = n;
        }

-- ---- unions

-- one member's builder is the union's
pub record IsChosen (members : List Schema) (s : Schema) (t : DataType) : Type 0 where
  pub kept : CanBeKept s
  pub typed : HasType true s t
  pub back : (b : MutableArray) → IsNewBuilder s t b → IsNewBuilder (Union members) t b

null_not_carried : (s : Schema) → IsNull s → Carried s → ⊥
null_not_carried Null n c = c
null_not_carried _ n c = absurd n

of_union : (members : List Schema) (s : Schema) (t : DataType) (b : MutableArray) → SuitsPair members (shape b) → IsNewBuilder s t b → IsNewBuilder (Union members) t b
of_union members s t b suits h = record {
  suits = moved (sym (suits_union members (shape b))) suits;
  types_fit = h.types_fit;
  data_type = h.data_type;
  empty = h.empty;
}

module _ (a b : Schema) (t : DataType) (k : CanBeKept (Union (a ∷ b ∷ []))) (h : HasType true (Union (a ∷ b ∷ [])) t) where
  carried : CarriedMembersOf (a ∷ b ∷ [])
  carried = moved (carried_union (a ∷ b ∷ [])) k.carried

  types : HasMemberTypeOf true (a ∷ b ∷ []) t
  types = (type_composites.union true (a ∷ b ∷ []) t).0 h

  floats : All (λ s. HasFloat s → ⊥) (a ∷ b ∷ [])
  floats = (float_composites.union (a ∷ b ∷ [])).0 k.no_float

  enums : All EnumsFit (a ∷ b ∷ [])
  enums = (enum_composites.union (a ∷ b ∷ [])).0 k.symbols

  second_chosen : IsNull a → IsChosen (a ∷ b ∷ []) b t
  second_chosen n = from carried types
    where
      from : CarriedMembersOf (a ∷ b ∷ []) → HasMemberTypeOf true (a ∷ b ∷ []) t → IsChosen (a ∷ b ∷ []) b t
      from (inl c) (inl y) = record {
        kept = record { carried = c.1; no_float = floats 1 a (omega arith); symbols = enums 1 a (omega arith) };
        typed = y.1;
        back = λ v w. of_union (a ∷ b ∷ []) b t v (inl (c.0, w.suits, c.2)) w;
      }
      from (inl c) (inr y) = absurd (null_not_carried b y.1 c.1)
      from (inr c) y = absurd (null_not_carried a n c.0)

  first_chosen : (IsNull a → ⊥) → IsChosen (a ∷ b ∷ []) a t
  first_chosen n = from carried types
    where
      from : CarriedMembersOf (a ∷ b ∷ []) → HasMemberTypeOf true (a ∷ b ∷ []) t → IsChosen (a ∷ b ∷ []) a t
      from (inl c) y = absurd (n c.0)
      from (inr c) (inl y) = absurd (n y.0)
      from (inr c) (inr y) = record {
        kept = record { carried = c.0; no_float = floats 0 a (omega arith); symbols = enums 0 a (omega arith) };
        typed = y.0;
        back = λ v w. of_union (a ∷ b ∷ []) a t v (inr (w.suits, c.1, c.2)) w;
      }

module _ (members : List Schema) (a b : Schema) (t : DataType) (two : members ≡ a ∷ b ∷ []) (k : CanBeKept (Union members)) (h : HasType true (Union members) t) where
  kept_two : CanBeKept (Union (a ∷ b ∷ []))
  kept_two = subst (λ (xs : List Schema). CanBeKept (Union xs)) two k

  typed_two : HasType true (Union (a ∷ b ∷ [])) t
  typed_two = subst (λ (xs : List Schema). HasType true (Union xs) t) two h

  pub choose_second : IsNull a → IsChosen members b t
  choose_second n = subst (λ (xs : List Schema). IsChosen xs b t) (sym two) (second_chosen a b t kept_two typed_two n)

  pub choose_first : (IsNull a → ⊥) → IsChosen members a t
  choose_first n = subst (λ (xs : List Schema). IsChosen xs a t) (sym two) (first_chosen a b t kept_two typed_two n)

pub are_two : (members : List Schema) → CanBeKept (Union members) → length members ≡ 2
are_two members k = from members (moved (carried_union members) k.carried)
  where
    from : (xs : List Schema) → CarriedMembersOf xs → length xs ≡ 2
    from [] c = absurd c
    from (a ∷ []) c = absurd c
    from (a ∷ b ∷ []) c = refl
    from (a ∷ b ∷ d ∷ more) c = absurd c

-- ---- records

pub as_many : (fs : List Field) (avros : List AvroField) → Fits fs avros → length fs ≡ length avros
as_many [] [] h = refl
as_many [] (a ∷ avros) h = absurd h
as_many (f ∷ fs) [] h = absurd h
as_many (f ∷ fs) (a ∷ avros) h = ap suc (as_many fs avros h.1)

pub all_suit : (avros : List AvroField) (fs : List Field) (bs : List MutableArray) → AreNewBuilders avros fs bs → AllSuit avros bs
all_suit [] [] [] h = tt
all_suit [] [] (b ∷ bs) h = absurd h
all_suit [] (f ∷ fs) bs h = absurd h
all_suit (a ∷ avros) [] bs h = absurd h
all_suit (a ∷ avros) (f ∷ fs) [] h = absurd h
all_suit (a ∷ avros) (f ∷ fs) (b ∷ bs) h = (h.0.suits, all_suit avros fs bs h.1)

pub all_types : (avros : List AvroField) (fs : List Field) (bs : List MutableArray) → AreNewBuilders avros fs bs → map builder_type bs ≡ map (λ f. f.data_type) fs
all_types [] [] [] h = refl
all_types [] [] (b ∷ bs) h = absurd h
all_types [] (f ∷ fs) bs h = absurd h
all_types (a ∷ avros) [] bs h = absurd h
all_types (a ∷ avros) (f ∷ fs) [] h = absurd h
all_types (a ∷ avros) (f ∷ fs) (b ∷ bs) h = rw (h.0.data_type, all_types avros fs bs h.1) refl

pub all_new : (P : MutableArray → Type 0) (avros : List AvroField) (fs : List Field) (bs : List MutableArray) → ((s : Schema) (t : DataType) (b : MutableArray) → IsNewBuilder s t b → P b) → AreNewBuilders avros fs bs → All P bs
all_new P [] [] [] q h = λ k d lt. absurd (omega (arith, lt))
all_new P [] [] (b ∷ bs) q h = absurd h
all_new P [] (f ∷ fs) bs q h = absurd h
all_new P (a ∷ avros) [] bs q h = absurd h
all_new P (a ∷ avros) (f ∷ fs) [] q h = absurd h
all_new P (a ∷ avros) (f ∷ fs) (b ∷ bs) q h = All-cons P b bs (q a.schema f.data_type b h.0) (all_new P avros fs bs q h.1)

children_fit : (avros : List AvroField) (fs : List Field) (bs : List MutableArray) → AreNewBuilders avros fs bs → TypesFit (fields_of (map shape bs)) × (map (λ f. f.data_type) fs ≡ field_types (fields_of (map shape bs)))
children_fit [] [] [] h = (tt, refl)
children_fit [] [] (b ∷ bs) h = absurd h
children_fit [] (f ∷ fs) bs h = absurd h
children_fit (a ∷ avros) [] bs h = absurd h
children_fit (a ∷ avros) (f ∷ fs) [] h = absurd h
children_fit (a ∷ avros) (f ∷ fs) (b ∷ bs) h =
    let r = children_fit avros fs bs h.1 in
    let type : f.data_type ≡ shape_type (shape b) = sym h.0.data_type ∙ type_is b in
    ((h.0.types_fit, r.0), rw (type, r.1) refl)

some_children : (avros : List AvroField) (fs : List Field) (bs : List MutableArray) → 0 < length avros → AreNewBuilders avros fs bs → 0 < length (field_types (fields_of (map shape bs)))
some_children [] fs bs some h = absurd (omega (arith, some))
some_children (a ∷ avros) [] bs some h = absurd h
some_children (a ∷ avros) (f ∷ fs) [] some h = absurd h
some_children (a ∷ avros) (f ∷ fs) (b ∷ bs) some h = omega arith

module _ (s : Schema) (t : DataType) (r : TheRecord) (avros : List AvroField) (e : s ≡ Record r) (x : avros ≡ (out-Record r).fields) where
  struct_type : HasType true s t → (gs : List Field) × (t ≡ data_type.Struct gs) × Fits gs avros
  struct_type h =
      let k = (type_composites.fields true r t).0 (subst (λ (y : Schema). HasType true y t) e h) in
      (k.0, k.1, subst (Fits k.0) (sym x) (flip (λ (a : AvroField) (f : Field). HasColumnType true a.schema f) (out-Record r).fields k.0 k.2))

  pub is_struct : HasType true s t → (gs : List Field) × (t ≡ data_type.Struct gs)
  is_struct h = let k = struct_type h in (k.0, k.1)

  some_fields : CanBeKept s → 0 < length avros
  some_fields k = subst (λ (xs : List AvroField). 0 < length xs) (sym x) ((carried_record r).0 (subst Carried e k.carried)).0

  pub fields_kept : CanBeKept s → All (λ a. CanBeKept a.schema) avros
  fields_kept k = subst (All (λ a. CanBeKept a.schema)) (sym x) all
    where
      all : All (λ a. CanBeKept a.schema) (out-Record r).fields
      all = λ i d lt. record {
        carried = ((carried_record r).0 (subst Carried e k.carried)).1 i d lt;
        no_float = (float_composites.fields r).0 (λ h. k.no_float (subst HasFloat (sym e) h)) i d lt;
        symbols = (enum_composites.fields r).0 (subst EnumsFit e k.symbols) i d lt;
      }

  module _ (fs ys : List Field) (d : t ≡ data_type.Struct fs) (z : ys ≡ fs) where
    pub fields_typed : HasType true s t → Fits ys avros
    fields_typed h =
        let k = struct_type h in
        let same : k.0 ≡ ys = sym (items_of_struct k.0) ∙ ap items_of (sym k.1 ∙ d) ∙ items_of_struct fs ∙ sym z in
        subst (λ (gs : List Field). Fits gs avros) same k.2

    pub new_struct : (vs : List MutableArray) (b : MutableArray) → CanBeKept s → AreNewBuilders avros ys vs → shape b ≡ records t (fields_of (map shape vs)) → All IsEmpty (nodes b) → IsNewBuilder s t b
    new_struct vs b k h sh n =
        let suits : Suits (Record r) (records t (fields_of (map shape vs))) = record_suits_all r vs (subst (λ (xs : List AvroField). (0 < length xs) × AllSuit xs vs) x (some_fields k, all_suit avros ys vs h)) in
        let c = children_fit avros ys vs h in
        record {
          suits = subst (λ (y : Schema). Suits y (shape b)) (sym e) (subst (Suits (Record r)) (sym sh) suits);
          types_fit = subst TypesFit (sym sh) (some_children avros ys vs (some_fields k) h, (ys, d ∙ ap data_type.Struct (sym z), c.1), c.0);
          data_type = type_is b ∙ ap shape_type sh;
          empty = n;
        }
