-- What suits a schema, at arrays, unions and records; and its mask.
use Rattle.std.proofs.Common.{◌≡◌, ◌∙◌, ℕ, suc, ◌+◌, ◌*◌, ◌<◌, ◌≤◌, Bool, true, false, Option, Some, None, List, [], ◌∷◌, ◌++◌, map, length, refl, sym, ap, subst, inl, inr, arith}
use Rattle.std.proofs.lemmas.List.{length-append}
use Rattle.arrow_builders.specs.Children.{fields_of}
use Rattle.arrow_builders.specs.MutableArrays.{nodes}
use Rattle.arrow_builders.specs.Shapes.{Shape, Added, flat, dictionary, lists, fixed_lists, records, no_field, field, shape, nulls_in}
use Rattle.arrow_builders.specs.declared.array.MutableArray.{MutableArray, List as ListOf, LargeList as LargeListOf, Struct}
use Rattle.arrow_builders.specs.declared.list.DynMutableListArray.{DynMutableListArray}
use Rattle.arrow_builders.specs.declared.large_list.DynMutableLargeListArray.{DynMutableLargeListArray}
use Rattle.arrow_builders.specs.declared.structs.DynMutableStructArray.{DynMutableStructArray}
use Rattle.arrow_builders.proofs.Rows.{shape-record}
use Rattle.arrow_builders.proofs.Sizes.{nulls-fit}
use Rattle.arrow_core.specs.declared.physical.PhysicalType.TheVariants as physical
use Rattle.arrow_core.specs.declared.physical.PrimitiveType.TheVariants as primitive
use Rattle.std.specs.Prelude.{if◌then◌else◌}
use Rattle.std.specs.List.{AllZip}
use Rattle.arrow_array.specs.FixedLists.{list_size}
use Rattle.arrow_builders.specs.Nodes.{Node}
use Rattle.arrow_builders.specs.Shapes.{nulls_at, AllTake, FitsIn}
use Rattle.avro_reference.specs.Costs.{passed}
use Rattle.avro_schema.specs.declared.schema.AvroField.{AvroField}
use Rattle.avro_schema.specs.declared.schema.FixedLogical.{FixedLogical}
use Rattle.avro_schema.specs.declared.schema.Record.{Record as TheRecord, Record', out-Record, Row_of-AvroField, end_of-AvroField, more_of-AvroField, items-the_row-AvroField}
use Rattle.avro_schema.specs.declared.schema.Schema.{Schema, Null, Boolean, Int, Long, Bytes, String, Enum, Array, Union, Record, Array', Union', Fixed, Row_of-Schema, end_of-Schema, more_of-Schema}
use Rattle.avro_schema.specs.declared.schema.Schema.TheBlock.{shape-the_row-Schema-0, hidden-the_row-Schema-0, shape-the_row-Schema-1, hidden-the_row-Schema-1}
use Rattle.avro_schema.specs.Carried.{HasFields}
use Rattle.avro_schema.specs.Encodes.{is_null}
use Rattle.avro_schema.proofs.Basics.{null_told}
use Rattle.avro_schema.proofs.ByLists.{row_fields, fields_are}
use Rattle.avro_decode.specs.Masks.{mask, fixed_bounded, mask_fields, mask_record, mask_item, mask_members, bounded, later, content}
use Rattle.avro_decode.specs.Growth.{mask_pair, masks, Fills, AllFill, Grows, HaveSpare}
use Rattle.avro_decode.specs.Suits.{Suits, SuitsFields, SuitsRecord, SuitsItem, SuitsMembers, AllSuit}
use Rattle.avro_decode.specs.Growth.{SuitsPair}
use Rattle.avro_decode.proofs.Nodes.{Fewer, fewer_same, fewer_append, grows_wider}

-- ---- arrays

pub suits_array : (item : Schema) (b : DynMutableListArray) → Suits (Array item) (shape (ListOf b)) ≡ Suits item (shape b.values.value)
unfolding shape-the_row-Schema-0 hidden-the_row-Schema-0 denote.Hole.Carrier.hidden
suits_array item b = refl

pub suits_large_array : (item : Schema) (b : DynMutableLargeListArray) → Suits (Array item) (shape (LargeListOf b)) ≡ Suits item (shape b.values.value)
unfolding shape-the_row-Schema-0 hidden-the_row-Schema-0 denote.Hole.Carrier.hidden
suits_large_array item b = refl

pub mask_array : (nulls : Bool) (item : Schema) → mask nulls (Array item) ≡ true ∷ mask false item
unfolding shape-the_row-Schema-0 hidden-the_row-Schema-0 denote.Hole.Carrier.hidden
mask_array nulls item = refl

-- ---- unions

pub suits_union : (members : List Schema) (s : Shape) → Suits (Union members) s ≡ SuitsPair members s
unfolding shape-the_row-Schema-1 hidden-the_row-Schema-1 denote.Hole.Carrier.hidden
suits_union [] s = refl
suits_union (a ∷ []) s = refl
suits_union (a ∷ b ∷ []) s = refl
suits_union (a ∷ b ∷ c ∷ more) s = refl

pub mask_union : (nulls : Bool) (members : List Schema) → mask nulls (Union members) ≡ mask_pair members
unfolding shape-the_row-Schema-1 hidden-the_row-Schema-1 denote.Hole.Carrier.hidden
mask_union nulls [] = refl
mask_union nulls (a ∷ []) = refl
mask_union nulls (a ∷ b ∷ []) = refl
mask_union nulls (a ∷ b ∷ c ∷ more) = refl

-- ---- records

masks_row : {m : _} (nulls : Bool) (row : Row_of-AvroField m) → mask_fields nulls row ≡ masks nulls (items-the_row-AvroField _ row)
masks_row nulls end_of-AvroField = refl
masks_row nulls (more_of-AvroField name doc s rest) = ap (λ (ms : List Bool). mask nulls s ++ ms) (masks_row nulls rest)

masks_of : (nulls : Bool) (r : TheRecord) → mask_record nulls r ≡ masks nulls (row_fields r)
masks_of nulls (Record' name namespace doc p fields) = masks_row nulls fields

pub mask_fields_are : (nulls : Bool) (r : TheRecord) → mask nulls (Record r) ≡ true ∷ masks nulls (out-Record r).fields
mask_fields_are nulls r = ap (λ (ms : List Bool). true ∷ ms) (masks_of nulls r ∙ ap (masks nulls) (fields_are r))

suits_row : {m : _} (row : Row_of-AvroField m) (bs : List MutableArray) → SuitsFields row (fields_of (map shape bs)) ≡ AllSuit (items-the_row-AvroField _ row) bs
suits_row end_of-AvroField [] = refl
suits_row end_of-AvroField (b ∷ bs) = refl
suits_row (more_of-AvroField name doc s rest) [] = refl
suits_row (more_of-AvroField name doc s rest) (b ∷ bs) = ap (λ (P : Type 0). Suits s (shape b) × P) (suits_row rest bs)

row_some : {m : _} (row : Row_of-AvroField m) → HasFields row → 0 < length (items-the_row-AvroField _ row)
row_some end_of-AvroField h = absurd h
row_some (more_of-AvroField name doc s rest) h = omega arith

suits_some : (r : TheRecord) (bs : List MutableArray) → SuitsRecord r (fields_of (map shape bs)) → (0 < length (row_fields r)) × AllSuit (row_fields r) bs
suits_some (Record' name namespace doc p fields) bs h = (row_some fields h.0, subst (λ (P : Type 0). P) (suits_row fields bs) h.1)

pub suits_record : (r : TheRecord) (b : DynMutableStructArray) → Suits (Record r) (shape (Struct b)) → (0 < length (out-Record r).fields) × AllSuit (out-Record r).fields b.values.items
suits_record r b h =
    let k : SuitsRecord r (fields_of (map shape b.values.items)) = subst (Suits (Record r)) (shape-record b) h in
    subst (λ (fs : List AvroField). (0 < length fs) × AllSuit fs b.values.items) (fields_are r) (suits_some r b.values.items k)

row_has : {m : _} (row : Row_of-AvroField m) → 0 < length (items-the_row-AvroField _ row) → HasFields row
row_has end_of-AvroField h = absurd (omega (arith, h))
row_has (more_of-AvroField name doc s rest) h = tt

row_suits_all : (r : TheRecord) (bs : List MutableArray) → (0 < length (row_fields r)) × AllSuit (row_fields r) bs → SuitsRecord r (fields_of (map shape bs))
row_suits_all (Record' name namespace doc p fields) bs h = (row_has fields h.0, subst (λ (P : Type 0). P) (sym (suits_row fields bs)) h.1)

pub record_suits_all : (r : TheRecord) (bs : List MutableArray) → (0 < length (out-Record r).fields) × AllSuit (out-Record r).fields bs → SuitsRecord r (fields_of (map shape bs))
record_suits_all r bs h = row_suits_all r bs (subst (λ (fs : List AvroField). (0 < length fs) × AllSuit fs bs) (sym (fields_are r)) h)

pub suits_not_null : (s : Schema) (sh : Shape) → Suits s sh → is_null s ≡ false
suits_not_null Null sh h = absurd h
suits_not_null _ sh h = refl

-- ---- a mask is as long as the nodes

mutual
  mask_fits : (n : ℕ) (s : Schema) (sh : Shape) → Suits s sh → (nulls : Bool) → length (mask nulls s) ≡ length (nulls_in n sh)
  mask_fits n Boolean (flat k t) h nulls = refl
  mask_fits n (Int logical) (flat k t) h nulls = refl
  mask_fits n (Long logical) (flat k t) h nulls = refl
  mask_fits n (Bytes logical) (flat k t) h nulls = refl
  mask_fits n (String logical) (flat k t) h nulls = refl
  mask_fits n (Enum e) (dictionary t items) h nulls = refl
  mask_fits n (Fixed f) (flat k t) h true = refl
  mask_fits n (Fixed f) (flat k t) h false = refl
  mask_fits n (Record r) (records t fs) h nulls = ap suc (record_fits n r fs h nulls)
  mask_fits n (Array' p item) (lists physical.List t s) h nulls = ap suc (item_fits 0 item s h)
  mask_fits n (Array' p item) (lists physical.LargeList t s) h nulls = ap suc (item_fits 0 item s h)
  mask_fits n (Union' p members) s h nulls = members_fit n members s h
  mask_fits n (Bytes None) _ h nulls = absurd h
  mask_fits n (Bytes (Some decimal)) _ h nulls = absurd h
  mask_fits n _ _ h nulls = absurd h

  record_fits : (n : ℕ) (r : TheRecord) (sh : Shape) → SuitsRecord r sh → (nulls : Bool) → length (mask_record nulls r) ≡ length (nulls_in n sh)
  record_fits n (Record' name namespace doc p fields) sh h nulls = fields_fit n fields sh h.1 nulls

  item_fits : {m : _} (n : ℕ) (item : Row_of-Schema m) (sh : Shape) → SuitsItem item sh → length (mask_item item) ≡ length (nulls_in n sh)
  item_fits n end_of-Schema sh h = absurd h
  item_fits n (more_of-Schema s rest) sh h = mask_fits n s sh h false

  members_fit : {m : _} (n : ℕ) (row : Row_of-Schema m) (sh : Shape) → SuitsMembers row sh → length (mask_members row) ≡ length (nulls_in n sh)
  members_fit n (more_of-Schema a (more_of-Schema b end_of-Schema)) sh (inl h) = rw (null_told a h.0) (mask_fits n b sh h.1 true)
  members_fit n (more_of-Schema a (more_of-Schema b end_of-Schema)) sh (inr h) = rw (suits_not_null a sh h.0) (mask_fits n a sh h.0 true)
  members_fit n _ sh h = absurd h

  fields_fit : {m : _} (n : ℕ) (row : Row_of-AvroField m) (sh : Shape) → SuitsFields row sh → (nulls : Bool) → length (mask_fields nulls row) ≡ length (nulls_in n sh)
  fields_fit n end_of-AvroField no_field h nulls = refl
  fields_fit n (more_of-AvroField name doc s rest) (field first more) h nulls =
      let a = mask_fits n s first h.0 nulls in
      let b = fields_fit n rest more h.1 nulls in
      omega (arith, a, b, length-append (mask nulls s) (mask_fields nulls rest), length-append (nulls_in n first) (nulls_in n more))
  fields_fit n _ _ h nulls = absurd h

pub mask_length : (nulls : Bool) (s : Schema) (b : MutableArray) → Suits s (shape b) → length (mask nulls s) ≡ length (nodes b)
mask_length nulls s b h = mask_fits 0 s (shape b) h nulls ∙ nulls-fit 0 b

-- ---- beneath a union no more nodes are bounded

mutual
  pub mask_fewer : (s : Schema) → Fewer (mask true s) (mask false s)
  mask_fewer (Record r) = (λ e. e, record_fewer r)
  mask_fewer (Array' p item) = fewer_same (mask true (Array' p item))
  mask_fewer (Union' p members) = fewer_same (mask true (Union' p members))
  mask_fewer (Fixed f) = (λ e. refl, tt)
  mask_fewer _ = (λ e. e, tt)

  record_fewer : (r : TheRecord) → Fewer (mask_record true r) (mask_record false r)
  record_fewer (Record' name namespace doc p fields) = row_fewer fields

  row_fewer : {m : _} (row : Row_of-AvroField m) → Fewer (mask_fields true row) (mask_fields false row)
  row_fewer end_of-AvroField = tt
  row_fewer (more_of-AvroField name doc s rest) = fewer_append (mask true s) (mask false s) (mask_fields true rest) (mask_fields false rest) (mask_fewer s) (row_fewer rest)

-- ---- nulls take no more than a slot at each node, and content where nothing is bounded

abbrev pub Light : List Bool → List Added → Type 0
Light ms [] = Unit {0}
Light ms (a ∷ more) = (a.slots ≤ 1) × (bounded ms ≡ true → a.bytes ≡ 0) × Light (later ms) more

light_append : (ms ns : List Bool) (us bs : List Added) → length ms ≡ length us → Light ms us → Light ns bs → Light (ms ++ ns) (us ++ bs)
light_append [] ns [] bs l h k = k
light_append (m ∷ ms) ns [] bs l h k = absurd (omega (arith, l))
light_append [] ns (a ∷ us) bs l h k = absurd (omega (arith, l))
light_append (m ∷ ms) ns (a ∷ us) bs l h k = (h.0, h.1, light_append ms ns us bs (omega (arith, l)) h.2 k)

abbrev AllNone : List Added → Type 0
AllNone [] = Unit {0}
AllNone (a ∷ more) = (a.slots ≡ 0) × (a.bytes ≡ 0) × AllNone more

-- nothing comes beneath lists
none_light : (ms : List Bool) (s : Schema) (sh : Shape) → Suits s sh → Light ms (nulls_in 0 sh)
none_light ms s sh h = light_all ms sh
  where
    zeros : (ms : List Bool) (us : List Added) → AllNone us → Light ms us
    zeros ms [] h = tt
    zeros ms (a ∷ us) h = (omega (arith, h.0), λ e. h.1, zeros (later ms) us h.2)

    none_append : (us bs : List Added) → AllNone us → AllNone bs → AllNone (us ++ bs)
    none_append [] bs h k = k
    none_append (a ∷ us) bs h k = (h.0, h.1, none_append us bs h.2 k)

    none_in : (sh : Shape) → AllNone (nulls_in 0 sh)
    none_in (flat k t) = (refl, omega arith, tt)
    none_in (dictionary t items) = (refl, refl, tt)
    none_in (lists k t item) = (refl, refl, none_in item)
    none_in (fixed_lists t item) = (refl, refl, let e : 0 * list_size t ≡ 0 = omega arith in rw e (none_in item))
    none_in (records t fs) = (refl, refl, none_in fs)
    none_in no_field = tt
    none_in (field first more) = none_append (nulls_in 0 first) (nulls_in 0 more) (none_in first) (none_in more)

    light_all : (ms : List Bool) (sh : Shape) → Light ms (nulls_in 0 sh)
    light_all ms sh = zeros ms (nulls_in 0 sh) (none_in sh)

not_bounded : (logical : Option FixedLogical) → logical ≡ None → fixed_bounded true logical ≡ true → ⊥
not_bounded None e p = absurd cc
not_bounded (Some x) e p = absurd cc

mutual
  pub light : (s : Schema) (sh : Shape) → Suits s sh → Light (mask true s) (nulls_in 1 sh)
  light Boolean (flat physical.Boolean t) h = (omega arith, λ e. refl, tt)
  light (Int logical) (flat (physical.Primitive primitive.Int32) t) h = (omega arith, λ e. refl, tt)
  light (Long logical) (flat (physical.Primitive primitive.Int64) t) h = (omega arith, λ e. refl, tt)
  light (Bytes None) (flat physical.Binary t) h = (omega arith, λ e. refl, tt)
  light (Bytes None) (flat physical.LargeBinary t) h = (omega arith, λ e. refl, tt)
  light (Bytes (Some decimal)) (flat (physical.Primitive primitive.Int128) t) h = (omega arith, λ e. refl, tt)
  light (String logical) (flat physical.Utf8 t) h = (omega arith, λ e. refl, tt)
  light (String logical) (flat physical.LargeUtf8 t) h = (omega arith, λ e. refl, tt)
  light (Fixed f) (flat physical.FixedSizeBinary t) h = (omega arith, λ e. absurd (not_bounded f.logical h.0 e), tt)
  light (Fixed f) (flat (physical.Primitive primitive.Int128) t) h = (omega arith, λ e. refl, tt)
  light (Fixed f) (flat (physical.Primitive primitive.MonthDayNano) t) h = (omega arith, λ e. refl, tt)
  light (Enum e) (dictionary t items) h = (omega arith, λ e. refl, tt)
  light (Record r) (records t fs) h = (omega arith, λ e. refl, record_light r fs h)
  light (Array' p item) (lists physical.List t s) h = (omega arith, λ e. refl, item_light item s h)
  light (Array' p item) (lists physical.LargeList t s) h = (omega arith, λ e. refl, item_light item s h)
  light (Union' p members) s h = members_light members s h
  light _ _ h = absurd h

  record_light : (r : TheRecord) (sh : Shape) → SuitsRecord r sh → Light (mask_record true r) (nulls_in 1 sh)
  record_light (Record' name namespace doc p fields) sh h = fields_light fields sh h.1

  item_light : {m : _} (item : Row_of-Schema m) (sh : Shape) → SuitsItem item sh → Light (mask_item item) (nulls_in 0 sh)
  item_light end_of-Schema sh h = absurd h
  item_light (more_of-Schema s rest) sh h = none_light (mask false s) s sh h

  members_light : {m : _} (row : Row_of-Schema m) (sh : Shape) → SuitsMembers row sh → Light (mask_members row) (nulls_in 1 sh)
  members_light (more_of-Schema a (more_of-Schema b end_of-Schema)) sh (inl h) = rw (null_told a h.0) (light b sh h.1)
  members_light (more_of-Schema a (more_of-Schema b end_of-Schema)) sh (inr h) = rw (suits_not_null a sh h.0) (light a sh h.0)
  members_light _ sh h = absurd h

  fields_light : {m : _} (row : Row_of-AvroField m) (sh : Shape) → SuitsFields row sh → Light (mask_fields true row) (nulls_in 1 sh)
  fields_light end_of-AvroField no_field h = tt
  fields_light (more_of-AvroField name doc s rest) (field first more) h =
      light_append (mask true s) (mask_fields true rest) (nulls_in 1 first) (nulls_in 1 more) (mask_fits 1 s first h.0 true) (light s first h.0) (fields_light rest more h.1)
  fields_light _ _ h = absurd h

take_light : (ms : List Bool) (us : List Added) (xs ys : List Node) → Light ms us → AllTake us xs ys → AllFill ms 1 xs ys × (content ms ys ≤ content ms xs)
take_light ms [] [] [] l h = (tt, omega arith)
take_light ms [] [] (y ∷ ys) l h = absurd h
take_light ms [] (x ∷ xs) ys l h = absurd h
take_light ms (a ∷ us) [] ys l h = absurd h
take_light ms (a ∷ us) (x ∷ xs) [] l h = absurd h
take_light ms (a ∷ us) (x ∷ xs) (y ∷ ys) l h =
    let r = take_light (later ms) us xs ys l.2 h.1 in
    let one = from (bounded ms) l.1 in
    ((one.0, r.0), omega (arith, one.1, r.1))
  where
    from : (p : Bool) → (p ≡ true → a.bytes ≡ 0) → Fills p 1 x y × ((if p then y.bytes else 0) ≤ (if p then x.bytes else 0))
    from true e =
        let z = e refl in
        (record { slots_added = omega (arith, h.0.slots_added, l.0); slots_kept = h.0.slots_kept; bytes_added = omega (arith, h.0.bytes_added, z); bytes_kept = h.0.bytes_kept; slot_capacity = h.0.slot_capacity; byte_capacity = h.0.byte_capacity }, omega (arith, h.0.bytes_added, z))
    from false e =
        ((a.bytes, record { slots_added = omega (arith, h.0.slots_added, l.0); slots_kept = h.0.slots_kept; bytes_added = h.0.bytes_added; bytes_kept = h.0.bytes_kept; slot_capacity = h.0.slot_capacity; byte_capacity = h.0.byte_capacity }), omega arith)

-- a null to a builder
pub null_grows : (bytes : List ℕ) (s : Schema) (b : MutableArray) (ys : List Node) → Suits s (shape b) → AllTake (nulls_at 1 b) (nodes b) ys → Grows (mask true s) (passed bytes bytes + 1) (nodes b) ys
null_grows bytes s b ys h t =
    let r = take_light (mask true s) (nulls_at 1 b) (nodes b) ys (light s (shape b) h) t in
    grows_wider (mask true s) 1 (passed bytes bytes + 1) (nodes b) ys (record { each = r.0; all = omega (arith, r.1) }) (omega arith)

fit_light : (n : ℕ) (ms : List Bool) (us : List Added) (xs : List Node) → length us ≡ length xs → Light ms us → HaveSpare ms (n + 1) xs → AllZip FitsIn us xs
fit_light n ms [] [] l h r = tt
fit_light n ms [] (x ∷ xs) l h r = absurd (omega (arith, l))
fit_light n ms (a ∷ us) [] l h r = absurd (omega (arith, l))
fit_light n ms (a ∷ us) (x ∷ xs) l h r =
    let z = h.1 r.0 in
    (record { slots = omega (arith, h.0, r.1.slots); bytes = omega (arith, z) }, fit_light n (later ms) us xs (omega (arith, l)) h.2 r.2)

pub null_fits : (n : ℕ) (s : Schema) (b : MutableArray) → Suits s (shape b) → HaveSpare (mask true s) (n + 1) (nodes b) → AllZip FitsIn (nulls_at 1 b) (nodes b)
null_fits n s b h r = fit_light n (mask true s) (nulls_at 1 b) (nodes b) (nulls-fit 1 b) (light s (shape b) h) r
