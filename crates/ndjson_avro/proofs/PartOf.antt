-- Values among others: what all of them mean, some of them mean.
use Rattle.std.proofs.Common.{◌≡◌, ◌∙◌, inl, inr, ℕ, zero, suc, ◌+◌, ◌<◌, ◌≤◌, ◌||◌, Bool, true, false, List, [], ◌∷◌, ◌++◌, length, map, slice_index_or, Some, refl, sym, ap, subst, append_assoc, length-append, arith}
use Rattle.std.specs.List.{AllZip, list_any, sum_by}
use Rattle.std.proofs.lemmas.Bool.{false≢true}
use Rattle.std.proofs.lemmas.List.Sums.{sum_by-append}
use Rattle.arrow_core.specs.Numbers.{greatest_offset}
use Rattle.arrow_core.specs.declared.slot.Slot.{Slot}
use Rattle.arrow_core.specs.declared.types.DataType.{DataType, Row_of-Field, end_of-Field, more_of-Field}
use Rattle.arrow_core.specs.declared.types.DataType as types
use Rattle.json_columns.specs.Faults.{TooMany, TooManyFields, TooManyItems, TooManyMembers}
use Rattle.json_columns.specs.Gathered.{all_items, items_in, members_named, member_in}
use Rattle.json_flat.specs.Columns.{AreSlotsOf, Has, IsTooLong, means, size_of, total_size}
use Rattle.json_flat.specs.Meaning.{Layer, Meaning, slot_of, text_timestamp, unfit, text_in, bytes_in}
use Rattle.json_tree.specs.Meaning.{IsJson, IsJsonText}
use Rattle.json_tree.specs.Tree.{Json}
use Rattle.avro_schema.specs.declared.schema.AvroField.{AvroField}
use Rattle.avro_schema.specs.declared.schema.Record.{Record as TheRecord}
use Rattle.avro_schema.specs.declared.schema.Schema.{Schema, Record, Array}
use Rattle.avro_schema.specs.AndThen.{◌>>=◌}
use Rattle.avro_schema.proofs.Basics.{bind_some}
use Rattle.avro_types.specs.Schemas.{column_schema, columns_fields, item_schema, optional, plain_field, plain_record, record_name, record_of, row_schemas, schema_of, structs_in}
use Rattle.std.proofs.lemmas.Option.{none-some}
use Rattle.arrow_core.specs.declared.types.Field.{Field}
use Rattle.json_columns.proofs.ByFields.{struct_too_many}
use Rattle.json_tree.specs.declared.value.Value.{out-Value}
use Rattle.json_tree.proofs.TextLaws.{one_value}

-- some of the values, which stand one after another
pub record ArePart (some all : List Json) : Type 0 where
  pub prefix : List Json
  pub back : List Json
  pub joined : all ≡ prefix ++ (some ++ back)

-- ---- values of texts

pub as_text : (v : Json) (text : List ℕ) → IsJson v text → IsJsonText v text
as_text v text h = (h.0, (128, h.1))

-- the values of the first texts
first_values : (texts more : List (List ℕ)) (all some : List Json) → AllZip IsJson all (texts ++ more) → AllZip IsJson some texts → (back : List Json) × (all ≡ some ++ back)
first_values [] more all [] h k = (all, refl)
first_values [] more all (v ∷ some) h k = absurd k
first_values (t ∷ texts) more [] some h k = absurd h
first_values (t ∷ texts) more (u ∷ all) [] h k = absurd k
first_values (t ∷ texts) more (u ∷ all) (v ∷ some) h k =
    let same : u ≡ v = one_value t u v (as_text u t h.0) (as_text v t k.0) in
    let rest = first_values texts more all some h.1 k.1 in
    (rest.0, λ i. same i ∷ rest.1 i)

pub values_within : (before texts after : List (List ℕ)) (all some : List Json) → AllZip IsJson all (before ++ (texts ++ after)) → AllZip IsJson some texts → ArePart some all
values_within [] texts after all some h k = let f = first_values texts after all some h k in record { prefix = []; back = f.0; joined = f.1 }
values_within (b ∷ before) texts after [] some h k = absurd h
values_within (b ∷ before) texts after (v ∷ all) some h k =
    let p = values_within before texts after all some h.1 k in
    record { prefix = v ∷ p.prefix; back = p.back; joined = ap (λ (z : List Json). v ∷ z) p.joined }

-- a text among others has a value
pub has_value : (before : List (List ℕ)) (text : List ℕ) (after : List (List ℕ)) (all : List Json) → AllZip IsJson all (before ++ text ∷ after) → (v : Json) × IsJson v text
has_value [] text after [] h = absurd h
has_value [] text after (v ∷ all) h = (v, h.0)
has_value (b ∷ before) text after [] h = absurd h
has_value (b ∷ before) text after (v ∷ all) h = has_value before text after all h.1

-- ---- what they mean

-- slots of values in two parts
pub record AreParts (xs ys : List Meaning) (slots : List Slot) : Type 0 where
  pub first : List Slot
  pub second : List Slot
  pub joined : slots ≡ first ++ second
  pub one : xs ≡ map slot_of first
  pub two : ys ≡ map slot_of second

abbrev head_of : Meaning → List Meaning → Meaning
head_of d [] = d
head_of d (m ∷ ms) = m

abbrev tail_of : List Meaning → List Meaning
tail_of [] = []
tail_of (m ∷ ms) = ms

cons_nil : {A : Type 0} (m : Meaning) (ms : List Meaning) → ◌≡◌ {A = List Meaning} (m ∷ ms) [] → A
cons_nil m ms q = absurd cc

pub parts : (xs ys : List Meaning) (slots : List Slot) → xs ++ ys ≡ map slot_of slots → AreParts xs ys slots
parts [] ys slots e = record { first = []; second = slots; joined = refl; one = refl; two = e }
parts (x ∷ xs) ys [] e = cons_nil x (xs ++ ys) e
parts (x ∷ xs) ys (s ∷ slots) e =
    let p = parts xs ys slots (ap tail_of e) in
    let here : x ≡ slot_of s = ap (head_of x) e in
    record { first = s ∷ p.first; second = p.second; joined = ap (λ (z : List Slot). s ∷ z) p.joined; one = (λ i. here i ∷ p.one i); two = p.two }

means-append : (reading : Layer → Meaning) (xs ys : List Json) → map (means reading) (xs ++ ys) ≡ map (means reading) xs ++ map (means reading) ys
means-append reading [] ys = refl
means-append reading (x ∷ xs) ys = ap (λ (z : List Meaning). means reading x ∷ z) (means-append reading xs ys)

-- the slots of a part
pub record HasSlots (reading : Layer → Meaning) (some : List Json) (slots : List Slot) : Type 0 where
  pub prefix : List Slot
  pub own : List Slot
  pub back : List Slot
  pub joined : slots ≡ prefix ++ (own ++ back)
  pub meant : AreSlotsOf reading some own

pub slots_within : (reading : Layer → Meaning) (some all : List Json) (slots : List Slot) → ArePart some all → AreSlotsOf reading all slots → HasSlots reading some slots
slots_within reading some all slots p h =
    let whole : map (means reading) p.prefix ++ map (means reading) (some ++ p.back) ≡ map slot_of slots = sym (means-append reading p.prefix (some ++ p.back)) ∙ ap (map (means reading)) (sym p.joined) ∙ h in
    let first = parts (map (means reading) p.prefix) (map (means reading) (some ++ p.back)) slots whole in
    let second = parts (map (means reading) some) (map (means reading) p.back) first.second (sym (means-append reading some p.back) ∙ first.two) in
    record { prefix = first.first; own = second.first; back = second.second; joined = first.joined ∙ ap (λ (z : List Slot). first.first ++ z) second.joined; meant = second.one }

-- a value that means a slot means nothing else
meaning_at : (reading : Layer → Meaning) (values : List Json) (slots : List Slot) (k : ℕ) (v : Json) → AreSlotsOf reading values slots → k < length values → slice_index_or values k v ≡ v → (s : Slot) × (means reading v ≡ slot_of s)
meaning_at reading [] slots k v h lt is = absurd (omega (arith, lt))
meaning_at reading (x ∷ values) [] k v h lt is = cons_nil (means reading x) (map (means reading) values) h
meaning_at reading (x ∷ values) (s ∷ slots) zero v h lt is = (s, ap (means reading) (sym is) ∙ ap (head_of (means reading x)) h)
meaning_at reading (x ∷ values) (s ∷ slots) (suc k) v h lt is = meaning_at reading values slots k v (ap tail_of h) (omega (arith, lt)) is

pub no_timestamp : (reading : Layer → Meaning) (values : List Json) (slots : List Slot) → AreSlotsOf reading values slots → Has text_timestamp reading values → ⊥
no_timestamp reading values slots h (k, v, lt, is, m) =
    let found = meaning_at reading values slots k v h lt is in
    let e : slot_of found.0 ≡ text_timestamp = sym found.1 ∙ m in cc

pub none_unfit : (reading : Layer → Meaning) (values : List Json) (slots : List Slot) → AreSlotsOf reading values slots → Has unfit reading values → ⊥
none_unfit reading values slots h (k, v, lt, is, m) =
    let found = meaning_at reading values slots k v h lt is in
    let e : slot_of found.0 ≡ unfit = sym found.1 ∙ m in cc

-- values mean one list of slots
pub same_slots : (slots others : List Slot) → map slot_of slots ≡ map slot_of others → slots ≡ others
same_slots [] [] e = refl
same_slots [] (o ∷ others) e = cons_nil (slot_of o) (map slot_of others) (sym e)
same_slots (s ∷ slots) [] e = cons_nil (slot_of s) (map slot_of slots) e
same_slots (s ∷ slots) (o ∷ others) e =
    let here : s ≡ o = same_slot s o (ap (head_of (slot_of s)) e) in
    let rest = same_slots slots others (ap tail_of e) in
    (λ i. here i ∷ rest i)
  where
    same_slot : (a b : Slot) → slot_of a ≡ slot_of b → a ≡ b
    same_slot a b q = cc

any-append : {X : Type 0} (test : X → Bool) (xs ys : List X) → list_any test (xs ++ ys) ≡ (list_any test xs || list_any test ys)
any-append test [] ys = refl
any-append test (x ∷ xs) ys = ap (λ b. test x || b) (any-append test xs ys) ∙ assoc (test x) (list_any test xs) (list_any test ys)
  where
    assoc : (a b d : Bool) → (a || (b || d)) ≡ ((a || b) || d)
    assoc true b d = refl
    assoc false b d = refl

either : (a b d : Bool) → (a || (b || d)) ≡ false → b ≡ true → ⊥
either true b d none some = false≢true (sym none)
either false true d none some = false≢true (sym none)
either false false d none some = false≢true some

-- where none of all passes, none of some does
pub none_within : {X : Type 0} (test : X → Bool) (prefix own back : List X) → list_any test (prefix ++ (own ++ back)) ≡ false → list_any test own ≡ true → ⊥
none_within test prefix own back none some =
    either (list_any test prefix) (list_any test own) (list_any test back) (sym (any-append test prefix (own ++ back) ∙ ap (λ b. list_any test prefix || b) (any-append test own back)) ∙ none) some

-- ---- how many they are

-- a part of the items, and of the members
items-append : (xs ys : List Json) → all_items (xs ++ ys) ≡ all_items xs ++ all_items ys
items-append [] ys = refl
items-append (x ∷ xs) ys = ap (λ (l : List Json). items_in (out-Value x) ++ l) (items-append xs ys) ∙ sym (append_assoc (items_in (out-Value x)) (all_items xs) (all_items ys))

members-append : (name : List ℕ) (xs ys : List Json) → members_named name (xs ++ ys) ≡ members_named name xs ++ members_named name ys
members-append name [] ys = refl
members-append name (x ∷ xs) ys = ap (λ (l : List Json). member_in name (out-Value x) ∷ l) (members-append name xs ys)

items_within : (some all : List Json) → ArePart some all → ArePart (all_items some) (all_items all)
items_within some all p = record {
  prefix = all_items p.prefix;
  back = all_items p.back;
  joined = ap all_items p.joined ∙ items-append p.prefix (some ++ p.back) ∙ ap (λ (z : List Json). all_items p.prefix ++ z) (items-append some p.back);
}

members_within : (name : List ℕ) (some all : List Json) → ArePart some all → ArePart (members_named name some) (members_named name all)
members_within name some all p = record {
  prefix = members_named name p.prefix;
  back = members_named name p.back;
  joined = ap (members_named name) p.joined ∙ members-append name p.prefix (some ++ p.back) ∙ ap (λ (z : List Json). members_named name p.prefix ++ z) (members-append name some p.back);
}

longer : (some all : List Json) → ArePart some all → length some ≤ length all
longer some all p = omega (arith, ap length p.joined, length-append p.prefix (some ++ p.back), length-append some p.back)

larger : (reading : Layer → Meaning) (some all : List Json) → ArePart some all → total_size reading some ≤ total_size reading all
larger reading some all p =
    let f : Json → ℕ = λ value. size_of (means reading value) in
    omega (arith, ap (sum_by f) p.joined, sum_by-append f p.prefix (some ++ p.back), sum_by-append f some p.back)

too_long : (greatest : ℕ) (reading : Layer → Meaning) (some all : List Json) → ArePart some all → IsTooLong greatest reading some → IsTooLong greatest reading all
too_long greatest reading some all p h = omega (arith, h, larger reading some all p)

mutual
  -- where some are more than a column counts, so are all, under a type that has an Avro schema
  too_many : (k : ℕ) (t : DataType) (s : Schema) → schema_of true k t ≡ Some s → (some all : List Json) → ArePart some all → TooMany t some → TooMany t all
  too_many k types.Utf8 s e some all p h = too_long (greatest_offset false) text_in some all p h
  too_many k types.LargeUtf8 s e some all p h = too_long (greatest_offset true) text_in some all p h
  too_many k types.Binary s e some all p h = too_long (greatest_offset false) bytes_in some all p h
  too_many k types.LargeBinary s e some all p h = too_long (greatest_offset true) bytes_in some all p h
  too_many k (types.List' shape item) s e some all p (inl h) = inl (omega (arith, h, longer (all_items some) (all_items all) (items_within some all p)))
  too_many k (types.List' shape item) s e some all p (inr h) =
      let q = bind_some (item_schema true k item) (λ z. Some (Array z)) s e in
      inr (too_many_items k item q.0 q.1 (all_items some) (all_items all) (items_within some all p) h)
  too_many k (types.LargeList' shape item) s e some all p (inl h) = inl (omega (arith, h, longer (all_items some) (all_items all) (items_within some all p)))
  too_many k (types.LargeList' shape item) s e some all p (inr h) =
      let q = bind_some (item_schema true k item) (λ z. Some (Array z)) s e in
      inr (too_many_items k item q.0 q.1 (all_items some) (all_items all) (items_within some all p) h)
  too_many k (types.FixedSizeList' shape item size) s e some all p h = absurd (none-some s e)
  too_many k (types.Struct' shape fields) s e some all p h =
      let q = bind_some (row_schemas true (k + 1) fields) (λ fs. Some (Record (plain_record (record_name (k + 1)) fs))) s e in
      too_many_members (k + 1) fields q.0 q.1 some all p h
  too_many k (types.Dictionary' key shape value is_sorted) s e some all p h = absurd (none-some s e)
  too_many k _ s e some all p h = absurd h

  too_many_items : {m : _} (k : ℕ) (row : Row_of-Field m) (z : Schema) → item_schema true k row ≡ Some z → (some all : List Json) → ArePart some all → TooManyItems row some → TooManyItems row all
  too_many_items k end_of-Field z e some all p h = absurd h
  too_many_items k (more_of-Field name t is_nullable metadata rest) z e some all p h =
      let q = bind_some (schema_of true k t) (λ y. Some (optional true is_nullable y)) z e in
      too_many k t q.0 q.1 some all p h

  too_many_members : {m : _} (k : ℕ) (row : Row_of-Field m) (fs : List AvroField) → row_schemas true k row ≡ Some fs → (some all : List Json) → ArePart some all → TooManyMembers row some → TooManyMembers row all
  too_many_members k end_of-Field fs e some all p h = absurd h
  too_many_members k (more_of-Field name t is_nullable metadata rest) fs e some all p (inl h) =
      let q = bind_some (schema_of true k t) (λ z. row_schemas true (k + structs_in t) rest >>= λ more. Some (plain_field name (optional true is_nullable z) ∷ more)) fs e in
      inl (too_many k t q.0 q.1 (members_named name some) (members_named name all) (members_within name some all p) h)
  too_many_members k (more_of-Field name t is_nullable metadata rest) fs e some all p (inr h) =
      let q = bind_some (schema_of true k t) (λ z. row_schemas true (k + structs_in t) rest >>= λ more. Some (plain_field name (optional true is_nullable z) ∷ more)) fs e in
      let r = bind_some (row_schemas true (k + structs_in t) rest) (λ more. Some (plain_field name (optional true is_nullable q.0) ∷ more)) fs q.2 in
      inr (too_many_members (k + structs_in t) rest r.0 r.1 some all p h)

-- under the types of columns that have a record
fields_too_many : (k : ℕ) (fields : List Field) (fs : List AvroField) → columns_fields true k fields ≡ Some fs → (some all : List Json) → ArePart some all → TooManyFields fields some → TooManyFields fields all
fields_too_many k [] fs e some all p h = absurd h
fields_too_many k (f ∷ rest) fs e some all p (inl h) =
    let q = bind_some (column_schema true k f) (λ s. columns_fields true (k + structs_in f.data_type) rest >>= λ more. Some (plain_field f.name s ∷ more)) fs e in
    let z = bind_some (schema_of true k f.data_type) (λ s. Some (optional true f.is_nullable s)) q.0 q.1 in
    inl (too_many k f.data_type z.0 z.1 (members_named f.name some) (members_named f.name all) (members_within f.name some all p) h)
fields_too_many k (f ∷ rest) fs e some all p (inr h) =
    let q = bind_some (column_schema true k f) (λ s. columns_fields true (k + structs_in f.data_type) rest >>= λ more. Some (plain_field f.name s ∷ more)) fs e in
    let r = bind_some (columns_fields true (k + structs_in f.data_type) rest) (λ more. Some (plain_field f.name q.0 ∷ more)) fs q.2 in
    inr (fields_too_many (k + structs_in f.data_type) rest r.0 r.1 some all p h)

pub rows_too_many : (fields : List Field) (nameless : TheRecord) → record_of true fields ≡ Some nameless → (some all : List Json) → ArePart some all → TooMany (types.Struct fields) some → TooMany (types.Struct fields) all
rows_too_many fields nameless e some all p h =
    let q = bind_some (columns_fields true 0 fields) (λ fs. Some (plain_record [] fs)) nameless e in
    subst (λ (z : Type 0). z) (sym (struct_too_many fields all)) (fields_too_many 0 fields q.0 q.1 some all p (subst (λ (z : Type 0). z) (struct_too_many fields some) h))
