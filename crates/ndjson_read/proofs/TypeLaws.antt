-- The types of values by their kinds, and of arrays whose items have one type.
use Rattle.std.proofs.Common.{◌≡◌, refl, sym, ap, subst, ◌∙◌, ◌++◌, List, [], ◌∷◌, ℕ, map, Bool, true, false, cond, Option, Some, None, inl, inr}
use Rattle.std.proofs.lemmas.Bool.{true≢false}
use Rattle.arrow_core.specs.Entries.{Entry}
use Rattle.arrow_core.specs.EntryComparisons.{entries_eq}
use Rattle.arrow_core.specs.declared.types.DataType.{DataType, out-DataType}
use Rattle.arrow_core.specs.declared.types.DataType as data_type
use Rattle.arrow_core.specs.declared.types.Field.{Field}
use Rattle.json_tree.specs.declared.value.Value.{fold-roll-Value}
use Rattle.json_tree.specs.declared.value.Value.TheOpen as layer
use Rattle.json_tree.specs.declared.value.Value.TheVariants as variant
use Rattle.json_tree.specs.declared.value.Number.TheVariants as number_variant
use Rattle.json_tree.specs.Tree.{Json, null, boolean, string, number, array, has_point}
use Rattle.json_infer.specs.Lists.{Among, distinct}
use Rattle.json_infer.specs.Parts.{same, list_of, item_name, nullable}
use Rattle.json_infer.specs.Coercion.{coerce}
use Rattle.json_infer.specs.Inferred.{kept, by_kind, by_members, items_type, number_type, type_of, type_of_types}
use Rattle.json_infer.proofs.Equality.{exact}
use Rattle.json_infer.proofs.Folding.{absorbed}
use Rattle.json_infer.proofs.Grouping.{map_append}
use Rattle.json_infer.proofs.Turns.{coerce_none, coerce_same}
use Rattle.json_tree.specs.Reading.{Outcome, found}
use Rattle.ndjson_read.specs.Compared.{IsComparison, Compares, joined}
use Rattle.ndjson_read.specs.declared.comparison.Comparison.{Comparison}
use Rattle.ndjson_read.specs.declared.comparison.Comparison.TheVariants as comparison

-- ---- by kind

pub type_of_null : type_of null ≡ data_type.Null
unfolding type_of
type_of_null = ap type_of (sym variant.rolls-Null) ∙ fold-roll-Value DataType (List Field) by_kind by_members layer.Null

pub type_of_boolean : (b : Bool) → type_of (boolean b) ≡ data_type.Boolean
unfolding type_of
type_of_boolean b = ap type_of (sym (variant.rolls-Bool b)) ∙ fold-roll-Value DataType (List Field) by_kind by_members (layer.Bool b)

pub type_of_string : (text : List ℕ) → type_of (string text) ≡ data_type.Utf8
unfolding type_of
type_of_string text = ap type_of (sym (variant.rolls-String text)) ∙ fold-roll-Value DataType (List Field) by_kind by_members (layer.String text)

abbrev by_point : Bool → DataType
by_point point = cond point data_type.Float64 data_type.Int64

pub type_of_number : (mantissa exponent : List ℕ) → type_of (number mantissa exponent) ≡ by_point (has_point mantissa)
unfolding type_of
type_of_number mantissa exponent =
    let n = cond (has_point mantissa) (number_variant.Float mantissa exponent) (number_variant.Integer mantissa exponent) in
    ap type_of (sym (variant.rolls-Number n)) ∙ fold-roll-Value DataType (List Field) by_kind by_members (layer.Number n) ∙ at (has_point mantissa)
  where
    at : (b : Bool) → number_type (cond b (number_variant.Float mantissa exponent) (number_variant.Integer mantissa exponent)) ≡ by_point b
    at true = refl
    at false = refl

pub type_of_array : (items : List Json) → type_of (array items) ≡ items_type (type_of_types (map type_of items))
unfolding type_of
type_of_array items = ap type_of (sym (variant.rolls-Array items)) ∙ fold-roll-Value DataType (List Field) by_kind by_members (layer.Array items)

-- ---- types that aren't Null

abbrev has_parts : DataType → Bool
has_parts t = elim (out-DataType t) as (λ _. Bool) [ data_type.TheOpen.Null ↦ false | _ ↦ true ]

not_null : (t : DataType) → has_parts t ≡ true → (b : Bool) → same t data_type.Null ≡ b → b ≡ false
unfolding out-DataType denote.Hole.Carrier.out
not_null t h true e = absurd (true≢false (sym h ∙ ap has_parts ((exact t data_type.Null).0 e)))
not_null t h false e = refl

pub boolean_kept : same data_type.Boolean data_type.Null ≡ false
unfolding out-DataType denote.Hole.Carrier.out
boolean_kept = not_null data_type.Boolean refl (same data_type.Boolean data_type.Null) refl

pub string_kept : same data_type.Utf8 data_type.Null ≡ false
unfolding out-DataType denote.Hole.Carrier.out
string_kept = not_null data_type.Utf8 refl (same data_type.Utf8 data_type.Null) refl

pub integer_kept : same data_type.Int64 data_type.Null ≡ false
unfolding out-DataType denote.Hole.Carrier.out
integer_kept = not_null data_type.Int64 refl (same data_type.Int64 data_type.Null) refl

pub float_kept : same data_type.Float64 data_type.Null ≡ false
unfolding out-DataType denote.Hole.Carrier.out
float_kept = not_null data_type.Float64 refl (same data_type.Float64 data_type.Null) refl

pub list_kept : (f : Field) → same (data_type.List f) data_type.Null ≡ false
unfolding out-DataType denote.Hole.Carrier.out
list_kept f = not_null (data_type.List f) refl (same (data_type.List f) data_type.Null) refl

pub struct_kept : (fs : List Field) → same (data_type.Struct fs) data_type.Null ≡ false
unfolding out-DataType denote.Hole.Carrier.out
struct_kept fs = not_null (data_type.Struct fs) refl (same (data_type.Struct fs) data_type.Null) refl

pub null_is_null : same data_type.Null data_type.Null ≡ true
null_is_null = (exact data_type.Null data_type.Null).1 refl

-- ---- arrays

kept_last : (ts : List DataType) (t : DataType) → kept (ts ++ t ∷ []) ≡ cond (same t data_type.Null) (kept ts) (kept ts ++ t ∷ [])
kept_last [] t = at (same t data_type.Null)
  where
    at : (b : Bool) → cond b [] (t ∷ []) ≡ cond b [] (t ∷ [])
    at b = refl
kept_last (u ∷ ts) t = at (same u data_type.Null) (same t data_type.Null) (kept_last ts t)
  where
    at : (a b : Bool) → kept (ts ++ t ∷ []) ≡ cond b (kept ts) (kept ts ++ t ∷ [])
        → cond a (kept (ts ++ t ∷ [])) (u ∷ kept (ts ++ t ∷ [])) ≡ cond b (cond a (kept ts) (u ∷ kept ts)) (cond a (kept ts) (u ∷ kept ts) ++ t ∷ [])
    at true b h = h
    at false true h = ap (λ us. u ∷ us) h
    at false false h = ap (λ us. u ∷ us) h

abbrev pub AllAre : DataType → List DataType → Type 0
AllAre t [] = Unit {0}
AllAre t (u ∷ us) = (u ≡ t) × AllAre t us

-- the types of items so far: all are Null; or some are the expected one, and the others Null
abbrev pub ItemsAre : Comparison → List DataType → Option DataType → Type 0
ItemsAre comparison.Null ts expected = kept ts ≡ []
ItemsAre comparison.Equal ts expected = (t : DataType) × (more : List DataType) × (expected ≡ Some t) × (kept ts ≡ t ∷ more) × AllAre t more × (same t data_type.Null ≡ false)
ItemsAre comparison.Unequal ts expected = ⊥

pub items_null : (c : Comparison) (ts : List DataType) (t : DataType) (expected : Option DataType) → t ≡ data_type.Null → ItemsAre c ts expected → ItemsAre c (ts ++ t ∷ []) expected
items_null comparison.Null ts t expected e h = kept_last ts t ∙ ap (λ (b : Bool). cond b (kept ts) (kept ts ++ t ∷ [])) (ap (λ u. same u data_type.Null) e ∙ null_is_null) ∙ h
items_null comparison.Equal ts t expected e h =
    (h.0, h.1, h.2, kept_last ts t ∙ ap (λ (b : Bool). cond b (kept ts) (kept ts ++ t ∷ [])) (ap (λ u. same u data_type.Null) e ∙ null_is_null) ∙ h.3, h.4, h.5)
items_null comparison.Unequal ts t expected e h = h

all_more : (t : DataType) (us : List DataType) (u : DataType) → u ≡ t → AllAre t us → AllAre t (us ++ u ∷ [])
all_more t [] u e h = (e, tt)
all_more t (v ∷ us) u e h = (h.0, all_more t us u e h.1)

pub some_is : (t u : DataType) → Some t ≡ Some u → u ≡ t
some_is t u e = ap (λ (o : Option DataType). elim o as (λ _. DataType) [ Some x ↦ x | None ↦ u ]) (sym e)

pub items_equal : (c : Comparison) (ts : List DataType) (t : DataType) (expected : Option DataType) → IsComparison comparison.Equal t expected → ItemsAre c ts expected → ItemsAre comparison.Equal (ts ++ t ∷ []) expected
items_equal comparison.Null ts t expected e h =
    (t, [], e.0, kept_last ts t ∙ ap (λ (b : Bool). cond b (kept ts) (kept ts ++ t ∷ [])) e.1 ∙ ap (λ us. us ++ t ∷ []) h, tt, e.1)
items_equal comparison.Equal ts t expected e h =
    (h.0, h.1 ++ t ∷ [], h.2, kept_last ts t ∙ ap (λ (b : Bool). cond b (kept ts) (kept ts ++ t ∷ [])) e.1 ∙ ap (λ us. us ++ t ∷ []) h.3, all_more h.0 h.1 t (some_is h.0 t (sym h.2 ∙ e.0)) h.4, h.5)
items_equal comparison.Unequal ts t expected e h = absurd h

all_among : (t : DataType) (us : List DataType) → AllAre t us → (u : DataType) → Among u us → Among u (t ∷ [])
all_among t [] h u a = absurd a
all_among t (v ∷ us) h u (inl e) = inl (sym h.0 ∙ e)
all_among t (v ∷ us) h u (inr a) = all_among t us h.1 u a

-- the type of an array, by the types of its items
pub array_compared : (c : Comparison) (items : List Json) (item expected : Option DataType) → ItemsAre c (map type_of items) item → ((t : DataType) → item ≡ Some t → expected ≡ Some (list_of t))
    → IsComparison c (type_of (array items)) expected
array_compared comparison.Null items item expected h lists =
    type_of_array items ∙ ap (λ (ts : List DataType). items_type (coerce (distinct same ts))) h ∙ ap items_type coerce_none
    ∙ ap (λ (b : Bool). cond b data_type.Null (list_of data_type.Null)) null_is_null
array_compared comparison.Equal items item expected h lists =
    let t = h.0 in
    let one : distinct same (t ∷ h.1) ≡ t ∷ [] = absorbed same exact (t ∷ []) h.1 (all_among t h.1 h.4) in
    let is : type_of (array items) ≡ list_of t =
    type_of_array items ∙ ap (λ (ts : List DataType). items_type (coerce (distinct same ts))) h.3 ∙ ap (λ (ts : List DataType). items_type (coerce ts)) one ∙ ap items_type (coerce_same t [] refl)
    ∙ ap (λ (b : Bool). cond b data_type.Null (list_of t)) h.5 in
    (lists t h.2 ∙ ap Some (sym is), ap (λ (u : DataType). same u data_type.Null) is ∙ list_kept (nullable item_name t))
array_compared comparison.Unequal items item expected h lists = tt

pub map_last : (items : List Json) (v : Json) → map type_of (items ++ v ∷ []) ≡ map type_of items ++ type_of v ∷ []
map_last items v = map_append type_of items (v ∷ [])

-- ---- comparisons by kind

pub null_compared : (v : Json) (expected : Option DataType) → v ≡ null → IsComparison comparison.Null (type_of v) expected
null_compared v expected e = ap type_of e ∙ type_of_null

equal_compared : (v : Json) (t : DataType) (expected : Option DataType) → type_of v ≡ t → same t data_type.Null ≡ false → expected ≡ Some t → IsComparison comparison.Equal (type_of v) expected
equal_compared v t expected is kept e = (e ∙ ap Some (sym is), ap (λ (u : DataType). same u data_type.Null) is ∙ kept)

pub boolean_compared : (v : Json) (b : Bool) (expected : Option DataType) → v ≡ boolean b → expected ≡ Some data_type.Boolean → IsComparison comparison.Equal (type_of v) expected
boolean_compared v b expected is e = equal_compared v data_type.Boolean expected (ap type_of is ∙ type_of_boolean b) boolean_kept e

pub string_compared : (v : Json) (text : List ℕ) (expected : Option DataType) → v ≡ string text → expected ≡ Some data_type.Utf8 → IsComparison comparison.Equal (type_of v) expected
string_compared v text expected is e = equal_compared v data_type.Utf8 expected (ap type_of is ∙ type_of_string text) string_kept e

pub integer_compared : (mantissa exponent : List ℕ) (expected : Option DataType) → has_point mantissa ≡ false → expected ≡ Some data_type.Int64 → IsComparison comparison.Equal (type_of (number mantissa exponent)) expected
integer_compared mantissa exponent expected h e = equal_compared (number mantissa exponent) data_type.Int64 expected (type_of_number mantissa exponent ∙ ap by_point h) integer_kept e

pub float_compared : (mantissa exponent : List ℕ) (expected : Option DataType) → has_point mantissa ≡ true → expected ≡ Some data_type.Float64 → IsComparison comparison.Equal (type_of (number mantissa exponent)) expected
float_compared mantissa exponent expected h e = equal_compared (number mantissa exponent) data_type.Float64 expected (type_of_number mantissa exponent ∙ ap by_point h) float_kept e

-- ---- fields that inference gives

pub none_is : (xs : List Entry) → entries_eq xs [] ≡ true → xs ≡ []
none_is [] h = refl
none_is (x ∷ xs) h = absurd (true≢false (sym h))

-- ---- what was read

-- a value that was read, and what comparing its type tells
pub compared : (c : Comparison) (v : Json) (expected : Option DataType) (rest : List ℕ) (outcome : Outcome Json) → outcome ≡ found v rest → IsComparison c (type_of v) expected → Compares c expected rest outcome
compared comparison.Null v expected rest outcome e h = (v, e, h)
compared comparison.Equal v expected rest outcome e h = (v, e, h)
compared comparison.Unequal v expected rest outcome e h = tt

pub empty_array : type_of (array []) ≡ data_type.Null
empty_array = array_compared comparison.Null [] None None refl (λ t e. absurd cc)

comparison_is : (c d : Comparison) → Some c ≡ Some d → d ≡ c
comparison_is c d e = ap (λ (o : Option Comparison). elim o as (λ _. Comparison) [ Some x ↦ x | None ↦ d ]) (sym e)

not_some : {A : Type 0} (x : A) → ◌≡◌ {A = Option A} None (Some x) → ⊥
not_some x e = cc

-- one item more
pub joined_item : (c d next : Comparison) (items : List Json) (v : Json) (item : Option DataType) → joined c d ≡ Some next → IsComparison d (type_of v) item → ItemsAre c (map type_of items) item
    → ItemsAre next (map type_of (items ++ v ∷ [])) item
joined_item c comparison.Null next items v item e h are =
    subst (λ (d : Comparison). ItemsAre d (map type_of (items ++ v ∷ [])) item) (sym (comparison_is c next e)) (subst (λ (ts : List DataType). ItemsAre c ts item) (sym (map_last items v)) (items_null c (map type_of items) (type_of v) item h are))
joined_item c comparison.Equal next items v item e h are =
    subst (λ (d : Comparison). ItemsAre d (map type_of (items ++ v ∷ [])) item) (sym (comparison_is comparison.Equal next e))
    (subst (λ (ts : List DataType). ItemsAre comparison.Equal ts item) (sym (map_last items v)) (items_equal c (map type_of items) (type_of v) item h are))
joined_item c comparison.Unequal next items v item e h are = absurd (not_some next e)

-- the value that was read, where its type is told
pub value_read : (c d next : Comparison) (item : Option DataType) (rest : List ℕ) (outcome : Outcome Json) → joined c d ≡ Some next → Compares d item rest outcome
    → (v : Json) × (outcome ≡ found v rest) × IsComparison d (type_of v) item
value_read c comparison.Null next item rest outcome e h = h
value_read c comparison.Equal next item rest outcome e h = h
value_read c comparison.Unequal next item rest outcome e h = absurd (not_some next e)

pub struct_read : (v : Json) (fs : List Field) (expected : Option DataType) (rest : List ℕ) (outcome : Outcome Json) → outcome ≡ found v rest → type_of v ≡ data_type.Struct fs → expected ≡ Some (data_type.Struct fs)
    → Compares comparison.Equal expected rest outcome
struct_read v fs expected rest outcome e is h = (v, e, equal_compared v (data_type.Struct fs) expected is (struct_kept fs) h)
