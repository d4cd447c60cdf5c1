-- New builders: their shapes, that they are empty, and one after the other.
use Rattle.std.proofs.Common.{◌≡◌, ◌∙◌, ◌⊎◌, inl, inr, ◌↔◌, ℕ, suc, ◌+◌, ◌<◌, ◌≤◌, Bool, true, false, List, [], ◌∷◌, ◌++◌, length, get_or, map, take, drop, All, Result, Ok, Err, Vec, Global, refl, sym, ap, subst, add-one, append_assoc, arith}
use Rattle.std.proofs.lemmas.List.{map-append, take_more, drop_all}
use Rattle.std.proofs.lemmas.List.Elements.{All-cons}
use Rattle.arrow_core.specs.declared.physical.PhysicalType.TheVariants as physical
use Rattle.arrow_core.specs.declared.types.Field.{Field}
use Rattle.arrow_core.specs.declared.types.DataType.{DataType}
use Rattle.arrow_builders.specs.Builders.{PlainBuilder, ContentBuilder, plain_node, content_node}
use Rattle.arrow_builders.specs.Children.{all_nodes, fields_of}
use Rattle.arrow_builders.specs.MutableArrays.{nodes}
use Rattle.arrow_builders.specs.Nested.{lists_node, marks_node}
use Rattle.arrow_builders.specs.Nodes.{Node, IsEmpty}
use Rattle.arrow_builders.specs.Shapes.{lists, records, shape}
use Rattle.arrow_builders.specs.declared.array.MutableArray.{MutableArray, List as ListOf, LargeList as LargeListOf, Struct}
use Rattle.arrow_builders.specs.declared.list.DynMutableListArray.{DynMutableListArray}
use Rattle.arrow_builders.specs.declared.large_list.DynMutableLargeListArray.{DynMutableLargeListArray}
use Rattle.arrow_builders.specs.declared.structs.DynMutableStructArray.{DynMutableStructArray}
use Rattle.arrow_builders.proofs.Rows.{shape-record, nodes-record}
use Rattle.std.specs.Prelude.{sum_by}
use Rattle.std.proofs.lemmas.List.{append-nil}
use Rattle.std.proofs.lemmas.List.Sums.{sum_by_more}
use Rattle.std.proofs.Math.Seq.{drop-cons}
use Rattle.arrow_core.specs.declared.slot.Slot.{Slot}
use Rattle.arrow_core.specs.declared.slot.Slot.TheVariants as slot
use Rattle.arrow_flat.specs.Dictionaries.{DictionaryBuilder, dictionary_node}
use Rattle.avro_schema.specs.declared.schema.AvroField.{AvroField}
use Rattle.avro_schema.specs.ValidBlock.{kept}
use Rattle.std.specs.Prelude.{IfOk, IfErr}
use Rattle.arrow_core.specs.declared.error.Error.{Error}
use Rattle.arrow_core.specs.declared.error.Error.TheVariants.{Overflow, OutOfMemory}
use Rattle.arrow_builders.specs.Fits.{TypesFit}
use Rattle.arrow_builders.specs.Tight.{IsTight}
use Rattle.arrow_builders.proofs.TightLaws.{empty_tight}
use Rattle.avro_schema.specs.Types.{HasType, HasColumnType}
use Rattle.avro_schema.specs.ValidBlock.{HasFloat, EnumsFit}
use Rattle.avro_schema.proofs.KeptLemmas.{kept_by_index}
use Rattle.avro_types.proofs.ColumnTypes.{zip_at}
use Rattle.avro_decode.specs.Making.{CanBeKept, IsNewBuilder, AreNewBuilders}
use Rattle.avro_schema.specs.Refusals.{BelongTogether}
use Rattle.avro_decode.proofs.Making.{all_new}

-- ---- without children

pub plain_empty : (b : PlainBuilder) → b.slots ≡ [] → All IsEmpty (plain_node b ∷ [])
plain_empty b e = All-cons IsEmpty (plain_node b) [] (record { slots = ap length e; bytes = refl }) (λ k d lt. absurd (omega (arith, lt)))

pub content_empty : (b : ContentBuilder) → b.slots ≡ [] → b.bytes ≡ 0 → All IsEmpty (content_node b ∷ [])
content_empty b e z = All-cons IsEmpty (content_node b) [] (record { slots = ap length e; bytes = z }) (λ k d lt. absurd (omega (arith, lt)))

-- ---- lists

pub list_shape : (b : DynMutableListArray) (t : DataType) (v : MutableArray) → b.lists.data_type ≡ t → b.values.value ≡ v → shape (ListOf b) ≡ lists physical.List t (shape v)
list_shape b t v e d =
    ap (λ (x : DataType). lists physical.List x (shape b.values.value)) e ∙ ap (λ (x : MutableArray). lists physical.List t (shape x)) d

pub list_empty : (b : DynMutableListArray) (v : MutableArray) → b.lists.lens ≡ [] → b.values.value ≡ v → All IsEmpty (nodes v) → All IsEmpty (nodes (ListOf b))
list_empty b v e d h =
    All-cons IsEmpty (lists_node b.lists) (nodes b.values.value) (record { slots = ap length e; bytes = refl }) (subst (λ (x : MutableArray). All IsEmpty (nodes x)) (sym d) h)

pub ruleset new_lists = (list_shape, list_empty)

pub large_list_shape : (b : DynMutableLargeListArray) (t : DataType) (v : MutableArray) → b.lists.data_type ≡ t → b.values.value ≡ v → shape (LargeListOf b) ≡ lists physical.LargeList t (shape v)
large_list_shape b t v e d =
    ap (λ (x : DataType). lists physical.LargeList x (shape b.values.value)) e ∙ ap (λ (x : MutableArray). lists physical.LargeList t (shape x)) d

pub large_list_empty : (b : DynMutableLargeListArray) (v : MutableArray) → b.lists.lens ≡ [] → b.values.value ≡ v → All IsEmpty (nodes v) → All IsEmpty (nodes (LargeListOf b))
large_list_empty b v e d h =
    All-cons IsEmpty (lists_node b.lists) (nodes b.values.value) (record { slots = ap length e; bytes = refl }) (subst (λ (x : MutableArray). All IsEmpty (nodes x)) (sym d) h)

pub ruleset new_large_lists = (large_list_shape, large_list_empty)

-- ---- structs

all_append : (xs ys : List Node) → All IsEmpty xs → All IsEmpty ys → All IsEmpty (xs ++ ys)
all_append [] ys h k = k
all_append (x ∷ xs) ys h k = All-cons IsEmpty x (xs ++ ys) (h 0 x (omega arith)) (all_append xs ys (λ i d lt. h (suc i) d (omega (arith, lt))) k)

all_empty : (bs : List MutableArray) → All (λ b. All IsEmpty (nodes b)) bs → All IsEmpty (all_nodes bs)
all_empty [] h = λ k d lt. absurd (omega (arith, lt))
all_empty (b ∷ bs) h = all_append (nodes b) (all_nodes bs) (h 0 b (omega arith)) (all_empty bs (λ i d lt. h (suc i) d (omega (arith, lt))))

pub struct_shape : (b : DynMutableStructArray) (t : DataType) (vs : List MutableArray) → b.marks.data_type ≡ t → b.values.items ≡ vs → shape (Struct b) ≡ records t (fields_of (map shape vs))
struct_shape b t vs e d =
    shape-record b ∙ ap (λ (x : DataType). records x (fields_of (map shape b.values.items))) e ∙ ap (λ (xs : List MutableArray). records t (fields_of (map shape xs))) d

pub struct_empty : (b : DynMutableStructArray) (vs : List MutableArray) → b.marks.booleans ≡ [] → b.values.items ≡ vs → All (λ c. All IsEmpty (nodes c)) vs → All IsEmpty (nodes (Struct b))
struct_empty b vs e d h =
    subst (All IsEmpty) (sym (nodes-record b))
    (All-cons IsEmpty (marks_node b.marks) (all_nodes b.values.items) (record { slots = ap length e; bytes = refl }) (all_empty b.values.items (subst (All (λ c. All IsEmpty (nodes c))) (sym d) h)))

pub ruleset new_structs = (struct_shape, struct_empty)

-- ---- dictionaries

pub dictionary_empty : (b : DictionaryBuilder) → b.slots ≡ [] → All IsEmpty (dictionary_node b ∷ [])
dictionary_empty b e = All-cons IsEmpty (dictionary_node b) [] (record { slots = ap length e; bytes = refl }) (λ k d lt. absurd (omega (arith, lt)))

pub ruleset new_empties = (plain_empty, content_empty, dictionary_empty)

-- the strings of the symbols before an index
abbrev pub StringsSoFar : List (List ℕ) → ℕ → List Slot → ℕ → Type 0
StringsSoFar symbols i slots bytes = (slots ≡ map slot.String (take i symbols)) × (bytes ≡ sum_by length (take i symbols))

pub strings_pushed : (symbols : List (List ℕ)) (i : ℕ) (x string : List ℕ) (slots more : List Slot) (bytes now : ℕ) → i < length symbols → StringsSoFar symbols i slots bytes → string ≡ get_or symbols i x → more ≡ slots ++ slot.String string ∷ [] → now ≡ bytes + length string → StringsSoFar symbols (i + 1) more now
strings_pushed symbols i x string slots more bytes now lt so is m n =
    let cut : take (i + 1) symbols ≡ take i symbols ++ get_or symbols i x ∷ [] = take_more symbols i x lt in
    let s : more ≡ map slot.String (take (i + 1) symbols) =
    m ∙ ap (λ (xs : List Slot). xs ++ slot.String string ∷ []) so.0 ∙ ap (λ (y : List ℕ). map slot.String (take i symbols) ++ slot.String y ∷ []) is ∙ sym (map-append slot.String (take i symbols) (get_or symbols i x ∷ [])) ∙ ap (map slot.String) (sym cut) in
    let total = sum_by_more length symbols i x lt in
    (s, omega (arith, n, so.1, total, ap length is))

pub only_memory : {X : Type 0} (r : Result X Error) (n limit : ℕ) → IfErr r (λ e. (e ≡ Overflow) ⊎ (e ≡ OutOfMemory)) → (r ≡ Err Overflow) ↔ (limit < n) → n ≤ limit → IfErr r (λ e. e ≡ OutOfMemory)
only_memory (Ok x) n limit e o le = tt
only_memory (Err e) n limit (inl is) o le = absurd (omega (arith, o.0 (ap Err is), le))
only_memory (Err e) n limit (inr is) o le = is

-- ---- one builder after the other

-- with builders for the fields that are left, those of all are made
abbrev pub NewSoFar : List AvroField → List AvroField → List Field → List Field → List MutableArray → Type 0
NewSoFar avro_fields more_avro fields more_fields done = (more : List MutableArray) → AreNewBuilders more_avro more_fields more → AreNewBuilders avro_fields fields (done ++ more)

new_pushed : (avros more_avros : List AvroField) (fs more_fs : List Field) (a : AvroField) (f : Field) (done now : List MutableArray) (b : MutableArray) → NewSoFar avros (a ∷ more_avros) fs (f ∷ more_fs) done → IsNewBuilder a.schema f.data_type b → now ≡ done ++ b ∷ [] → NewSoFar avros more_avros fs more_fs now
new_pushed avros more_avros fs more_fs a f done now b so n e more h =
    subst (AreNewBuilders avros fs) (sym (ap (λ (bs : List MutableArray). bs ++ more) e ∙ append_assoc done (b ∷ []) more)) (so (b ∷ more) (n, h))

new_ended : (avros : List AvroField) (fs : List Field) (more_avros : List AvroField) (more_fs : List Field) (done : List MutableArray) → more_avros ≡ [] → more_fs ≡ [] → NewSoFar avros more_avros fs more_fs done → AreNewBuilders avros fs done
new_ended avros fs more_avros more_fs done e d so =
    subst (AreNewBuilders avros fs) (append-nil done) (so [] (subst (λ (xs : List Field). AreNewBuilders more_avros xs []) (sym d) (subst (λ (xs : List AvroField). AreNewBuilders xs [] []) (sym e) tt)))

item_at : {A : Type 0} (xs : List A) (i : ℕ) (x : A) → i < length xs → drop i xs ≡ get_or xs i x ∷ drop (i + 1) xs
item_at xs i x lt = drop-cons xs i x lt ∙ ap (λ (j : ℕ). get_or xs i x ∷ drop j xs) (sym (add-one i))

-- ---- the children of a record

abbrev pub ChildrenSoFar : List AvroField → List Field → ℕ → List MutableArray → Type 0
ChildrenSoFar avro_fields fields i done = NewSoFar avro_fields (drop i avro_fields) fields (drop i fields) done

module _ (avros : List AvroField) (fs : List Field) where
  pub children_pushed : (i : ℕ) (a : AvroField) (f : Field) (done now : List MutableArray) (b : MutableArray) → length fs ≡ length avros → i < length avros → ChildrenSoFar avros fs i done → IsNewBuilder (get_or avros i a).schema (get_or fs i f).data_type b → now ≡ done ++ b ∷ [] → ChildrenSoFar avros fs (i + 1) now
  children_pushed i a f done now b same lt so n e =
      new_pushed avros (drop (i + 1) avros) fs (drop (i + 1) fs) (get_or avros i a) (get_or fs i f) done now b
      (subst (λ (xs : List Field). NewSoFar avros (get_or avros i a ∷ drop (i + 1) avros) fs xs done) (item_at fs i f (omega (arith, lt, same)))
      (subst (λ (xs : List AvroField). NewSoFar avros xs fs (drop i fs) done) (item_at avros i a lt) so)) n e

  pub children_ended : (i : ℕ) (done : List MutableArray) → length fs ≡ length avros → length avros ≤ i → ChildrenSoFar avros fs i done → AreNewBuilders avros fs done
  children_ended i done same le so = new_ended avros fs (drop i avros) (drop i fs) done (drop_all i avros le) (drop_all i fs (omega (arith, le, same))) so

-- ---- the builders of the kept fields

abbrev pub KeptSoFar : List AvroField → List Field → List Bool → ℕ → List MutableArray → Type 0
KeptSoFar avro_fields fields keeps i done = NewSoFar (kept avro_fields keeps) (kept (drop i avro_fields) (drop i keeps)) (kept fields keeps) (kept (drop i fields) (drop i keeps)) done

module _ (avros : List AvroField) (fs : List Field) (keeps : List Bool) where
  module _ (i : ℕ) (a : AvroField) (f : Field) (done : List MutableArray) (same : length fs ≡ length avros) (alike : length fs ≡ length keeps) (lt : i < length fs) (so : KeptSoFar avros fs keeps i done) where
    keeps_at : (v : Bool) → get_or keeps i false ≡ v → drop i keeps ≡ v ∷ drop (i + 1) keeps
    keeps_at v e = item_at keeps i false (omega (arith, lt, alike)) ∙ ap (λ (w : Bool). w ∷ drop (i + 1) keeps) e

    here : (v : Bool) → get_or keeps i false ≡ v → NewSoFar (kept avros keeps) (kept (get_or avros i a ∷ drop (i + 1) avros) (v ∷ drop (i + 1) keeps)) (kept fs keeps) (kept (get_or fs i f ∷ drop (i + 1) fs) (v ∷ drop (i + 1) keeps)) done
    here v e =
        subst (λ (ks : List Bool). NewSoFar (kept avros keeps) (kept (get_or avros i a ∷ drop (i + 1) avros) ks) (kept fs keeps) (kept (get_or fs i f ∷ drop (i + 1) fs) ks) done) (keeps_at v e)
        (subst (λ (xs : List Field). NewSoFar (kept avros keeps) (kept (get_or avros i a ∷ drop (i + 1) avros) (drop i keeps)) (kept fs keeps) (kept xs (drop i keeps)) done) (item_at fs i f lt)
        (subst (λ (xs : List AvroField). NewSoFar (kept avros keeps) (kept xs (drop i keeps)) (kept fs keeps) (kept (drop i fs) (drop i keeps)) done) (item_at avros i a (omega (arith, lt, same))) so))

    pub kept_pushed : (now : List MutableArray) (b : MutableArray) → get_or keeps i false ≡ true → IsNewBuilder (get_or avros i a).schema (get_or fs i f).data_type b → now ≡ done ++ b ∷ [] → KeptSoFar avros fs keeps (i + 1) now
    kept_pushed now b e n m = new_pushed (kept avros keeps) (kept (drop (i + 1) avros) (drop (i + 1) keeps)) (kept fs keeps) (kept (drop (i + 1) fs) (drop (i + 1) keeps)) (get_or avros i a) (get_or fs i f) done now b (here true e) n m

    pub kept_passed : get_or keeps i false ≡ false → KeptSoFar avros fs keeps (i + 1) done
    kept_passed e = here false e

  pub kept_ended : (i : ℕ) (done : List MutableArray) → length fs ≡ length avros → length fs ≤ i → KeptSoFar avros fs keeps i done → AreNewBuilders (kept avros keeps) (kept fs keeps) done
  kept_ended i done same le so =
      new_ended (kept avros keeps) (kept fs keeps) (kept (drop i avros) (drop i keeps)) (kept (drop i fs) (drop i keeps)) done
      (ap (λ (xs : List AvroField). kept xs (drop i keeps)) (drop_all i avros (omega (arith, le, same)))) (ap (λ (xs : List Field). kept xs (drop i keeps)) (drop_all i fs le)) so

module _ (fields : List Field) (avro_fields : List AvroField) (projection : List Bool) (b : BelongTogether fields avro_fields projection) (i : ℕ) (f : Field) (a : AvroField) (lt : i < length fields) (taken : get_or projection i false ≡ true) where
  pub field_is_kept : CanBeKept (get_or avro_fields i a).schema
  field_is_kept =
      let less : i < length avro_fields = omega (arith, lt, b.lengths.0) in
      record {
        carried = b.carried i a less;
        no_float = (kept_by_index (λ (x : AvroField). HasFloat x.schema → ⊥) avro_fields projection).0 b.no_float i a less taken;
        symbols = (kept_by_index (λ (x : AvroField). EnumsFit x.schema) avro_fields projection).0 b.symbols i a less taken;
      }

  pub field_fits : HasType true (get_or avro_fields i a).schema (get_or fields i f).data_type
  field_fits = (zip_at (λ (g : Field) (e : AvroField). HasColumnType true e.schema g) fields avro_fields i f a b.fits lt).1

-- any element
pub some_of : {A : Type 0} (xs : List A) → 0 < length xs → A
some_of [] h = absurd (omega (arith, h))
some_of (x ∷ xs) h = x

-- ---- all of them

pub if_all_made : {E : Type 0} (P Q : List MutableArray → Type 0) (r : Result (Vec MutableArray Global) E) → ((bs : List MutableArray) → P bs → Q bs) → IfOk r (λ builders. P builders.items) → IfOk r (λ builders. Q builders.items)
if_all_made P Q (Ok x) f h = f x.items h
if_all_made P Q (Err e) f h = tt

pub if_ok_both : {A E : Type 0} (P Q R : A → Type 0) (r : Result A E) → ((x : A) → P x → Q x → R x) → IfOk r P → IfOk r Q → IfOk r R
if_ok_both P Q R (Ok x) f h k = f x h k
if_ok_both P Q R (Err e) f h k = tt

pub if_ok_more : {A E : Type 0} (P Q : A → Type 0) (r : Result A E) → ((x : A) → P x → Q x) → IfOk r P → IfOk r Q
if_ok_more P Q (Ok x) f h = f x h
if_ok_more P Q (Err e) f h = tt

module _ (avros : List AvroField) (fs : List Field) (bs : List MutableArray) (h : AreNewBuilders avros fs bs) where
  pub made_empty : All (λ b. All IsEmpty (nodes b)) bs
  made_empty = all_new (λ b. All IsEmpty (nodes b)) avros fs bs (λ s t b n. n.empty) h

  pub made_fit : All (λ b. TypesFit (shape b)) bs
  made_fit = all_new (λ b. TypesFit (shape b)) avros fs bs (λ s t b n. n.types_fit) h

  pub made_tight : All IsTight bs
  made_tight = all_new IsTight avros fs bs (λ s t b n. empty_tight b n.empty) h
