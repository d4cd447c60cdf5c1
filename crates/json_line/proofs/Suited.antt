-- Names that suit a builder, in terms of the lists that code sees.
use Rattle.std.proofs.Common.{◌≡◌, ◌∙◌, ℕ, zero, suc, ◌<◌, true, List, [], ◌∷◌, ◌++◌, length, get_or, map, Vec, Global, refl, sym, ap, subst, arith}
use mathlib.Core.Former.{Count}
use Rattle.std.specs.Global.{Box}
use Rattle.arrow_builders.specs.Children.{fields_of}
use Rattle.arrow_builders.specs.Shapes.{Shape, flat, dictionary, lists, fixed_lists, records, no_field, field, shape}
use Rattle.arrow_builders.specs.Tight.{IsTight}
use Rattle.arrow_builders.specs.declared.array.MutableArray.{MutableArray, Struct}
use Rattle.arrow_builders.specs.declared.structs.DynMutableStructArray.{DynMutableStructArray}
use Rattle.arrow_builders.proofs.Rows.{shape-record}
use Rattle.json_tree.specs.Layout.{distinct}
use Rattle.json_line.specs.declared.field_names.FieldNames.{FieldNames, Items, Sized, Fields, Fields', Row_of-FieldNames, end_of-FieldNames, more_of-FieldNames, items-the_row-FieldNames, items_hidden-the_row-FieldNames-0}
use Rattle.json_line.specs.Builders.{struct_names, AllSuit, IsOfLists, Suits, SuitsBelow, SuitsFields, SuitsItems, SuitsSized}

abbrev row_of : FieldNames → (n : Count) × Row_of-FieldNames n
row_of (Fields' own _ row) = (_, row)
row_of _ = (_, end_of-FieldNames)

suits_row : (n : _) (row : Row_of-FieldNames n) (s : Shape) → SuitsBelow row s ≡ AllSuit (items-the_row-FieldNames n row) s
suits_row n end_of-FieldNames (flat kind t) = refl
suits_row n end_of-FieldNames (dictionary t items) = refl
suits_row n end_of-FieldNames (lists kind t item) = refl
suits_row n end_of-FieldNames (fixed_lists t item) = refl
suits_row n end_of-FieldNames (records t more) = refl
suits_row n end_of-FieldNames no_field = refl
suits_row n end_of-FieldNames (field first more) = refl
suits_row n (more_of-FieldNames names rest) (flat kind t) = refl
suits_row n (more_of-FieldNames names rest) (dictionary t items) = refl
suits_row n (more_of-FieldNames names rest) (lists kind t item) = refl
suits_row n (more_of-FieldNames names rest) (fixed_lists t item) = refl
suits_row n (more_of-FieldNames names rest) (records t more) = refl
suits_row n (more_of-FieldNames names rest) no_field = refl
suits_row n (more_of-FieldNames names rest) (field first more) = ap (λ (P : Type 0). Suits names first × P) (suits_row _ rest more)

pub suits_fields : (own : Vec (List ℕ) Global) (below : Vec FieldNames Global) (s : Shape) → Suits (Fields own below) s ≡ SuitsFields own.items below.items s
suits_fields own below (flat kind t) = refl
suits_fields own below (dictionary t items) = refl
suits_fields own below (lists kind t item) = refl
suits_fields own below (fixed_lists t item) = refl
suits_fields own below (records t more) =
    let row = row_of (Fields own below) in
    ap (λ (P : Type 0). (own.items ≡ struct_names t) × (distinct own.items ≡ true) × P) (suits_row row.0 row.1 more ∙ ap (λ (xs : List FieldNames). AllSuit xs more) (items_hidden-the_row-FieldNames-0 below))
suits_fields own below no_field = refl
suits_fields own below (field first more) = refl

module _ (names : FieldNames) (own : Vec (List ℕ) Global) (below : Vec FieldNames Global) (own_lent : List (List ℕ)) (below_lent : List FieldNames) (s : Shape)
    (is : names ≡ Fields own below) (own_is : own_lent ≡ own.items) (below_is : below_lent ≡ below.items) where
  pub fields_suit : Suits names s → SuitsFields own_lent below_lent s
  fields_suit h =
      subst (λ (xs : List (List ℕ)). SuitsFields xs below_lent s) (sym own_is)
      (subst (λ (xs : List FieldNames). SuitsFields own.items xs s) (sym below_is)
      (subst (λ (P : Type 0). P) (suits_fields own below s) (subst (λ (n : FieldNames). Suits n s) is h)))

-- a builder of structs
struct_suits : (own : List (List ℕ)) (below : List FieldNames) (b : DynMutableStructArray) → SuitsFields own below (shape (Struct b)) → (own ≡ struct_names b.marks.data_type) × (distinct own ≡ true) × AllSuit below (fields_of (map shape b.values.items))
struct_suits own below b h = subst (SuitsFields own below) (shape-record b) h

module _ (own : List (List ℕ)) (below : List FieldNames) (b : MutableArray) (S T : DynMutableStructArray) (d : b ≡ Struct S) (t : T ≡ S) where
  same_builder : b ≡ Struct T
  same_builder = d ∙ ap Struct (sym t)

  pub lent_suits : SuitsFields own below (shape b) → (own ≡ struct_names T.marks.data_type) × (distinct own ≡ true) × AllSuit below (fields_of (map shape T.values.items))
  lent_suits h = struct_suits own below T (subst (λ (c : MutableArray). SuitsFields own below (shape c)) same_builder h)

  pub lent_tight : IsTight b → IsTight (Struct T)
  lent_tight h = subst IsTight same_builder h

-- ---- children by index

pub suits_length : (ns : List FieldNames) (bs : List MutableArray) → AllSuit ns (fields_of (map shape bs)) → length ns ≡ length bs
suits_length [] [] h = refl
suits_length [] (b ∷ bs) h = absurd h
suits_length (n ∷ ns) [] h = absurd h
suits_length (n ∷ ns) (b ∷ bs) h = ap suc (suits_length ns bs h.1)

pub suits_at : (ns : List FieldNames) (bs : List MutableArray) (i : ℕ) (n : FieldNames) (b : MutableArray) → i < length ns → AllSuit ns (fields_of (map shape bs)) → Suits (get_or ns i n) (shape (get_or bs i b))
suits_at [] bs i n b lt h = absurd (omega (arith, lt))
suits_at (m ∷ ns) [] i n b lt h = absurd h
suits_at (m ∷ ns) (c ∷ bs) zero n b lt h = h.0
suits_at (m ∷ ns) (c ∷ bs) (suc i) n b lt h = suits_at ns bs i n b (omega (arith, lt)) h.1

pub suits_same : (ns : List FieldNames) (bs cs : List MutableArray) → map shape cs ≡ map shape bs → AllSuit ns (fields_of (map shape bs)) → AllSuit ns (fields_of (map shape cs))
suits_same ns bs cs e h = subst (λ (ss : List Shape). AllSuit ns (fields_of ss)) (sym e) h

pub suits_push : (ns : List FieldNames) (ss : List Shape) (n : FieldNames) (s : Shape) → AllSuit ns (fields_of ss) → Suits n s → AllSuit (ns ++ n ∷ []) (fields_of (ss ++ s ∷ []))
suits_push [] [] n s h p = (p, tt)
suits_push [] (x ∷ ss) n s h p = absurd h
suits_push (m ∷ ns) [] n s h p = absurd h
suits_push (m ∷ ns) (x ∷ ss) n s h p = (h.0, suits_push ns ss n s h.1 p)

-- ---- names beneath lists

pub items_suit : (b : Box FieldNames) (s : Shape) → Suits (Items b) s → SuitsItems b.value s
items_suit b (flat kind t) h = h
items_suit b (dictionary t items) h = h
items_suit b (lists kind t item) h = h
items_suit b (fixed_lists t item) h = h
items_suit b (records t more) h = h
items_suit b no_field h = h
items_suit b (field first more) h = h

module _ (names item : FieldNames) (b : Box FieldNames) (s : Shape) (is : names ≡ Items b) (below : item ≡ b.value) where
  pub lists_suit : Suits names s → SuitsItems item s
  lists_suit h = subst (λ (n : FieldNames). SuitsItems n s) (sym below) (items_suit b s (subst (λ (n : FieldNames). Suits n s) is h))

pub items_of_lists : (names : FieldNames) (s : Shape) → SuitsItems names s → IsOfLists s
items_of_lists names (flat kind t) h = h
items_of_lists names (dictionary t items) h = h
items_of_lists names (lists kind t item) h = tt
items_of_lists names (fixed_lists t item) h = tt
items_of_lists names (records t more) h = h
items_of_lists names no_field h = h
items_of_lists names (field first more) h = h

-- ---- names beneath lists of so many items

sized_items_suit : (n : ℕ) (b : Box FieldNames) (s : Shape) → Suits (Sized n b) s → SuitsSized n b.value s
sized_items_suit n b (flat kind t) h = h
sized_items_suit n b (dictionary t items) h = h
sized_items_suit n b (lists kind t item) h = h
sized_items_suit n b (fixed_lists t item) h = h
sized_items_suit n b (records t more) h = h
sized_items_suit n b no_field h = h
sized_items_suit n b (field first more) h = h

module _ (names item : FieldNames) (n : ℕ) (b : Box FieldNames) (s : Shape) (is : names ≡ Sized n b) (below : item ≡ b.value) where
  pub sized_suit : Suits names s → SuitsSized n item s
  sized_suit h = subst (λ (x : FieldNames). SuitsSized n x s) (sym below) (sized_items_suit n b s (subst (λ (x : FieldNames). Suits x s) is h))

pub sized_of_lists : (n : ℕ) (names : FieldNames) (s : Shape) → SuitsSized n names s → IsOfLists s
sized_of_lists n names (flat kind t) h = h
sized_of_lists n names (dictionary t items) h = h
sized_of_lists n names (lists kind t item) h = tt
sized_of_lists n names (fixed_lists t item) h = tt
sized_of_lists n names (records t more) h = h
sized_of_lists n names no_field h = h
sized_of_lists n names (field first more) h = h
