-- Rows of several lines, and the columns of them.
use Rattle.std.proofs.Common.{◌≡◌, ◌≢◌, ◌∙◌, ℕ, zero, suc, ◌+◌, ◌<◌, ◌≤◌, ◌&&◌, Bool, true, false, List, [], ◌∷◌, ◌++◌, length, get_or, map, take, Vec, Global, refl, sym, ap, subst, append_assoc, arith, All}
use Rattle.std.specs.List.{AllZip}
use Rattle.std.specs.Prelude.{Result, Ok, Err, IfOk}
use Rattle.std.proofs.lemmas.List.{append-nil, length-map, map-append, take_more}
use Rattle.arrow_array.specs.Arrays.{array_slots, array_type}
use Rattle.arrow_array.specs.declared.array.Array.{Array}
use Rattle.arrow_builders.specs.Children.{fields_of}
use Rattle.arrow_builders.specs.MutableArrays.{builder_slots, builder_type}
use Rattle.arrow_builders.specs.Shapes.{Shape, shape, shape_type}
use Rattle.arrow_builders.proofs.Heads.{type_is}
use Rattle.arrow_builders.specs.declared.array.MutableArray.{MutableArray}
use Rattle.arrow_core.specs.declared.slot.Slot.{Slot}
use Rattle.arrow_core.specs.declared.types.Field.{Field}
use Rattle.json_tree.specs.Layout.{distinct}
use Rattle.json_tree.specs.Meaning.{IsJson}
use Rattle.json_tree.specs.Reading.{found, skip, value_at, First}
use Rattle.json_tree.specs.Tree.{Json, object}
use Rattle.json_tree.proofs.Turns.{array-empty, array-end, array-next, array-start, skip-length, ArrayTurn}
use Rattle.json_flat.specs.Columns.{AreSlotsOf, means}
use Rattle.json_flat.specs.Meaning.{Layer, Meaning, slot_of}
use Rattle.json_flat.specs.Reading.{reading}
use Rattle.json_lend.specs.Fields.{value_named}
use Rattle.json_line.specs.declared.field_names.FieldNames.{FieldNames}
use Rattle.json_lend.specs.declared.given_up.GivenUp.{GivenUp}
use Rattle.json_line.specs.Builders.{line_shape, shape_reading, shapes_of, AllSuit, AreLineBuilders, ReadsInto, ReadsItems, Takes, TakesAll, TakesRow, TakesRows}
use Rattle.json_flat.specs.Names.{names_of}
use Rattle.json_line.specs.Lines.{are_line_fields, have_line_readings, values_named, AreColumnsOf, AreObjects, IsColumnOf}
use Rattle.json_line.specs.Types.{has_line_reading}
use Rattle.json_line.proofs.Shapes.{same_reading, same_type as type_of_shape}

-- ---- lines after lines

pub no-rows : (names : List (List ℕ)) (old : List MutableArray) → TakesRows names [] old old
no-rows names old k name b lt = ([], refl, sym (append-nil (builder_slots (get_or old k b))))

zip-push : {A B : Type 0} (R : A → B → Type 0) (xs : List A) (ys : List B) (x : A) (y : B) → AllZip R xs ys → R x y → AllZip R (xs ++ x ∷ []) (ys ++ y ∷ [])
zip-push R [] [] x y h r = (r, tt)
zip-push R [] (v ∷ ys) x y h r = absurd h
zip-push R (u ∷ xs) [] x y h r = absurd h
zip-push R (u ∷ xs) (v ∷ ys) x y h r = (h.0, zip-push R xs ys x y h.1 r)

get-map : {A B : Type 0} (f : A → B) (xs : List A) (k : ℕ) (d : A) → get_or (map f xs) k (f d) ≡ f (get_or xs k d)
get-map f [] k d = refl
get-map f (x ∷ xs) zero d = refl
get-map f (x ∷ xs) (suc k) d = get-map f xs k d

same-shape : (now old : List MutableArray) (k : ℕ) (b : MutableArray) → map shape now ≡ map shape old → shape (get_or now k b) ≡ shape (get_or old k b)
same-shape now old k b e = sym (get-map shape now k b) ∙ ap (λ ss. get_or ss k (shape b)) e ∙ get-map shape old k b

-- one value more
value-more : (f : Layer → Meaning) (vs : List Json) (v : Json) (added : List Slot) (s : Slot) → AreSlotsOf f vs added → means f v ≡ slot_of s → AreSlotsOf f (vs ++ v ∷ []) (added ++ s ∷ [])
value-more f vs v added s h m =
    map-append (means f) vs (v ∷ []) ∙ ((λ i. h i ++ m i ∷ []) ∙ sym (map-append slot_of added (s ∷ [])))

row-more : (names : List (List ℕ)) (rows : List (List (List ℕ × Json))) (members : List (List ℕ × Json)) (old now new : List MutableArray) → length now ≡ length old → map shape now ≡ map shape old → TakesRows names rows old now → TakesRow names members now new
    → TakesRows names (rows ++ members ∷ []) old new
row-more names rows members old now new n shapes t r k name b lt =
    let a = t k name b lt in
    let p = r k name b (omega (arith, n, lt)) in
    let here : List ℕ = get_or names k name in
    let m : means (shape_reading (shape (get_or old k b))) (value_named members here) ≡ slot_of p.0 = ap (λ s. means (shape_reading s) (value_named members here)) (sym (same-shape now old k b shapes)) ∙ p.1 in
    let vs : values_named (rows ++ members ∷ []) here ≡ values_named rows here ++ value_named members here ∷ [] = map-append (λ ms. value_named ms here) rows (members ∷ []) in (
      a.0 ++ p.0 ∷ [],
      subst (λ xs. AreSlotsOf (shape_reading (shape (get_or old k b))) xs (a.0 ++ p.0 ∷ [])) (sym vs) (value-more (shape_reading (shape (get_or old k b))) (values_named rows here) (value_named members here) a.0 p.0 a.1 m),
      p.2 ∙ (ap (λ (xs : List Slot). xs ++ p.0 ∷ []) a.2 ∙ append_assoc (builder_slots (get_or old k b)) a.0 (p.0 ∷ [])),
    )

-- one item more
pub item-more : (done : List Json) (v : Json) (old now new : MutableArray) → shape now ≡ shape old → TakesAll done old now → Takes v now new → TakesAll (done ++ v ∷ []) old new
item-more done v old now new same (added, meant, are) (s, m, e) =
    let f = shape_reading (shape old) in
    let here : means f v ≡ slot_of s = ap (λ x. means (shape_reading x) v) (sym same) ∙ m in
    (added ++ s ∷ [], value-more f done v added s meant here, e ∙ (ap (λ (xs : List Slot). xs ++ s ∷ []) are ∙ append_assoc (builder_slots old) added (s ∷ [])))

pub no-items : (b : MutableArray) → TakesAll [] b b
no-items b = ([], refl, sym (append-nil (builder_slots b)))

-- the items that were read so far were taken
abbrev pub ItemsSoFar : ℕ → List ℕ → List ℕ → MutableArray → MutableArray → Type 0
ItemsSoFar d b r old now = (n : ℕ) × (done : List Json) × (length r ≤ n) × ArrayTurn d n done r b × TakesAll done old now

pub items-start : (d : ℕ) (b r : List ℕ) (old : MutableArray) → r ≡ skip b → First (λ x t. x ≢ 93) (skip b) → ItemsSoFar d b r old old
items-start d b r old e f =
    let s = array-start d b r e f in
    (s.0, [], s.1, s.2, no-items old)

pub none-read : (d : ℕ) (b r : List ℕ) (old : MutableArray) → skip b ≡ 93 ∷ r → ReadsItems d b r old old
none-read d b r old e = ([], array-empty d b r e, no-items old)

module _ (d : ℕ) (b r p q s : List ℕ) (old now new : MutableArray) (same : shape now ≡ shape old) (so_far : ItemsSoFar d b r old now) (e : p ≡ skip r) (le : length q ≤ length p) (reads : ReadsInto (value_at d) p q now new) where
  item : value_at d (skip r) ≡ found reads.0 q
  item = ap (value_at d) (sym e) ∙ reads.1

  took : TakesAll (so_far.1 ++ reads.0 ∷ []) old new
  took = item-more so_far.1 reads.0 old now new same so_far.4 reads.2

  short : length q ≤ so_far.0
  short = omega (arith, le, ap length e, skip-length r, so_far.2)

  pub items-next : skip q ≡ 44 ∷ s → ItemsSoFar d b s old new
  items-next c =
      let n = array-next d so_far.0 so_far.1 (so_far.1 ++ reads.0 ∷ []) reads.0 r b q s so_far.3 short item c refl in
      (n.0, so_far.1 ++ reads.0 ∷ [], n.1, n.2, took)

  pub items-end : skip q ≡ 93 ∷ s → ReadsItems d b s old new
  items-end c = (so_far.1 ++ reads.0 ∷ [], array-end d so_far.0 so_far.1 (so_far.1 ++ reads.0 ∷ []) reads.0 r b q s so_far.3 short item c refl, took)

-- the rows of the first lines
abbrev pub RowsSoFar : ℕ → List (List ℕ) → List (List ℕ) → List MutableArray → List MutableArray → Type 0
RowsSoFar i lines names old now = (rows : List (List (List ℕ × Json))) × AreObjects rows (take i lines) × TakesRows names rows old now

pub line-more : (i : ℕ) (lines names : List (List ℕ)) (line text : List ℕ) (old now new : List MutableArray) → i < length lines → line ≡ get_or lines i line → text ≡ line → length now ≡ length old → map shape now ≡ map shape old → RowsSoFar i lines names old now
    → (members : List (List ℕ × Json)) × IsJson (object members) text × TakesRow names members now new → RowsSoFar (i + 1) lines names old new
line-more i lines names line text old now new lt is same n shapes so_far (members, json, row) =
    let R : List (List ℕ × Json) → List ℕ → Type 0 = λ ms l. IsJson (object ms) l in
    let more : take (i + 1) lines ≡ take i lines ++ line ∷ [] = take_more lines i line lt ∙ ap (λ (l : List ℕ). take i lines ++ l ∷ []) (sym is) in (
      so_far.0 ++ members ∷ [],
      subst (λ ls. AllZip R (so_far.0 ++ members ∷ []) ls) (sym more) (zip-push R so_far.0 (take i lines) members line so_far.1 (subst (λ t. IsJson (object members) t) same json)),
      row-more names so_far.0 members old now new n shapes so_far.2 row,
    )

take-whole : (xs : List (List ℕ)) (n : ℕ) → length xs ≤ n → take n xs ≡ xs
take-whole [] zero h = refl
take-whole [] (suc n) h = refl
take-whole (x ∷ xs) zero h = absurd (omega (arith, h))
take-whole (x ∷ xs) (suc n) h = ap (λ (ys : List (List ℕ)). x ∷ ys) (take-whole xs n (omega (arith, h)))

-- all lines are rows
pub all-rows : (i : ℕ) (lines names : List (List ℕ)) (old now : List MutableArray) → length lines ≤ i → RowsSoFar i lines names old now → (rows : List (List (List ℕ × Json))) × AreObjects rows lines × TakesRows names rows old now
all-rows i lines names old now le (rows, objects, takes) = (rows, subst (λ ls. AreObjects rows ls) (take-whole lines i le) objects, takes)

-- ---- columns

and-left : (a b : Bool) → (a && b) ≡ true → a ≡ true
and-left true b e = refl
and-left false b e = absurd cc

and-right : (a b : Bool) → (a && b) ≡ true → b ≡ true
and-right true b e = e
and-right false b e = absurd cc

pub are-distinct : (fields : List Field) → are_line_fields fields ≡ true → distinct (names_of fields) ≡ true
are-distinct fields e = and-left (distinct (names_of fields)) _ e

pub are-readable : (fields : List Field) → are_line_fields fields ≡ true → have_line_readings fields ≡ true
are-readable fields e = and-right (distinct (names_of fields)) _ e

column-of : (rows : List (List (List ℕ × Json))) (f : Field) (b d : MutableArray) (a : Array) → has_line_reading f.data_type ≡ true → shape b ≡ line_shape f.data_type → builder_slots b ≡ [] → TakesAll (values_named rows f.name) b d → array_type a ≡ builder_type d → shape d ≡ shape b → array_slots a ≡ builder_slots d
    → IsColumnOf rows f a
column-of rows f b d a readable shaped none (added, meant, are) type same slots = record {
  data_type = type ∙ (type_is d ∙ (ap shape_type (same ∙ shaped) ∙ type_of_shape f.data_type));
  slots =
      let held : array_slots a ≡ added = slots ∙ (are ∙ ap (λ (xs : List Slot). xs ++ added) none) in
      let same_meaning : shape_reading (shape b) ≡ reading f.data_type = ap shape_reading shaped ∙ same_reading f.data_type readable in
      subst (λ xs. AreSlotsOf (reading f.data_type) (values_named rows f.name) xs) (sym held) (subst (λ (r : Layer → Meaning). AreSlotsOf r (values_named rows f.name) added) same_meaning meant);
}

pub columns-of : (rows : List (List (List ℕ × Json))) (fields : List Field) (bs ds : List MutableArray) (arrays : List Array) → have_line_readings fields ≡ true → map shape bs ≡ shapes_of fields → map shape ds ≡ map shape bs → All (λ b. builder_slots b ≡ []) bs
    → TakesRows (names_of fields) rows bs ds → map array_type arrays ≡ map builder_type ds → map array_slots arrays ≡ map builder_slots ds → AllZip (IsColumnOf rows) fields arrays
columns-of rows [] [] [] [] r shaped same none t types slots = tt
columns-of rows [] [] [] (a ∷ arrays) r shaped same none t types slots = absurd cc
columns-of rows [] [] (d ∷ ds) arrays r shaped same none t types slots = absurd cc
columns-of rows [] (b ∷ bs) ds arrays r shaped same none t types slots = absurd cc
columns-of rows (f ∷ fields) [] ds arrays r shaped same none t types slots = absurd cc
columns-of rows (f ∷ fields) (b ∷ bs) [] arrays r shaped same none t types slots = absurd cc
columns-of rows (f ∷ fields) (b ∷ bs) (d ∷ ds) [] r shaped same none t types slots = absurd cc
columns-of rows (f ∷ fields) (b ∷ bs) (d ∷ ds) (a ∷ arrays) r shaped same none t types slots =
    let first : shape b ≡ line_shape f.data_type = cc in
    let others : map shape bs ≡ shapes_of fields = cc in
    let kept : shape d ≡ shape b = cc in
    let other_kept : map shape ds ≡ map shape bs = cc in
    let type : array_type a ≡ builder_type d = cc in
    let other_types : map array_type arrays ≡ map builder_type ds = cc in
    let held : array_slots a ≡ builder_slots d = cc in
    let other_slots : map array_slots arrays ≡ map builder_slots ds = cc in (
      column-of rows f b d a (and-left (has_line_reading f.data_type) _ r) first (none 0 b (omega arith)) (t 0 f.name b (omega arith)) type kept held,
      columns-of rows fields bs ds arrays (and-right (has_line_reading f.data_type) _ r) others other_kept (λ k x lt. none (suc k) x (omega (arith, lt))) (λ k name x lt. t (suc k) name x (omega (arith, lt))) other_types other_slots,
    )

module _ (fields : List Field) (names : List (List ℕ)) (below : List FieldNames) (builders bs : List MutableArray) (are : AreLineBuilders fields names below builders) (shapes : map shape bs ≡ map shape builders) where
  -- the columns of the rows of lines
  pub lines-read : (lines : List (List ℕ)) (ds : List MutableArray) (r : Result (Vec Array Global) GivenUp) → All (λ b. builder_slots b ≡ []) bs → map shape ds ≡ map shape bs
      → (rows : List (List (List ℕ × Json))) × AreObjects rows lines × TakesRows names rows bs ds → IfOk r (λ arrays. map array_type arrays.items ≡ map builder_type ds) → IfOk r (λ arrays. map array_slots arrays.items ≡ map builder_slots ds) → IfOk r (λ columns. AreColumnsOf fields lines columns.items)
  lines-read lines ds (Ok arrays) none same (rows, objects, takes) types slots = record {
    rows = rows;
    objects = objects;
    members = columns-of rows fields bs ds arrays.items (are-readable fields are.fit) (shapes ∙ are.shapes_are) same none (subst (λ ns. TakesRows ns rows bs ds) are.names_are takes) types slots;
  }
  lines-read lines ds (Err g) none same takes types slots = tt

  -- what lines are pushed into
  pub names-distinct : distinct names ≡ true
  names-distinct = subst (λ ns. distinct ns ≡ true) (sym are.names_are) (are-distinct fields are.fit)

  pub as-many : length bs ≡ length names
  as-many =
      let f : Field → List ℕ = λ (x : Field). x.name in
      let g : Field → Shape = λ (x : Field). line_shape x.data_type in
      sym (length-map bs shape) ∙ (ap length (shapes ∙ are.shapes_are) ∙ (length-map fields g ∙ (sym (length-map fields f) ∙ ap length (sym are.names_are))))

  pub all-suit : AllSuit below (fields_of (map shape bs))
  all-suit = subst (λ (ss : List Shape). AllSuit below (fields_of ss)) (sym (shapes ∙ are.shapes_are)) are.suits

-- seen by equal names and builders
pub moved-builders : (fields : List Field) (names given : List (List ℕ)) (below lent_below : List FieldNames) (bs lent : List MutableArray) → AreLineBuilders fields names below bs → given ≡ names → lent_below ≡ below → lent ≡ bs → AreLineBuilders fields given lent_below lent
moved-builders fields names given below lent_below bs lent are is under same = record {
  fit = are.fit;
  names_are = is ∙ are.names_are;
  suits = subst (λ (ns : List FieldNames). AllSuit ns (fields_of (shapes_of fields))) (sym under) are.suits;
  shapes_are = ap (map shape) same ∙ are.shapes_are;
}
