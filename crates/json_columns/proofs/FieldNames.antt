-- Names of fields, in terms of the fields that code sees.
use Rattle.std.proofs.Common.{◌≡◌, ◌∙◌, ℕ, ◌+◌, ◌<◌, Bool, true, false, cond, ◌||◌, List, [], ◌∷◌, ◌++◌, take, get_or, length, ℤ, Option, Some, is_some, refl, sym, ap}
use Rattle.std.specs.List.{list_any, position_from}
use Rattle.std.specs.Str.{bytes_eq}
use Rattle.std.proofs.lemmas.List.Folds.{list_any_more}
use Rattle.std.proofs.lemmas.Slice.Eq.{bytes_eq-Decides}
use Rattle.arrow_core.specs.declared.types.Field.{Field}
use Rattle.arrow_core.specs.declared.types.DataType.{DataType}
use Rattle.arrow_core.specs.declared.types.IntegerType.{IntegerType}
use Rattle.arrow_core.specs.declared.types.UnionMode.{UnionMode}
use Rattle.arrow_core.specs.declared.types.DataType.TheVariants as types
use Rattle.arrow_core.specs.declared.types.DataType.TheBlock.{shape-the_row-Field-0, hidden-the_row-Field-0, shape-the_row-Field-1, hidden-the_row-Field-1, hidden-the_row-DataType-2}
use Rattle.json_flat.specs.Names.{names_twice, repeat, row_names_twice}
use Rattle.first_seen.specs.Keys.{index_of}
use Rattle.json_flat.proofs.DistinctNames.{same_test}
use Rattle.json_flat.proofs.RowNames.{row_named}
use Rattle.json_columns.specs.Names.{any_names_twice, AreNames, is_named, struct_names_twice}

or_false : (b : Bool) → (b || false) ≡ b
or_false true = refl
or_false false = refl

pub list_names : (f : Field) → names_twice (types.List f) ≡ names_twice f.data_type
unfolding shape-the_row-Field-0 hidden-the_row-Field-0 denote.Hole.Carrier.hidden
list_names f = or_false (names_twice f.data_type)

pub large_list_names : (f : Field) → names_twice (types.LargeList f) ≡ names_twice f.data_type
unfolding shape-the_row-Field-0 hidden-the_row-Field-0 denote.Hole.Carrier.hidden
large_list_names f = or_false (names_twice f.data_type)

pub fixed_list_names : (f : Field) (n : ℕ) → names_twice (types.FixedSizeList f n) ≡ names_twice f.data_type
unfolding shape-the_row-Field-0 hidden-the_row-Field-0 denote.Hole.Carrier.hidden
fixed_list_names f n = or_false (names_twice f.data_type)

pub map_names : (f : Field) (b : Bool) → names_twice (types.Map f b) ≡ names_twice f.data_type
unfolding shape-the_row-Field-0 hidden-the_row-Field-0 denote.Hole.Carrier.hidden
map_names f b = or_false (names_twice f.data_type)

row_twice : (fs : List Field) → row_names_twice (hidden-the_row-Field-1 fs) ≡ any_names_twice fs
unfolding shape-the_row-Field-1 hidden-the_row-Field-1 denote.Hole.Carrier.hidden
row_twice [] = refl
row_twice (f ∷ fs) = ap (λ z. names_twice f.data_type || z) (row_twice fs)

pub struct_names : (fs : List Field) → names_twice (types.Struct fs) ≡ struct_names_twice fs
unfolding shape-the_row-Field-1 hidden-the_row-Field-1 denote.Hole.Carrier.hidden
struct_names fs = λ i. (repeat (row_named fs i) || row_twice fs i)

pub union_names : (fs : List Field) (ids : Option (List ℤ)) (mode : UnionMode) → names_twice (types.Union fs ids mode) ≡ any_names_twice fs
unfolding shape-the_row-Field-1 hidden-the_row-Field-1 denote.Hole.Carrier.hidden
union_names fs ids mode = row_twice fs

pub dictionary_names : (key : IntegerType) (value : DataType) (is_sorted : Bool) → names_twice (types.Dictionary key value is_sorted) ≡ names_twice value
unfolding hidden-the_row-DataType-2 denote.Hole.Carrier.hidden
dictionary_names key value is_sorted = refl

pub extension_names : (name : List ℕ) (inner : DataType) (metadata : Option (List ℕ)) → names_twice (types.Extension name inner metadata) ≡ names_twice inner
unfolding hidden-the_row-DataType-2 denote.Hole.Carrier.hidden
extension_names name inner metadata = refl

-- ---- names among which keys are looked up

is_found : (test : List ℕ → Bool) (i : ℕ) (names : List (List ℕ)) → is_some (position_from test i names) ≡ list_any test names
is_found test i [] = refl
is_found test i (x ∷ names) = by_first (test x) (is_found test (i + 1) names)
  where
    by_first : (b : Bool) → is_some (position_from test (i + 1) names) ≡ list_any test names → is_some (cond b (Some i) (position_from test (i + 1) names)) ≡ (b || list_any test names)
    by_first true h = refl
    by_first false h = h

any_last : (test : List ℕ → Bool) (names : List (List ℕ)) (name : List ℕ) → list_any test (names ++ name ∷ []) ≡ (list_any test names || test name)
any_last test [] name = or_false (test name)
any_last test (x ∷ names) name = ap (λ z. test x || z) (any_last test names name) ∙ sym (or_or (test x) (list_any test names) (test name))
  where
    or_or : (a b c : Bool) → ((a || b) || c) ≡ (a || (b || c))
    or_or true b c = refl
    or_or false b c = refl

-- one more field, whose name is looked for among those before
module _ (fs : List Field) (i : ℕ) (f : Field) (names : List (List ℕ)) (lt : i < length fs) (at : f ≡ get_or fs i f) (h : AreNames (take i fs) names) where
  named_more : (key : List ℕ) → is_named key (take (i + 1) fs) ≡ (is_named key (take i fs) || bytes_eq f.name key)
  named_more key = list_any_more (λ (g : Field). bytes_eq g.name key) fs i f lt ∙ ap (λ (g : Field). is_named key (take i fs) || bytes_eq g.name key) (sym at)

  pub name_known : is_some (index_of bytes_eq names f.name) ≡ true → AreNames (take (i + 1) fs) names
  name_known s key = h key ∙ once (is_named key (take i fs)) (bytes_eq f.name key) (λ e. ap (λ k. is_named k (take i fs)) (sym ((bytes_eq-Decides f.name key).0 e)) ∙ sym (h f.name) ∙ s) ∙ sym (named_more key)
    where
      once : (a b : Bool) → (b ≡ true → a ≡ true) → a ≡ (a || b)
      once true b e = refl
      once false true e = e refl
      once false false e = refl

  pub name_new : (new : List (List ℕ)) → new ≡ names ++ f.name ∷ [] → AreNames (take (i + 1) fs) new
  name_new new e key =
      ap (λ ns. is_some (index_of bytes_eq ns key)) e
      ∙ is_found (bytes_eq key) 0 (names ++ f.name ∷ [])
      ∙ any_last (bytes_eq key) names f.name
      ∙ (λ j. ((sym (is_found (bytes_eq key) 0 names) ∙ h key) j || same_test key f.name j))
      ∙ sym (named_more key)
