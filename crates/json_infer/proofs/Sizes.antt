-- The rules go into parts of smaller size, so `coerce` meets them at each level.
use Rattle.std.proofs.Common.{◌≡◌, refl, sym, ap, ◌∙◌, ℕ, zero, suc, ◌+◌, ◌≤◌, ◌<◌, List, [], ◌∷◌, ◌++◌, map, Bool, true, false, cond, arith, Option, Some, None, is_some, option_map}
use Rattle.arrow_core.specs.declared.types.DataType.{DataType, out-DataType, roll-DataType, roll-out-DataType}
use Rattle.arrow_core.specs.declared.types.DataType as data_type
use Rattle.arrow_core.specs.declared.types.DataType.TheOpen as layer
use Rattle.arrow_core.specs.declared.types.DataType.TheBlock.{shape-the_row-Field-0, hidden-the_row-Field-0, shape-the_row-Field-1, hidden-the_row-Field-1}
use Rattle.arrow_core.specs.declared.types.DataType.TheViews.{rolls-List, rolls-Struct}
use Rattle.arrow_core.specs.declared.types.Field.{Field}
use Rattle.std.specs.List.{list_any}
use Rattle.std.specs.Str.{bytes_eq}
use Rattle.json_infer.specs.Lists.{with_one, with_all, total}
use Rattle.json_infer.specs.Parts.{same, item_of, fields_of, members_of, nullable, list_of, size_of, fields_size, sizes}
use Rattle.json_infer.specs.Coercion.{names_of, types_in, all_types, types_of, all_same, all_structs, columns, pair, of_two, by_rules, coerce_in, coerce}
use Rattle.json_infer.proofs.ListLaws.{and_true}

size_list : (f : Field) → size_of (data_type.List f) ≡ suc (size_of f.data_type)
unfolding shape-the_row-Field-0 hidden-the_row-Field-0 denote.Hole.Carrier.hidden
size_list f = let e : size_of f.data_type + 0 ≡ size_of f.data_type = omega arith in ap suc e

size_fields : (fs : List Field) → fields_size (hidden-the_row-Field-1 fs) ≡ total (λ f. size_of f.data_type) fs
unfolding shape-the_row-Field-1 hidden-the_row-Field-1 denote.Hole.Carrier.hidden
size_fields [] = refl
size_fields (f ∷ fs) = ap (λ n. size_of f.data_type + n) (size_fields fs)

pub size_struct : (fs : List Field) → size_of (data_type.Struct fs) ≡ suc (total (λ f. size_of f.data_type) fs)
unfolding shape-the_row-Field-1 hidden-the_row-Field-1 denote.Hole.Carrier.hidden
size_struct fs = ap suc (size_fields fs)

opened_item : (o : layer.DataType-F DataType Field) (f : Field) → elim o as (λ _. Option Field) [ layer.List g ↦ Some g | _ ↦ None ] ≡ Some f → o ≡ layer.List f
opened_item (layer.List g) f h = cc
opened_item _ f h = cc

pub item_is : (t : DataType) (f : Field) → item_of t ≡ Some f → t ≡ data_type.List f
item_is t f h = sym (roll-out-DataType t) ∙ ap roll-DataType (opened_item (out-DataType t) f h) ∙ rolls-List f

opened_struct : (o : layer.DataType-F DataType Field) (fs : List Field) → elim o as (λ _. Option (List Field)) [ layer.Struct gs ↦ Some gs | _ ↦ None ] ≡ Some fs → o ≡ layer.Struct fs
opened_struct (layer.Struct gs) fs h = cc
opened_struct _ fs h = cc

pub fields_are : (t : DataType) (fs : List Field) → fields_of t ≡ Some fs → t ≡ data_type.Struct fs
fields_are t fs h = sym (roll-out-DataType t) ∙ ap roll-DataType (opened_struct (out-DataType t) fs h) ∙ rolls-Struct fs

pub item_less : (t : DataType) (f : Field) → item_of t ≡ Some f → suc (size_of f.data_type) ≡ size_of t
item_less t f h = sym (size_list f) ∙ ap size_of (sym (item_is t f h))

-- ---- lists of types

pub total_append : {A : Type 0} (w : A → ℕ) (xs ys : List A) → total w (xs ++ ys) ≡ total w xs + total w ys
total_append w [] ys = omega arith
total_append w (x ∷ xs) ys = let e = total_append w xs ys in omega arith

pub with_one_below : {A : Type 0} (w : A → ℕ) (b : Bool) (ys : List A) (x : A) → total w (cond b ys (ys ++ (x ∷ []))) ≤ total w ys + w x
with_one_below w true ys x = omega arith
with_one_below w false ys x = let e = total_append w ys (x ∷ []) in omega arith

pub with_all_below : {A : Type 0} (alike : A → A → Bool) (w : A → ℕ) (ys xs : List A) → total w (with_all alike ys xs) ≤ total w ys + total w xs
with_all_below alike w ys [] = omega arith
with_all_below alike w ys (x ∷ xs) = let e = with_one_below w (list_any (alike x) ys) ys x in let f = with_all_below alike w (with_one alike ys x) xs in omega arith

chosen_below : (b : Bool) (t : DataType) (us : List DataType) (n : ℕ) → sizes us ≤ n → sizes (cond b (t ∷ us) us) ≤ size_of t + n
chosen_below true t us n h = omega arith
chosen_below false t us n h = omega arith

types_in_below : (name : List ℕ) (fs : List Field) → sizes (types_in name fs) ≤ total (λ f. size_of f.data_type) fs
types_in_below name [] = omega arith
types_in_below name (f ∷ fs) = chosen_below (bytes_eq f.name name) f.data_type (types_in name fs) (total (λ f. size_of f.data_type) fs) (types_in_below name fs)

members_below : (name : List ℕ) (t : DataType) (o : Option (List Field)) → fields_of t ≡ o → is_some o ≡ true → suc (sizes (types_in name (members_of t))) ≤ size_of t
members_below name t None h k = cc
members_below name t (Some fs) h k =
    let e : size_of t ≡ suc (total (λ f. size_of f.data_type) fs) = ap size_of (fields_are t fs h) ∙ size_struct fs in
    let m : members_of t ≡ fs = rw h refl in
    let below : sizes (types_in name (members_of t)) ≤ total (λ f. size_of f.data_type) fs = rw m (types_in_below name fs) in
    omega arith

all_types_below : (name : List ℕ) (ts : List DataType) → all_structs ts ≡ true → sizes (all_types name ts) ≤ sizes ts
all_types_below name [] h = omega arith
all_types_below name (t ∷ ts) h =
    let k = and_true (is_some (fields_of t)) (all_structs ts) h in
    let e = total_append size_of (types_in name (members_of t)) (all_types name ts) in
    let a = members_below name t (fields_of t) refl k.0 in
    let b = all_types_below name ts k.1 in
    omega arith

pub types_below : (name : List ℕ) (t : DataType) (ts : List DataType) → all_structs (t ∷ ts) ≡ true → sizes (types_of name (t ∷ ts)) < sizes (t ∷ ts)
types_below name t ts h =
    let k = and_true (is_some (fields_of t)) (all_structs ts) h in
    let e = total_append size_of (types_in name (members_of t)) (all_types name ts) in
    let a = members_below name t (fields_of t) refl k.0 in
    let b = all_types_below name ts k.1 in
    let c = with_all_below same size_of [] (all_types name (t ∷ ts)) in
    omega arith

-- ---- two ways to go deeper that agree below a size give the same at it

abbrev Agree : (List DataType → DataType) → (List DataType → DataType) → ℕ → Type 0
Agree d e k = (us : List DataType) → sizes us < k → d us ≡ e us

module _ (d e : List DataType → DataType) where
  columns_agree : (ns : List (List ℕ)) (t : DataType) (ts : List DataType) → Agree d e (sizes (t ∷ ts)) → all_structs (t ∷ ts) ≡ true
      → map (λ name. nullable name (d (types_of name (t ∷ ts)))) ns ≡ map (λ name. nullable name (e (types_of name (t ∷ ts)))) ns
  columns_agree [] t ts a h = refl
  columns_agree (n ∷ ns) t ts a h =
      let p : d (types_of n (t ∷ ts)) ≡ e (types_of n (t ∷ ts)) = a (types_of n (t ∷ ts)) (types_below n t ts h) in
      let q = columns_agree ns t ts a h in
      λ i. nullable n (p i) ∷ q i

  pair_agree : (t u : DataType) (x y : Option Field) → item_of t ≡ x → item_of u ≡ y → Agree d e (sizes (t ∷ u ∷ [])) → pair d x y t u ≡ pair e x y t u
  pair_agree t u (Some f) (Some g) h k a = let p = item_less t f h in let q = item_less u g k in ap list_of (a (f.data_type ∷ g.data_type ∷ []) (omega arith))
  pair_agree t u (Some f) None h k a = let p = item_less t f h in ap list_of (a (u ∷ f.data_type ∷ []) (omega arith))
  pair_agree t u None (Some g) h k a = let q = item_less u g k in ap list_of (a (t ∷ g.data_type ∷ []) (omega arith))
  pair_agree t u None None h k a = refl

  of_two_agree : (t : DataType) (ts : List DataType) → Agree d e (sizes (t ∷ ts)) → of_two d t ts ≡ of_two e t ts
  of_two_agree t [] a = refl
  of_two_agree t (u ∷ []) a = pair_agree t u (item_of t) (item_of u) refl refl a
  of_two_agree t (u ∷ v ∷ ts) a = refl

  cond_agree : {A : Type 0} (b c : Bool) (x y y' z z' : A) → (c ≡ true → y ≡ y') → z ≡ z' → cond b x (cond c y z) ≡ cond b x (cond c y' z')
  cond_agree true c x y y' z z' h k = refl
  cond_agree false true x y y' z z' h k = h refl
  cond_agree false false x y y' z z' h k = k

  by_rules_agree : (ts : List DataType) → Agree d e (sizes ts) → by_rules d ts ≡ by_rules e ts
  by_rules_agree [] a = refl
  by_rules_agree (t ∷ ts) a = cond_agree (all_same t ts) (all_structs (t ∷ ts)) t (data_type.Struct (columns d (t ∷ ts))) (data_type.Struct (columns e (t ∷ ts))) (of_two d t ts) (of_two e t ts)
      (λ h. ap data_type.Struct (columns_agree (names_of (t ∷ ts)) t ts a h)) (of_two_agree t ts a)

-- more levels change nothing
levels_agree : (n m : ℕ) (ts : List DataType) → sizes ts < n → sizes ts < m → coerce_in n ts ≡ coerce_in m ts
levels_agree zero m ts h k = absurd (omega arith)
levels_agree (suc n) zero ts h k = absurd (omega arith)
levels_agree (suc n) (suc m) ts h k = by_rules_agree (coerce_in n) (coerce_in m) ts (λ us below. levels_agree n m us (omega arith) (omega arith))

-- the rules hold at each level
pub coerce_is : (ts : List DataType) → coerce ts ≡ by_rules coerce ts
unfolding coerce
coerce_is ts = by_rules_agree (coerce_in (sizes ts)) coerce ts (λ us below. levels_agree (sizes ts) (suc (sizes us)) us below (omega arith))

-- an item is smaller than its List
pub item_size : (t s : DataType) → option_map (λ f. f.data_type) (item_of t) ≡ Some s → suc (size_of s) ≡ size_of t
item_size t s h = by_item (item_of t) refl
  where
    by_item : (o : Option Field) → item_of t ≡ o → suc (size_of s) ≡ size_of t
    by_item None e = let k : option_map (λ f. f.data_type) (item_of t) ≡ None = ap (option_map (λ f. f.data_type)) e in cc
    by_item (Some f) e =
        let k : option_map (λ f. f.data_type) (item_of t) ≡ Some f.data_type = ap (option_map (λ f. f.data_type)) e in
        let p : f.data_type ≡ s = cc in
        ap (λ (v : DataType). suc (size_of v)) (sym p) ∙ item_less t f e
