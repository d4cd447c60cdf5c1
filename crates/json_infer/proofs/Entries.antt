-- Names beside the types of each, seen as columns.
use Rattle.std.proofs.Common.{◌≡◌, refl, sym, ap, subst, ◌∙◌, ℕ, zero, suc, ◌+◌, ◌<◌, length, List, [], ◌∷◌, ◌++◌, map, Bool, true, false, cond, Option, Some, None, IsSome, option_copied, is_some, set, get_or, arith}
use Rattle.std.specs.Borrow.{Bor}
use Rattle.std.proofs.lemmas.Option.{slice_get-get_or}
use Rattle.std.specs.List.{position_from, slice_get, zip}
use Rattle.std.specs.Str.{bytes_eq}
use Rattle.first_seen.specs.Keys.{index_of}
use Rattle.first_seen.proofs.Indices.{grown, kept}
use Rattle.arrow_core.specs.declared.types.DataType.{DataType}
use Rattle.json_infer.specs.Lists.{with_one}
use Rattle.json_infer.specs.Parts.{same}
use Rattle.json_infer.specs.Columns.{Column, types_named, with_type}

-- ---- lists of the same length

module _ {A B : Type 0} where
  pub length_zip : (xs : List A) (ys : List B) → length xs ≡ length ys → length ys ≡ length (zip xs ys)
  length_zip [] [] h = refl
  length_zip [] (y ∷ ys) h = absurd (omega arith)
  length_zip (x ∷ xs) [] h = absurd (omega arith)
  length_zip (x ∷ xs) (y ∷ ys) h = ap suc (length_zip xs ys (omega arith))

  pub firsts : (xs : List A) (ys : List B) → length xs ≡ length ys → map (λ p. p.0) (zip xs ys) ≡ xs
  firsts [] ys h = refl
  firsts (x ∷ xs) [] h = absurd (omega arith)
  firsts (x ∷ xs) (y ∷ ys) h = ap (λ zs. x ∷ zs) (firsts xs ys (omega arith))

  pub pair_at : (xs : List A) (ys : List B) (i : ℕ) (x : A) (y : B) → length xs ≡ length ys → Some x ≡ slice_get xs i → y ≡ get_or ys i y → slice_get (zip xs ys) i ≡ Some (x, y)
  pair_at [] ys i x y h e f = absurd cc
  pair_at (a ∷ xs) [] i x y h e f = absurd (omega arith)
  pair_at (a ∷ xs) (b ∷ ys) zero x y h e f = let d : a ≡ x = cc in λ j. Some (d j, sym f j)
  pair_at (a ∷ xs) (b ∷ ys) (suc i) x y h e f = pair_at xs ys i x y (omega arith) e f

-- what is lent of an item that is there
pub some_at : {A : Type 0} (xs : List A) (i : ℕ) (r : Option (Bor A)) → option_copied r ≡ slice_get xs i → i < length xs → IsSome r
some_at xs i (Some x) e l = refl
some_at [] i None e l = absurd (omega arith)
some_at (x ∷ xs) i None e l = let k = slice_get-get_or (x ∷ xs) i x l in absurd cc

-- ---- the index of a name

module _ {A : Type 0} (test : A → Bool) where
  behind : (s i : ℕ) (xs : List A) → position_from test (s + 1) xs ≡ Some i → (j : ℕ) × ((i ≡ suc j) × (position_from test s xs ≡ Some j))
  behind s i [] h = absurd cc
  behind s i (x ∷ xs) h = by_first (test x) h (behind (s + 1) i xs)
    where
      by_first : (b : Bool) → cond b (Some (s + 1)) (position_from test (s + 1 + 1) xs) ≡ Some i
          → (position_from test (s + 1 + 1) xs ≡ Some i → (j : ℕ) × ((i ≡ suc j) × (position_from test (s + 1) xs ≡ Some j)))
          → (j : ℕ) × ((i ≡ suc j) × (cond b (Some s) (position_from test (s + 1) xs) ≡ Some j))
      by_first true k rest = let e : s + 1 ≡ i = cc in (s, (omega (arith, e), refl))
      by_first false k rest = rest k

-- names that are absent among columns, and among names
module _ (names : List (List ℕ)) (types : List (List DataType)) (cs : List Column) (name : List ℕ) (h : length names ≡ length types) (v : zip names types ≡ cs) where
  names_are : map (λ c. c.0) cs ≡ names
  names_are = ap (map (λ c. c.0)) (sym v) ∙ firsts names types h

  pub absent_name : index_of bytes_eq (map (λ c. c.0) cs) name ≡ None → index_of bytes_eq names name ≡ None
  absent_name e = ap (λ ks. index_of bytes_eq ks name) (sym names_are) ∙ e

  pub absent_column : None ≡ index_of bytes_eq names name → index_of bytes_eq (map (λ c. c.0) cs) name ≡ None
  absent_column e = ap (λ ks. index_of bytes_eq ks name) names_are ∙ sym e

-- a name's types, by its index
pub named : (names : List (List ℕ)) (types : List (List DataType)) (name : List ℕ) (i : ℕ) (ts : List DataType) → length names ≡ length types → index_of bytes_eq names name ≡ Some i → ts ≡ get_or types i ts → ts ≡ types_named name (zip names types)
named [] types name i ts h k e = absurd cc
named (n ∷ names) [] name i ts h k e = absurd (omega arith)
named (n ∷ names) (t ∷ types) name i ts h k e = by_first (bytes_eq name n) k (λ j f l. named names types name j ts (omega arith) l (subst (λ m. ts ≡ get_or (t ∷ types) m ts) f e))
  where
    by_first : (b : Bool) → cond b (Some 0) (position_from (bytes_eq name) 1 names) ≡ Some i
        → ((j : ℕ) → i ≡ suc j → index_of bytes_eq names name ≡ Some j → ts ≡ types_named name (zip names types))
        → ts ≡ cond b t (types_named name (zip names types))
    by_first true m rest = let z : 0 ≡ i = cc in subst (λ m. ts ≡ get_or (t ∷ types) m ts) (sym z) e
    by_first false m rest = let s = behind (bytes_eq name) 0 i names m in rest s.0 s.1.0 s.1.1

-- a name that is there, with one more type
pub written : (names : List (List ℕ)) (types : List (List DataType)) (name : List ℕ) (i : ℕ) (old w : List DataType) (t : DataType) → length names ≡ length types → index_of bytes_eq names name ≡ Some i → old ≡ get_or types i old → w ≡ with_one same old t
    → zip names (set types i w) ≡ with_type (zip names types) name t
written [] types name i old w t h k e g = absurd cc
written (n ∷ names) [] name i old w t h k e g = absurd (omega arith)
written (n ∷ names) (u ∷ types) name i old w t h k e g = by_first (bytes_eq name n) k (λ j f l. written names types name j old w t (omega arith) l (subst (λ m. old ≡ get_or (u ∷ types) m old) f e) g)
  where
    by_first : (b : Bool) → cond b (Some 0) (position_from (bytes_eq name) 1 names) ≡ Some i
        → ((j : ℕ) → i ≡ suc j → index_of bytes_eq names name ≡ Some j → zip names (set types j w) ≡ with_type (zip names types) name t)
        → zip (n ∷ names) (set (u ∷ types) i w) ≡ cond b ((n, with_one same u t) ∷ zip names types) ((n, u) ∷ with_type (zip names types) name t)
    by_first true m rest =
        let z : 0 ≡ i = cc in
        let o : old ≡ u = subst (λ m. old ≡ get_or (u ∷ types) m old) (sym z) e in
        ap (λ m. zip (n ∷ names) (set (u ∷ types) m w)) (sym z) ∙ ap (λ us. (n, us) ∷ zip names types) (g ∙ ap (λ us. with_one same us t) o)
    by_first false m rest =
        let s = behind (bytes_eq name) 0 i names m in
        ap (λ j. zip (n ∷ names) (set (u ∷ types) j w)) s.1.0 ∙ ap (λ cs. (n, u) ∷ cs) (rest s.0 s.1.0 s.1.1)

-- a name that isn't there, with its first type
from_absent : (s : ℕ) (names : List (List ℕ)) (types : List (List DataType)) (name : List ℕ) (w : List DataType) (t : DataType) → length names ≡ length types → position_from (bytes_eq name) s names ≡ None → w ≡ t ∷ []
    → zip (names ++ name ∷ []) (types ++ w ∷ []) ≡ with_type (zip names types) name t
from_absent s [] [] name w t h k g = ap (λ us. (name, us) ∷ []) g
from_absent s [] (u ∷ types) name w t h k g = absurd (omega arith)
from_absent s (n ∷ names) [] name w t h k g = absurd (omega arith)
from_absent s (n ∷ names) (u ∷ types) name w t h k g = by_first (bytes_eq name n) k (λ l. from_absent (s + 1) names types name w t (omega arith) l g)
  where
    by_first : (b : Bool) → cond b (Some s) (position_from (bytes_eq name) (s + 1) names) ≡ None
        → (position_from (bytes_eq name) (s + 1) names ≡ None → zip (names ++ name ∷ []) (types ++ w ∷ []) ≡ with_type (zip names types) name t)
        → (n, u) ∷ zip (names ++ name ∷ []) (types ++ w ∷ []) ≡ cond b ((n, with_one same u t) ∷ zip names types) ((n, u) ∷ with_type (zip names types) name t)
    by_first true m rest = absurd cc
    by_first false m rest = ap (λ cs. (n, u) ∷ cs) (rest m)

pub added_name : (names more : List (List ℕ)) (types : List (List DataType)) (name key : List ℕ) (none w : List DataType) (t : DataType) → length names ≡ length types → index_of bytes_eq names name ≡ None → key ≡ name → none ≡ [] → w ≡ with_one same none t → more ≡ names ++ key ∷ []
    → zip more (types ++ w ∷ []) ≡ with_type (zip names types) name t
added_name names more types name key none w t h k e n g m =
    ap (λ ks. zip ks (types ++ w ∷ [])) (m ∙ ap (λ key. names ++ key ∷ []) e)
    ∙ from_absent 0 names types name w t h k (g ∙ ap (λ us. with_one same us t) n)

-- a type that came before, and one that didn't
pub type_kept : (ts : List DataType) (t : DataType) (r : Option ℕ) → r ≡ index_of same ts t → is_some r ≡ true → ts ≡ with_one same ts t
type_kept ts t None e h = absurd cc
type_kept ts t (Some i) e h = kept same ts t i (sym e)

pub type_added : (ts new : List DataType) (t added : DataType) (r : Option ℕ) → r ≡ index_of same ts t → is_some r ≡ false → added ≡ t → new ≡ ts ++ added ∷ [] → new ≡ with_one same ts t
type_added ts new t added None e h c n = grown same ts new t (sym e) (n ∙ ap (λ u. ts ++ u ∷ []) c)
type_added ts new t added (Some i) e h c n = absurd cc
