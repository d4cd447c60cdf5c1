-- What is kept of types is no larger than they are, so coercion ends.
use Rattle.std.proofs.Common.{◌≡◌, refl, sym, ap, ◌∙◌, ℕ, zero, suc, ◌+◌, ◌≤◌, List, [], ◌∷◌, ◌++◌, take, Bool, true, false, cond, ◌||◌, Option, Some, None, is_some, slice_get, arith}
use Rattle.arrow_core.specs.declared.types.DataType.{DataType}
use Rattle.arrow_core.specs.declared.types.Field.{Field}
use Rattle.json_infer.specs.declared.seen.Seen.{Seen}
use Rattle.json_infer.specs.declared.seen.Seen.TheVariants as seen
use Rattle.json_infer.specs.Lists.{distinct, total}
use Rattle.json_infer.specs.Parts.{same, fields_of, members_of, nullable, size_of, sizes}
use Rattle.json_infer.specs.Coercion.{all_structs, coerce}
use Rattle.json_infer.specs.Columns.{Column, with_fields, coerced_columns, column_sizes}
use Rattle.json_infer.specs.Seen.{more, seen_after, seen_size}
use Rattle.json_infer.proofs.ListLaws.{and_true}
use Rattle.json_infer.proofs.Sizes.{size_struct, fields_are}
use Rattle.json_infer.proofs.Grouping.{fields_fit}

-- the members of a Struct, and the Struct itself
members_fit : (t : DataType) (o : Option (List Field)) → fields_of t ≡ o → is_some o ≡ true → suc (total (λ f. size_of f.data_type) (members_of t)) ≤ size_of t
members_fit t None h k = cc
members_fit t (Some fs) h k =
    let e : size_of t ≡ suc (total (λ f. size_of f.data_type) fs) = ap size_of (fields_are t fs h) ∙ size_struct fs in
    let m : members_of t ≡ fs = rw h refl in
    let n : total (λ f. size_of f.data_type) (members_of t) ≡ total (λ f. size_of f.data_type) fs = ap (total (λ (f : Field). size_of f.data_type)) m in
    omega arith

both_fit : (a t : DataType) (y : Bool) → all_structs (a ∷ t ∷ []) ≡ y → seen_size (cond y (seen.Structs (with_fields (with_fields [] (members_of a)) (members_of t))) (seen.Two a t)) ≤ size_of a + size_of t
both_fit a t true h =
    let k = and_true (is_some (fields_of a)) (all_structs (t ∷ [])) h in
    let l = and_true (is_some (fields_of t)) true k.1 in
    let p = members_fit a (fields_of a) refl k.0 in
    let q = members_fit t (fields_of t) refl l.0 in
    let r = fields_fit [] (members_of a) in
    let s = fields_fit (with_fields [] (members_of a)) (members_of t) in
    omega arith
both_fit a t false h = omega arith

more_fits : (s : Seen) (t : DataType) → seen_size (more s t) ≤ seen_size s + size_of t
more_fits seen.Nothing t = omega arith
more_fits (seen.One a) t = by_test (same t a)
  where
    by_test : (x : Bool) → seen_size (cond x (seen.One a) (cond (all_structs (a ∷ t ∷ [])) (seen.Structs (with_fields (with_fields [] (members_of a)) (members_of t))) (seen.Two a t))) ≤ size_of a + size_of t
    by_test true = omega arith
    by_test false = both_fit a t (all_structs (a ∷ t ∷ [])) refl
more_fits (seen.Two a b) t = by_test (same t a || same t b)
  where
    by_test : (x : Bool) → seen_size (cond x (seen.Two a b) seen.Many) ≤ size_of a + size_of b + size_of t
    by_test true = omega arith
    by_test false = omega arith
more_fits (seen.Structs cs) t = by_test (all_structs (t ∷ [])) refl
  where
    by_test : (y : Bool) → all_structs (t ∷ []) ≡ y → seen_size (cond y (seen.Structs (with_fields cs (members_of t))) seen.Many) ≤ suc (column_sizes cs) + size_of t
    by_test true h =
        let k = and_true (is_some (fields_of t)) true h in
        let p = members_fit t (fields_of t) refl k.0 in
        let q = fields_fit cs (members_of t) in
        omega arith
    by_test false h = omega arith
more_fits seen.Many t = omega arith

after_fits : (s : Seen) (ts : List DataType) → seen_size (seen_after s ts) ≤ seen_size s + sizes ts
after_fits s [] = omega arith
after_fits s (t ∷ ts) = let e = more_fits s t in let f = after_fits (more s t) ts in omega arith

pub seen_fits : (ts : List DataType) → seen_size (seen_after seen.Nothing ts) ≤ sizes ts
seen_fits ts = let e = after_fits seen.Nothing ts in omega arith

pub column_fits : (cs : List Column) (i : ℕ) (c : Column) → slice_get cs i ≡ Some c → sizes c.1 ≤ column_sizes cs
column_fits [] i c h = cc
column_fits (d ∷ cs) zero c h = let p : d ≡ c = cc in let e : sizes d.1 ≡ sizes c.1 = ap (λ (x : Column). sizes x.1) p in omega arith
column_fits (d ∷ cs) (suc i) c h = let e = column_fits cs i c h in omega arith

taken : (cs : List Column) (i : ℕ) (c : Column) → slice_get cs i ≡ Some c → coerced_columns (take (suc i) cs) ≡ coerced_columns (take i cs) ++ coerced_columns (c ∷ [])
taken [] i c h = cc
taken (d ∷ cs) zero c h = let p : d ≡ c = cc in ap (λ (x : Column). coerced_columns (x ∷ [])) p
taken (d ∷ cs) (suc i) c h = ap (λ fs. coerced_columns (d ∷ []) ++ fs) (taken cs i c h)

-- one more field
pub column_more : (cs : List Column) (i : ℕ) (c : Column) (old new : List Field) (f : Field) → slice_get cs i ≡ Some c → old ≡ coerced_columns (take i cs) → f ≡ nullable c.0 (coerce (distinct same c.1)) → new ≡ old ++ (f ∷ [])
    → new ≡ coerced_columns (take (i + 1) cs)
column_more cs i c old new f h o q n =
    let e : i + 1 ≡ suc i = omega arith in
    n ∙ ap (λ (fs : List Field). fs ++ (f ∷ [])) o ∙ ap (λ (g : Field). coerced_columns (take i cs) ++ (g ∷ [])) q ∙ sym (taken cs i c h) ∙ ap (λ (k : ℕ). coerced_columns (take k cs)) (sym e)
