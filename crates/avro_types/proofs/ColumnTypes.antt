-- Types of columns, in terms of the lists of members and of fields that code sees.
use Rattle.std.proofs.Common.{◌≡◌, ◌↔◌, ◌⊎◌, inl, inr, ◌∙◌, ℕ, zero, suc, ◌+◌, ◌<◌, ◌≤◌, List, [], ◌∷◌, length, get_or, Bool, true, IsTrue, refl, sym, ap, subst, arith}
use Rattle.std.specs.List.{AllZip}
use Rattle.std.proofs.lemmas.Bool.{cases_lt}
use Rattle.arrow_core.specs.declared.types.Field.{Field}
use Rattle.arrow_core.specs.declared.types.DataType.{DataType, List as ListType, LargeList, Struct, List', LargeList', Struct', items-the_row-Field, items_hidden-the_row-Field-1}
use Rattle.arrow_core.specs.declared.types.DataType.TheBlock.{shape-the_row-Field-0, hidden-the_row-Field-0}
use Rattle.avro_schema.specs.declared.schema.AvroField.{AvroField}
use Rattle.avro_schema.specs.declared.schema.Record.{Record as TheRecord, out-Record}
use Rattle.avro_schema.specs.declared.schema.Schema.{Schema, Array, Union, Record}
use Rattle.avro_schema.specs.Types.{HasType, HasColumnType, Fits}
use Rattle.avro_schema.specs.TypeLaws.{HasMemberTypeOf}
use Rattle.avro_schema.proofs.TypeLemmas.{type_composites}
use Rattle.avro_types.specs.Columns.{HasListType, HasStructType}
use Rattle.avro_types.proofs.Parts.{follow}

-- ---- lists element by element

pub flip : {A B : Type 0} (R : A → B → Type 0) (xs : List A) (ys : List B) → AllZip R xs ys → AllZip (λ y x. R x y) ys xs
flip R [] [] h = tt
flip R [] (y ∷ ys) h = absurd h
flip R (x ∷ xs) [] h = absurd h
flip R (x ∷ xs) (y ∷ ys) h = (h.0, flip R xs ys h.1)

pub zip_length : {A B : Type 0} (R : A → B → Type 0) (xs : List A) (ys : List B) → AllZip R xs ys → length xs ≡ length ys
zip_length R [] [] h = refl
zip_length R [] (y ∷ ys) h = absurd h
zip_length R (x ∷ xs) [] h = absurd h
zip_length R (x ∷ xs) (y ∷ ys) h = ap suc (zip_length R xs ys h.1)

pub zip_from : {A B : Type 0} (R : A → B → Type 0) (xs : List A) (ys : List B) → length xs ≡ length ys → ((k : ℕ) (d : A) (e : B) → k < length xs → R (get_or xs k d) (get_or ys k e)) → AllZip R xs ys
zip_from R [] [] l h = tt
zip_from R [] (y ∷ ys) l h = absurd (omega (arith, l))
zip_from R (x ∷ xs) [] l h = absurd (omega (arith, l))
zip_from R (x ∷ xs) (y ∷ ys) l h = (h 0 x y (omega arith), zip_from R xs ys (omega (arith, l)) (λ k d e lt. h (suc k) d e (omega (arith, lt))))

pub zip_at : {A B : Type 0} (R : A → B → Type 0) (xs : List A) (ys : List B) (k : ℕ) (d : A) (e : B) → AllZip R xs ys → k < length xs → R (get_or xs k d) (get_or ys k e)
zip_at R [] ys k d e h lt = absurd (omega (arith, lt))
zip_at R (x ∷ xs) [] k d e h lt = absurd h
zip_at R (x ∷ xs) (y ∷ ys) zero d e h lt = h.0
zip_at R (x ∷ xs) (y ∷ ys) (suc k) d e h lt = zip_at R xs ys k d e h.1 (omega (arith, lt))

same_at : {A : Type 0} (xs : List A) (k : ℕ) (d e : A) → k < length xs → get_or xs k d ≡ get_or xs k e
same_at [] k d e lt = absurd (omega (arith, lt))
same_at (x ∷ xs) zero d e lt = refl
same_at (x ∷ xs) (suc k) d e lt = same_at xs k d e (omega (arith, lt))

-- the elements at i are related, too
pub zip_next : {A B : Type 0} (R : A → B → Type 0) (xs : List A) (ys : List B) (i : ℕ) (x : A) (y : B) → length xs ≡ length ys → i < length xs → R (get_or xs i x) (get_or ys i y)
    → ((k : ℕ) (d : A) (e : B) → k < i → R (get_or xs k d) (get_or ys k e))
    → (k : ℕ) (d : A) (e : B) → k < i + 1 → R (get_or xs k d) (get_or ys k e)
zip_next R xs ys i x y l lt r before k d e le = from (cases_lt k i)
  where
    from : (k < i) ⊎ (i ≤ k) → R (get_or xs k d) (get_or ys k e)
    from (inl less) = before k d e less
    from (inr ge) =
        let same : k ≡ i = omega (arith, ge, le) in
        let a : get_or xs k d ≡ get_or xs i x = ap (λ (j : ℕ). get_or xs j d) same ∙ same_at xs i d x lt in
        let b : get_or ys k e ≡ get_or ys i y = ap (λ (j : ℕ). get_or ys j e) same ∙ same_at ys i e y (omega (arith, lt, l)) in
        rw (a, b) r

-- ---- schemas with others in them

module _ (s : Schema) (b : Bool) (t : DataType) where
  pub of_array : (item i : Schema) → s ≡ Array item → i ≡ item → IsTrue b ↔ HasListType i t → IsTrue b ↔ HasType true s t
  of_array item i e x h =
      let w = type_composites.array true item t in
      let k : HasListType item t ↔ HasType true s t = subst (λ (u : Schema). HasListType item t ↔ HasType true u t) (sym e) (w.1, w.0) in
      follow b k (subst (λ (j : Schema). IsTrue b ↔ HasListType j t) x h)

  pub of_union : (members ms : List Schema) → s ≡ Union members → ms ≡ members → IsTrue b ↔ HasMemberTypeOf true ms t → IsTrue b ↔ HasType true s t
  of_union members ms e x h =
      let w = type_composites.union true members t in
      let k : HasMemberTypeOf true members t ↔ HasType true s t = subst (λ (u : Schema). HasMemberTypeOf true members t ↔ HasType true u t) (sym e) (w.1, w.0) in
      follow b k (subst (λ (xs : List Schema). IsTrue b ↔ HasMemberTypeOf true xs t) x h)

  pub of_record : (r : TheRecord) (avros : List AvroField) → s ≡ Record r → avros ≡ (out-Record r).fields → IsTrue b ↔ HasStructType avros t → IsTrue b ↔ HasType true s t
  of_record r avros e x h =
      let w = type_composites.fields true r t in
      let all = (out-Record r).fields in
      let k : HasStructType all t ↔ HasType true s t = subst (λ (u : Schema). HasStructType all t ↔ HasType true u t) (sym e)
      (λ y. w.1 (y.0, y.1, flip (λ f a. HasColumnType true a.schema f) y.0 all y.2), λ y. let z = w.0 y in (z.0, z.1, flip (λ a f. HasColumnType true a.schema f) all z.0 z.2)) in
      follow b k (subst (λ (xs : List AvroField). IsTrue b ↔ HasStructType xs t) x h)

-- ---- types with fields in them

abbrev fields_of : DataType → List Field
fields_of (Struct' shape row) = items-the_row-Field _ row
fields_of (List' shape row) = items-the_row-Field _ row
fields_of (LargeList' shape row) = items-the_row-Field _ row
fields_of _ = []

fields_of_struct : (fs : List Field) → fields_of (Struct fs) ≡ fs
fields_of_struct fs = items_hidden-the_row-Field-1 fs

fields_of_list : (f : Field) → fields_of (ListType f) ≡ f ∷ []
unfolding shape-the_row-Field-0 hidden-the_row-Field-0 denote.Hole.Carrier.hidden
fields_of_list f = refl

fields_of_large : (f : Field) → fields_of (LargeList f) ≡ f ∷ []
unfolding shape-the_row-Field-0 hidden-the_row-Field-0 denote.Hole.Carrier.hidden
fields_of_large f = refl

only : (f g : Field) → f ∷ [] ≡ g ∷ [] → f ≡ g
only f g e = cc

module _ (b : Bool) (t : DataType) where
  pub of_struct : (avros : List AvroField) (fs xs : List Field) → t ≡ Struct fs → xs ≡ fs → IsTrue b ↔ Fits xs avros → IsTrue b ↔ HasStructType avros t
  of_struct avros fs xs e x h =
      (λ y. (fs, e, subst (λ (zs : List Field). Fits zs avros) x (h.0 y)), λ y. h.1 (subst (λ (zs : List Field). Fits zs avros) (sym (fields_of_struct y.0) ∙ ap fields_of (sym y.1 ∙ e) ∙ fields_of_struct fs ∙ sym x) y.2))

  pub of_list : (item : Schema) (f x : Field) → t ≡ ListType f → x ≡ f → IsTrue b ↔ HasColumnType true item x → IsTrue b ↔ HasListType item t
  of_list item f x e q h = (λ y. (f, inl e, subst (HasColumnType true item) q (h.0 y)), back)
    where
      back : HasListType item t → IsTrue b
      back (g, inl k, z) = h.1 (subst (HasColumnType true item) (only g f (sym (fields_of_list g) ∙ ap fields_of (sym k ∙ e) ∙ fields_of_list f) ∙ sym q) z)
      back (g, inr k, z) = let w : LargeList g ≡ ListType f = sym k.1 ∙ e in absurd cc

  pub of_large_list : (item : Schema) (f x : Field) → t ≡ LargeList f → x ≡ f → IsTrue b ↔ HasColumnType true item x → IsTrue b ↔ HasListType item t
  of_large_list item f x e q h = (λ y. (f, inr (refl, e), subst (HasColumnType true item) q (h.0 y)), back)
    where
      back : HasListType item t → IsTrue b
      back (g, inl k, z) = let w : ListType g ≡ LargeList f = sym k ∙ e in absurd cc
      back (g, inr k, z) = h.1 (subst (HasColumnType true item) (only g f (sym (fields_of_large g) ∙ ap fields_of (sym k.1 ∙ e) ∙ fields_of_large f) ∙ sym q) z)
