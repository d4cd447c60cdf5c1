-- Fields that columns are first read under: what values mean under their types.
use Rattle.std.proofs.Common.{◌≡◌, ◌∙◌, ℕ, ◌+◌, ◌<◌, List, [], ◌∷◌, ◌++◌, length, get_or, take, refl, sym, ap, subst}
use Rattle.std.specs.List.{AllZip}
use Rattle.std.proofs.lemmas.List.{take_more}
use Rattle.arrow_core.specs.declared.types.DataType.{DataType}
use Rattle.arrow_core.specs.declared.types.DataType.TheVariants as types
use Rattle.arrow_core.specs.declared.types.Field.{Field}
use Rattle.arrow_core.specs.declared.types.IntegerType.{IntegerType}
use Rattle.json_tree.specs.Keys.{value_of}
use Rattle.json_tree.specs.Tree.{Json, or_null}
use Rattle.json_flat.specs.Columns.{means}
use Rattle.json_flat.specs.Reading.{list_in, reading, sized_list_in, struct_in}
use Rattle.json_columns.specs.Gathered.{field_meanings}
use Rattle.json_columns.proofs.ByFields.{dictionary_reading, large_list_reading, list_reading, sized_reading, struct_reading}
use Rattle.ndjson.specs.LineColumns.{AreStoredFor, IsStoredFor}

module _ (t : DataType) where
  pub list_meaning : (f g stored : Field) → t ≡ types.List f → g ≡ f → reading stored.data_type ≡ reading g.data_type → reading (types.List stored) ≡ reading t
  list_meaning f g stored e s h =
      list_reading stored ∙ (λ i. list_in (means (h i))) ∙ ap (λ (x : Field). list_in (means (reading x.data_type))) s ∙ sym (list_reading f) ∙ sym (ap reading e)

  pub large_list_meaning : (f g stored : Field) → t ≡ types.LargeList f → g ≡ f → reading stored.data_type ≡ reading g.data_type → reading (types.LargeList stored) ≡ reading t
  large_list_meaning f g stored e s h =
      large_list_reading stored ∙ (λ i. list_in (means (h i))) ∙ ap (λ (x : Field). list_in (means (reading x.data_type))) s ∙ sym (large_list_reading f) ∙ sym (ap reading e)

  pub sized_list_meaning : (f g stored : Field) (n : ℕ) → t ≡ types.FixedSizeList f n → g ≡ f → reading stored.data_type ≡ reading g.data_type → reading (types.FixedSizeList stored n) ≡ reading t
  sized_list_meaning f g stored n e s h =
      sized_reading stored n ∙ (λ i. sized_list_in n (means (h i))) ∙ ap (λ (x : Field). sized_list_in n (means (reading x.data_type))) s ∙ sym (sized_reading f n) ∙ sym (ap reading e)

  same_fields : (fs gs : List Field) → AllZip IsStoredFor fs gs → (ms : List (List ℕ × Json)) → field_meanings gs ms ≡ field_meanings fs ms
  same_fields [] [] h ms = refl
  same_fields [] (g ∷ gs) h ms = absurd h
  same_fields (f ∷ fs) [] h ms = absurd h
  same_fields (f ∷ fs) (g ∷ gs) h ms = λ i. means (h.0.data_type.meaning i) (or_null (value_of (h.0.name i) ms)) ∷ same_fields fs gs h.1 ms i

  pub struct_meaning : (fs gs stored : List Field) → t ≡ types.Struct fs → gs ≡ fs → AreStoredFor gs stored → reading (types.Struct stored) ≡ reading t
  struct_meaning fs gs stored e s h =
      struct_reading stored ∙ (λ i. struct_in (λ ms. same_fields gs stored h ms i)) ∙ ap (λ (xs : List Field). struct_in (field_meanings xs)) s ∙ sym (struct_reading fs) ∙ sym (ap reading e)

  pub value_meaning : (key : IntegerType) (v w : DataType) (sorted : _) → t ≡ types.Dictionary key v sorted → w ≡ v → reading t ≡ reading w
  value_meaning key v w sorted e s = ap reading e ∙ dictionary_reading key v sorted ∙ ap reading (sym s)

-- ---- fields, one after another

zip_push : (xs ys : List Field) (x y : Field) → AreStoredFor xs ys → IsStoredFor x y → AreStoredFor (xs ++ x ∷ []) (ys ++ y ∷ [])
zip_push [] [] x y h r = (r, tt)
zip_push [] (v ∷ ys) x y h r = absurd h
zip_push (u ∷ xs) [] x y h r = absurd h
zip_push (u ∷ xs) (v ∷ ys) x y h r = (h.0, zip_push xs ys x y h.1 r)

pub stored_more : (fs : List Field) (i : ℕ) (f g : Field) (made after : List Field) → i < length fs → f ≡ get_or fs i f → IsStoredFor f g → after ≡ made ++ g ∷ [] → AreStoredFor (take i fs) made → AreStoredFor (take (i + 1) fs) after
stored_more fs i f g made after lt is s n so_far =
    let more : take (i + 1) fs ≡ take i fs ++ f ∷ [] = take_more fs i f lt ∙ ap (λ (x : Field). take i fs ++ x ∷ []) (sym is) in
    subst (λ (xs : List Field). AreStoredFor (take (i + 1) fs) xs) (sym n) (subst (λ (xs : List Field). AreStoredFor xs (made ++ g ∷ [])) (sym more) (zip_push (take i fs) made f g so_far s))
