-- What holds of every type, by the fields that it is made of.
use Rattle.std.proofs.Common.{◌≡◌, ◌∙◌, List, [], ◌∷◌, refl, sym, ap, subst}
use Rattle.std.specs.List.{AllByRecursion}
use Rattle.arrow_core.specs.declared.types.DataType.{DataType, List', LargeList', Struct', Row_of-Field, end_of-Field, more_of-Field, items-the_row-Field, items_hidden-the_row-Field-1, out-DataType, roll-DataType, roll-out-DataType}
use Rattle.arrow_core.specs.declared.types.DataType.TheBlock.{shape-the_row-Field-0, hidden-the_row-Field-0}
use Rattle.arrow_core.specs.declared.types.DataType.TheOpen as layer
use Rattle.arrow_core.specs.declared.types.DataType.TheVariants as types
use Rattle.arrow_core.specs.declared.types.DataType.TheViews.{rolls-List, rolls-LargeList, rolls-Struct}
use Rattle.arrow_core.specs.declared.types.Field.{Field}
use Rattle.avro_types.specs.Listed.{HasNoFields}

abbrev fields_of : DataType → List Field
fields_of (List' shape row) = items-the_row-Field _ row
fields_of (LargeList' shape row) = items-the_row-Field _ row
fields_of (Struct' shape row) = items-the_row-Field _ row
fields_of _ = []

fields_of_list : (f : Field) → fields_of (types.List f) ≡ f ∷ []
unfolding shape-the_row-Field-0 hidden-the_row-Field-0 denote.Hole.Carrier.hidden
fields_of_list f = refl

fields_of_large : (f : Field) → fields_of (types.LargeList f) ≡ f ∷ []
unfolding shape-the_row-Field-0 hidden-the_row-Field-0 denote.Hole.Carrier.hidden
fields_of_large f = refl

fields_of_struct : (fs : List Field) → fields_of (types.Struct fs) ≡ fs
fields_of_struct fs = items_hidden-the_row-Field-1 fs

-- ---- a type of fields is one that the code makes of them

abbrev Layer : Type 0
Layer = layer.DataType-F DataType Field

abbrev IsList : Layer → Type 0
IsList (layer.List f) = Unit {0}
IsList _ = ⊥

abbrev IsLarge : Layer → Type 0
IsLarge (layer.LargeList f) = Unit {0}
IsLarge _ = ⊥

abbrev IsStruct : Layer → Type 0
IsStruct (layer.Struct fs) = Unit {0}
IsStruct _ = ⊥

as_list : (t : DataType) (o : Layer) → out-DataType t ≡ o → IsList o → (f : Field) × (t ≡ types.List f)
as_list t (layer.List f) e h = (f, sym (roll-out-DataType t) ∙ ap roll-DataType e ∙ rolls-List f)
as_list t _ e h = absurd h

as_large : (t : DataType) (o : Layer) → out-DataType t ≡ o → IsLarge o → (f : Field) × (t ≡ types.LargeList f)
as_large t (layer.LargeList f) e h = (f, sym (roll-out-DataType t) ∙ ap roll-DataType e ∙ rolls-LargeList f)
as_large t _ e h = absurd h

as_struct : (t : DataType) (o : Layer) → out-DataType t ≡ o → IsStruct o → (fs : List Field) × (t ≡ types.Struct fs)
as_struct t (layer.Struct fs) e h = (fs, sym (roll-out-DataType t) ∙ ap roll-DataType e ∙ rolls-Struct fs)
as_struct t _ e h = absurd h

abbrev IsListType : DataType → Type 0
IsListType (List' shape row) = Unit {0}
IsListType _ = ⊥

abbrev IsLargeType : DataType → Type 0
IsLargeType (LargeList' shape row) = Unit {0}
IsLargeType _ = ⊥

abbrev IsStructType : DataType → Type 0
IsStructType (Struct' shape row) = Unit {0}
IsStructType _ = ⊥

list_opens : (t : DataType) → IsListType t → IsList (out-DataType t)
unfolding out-DataType denote.Hole.Carrier.out
list_opens (List' shape row) h = tt
list_opens _ h = absurd h

large_opens : (t : DataType) → IsLargeType t → IsLarge (out-DataType t)
unfolding out-DataType denote.Hole.Carrier.out
large_opens (LargeList' shape row) h = tt
large_opens _ h = absurd h

struct_opens : (t : DataType) → IsStructType t → IsStruct (out-DataType t)
unfolding out-DataType denote.Hole.Carrier.out
struct_opens (Struct' shape row) h = tt
struct_opens _ h = absurd h

-- ---- every type

-- P holds of the type of each field
abbrev pub EachType : (DataType → Type 0) → List Field → Type 0
EachType P = AllByRecursion (λ (f : Field). P f.data_type)

module _ (P : DataType → Type 0) (flat : (t : DataType) → HasNoFields t → P t) (list : (f : Field) → P f.data_type → P (types.List f)) (large : (f : Field) → P f.data_type → P (types.LargeList f)) (struct : (fs : List Field) → EachType P fs → P (types.Struct fs)) where
  of_list : (t : DataType) (f : Field) → t ≡ types.List f → EachType P (fields_of t) → P t
  of_list t f e all = subst P (sym e) (list f (subst (EachType P) (ap fields_of e ∙ fields_of_list f) all).0)

  of_large : (t : DataType) (f : Field) → t ≡ types.LargeList f → EachType P (fields_of t) → P t
  of_large t f e all = subst P (sym e) (large f (subst (EachType P) (ap fields_of e ∙ fields_of_large f) all).0)

  of_struct : (t : DataType) (fs : List Field) → t ≡ types.Struct fs → EachType P (fields_of t) → P t
  of_struct t fs e all = subst P (sym e) (struct fs (subst (EachType P) (ap fields_of e ∙ fields_of_struct fs) all))

  mutual
    pub by_parts : (t : DataType) → P t
    by_parts (List' shape row) =
        let is = as_list (List' shape row) (out-DataType (List' shape row)) refl (list_opens (List' shape row) tt) in
        of_list (List' shape row) is.0 is.1 (row_by_parts row)
    by_parts (LargeList' shape row) =
        let is = as_large (LargeList' shape row) (out-DataType (LargeList' shape row)) refl (large_opens (LargeList' shape row) tt) in
        of_large (LargeList' shape row) is.0 is.1 (row_by_parts row)
    by_parts (Struct' shape row) =
        let is = as_struct (Struct' shape row) (out-DataType (Struct' shape row)) refl (struct_opens (Struct' shape row) tt) in
        of_struct (Struct' shape row) is.0 is.1 (row_by_parts row)
    by_parts t = flat t tt

    row_by_parts : {m : _} (row : Row_of-Field m) → EachType P (items-the_row-Field _ row)
    row_by_parts end_of-Field = tt
    row_by_parts (more_of-Field name t is_nullable metadata rest) = (by_parts t, row_by_parts rest)

  pub each_by_parts : (fs : List Field) → EachType P fs
  each_by_parts [] = tt
  each_by_parts (f ∷ fs) = (by_parts f.data_type, each_by_parts fs)
