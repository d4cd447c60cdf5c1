-- Which types hold offsets of 32 bits, in terms of the fields and types in them that code sees.
use Rattle.std.proofs.Common.{◌≡◌, ◌↔◌, ◌⊎◌, ℕ, List, [], ◌∷◌, Bool, IsTrue, Option, refl, sym, ap, subst}
use Rattle.arrow_core.specs.declared.types.Field.{Field}
use Rattle.arrow_core.specs.declared.types.UnionMode.{UnionMode}
use Rattle.arrow_core.specs.declared.types.DataType.{DataType}
use Rattle.arrow_core.specs.declared.types.DataType.TheVariants as types
use Rattle.arrow_core.specs.declared.types.DataType.TheBlock.{shape-the_row-Field-0, hidden-the_row-Field-0, shape-the_row-Field-1, hidden-the_row-Field-1, shape-the_row-DataType-2, hidden-the_row-DataType-2}
use Rattle.avro_schema.specs.ValidBlock.{IsSmall, IsAnySmall}
use Rattle.avro_types.specs.Parts.{AnyOf}
use Rattle.avro_types.proofs.Parts.{follow, or_none}
use Rattle.std.proofs.Common.{inl}
use Rattle.std.proofs.Common.{ℤ}

fixed_size_list : (f : Field) (size : ℕ) → IsSmall (types.FixedSizeList f size) ≡ (IsSmall f.data_type ⊎ ⊥)
unfolding shape-the_row-Field-0 hidden-the_row-Field-0 denote.Hole.Carrier.hidden
fixed_size_list f size = refl

large_list : (f : Field) → IsSmall (types.LargeList f) ≡ (IsSmall f.data_type ⊎ ⊥)
unfolding shape-the_row-Field-0 hidden-the_row-Field-0 denote.Hole.Carrier.hidden
large_list f = refl

entries : (f : Field) (sorted : Bool) → IsSmall (types.Map f sorted) ≡ (IsSmall f.data_type ⊎ ⊥)
unfolding shape-the_row-Field-0 hidden-the_row-Field-0 denote.Hole.Carrier.hidden
entries f sorted = refl

extension : (name : List ℕ) (t : DataType) (metadata : Option (List ℕ)) → IsSmall (types.Extension name t metadata) ≡ IsSmall t
unfolding shape-the_row-DataType-2 hidden-the_row-DataType-2 denote.Hole.Carrier.hidden
extension name t metadata = refl

any_small : (fs : List Field) → IsAnySmall (hidden-the_row-Field-1 fs) ≡ AnyOf (λ f. IsSmall f.data_type) fs
unfolding shape-the_row-Field-1 hidden-the_row-Field-1 denote.Hole.Carrier.hidden
any_small [] = refl
any_small (f ∷ fs) = ap (λ (T : Type 0). IsSmall f.data_type ⊎ T) (any_small fs)

struct : (fs : List Field) → IsSmall (types.Struct fs) ≡ AnyOf (λ f. IsSmall f.data_type) fs
unfolding shape-the_row-Field-1 hidden-the_row-Field-1 denote.Hole.Carrier.hidden
struct fs = any_small fs

union : (fs : List Field) (ids : Option (List ℤ)) (mode : UnionMode) → IsSmall (types.Union fs ids mode) ≡ AnyOf (λ f. IsSmall f.data_type) fs
unfolding shape-the_row-Field-1 hidden-the_row-Field-1 denote.Hole.Carrier.hidden
union fs ids mode = any_small fs

moved : {A B : Type 0} → A ≡ B → A → B
moved e = subst (λ (T : Type 0). T) e

module _ (t : DataType) (b : Bool) where
  -- by one field
  by_field : (whole : DataType) (f g : Field) → t ≡ whole → g ≡ f → IsSmall whole ≡ (IsSmall f.data_type ⊎ ⊥) → IsTrue b ↔ IsSmall g.data_type → IsTrue b ↔ IsSmall t
  by_field whole f g e x is h =
      let k : IsSmall g.data_type ↔ IsSmall t =
      (λ s. subst IsSmall (sym e) (moved (sym is) (inl (subst (λ (y : Field). IsSmall y.data_type) x s))), λ s. subst (λ (y : Field). IsSmall y.data_type) (sym x) (or_none (moved is (subst IsSmall e s)))) in
      follow b k h

  pub small_fixed_list : (f g : Field) (size : ℕ) → t ≡ types.FixedSizeList f size → g ≡ f → IsTrue b ↔ IsSmall g.data_type → IsTrue b ↔ IsSmall t
  small_fixed_list f g size e x h = by_field (types.FixedSizeList f size) f g e x (fixed_size_list f size) h

  pub small_large_list : (f g : Field) → t ≡ types.LargeList f → g ≡ f → IsTrue b ↔ IsSmall g.data_type → IsTrue b ↔ IsSmall t
  small_large_list f g e x h = by_field (types.LargeList f) f g e x (large_list f) h

  pub small_map : (f g : Field) (sorted : Bool) → t ≡ types.Map f sorted → g ≡ f → IsTrue b ↔ IsSmall g.data_type → IsTrue b ↔ IsSmall t
  small_map f g sorted e x h = by_field (types.Map f sorted) f g e x (entries f sorted) h

  -- by several
  by_fields : (whole : DataType) (fs gs : List Field) → t ≡ whole → gs ≡ fs → IsSmall whole ≡ AnyOf (λ f. IsSmall f.data_type) fs → IsTrue b ↔ AnyOf (λ f. IsSmall f.data_type) gs → IsTrue b ↔ IsSmall t
  by_fields whole fs gs e x is h =
      let k : AnyOf (λ f. IsSmall f.data_type) gs ↔ IsSmall t =
      (λ s. subst IsSmall (sym e) (moved (sym is) (subst (AnyOf (λ f. IsSmall f.data_type)) x s)), λ s. subst (AnyOf (λ f. IsSmall f.data_type)) (sym x) (moved is (subst IsSmall e s))) in
      follow b k h

  pub small_struct : (fs gs : List Field) → t ≡ types.Struct fs → gs ≡ fs → IsTrue b ↔ AnyOf (λ f. IsSmall f.data_type) gs → IsTrue b ↔ IsSmall t
  small_struct fs gs e x h = by_fields (types.Struct fs) fs gs e x (struct fs) h

  pub small_union : (fs gs : List Field) (ids : Option (List ℤ)) (mode : UnionMode) → t ≡ types.Union fs ids mode → gs ≡ fs → IsTrue b ↔ AnyOf (λ f. IsSmall f.data_type) gs → IsTrue b ↔ IsSmall t
  small_union fs gs ids mode e x h = by_fields (types.Union fs ids mode) fs gs e x (union fs ids mode) h

  pub small_extension : (name : List ℕ) (inner u : DataType) (metadata : Option (List ℕ)) → t ≡ types.Extension name inner metadata → u ≡ inner → IsTrue b ↔ IsSmall u → IsTrue b ↔ IsSmall t
  small_extension name inner u metadata e x h =
      let k : IsSmall u ↔ IsSmall t =
      (λ s. subst IsSmall (sym e) (moved (sym (extension name inner metadata)) (subst IsSmall x s)), λ s. subst IsSmall (sym x) (moved (extension name inner metadata) (subst IsSmall e s))) in
      follow b k h
