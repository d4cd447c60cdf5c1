-- The shapes of builders that are made, by the type.
use Rattle.std.proofs.Common.{◌≡◌, ◌∙◌, ℕ, List, map, sym, ap, subst}
use Rattle.std.specs.Prelude.{Result, IfOk}
use Rattle.arrow_core.specs.declared.error.Error.{Error}
use Rattle.arrow_builders.specs.Children.{fields_of}
use Rattle.arrow_builders.specs.Shapes.{Shape, fixed_lists, flat, lists, records, shape}
use Rattle.arrow_builders.specs.declared.array.MutableArray.{MutableArray}
use Rattle.arrow_core.specs.Layouts.{physical_type}
use Rattle.arrow_core.specs.declared.physical.PhysicalType.TheVariants as physical
use Rattle.arrow_core.specs.declared.types.DataType.{DataType}
use Rattle.arrow_core.specs.declared.types.DataType.TheVariants as types
use Rattle.arrow_core.specs.declared.types.Field.{Field}
use Rattle.json_line.specs.Builders.{line_shape, shapes_of, IsNotNested}
use Rattle.json_line.proofs.Shapes.{flat_shape, large_list_shape, list_shape, sized_list_shape, struct_shape}

-- the builder has the shape
abbrev IsShaped : Result MutableArray Error → Shape → Type 0
IsShaped r s = IfOk r (λ b. shape b ≡ s)

module _ (r : Result MutableArray Error) (t : DataType) where
  pub flat_built : IsNotNested t → IsShaped r (flat (physical_type t) t) → IsShaped r (line_shape t)
  flat_built h s = subst (IsShaped r) (sym (flat_shape t h)) s

  pub list_built : (f g : Field) (v : MutableArray) → t ≡ types.List f → g ≡ f → shape v ≡ line_shape g.data_type → IsShaped r (lists physical.List t (shape v)) → IsShaped r (line_shape t)
  list_built f g v e s k h =
      subst (IsShaped r) (ap (lists physical.List t) (k ∙ ap (λ (x : Field). line_shape x.data_type) s) ∙ ap (λ (u : DataType). lists physical.List u (line_shape f.data_type)) e ∙ sym (ap line_shape e ∙ list_shape f)) h

  pub large_list_built : (f g : Field) (v : MutableArray) → t ≡ types.LargeList f → g ≡ f → shape v ≡ line_shape g.data_type → IsShaped r (lists physical.LargeList t (shape v)) → IsShaped r (line_shape t)
  large_list_built f g v e s k h =
      subst (IsShaped r) (ap (lists physical.LargeList t) (k ∙ ap (λ (x : Field). line_shape x.data_type) s) ∙ ap (λ (u : DataType). lists physical.LargeList u (line_shape f.data_type)) e ∙ sym (ap line_shape e ∙ large_list_shape f)) h

  pub sized_list_built : (f g : Field) (n : ℕ) (v : MutableArray) → t ≡ types.FixedSizeList f n → g ≡ f → shape v ≡ line_shape g.data_type → IsShaped r (fixed_lists t (shape v)) → IsShaped r (line_shape t)
  sized_list_built f g n v e s k h =
      subst (IsShaped r) (ap (fixed_lists t) (k ∙ ap (λ (x : Field). line_shape x.data_type) s) ∙ ap (λ (u : DataType). fixed_lists u (line_shape f.data_type)) e ∙ sym (ap line_shape e ∙ sized_list_shape f n)) h

  pub struct_built : (fs gs : List Field) (vs : List MutableArray) → t ≡ types.Struct fs → gs ≡ fs → map shape vs ≡ shapes_of gs → IsShaped r (records t (fields_of (map shape vs))) → IsShaped r (line_shape t)
  struct_built fs gs vs e s k h =
      subst (IsShaped r) (ap (λ (ss : List Shape). records t (fields_of ss)) (k ∙ ap shapes_of s) ∙ ap (λ (u : DataType). records u (fields_of (shapes_of fs))) e ∙ sym (ap line_shape e ∙ struct_shape fs)) h
