-- The names of lists and of structs, by those beneath.
use Rattle.std.proofs.Common.{◌≡◌, ◌∙◌, ℕ, true, List, Vec, Global, refl, sym, ap, subst}
use Rattle.std.specs.Prelude.{Result, Ok, Err, IfOk}
use Rattle.arrow_core.specs.declared.error.Error.{Error}
use Rattle.arrow_array.specs.FixedLists.{list_size}
use Rattle.arrow_builders.specs.Children.{fields_of}
use Rattle.arrow_builders.specs.Shapes.{Shape, fixed_lists, lists, records}
use Rattle.arrow_core.specs.declared.physical.PhysicalType.{PhysicalType}
use Rattle.arrow_core.specs.declared.physical.PhysicalType.TheVariants as physical
use Rattle.arrow_core.specs.declared.types.DataType.{DataType}
use Rattle.arrow_core.specs.declared.types.DataType.TheVariants as types
use Rattle.arrow_core.specs.declared.types.Field.{Field}
use Rattle.json_tree.specs.Layout.{distinct}
use Rattle.json_line.specs.declared.field_names.FieldNames.{FieldNames, Fields}
use Rattle.json_line.specs.Builders.{line_shape, shapes_of, AllSuit, Suits}
use Rattle.json_flat.specs.Names.{names_of}
use Rattle.json_line.specs.Lines.{are_line_fields}
use Rattle.json_line.proofs.Batches.{are-distinct}
use Rattle.json_line.proofs.Shapes.{large_list_shape, list_shape, size_is, sized_list_shape, struct_named, struct_shape}
use Rattle.json_line.proofs.Suited.{suits_fields}

abbrev IsNamed : Result FieldNames Error → Shape → Type 0
IsNamed r s = IfOk r (λ names. Suits names s)

if_items : (r : Result FieldNames Error) (kind : PhysicalType) (t : DataType) (s : Shape) → IfOk r (λ names. (k : PhysicalType) (u : DataType) → Suits names (lists k u s)) → IsNamed r (lists kind t s)
if_items (Ok names) kind t s h = h kind t
if_items (Err e) kind t s h = tt

if_sized : (r : Result FieldNames Error) (n : ℕ) (t : DataType) (s : Shape) → n ≡ list_size t → IfOk r (λ names. (u : DataType) → n ≡ list_size u → Suits names (fixed_lists u s)) → IsNamed r (fixed_lists t s)
if_sized (Ok names) n t s e h = h t e
if_sized (Err x) n t s e h = tt

module _ (r : Result FieldNames Error) (t : DataType) where
  pub list_names : (f g : Field) → t ≡ types.List f → g ≡ f → IfOk r (λ names. (k : PhysicalType) (u : DataType) → Suits names (lists k u (line_shape g.data_type))) → IsNamed r (line_shape t)
  list_names f g e s h =
      subst (IsNamed r) (ap (λ (x : Field). lists physical.List (types.List f) (line_shape x.data_type)) s ∙ sym (ap line_shape e ∙ list_shape f)) (if_items r physical.List (types.List f) (line_shape g.data_type) h)

  pub large_list_names : (f g : Field) → t ≡ types.LargeList f → g ≡ f → IfOk r (λ names. (k : PhysicalType) (u : DataType) → Suits names (lists k u (line_shape g.data_type))) → IsNamed r (line_shape t)
  large_list_names f g e s h =
      subst (IsNamed r) (ap (λ (x : Field). lists physical.LargeList (types.LargeList f) (line_shape x.data_type)) s ∙ sym (ap line_shape e ∙ large_list_shape f)) (if_items r physical.LargeList (types.LargeList f) (line_shape g.data_type) h)

  pub sized_list_names : (f g : Field) (n : ℕ) → t ≡ types.FixedSizeList f n → g ≡ f → IfOk r (λ names. (u : DataType) → n ≡ list_size u → Suits names (fixed_lists u (line_shape g.data_type))) → IsNamed r (line_shape t)
  sized_list_names f g n e s h =
      subst (IsNamed r) (ap (λ (x : Field). fixed_lists (types.FixedSizeList f n) (line_shape x.data_type)) s ∙ sym (ap line_shape e ∙ sized_list_shape f n)) (if_sized r n (types.FixedSizeList f n) (line_shape g.data_type) (sym (size_is (types.FixedSizeList f n) f n refl)) h)

  pub struct_names : (fs gs : List Field) → t ≡ types.Struct fs → gs ≡ fs → IsNamed r (records (types.Struct gs) (fields_of (shapes_of gs))) → IsNamed r (line_shape t)
  struct_names fs gs e s h = subst (IsNamed r) (ap (λ (xs : List Field). records (types.Struct xs) (fields_of (shapes_of xs))) s ∙ sym (ap line_shape e ∙ struct_shape fs)) h

pub structs_suit : (fs : List Field) (own : Vec (List ℕ) Global) (below : Vec FieldNames Global) → are_line_fields fs ≡ true → own.items ≡ names_of fs → AllSuit below.items (fields_of (shapes_of fs)) → Suits (Fields own below) (records (types.Struct fs) (fields_of (shapes_of fs)))
structs_suit fs own below h e s =
    subst (λ (P : Type 0). P) (sym (suits_fields own below (records (types.Struct fs) (fields_of (shapes_of fs)))))
    (e ∙ sym (struct_named fs), subst (λ ns. distinct ns ≡ true) (sym e) (are-distinct fs h), s)
