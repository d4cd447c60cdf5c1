-- Empty builders are tight, and tight builders whose types fit make arrays.
use Rattle.std.proofs.Common.{◌≡◌, ◌∙◌, ℕ, ◌*◌, ◌<◌, List, [], ◌∷◌, ◌++◌, length, Option, Result, Ok, Err, refl, sym, ap, subst, arith, All, inl, inr, IfErr, OnOk}
use Rattle.std.specs.List.{AllZip}
use Rattle.std.proofs.lemmas.List.Elements.{All-nil, All-cons, All-head, All-tail}
use Rattle.arrow_core.specs.declared.error.Error.{Error}
use Rattle.arrow_core.specs.declared.error.Error.TheVariants.{OutOfMemory}
use Rattle.arrow_core.specs.declared.slot.Slot.{Slot}
use Rattle.arrow_core.specs.declared.types.DataType.{DataType}
use Rattle.arrow_array.specs.FixedLists.{list_size}
use Rattle.arrow_array.specs.Parts.{IsRefusalOf}
use Rattle.arrow_flat.specs.Nested.{items_of, lists_node, marks_node}
use Rattle.arrow_flat.specs.Nodes.{Node, Emptied, IsEmpty}
use Rattle.arrow_builders.specs.Fits.{ChildrenFit, FitBelow, IsRecordOf, TypesFit, field_types}
use Rattle.arrow_builders.specs.MutableArrays.{builder_slots, slots_below, types_below, nodes, nodes_below}
use Rattle.arrow_builders.specs.Shapes.{shape, shapes_below}
use Rattle.arrow_builders.specs.Tight.{IsTight, TightBelow}
use Rattle.arrow_builders.specs.declared.array.MutableArray.{MutableArray, List', LargeList', FixedSizeList', Struct', Row_of-MutableArray, end_of-MutableArray, more_of-MutableArray}
use Rattle.arrow_builders.specs.declared.array.MutableArray.{Null, Boolean, Int8, Int16, Int32, Int64, UInt8, UInt16, UInt32, UInt64, Int128, MonthDayNano, Utf8, LargeUtf8, Binary, LargeBinary, FixedSizeBinary, Dictionary}
use Rattle.arrow_builders.proofs.Heads.{no_slots, type_is}

-- ---- empty builders

no_items : (ls : List (Option ℕ)) → length ls ≡ 0 → items_of ls ≡ 0
no_items [] l = refl
no_items (x ∷ ls) l = absurd (omega (arith, l))

left : (xs ys : List Node) → All IsEmpty (xs ++ ys) → All IsEmpty xs
left [] ys h = All-nil IsEmpty
left (x ∷ xs) ys h = All-cons IsEmpty x xs (All-head IsEmpty x (xs ++ ys) h) (left xs ys (All-tail IsEmpty x (xs ++ ys) h))

right : (xs ys : List Node) → All IsEmpty (xs ++ ys) → All IsEmpty ys
right [] ys h = h
right (x ∷ xs) ys h = right xs ys (All-tail IsEmpty x (xs ++ ys) h)

len_0 : (b : MutableArray) → All IsEmpty (nodes b) → length (builder_slots b) ≡ 0
len_0 b h = ap length (no_slots b h)

mutual
  pub empty_tight : (b : MutableArray) → All IsEmpty (nodes b) → IsTight b
  empty_tight (List' l p child) h =
      let r = All-tail IsEmpty (lists_node l) (nodes child) h in
      let f : IsEmpty (lists_node l) = All-head IsEmpty (lists_node l) (nodes child) h in
      (len_0 child r ∙ sym (no_items l.lens f.slots), empty_tight child r)
  empty_tight (LargeList' l p child) h =
      let r = All-tail IsEmpty (lists_node l) (nodes child) h in
      let f : IsEmpty (lists_node l) = All-head IsEmpty (lists_node l) (nodes child) h in
      (len_0 child r ∙ sym (no_items l.lens f.slots), empty_tight child r)
  empty_tight (FixedSizeList' m p child) h =
      let r = All-tail IsEmpty (marks_node m) (nodes child) h in
      let f : IsEmpty (marks_node m) = All-head IsEmpty (marks_node m) (nodes child) h in
      let z : 0 ≡ 0 * list_size m.data_type = omega arith in
      (len_0 child r ∙ z ∙ ap (λ (n : ℕ). n * list_size m.data_type) (sym f.slots), empty_tight child r)
  empty_tight (Struct' m p row) h =
      let f : IsEmpty (marks_node m) = All-head IsEmpty (marks_node m) (nodes_below row) h in
      subst (λ (n : ℕ). TightBelow n row) (sym f.slots) (empty_rows row (All-tail IsEmpty (marks_node m) (nodes_below row) h))
  empty_tight (Null b) h = tt
  empty_tight (Boolean b) h = tt
  empty_tight (Int8 b) h = tt
  empty_tight (Int16 b) h = tt
  empty_tight (Int32 b) h = tt
  empty_tight (Int64 b) h = tt
  empty_tight (UInt8 b) h = tt
  empty_tight (UInt16 b) h = tt
  empty_tight (UInt32 b) h = tt
  empty_tight (UInt64 b) h = tt
  empty_tight (Int128 b) h = tt
  empty_tight (MonthDayNano b) h = tt
  empty_tight (Utf8 b) h = tt
  empty_tight (LargeUtf8 b) h = tt
  empty_tight (Binary b) h = tt
  empty_tight (LargeBinary b) h = tt
  empty_tight (FixedSizeBinary b) h = tt
  empty_tight (Dictionary b) h = tt

  empty_rows : {m : _} (row : Row_of-MutableArray m) → All IsEmpty (nodes_below row) → TightBelow 0 row
  empty_rows end_of-MutableArray h = tt
  empty_rows (more_of-MutableArray b rest) h =
      let r = left (nodes b) (nodes_below rest) h in
      (len_0 b r, empty_tight b r, empty_rows rest (right (nodes b) (nodes_below rest) h))

pub emptied : (xs ys : List Node) → AllZip Emptied xs ys → All IsEmpty ys
emptied [] [] h = All-nil IsEmpty
emptied [] (y ∷ ys) h = absurd h
emptied (x ∷ xs) [] h = absurd h
emptied (x ∷ xs) (y ∷ ys) h = let e : IsEmpty y = record { slots = h.0.slots; bytes = h.0.bytes } in All-cons IsEmpty y ys e (emptied xs ys h.1)

-- ---- types that fit

rows_types : {m : _} (row : Row_of-MutableArray m) → field_types (shapes_below row) ≡ types_below row
rows_types end_of-MutableArray = refl
rows_types (more_of-MutableArray b rest) = let e = type_is b in let d = rows_types rest in cc

rows_lengths : {m : _} (n : ℕ) (row : Row_of-MutableArray m) → TightBelow n row → All (λ slots. length slots ≡ n) (slots_below row)
rows_lengths n end_of-MutableArray t = All-nil (λ (slots : List Slot). length slots ≡ n)
rows_lengths n (more_of-MutableArray b rest) t = All-cons (λ (slots : List Slot). length slots ≡ n) (builder_slots b) (slots_below rest) t.0 (rows_lengths n rest t.2)

mutual
  pub tight_fits : (b : MutableArray) → TypesFit (shape b) → IsTight b → ChildrenFit b
  tight_fits (List' l p child) f t = record { kind = rw (type_is child) f.0; within = omega (arith, t.0); below = tight_fits child f.1 t.1 }
  tight_fits (LargeList' l p child) f t = record { kind = rw (type_is child) f.0; within = omega (arith, t.0); below = tight_fits child f.1 t.1 }
  tight_fits (FixedSizeList' m p child) f t = record { filled = f.0; kind = rw (type_is child) f.1; whole = t.0; below = tight_fits child f.2 t.1 }
  tight_fits (Struct' m p row) f t =
      let e = rows_types row in
      record {
        filled = subst (λ (ts : List DataType). 0 < length ts) e f.0;
        kind = subst (IsRecordOf m.data_type) e f.1;
        lengths = rows_lengths (length m.booleans) row t;
        below = rows_fit (length m.booleans) row f.2 t;
      }
  tight_fits (Null b) f t = tt
  tight_fits (Boolean b) f t = tt
  tight_fits (Int8 b) f t = tt
  tight_fits (Int16 b) f t = tt
  tight_fits (Int32 b) f t = tt
  tight_fits (Int64 b) f t = tt
  tight_fits (UInt8 b) f t = tt
  tight_fits (UInt16 b) f t = tt
  tight_fits (UInt32 b) f t = tt
  tight_fits (UInt64 b) f t = tt
  tight_fits (Int128 b) f t = tt
  tight_fits (MonthDayNano b) f t = tt
  tight_fits (Utf8 b) f t = tt
  tight_fits (LargeUtf8 b) f t = tt
  tight_fits (Binary b) f t = tt
  tight_fits (LargeBinary b) f t = tt
  tight_fits (FixedSizeBinary b) f t = tt
  tight_fits (Dictionary b) f t = tt

  rows_fit : {m : _} (n : ℕ) (row : Row_of-MutableArray m) → TypesFit (shapes_below row) → TightBelow n row → FitBelow row
  rows_fit n end_of-MutableArray f t = tt
  rows_fit n (more_of-MutableArray b rest) f t = (tight_fits b f.0 t.1, rows_fit n rest f.1 t.2)

-- a tight builder whose types fit is refused for out of memory alone
pub no_refusal : {A : Type 0} (b : MutableArray) (r : Result A Error) → IfErr r (IsRefusalOf (ChildrenFit b)) → TypesFit (shape b) → IsTight b → IfErr r (λ e. e ≡ OutOfMemory)
no_refusal b (Ok a) h f t = tt
no_refusal b (Err e) h f t = elim h [ inl q ↦ q | inr q ↦ absurd (q.1 (tight_fits b f t)) ]

pub boxed_tight : {A E : Type 0} (r : Result A E) (b : MutableArray) → OnOk r (All IsEmpty (nodes b)) → OnOk r (IsTight b)
boxed_tight (Ok a) b h = empty_tight b h
boxed_tight (Err e) b h = tt

pub boxed_slots : {A E : Type 0} (r : Result A E) (b : MutableArray) → OnOk r (All IsEmpty (nodes b)) → OnOk r (builder_slots b ≡ [])
boxed_slots (Ok a) b h = no_slots b h
boxed_slots (Err e) b h = tt
