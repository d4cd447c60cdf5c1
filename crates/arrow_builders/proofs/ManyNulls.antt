-- Nulls that are pushed one after another, and to several children.
use Rattle.std.proofs.Common.{◌≡◌, ap, ◌∙◌, sym, subst, ℕ, zero, suc, ◌+◌, ◌-◌, ◌<◌, List, [], ◌∷◌, map, length, get_or, arith}
use Rattle.std.specs.List.{AllZip}
use Rattle.arrow_builders.specs.Children.{all_nodes, fields_of}
use Rattle.arrow_builders.specs.MutableArrays.{nodes}
use Rattle.arrow_flat.specs.Nested.{marks_node}
use Rattle.arrow_flat.specs.Nodes.{Node}
use Rattle.arrow_builders.specs.Shapes.{Added, AllTake, FitsIn, nulls_in, nulls_at, shape}
use Rattle.arrow_builders.specs.declared.structs.DynMutableStructArray.{DynMutableStructArray}
use Rattle.arrow_builders.specs.declared.array.MutableArray.{MutableArray, Struct}
use Rattle.arrow_builders.proofs.Growth.{sums, length-nulls, nulls-sum, AllTake-then, AllTake-more, AllFitsIn-after, AllFitsIn-prefix, AllFitsIn-back}
use Rattle.arrow_builders.proofs.Rows.{nodes-record, shape-record}
use Rattle.arrow_builders.proofs.Sizes.{nulls-fit}

-- c is b with i nulls more
module _ (b c : MutableArray) (i : ℕ) (s : shape c ≡ shape b) (h : AllTake (nulls_in i (shape b)) (nodes b) (nodes c)) where
  pub one_more : (d : MutableArray) → AllTake (nulls_in 1 (shape c)) (nodes c) (nodes d) → AllTake (nulls_in (i + 1) (shape b)) (nodes b) (nodes d)
  one_more d k =
      let t : AllTake (nulls_in 1 (shape b)) (nodes c) (nodes d) = subst (λ z. AllTake (nulls_in 1 z) (nodes c) (nodes d)) s k in
      subst (λ (zs : List Added). AllTake zs (nodes b) (nodes d)) (sym (nulls-sum i 1 (shape b))) (AllTake-then (nulls_in i (shape b)) (nulls_in 1 (shape b)) (nodes b) (nodes c) (nodes d) h t)

  -- no more than all
  pub up_to : (count : ℕ) (d : MutableArray) → i < count → AllTake (nulls_in 1 (shape c)) (nodes c) (nodes d) → AllTake (nulls_in count (shape b)) (nodes b) (nodes d)
  up_to count d l k =
      let r : ℕ = count - (i + 1) in
      let e : i + 1 + r ≡ count = omega (arith, l) in
      let t = AllTake-more (nulls_in (i + 1) (shape b)) (nulls_in r (shape b)) (nodes b) (nodes d) (length-nulls (i + 1) r (shape b)) (one_more d k) in
      subst (λ (zs : List Added). AllTake zs (nodes b) (nodes d)) (sym (nulls-sum (i + 1) r (shape b)) ∙ ap (λ n. nulls_in n (shape b)) e) t

  -- the next has spare capacity, where all have
  pub next_fits : (count : ℕ) → i < count → AllZip FitsIn (nulls_in count (shape b)) (nodes b) → AllZip FitsIn (nulls_in 1 (shape c)) (nodes c)
  next_fits count l r =
      let m : ℕ = count - (i + 1) in
      let e : i + 1 + m ≡ count = omega (arith, l) in
      let parts : nulls_in count (shape b) ≡ sums (sums (nulls_in i (shape b)) (nulls_in 1 (shape b))) (nulls_in m (shape b)) =
      ap (λ n. nulls_in n (shape b)) (sym e) ∙ nulls-sum (i + 1) m (shape b) ∙ ap (λ (zs : List Added). sums zs (nulls_in m (shape b))) (nulls-sum i 1 (shape b)) in
      let q = subst (λ (zs : List Added). AllZip FitsIn zs (nodes b)) parts r in
      subst (λ z. AllZip FitsIn (nulls_in 1 z) (nodes c)) (sym s) (AllFitsIn-after (nulls_in i (shape b)) (nulls_in 1 (shape b)) (nulls_in m (shape b)) (nodes b) (nodes c) (length-nulls i 1 (shape b)) h q)

-- each child has spare capacity, where all have
pub child_fits : (n i : ℕ) (bs : List MutableArray) (x : MutableArray) → i < length bs → AllZip FitsIn (nulls_in n (fields_of (map shape bs))) (all_nodes bs) → AllZip FitsIn (nulls_in n (shape (get_or bs i x))) (nodes (get_or bs i x))
child_fits n i [] x l r = absurd (omega (arith, l))
child_fits n zero (b ∷ bs) x l r = AllFitsIn-prefix (nulls_in n (shape b)) (nulls_in n (fields_of (map shape bs))) (nodes b) (all_nodes bs) (nulls-fit n b) r
child_fits n (suc i) (b ∷ bs) x l r = child_fits n i bs x (omega (arith, l)) (AllFitsIn-back (nulls_in n (shape b)) (nulls_in n (fields_of (map shape bs))) (nodes b) (all_nodes bs) (nulls-fit n b) r)

-- ---- a null of a builder of structs

pub record_fits : (b : DynMutableStructArray) → AllZip FitsIn (nulls_at 1 (Struct b)) (nodes (Struct b)) → FitsIn (record { slots = 1; bytes = 0 }) (marks_node b.marks) × AllZip FitsIn (nulls_in 1 (fields_of (map shape b.values.items))) (all_nodes b.values.items)
record_fits b r =
    subst (λ (xs : List Node). AllZip FitsIn (record { slots = 1; bytes = 0 } ∷ nulls_in 1 (fields_of (map shape b.values.items))) xs) (nodes-record b)
    (subst (λ z. AllZip FitsIn (nulls_in 1 z) (nodes (Struct b))) (shape-record b) r)
