-- The content bytes that come to each node of a builder with nulls.
use Rattle.std.proofs.Common.{◌≡◌, sym, subst, refl, ℕ, ◌+◌, ◌*◌, List, [], ◌∷◌, ◌++◌, length, arith, All, Result, OnOk}
use Rattle.std.proofs.lemmas.List.Elements.{All-nil, All-cons, All-head, All-tail, All-append}
use Rattle.arrow_array.specs.FixedLists.{list_size}
use Rattle.arrow_flat.specs.Nodes.{Node}
use Rattle.arrow_builders.specs.MutableArrays.{nodes}
use Rattle.arrow_builders.specs.Shapes.{Shape, flat, dictionary, lists, fixed_lists, records, no_field, field, Added, null_bytes, nulls_in, nulls_at, AllGetBytes, shape}
use Rattle.arrow_builders.specs.declared.array.MutableArray.{MutableArray}
use Rattle.arrow_builders.proofs.Growth.{AllAdded-append, AllAdded-then, nulls-sum}
use Rattle.arrow_builders.proofs.Sizes.{nulls-fit}

-- ---- no null

abbrev IsNone : Added → Type 0
IsNone a = a.bytes ≡ 0

no_added : (n : ℕ) → n ≡ 0 → (s : Shape) → All IsNone (nulls_in n s)
no_added n z (flat kind t) = let e : n * null_bytes kind t ≡ 0 = rw z (omega arith) in All-cons IsNone (record { slots = n; bytes = n * null_bytes kind t }) [] e (All-nil IsNone)
no_added n z (dictionary t items) = All-cons IsNone (record { slots = n; bytes = 0 }) [] refl (All-nil IsNone)
no_added n z (lists kind t s) = All-cons IsNone (record { slots = n; bytes = 0 }) (nulls_in 0 s) refl (no_added 0 refl s)
no_added n z (fixed_lists t s) = let e : n * list_size t ≡ 0 = rw z (omega arith) in All-cons IsNone (record { slots = n; bytes = 0 }) (nulls_in (n * list_size t) s) refl (no_added (n * list_size t) e s)
no_added n z (records t s) = All-cons IsNone (record { slots = n; bytes = 0 }) (nulls_in n s) refl (no_added n z s)
no_added n z no_field = All-nil IsNone
no_added n z (field s more) = All-append IsNone (nulls_in n s) (nulls_in n more) (no_added n z s) (no_added n z more)

stay : (ps : List Added) (xs : List Node) → length ps ≡ length xs → All IsNone ps → AllGetBytes ps xs xs
stay [] [] l h = tt
stay [] (x ∷ xs) l h = absurd (omega (arith, l))
stay (a ∷ ps) [] l h = absurd (omega (arith, l))
stay (a ∷ ps) (x ∷ xs) l h =
    let z : a.bytes ≡ 0 = All-head IsNone a ps h in
    (omega (arith, z), stay ps xs (omega (arith, l)) (All-tail IsNone a ps h))

pub no_bytes : (b : MutableArray) → AllGetBytes (nulls_in 0 (shape b)) (nodes b) (nodes b)
no_bytes b = stay (nulls_in 0 (shape b)) (nodes b) (nulls-fit 0 b) (no_added 0 refl (shape b))

-- ---- one null more

-- c is b with i nulls more, and d is c with one more
pub one_more_bytes : (b c d : MutableArray) (i : ℕ) → shape c ≡ shape b → AllGetBytes (nulls_in i (shape b)) (nodes b) (nodes c) → AllGetBytes (nulls_in 1 (shape c)) (nodes c) (nodes d) → AllGetBytes (nulls_in (i + 1) (shape b)) (nodes b) (nodes d)
one_more_bytes b c d i s h k =
    let t : AllGetBytes (nulls_in 1 (shape b)) (nodes c) (nodes d) = subst (λ z. AllGetBytes (nulls_in 1 z) (nodes c) (nodes d)) s k in
    let both = AllAdded-then (λ (a : Added) (x y : Node). y.bytes ≡ x.bytes + a.bytes) (λ p q x y z f g. omega (arith, f, g)) (nulls_in i (shape b)) (nulls_in 1 (shape b)) (nodes b) (nodes c) (nodes d) h t in
    subst (λ (ps : List Added). AllGetBytes ps (nodes b) (nodes d)) (sym (nulls-sum i 1 (shape b))) both

pub AllGetBytes-append : (ps bs : List Added) (xs ys us vs : List Node) → AllGetBytes ps xs ys → AllGetBytes bs us vs → AllGetBytes (ps ++ bs) (xs ++ us) (ys ++ vs)
AllGetBytes-append ps bs xs ys us vs h k = AllAdded-append (λ (a : Added) (x y : Node). y.bytes ≡ x.bytes + a.bytes) ps bs xs ys us vs h k

-- ---- answers

-- what is told of two builders is told of two that equal them
pub bytes_of : {A E : Type 0} (r : Result A E) (b d x y : MutableArray) → b ≡ x → d ≡ y → OnOk r (AllGetBytes (nulls_at 1 x) (nodes x) (nodes y)) → OnOk r (AllGetBytes (nulls_at 1 b) (nodes b) (nodes d))
bytes_of r b d x y e f h = rw (e, f) h
