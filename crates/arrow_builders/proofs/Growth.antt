-- What is added at each node, one call after another.
use Rattle.std.proofs.Common.{◌≡◌, ap, ◌∙◌, sym, ℕ, suc, ◌+◌, ◌*◌, List, [], ◌∷◌, ◌++◌, length, refl, arith}
use Rattle.std.specs.List.{AllZip}
use Rattle.std.proofs.Math.Nat.{add-mul}
use Rattle.std.proofs.lemmas.List.{length-append}
use Rattle.arrow_array.specs.FixedLists.{list_size}
use Rattle.arrow_flat.specs.Nodes.{Node, Takes, NoLessSpare}
use Rattle.arrow_builders.specs.Shapes.{Shape, flat, dictionary, lists, fixed_lists, records, no_field, field, Added, null_bytes, nulls_in, AllAdded, AllTake, FitsIn}

-- ---- sums of what is added

abbrev pub sums : List Added → List Added → List Added
sums [] bs = []
sums (a ∷ ps) [] = []
sums (a ∷ ps) (b ∷ bs) = record { slots = a.slots + b.slots; bytes = a.bytes + b.bytes } ∷ sums ps bs

sums-append : (ps bs cs ds : List Added) → length ps ≡ length bs → sums (ps ++ cs) (bs ++ ds) ≡ sums ps bs ++ sums cs ds
sums-append [] [] cs ds l = refl
sums-append [] (b ∷ bs) cs ds l = absurd (omega (arith, l))
sums-append (a ∷ ps) [] cs ds l = absurd (omega (arith, l))
sums-append (a ∷ ps) (b ∷ bs) cs ds l = ap (λ (zs : List Added). record { slots = a.slots + b.slots; bytes = a.bytes + b.bytes } ∷ zs) (sums-append ps bs cs ds (omega (arith, l)))

pub length-nulls : (m n : ℕ) (s : Shape) → length (nulls_in m s) ≡ length (nulls_in n s)
length-nulls m n (flat kind t) = refl
length-nulls m n (dictionary t items) = refl
length-nulls m n (lists kind t s) = refl
length-nulls m n (fixed_lists t s) = ap suc (length-nulls (m * list_size t) (n * list_size t) s)
length-nulls m n (records t s) = ap suc (length-nulls m n s)
length-nulls m n no_field = refl
length-nulls m n (field s more) =
    let a = length-nulls m n s in
    let b = length-nulls m n more in
    omega (arith, a, b, length-append (nulls_in m s) (nulls_in m more), length-append (nulls_in n s) (nulls_in n more))

pub nulls-sum : (m n : ℕ) (s : Shape) → nulls_in (m + n) s ≡ sums (nulls_in m s) (nulls_in n s)
nulls-sum m n (flat kind t) = ap (λ (b : ℕ). record { slots = m + n; bytes = b } ∷ []) (add-mul m n (null_bytes kind t))
nulls-sum m n (dictionary t items) = refl
nulls-sum m n (lists kind t s) = ap (λ (zs : List Added). record { slots = m + n; bytes = 0 } ∷ zs) (nulls-sum 0 0 s)
nulls-sum m n (fixed_lists t s) =
    ap (λ (zs : List Added). record { slots = m + n; bytes = 0 } ∷ zs) (ap (λ k. nulls_in k s) (add-mul m n (list_size t)) ∙ nulls-sum (m * list_size t) (n * list_size t) s)
nulls-sum m n (records t s) = ap (λ (zs : List Added). record { slots = m + n; bytes = 0 } ∷ zs) (nulls-sum m n s)
nulls-sum m n no_field = refl
nulls-sum m n (field s more) =
    rw (nulls-sum m n s, nulls-sum m n more) (sym (sums-append (nulls_in m s) (nulls_in n s) (nulls_in m more) (nulls_in n more) (length-nulls m n s)))

-- ---- at each node

module _ {X : Type 0} (Adds : Added → X → X → Type 0) where
  pub AllAdded-append : (ps bs : List Added) (xs ys us vs : List X) → AllAdded Adds ps xs ys → AllAdded Adds bs us vs → AllAdded Adds (ps ++ bs) (xs ++ us) (ys ++ vs)
  AllAdded-append [] bs [] [] us vs h k = k
  AllAdded-append [] bs [] (y ∷ ys) us vs h k = absurd h
  AllAdded-append [] bs (x ∷ xs) [] us vs h k = absurd h
  AllAdded-append [] bs (x ∷ xs) (y ∷ ys) us vs h k = absurd h
  AllAdded-append (a ∷ ps) bs [] [] us vs h k = absurd h
  AllAdded-append (a ∷ ps) bs [] (y ∷ ys) us vs h k = absurd h
  AllAdded-append (a ∷ ps) bs (x ∷ xs) [] us vs h k = absurd h
  AllAdded-append (a ∷ ps) bs (x ∷ xs) (y ∷ ys) us vs h k = (h.0, AllAdded-append ps bs xs ys us vs h.1 k)

  module _ (both : (a b : Added) (x y z : X) → Adds a x y → Adds b y z → Adds (record { slots = a.slots + b.slots; bytes = a.bytes + b.bytes }) x z) where
    pub AllAdded-then : (ps bs : List Added) (xs ys zs : List X) → AllAdded Adds ps xs ys → AllAdded Adds bs ys zs → AllAdded Adds (sums ps bs) xs zs
    AllAdded-then [] bs [] [] zs h k = none bs zs k
      where
        none : (bs : List Added) (zs : List X) → AllAdded Adds bs [] zs → AllAdded Adds [] [] zs
        none [] [] k = tt
        none [] (z ∷ zs) k = absurd k
        none (b ∷ bs) [] k = absurd k
        none (b ∷ bs) (z ∷ zs) k = absurd k
    AllAdded-then [] bs [] (y ∷ ys) zs h k = absurd h
    AllAdded-then [] bs (x ∷ xs) [] zs h k = absurd h
    AllAdded-then [] bs (x ∷ xs) (y ∷ ys) zs h k = absurd h
    AllAdded-then (a ∷ ps) bs [] [] zs h k = absurd h
    AllAdded-then (a ∷ ps) bs [] (y ∷ ys) zs h k = absurd h
    AllAdded-then (a ∷ ps) bs (x ∷ xs) [] zs h k = absurd h
    AllAdded-then (a ∷ ps) [] (x ∷ xs) (y ∷ ys) [] h k = absurd k
    AllAdded-then (a ∷ ps) [] (x ∷ xs) (y ∷ ys) (z ∷ zs) h k = absurd k
    AllAdded-then (a ∷ ps) (b ∷ bs) (x ∷ xs) (y ∷ ys) [] h k = absurd k
    AllAdded-then (a ∷ ps) (b ∷ bs) (x ∷ xs) (y ∷ ys) (z ∷ zs) h k = (both a b x y z h.0 k.0, AllAdded-then ps bs xs ys zs h.1 k.1)

pub Takes-same : (a b : ℕ) (x : Node) → Takes a b x x
Takes-same a b x = record { slots_added = omega arith; slots_kept = omega arith; bytes_added = omega arith; bytes_kept = omega arith; slot_capacity = omega arith; byte_capacity = omega arith }

Takes-then : (a b c d : ℕ) (x y z : Node) → Takes a b x y → Takes c d y z → Takes (a + c) (b + d) x z
Takes-then a b c d x y z h k = record {
  slots_added = omega (arith, h.slots_added, k.slots_added);
  slots_kept = omega (arith, h.slots_kept, k.slots_kept);
  bytes_added = omega (arith, h.bytes_added, k.bytes_added);
  bytes_kept = omega (arith, h.bytes_kept, k.bytes_kept);
  slot_capacity = omega (arith, h.slot_capacity, k.slot_capacity);
  byte_capacity = omega (arith, h.byte_capacity, k.byte_capacity);
}

Takes-more : (a b c d : ℕ) (x y : Node) → Takes a b x y → Takes (a + c) (b + d) x y
Takes-more a b c d x y h = Takes-then a b c d x y y h (Takes-same c d y)

pub AllTake-same : (ps : List Added) (xs : List Node) → length ps ≡ length xs → AllTake ps xs xs
AllTake-same [] [] l = tt
AllTake-same [] (x ∷ xs) l = absurd (omega (arith, l))
AllTake-same (a ∷ ps) [] l = absurd (omega (arith, l))
AllTake-same (a ∷ ps) (x ∷ xs) l = (Takes-same a.slots a.bytes x, AllTake-same ps xs (omega (arith, l)))

pub AllTake-then : (ps bs : List Added) (xs ys zs : List Node) → AllTake ps xs ys → AllTake bs ys zs → AllTake (sums ps bs) xs zs
AllTake-then ps bs xs ys zs h k = AllAdded-then (λ a x y. Takes a.slots a.bytes x y) (λ a b x y z. Takes-then a.slots a.bytes b.slots b.bytes x y z) ps bs xs ys zs h k

pub AllTake-more : (ps bs : List Added) (xs ys : List Node) → length ps ≡ length bs → AllTake ps xs ys → AllTake (sums ps bs) xs ys
AllTake-more [] bs [] [] l h = tt
AllTake-more [] bs [] (y ∷ ys) l h = absurd h
AllTake-more [] bs (x ∷ xs) [] l h = absurd h
AllTake-more [] bs (x ∷ xs) (y ∷ ys) l h = absurd h
AllTake-more (a ∷ ps) bs [] [] l h = absurd h
AllTake-more (a ∷ ps) bs [] (y ∷ ys) l h = absurd h
AllTake-more (a ∷ ps) bs (x ∷ xs) [] l h = absurd h
AllTake-more (a ∷ ps) [] (x ∷ xs) (y ∷ ys) l h = absurd (omega (arith, l))
AllTake-more (a ∷ ps) (b ∷ bs) (x ∷ xs) (y ∷ ys) l h = (Takes-more a.slots a.bytes b.slots b.bytes x y h.0, AllTake-more ps bs xs ys (omega (arith, l)) h.1)

pub AllTake-append : (ps bs : List Added) (xs ys us vs : List Node) → AllTake ps xs ys → AllTake bs us vs → AllTake (ps ++ bs) (xs ++ us) (ys ++ vs)
AllTake-append ps bs xs ys us vs h k = AllAdded-append (λ a x y. Takes a.slots a.bytes x y) ps bs xs ys us vs h k

-- where there is spare capacity for all, there is for the next after the first were taken
FitsIn-after : (a b c d e f : ℕ) (x y : Node) → FitsIn (record { slots = a + c + e; bytes = b + d + f }) x → Takes a b x y → FitsIn (record { slots = c; bytes = d }) y
FitsIn-after a b c d e f x y r h = record { slots = omega (arith, r.slots, h.slots_added, h.slot_capacity); bytes = omega (arith, r.bytes, h.bytes_added, h.byte_capacity) }

pub AllFitsIn-after : (ps bs cs : List Added) (xs ys : List Node) → length ps ≡ length bs → AllTake ps xs ys → AllZip FitsIn (sums (sums ps bs) cs) xs → AllZip FitsIn bs ys
AllFitsIn-after [] [] cs [] [] l h r = tt
AllFitsIn-after [] (b ∷ bs) cs [] [] l h r = absurd (omega (arith, l))
AllFitsIn-after [] bs cs [] (y ∷ ys) l h r = absurd h
AllFitsIn-after [] bs cs (x ∷ xs) [] l h r = absurd h
AllFitsIn-after [] bs cs (x ∷ xs) (y ∷ ys) l h r = absurd h
AllFitsIn-after (a ∷ ps) bs cs [] [] l h r = absurd h
AllFitsIn-after (a ∷ ps) bs cs [] (y ∷ ys) l h r = absurd h
AllFitsIn-after (a ∷ ps) bs cs (x ∷ xs) [] l h r = absurd h
AllFitsIn-after (a ∷ ps) [] cs (x ∷ xs) (y ∷ ys) l h r = absurd (omega (arith, l))
AllFitsIn-after (a ∷ ps) (b ∷ bs) [] (x ∷ xs) (y ∷ ys) l h r = absurd r
AllFitsIn-after (a ∷ ps) (b ∷ bs) (c ∷ cs) (x ∷ xs) (y ∷ ys) l h r = (FitsIn-after a.slots a.bytes b.slots b.bytes c.slots c.bytes x y r.0 h.0, AllFitsIn-after ps bs cs xs ys (omega (arith, l)) h.1 r.1)

pub AllFitsIn-prefix : (ps bs : List Added) (xs ys : List Node) → length ps ≡ length xs → AllZip FitsIn (ps ++ bs) (xs ++ ys) → AllZip FitsIn ps xs
AllFitsIn-prefix [] bs [] ys l r = tt
AllFitsIn-prefix [] bs (x ∷ xs) ys l r = absurd (omega (arith, l))
AllFitsIn-prefix (a ∷ ps) bs [] ys l r = absurd (omega (arith, l))
AllFitsIn-prefix (a ∷ ps) bs (x ∷ xs) ys l r = (r.0, AllFitsIn-prefix ps bs xs ys (omega (arith, l)) r.1)

pub AllFitsIn-back : (ps bs : List Added) (xs ys : List Node) → length ps ≡ length xs → AllZip FitsIn (ps ++ bs) (xs ++ ys) → AllZip FitsIn bs ys
AllFitsIn-back [] bs [] ys l r = r
AllFitsIn-back [] bs (x ∷ xs) ys l r = absurd (omega (arith, l))
AllFitsIn-back (a ∷ ps) bs [] ys l r = absurd (omega (arith, l))
AllFitsIn-back (a ∷ ps) bs (x ∷ xs) ys l r = AllFitsIn-back ps bs xs ys (omega (arith, l)) r.1

-- ---- relations that hold of each two nodes

pub AllZip-same : (E : Node → Node → Type 0) → ((x : Node) → E x x) → (xs : List Node) → AllZip E xs xs
AllZip-same E same [] = tt
AllZip-same E same (x ∷ xs) = (same x, AllZip-same E same xs)

pub AllZip-append : (E : Node → Node → Type 0) (xs ys us vs : List Node) → AllZip E xs ys → AllZip E us vs → AllZip E (xs ++ us) (ys ++ vs)
AllZip-append E [] [] us vs h k = k
AllZip-append E [] (y ∷ ys) us vs h k = absurd h
AllZip-append E (x ∷ xs) [] us vs h k = absurd h
AllZip-append E (x ∷ xs) (y ∷ ys) us vs h k = (h.0, AllZip-append E xs ys us vs h.1 k)

pub NoLessSpare-same : (x : Node) → NoLessSpare x x
NoLessSpare-same x = record { slots = refl; slot_capacity = omega arith; bytes = refl; byte_capacity = omega arith }

pub NoLessSpare-then : (xs ys zs : List Node) → AllZip NoLessSpare xs ys → AllZip NoLessSpare ys zs → AllZip NoLessSpare xs zs
NoLessSpare-then [] [] [] h k = tt
NoLessSpare-then [] [] (z ∷ zs) h k = absurd k
NoLessSpare-then [] (y ∷ ys) zs h k = absurd h
NoLessSpare-then (x ∷ xs) [] zs h k = absurd h
NoLessSpare-then (x ∷ xs) (y ∷ ys) [] h k = absurd k
NoLessSpare-then (x ∷ xs) (y ∷ ys) (z ∷ zs) h k = (record { slots = k.0.slots ∙ h.0.slots; slot_capacity = omega (arith, h.0.slot_capacity, k.0.slot_capacity); bytes = k.0.bytes ∙ h.0.bytes; byte_capacity = omega (arith, h.0.byte_capacity, k.0.byte_capacity) }, NoLessSpare-then xs ys zs h.1 k.1)
