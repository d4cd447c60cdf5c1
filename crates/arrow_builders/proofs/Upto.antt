-- A relation that holds of the first children, while the others stay as they are.
use Rattle.std.proofs.Common.{◌≡◌, ap, sym, subst, ℕ, zero, suc, ◌<◌, ◌≤◌, List, [], ◌∷◌, map, length, set, get_or, refl, arith, All}
use Rattle.std.specs.List.{AllZip}
use Rattle.std.proofs.lemmas.List.Elements.{All-nil, All-append}
use Rattle.arrow_builders.specs.Children.{all_nodes, all_slots, fields_of, AllFit}
use Rattle.arrow_builders.specs.Fits.{ChildrenFit}
use Rattle.arrow_builders.specs.MutableArrays.{nodes, slots_at}
use Rattle.arrow_flat.specs.Nodes.{Node}
use Rattle.arrow_builders.specs.Shapes.{nulls_in, AllTake, AllGetNulls, AllGetBytes, shape}
use Rattle.arrow_builders.specs.declared.array.MutableArray.{MutableArray}
use Rattle.arrow_builders.proofs.Growth.{AllZip-same, AllZip-append, AllTake-append, AllTake-same}
use Rattle.arrow_builders.proofs.NullBytes.{AllGetBytes-append}
use Rattle.arrow_builders.proofs.NullsBelow.{AllGetNulls-append}
use Rattle.arrow_builders.proofs.Sizes.{nulls-fit}

module _ (R : MutableArray → MutableArray → Type 0) where
  abbrev pub Upto : ℕ → List MutableArray → List MutableArray → Type 0
  Upto i [] [] = Unit {0}
  Upto i [] (d ∷ ds) = ⊥
  Upto i (c ∷ cs) [] = ⊥
  Upto zero (c ∷ cs) (d ∷ ds) = (c ≡ d) × Upto zero cs ds
  Upto (suc i) (c ∷ cs) (d ∷ ds) = R c d × Upto i cs ds

  pub Upto-start : (cs : List MutableArray) → Upto 0 cs cs
  Upto-start [] = tt
  Upto-start (c ∷ cs) = (refl, Upto-start cs)

  -- the next one is as it was
  pub Upto-next : (i : ℕ) (cs ds : List MutableArray) (x : MutableArray) → Upto i cs ds → get_or ds i x ≡ get_or cs i x
  Upto-next i [] [] x h = refl
  Upto-next i [] (d ∷ ds) x h = absurd h
  Upto-next i (c ∷ cs) [] x h = absurd h
  Upto-next zero (c ∷ cs) (d ∷ ds) x h = sym h.0
  Upto-next (suc i) (c ∷ cs) (d ∷ ds) x h = Upto-next i cs ds x h.1

  pub Upto-length : (i : ℕ) (cs ds : List MutableArray) → Upto i cs ds → length cs ≡ length ds
  Upto-length i [] [] h = refl
  Upto-length i [] (d ∷ ds) h = absurd h
  Upto-length i (c ∷ cs) [] h = absurd h
  Upto-length zero (c ∷ cs) (d ∷ ds) h = ap suc (Upto-length zero cs ds h.1)
  Upto-length (suc i) (c ∷ cs) (d ∷ ds) h = ap suc (Upto-length i cs ds h.1)

  pub Upto-set : (i : ℕ) (cs ds : List MutableArray) (x new : MutableArray) → i < length ds → R (get_or ds i x) new → Upto i cs ds → Upto (suc i) cs (set ds i new)
  Upto-set i [] [] x new lt r h = absurd (omega arith)
  Upto-set i [] (d ∷ ds) x new lt r h = absurd h
  Upto-set i (c ∷ cs) [] x new lt r h = absurd h
  Upto-set zero (c ∷ cs) (d ∷ ds) x new lt r h = (subst (λ (y : MutableArray). R y new) (sym h.0) r, h.1)
  Upto-set (suc i) (c ∷ cs) (d ∷ ds) x new lt r h = (h.0, Upto-set i cs ds x new (omega arith) r h.1)

  pub Upto-step : (i j : ℕ) (cs ds : List MutableArray) (x new : MutableArray) → j ≡ suc i → i < length ds → R (get_or ds i x) new → Upto i cs ds → Upto j cs (set ds i new)
  Upto-step i j cs ds x new q lt r h = rw q (Upto-set i cs ds x new lt r h)

  -- what does not change at any of them
  pub Upto-map : {X : Type 0} (f : MutableArray → X) → ((c d : MutableArray) → R c d → f d ≡ f c) → (i : ℕ) (cs ds : List MutableArray) → Upto i cs ds → map f ds ≡ map f cs
  Upto-map f k i [] [] h = refl
  Upto-map f k i [] (d ∷ ds) h = absurd h
  Upto-map f k i (c ∷ cs) [] h = absurd h
  Upto-map f k zero (c ∷ cs) (d ∷ ds) h = let e = Upto-map f k zero cs ds h.1 in let s = ap f h.0 in cc
  Upto-map f k (suc i) (c ∷ cs) (d ∷ ds) h = let e = Upto-map f k i cs ds h.1 in let s = k c d h.0 in cc

  -- what holds of all in the end
  pub Upto-map_all : {X : Type 0} (f g : MutableArray → X) → ((c d : MutableArray) → R c d → f d ≡ g c) → (i : ℕ) (cs ds : List MutableArray) → length ds ≤ i → Upto i cs ds → map f ds ≡ map g cs
  Upto-map_all f g k i [] [] le h = refl
  Upto-map_all f g k i [] (d ∷ ds) le h = absurd h
  Upto-map_all f g k i (c ∷ cs) [] le h = absurd h
  Upto-map_all f g k zero (c ∷ cs) (d ∷ ds) le h = absurd (omega arith)
  Upto-map_all f g k (suc i) (c ∷ cs) (d ∷ ds) le h = let e = Upto-map_all f g k i cs ds (omega arith) h.1 in let s = k c d h.0 in cc

  pub Upto-nodes : (E : Node → Node → Type 0) → ((x : Node) → E x x) → ((c d : MutableArray) → R c d → AllZip E (nodes c) (nodes d)) → (i : ℕ) (cs ds : List MutableArray) → Upto i cs ds → AllZip E (all_nodes cs) (all_nodes ds)
  Upto-nodes E same k i [] [] h = tt
  Upto-nodes E same k i [] (d ∷ ds) h = absurd h
  Upto-nodes E same k i (c ∷ cs) [] h = absurd h
  Upto-nodes E same k zero (c ∷ cs) (d ∷ ds) h = AllZip-append E (nodes c) (nodes d) (all_nodes cs) (all_nodes ds) (subst (λ (x : MutableArray). AllZip E (nodes c) (nodes x)) h.0 (AllZip-same E same (nodes c))) (Upto-nodes E same k zero cs ds h.1)
  Upto-nodes E same k (suc i) (c ∷ cs) (d ∷ ds) h = AllZip-append E (nodes c) (nodes d) (all_nodes cs) (all_nodes ds) (k c d h.0) (Upto-nodes E same k i cs ds h.1)

  pub Upto-nodes_all : (E : Node → Node → Type 0) → ((c d : MutableArray) → R c d → AllZip E (nodes c) (nodes d)) → (i : ℕ) (cs ds : List MutableArray) → length ds ≤ i → Upto i cs ds → AllZip E (all_nodes cs) (all_nodes ds)
  Upto-nodes_all E k i [] [] le h = tt
  Upto-nodes_all E k i [] (d ∷ ds) le h = absurd h
  Upto-nodes_all E k i (c ∷ cs) [] le h = absurd h
  Upto-nodes_all E k zero (c ∷ cs) (d ∷ ds) le h = absurd (omega arith)
  Upto-nodes_all E k (suc i) (c ∷ cs) (d ∷ ds) le h = AllZip-append E (nodes c) (nodes d) (all_nodes cs) (all_nodes ds) (k c d h.0) (Upto-nodes_all E k i cs ds (omega arith) h.1)

  pub Upto-all : (P : Node → Type 0) → ((c d : MutableArray) → R c d → All P (nodes d)) → (i : ℕ) (cs ds : List MutableArray) → length ds ≤ i → Upto i cs ds → All P (all_nodes ds)
  Upto-all P k i [] [] le h = All-nil P
  Upto-all P k i [] (d ∷ ds) le h = absurd h
  Upto-all P k i (c ∷ cs) [] le h = absurd h
  Upto-all P k zero (c ∷ cs) (d ∷ ds) le h = absurd (omega arith)
  Upto-all P k (suc i) (c ∷ cs) (d ∷ ds) le h = All-append P (nodes d) (all_nodes ds) (k c d h.0) (Upto-all P k i cs ds (omega arith) h.1)

  pub Upto-takes : (n : ℕ) → ((c d : MutableArray) → R c d → AllTake (nulls_in n (shape c)) (nodes c) (nodes d)) → (i : ℕ) (cs ds : List MutableArray) → Upto i cs ds → AllTake (nulls_in n (fields_of (map shape cs))) (all_nodes cs) (all_nodes ds)
  Upto-takes n k i [] [] h = tt
  Upto-takes n k i [] (d ∷ ds) h = absurd h
  Upto-takes n k i (c ∷ cs) [] h = absurd h
  Upto-takes n k zero (c ∷ cs) (d ∷ ds) h = AllTake-append (nulls_in n (shape c)) (nulls_in n (fields_of (map shape cs))) (nodes c) (nodes d) (all_nodes cs) (all_nodes ds) (subst (λ (x : MutableArray). AllTake (nulls_in n (shape c)) (nodes c) (nodes x)) h.0 (AllTake-same (nulls_in n (shape c)) (nodes c) (nulls-fit n c))) (Upto-takes n k zero cs ds h.1)
  Upto-takes n k (suc i) (c ∷ cs) (d ∷ ds) h = AllTake-append (nulls_in n (shape c)) (nulls_in n (fields_of (map shape cs))) (nodes c) (nodes d) (all_nodes cs) (all_nodes ds) (k c d h.0) (Upto-takes n k i cs ds h.1)

  pub Upto-slots : ((c d : MutableArray) → R c d → slots_at d ≡ slots_at c) → (i : ℕ) (cs ds : List MutableArray) → Upto i cs ds → all_slots ds ≡ all_slots cs
  Upto-slots k i [] [] h = refl
  Upto-slots k i [] (d ∷ ds) h = absurd h
  Upto-slots k i (c ∷ cs) [] h = absurd h
  Upto-slots k zero (c ∷ cs) (d ∷ ds) h = let e = Upto-slots k zero cs ds h.1 in let s = ap slots_at h.0 in rw (← s, e) refl
  Upto-slots k (suc i) (c ∷ cs) (d ∷ ds) h = let e = Upto-slots k i cs ds h.1 in let s = k c d h.0 in rw (s, e) refl

  pub Upto-nulls_all : (n : ℕ) → ((c d : MutableArray) → R c d → AllGetNulls (nulls_in n (shape c)) (slots_at c) (slots_at d)) → (i : ℕ) (cs ds : List MutableArray) → length ds ≤ i → Upto i cs ds → AllGetNulls (nulls_in n (fields_of (map shape cs))) (all_slots cs) (all_slots ds)
  Upto-nulls_all n k i [] [] le h = tt
  Upto-nulls_all n k i [] (d ∷ ds) le h = absurd h
  Upto-nulls_all n k i (c ∷ cs) [] le h = absurd h
  Upto-nulls_all n k zero (c ∷ cs) (d ∷ ds) le h = absurd (omega arith)
  Upto-nulls_all n k (suc i) (c ∷ cs) (d ∷ ds) le h = AllGetNulls-append (nulls_in n (shape c)) (nulls_in n (fields_of (map shape cs))) (slots_at c) (slots_at d) (all_slots cs) (all_slots ds) (k c d h.0) (Upto-nulls_all n k i cs ds (omega arith) h.1)

  pub Upto-bytes_all : (n : ℕ) → ((c d : MutableArray) → R c d → AllGetBytes (nulls_in n (shape c)) (nodes c) (nodes d)) → (i : ℕ) (cs ds : List MutableArray) → length ds ≤ i → Upto i cs ds → AllGetBytes (nulls_in n (fields_of (map shape cs))) (all_nodes cs) (all_nodes ds)
  Upto-bytes_all n k i [] [] le h = tt
  Upto-bytes_all n k i [] (d ∷ ds) le h = absurd h
  Upto-bytes_all n k i (c ∷ cs) [] le h = absurd h
  Upto-bytes_all n k zero (c ∷ cs) (d ∷ ds) le h = absurd (omega arith)
  Upto-bytes_all n k (suc i) (c ∷ cs) (d ∷ ds) le h = AllGetBytes-append (nulls_in n (shape c)) (nulls_in n (fields_of (map shape cs))) (nodes c) (nodes d) (all_nodes cs) (all_nodes ds) (k c d h.0) (Upto-bytes_all n k i cs ds (omega arith) h.1)

-- what less holds of the first
pub Upto-weaken : (R S : MutableArray → MutableArray → Type 0) → ((c d : MutableArray) → R c d → S c d) → (i : ℕ) (cs ds : List MutableArray) → Upto R i cs ds → Upto S i cs ds
Upto-weaken R S k i [] [] h = tt
Upto-weaken R S k i [] (d ∷ ds) h = absurd h
Upto-weaken R S k i (c ∷ cs) [] h = absurd h
Upto-weaken R S k zero (c ∷ cs) (d ∷ ds) h = (h.0, Upto-weaken R S k zero cs ds h.1)
Upto-weaken R S k (suc i) (c ∷ cs) (d ∷ ds) h = (k c d h.0, Upto-weaken R S k i cs ds h.1)

-- each child of the first fits, and so all in the end
pub Upto-fit : (R : MutableArray → MutableArray → Type 0) → ((c d : MutableArray) → R c d → ChildrenFit c) → (i : ℕ) (cs ds : List MutableArray) → length ds ≤ i → Upto R i cs ds → AllFit cs
Upto-fit R k i [] [] le h = tt
Upto-fit R k i [] (d ∷ ds) le h = absurd h
Upto-fit R k i (c ∷ cs) [] le h = absurd h
Upto-fit R k zero (c ∷ cs) (d ∷ ds) le h = absurd (omega arith)
Upto-fit R k (suc i) (c ∷ cs) (d ∷ ds) le h = (k c d h.0, Upto-fit R k i cs ds (omega arith) h.1)
