-- Finding a node by its number.
use Rattle.std.proofs.Common.{◌≡◌, ◌∙◌, ℕ, ◌+◌, ◌-◌, ◌<◌, suc, zero, Bool, true, false, cond, nat_eq, List, [], ◌∷◌, ◌++◌, map, length, get_or, drop, Result, Ok, Err, refl, sym, ap, arith, add-one}
use Rattle.std.specs.Prelude.{Option, Some, None, option_map, slice_get}
use Rattle.std.proofs.Math.Dec.{eqb-suc-zero}
use Rattle.std.proofs.Math.Seq.{drop-cons}
use Rattle.arrow_builders.specs.Children.{all_nodes}
use Rattle.arrow_builders.specs.Found.{found_at}
use Rattle.arrow_builders.specs.MutableArrays.{nodes, lengths_of}
use Rattle.arrow_flat.specs.Nodes.{Node}
use Rattle.arrow_flat.specs.declared.lengths.NodeLengths.{NodeLengths}
use Rattle.arrow_builders.specs.declared.array.MutableArray.{MutableArray}

abbrev pub or_at : List Node → Result NodeLengths ℕ → Result NodeLengths ℕ
or_at ys (Ok v) = Ok v
or_at ys (Err m) = found_at ys m

found_at-append : (xs ys : List Node) (n : ℕ) → found_at (xs ++ ys) n ≡ or_at ys (found_at xs n)
found_at-append [] ys n = refl
found_at-append (x ∷ xs) ys n = split (found_at-append xs ys (n - 1)) (nat_eq n 0)
  where
    split : found_at (xs ++ ys) (n - 1) ≡ or_at ys (found_at xs (n - 1)) → (b : Bool) → cond b (Ok (lengths_of x)) (found_at (xs ++ ys) (n - 1)) ≡ or_at ys (cond b (Ok (lengths_of x)) (found_at xs (n - 1)))
    split again true = refl
    split again false = again

-- the nodes beneath the children from index i on are those of child i, and then those of the rest
pub find-step : (bs : List MutableArray) (b : MutableArray) (i n : ℕ) → i < length bs → b ≡ get_or bs i b → found_at (all_nodes (drop i bs)) n ≡ or_at (all_nodes (drop (i + 1) bs)) (found_at (nodes b) n)
find-step bs b i n lt e =
    let d : drop i bs ≡ b ∷ drop (i + 1) bs = rw add-one (drop-cons bs i b lt ∙ ap (λ (x : MutableArray). x ∷ drop (suc i) bs) (sym e)) in
    ap (λ (cs : List MutableArray). found_at (all_nodes cs) n) d ∙ found_at-append (nodes b) (all_nodes (drop (i + 1) bs)) n

-- past the first node the index is counted from the node after it
pub find-behind : (x : Node) (xs : List Node) (here : NodeLengths) (n left : ℕ) (r : Result NodeLengths ℕ) → cond (nat_eq n 0) (Ok here) (Err (n - 1)) ≡ Err left → r ≡ found_at xs left → r ≡ found_at (x ∷ xs) n
find-behind x xs here n left r e h = h ∙ split (nat_eq n 0) e
  where
    split : (b : Bool) → cond b (Ok here) (Err (n - 1)) ≡ Err left → found_at xs left ≡ cond b (Ok (lengths_of x)) (found_at xs (n - 1))
    split true d = cc
    split false d = let k : left ≡ n - 1 = cc in ap (found_at xs) k

abbrev pub ok_of : Result NodeLengths ℕ → Option NodeLengths
ok_of (Ok v) = Some v
ok_of (Err m) = None

pub found_is : (xs : List Node) (n : ℕ) → option_map lengths_of (slice_get xs n) ≡ ok_of (found_at xs n)
found_is [] n = refl
found_is (x ∷ xs) zero = refl
found_is (x ∷ xs) (suc n) =
    let e : suc n - 1 ≡ n = omega arith in
    let d : nat_eq (suc n) 0 ≡ false = eqb-suc-zero n in
    rw (d, e) (found_is xs n)

-- where there is one node, the number is 0 or lies past it
pub one_found : (xs : List Node) (here : NodeLengths) (n : ℕ) (r : Result NodeLengths ℕ) → map lengths_of xs ≡ here ∷ [] → r ≡ cond (nat_eq n 0) (Ok here) (Err (n - 1)) → r ≡ found_at xs n
one_found [] here n r e h = absurd cc
one_found (x ∷ y ∷ xs) here n r e h = absurd cc
one_found (x ∷ []) here n r e h = let k : lengths_of x ≡ here = cc in h ∙ ap (λ (l : NodeLengths). cond (nat_eq n 0) (Ok l) (Err (n - 1))) (sym k)
