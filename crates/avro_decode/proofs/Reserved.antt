-- Builders that get more spare capacity, and the rows that it is made for.
use Rattle.std.proofs.Common.{◌≡◌, ◌∙◌, ℕ, zero, suc, ◌*◌, ◌/◌, ◌≤◌, inl, inr, true, false, List, [], ◌∷◌, length, get_or, set, All, min, refl, sym, subst, arith}
use Rattle.std.specs.Prelude.{is_some, slice_get}
use Rattle.std.specs.Option.{option_map}
use Rattle.std.specs.List.{AllZip}
use Rattle.std.proofs.lemmas.List.Elements.{All-cons}
use Rattle.std.proofs.lemmas.Nat.{mul-le}
use Rattle.std.proofs.Math.Nat.{div-mul-le_self}
use Rattle.arrow_builders.specs.MutableArrays.{nodes, lengths_of}
use Rattle.arrow_builders.specs.Nodes.{Node, NoLessSpare, IsEmpty}
use Rattle.arrow_builders.specs.declared.array.MutableArray.{MutableArray}
use Rattle.avro_decode.specs.Capacity.{IsReserved}

still_empty : (x y : Node) → NoLessSpare x y → IsEmpty x → IsEmpty y
still_empty x y n e = record { slots = n.slots ∙ e.slots; bytes = n.bytes ∙ e.bytes }

pub nodes_still_empty : (xs ys : List Node) → AllZip NoLessSpare xs ys → All IsEmpty xs → All IsEmpty ys
nodes_still_empty [] [] r h = h
nodes_still_empty [] (y ∷ ys) r h = absurd r
nodes_still_empty (x ∷ xs) [] r h = absurd r
nodes_still_empty (x ∷ xs) (y ∷ ys) r h =
    All-cons IsEmpty y ys (still_empty x y r.0 (h 0 x (omega arith))) (nodes_still_empty xs ys r.1 (λ k d lt. h (suc k) d (omega (arith, lt))))

-- ---- builders of one node

pub one_node : (xs : List Node) → is_some (option_map lengths_of (slice_get xs 1)) ≡ false → length xs ≤ 1
one_node [] e = omega arith
one_node (x ∷ []) e = omega arith
one_node (x ∷ y ∷ more) e = let f : true ≡ false = e in absurd cc

reserved_twice : (a b c : MutableArray) → IsReserved a b → IsReserved b c → IsReserved a c
reserved_twice a b c (inl h) r = inl h
reserved_twice a b c (inr e) (inl h) = inl (subst (λ (x : MutableArray). length (nodes x) ≤ 1) e h)
reserved_twice a b c (inr e) (inr f) = inr (f ∙ e)

pub reserved_none : (bs : List MutableArray) → AllZip IsReserved bs bs
reserved_none [] = tt
reserved_none (b ∷ bs) = (inr refl, reserved_none bs)

pub reserved_more : (bs cs : List MutableArray) (k : ℕ) (d c : MutableArray) → AllZip IsReserved bs cs → IsReserved (get_or cs k d) c → AllZip IsReserved bs (set cs k c)
reserved_more [] [] k d c h r = h
reserved_more [] (x ∷ cs) k d c h r = absurd h
reserved_more (b ∷ bs) [] k d c h r = absurd h
reserved_more (b ∷ bs) (x ∷ cs) zero d c h r = (reserved_twice b x c h.0 r, h.1)
reserved_more (b ∷ bs) (x ∷ cs) (suc k) d c h r = (h.0, reserved_more bs cs k d c h.1 r)

-- ---- how many rows

least_right : (a b : ℕ) → min a b ≤ b
least_right a b = omega arith

pub rows_backed : (rows stated bytes columns : ℕ) → rows ≡ min stated (bytes / columns) → rows * columns ≤ bytes
rows_backed rows stated bytes columns e =
    let le : rows ≤ bytes / columns = subst (λ (n : ℕ). n ≤ bytes / columns) (sym e) (least_right stated (bytes / columns)) in
    let a = mul-le rows columns (bytes / columns) columns le (omega arith) in
    let b = div-mul-le_self bytes columns in
    omega (arith, a, b)
