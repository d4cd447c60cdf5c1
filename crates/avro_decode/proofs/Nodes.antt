-- How nodes grow, and that their spare capacity lasts.
use Rattle.std.proofs.Common.{◌≡◌, ℕ, ◌+◌, ◌≤◌, Bool, true, false, ◌&&◌, List, [], ◌∷◌, ◌++◌, length, refl, arith}
use Rattle.arrow_core.specs.Numbers.{greatest_offset}
use Rattle.std.specs.Prelude.{if◌then◌else◌}
use Rattle.arrow_builders.specs.Nodes.{Node, HasSpare}
use Rattle.avro_decode.specs.Masks.{bounded, later, content}
use Rattle.avro_decode.specs.Growth.{Fills, AllFill, Grows, Reaches, AllReach, HaveSpare}
use Rattle.avro_flat.proofs.Pushes.{takes_none}
use Rattle.avro_flat.proofs.Filled.{takes_more}

-- ---- one node

fills_some : (m : Bool) (n : ℕ) (x : Node) → Fills m n x x
fills_some true n x = takes_none n n x
fills_some false n x = (0, takes_none n 0 x)

fill_more : (p : Bool) (m n k : ℕ) (x y z : Node) → Fills p m x y → Fills p n y z → m + n ≤ k → Fills p k x z
fill_more true m n k x y z h g le = takes_more m m n n k k x y z h g le le
fill_more false m n k x y z h g le = (h.0 + g.0, takes_more m h.0 n g.0 k (h.0 + g.0) x y z h.1 g.1 le (omega arith))

fill_wider : (p : Bool) (m n : ℕ) (x y : Node) → Fills p m x y → m ≤ n → Fills p n x y
fill_wider true m n x y h le = takes_more m m 0 0 n n x y y h (takes_none 0 0 y) (omega (arith, le)) (omega (arith, le))
fill_wider false m n x y h le = (h.0, takes_more m h.0 0 0 n h.0 x y y h.1 (takes_none 0 0 y) (omega (arith, le)) (omega arith))

reach_after : (large p q : Bool) (m n k : ℕ) (x y : Node) → Fills p k x y → (q ≡ true → p ≡ true) → k + n ≤ m → Reaches large q m x → Reaches large q n y
reach_after large true true m n k x y f w le h = (omega (arith, h.0, f.slots_added, le), omega (arith, h.1, f.bytes_added, le))
reach_after large true false m n k x y f w le h = (omega (arith, h.0, f.slots_added, le), tt)
reach_after large false true m n k x y f w le h = let e : false ≡ true = w refl in absurd cc
reach_after large false false m n k x y f w le h = (omega (arith, h.0, f.1.slots_added, le), tt)

spare_after_move : (p : Bool) (m n k : ℕ) (x y : Node) → Fills p k x y → p ≡ true → k + n ≤ m → HasSpare m x → HasSpare n y
spare_after_move true m n k x y f e le h = record {
  slots = omega (arith, le, h.slots, f.slots_added, f.slot_capacity);
  bytes = omega (arith, le, h.bytes, f.bytes_added, f.byte_capacity);
}
spare_after_move false m n k x y f e le h = absurd cc

-- ---- nodes in preorder

fill_none : (ms : List Bool) (n : ℕ) (xs : List Node) → AllFill ms n xs xs
fill_none ms n [] = tt
fill_none ms n (x ∷ xs) = (fills_some (bounded ms) n x, fill_none (later ms) n xs)

pub all_fill_more : (ms : List Bool) (m n k : ℕ) (xs ys zs : List Node) → AllFill ms m xs ys → AllFill ms n ys zs → m + n ≤ k → AllFill ms k xs zs
all_fill_more ms m n k [] [] [] h g le = tt
all_fill_more ms m n k [] [] (z ∷ zs) h g le = absurd g
all_fill_more ms m n k [] (y ∷ ys) zs h g le = absurd h
all_fill_more ms m n k (x ∷ xs) [] zs h g le = absurd h
all_fill_more ms m n k (x ∷ xs) (y ∷ ys) [] h g le = absurd g
all_fill_more ms m n k (x ∷ xs) (y ∷ ys) (z ∷ zs) h g le = (fill_more (bounded ms) m n k x y z h.0 g.0 le, all_fill_more (later ms) m n k xs ys zs h.1 g.1 le)

all_fill_wider : (ms : List Bool) (m n : ℕ) (xs ys : List Node) → AllFill ms m xs ys → m ≤ n → AllFill ms n xs ys
all_fill_wider ms m n [] [] h le = tt
all_fill_wider ms m n [] (y ∷ ys) h le = absurd h
all_fill_wider ms m n (x ∷ xs) [] h le = absurd h
all_fill_wider ms m n (x ∷ xs) (y ∷ ys) h le = (fill_wider (bounded ms) m n x y h.0 le, all_fill_wider (later ms) m n xs ys h.1 le)

pub grows_none : (ms : List Bool) (n : ℕ) (xs : List Node) → Grows ms n xs xs
grows_none ms n xs = record { each = fill_none ms n xs; all = omega arith }

pub grows_more : (ms : List Bool) (m n k : ℕ) (xs ys zs : List Node) → Grows ms m xs ys → Grows ms n ys zs → m + n ≤ k → Grows ms k xs zs
grows_more ms m n k xs ys zs h g le = record { each = all_fill_more ms m n k xs ys zs h.each g.each le; all = omega (arith, h.all, g.all, le) }

pub grows_wider : (ms : List Bool) (m n : ℕ) (xs ys : List Node) → Grows ms m xs ys → m ≤ n → Grows ms n xs ys
grows_wider ms m n xs ys h le = record { each = all_fill_wider ms m n xs ys h.each le; all = omega (arith, h.all, le) }

pub one_grows : (n : ℕ) (x y : Node) → Fills true n x y → Grows (true ∷ []) n (x ∷ []) (y ∷ [])
one_grows n x y f = record { each = (f, tt); all = omega (arith, f.bytes_added) }

-- ---- masks of which one lets less be bounded

-- as long, and where the first lets a node be bounded, so does the second
abbrev pub Fewer : List Bool → List Bool → Type 0
Fewer [] [] = Unit {0}
Fewer (m ∷ ms) (n ∷ ns) = (m ≡ true → n ≡ true) × Fewer ms ns
Fewer _ _ = ⊥

pub fewer_same : (ms : List Bool) → Fewer ms ms
fewer_same [] = tt
fewer_same (m ∷ ms) = (λ e. e, fewer_same ms)

pub fewer_append : (us bs cs ds : List Bool) → Fewer us bs → Fewer cs ds → Fewer (us ++ cs) (bs ++ ds)
fewer_append [] [] cs ds h k = k
fewer_append [] (b ∷ bs) cs ds h k = absurd h
fewer_append (a ∷ us) [] cs ds h k = absurd h
fewer_append (a ∷ us) (b ∷ bs) cs ds h k = (h.0, fewer_append us bs cs ds h.1 k)

fewer_bounded : (ms ns : List Bool) → Fewer ms ns → bounded ms ≡ true → bounded ns ≡ true
fewer_bounded [] [] h e = refl
fewer_bounded [] (n ∷ ns) h e = absurd h
fewer_bounded (m ∷ ms) [] h e = absurd h
fewer_bounded (m ∷ ms) (n ∷ ns) h e = h.0 e

fewer_later : (ms ns : List Bool) → Fewer ms ns → Fewer (later ms) (later ns)
fewer_later [] [] h = tt
fewer_later [] (n ∷ ns) h = absurd h
fewer_later (m ∷ ms) [] h = absurd h
fewer_later (m ∷ ms) (n ∷ ns) h = h.1

fill_fewer : (q p : Bool) (n : ℕ) (x y : Node) → (q ≡ true → p ≡ true) → Fills p n x y → Fills q n x y
fill_fewer true true n x y w f = f
fill_fewer true false n x y w f = let e : false ≡ true = w refl in absurd cc
fill_fewer false true n x y w f = (n, f)
fill_fewer false false n x y w f = f

all_fill_fewer : (ms ns : List Bool) (n : ℕ) (xs ys : List Node) → Fewer ms ns → AllFill ns n xs ys → AllFill ms n xs ys
all_fill_fewer ms ns n [] [] w h = tt
all_fill_fewer ms ns n [] (y ∷ ys) w h = absurd h
all_fill_fewer ms ns n (x ∷ xs) [] w h = absurd h
all_fill_fewer ms ns n (x ∷ xs) (y ∷ ys) w h = (fill_fewer (bounded ms) (bounded ns) n x y (fewer_bounded ms ns w) h.0, all_fill_fewer (later ms) (later ns) n xs ys (fewer_later ms ns w) h.1)

bytes_kept : (p : Bool) (n : ℕ) (x y : Node) → Fills p n x y → x.bytes ≤ y.bytes
bytes_kept true n x y f = f.bytes_kept
bytes_kept false n x y f = f.1.bytes_kept

one_content : (q p : Bool) (x y : Node) → (q ≡ true → p ≡ true) → x.bytes ≤ y.bytes → (if q then y.bytes else 0) + (if p then x.bytes else 0) ≤ (if p then y.bytes else 0) + (if q then x.bytes else 0)
one_content true true x y w le = omega arith
one_content true false x y w le = let e : false ≡ true = w refl in absurd cc
one_content false true x y w le = omega (arith, le)
one_content false false x y w le = omega arith

content_fewer : (ms ns : List Bool) (n : ℕ) (xs ys : List Node) → Fewer ms ns → AllFill ns n xs ys → content ms ys + content ns xs ≤ content ns ys + content ms xs
content_fewer ms ns n [] [] w h = omega arith
content_fewer ms ns n [] (y ∷ ys) w h = absurd h
content_fewer ms ns n (x ∷ xs) [] w h = absurd h
content_fewer ms ns n (x ∷ xs) (y ∷ ys) w h =
    let a = one_content (bounded ms) (bounded ns) x y (fewer_bounded ms ns w) (bytes_kept (bounded ns) n x y h.0) in
    let r = content_fewer (later ms) (later ns) n xs ys (fewer_later ms ns w) h.1 in
    omega (arith, a, r)

pub grows_fewer : (ms ns : List Bool) (n : ℕ) (xs ys : List Node) → Fewer ms ns → Grows ns n xs ys → Grows ms n xs ys
grows_fewer ms ns n xs ys w g =
    let c = content_fewer ms ns n xs ys w g.each in
    record { each = all_fill_fewer ms ns n xs ys w g.each; all = omega (arith, c, g.all) }

reach_fewer : (large q p : Bool) (m n : ℕ) (x : Node) → (q ≡ true → p ≡ true) → n ≤ m → Reaches large p m x → Reaches large q n x
reach_fewer large true true m n x w le h = (omega (arith, h.0, le), omega (arith, h.1, le))
reach_fewer large true false m n x w le h = let e : false ≡ true = w refl in absurd cc
reach_fewer large false true m n x w le h = (omega (arith, h.0, le), tt)
reach_fewer large false false m n x w le h = (omega (arith, h.0, le), tt)

pub all_reach_fewer : (large : Bool) (ms ns : List Bool) (m n : ℕ) (xs : List Node) → Fewer ms ns → n ≤ m → AllReach large ns m xs → AllReach large ms n xs
all_reach_fewer large ms ns m n [] w le h = tt
all_reach_fewer large ms ns m n (x ∷ xs) w le h = (reach_fewer large (bounded ms) (bounded ns) m n x (fewer_bounded ms ns w) le h.0, all_reach_fewer large (later ms) (later ns) m n xs (fewer_later ms ns w) le h.1)

pub reach_less : (large : Bool) (ms : List Bool) (m n : ℕ) (xs : List Node) → n ≤ m → AllReach large ms m xs → AllReach large ms n xs
reach_less large ms m n xs le h = all_reach_fewer large ms ms m n xs (fewer_same ms) le h

pub all_reach_after : (large : Bool) (ms ns : List Bool) (m n k : ℕ) (xs ys : List Node) → Fewer ms ns → AllFill ns k xs ys → k + n ≤ m → AllReach large ms m xs → AllReach large ms n ys
all_reach_after large ms ns m n k [] [] w f le h = tt
all_reach_after large ms ns m n k [] (y ∷ ys) w f le h = absurd f
all_reach_after large ms ns m n k (x ∷ xs) [] w f le h = absurd f
all_reach_after large ms ns m n k (x ∷ xs) (y ∷ ys) w f le h = (reach_after large (bounded ns) (bounded ms) m n k x y f.0 (fewer_bounded ms ns w) le h.0, all_reach_after large (later ms) (later ns) m n k xs ys (fewer_later ms ns w) f.1 le h.1)

one_wider : (a b p : Bool) (n : ℕ) (x : Node) → greatest_offset a ≤ greatest_offset b → Reaches a p n x → Reaches b p n x
one_wider a b true n x le h = (omega (arith, h.0, le), omega (arith, h.1, le))
one_wider a b false n x le h = (omega (arith, h.0, le), tt)

-- greater offsets count as much
pub reach_wider : (a b : Bool) (ms : List Bool) (n : ℕ) (xs : List Node) → greatest_offset a ≤ greatest_offset b → AllReach a ms n xs → AllReach b ms n xs
reach_wider a b ms n [] le h = tt
reach_wider a b ms n (x ∷ xs) le h = (one_wider a b (bounded ms) n x le h.0, reach_wider a b (later ms) n xs le h.1)

pub small_below : (b : Bool) → greatest_offset false ≤ greatest_offset b
small_below false = omega arith
small_below true = omega arith

pub large_above : (b : Bool) → greatest_offset b ≤ greatest_offset true
large_above false = omega arith
large_above true = omega arith

pub both_below : (a b : Bool) → (greatest_offset (a && b) ≤ greatest_offset a) × (greatest_offset (a && b) ≤ greatest_offset b)
both_below true b = (large_above b, omega arith)
both_below false b = (omega arith, small_below b)

node_spare_less : (m n : ℕ) (x : Node) → n ≤ m → HasSpare m x → HasSpare n x
node_spare_less m n x le h = record { slots = omega (arith, le, h.slots); bytes = omega (arith, le, h.bytes) }

pub spare_fewer : (ms ns : List Bool) (m n : ℕ) (xs : List Node) → Fewer ms ns → n ≤ m → HaveSpare ms m xs → HaveSpare ns n xs
spare_fewer ms ns m n [] w le h = tt
spare_fewer ms ns m n (x ∷ xs) w le h = (fewer_bounded ms ns w h.0, node_spare_less m n x le h.1, spare_fewer (later ms) (later ns) m n xs (fewer_later ms ns w) le h.2)

pub spare_less : (ms : List Bool) (m n : ℕ) (xs : List Node) → n ≤ m → HaveSpare ms m xs → HaveSpare ms n xs
spare_less ms m n xs le h = spare_fewer ms ms m n xs (fewer_same ms) le h

pub spare_after : (ms : List Bool) (m n k : ℕ) (xs ys : List Node) → AllFill ms k xs ys → k + n ≤ m → HaveSpare ms m xs → HaveSpare ms n ys
spare_after ms m n k [] [] f le h = tt
spare_after ms m n k [] (y ∷ ys) f le h = absurd f
spare_after ms m n k (x ∷ xs) [] f le h = absurd f
spare_after ms m n k (x ∷ xs) (y ∷ ys) f le h = (h.0, spare_after_move (bounded ms) m n k x y f.0 h.0 le h.1, spare_after (later ms) m n k xs ys f.1 le h.2)

-- ---- nodes behind nodes

pub fill_append : (ms ns : List Bool) (n : ℕ) (xs ys zs ws : List Node) → length ms ≡ length xs → AllFill ms n xs ys → AllFill ns n zs ws → AllFill (ms ++ ns) n (xs ++ zs) (ys ++ ws)
fill_append [] ns n [] [] zs ws l h k = k
fill_append ms ns n [] (y ∷ ys) zs ws l h k = absurd h
fill_append ms ns n (x ∷ xs) [] zs ws l h k = absurd h
fill_append (m ∷ ms) ns n [] [] zs ws l h k = absurd (omega (arith, l))
fill_append [] ns n (x ∷ xs) (y ∷ ys) zs ws l h k = absurd (omega (arith, l))
fill_append (m ∷ ms) ns n (x ∷ xs) (y ∷ ys) zs ws l h k = (h.0, fill_append ms ns n xs ys zs ws (omega (arith, l)) h.1 k)

pub content_append : (ms ns : List Bool) (xs zs : List Node) → length ms ≡ length xs → content (ms ++ ns) (xs ++ zs) ≡ content ms xs + content ns zs
content_append [] ns [] zs l = omega arith
content_append (m ∷ ms) ns [] zs l = absurd (omega (arith, l))
content_append [] ns (x ∷ xs) zs l = absurd (omega (arith, l))
content_append (m ∷ ms) ns (x ∷ xs) zs l = let r = content_append ms ns xs zs (omega (arith, l)) in omega (arith, r)

pub reach_append : (large : Bool) (ms ns : List Bool) (n : ℕ) (xs zs : List Node) → length ms ≡ length xs → AllReach large (ms ++ ns) n (xs ++ zs) → AllReach large ms n xs × AllReach large ns n zs
reach_append large [] ns n [] zs l h = (tt, h)
reach_append large (m ∷ ms) ns n [] zs l h = absurd (omega (arith, l))
reach_append large [] ns n (x ∷ xs) zs l h = absurd (omega (arith, l))
reach_append large (m ∷ ms) ns n (x ∷ xs) zs l h = let r = reach_append large ms ns n xs zs (omega (arith, l)) h.1 in ((h.0, r.0), r.1)

pub spare_append : (ms ns : List Bool) (n : ℕ) (xs zs : List Node) → length ms ≡ length xs → HaveSpare (ms ++ ns) n (xs ++ zs) → HaveSpare ms n xs × HaveSpare ns n zs
spare_append [] ns n [] zs l h = (tt, h)
spare_append (m ∷ ms) ns n [] zs l h = absurd (omega (arith, l))
spare_append [] ns n (x ∷ xs) zs l h = absurd (omega (arith, l))
spare_append (m ∷ ms) ns n (x ∷ xs) zs l h = let r = spare_append ms ns n xs zs (omega (arith, l)) h.2 in ((h.0, h.1, r.0), r.1)
