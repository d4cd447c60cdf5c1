-- What builders hold after a block, and that their capacity lasts.
use Rattle.std.proofs.Common.{◌≡◌, ℕ, suc, ◌≤◌, Bool, true, false, List, [], ◌∷◌, length, get_or, map, All, refl, sym, subst, arith}
use Rattle.std.specs.Prelude.{IsTrue, if◌then◌else◌}
use Rattle.std.specs.List.{AllZip}
use Rattle.std.proofs.lemmas.List.Elements.{All-cons}
use Rattle.arrow_builders.specs.declared.array.MutableArray.{MutableArray}
use Rattle.arrow_builders.specs.MutableArrays.{builder_type, builder_slots, nodes}
use Rattle.arrow_builders.specs.Nodes.{Node, HasSpare, KeepsCapacity, IsEmpty, Emptied}
use Rattle.arrow_builders.specs.Fits.{TypesFit}
use Rattle.arrow_builders.specs.Shapes.{shape}
use Rattle.arrow_builders.proofs.Heads.{no_slots, same_type}
use Rattle.avro_schema.specs.declared.schema.AvroField.{AvroField}
use Rattle.arrow_core.specs.Numbers.{greatest_offset}
use Rattle.avro_reference.specs.Costs.{passed}
use Rattle.avro_decode.specs.Capacity.{AtNodes, BetweenNodes, ReservedCapacityStays}
use Rattle.avro_decode.specs.Growth.{Fills, AllFill, all_large, Reaches, AllReach, HaveSpare, BothFill, ChildrenGrow, ChildrenReach, ChildrenHaveSpare}
use Rattle.avro_decode.specs.Masks.{mask, bounded, later, content, total, BytesBoundContent}
use Rattle.avro_decode.proofs.Columns.{AreEmpty}

-- ---- empty nodes

rest_of : {A : Type 0} (P : A → Type 0) (x : A) (xs : List A) → All P (x ∷ xs) → P x × All P xs
rest_of P x xs h = (h 0 x (omega arith), λ k d lt. h (suc k) d (omega (arith, lt)))

one_reach : (large p : Bool) (n : ℕ) (x : Node) → n ≤ greatest_offset large → IsEmpty x → Reaches large p n x
one_reach large true n x le e = (omega (arith, le, e.slots), omega (arith, le, e.bytes))
one_reach large false n x le e = (omega (arith, le, e.slots), tt)

nodes_reach : (large : Bool) (ms : List Bool) (n : ℕ) (xs : List Node) → n ≤ greatest_offset large → All IsEmpty xs → AllReach large ms n xs
nodes_reach large ms n [] le h = tt
nodes_reach large ms n (x ∷ xs) le h =
    let r = rest_of IsEmpty x xs h in
    (one_reach large (bounded ms) n x le r.0, nodes_reach large (later ms) n xs le r.1)

-- offsets of each builder can count n
abbrev pub CanCount : ℕ → List MutableArray → Type 0
CanCount n [] = Unit {0}
CanCount n (b ∷ bs) = (n ≤ greatest_offset (all_large (shape b))) × CanCount n bs

pub empty_reach : (n : ℕ) (fs : List AvroField) (bs : List MutableArray) → CanCount n bs → AtNodes IsEmpty bs → ChildrenReach n fs bs
empty_reach n [] bs le h = tt
empty_reach n (f ∷ fs) [] le h = tt
empty_reach n (f ∷ fs) (b ∷ bs) le h =
    let r = rest_of (λ (c : MutableArray). All IsEmpty (nodes c)) b bs h in
    (nodes_reach (all_large (shape b)) (mask true f.schema) n (nodes b) le.0 r.0, empty_reach n fs bs le.1 r.1)

pub slots_empty : (bs : List MutableArray) → AtNodes IsEmpty bs → AreEmpty (map builder_slots bs)
slots_empty [] h = tt
slots_empty (b ∷ bs) h =
    let r = rest_of (λ (c : MutableArray). All IsEmpty (nodes c)) b bs h in
    (no_slots b r.0, slots_empty bs r.1)

no_content : (ms : List Bool) (xs : List Node) → All IsEmpty xs → content ms xs ≡ 0
no_content ms [] h = refl
no_content ms (x ∷ xs) h =
    let r = rest_of IsEmpty x xs h in
    let one = from (bounded ms) r.0.bytes in
    let more = no_content (later ms) xs r.1 in
    omega (arith, one, more)
  where
    from : (p : Bool) → x.bytes ≡ 0 → (if p then x.bytes else 0) ≡ 0
    from true e = e
    from false e = refl

no_total : (fs : List AvroField) (bs : List MutableArray) → AtNodes IsEmpty bs → total fs bs ≡ 0
no_total [] bs h = refl
no_total (f ∷ fs) [] h = refl
no_total (f ∷ fs) (b ∷ bs) h =
    let r = rest_of (λ (c : MutableArray). All IsEmpty (nodes c)) b bs h in
    let one = no_content (mask false f.schema) (nodes b) r.0 in
    let more = no_total fs bs r.1 in
    omega (arith, one, more)

-- ---- where nothing was read

pub few_slots_left : (bytes : List ℕ) (bs : List MutableArray) → AtNodes IsEmpty bs → AtNodes (λ x. x.slots ≤ length bytes) bs
few_slots_left bytes bs h = λ i b lt. λ j x less. omega (arith, (h i b lt j x less).slots)

pub few_content_left : (bytes : List ℕ) (fs : List AvroField) (bs : List MutableArray) → AtNodes IsEmpty bs → total fs bs ≤ length bytes
few_content_left bytes fs bs h = let z = no_total fs bs h in omega (arith, z)

same_capacity : (xs : List Node) → AllZip KeepsCapacity xs xs
same_capacity [] = tt
same_capacity (x ∷ xs) = (record { slots = omega arith; bytes = omega arith }, same_capacity xs)

pub capacity_left : (bs : List MutableArray) → BetweenNodes KeepsCapacity bs bs
capacity_left [] = tt
capacity_left (b ∷ bs) = (same_capacity (nodes b), capacity_left bs)

-- ---- where something was

one_few : (p : Bool) (n : ℕ) (x y : Node) → Fills p n x y → IsEmpty x → y.slots ≤ n
one_few true n x y t e = omega (arith, t.slots_added, e.slots)
one_few false n x y t e = omega (arith, t.1.slots_added, e.slots)

nodes_few : (ms : List Bool) (m n : ℕ) (xs ys : List Node) → m ≤ n → AllFill ms m xs ys → All IsEmpty xs → All (λ y. y.slots ≤ n) ys
nodes_few ms m n [] [] le f h = λ k d lt. absurd (omega (arith, lt))
nodes_few ms m n [] (y ∷ ys) le f h = absurd f
nodes_few ms m n (x ∷ xs) [] le f h = absurd f
nodes_few ms m n (x ∷ xs) (y ∷ ys) le f h =
    let r = rest_of IsEmpty x xs h in
    let o = one_few (bounded ms) m x y f.0 r.0 in
    All-cons (λ (z : Node). z.slots ≤ n) y ys (omega (arith, o, le)) (nodes_few (later ms) m n xs ys le f.1 r.1)

few_slots : (m n : ℕ) (fs : List AvroField) (bs cs : List MutableArray) → m ≤ n → BothFill m fs bs cs → AtNodes IsEmpty bs → AtNodes (λ x. x.slots ≤ n) cs
few_slots m n [] [] [] le g h = λ k d lt. absurd (omega (arith, lt))
few_slots m n [] [] (c ∷ cs) le g h = absurd g
few_slots m n [] (b ∷ bs) cs le g h = absurd g
few_slots m n (f ∷ fs) [] cs le g h = absurd g
few_slots m n (f ∷ fs) (b ∷ bs) [] le g h = absurd g
few_slots m n (f ∷ fs) (b ∷ bs) (c ∷ cs) le g h =
    let r = rest_of (λ (d : MutableArray). All IsEmpty (nodes d)) b bs h in
    All-cons (λ (d : MutableArray). All (λ x. x.slots ≤ n) (nodes d)) c cs (nodes_few (mask false f.schema) m n (nodes b) (nodes c) le g.0 r.0) (few_slots m n fs bs cs le g.1 r.1)

pub few_slots_passed : (start rest : List ℕ) (fs : List AvroField) (bs cs : List MutableArray) → ChildrenGrow (passed start rest) fs bs cs → AtNodes IsEmpty bs → AtNodes (λ x. x.slots ≤ length start) cs
few_slots_passed start rest fs bs cs g h = few_slots (passed start rest) (length start) fs bs cs (omega arith) g.each h

pub few_content_passed : (start rest : List ℕ) (fs : List AvroField) (bs cs : List MutableArray) → ChildrenGrow (passed start rest) fs bs cs → AtNodes IsEmpty bs → total fs cs ≤ length start
few_content_passed start rest fs bs cs g h = let z = no_total fs bs h in omega (arith, g.all, z)

one_kept : (p : Bool) (n : ℕ) (x y : Node) → Fills p n x y → KeepsCapacity x y
one_kept true n x y t = record { slots = t.slot_capacity; bytes = t.byte_capacity }
one_kept false n x y t = record { slots = t.1.slot_capacity; bytes = t.1.byte_capacity }

nodes_kept : (ms : List Bool) (n : ℕ) (xs ys : List Node) → AllFill ms n xs ys → AllZip KeepsCapacity xs ys
nodes_kept ms n [] [] f = tt
nodes_kept ms n [] (y ∷ ys) f = absurd f
nodes_kept ms n (x ∷ xs) [] f = absurd f
nodes_kept ms n (x ∷ xs) (y ∷ ys) f = (one_kept (bounded ms) n x y f.0, nodes_kept (later ms) n xs ys f.1)

both_kept : (n : ℕ) (fs : List AvroField) (bs cs : List MutableArray) → BothFill n fs bs cs → BetweenNodes KeepsCapacity bs cs
both_kept n [] [] [] g = tt
both_kept n [] [] (c ∷ cs) g = absurd g
both_kept n [] (b ∷ bs) cs g = absurd g
both_kept n (f ∷ fs) [] cs g = absurd g
both_kept n (f ∷ fs) (b ∷ bs) [] g = absurd g
both_kept n (f ∷ fs) (b ∷ bs) (c ∷ cs) g = (nodes_kept (mask false f.schema) n (nodes b) (nodes c) g.0, both_kept n fs bs cs g.1)

pub capacity_kept : (n : ℕ) (fs : List AvroField) (bs cs : List MutableArray) → ChildrenGrow n fs bs cs → BetweenNodes KeepsCapacity bs cs
capacity_kept n fs bs cs g = both_kept n fs bs cs g.each

-- ---- spare capacity

nodes_spare : (ms : List Bool) (n : ℕ) (xs : List Node) → All IsTrue ms → All (HasSpare n) xs → HaveSpare ms n xs
nodes_spare ms n [] t h = tt
nodes_spare [] n (x ∷ xs) t h =
    let r = rest_of (HasSpare n) x xs h in
    (refl, r.0, nodes_spare [] n xs t r.1)
nodes_spare (m ∷ ms) n (x ∷ xs) t h =
    let r = rest_of (HasSpare n) x xs h in
    let q = rest_of IsTrue m ms t in
    (q.0, r.0, nodes_spare ms n xs q.1 r.1)

pub all_spare : (n : ℕ) (fs : List AvroField) (bs : List MutableArray) → AtNodes (HasSpare n) bs → BytesBoundContent fs → ChildrenHaveSpare n fs bs
all_spare n [] bs h p = tt
all_spare n (f ∷ fs) [] h p = tt
all_spare n (f ∷ fs) (b ∷ bs) h p =
    let r = rest_of (λ (c : MutableArray). All (HasSpare n) (nodes c)) b bs h in
    let q = rest_of (λ (g : AvroField). All IsTrue (mask false g.schema)) f fs p in
    (nodes_spare (mask false f.schema) n (nodes b) q.0 r.0, all_spare n fs bs r.1 q.1)

-- ---- data types, by shapes

heads_and_tails : {A : Type 0} (x y : A) (xs ys : List A) → x ∷ xs ≡ y ∷ ys → (x ≡ y) × (xs ≡ ys)
heads_and_tails x y xs ys e = (cc, cc)

pub types_stay : (bs cs : List MutableArray) → map shape cs ≡ map shape bs → map builder_type cs ≡ map builder_type bs
types_stay [] [] e = refl
types_stay [] (c ∷ cs) e = absurd cc
types_stay (b ∷ bs) [] e = absurd cc
types_stay (b ∷ bs) (c ∷ cs) e =
    let p = heads_and_tails (shape c) (shape b) (map shape cs) (map shape bs) e in
    rw (same_type b c p.0, types_stay bs cs p.1) refl

pub fits_stay : (bs cs : List MutableArray) → map shape cs ≡ map shape bs → All (λ b. TypesFit (shape b)) bs → All (λ b. TypesFit (shape b)) cs
fits_stay [] [] e h = h
fits_stay [] (c ∷ cs) e h = absurd cc
fits_stay (b ∷ bs) [] e h = absurd cc
fits_stay (b ∷ bs) (c ∷ cs) e h =
    let p = heads_and_tails (shape c) (shape b) (map shape cs) (map shape bs) e in
    let r = rest_of (λ (d : MutableArray). TypesFit (shape d)) b bs h in
    All-cons (λ (d : MutableArray). TypesFit (shape d)) c cs (subst TypesFit (sym p.0) r.0) (fits_stay bs cs p.1 r.1)

-- ---- lists of nodes

all_of : {A : Type 0} (P Q : A → Type 0) (xs : List A) → ((x : A) → P x → Q x) → All P xs → All Q xs
all_of P Q xs f h = λ k d lt. f (get_or xs k d) (h k d lt)

all_after : {A : Type 0} (P Q : A → Type 0) (R : A → A → Type 0) (xs ys : List A) → ((x y : A) → R x y → P x → Q y) → AllZip R xs ys → All P xs → All Q ys
all_after P Q R [] [] f r h = λ k d lt. absurd (omega (arith, lt))
all_after P Q R [] (y ∷ ys) f r h = absurd r
all_after P Q R (x ∷ xs) [] f r h = absurd r
all_after P Q R (x ∷ xs) (y ∷ ys) f r h =
    All-cons Q y ys (f x y r.0 (h 0 x (omega arith))) (all_after P Q R xs ys f r.1 (λ k d lt. h (suc k) d (omega (arith, lt))))

zip_of : {A : Type 0} (R S : A → A → Type 0) (xs ys : List A) → ((x y : A) → R x y → S x y) → AllZip R xs ys → AllZip S xs ys
zip_of R S [] [] f r = tt
zip_of R S [] (y ∷ ys) f r = absurd r
zip_of R S (x ∷ xs) [] f r = absurd r
zip_of R S (x ∷ xs) (y ∷ ys) f r = (f x y r.0, zip_of R S xs ys f r.1)

zip_more : {A : Type 0} (R S T : A → A → Type 0) (xs ys zs : List A) → ((x y z : A) → R x y → S y z → T x z) → AllZip R xs ys → AllZip S ys zs → AllZip T xs zs
zip_more R S T [] [] [] f r s = tt
zip_more R S T [] [] (z ∷ zs) f r s = absurd s
zip_more R S T [] (y ∷ ys) zs f r s = absurd r
zip_more R S T (x ∷ xs) [] zs f r s = absurd r
zip_more R S T (x ∷ xs) (y ∷ ys) [] f r s = absurd s
zip_more R S T (x ∷ xs) (y ∷ ys) (z ∷ zs) f r s = (f x y z r.0 s.0, zip_more R S T xs ys zs f r.1 s.1)

-- ---- builders that are filled and cleared, again and again

capacity_again : (n : ℕ) (x y z : Node) → KeepsCapacity x y → Emptied y z → HasSpare n x → IsEmpty z × HasSpare n z
capacity_again n x y z k e h = (
  record { slots = e.slots; bytes = e.bytes },
  record { slots = omega (arith, h.slots, k.slots, e.slot_capacity); bytes = omega (arith, h.bytes, k.bytes, e.byte_capacity) },
)

zip_both : {A : Type 0} (P Q : A → Type 0) (R S : A → A → Type 0) (xs ys zs : List A) → ((x y z : A) → R x y → S y z → P x → Q z) → AllZip R xs ys → AllZip S ys zs → All P xs → All Q zs
zip_both P Q R S xs ys zs f r s h =
    all_after P Q (λ x z. P x → Q z) xs zs (λ x z g p. g p) (zip_more R S (λ x z. P x → Q z) xs ys zs (λ x y z u v. f x y z u v) r s) h

pub reserved_again : ReservedCapacityStays
reserved_again n reserved filled cleared h k e =
    let both : All (λ b. All (λ x. IsEmpty x × HasSpare n x) (nodes b)) cleared =
    zip_both (λ b. All (HasSpare n) (nodes b)) (λ b. All (λ x. IsEmpty x × HasSpare n x) (nodes b)) (λ b c. AllZip KeepsCapacity (nodes b) (nodes c)) (λ b c. AllZip Emptied (nodes b) (nodes c)) reserved filled cleared
    (λ a b c u v p. zip_both (HasSpare n) (λ x. IsEmpty x × HasSpare n x) KeepsCapacity Emptied (nodes a) (nodes b) (nodes c) (capacity_again n) u v p) k e h in
    (λ i d lt. λ j a less. (both i d lt j a less).0, λ i d lt. λ j a less. (both i d lt j a less).1)
