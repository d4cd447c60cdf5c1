-- From one call to the next, while bytes are passed.
use Rattle.std.proofs.Common.{◌≡◌, ℕ, ◌+◌, ◌<◌, ◌≤◌, Bool, true, false, List, [], ◌∷◌, ◌++◌, length, drop, Option, Some, Result, Ok, Err, sym, ap, subst, arith}
use Rattle.std.specs.Prelude.{OnOk, IfErr}
use Rattle.arrow_core.specs.declared.slot.Slot.{Slot}
use Rattle.arrow_core.specs.declared.slot.Slot.TheVariants as slot
use Rattle.arrow_builders.specs.Nodes.{Node, Takes, HasSpare}
use Rattle.arrow_builders.specs.Nested.{items_of, lists_from}
use Rattle.arrow_builders.specs.Shapes.{Shape, shape}
use Rattle.arrow_builders.specs.MutableArrays.{builder_slots, nodes}
use Rattle.arrow_builders.specs.declared.array.MutableArray.{MutableArray, List as ListOf, LargeList as LargeListOf}
use Rattle.arrow_builders.proofs.Heads.{first_node}
use Rattle.arrow_builders.specs.declared.list.DynMutableListArray.{DynMutableListArray}
use Rattle.arrow_builders.specs.declared.large_list.DynMutableLargeListArray.{DynMutableLargeListArray}
use Rattle.avro_schema.specs.Number.{MovesForward}
use Rattle.avro_schema.specs.declared.schema.Schema.{Schema, Array}
use Rattle.avro_reference.specs.Prefix.{Reader}
use Rattle.avro_reference.specs.Read.{push_one, read}
use Rattle.arrow_core.specs.Numbers.{greatest_offset}
use Rattle.avro_reference.proofs.ByLists.{read_array}
use Rattle.avro_reference.specs.Costs.{passed, CostsNumber, CostsKept}
use Rattle.avro_flat.specs.Decoding.{Fails, Gives}
use Rattle.avro_decode.specs.Decoding.{all_blocks}
use Rattle.avro_flat.specs.declared.fault.DecodeFault.{DecodeFault}
use Rattle.avro_flat.specs.declared.fault.DecodeFault.TheVariants.{Memory}
use Rattle.avro_decode.specs.Masks.{mask, bounded}
use Rattle.avro_decode.specs.Growth.{Grows, all_large, Reaches, AllReach, AllOffsetsReach, HaveSpare}
use Rattle.avro_decode.specs.Suits.{Suits}
use Rattle.avro_reference.proofs.Counting.{not_longer, kept_then, number_costs}
use Rattle.avro_decode.proofs.Nodes.{grows_more, grows_wider, all_reach_after, reach_less, reach_wider, small_below, large_above, all_reach_fewer, spare_after}
use Rattle.avro_flat.proofs.Pushes.{fills}
use Rattle.avro_decode.proofs.Reading.{array-reads, array-err, blocks-all}
use Rattle.avro_decode.proofs.Lists.{list_more}
use Rattle.avro_decode.proofs.Suited.{suits_array, suits_large_array, mask_array, mask_fewer}
use Rattle.std.proofs.lemmas.List.{length-append}

-- ---- growth over two calls

pub grows_then : (ms : List Bool) (x y z : List ℕ) (xs ys zs : List Node) → MovesForward x y → MovesForward y z → Grows ms (passed x y) xs ys → Grows ms (passed y z) ys zs → Grows ms (passed x z) xs zs
grows_then ms x y z xs ys zs f g h k =
    let a = not_longer x y f in
    let b = not_longer y z g in
    grows_more ms (passed x y) (passed y z) (passed x z) xs ys zs h k (omega (arith, a, b))

-- behind a number, with a slot more than bytes
pub grows_behind : (ms : List Bool) (x y z : List ℕ) (xs ys : List Node) → length y < length x → MovesForward y z → Grows ms (passed y z + 1) xs ys → Grows ms (passed x z) xs ys
grows_behind ms x y z xs ys lt g h =
    let b = not_longer y z g in
    grows_wider ms (passed y z + 1) (passed x z) xs ys h (omega (arith, lt, b))

pub reach_on : (large : Bool) (s : Schema) (x y : List ℕ) (xs ys : List Node) → MovesForward x y → Grows (mask false s) (passed x y) xs ys → AllReach large (mask true s) (length x) xs → AllReach large (mask true s) (length y) ys
reach_on large s x y xs ys f g h =
    let a = not_longer x y f in
    all_reach_after large (mask true s) (mask false s) (length x) (length y) (passed x y) xs ys (mask_fewer s) g.each (omega (arith, a)) h

-- the same of builders of one shape
pub offsets_on : (s : Schema) (x y : List ℕ) (b c : MutableArray) → shape c ≡ shape b → MovesForward x y → Grows (mask false s) (passed x y) (nodes b) (nodes c) → AllOffsetsReach (mask true s) (length x) b → AllOffsetsReach (mask true s) (length y) c
offsets_on s x y b c e f g h =
    subst (λ (z : Shape). AllReach (all_large z) (mask true s) (length y) (nodes c)) (sym e) (reach_on (all_large (shape b)) s x y (nodes b) (nodes c) f g h)

pub offsets_then : (s : Schema) (x y z : List ℕ) (b c : MutableArray) → shape c ≡ shape b → MovesForward x y → MovesForward y z → Grows (mask false s) (passed x y) (nodes b) (nodes c) → AllOffsetsReach (mask true s) (length x) b → AllOffsetsReach (mask true s) (length z) c
offsets_then s x y z b c e f k g h =
    let l = not_longer y z k in
    reach_less (all_large (shape c)) (mask true s) (length y) (length z) (nodes c) l (offsets_on s x y b c e f g h)

pub offsets_less : (ms : List Bool) (m n : ℕ) (b : MutableArray) → n ≤ m → AllOffsetsReach ms m b → AllOffsetsReach ms n b
offsets_less ms m n b le h = reach_less (all_large (shape b)) ms m n (nodes b) le h

-- a number, and what follows it, where this is a value
pub costs_behind : {X Y E : Type 0} (rest : X → List ℕ) (shown calls : X → ℕ) (r : Result Y E) (x y z : X) → MovesForward (rest x) (rest y) → MovesForward (rest y) (rest z) → CostsNumber rest shown calls x y → OnOk r (CostsKept rest shown calls y z) → OnOk r (CostsKept rest shown calls x z)
costs_behind rest shown calls (Ok u) x y z f g n c = kept_then rest shown calls x y z f g (number_costs rest shown calls x y n) c
costs_behind rest shown calls (Err e) x y z f g n c = tt

pub spare_on : (ms : List Bool) (x y z : List ℕ) (xs ys : List Node) → MovesForward x y → MovesForward y z → Grows ms (passed x y) xs ys → HaveSpare ms (length x) xs → HaveSpare ms (length z) ys
spare_on ms x y z xs ys f k g h =
    let a = not_longer x y f in
    let b = not_longer y z k in
    spare_after ms (length x) (length z) (passed x y) xs ys g.each (omega (arith, a, b)) h

-- ---- the first node has as many slots as the builder

top : (large : Bool) (ms : List Bool) (x : Node) (xs : List Node) (n : ℕ) → x.slots ≡ n → AllReach large ms 0 (x ∷ xs) → n ≤ greatest_offset large
top large ms x xs n e h = from (bounded ms) h.0
  where
    from : (p : Bool) → Reaches large p 0 x → n ≤ greatest_offset large
    from true r = omega (arith, r.0, e)
    from false r = omega (arith, r.0, e)

few_slots : (large : Bool) (ms : List Bool) (b : MutableArray) → AllReach large ms 0 (nodes b) → length (builder_slots b) ≤ greatest_offset large
few_slots large ms b h = let f = first_node b in top large ms f.0 f.1 (length (builder_slots b)) f.3 (subst (AllReach large ms 0) f.2 h)

-- ---- a builder of lists and its child

pub list_suits : (item : Schema) (b : DynMutableListArray) → Suits (Array item) (shape (ListOf b)) → Suits item (shape b.values.value)
list_suits item b h = subst (λ (P : Type 0). P) (suits_array item b) h

pub large_list_suits : (item : Schema) (b : DynMutableLargeListArray) → Suits (Array item) (shape (LargeListOf b)) → Suits item (shape b.values.value)
large_list_suits item b h = subst (λ (P : Type 0). P) (suits_large_array item b) h

pub list_reach : (large : Bool) (item : Schema) (n : ℕ) (x : Node) (xs : List Node) → AllReach large (mask true (Array item)) n (x ∷ xs) → AllReach large (mask true item) n xs
list_reach large item n x xs h =
    let r : AllReach large (true ∷ mask false item) n (x ∷ xs) = subst (λ (ms : List Bool). AllReach large ms n (x ∷ xs)) (mask_array true item) h in
    all_reach_fewer large (mask true item) (mask false item) n n xs (mask_fewer item) (omega arith) r.1

-- the child's own offsets may have 64 bits
pub item_reach : (item : Schema) (n : ℕ) (x : Node) (b : MutableArray) → AllReach false (mask true (Array item)) n (x ∷ nodes b) → AllOffsetsReach (mask true item) n b
item_reach item n x b h = reach_wider false (all_large (shape b)) (mask true item) n (nodes b) (small_below (all_large (shape b))) (list_reach false item n x (nodes b) h)

pub large_item_reach : (item : Schema) (n : ℕ) (x : Node) (b : MutableArray) → AllReach (all_large (shape b)) (mask true (Array item)) n (x ∷ nodes b) → AllOffsetsReach (mask true item) n b
large_item_reach item n x b h = list_reach (all_large (shape b)) item n x (nodes b) h

-- what the child took can be counted
pub items_counted : (large : Bool) (item : Schema) (x y : List ℕ) (b c : MutableArray) (top : Node) → MovesForward x y → Grows (mask false item) (passed x y) (nodes b) (nodes c) → AllReach large (mask true (Array item)) (length x) (top ∷ nodes b) → length (builder_slots c) ≤ greatest_offset large
items_counted large item x y b c top f g h =
    few_slots large (mask true item) c (reach_less large (mask true item) (length y) 0 (nodes c) (omega arith) (reach_on large item x y (nodes b) (nodes c) f g (list_reach large item (length x) top (nodes b) h)))

pub large_items_counted : (item : Schema) (x y : List ℕ) (b c : MutableArray) (top : Node) → MovesForward x y → Grows (mask false item) (passed x y) (nodes b) (nodes c) → AllReach (all_large (shape b)) (mask true (Array item)) (length x) (top ∷ nodes b) → length (builder_slots c) ≤ greatest_offset true
large_items_counted item x y b c top f g h =
    let k = items_counted (all_large (shape b)) item x y b c top f g h in
    let l = large_above (all_large (shape b)) in
    omega (arith, k, l)

pub list_spare : (item : Schema) (n : ℕ) (x : Node) (xs : List Node) → HaveSpare (mask false (Array item)) n (x ∷ xs) → HasSpare n x × HaveSpare (mask false item) n xs
list_spare item n x xs h =
    let r : HaveSpare (true ∷ mask false item) n (x ∷ xs) = subst (λ (ms : List Bool). HaveSpare ms n (x ∷ xs)) (mask_array false item) h in
    (r.1, r.2)

over : (ms : List Bool) (m n : ℕ) (x y : Node) (xs ys : List Node) → Takes m 0 x y → m ≤ n → Grows ms n xs ys → Grows (true ∷ ms) n (x ∷ xs) (y ∷ ys)
over ms m n x y xs ys t le g = record { each = (fills m 0 n x y t le (omega arith), g.each); all = omega (arith, g.all, t.bytes_added) }

pub list_grows : (item : Schema) (m n : ℕ) (x y : Node) (xs ys : List Node) → Takes m 0 x y → m ≤ n → Grows (mask false item) n xs ys → Grows (mask false (Array item)) n (x ∷ xs) (y ∷ ys)
list_grows item m n x y xs ys t le g = subst (λ (ms : List Bool). Grows ms n (x ∷ xs) (y ∷ ys)) (sym (mask_array false item)) (over (mask false item) m n x y xs ys t le g)

pub array_fails : (d : DecodeFault) (item : Schema) (cs old : List Slot) (bytes : List ℕ) → Fails d (all_blocks (read item) cs bytes) → Fails d (push_one old (read (Array item) bytes))
array_fails d item cs old bytes h = subst (λ (f : Reader Slot). Fails d (push_one old (f bytes))) (sym (read_array item)) (array-err d (read item) cs old bytes h)

pub list_order : (f : Reader Slot) (cs all : List Slot) (lens : List (Option ℕ)) (bytes r : List ℕ) → length cs ≡ items_of lens → all_blocks f cs bytes ≡ Some (all, r) → items_of lens ≤ length all
list_order f cs all lens bytes r l e = let b = blocks-all f cs all bytes r e in omega (arith, l, ap length b.1, length-append cs b.0)

pub list_gives : {X : Type 0} (r : Result X DecodeFault) (item : Schema) (cs all old mid new : List Slot) (lens : List (Option ℕ)) (bytes rest : List ℕ) → length cs ≡ items_of lens → all_blocks (read item) cs bytes ≡ Some (all, rest) → old ≡ lists_from 0 lens cs → mid ≡ lists_from 0 lens all → OnOk r (new ≡ mid ++ slot.List (drop (items_of lens) all) ∷ []) → IfErr r (λ e. e ≡ Memory) → Gives (λ (_ : X). (new, rest)) r (push_one old (read (Array item) bytes))
list_gives (Ok x) item cs all old mid new lens bytes rest l e o m n err =
    subst (λ (f : Reader Slot). push_one old (f bytes) ≡ Some (new, rest)) (sym (read_array item))
    (array-reads (read item) cs all old new bytes rest e (λ xs q. list_more old new mid cs xs all lens l q o m n))
list_gives (Err d) item cs all old mid new lens bytes rest l e o m n err = rw err tt
