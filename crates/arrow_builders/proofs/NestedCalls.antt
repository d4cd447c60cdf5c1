-- What calls do to a builder with children, by what they do to its first node and to those beneath.
use Rattle.std.proofs.Common.{◌≡◌, ◌∙◌, ℕ, ◌+◌, ◌≤◌, Bool, false, List, [], ◌∷◌, ◌++◌, length, map, All, Option, None, Result, Ok, Err, IfOk, IfErr, OnOk, OnErr, IsOk, refl, sym, ap, subst, arith}
use Rattle.std.specs.List.{AllZip}
use Rattle.std.specs.Result.{IsErrAnd}
use Rattle.std.proofs.lemmas.List.Elements.{All-cons}
use Rattle.arrow_core.specs.declared.error.Error.{Error}
use Rattle.arrow_core.specs.declared.error.Error.TheVariants.{OutOfMemory}
use Rattle.arrow_core.specs.declared.slot.Slot.{Slot}
use Rattle.arrow_core.specs.declared.slot.Slot.TheVariants as slot
use Rattle.arrow_core.specs.declared.types.DataType.{DataType}
use Rattle.arrow_core.specs.declared.physical.PhysicalType.{PhysicalType}
use Rattle.arrow_array.specs.Arrays.{all_dictionaries, dictionaries_of}
use Rattle.arrow_array.specs.FixedLists.{list_size}
use Rattle.arrow_array.specs.Parts.{IsRefusalOf}
use Rattle.arrow_array.specs.declared.array.Array.{Array}
use Rattle.arrow_flat.specs.Builders.{slots_where}
use Rattle.arrow_flat.specs.Nested.{ListMarks, Marks, lists_node, marks_node, lists_from, fixed_list_slot, null_slots}
use Rattle.arrow_flat.specs.Nodes.{Node, KeepsCapacity, Takes, NoLessSpare, Emptied, HasSpare}
use Rattle.arrow_flat.proofs.ListOffsets.{lists-push}
use Rattle.arrow_builders.specs.Calls.{PushesNulls, PushesNull, AllPushNull, Reserves, AllReserve, Clears, Boxes, AllBox}
use Rattle.arrow_builders.specs.Children.{all_nodes, all_nulls, all_slots, builders_dictionaries, AllFit}
use Rattle.arrow_builders.specs.Fits.{ChildrenFit}
use Rattle.arrow_builders.specs.MutableArrays.{builder_slots, builder_dictionaries, nodes, slots_at}
use Rattle.arrow_builders.specs.Shapes.{Shape, lists, fixed_lists, shape, Added, nulls_in, nulls_at, AllAdded, AllTake, AllGetNulls, AllGetBytes, FitsIn, IsFlat}
use Rattle.arrow_builders.specs.declared.structs.DynMutableStructArray.{DynMutableStructArray}
use Rattle.arrow_builders.specs.declared.array.MutableArray.{MutableArray, Struct}
use Rattle.arrow_builders.proofs.Growth.{AllTake-same, Takes-same}
use Rattle.arrow_builders.proofs.NestedSlots.{fixed_null, record_null}
use Rattle.arrow_builders.proofs.NullBytes.{no_bytes}
use Rattle.arrow_builders.proofs.NullsBelow.{none_come}
use Rattle.arrow_builders.proofs.Rows.{slots-record}
use Rattle.arrow_builders.proofs.Sizes.{nulls-fit}
use Rattle.arrow_builders.proofs.Takes.{lists_take, marks_take}

-- what is told of two builders is told of two that equal them
pub told : (P : MutableArray → MutableArray → Type 0) (b d x y : MutableArray) → b ≡ x → d ≡ y → P x y → P b d
told P b d x y e f h = subst (λ (z : MutableArray). P z d) (sym e) (subst (P x) (sym f) h)

pub nested_null : (b c : MutableArray) (r : Result (Unit {0}) Error) → (IsFlat b → ⊥) → PushesNulls 1 b c r → PushesNull b c r
nested_null b c (Ok u) n h = record { nulls = h; refused = tt; refused_capacity = tt; err = tt }
nested_null b c (Err e) n h = record { nulls = h; refused = λ f. absurd (n f); refused_capacity = λ f. absurd (n f); err = λ f. absurd (n f) }

-- an array of a kind as one of any kind
pub boxed_as : {A : Type 0} (array_of : A → Array) (b c : MutableArray) (a : A) → Boxes array_of b c (Ok a) → Boxes (λ (x : Array). x) b c (Ok (array_of a))
boxed_as array_of b c a h = record { same_shape = h.same_shape; same_type = h.same_type; same_slots = h.same_slots; same_dictionaries = h.same_dictionaries; normalized = h.normalized; emptied = h.emptied; fits = h.fits; err = tt }

pub refused_as : {A : Type 0} (array_of : A → Array) (b c : MutableArray) (e : Error) → Boxes array_of b c (Err e) → Boxes (λ (x : Array). x) b c (Err e)
refused_as array_of b c e h = record { same_shape = h.same_shape; same_type = tt; same_slots = tt; same_dictionaries = tt; normalized = λ _. tt; emptied = tt; fits = tt; err = h.err }

pub lists_same : (k : PhysicalType) (t u : DataType) (s z : Shape) → u ≡ t → z ≡ s → lists k u z ≡ lists k t s
lists_same k t u s z e d = ap (λ (v : DataType). lists k v z) e ∙ ap (lists k t) d

pub fixed_lists_same : (t u : DataType) (s z : Shape) → u ≡ t → z ≡ s → fixed_lists u z ≡ fixed_lists t s
fixed_lists_same t u s z e d = ap (λ (v : DataType). fixed_lists v z) e ∙ ap (fixed_lists t) d

-- the first nodes are x and y, beneath which lie ns and ms
module _ (b c : MutableArray) (x y : Node) (ns ms : List Node) (us vs : List (List Slot))
    (nb : nodes b ≡ x ∷ ns) (nc : nodes c ≡ y ∷ ms) (lb : slots_at b ≡ builder_slots b ∷ us) (lc : slots_at c ≡ builder_slots c ∷ vs) (same : shape c ≡ shape b) where
  both_nodes : (P : List Node → List Node → Type 0) → P (x ∷ ns) (y ∷ ms) → P (nodes b) (nodes c)
  both_nodes P h = subst (λ (xs : List Node). P xs (nodes c)) (sym nb) (subst (P (x ∷ ns)) (sym nc) h)

  pub reserved : (n : ℕ) (r : Result (Unit {0}) Error) → builder_slots c ≡ builder_slots b → NoLessSpare x y → HasSpare n y → vs ≡ us → AllZip NoLessSpare ns ms → OnOk r (All (HasSpare n) ms) → IfErr r (λ e. e ≡ OutOfMemory) → Reserves n b c r
  reserved n r s l h e k o m = record {
    same_shape = same;
    same_slots = lc ∙ ap (λ (xs : List Slot). xs ∷ vs) s ∙ ap (λ (zs : List (List Slot)). builder_slots b ∷ zs) e ∙ sym lb;
    capacity = both_nodes (AllZip NoLessSpare) (l, k);
    ok = in_all r o;
    memory = m;
  }
    where
      in_all : (r : Result (Unit {0}) Error) → OnOk r (All (HasSpare n) ms) → OnOk r (All (HasSpare n) (nodes c))
      in_all (Ok u) o = subst (All (HasSpare n)) (sym nc) (All-cons (HasSpare n) y ms h o)
      in_all (Err e) o = tt

  -- an error that is handed on
  pub unreserved : (n : ℕ) (e : Error) (r : Result (Unit {0}) Error) → IsErrAnd r (λ z. z ≡ e) → e ≡ OutOfMemory → builder_slots c ≡ builder_slots b → NoLessSpare x y → vs ≡ us → AllZip NoLessSpare ns ms → Reserves n b c r
  unreserved n e (Ok u) h m s l d k = absurd h
  unreserved n e (Err z) h m s l d k = record {
    same_shape = same;
    same_slots = lc ∙ ap (λ (xs : List Slot). xs ∷ vs) s ∙ ap (λ (zs : List (List Slot)). builder_slots b ∷ zs) d ∙ sym lb;
    capacity = both_nodes (AllZip NoLessSpare) (l, k);
    ok = tt;
    memory = h ∙ m;
  }

  pub cleared : Emptied x y → AllZip Emptied ns ms → Clears b c
  cleared h k = record { same_shape = same; capacity = both_nodes (AllZip Emptied) (h, k) }

  -- more than the first slot's content bytes come beneath alone
  module _ (ps : List Added) (adds : nulls_at 1 b ≡ record { slots = 1; bytes = 0 } ∷ ps) where
    both : (Adds : Added → Node → Node → Type 0) → Adds (record { slots = 1; bytes = 0 }) x y → AllAdded Adds ps ns ms → AllAdded Adds (nulls_at 1 b) (nodes b) (nodes c)
    both Adds h k = subst (λ (qs : List Added). AllAdded Adds qs (nodes b) (nodes c)) (sym adds) (both_nodes (AllAdded Adds (record { slots = 1; bytes = 0 } ∷ ps)) (h, k))

    first_fits : AllZip FitsIn (nulls_at 1 b) (nodes b) → AllZip FitsIn (record { slots = 1; bytes = 0 } ∷ ps) (x ∷ ns)
    first_fits h = subst (λ (qs : List Added). AllZip FitsIn qs (x ∷ ns)) adds (subst (AllZip FitsIn (nulls_at 1 b)) nb h)

    pub nulled : (r : Result (Unit {0}) Error) → y.bytes ≡ x.bytes → OnOk r (builder_slots c ≡ builder_slots b ++ slot.Null ∷ []) → OnOk r (AllGetNulls ps us vs) → OnOk r (AllGetBytes ps ns ms)
        → IfErr r (λ e. e ≡ OutOfMemory) → Takes 1 0 x y → AllTake ps ns ms → (1 ≤ x.spare → AllZip FitsIn ps ns → IsOk r) → PushesNulls 1 b c r
    nulled (Ok u) z s l k m t ts has = record {
      same_shape = same;
      below = subst (λ (qs : List Added). AllGetNulls qs (slots_at b) (slots_at c)) (sym adds)
          (subst (λ (xs : List (List Slot)). AllGetNulls (record { slots = 1; bytes = 0 } ∷ ps) xs (slots_at c)) (sym lb)
          (subst (AllGetNulls (record { slots = 1; bytes = 0 } ∷ ps) (builder_slots b ∷ us)) (sym lc) (s, l)));
      bytes = both (λ a x y. y.bytes ≡ x.bytes + a.bytes) (omega (arith, z)) k;
      memory = tt;
      takes = both (λ a x y. Takes a.slots a.bytes x y) t ts;
      has_capacity = λ f. let q = first_fits f in has q.0.slots q.1;
    }
    nulled (Err e) z s l k m t ts has = record {
      same_shape = same;
      below = tt;
      bytes = tt;
      memory = m;
      takes = both (λ a x y. Takes a.slots a.bytes x y) t ts;
      has_capacity = λ f. let q = first_fits f in has q.0.slots q.1;
    }

    -- an error that is handed on
    pub unnulled : (e : Error) (r : Result (Unit {0}) Error) → IsErrAnd r (λ z. z ≡ e) → e ≡ OutOfMemory → y.bytes ≡ x.bytes → Takes 1 0 x y → AllTake ps ns ms → (1 ≤ x.spare → AllZip FitsIn ps ns → ⊥) → PushesNulls 1 b c r
    unnulled e (Ok u) h m z t ts bad = absurd h
    unnulled e (Err q) h m z t ts bad = nulled (Err q) z tt tt tt (h ∙ m) t ts (λ f g. absurd (bad f g))

-- ---- the slots of the first node, where those of the child stay

pub lists_slots : (ls ms : List (Option ℕ)) (xs ys : List Slot) → ms ≡ ls → ys ≡ xs → lists_from 0 ms ys ≡ lists_from 0 ls xs
lists_slots ls ms xs ys e d = ap (λ ns. lists_from 0 ns ys) e ∙ ap (lists_from 0 ls) d

pub fixed_lists_slots : (ts ss : List Bool) (t u : DataType) (xs ys : List Slot) → ss ≡ ts → u ≡ t → ys ≡ xs → slots_where ss (fixed_list_slot (list_size u) ys) ≡ slots_where ts (fixed_list_slot (list_size t) xs)
fixed_lists_slots ts ss t u xs ys e d f = rw (e, d, f) refl

-- ---- several builders, of which one refused

pub all_unreserved : (n : ℕ) (bs cs : List MutableArray) (e : Error) (r : Result (Unit {0}) Error) → IsErrAnd r (λ z. z ≡ e) → e ≡ OutOfMemory → map shape cs ≡ map shape bs → map builder_slots cs ≡ map builder_slots bs → all_slots cs ≡ all_slots bs → AllZip NoLessSpare (all_nodes bs) (all_nodes cs) → AllReserve n bs cs r
all_unreserved n bs cs e (Ok u) h m s l k z = absurd h
all_unreserved n bs cs e (Err q) h m s l k z = record { shapes = s; slots = l; same_slots = k; capacity = z; ok = tt; memory = h ∙ m }

-- ---- nulls

pub in_ok : {A E : Type 0} (P : Type 0) (r : Result A E) → P → OnOk r P
in_ok P (Ok a) p = p
in_ok P (Err e) p = tt

lists_took : (r : Result (Unit {0}) Error) (old new : ListMarks) → OnOk r (new.lens ≡ old.lens ++ None ∷ []) → OnErr r (new ≡ old) → KeepsCapacity (lists_node old) (lists_node new) → Takes 1 0 (lists_node old) (lists_node new)
lists_took (Ok u) old new s k p = lists_take old new None s p
lists_took (Err e) old new s k p = subst (λ (z : ListMarks). Takes 1 0 (lists_node old) (lists_node z)) (sym k) (Takes-same 1 0 (lists_node old))

pub marks_took : (r : Result (Unit {0}) Error) (old new : Marks) (v : Bool) → OnOk r (new.booleans ≡ old.booleans ++ v ∷ []) → OnErr r (new ≡ old) → KeepsCapacity (marks_node old) (marks_node new) → Takes 1 0 (marks_node old) (marks_node new)
marks_took (Ok u) old new v s k p = marks_take old new v s p
marks_took (Err e) old new v s k p = subst (λ (z : Marks). Takes 1 0 (marks_node old) (marks_node z)) (sym k) (Takes-same 1 0 (marks_node old))

-- a null list, beneath which nothing comes
pub lists_null : (b c : MutableArray) (old new : ListMarks) (child : MutableArray) → nodes b ≡ lists_node old ∷ nodes child → nodes c ≡ lists_node new ∷ nodes child
    → slots_at b ≡ builder_slots b ∷ slots_at child → slots_at c ≡ builder_slots c ∷ slots_at child
    → builder_slots b ≡ lists_from 0 old.lens (builder_slots child) → builder_slots c ≡ lists_from 0 new.lens (builder_slots child)
    → shape c ≡ shape b → nulls_at 1 b ≡ record { slots = 1; bytes = 0 } ∷ nulls_in 0 (shape child)
    → (r : Result (Unit {0}) Error) → OnOk r (new.lens ≡ old.lens ++ None ∷ []) → OnErr r (new ≡ old) → IfErr r (λ e. e ≡ OutOfMemory) → KeepsCapacity (lists_node old) (lists_node new) → (1 ≤ old.spare → IsOk r) → PushesNulls 1 b c r
lists_null b c old new child nb nc lb lc sb sc s a r ok k m p has =
    nulled b c (lists_node old) (lists_node new) (nodes child) (nodes child) (slots_at child) (slots_at child) nb nc lb lc s (nulls_in 0 (shape child)) a r refl
    (first r ok) (in_ok _ r (none_come child)) (in_ok _ r (no_bytes child)) m (lists_took r old new ok k p) (AllTake-same (nulls_in 0 (shape child)) (nodes child) (nulls-fit 0 child)) (λ f g. has f)
  where
    first : (r : Result (Unit {0}) Error) → OnOk r (new.lens ≡ old.lens ++ None ∷ []) → OnOk r (builder_slots c ≡ builder_slots b ++ slot.Null ∷ [])
    first (Ok u) e = sc ∙ ap (λ ls. lists_from 0 ls (builder_slots child)) e ∙ lists-push 0 old.lens None (builder_slots child) ∙ ap (λ xs. xs ++ slot.Null ∷ []) (sym sb)
    first (Err z) e = tt

pub fixed_nulled : (r : Result (Unit {0}) Error) (size now n : ℕ) (xs ys : List Slot) (ts ss : List Bool) → now ≡ size → ys ≡ xs ++ null_slots n → OnOk r (ss ≡ ts ++ false ∷ []) → OnOk r (slots_where ss (fixed_list_slot now ys) ≡ slots_where ts (fixed_list_slot size xs) ++ slot.Null ∷ [])
fixed_nulled (Ok u) size now n xs ys ts ss e d s = fixed_null size now n xs ys ts ss e d s
fixed_nulled (Err z) size now n xs ys ts ss e d s = tt

pub record_nulled : (r : Result (Unit {0}) Error) (b d : DynMutableStructArray) → map builder_slots d.values.items ≡ map (λ x. builder_slots x ++ slot.Null ∷ []) b.values.items → OnOk r (d.marks.booleans ≡ b.marks.booleans ++ false ∷ []) → OnOk r (builder_slots (Struct d) ≡ builder_slots (Struct b) ++ slot.Null ∷ [])
record_nulled (Ok u) b d e s = slots-record d ∙ record_null b.values.items d.values.items b.marks.booleans d.marks.booleans e s ∙ ap (λ xs. xs ++ slot.Null ∷ []) (sym (slots-record b))
record_nulled (Err z) b d e s = tt

-- an error that is handed on
pub nulls_refused : (n : ℕ) (b c : MutableArray) (e : Error) (r : Result (Unit {0}) Error) → IsErrAnd r (λ z. z ≡ e) → e ≡ OutOfMemory → shape c ≡ shape b → AllTake (nulls_at n b) (nodes b) (nodes c) → (AllZip FitsIn (nulls_at n b) (nodes b) → ⊥) → PushesNulls n b c r
nulls_refused n b c e (Ok u) h m s t bad = absurd h
nulls_refused n b c e (Err z) h m s t bad = record { same_shape = s; below = tt; bytes = tt; memory = h ∙ m; takes = t; has_capacity = λ f. absurd (bad f) }

pub all_refuse_null : (bs cs : List MutableArray) (e : Error) (r : Result (Unit {0}) Error) → IsErrAnd r (λ z. z ≡ e) → e ≡ OutOfMemory → map shape cs ≡ map shape bs → AllTake (all_nulls 1 bs) (all_nodes bs) (all_nodes cs) → (AllZip FitsIn (all_nulls 1 bs) (all_nodes bs) → ⊥) → AllPushNull bs cs r
all_refuse_null bs cs e (Ok u) h m s t bad = absurd h
all_refuse_null bs cs e (Err z) h m s t bad = record { shapes = s; slots = tt; below = tt; bytes = tt; memory = h ∙ m; takes = t; has_capacity = λ f. absurd (bad f) }

-- ---- arrays

-- an error that is handed on
pub unboxed : {A : Type 0} (array_of : A → Array) (b c : MutableArray) (e : Error) (r : Result A Error) → IsErrAnd r (λ z. z ≡ e) → shape c ≡ shape b → IsRefusalOf (ChildrenFit b) e → Boxes array_of b c r
unboxed array_of b c e (Ok a) h s q = absurd h
unboxed array_of b c e (Err z) h s q = record { same_shape = s; same_type = tt; same_slots = tt; same_dictionaries = tt; normalized = λ _. tt; emptied = tt; fits = tt; err = subst (IsRefusalOf (ChildrenFit b)) (sym h) q }

pub all_unboxed : {V : Type 0} (arrays_of : V → List Array) (bs cs : List MutableArray) (e : Error) (r : Result V Error) → IsErrAnd r (λ z. z ≡ e) → map shape cs ≡ map shape bs → IsRefusalOf (AllFit bs) e → AllBox arrays_of bs cs r
all_unboxed arrays_of bs cs e (Ok v) h s q = absurd h
all_unboxed arrays_of bs cs e (Err z) h s q = record { shapes = s; types = tt; slots = tt; dictionaries = tt; emptied = tt; fits = tt; err = subst (IsRefusalOf (AllFit bs)) (sym h) q }

-- what is known of an array, told of what equals it
pub shown : {A X : Type 0} (f : A → X) (r : Result A Error) (t u : X) → IfOk r (λ a. f a ≡ t) → t ≡ u → IfOk r (λ a. f a ≡ u)
shown f (Ok a) t u h e = h ∙ e
shown f (Err z) t u h e = tt

-- an array of a kind without offsets
pub no_offsets : {A : Type 0} (r : Result A Error) → IfOk r (λ a. Unit {0})
no_offsets (Ok a) = tt
no_offsets (Err z) = tt

-- the dictionaries of arrays, by those of each
pub values_are : (xs : List Array) (bs : List MutableArray) → map dictionaries_of xs ≡ map builder_dictionaries bs → all_dictionaries xs ≡ builders_dictionaries bs
values_are [] [] e = refl
values_are [] (b ∷ bs) e = absurd (omega (arith, ap length e))
values_are (x ∷ xs) [] e = absurd (omega (arith, ap length e))
values_are (x ∷ xs) (b ∷ bs) e =
    ap (λ d. d ++ all_dictionaries xs) (heads (dictionaries_of x) (builder_dictionaries b) (map dictionaries_of xs) (map builder_dictionaries bs) e)
    ∙ ap (λ ds. builder_dictionaries b ++ ds) (values_are xs bs (tails (dictionaries_of x) (builder_dictionaries b) (map dictionaries_of xs) (map builder_dictionaries bs) e))
  where
    heads : {X : Type 0} (x y : X) (xs ys : List X) → x ∷ xs ≡ y ∷ ys → x ≡ y
    heads x y xs ys e = cc

    tails : {X : Type 0} (x y : X) (xs ys : List X) → x ∷ xs ≡ y ∷ ys → xs ≡ ys
    tails x y xs ys e = cc
