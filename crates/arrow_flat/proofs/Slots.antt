-- Slots that are made by index, and one more.
use Rattle.std.proofs.Common.{◌≡◌, ap, ◌∙◌, Bool, true, false, cond, ℕ, ◌+◌, ◌<◌, List, [], ◌∷◌, ◌++◌, map, length, get_or, Option, Some, None, refl, arith, zero-add, Result, Ok, Err, IfOk}
use Rattle.std.specs.List.{range_with_len}
use Rattle.std.proofs.lemmas.List.{get_or-replicate, get_or_append_left, get_or_push, length_push, length-map, map-append}
use Rattle.std.proofs.lemmas.List.FromFn.{length-map-range_with_len, map-range_with_len_more}
use Rattle.arrow_core.specs.declared.slot.Slot.{Slot}
use Rattle.arrow_core.specs.declared.slot.Slot.TheVariants as slot
use Rattle.arrow_array.specs.Bits.{Packed}
use Rattle.arrow_array.specs.Slots.{slots_of, shown, null_at, boolean_at, native_at}
use Rattle.arrow_flat.specs.Bits.{mask_of, Tells}
use Rattle.arrow_flat.proofs.Bits.{made_alike}

pub length-slots_of : (f : ℕ → Slot) (ts : List Bool) (n : ℕ) → length (slots_of f (Some (mask_of ts)) 0 n) ≡ n
length-slots_of f ts n = length-map-range_with_len (λ i. shown (Some (mask_of ts)) i (f (0 + i))) 0 n

pub slots_of-push : (f g : ℕ → Slot) (ts : List Bool) (n : ℕ) (v : Bool) (x : Slot) → length ts ≡ n → ((k : ℕ) → k < n → g k ≡ f k) → g n ≡ x
    → slots_of g (Some (mask_of (ts ++ v ∷ []))) 0 (n + 1) ≡ slots_of f (Some (mask_of ts)) 0 n ++ (cond v x slot.Null) ∷ []
slots_of-push f g ts n v x l same here =
    let old : ℕ → Slot = λ i. cond (get_or ts i false) (f (0 + i)) slot.Null in
    let new : ℕ → Slot = λ i. cond (get_or (ts ++ v ∷ []) i false) (g (0 + i)) slot.Null in
    let m : map new (range_with_len 0 (n + 1)) ≡ map new (range_with_len 0 n) ++ new n ∷ [] = map-range_with_len_more new 0 n n (omega arith) in
    let a : map new (range_with_len 0 n) ≡ map old (range_with_len 0 n) = made_alike new old 0 0 n (λ i h.
    rw (zero-add i) (rw (zero-add i) (rw (get_or_append_left ts (v ∷ []) false i (omega (arith, h, l)), same i h) refl))) in
    let b : new n ≡ cond v x slot.Null = rw (get_or_push ts v false n l) (rw (zero-add n, here) refl) in
    m ∙ (rw (a, b) refl)

pub boolean_at-push_below : (vs : List Bool) (v : Bool) (k : ℕ) → k < length vs → boolean_at (vs ++ v ∷ []) k ≡ boolean_at vs k
boolean_at-push_below vs v k h = ap slot.Boolean (get_or_append_left vs (v ∷ []) false k h)

pub boolean_at-push : (vs : List Bool) (v : Bool) (n : ℕ) → length vs ≡ n → boolean_at (vs ++ v ∷ []) n ≡ slot.Boolean v
boolean_at-push vs v n h = ap slot.Boolean (get_or_push vs v false n h)

-- how many items there are in lists that are made by index, and in lists that gain an item
pub ruleset counts = (length-map-range_with_len, length_push)

-- one boolean more
pub booleans_at-push : (vs ts us ss : List Bool) (v b : Bool) → length vs ≡ length ts → us ≡ vs ++ v ∷ [] → ss ≡ ts ++ b ∷ []
    → slots_of (boolean_at us) (Some (mask_of ss)) 0 (length ss) ≡ slots_of (boolean_at vs) (Some (mask_of ts)) 0 (length ts) ++ (cond b (slot.Boolean v) slot.Null) ∷ []
booleans_at-push vs ts us ss v b l e d = rw (e, d) (rw (length_push ts b)
    (slots_of-push (boolean_at vs) (boolean_at (vs ++ v ∷ [])) ts (length ts) b (slot.Boolean v) refl
    (λ k h. boolean_at-push_below vs v k (omega (arith, h, l))) (boolean_at-push vs v (length ts) l)))

-- one native value more
pub natives_at-push : {X : Type 0} (f : X → Slot) (vs us : List X) (ts ss : List Bool) (v : X) (b : Bool) → length vs ≡ length ts → us ≡ vs ++ v ∷ [] → ss ≡ ts ++ b ∷ []
    → slots_of (native_at f us) (Some (mask_of ss)) 0 (length ss) ≡ slots_of (native_at f vs) (Some (mask_of ts)) 0 (length ts) ++ (cond b (f v) slot.Null) ∷ []
natives_at-push f vs us ts ss v b l e d =
    let k : length (map f vs) ≡ length ts = omega (arith, length-map vs f, l) in
    rw (e, d) (rw (length_push ts b)
    (slots_of-push (native_at f vs) (native_at f (vs ++ v ∷ [])) ts (length ts) b (f v) refl
    (λ i h. rw (map-append f vs (v ∷ [])) (get_or_append_left (map f vs) (f v ∷ []) slot.Null i (omega (arith, h, k))))
    (rw (map-append f vs (v ∷ [])) (get_or_push (map f vs) (f v) slot.Null (length ts) k))))

-- the same, where offsets are read as numbers
pub ruleset content_counts = (length-map-range_with_len, length_push, length-map)

-- one null more
pub nulls_at-push : (n m : ℕ) → m ≡ n + 1 → slots_of null_at None 0 m ≡ slots_of null_at None 0 n ++ slot.Null ∷ []
nulls_at-push n m e = rw e (map-range_with_len_more (λ i. slot.Null) 0 n n (omega arith))

-- the slots that an array shows over the bits of a builder's validity
pub slots_of-frozen : (f g : ℕ → Slot) (v : Packed) (ts : List Bool) (m n : ℕ) → f ≡ g → v.booleans ≡ ts → m ≡ n → slots_of f (Some v) 0 m ≡ slots_of g (Some (mask_of ts)) 0 n
slots_of-frozen f g v ts m n e d l = rw (e, d, l) refl

-- the same, where no validity says that all are valid
pub slots_of-told : (f g : ℕ → Slot) (v : Option Packed) (ts : List Bool) (m n : ℕ) → f ≡ g → Tells v ts → m ≡ n → n ≡ length ts → slots_of f v 0 m ≡ slots_of g (Some (mask_of ts)) 0 n
slots_of-told f g (Some v) ts m n e d l k = slots_of-frozen f g v ts m n e d l
slots_of-told f g None ts m n e d l k =
    let all : (i : ℕ) → i < n → get_or ts i false ≡ true = λ i h. ap (λ (xs : List Bool). get_or xs i false) d ∙ get_or-replicate (length ts) i true false (omega (arith, h, k)) in
    rw (e, l) (made_alike (λ i. g (0 + i)) (λ i. cond (get_or ts i false) (g (0 + i)) slot.Null) 0 0 n (λ i h.
    rw (zero-add i) (rw (zero-add i) (rw (all i h) refl))))

-- what is known of an array's slots, told of an equal list
pub IfOk-same : {A E X : Type 0} (shown : A → X) (r : Result A E) (xs ys : X) → IfOk r (λ a. shown a ≡ xs) → xs ≡ ys → IfOk r (λ a. shown a ≡ ys)
IfOk-same shown (Ok a) xs ys h e = h ∙ e
IfOk-same shown (Err x) xs ys h e = tt
