-- Slots are encoded one at a time.
use Rattle.std.proofs.Common.{◌≡◌, ◌∙◌, ◌⊎◌, ◌↔◌, ◌||◌, inl, inr, ℕ, zero, suc, ◌+◌, ◌<◌, ◌≤◌, Bool, true, false, ℤ, pos, negsuc, List, [], ◌∷◌, ◌++◌, length, map, get_or, take, slice_index_or, Option, Some, None, if◌then◌else◌, refl, sym, ap, subst, arith, Result, Ok, Err, IfOk}
use Rattle.std.specs.List.{All, Contains, list_any, position_from, slice_get}
use Rattle.std.specs.Option.{option_map}
use Rattle.std.proofs.lemmas.List.{length-append, map-append, take_more}
use Rattle.std.proofs.lemmas.List.Elements.{All-get_or, All-nil, All-push, All-weaker}
use Rattle.std.proofs.lemmas.Option.{slice_get-map, slice_get_within, get_or_from_slice_get}
use Rattle.std.proofs.Math.ListN.{get_or-append}
use Rattle.first_seen.specs.Keys.{index_of, with_key}
use Rattle.arrow_array.specs.Dictionaries.{IsKeyInto, keys_slots, looked_up}
use Rattle.arrow_array.specs.declared.keys.Keys.{Keys}
use Rattle.arrow_core.specs.declared.error.Error.{Error}
use Rattle.arrow_array.specs.Slots.{is_held, slot_at}
use Rattle.arrow_core.specs.declared.slot.Slot.{Slot, Null, Boolean, Integer, String, Binary, List', Struct'}
use Rattle.arrow_core.specs.declared.slot.Slot.TheVariants as slot
use Rattle.arrow_dictionaries.specs.Encoding.{EncodesSlots, FirstSlots, none, null, again, new}
use Rattle.arrow_dictionaries.specs.Indices.{IsStep, index_key}

-- ---- a value among those that came

or_true : (a b : Bool) → a ≡ true → (a || b) ≡ true
or_true true b h = refl
or_true false b h = absurd cc

or_right : (a b : Bool) → b ≡ true → (a || b) ≡ true
or_right true b h = refl
or_right false b h = h

clash : (b : Bool) → b ≡ true → b ≡ false → ⊥
clash true t f = absurd cc
clash false t f = absurd cc

-- a key that is found stands where it is found
module _ {K : Type 0} (test : K → Bool) where
  at_from : (i j : ℕ) (ks : List K) → position_from test i ks ≡ Some j → (n : ℕ) × (j ≡ i + n) × ((k : K) × (slice_get ks n ≡ Some k) × (test k ≡ true))
  at_from i j [] h = absurd cc
  at_from i j (x ∷ ks) h = by_first (test x) refl h (at_from (i + 1) j ks)
    where
      by_first : (b : Bool) → test x ≡ b → (if b then Some i else position_from test (i + 1) ks) ≡ Some j
          → (position_from test (i + 1) ks ≡ Some j → (n : ℕ) × (j ≡ i + 1 + n) × ((k : K) × (slice_get ks n ≡ Some k) × (test k ≡ true)))
          → (n : ℕ) × (j ≡ i + n) × ((k : K) × (slice_get (x ∷ ks) n ≡ Some k) × (test k ≡ true))
      by_first true e f rest = let p : i ≡ j = cc in (0, omega (arith, p), (x, refl, e))
      by_first false e f rest = let r = rest f in (suc r.0, omega (arith, r.1), r.2)

  pub at_index : (j : ℕ) (ks : List K) → position_from test 0 ks ≡ Some j → (k : K) × (slice_get ks j ≡ Some k) × (test k ≡ true)
  at_index j ks h =
      let r = at_from 0 j ks h in
      let e : j ≡ r.0 = omega (arith, r.1) in
      (r.2.0, ap (λ n. slice_get ks n) e ∙ r.2.1, r.2.2)

pub not_held : (s : Slot) → is_held s ≡ false → s ≡ slot.Null
not_held Null h = refl
not_held (Boolean b) h = absurd cc
not_held (Integer n) h = absurd cc
not_held (String t) h = absurd cc
not_held (Binary t) h = absurd cc
not_held (List' m row) h = absurd cc
not_held (Struct' m row) h = absurd cc

module _ {T : Type 0} (same : T → T → Bool) (shown : T → Slot) (exact : (x y : T) → (same x y ≡ true) ↔ (shown x ≡ shown y)) where
  any_at : (ks : List T) (x : T) (i : ℕ) (d : Slot) → i < length (map shown ks) → slice_index_or (map shown ks) i d ≡ shown x → list_any (same x) ks ≡ true
  any_at [] x i d l e = absurd (omega (arith, l))
  any_at (k ∷ ks) x zero d l e = or_true (same x k) (list_any (same x) ks) ((exact x k).1 (sym e))
  any_at (k ∷ ks) x (suc i) d l e = or_right (same x k) (list_any (same x) ks) (any_at ks x i d (omega (arith, l)) e)

  stands : (news : List T) (x y : T) (k : ℕ) → slice_get news k ≡ Some y → same x y ≡ true → slice_get (map shown news) k ≡ Some (shown x)
  stands news x y k at t = slice_get-map shown news k ∙ ap (option_map shown) at ∙ ap (λ (s : Slot). Some s) (sym ((exact x y).0 t))

  there_or_last : (b : Bool) (olds news : List T) (x : T) → list_any (same x) olds ≡ b → news ≡ (if b then olds else olds ++ x ∷ [])
      → (map shown news ≡ map shown olds) ⊎ ((Contains (map shown olds) (shown x) → ⊥) × (map shown news ≡ map shown olds ++ shown x ∷ []))
  there_or_last true olds news x h e = inl (ap (map shown) e)
  there_or_last false olds news x h e =
      inr ((λ c. clash (list_any (same x) olds) (any_at olds x c.0 (shown x) c.1 c.2) h), ap (map shown) e ∙ map-append shown olds (x ∷ []))

  -- a slot that isn't null is looked for
  pub found : (olds news : List T) (x y : T) (s : Slot) (k : ℕ) → is_held s ≡ true → s ≡ shown x → news ≡ with_key same olds x → slice_get news k ≡ Some y → same x y ≡ true
      → IsStep s (map shown olds) (map shown news) (Some k)
  found olds news x y s k held is e at t = (
    held,
    stands news x y k at t ∙ ap (λ (z : Slot). Some z) (sym is),
    subst (λ z. (map shown news ≡ map shown olds) ⊎ ((Contains (map shown olds) z → ⊥) × (map shown news ≡ map shown olds ++ z ∷ []))) (sym is) (there_or_last (list_any (same x) olds) olds news x refl e),
  )

-- ---- one slot more

grown_key : (items more : List Slot) (key : Slot) → IsKeyInto (length items) key → looked_up (items ++ more) key ≡ looked_up items key
grown_key items more Null h = refl
grown_key items more (Boolean b) h = absurd h
grown_key items more (Integer (pos k)) h = get_or-append items more slot.Null k h
grown_key items more (Integer (negsuc k)) h = absurd h
grown_key items more (String t) h = absurd h
grown_key items more (Binary t) h = absurd h
grown_key items more (List' m row) h = absurd h
grown_key items more (Struct' m row) h = absurd h

grown : (items more keys : List Slot) → ((i : ℕ) → i < length keys → IsKeyInto (length items) (slot_at keys i)) → map (looked_up (items ++ more)) keys ≡ map (looked_up items) keys
grown items more [] h = refl
grown items more (key ∷ keys) h = λ j. grown_key items more key (h 0 (omega arith)) j ∷ grown items more keys (λ i l. h (suc i) (omega (arith, l))) j

wider : (n m : ℕ) → n ≤ m → (key : Slot) → IsKeyInto n key → IsKeyInto m key
wider n m le Null h = tt
wider n m le (Boolean b) h = absurd h
wider n m le (Integer (pos k)) h = omega (arith, le, h)
wider n m le (Integer (negsuc k)) h = absurd h
wider n m le (String t) h = absurd h
wider n m le (Binary t) h = absurd h
wider n m le (List' k row) h = absurd h
wider n m le (Struct' k row) h = absurd h

start : EncodesSlots [] [] []
start = record { looks_up = refl; first = none; within = All-nil (IsKeyInto 0) }

-- before the first slot
pub begin : {T : Type 0} (shown : T → Slot) (slots : List Slot) (ps : List (Option ℕ)) (ks : List T) → ps ≡ [] → ks ≡ [] → EncodesSlots (take 0 slots) (map index_key ps) (map shown ks)
begin shown slots ps ks p k = rw (p, k) start

module _ (slots keys items : List Slot) (h : EncodesSlots slots keys items) where
  -- the items stay
  stay : (s key : Slot) → looked_up items key ≡ s → IsKeyInto (length items) key → FirstSlots (slots ++ s ∷ []) items → EncodesSlots (slots ++ s ∷ []) (keys ++ key ∷ []) items
  stay s key e w f = record {
    looks_up = map-append (looked_up items) keys (key ∷ []) ∙ (λ j. h.looks_up j ++ e j ∷ []);
    first = f;
    within = All-push (IsKeyInto (length items)) keys key h.within w;
  }

  old : (s : Slot) (k : ℕ) → slice_get items k ≡ Some s → EncodesSlots (slots ++ s ∷ []) (keys ++ slot.Integer (pos k) ∷ []) items
  old s k at =
      let l = slice_get_within items k s at in
      stay s (slot.Integer (pos k)) (get_or_from_slice_get items k s slot.Null at) l (again slots items s h.first (k, l, get_or_from_slice_get items k s s at))

  fresh : (s : Slot) (k : ℕ) → slice_get (items ++ s ∷ []) k ≡ Some s → is_held s ≡ true → (Contains items s → ⊥) → EncodesSlots (slots ++ s ∷ []) (keys ++ slot.Integer (pos k) ∷ []) (items ++ s ∷ [])
  fresh s k at held absent =
      let more : List Slot = items ++ s ∷ [] in
      let longer : length more ≡ length items + 1 = length-append items (s ∷ []) in
      let is : slot_at more k ≡ s = get_or_from_slice_get more k s slot.Null at in
      let same : map (looked_up more) keys ≡ slots = grown items (s ∷ []) keys (λ i l. All-get_or (IsKeyInto (length items)) keys i slot.Null l h.within) ∙ h.looks_up in
      record {
        looks_up = map-append (looked_up more) keys (slot.Integer (pos k) ∷ []) ∙ (λ j. same j ++ is j ∷ []);
        first = new slots items s h.first held absent;
        within = All-push (IsKeyInto (length more)) keys (slot.Integer (pos k)) (All-weaker (IsKeyInto (length items)) (IsKeyInto (length more)) (wider (length items) (length more) (omega (arith, longer))) keys h.within) (slice_get_within more k s at);
      }

  pub step : (s : Slot) (items' : List Slot) (index : Option ℕ) → IsStep s items items' index → EncodesSlots (slots ++ s ∷ []) (keys ++ index_key index ∷ []) items'
  step s items' None t =
      subst (λ z. EncodesSlots (slots ++ s ∷ []) (keys ++ slot.Null ∷ []) z) (sym t.1) (stay s slot.Null (sym t.0) tt (subst (λ z. FirstSlots (slots ++ z ∷ []) items) (sym t.0) (null slots items h.first)))
  step s items' (Some k) (held, at, inl e) = subst (λ z. EncodesSlots (slots ++ s ∷ []) (keys ++ slot.Integer (pos k) ∷ []) z) (sym e) (old s k (sym (ap (λ l. slice_get l k) e) ∙ at))
  step s items' (Some k) (held, at, inr (absent, e)) = subst (λ z. EncodesSlots (slots ++ s ∷ []) (keys ++ slot.Integer (pos k) ∷ []) z) (sym e) (fresh s k (sym (ap (λ l. slice_get l k) e) ∙ at) held absent)

-- the slot after those so far
pub more : (slots : List Slot) (i : ℕ) (before after : List (Option ℕ)) (index : Option ℕ) (items items' : List Slot) → i < length slots → after ≡ before ++ index ∷ []
    → EncodesSlots (take i slots) (map index_key before) items → IsStep (slot_at slots i) items items' index → EncodesSlots (take (i + 1) slots) (map index_key after) items'
more slots i before after index items items' l e h t =
    let s = step (take i slots) (map index_key before) items h (slot_at slots i) items' index t in
    subst (λ z. EncodesSlots z (map index_key after) items') (sym (take_more slots i slot.Null l))
    (subst (λ z. EncodesSlots (take i slots ++ slot_at slots i ∷ []) z items') (sym (ap (map index_key) e ∙ map-append index_key before (index ∷ []))) s)

take_all : {A : Type 0} (l : List A) (n : ℕ) → length l ≤ n → take n l ≡ l
take_all [] zero h = refl
take_all [] (suc n) h = refl
take_all (x ∷ l) zero h = absurd (omega (arith, h))
take_all (x ∷ l) (suc n) h = ap (λ k. x ∷ k) (take_all l n (omega (arith, h)))

-- all slots
pub whole : (slots keys items : List Slot) (n : ℕ) → length slots ≤ n → EncodesSlots (take n slots) keys items → EncodesSlots slots keys items
whole slots keys items n l h = subst (λ z. EncodesSlots z keys items) (take_all slots n l) h

-- the same keys and values
pub recoded : (slots keys keys' items items' : List Slot) → keys' ≡ keys → items' ≡ items → EncodesSlots slots keys items → EncodesSlots slots keys' items'
recoded slots keys keys' items items' k i h = rw (k, i) h

-- by the keys of their indices
pub keys_encode : (slots : List Slot) (ps qs : List (Option ℕ)) (items : List Slot) (r : Result Keys Error) → qs ≡ ps → EncodesSlots slots (map index_key ps) items → IfOk r (λ keys. keys_slots keys ≡ map index_key qs)
    → IfOk r (λ keys. EncodesSlots slots (keys_slots keys) items)
keys_encode slots ps qs items (Ok keys) e h k = recoded slots (map index_key ps) (keys_slots keys) items items (k ∙ ap (map index_key) e) refl h
keys_encode slots ps qs items (Err x) e h k = tt
