-- Names and their indices, and what one more member changes.
use Rattle.std.proofs.Common.{◌≡◌, ℕ, zero, suc, ◌+◌, ◌<◌, ◌≤◌, Bool, true, false, eqb, not, cond, ◌||◌, List, [], ◌∷◌, length, set, get_or, refl, sym, ap, subst, ◌∙◌, arith}
use Rattle.std.specs.Prelude.{Option, Some, None, MatchOption}
use Rattle.std.proofs.lemmas.Bool.{and_parts, true≢false}
use Rattle.std.proofs.lemmas.Bool.Decides.{nat_tests}
use Rattle.std.proofs.lemmas.List.{get_or_default}
use Rattle.std.proofs.lemmas.Slice.Eq.{bytes_eq-Decides}
use Rattle.std.specs.Str.{bytes_eq}
use Rattle.json_tree.specs.Tree.{Json, null, or_null}
use Rattle.json_tree.specs.Keys.{value_of}
use Rattle.json_tree.specs.Layout.{put, meets, distinct, key_index}
use Rattle.json_lend.specs.Fields.{value_named, values_of, AreOthers, IsIndex}

not-true : (b : Bool) → not b ≡ true → b ≡ false
not-true true e = sym e
not-true false e = refl

eq-is : (a b : List ℕ) → bytes_eq a b ≡ true → a ≡ b
eq-is a b h = (bytes_eq-Decides a b).0 h

is-eq : (a b : List ℕ) → a ≡ b → bytes_eq a b ≡ true
is-eq a b h = (bytes_eq-Decides a b).1 h

eq-sym : (a b : List ℕ) (t : Bool) → bytes_eq a b ≡ t → bytes_eq b a ≡ t
eq-sym a b true h = is-eq b a (sym (eq-is a b h))
eq-sym a b false h = at (bytes_eq b a) refl
  where
    at : (t : Bool) → bytes_eq b a ≡ t → bytes_eq b a ≡ false
    at true e = absurd (true≢false (sym (is-eq a b (sym (eq-is b a e))) ∙ h))
    at false e = e

-- ---- indices

meets-at : (ks : List (List ℕ)) (i : ℕ) (x : List ℕ) → i < length ks → x ≡ get_or ks i x → meets x ks ≡ true
meets-at [] i x l e = absurd (omega (arith, l))
meets-at (k ∷ ks) zero x l e = rw (is-eq x k e) refl
meets-at (k ∷ ks) (suc i) x l e = at (bytes_eq x k) (meets-at ks i x (omega (arith, l)) e)
  where
    at : (b : Bool) → meets x ks ≡ true → (b || meets x ks) ≡ true
    at true h = refl
    at false h = h

pub key_index-guess : (ks : List (List ℕ)) (i : ℕ) (x k : List ℕ) → distinct ks ≡ true → i < length ks → x ≡ get_or ks i x → bytes_eq x k ≡ true → key_index k ks ≡ i
key_index-guess [] i x k d l e h = absurd (omega (arith, l))
key_index-guess (k' ∷ ks) zero x k d l e h =
    let s : bytes_eq k' k ≡ true = subst (λ y. bytes_eq y k ≡ true) e h in
    rw s refl
key_index-guess (k' ∷ ks) (suc i) x k d l e h = at (bytes_eq k' k) refl (λ m. key_index-guess ks i x k m (omega (arith, l)) e h)
  where
    parts : (not (meets k' ks) ≡ true) × (distinct ks ≡ true)
    parts = and_parts (not (meets k' ks)) (distinct ks) d

    at : (b : Bool) → bytes_eq k' k ≡ b → (distinct ks ≡ true → key_index k ks ≡ i) → cond b 0 (suc (key_index k ks)) ≡ suc i
    at true q r =
        let same : x ≡ k' = eq-is x k h ∙ sym (eq-is k' k q) in
        let m : meets k' ks ≡ true = subst (λ y. meets y ks ≡ true) same (meets-at ks i x (omega (arith, l)) e) in
        absurd (true≢false (sym m ∙ not-true (meets k' ks) parts.0))
    at false q r = ap suc (r parts.1)

-- a name more that is another
pub others-more : (names : List (List ℕ)) (from i : ℕ) (x key : List ℕ) → i < length names → x ≡ get_or names i x → bytes_eq x key ≡ false → AreOthers names from i key → AreOthers names from (i + 1) key
others-more names from i x key l is other before k name ge lt = at k lt (eqb k i) refl (before k name ge)
  where
    at : (k : ℕ) → k < i + 1 → (t : Bool) → eqb k i ≡ t → (k < i → bytes_eq (get_or names k name) key ≡ false) → bytes_eq (get_or names k name) key ≡ false
    at k lt true q h =
        let same : k ≡ i = grind (arith, nat_tests) in
        let there : get_or names k name ≡ x = ap (λ n. get_or names n name) same ∙ (get_or_default names i name x l ∙ sym is) in
        ap (λ y. bytes_eq y key) there ∙ other
    at k lt false q h = h (grind (arith, nat_tests))

none-beside : (ks : List (List ℕ)) (m : ℕ) (k : List ℕ) → AreOthers ks m (length ks) k → AreOthers ks 0 m k → length ks ≤ key_index k ks
none-beside [] m k a b = omega arith
none-beside (x ∷ ks) zero k a b =
    let here : bytes_eq x k ≡ false = a 0 x (omega arith) (omega arith) in
    let rest : length ks ≤ key_index k ks = none-beside ks 0 k (λ i n l h. a (suc i) n (omega arith) (omega (arith, h))) (λ i n l h. absurd (omega (arith, h))) in
    rw here (omega (arith, rest))
none-beside (x ∷ ks) (suc m) k a b =
    let here : bytes_eq x k ≡ false = b 0 x (omega arith) (omega arith) in
    let rest : length ks ≤ key_index k ks = none-beside ks m k (λ i n l h. a (suc i) n (omega (arith, l)) (omega (arith, h))) (λ i n l h. b (suc i) n (omega arith) (omega (arith, h))) in
    rw here (omega (arith, rest))

-- no name from an index on is the key, and this is known of those before
pub looked-up : (names : List (List ℕ)) (m : ℕ) (key : List ℕ) (at : Option ℕ) → AreOthers names m (length names) key → MatchOption at (AreOthers names 0 m key) (λ i. (i ≡ key_index key names) × (i < length names)) → IsIndex names key at
looked-up names m key None a b = none-beside names m key a b
looked-up names m key (Some i) a b = b

key_index-none : (ks : List (List ℕ)) (k : List ℕ) → meets k ks ≡ false → length ks ≤ key_index k ks
key_index-none [] k h = omega arith
key_index-none (x ∷ xs) k h = at (bytes_eq x k) refl (λ m. key_index-none xs k m)
  where
    at : (b : Bool) → bytes_eq x k ≡ b → (meets k xs ≡ false → length xs ≤ key_index k xs) → suc (length xs) ≤ cond b 0 (suc (key_index k xs))
    at true q r =
        let m : (bytes_eq k x || meets k xs) ≡ true = rw (eq-sym x k true q) refl in
        absurd (true≢false (sym m ∙ h))
    at false q r =
        let m : meets k xs ≡ false = rw (eq-sym x k false q) at h in
        omega (arith, r m)

-- ---- one more member

value_named-put : (ms : List (List ℕ × Json)) (k : List ℕ) (v : Json) (name : List ℕ) → value_named (put ms (k, v)) name ≡ cond (bytes_eq k name) v (value_named ms name)
unfolding put
value_named-put [] k v name = at (bytes_eq k name)
  where
    at : (b : Bool) → or_null (cond b (Some v) None) ≡ cond b v null
    at true = refl
    at false = refl
value_named-put (m ∷ ms) k v name = at (bytes_eq m.0 k) refl (bytes_eq m.0 name) refl (bytes_eq k name) refl (value_named-put ms k v name)
  where
    at : (a : Bool) → bytes_eq m.0 k ≡ a → (b : Bool) → bytes_eq m.0 name ≡ b → (c : Bool) → bytes_eq k name ≡ c
        → or_null (value_of name (put ms (k, v))) ≡ cond c v (or_null (value_of name ms))
        → or_null (value_of name (cond a ((m.0, v) ∷ ms) (m ∷ put ms (k, v)))) ≡ cond c v (or_null (cond b (Some m.1) (value_of name ms)))
    at true p true q true r h = rw q refl
    at true p true q false r h = absurd (true≢false (sym (is-eq k name (sym (eq-is m.0 k p) ∙ eq-is m.0 name q)) ∙ r))
    at true p false q true r h = absurd (true≢false (sym (is-eq m.0 name (eq-is m.0 k p ∙ eq-is k name r)) ∙ q))
    at true p false q false r h = rw q refl
    at false p true q true r h = absurd (true≢false (sym (is-eq m.0 k (eq-is m.0 name q ∙ sym (eq-is k name r))) ∙ p))
    at false p true q false r h = rw q refl
    at false p false q c r h = rw q h

-- a key that is no name changes nothing
pub values-unknown : (ms : List (List ℕ × Json)) (k : List ℕ) (v : Json) (names : List (List ℕ)) → length names ≤ key_index k names → values_of (put ms (k, v)) names ≡ values_of ms names
values-unknown ms k v [] l = refl
values-unknown ms k v (n ∷ ns) l = at (bytes_eq n k) refl l (λ m. values-unknown ms k v ns m)
  where
    at : (b : Bool) → bytes_eq n k ≡ b → suc (length ns) ≤ cond b 0 (suc (key_index k ns)) → (length ns ≤ key_index k ns → values_of (put ms (k, v)) ns ≡ values_of ms ns) → value_named (put ms (k, v)) n ∷ values_of (put ms (k, v)) ns ≡ value_named ms n ∷ values_of ms ns
    at true q l r = absurd (omega (arith, l))
    at false q l r =
        let head : value_named (put ms (k, v)) n ≡ value_named ms n = value_named-put ms k v n ∙ ap (λ b. cond b v (value_named ms n)) (eq-sym n k false q) in
        let tail : values_of (put ms (k, v)) ns ≡ values_of ms ns = r (omega (arith, l)) in
        ap (λ x. x ∷ values_of (put ms (k, v)) ns) head ∙ ap (λ xs. value_named ms n ∷ xs) tail

-- a key that is a name gives its key_index the value, and changes no other
pub values-known : (ms : List (List ℕ × Json)) (k : List ℕ) (v : Json) (names : List (List ℕ)) → distinct names ≡ true → key_index k names < length names → values_of (put ms (k, v)) names ≡ set (values_of ms names) (key_index k names) v
values-known ms k v [] d l = absurd (omega (arith, l))
values-known ms k v (n ∷ ns) d l = at (bytes_eq n k) refl l (λ e m. values-known ms k v ns e m)
  where
    parts : (not (meets n ns) ≡ true) × (distinct ns ≡ true)
    parts = and_parts (not (meets n ns)) (distinct ns) d

    at : (b : Bool) → bytes_eq n k ≡ b → cond b 0 (suc (key_index k ns)) < suc (length ns)
        → (distinct ns ≡ true → key_index k ns < length ns → values_of (put ms (k, v)) ns ≡ set (values_of ms ns) (key_index k ns) v)
        → value_named (put ms (k, v)) n ∷ values_of (put ms (k, v)) ns ≡ set (value_named ms n ∷ values_of ms ns) (cond b 0 (suc (key_index k ns))) v
    at true q l r =
        let head : value_named (put ms (k, v)) n ≡ v = value_named-put ms k v n ∙ ap (λ b. cond b v (value_named ms n)) (eq-sym n k true q) in
        let none : length ns ≤ key_index k ns = key_index-none ns k (subst (λ y. meets y ns ≡ false) (eq-is n k q) (not-true (meets n ns) parts.0)) in
        ap (λ x. x ∷ values_of (put ms (k, v)) ns) head ∙ ap (λ xs. v ∷ xs) (values-unknown ms k v ns none)
    at false q l r =
        let head : value_named (put ms (k, v)) n ≡ value_named ms n = value_named-put ms k v n ∙ ap (λ b. cond b v (value_named ms n)) (eq-sym n k false q) in
        ap (λ x. x ∷ values_of (put ms (k, v)) ns) head ∙ ap (λ xs. value_named ms n ∷ xs) (r parts.1 (omega (arith, l)))

-- one turn: what was put at the key_index of the key
pub values-turn : (at : Option ℕ) (names : List (List ℕ)) (ms : List (List ℕ × Json)) (k : List ℕ) (v : Json) (old new : List Json) → distinct names ≡ true → IsIndex names k at → old ≡ values_of ms names
    → MatchOption at (new ≡ old) (λ i. new ≡ set old i v) → new ≡ values_of (put ms (k, v)) names
values-turn None names ms k v old new d p e h = h ∙ e ∙ sym (values-unknown ms k v names p)
values-turn (Some i) names ms k v old new d p e h =
    h ∙ ap (λ xs. set xs i v) e ∙ ap (λ n. set (values_of ms names) n v) p.0 ∙ sym (values-known ms k v names d (omega (arith, p.0, p.1)))
