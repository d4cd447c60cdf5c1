-- Members by their indices.
use Rattle.std.proofs.Common.{◌≡◌, ◌⊎◌, inl, inr, ℕ, zero, suc, ◌+◌, ◌-◌, ◌<◌, ◌≤◌, Bool, true, false, not, cond, ◌||◌, List, [], ◌∷◌, ◌++◌, length, drop, set, get_or, Option, Some, None, MatchOption, Result, Ok, Err, OnOk, IfOk, String, Global, string_bytes, refl, sym, ap, subst, ◌∙◌, arith}
use Rattle.std.proofs.lemmas.Bool.{and_parts, true≢false}
use Rattle.std.proofs.lemmas.List.{length-append, length-drop, drop-append-le, drop_all, at_drop_all}
use Rattle.std.proofs.lemmas.Slice.Eq.{bytes_eq-Decides}
use Rattle.std.proofs.lemmas.Map.Text.{btree_map_updates_text}
use Rattle.std.specs.BTreeMap.{BTreeMap, UpdatesBy, get_by_text}
use Rattle.std.specs.String.{string_cmp}
use Rattle.std.specs.Str.{bytes_eq}
use Rattle.json_tree.specs.Keys.{value_of, keys_of}
use Rattle.json_tree.specs.Layout.{meets, distinct, put, key_index, key_index_from, Indexed}

same-key : (k : List ℕ) → bytes_eq k k ≡ true
same-key k = (bytes_eq-Decides k k).1 refl

module _ {V : Type 0} where
  pub length-keys : (ms : List (List ℕ × V)) → length (keys_of ms) ≡ length ms
  length-keys [] = refl
  length-keys (m ∷ ms) = ap suc (length-keys ms)

  pub keys-append : (ms : List (List ℕ × V)) (k : List ℕ) (v : V) → keys_of (ms ++ (k, v) ∷ []) ≡ keys_of ms ++ k ∷ []
  keys-append [] k v = refl
  keys-append (m ∷ ms) k v = ap (λ l. m.0 ∷ l) (keys-append ms k v)

  pub put-at : (ms : List (List ℕ × V)) (k : List ℕ) (v : V) (d : List ℕ × V) → key_index k (keys_of ms) < length ms → put ms (k, v) ≡ set ms (key_index k (keys_of ms)) ((get_or ms (key_index k (keys_of ms)) d).0, v)
  unfolding put
  put-at [] k v d l = absurd (omega (arith, l))
  put-at (m ∷ ms) k v d l = at (bytes_eq m.0 k) l (λ p. put-at ms k v d p)
    where
      at : (b : Bool) → cond b 0 (suc (key_index k (keys_of ms))) < suc (length ms) → (key_index k (keys_of ms) < length ms → put ms (k, v) ≡ set ms (key_index k (keys_of ms)) ((get_or ms (key_index k (keys_of ms)) d).0, v))
          → cond b ((m.0, v) ∷ ms) (m ∷ put ms (k, v)) ≡ set (m ∷ ms) (cond b 0 (suc (key_index k (keys_of ms)))) ((get_or (m ∷ ms) (cond b 0 (suc (key_index k (keys_of ms)))) d).0, v)
      at true l h = refl
      at false l h = ap (λ r. m ∷ r) (h (omega (arith, l)))

  pub keys-put : (ms : List (List ℕ × V)) (k : List ℕ) (v : V) → key_index k (keys_of ms) < length ms → keys_of (put ms (k, v)) ≡ keys_of ms
  unfolding put
  keys-put [] k v l = absurd (omega (arith, l))
  keys-put (m ∷ ms) k v l = at (bytes_eq m.0 k) l (λ p. keys-put ms k v p)
    where
      at : (b : Bool) → cond b 0 (suc (key_index k (keys_of ms))) < suc (length ms) → (key_index k (keys_of ms) < length ms → keys_of (put ms (k, v)) ≡ keys_of ms)
          → keys_of (cond b ((m.0, v) ∷ ms) (m ∷ put ms (k, v))) ≡ keys_of (m ∷ ms)
      at true l h = refl
      at false l h = ap (λ r. m.0 ∷ r) (h (omega (arith, l)))

  pub put-end : (ms : List (List ℕ × V)) (k : List ℕ) (v : V) → length ms ≤ key_index k (keys_of ms) → put ms (k, v) ≡ ms ++ (k, v) ∷ []
  unfolding put
  put-end [] k v l = refl
  put-end (m ∷ ms) k v l = at (bytes_eq m.0 k) l (λ p. put-end ms k v p)
    where
      at : (b : Bool) → suc (length ms) ≤ cond b 0 (suc (key_index k (keys_of ms))) → (length ms ≤ key_index k (keys_of ms) → put ms (k, v) ≡ ms ++ (k, v) ∷ [])
          → cond b ((m.0, v) ∷ ms) (m ∷ put ms (k, v)) ≡ m ∷ (ms ++ (k, v) ∷ [])
      at true l h = absurd (omega (arith, l))
      at false l h = ap (λ r. m ∷ r) (h (omega (arith, l)))

  pub value-at : (ms : List (List ℕ × V)) (k : List ℕ) (d : List ℕ × V) → key_index k (keys_of ms) < length ms → value_of k ms ≡ Some (get_or ms (key_index k (keys_of ms)) d).1
  value-at [] k d l = absurd (omega (arith, l))
  value-at (m ∷ ms) k d l = at (bytes_eq m.0 k) l (λ p. value-at ms k d p)
    where
      at : (b : Bool) → cond b 0 (suc (key_index k (keys_of ms))) < suc (length ms) → (key_index k (keys_of ms) < length ms → value_of k ms ≡ Some (get_or ms (key_index k (keys_of ms)) d).1)
          → cond b (Some m.1) (value_of k ms) ≡ Some (get_or (m ∷ ms) (cond b 0 (suc (key_index k (keys_of ms)))) d).1
      at true l h = refl
      at false l h = h (omega (arith, l))

  pub value-none : (ms : List (List ℕ × V)) (k : List ℕ) → length ms ≤ key_index k (keys_of ms) → value_of k ms ≡ None
  value-none [] k l = refl
  value-none (m ∷ ms) k l = at (bytes_eq m.0 k) l (λ p. value-none ms k p)
    where
      at : (b : Bool) → suc (length ms) ≤ cond b 0 (suc (key_index k (keys_of ms))) → (length ms ≤ key_index k (keys_of ms) → value_of k ms ≡ None) → cond b (Some m.1) (value_of k ms) ≡ None
      at true l h = absurd (omega (arith, l))
      at false l h = h (omega (arith, l))

  pub put-set : (ms : List (List ℕ × V)) (k : List ℕ) (v : V) (at : ℕ) (d : List ℕ × V) → at ≡ key_index k (keys_of ms) → at < length ms → d ≡ get_or ms at d → set ms at (d.0, v) ≡ put ms (k, v)
  put-set ms k v at d e l g =
      let m : key_index k (keys_of ms) < length ms = omega (arith, e, l) in
      let f : d ≡ get_or ms (key_index k (keys_of ms)) d = g ∙ ap (λ n. get_or ms n d) e in
      ap (λ n. set ms n (d.0, v)) e ∙ ap (λ o. set ms (key_index k (keys_of ms)) (o.0, v)) f ∙ sym (put-at ms k v d m)

  pub keys-set : (ms : List (List ℕ × V)) (k : List ℕ) (v : V) (at : ℕ) (d : List ℕ × V) → at ≡ key_index k (keys_of ms) → at < length ms → d ≡ get_or ms at d → keys_of (set ms at (d.0, v)) ≡ keys_of ms
  keys-set ms k v at d e l g = ap keys_of (put-set ms k v at d e l g) ∙ keys-put ms k v (omega (arith, e, l))

  pub value-found : (ms : List (List ℕ × V)) (k : List ℕ) (at : ℕ) (d : List ℕ × V) → at ≡ key_index k (keys_of ms) → at < length ms → d ≡ get_or ms at d → value_of k ms ≡ Some d.1
  value-found ms k at d e l g =
      value-at ms k d (omega (arith, e, l)) ∙ ap (λ n. Some (get_or ms n d).1) (sym e) ∙ ap (λ o. Some o.1) (sym g)

  -- a key that was put last, put again
  put-put : (ms : List (List ℕ × V)) (k : List ℕ) (b v : V) → put (put ms (k, b)) (k, v) ≡ put ms (k, v)
  unfolding put
  put-put [] k b v = rw (same-key k) refl
  put-put (m ∷ ms) k b v = at (bytes_eq m.0 k) refl (put-put ms k b v)
    where
      at : (c : Bool) → bytes_eq m.0 k ≡ c → put (put ms (k, b)) (k, v) ≡ put ms (k, v) → put (cond c ((m.0, b) ∷ ms) (m ∷ put ms (k, b))) (k, v) ≡ cond c ((m.0, v) ∷ ms) (m ∷ put ms (k, v))
      at true e h = rw e refl
      at false e h = rw e (ap (λ r. m ∷ r) h)

  -- another value at the index of a key that was put
  pub put-fill : (old new : List (List ℕ × V)) (k : List ℕ) (b v : V) (at : ℕ) (d : List ℕ × V) → new ≡ put old (k, b) → at ≡ key_index k (keys_of new) → at < length new → d ≡ get_or new at d → set new at (d.0, v) ≡ put old (k, v)
  put-fill old new k b v at d p e l g = put-set new k v at d e l g ∙ ap (λ ms. put ms (k, v)) p ∙ put-put old k b v

  -- the index of the last key
  key_index-last : (ms : List (List ℕ × V)) (k : List ℕ) (v : V) → length ms ≤ key_index k (keys_of ms) → key_index k (keys_of (ms ++ (k, v) ∷ [])) ≡ length ms
  key_index-last [] k v l = rw (same-key k) refl
  key_index-last (m ∷ ms) k v l = at (bytes_eq m.0 k) l (λ p. key_index-last ms k v p)
    where
      at : (b : Bool) → suc (length ms) ≤ cond b 0 (suc (key_index k (keys_of ms))) → (length ms ≤ key_index k (keys_of ms) → key_index k (keys_of (ms ++ (k, v) ∷ [])) ≡ length ms)
          → cond b 0 (suc (key_index k (keys_of (ms ++ (k, v) ∷ [])))) ≡ suc (length ms)
      at true l h = absurd (omega (arith, l))
      at false l h = ap suc (h (omega (arith, l)))

  -- where a key that no member has is put
  pub new-key_index : {E : Type 0} (r : Result ℕ E) (old new : List (List ℕ × V)) (k : List ℕ) → length old ≤ key_index k (keys_of old) → OnOk r ((v : V) × (new ≡ old ++ (k, v) ∷ [])) → IfOk r (λ at. at ≡ length old)
      → IfOk r (λ at. (at ≡ key_index k (keys_of new)) × (at < length new))
  new-key_index (Err e) old new k l p n = tt
  new-key_index (Ok at) old new k l p n = (n ∙ sym (key_index-last old k p.0 l) ∙ ap (λ ms. key_index k (keys_of ms)) (sym p.1), omega (arith, n, ap length p.1, length-append old ((k, p.0) ∷ [])))

  pub new-put : {E : Type 0} (r : Result ℕ E) (old new : List (List ℕ × V)) (k : List ℕ) → length old ≤ key_index k (keys_of old) → OnOk r ((v : V) × (new ≡ old ++ (k, v) ∷ [])) → OnOk r ((v : V) × (new ≡ put old (k, v)))
  new-put (Err e) old new k l p = tt
  new-put (Ok at) old new k l p = (p.0, p.1 ∙ sym (put-end old k p.0 l))

  -- and where one that a member has
  pub old-key_index : (ms : List (List ℕ × V)) (k : List ℕ) (v : V) (at : ℕ) (d : List ℕ × V) → at ≡ key_index k (keys_of ms) → at < length ms → d ≡ get_or ms at d
      → (at ≡ key_index k (keys_of (set ms at (d.0, v)))) × (at < length (set ms at (d.0, v)))
  old-key_index ms k v at d e l g =
      let s = keys-set ms k v at d e l g in
      (e ∙ ap (key_index k) (sym s), omega (arith, l, length-keys ms, length-keys (set ms at (d.0, v)), ap length s))

  pub keys-behind : (n : ℕ) (ms : List (List ℕ × V)) → keys_of (drop n ms) ≡ drop n (keys_of ms)
  keys-behind zero ms = refl
  keys-behind (suc n) [] = refl
  keys-behind (suc n) (m ∷ ms) = keys-behind n ms

  -- where a scan of the first 16 ends
  pub scan-end : (ms : List (List ℕ × V)) (k : List ℕ) (i p : ℕ) → p ≡ i + key_index k (keys_of (drop i ms)) → i ≤ length ms → i ≤ 16 → (length ms ≤ i) ⊎ (16 ≤ i)
      → p ≡ (length ms - (length ms - 16)) + key_index k (keys_of (drop 16 ms))
  scan-end ms k i p e l s (inl a) =
      let here : key_index k (keys_of (drop i ms)) ≡ 0 = at_drop_all (λ xs. key_index k (keys_of xs)) ms i a in
      let there : key_index k (keys_of (drop 16 ms)) ≡ 0 = at_drop_all (λ xs. key_index k (keys_of xs)) ms 16 (omega (arith, a, s)) in
      omega (arith, here, there, e, l, s, a)
  scan-end ms k i p e l s (inr a) =
      let same : i ≡ 16 = omega (arith, s, a) in
      let here : key_index k (keys_of (drop i ms)) ≡ key_index k (keys_of (drop 16 ms)) = ap (λ n. key_index k (keys_of (drop n ms))) same in
      omega (arith, here, same, e, l)

from-key_index : (n : ℕ) (k : List ℕ) (ks : List (List ℕ)) → MatchOption (key_index_from n k ks) (length ks ≤ key_index k ks) (λ i. (i ≡ n + key_index k ks) × (key_index k ks < length ks))
from-key_index n k [] = omega arith
from-key_index n k (x ∷ xs) = at (bytes_eq x k) (key_index_from (suc n) k xs) (from-key_index (suc n) k xs)
  where
    at : (b : Bool) (r : Option ℕ) → MatchOption r (length xs ≤ key_index k xs) (λ i. (i ≡ suc n + key_index k xs) × (key_index k xs < length xs))
        → MatchOption (cond b (Some n) r) (suc (length xs) ≤ cond b 0 (suc (key_index k xs))) (λ i. (i ≡ n + cond b 0 (suc (key_index k xs))) × (cond b 0 (suc (key_index k xs)) < suc (length xs)))
    at true r h = (omega arith, omega arith)
    at false None h = omega (arith, h)
    at false (Some i) h = (omega (arith, h.0), omega (arith, h.1))

module _ {V : Type 0} where
  -- what an index of the keys after the first 16 finds
  pub found-behind : (ms : List (List ℕ × V)) (k : List ℕ) (r : Option ℕ) → r ≡ key_index_from 16 k (drop 16 (keys_of ms))
      → key_index k (keys_of ms) ≡ (length ms - (length ms - 16)) + key_index k (keys_of (drop 16 ms))
      → MatchOption r (length ms ≤ key_index k (keys_of ms)) (λ i. (i ≡ key_index k (keys_of ms)) × (i < length ms))
  found-behind ms k r e p = go r (drop 16 (keys_of ms)) (subst (λ q. MatchOption q (length (drop 16 (keys_of ms)) ≤ key_index k (drop 16 (keys_of ms))) (λ i. (i ≡ 16 + key_index k (drop 16 (keys_of ms))) × (key_index k (drop 16 (keys_of ms)) < length (drop 16 (keys_of ms))))) (sym e) (from-key_index 16 k (drop 16 (keys_of ms))))
      (length-drop 16 (keys_of ms) ∙ ap (λ n. n - 16) (length-keys ms)) (p ∙ ap (λ ks. (length ms - (length ms - 16)) + key_index k ks) (keys-behind 16 ms))
    where
      go : (q : Option ℕ) (ks : List (List ℕ)) → MatchOption q (length ks ≤ key_index k ks) (λ i. (i ≡ 16 + key_index k ks) × (key_index k ks < length ks))
          → length ks ≡ length ms - 16 → key_index k (keys_of ms) ≡ (length ms - (length ms - 16)) + key_index k ks
          → MatchOption q (length ms ≤ key_index k (keys_of ms)) (λ i. (i ≡ key_index k (keys_of ms)) × (i < length ms))
      go None ks h n w = omega (arith, h, n, w)
      go (Some i) ks h n w = (omega (arith, h.0, h.1, n, w), omega (arith, h.0, h.1, n, w))

from-append : (n : ℕ) (k key : List ℕ) (ks : List (List ℕ)) → length ks ≤ key_index key ks
    → key_index_from n k (ks ++ key ∷ []) ≡ cond (bytes_eq key k) (Some (n + length ks)) (key_index_from n k ks)
from-append n k key [] l = ap (λ m. cond (bytes_eq key k) (Some m) None) (omega arith)
from-append n k key (x ∷ xs) l = at (bytes_eq x key) refl l (bytes_eq x k) refl (bytes_eq key k) refl (λ m. from-append (suc n) k key xs m)
  where
    at : (a : Bool) → bytes_eq x key ≡ a → suc (length xs) ≤ cond a 0 (suc (key_index key xs)) → (b : Bool) → bytes_eq x k ≡ b → (c : Bool) → bytes_eq key k ≡ c
        → (length xs ≤ key_index key xs → key_index_from (suc n) k (xs ++ key ∷ []) ≡ cond (bytes_eq key k) (Some (suc n + length xs)) (key_index_from (suc n) k xs))
        → cond b (Some n) (key_index_from (suc n) k (xs ++ key ∷ [])) ≡ cond c (Some (n + suc (length xs))) (cond b (Some n) (key_index_from (suc n) k xs))
    at true e m b f c g h = absurd (omega (arith, m))
    at false e m true f true g h = absurd (true≢false (sym ((bytes_eq-Decides x key).1 ((bytes_eq-Decides x k).0 f ∙ sym ((bytes_eq-Decides key k).0 g))) ∙ e))
    at false e m true f false g h = refl
    at false e m false f c g h =
        h (omega (arith, m)) ∙ ap (λ d. cond d (Some (suc n + length xs)) (key_index_from (suc n) k xs)) g
        ∙ ap (λ j. cond c (Some j) (key_index_from (suc n) k xs)) (omega arith)

key_index-behind : (n : ℕ) (k : List ℕ) (ks : List (List ℕ)) → length ks ≤ key_index k ks → length (drop n ks) ≤ key_index k (drop n ks)
key_index-behind zero k ks l = l
key_index-behind (suc n) k [] l = l
key_index-behind (suc n) k (x ∷ xs) l = key_index-behind n k xs (at (bytes_eq x k) l)
  where
    at : (b : Bool) → suc (length xs) ≤ cond b 0 (suc (key_index k xs)) → length xs ≤ key_index k xs
    at true m = absurd (omega (arith, m))
    at false m = omega (arith, m)

-- a key among the first 16 needs no entry
pub indexed-scanned : (m : BTreeMap (String Global) ℕ) (ks : List (List ℕ)) (k : List ℕ) → length ks < 16 → Indexed m (drop 16 ks) → Indexed m (drop 16 (ks ++ k ∷ []))
indexed-scanned m ks k s h = subst (Indexed m) (drop_all 16 ks (omega (arith, s)) ∙ sym (drop_all 16 (ks ++ k ∷ []) (omega (arith, s, length-append ks (k ∷ []))))) h

-- an index takes one more key
pub indexed-more : (m n : BTreeMap (String Global) ℕ) (key : String Global) (bs : List ℕ) (at : ℕ) → string_bytes key ≡ bs → UpdatesBy string_cmp (string_cmp key) m n (Some at) → 16 ≤ at
    → (ks : List (List ℕ)) → at ≡ length ks → length ks ≤ key_index bs ks → Indexed m (drop 16 ks) → Indexed n (drop 16 (ks ++ bs ∷ []))
indexed-more m n key bs at e u s ks a l h k =
    let split : drop 16 (ks ++ bs ∷ []) ≡ drop 16 ks ++ bs ∷ [] = drop-append-le 16 ks (bs ∷ []) (omega (arith, s, a)) in
    let count : at ≡ 16 + length (drop 16 ks) = omega (arith, s, a, length-drop 16 ks) in
    btree_map_updates_text (string_bytes key) m n (Some at) u k
    ∙ ap (λ b. cond (bytes_eq b k) (Some at) (get_by_text m k)) e
    ∙ ap (λ o. cond (bytes_eq bs k) (Some at) o) (h k)
    ∙ ap (λ j. cond (bytes_eq bs k) (Some j) (key_index_from 16 k (drop 16 ks))) count
    ∙ sym (from-append 16 k bs (drop 16 ks) (key_index-behind 16 bs ks l))
    ∙ ap (key_index_from 16 k) (sym split)

meets-push : (x k : List ℕ) (ks : List (List ℕ)) → not (meets x ks) ≡ true → bytes_eq x k ≡ false → not (meets x (ks ++ k ∷ [])) ≡ true
meets-push x k [] h e = rw e refl
meets-push x k (y ∷ ks) h e = at (bytes_eq x y) h (λ m. meets-push x k ks m e)
  where
    at : (b : Bool) → not (b || meets x ks) ≡ true → (not (meets x ks) ≡ true → not (meets x (ks ++ k ∷ [])) ≡ true) → not (b || meets x (ks ++ k ∷ [])) ≡ true
    at true h f = h
    at false h f = f h

miss-at : (k : List ℕ) (ks : List (List ℕ)) (j : ℕ) (d : List ℕ) → not (meets k ks) ≡ true → j < length ks → k ≡ get_or ks j d → ⊥
miss-at k [] j d m l e = absurd (omega (arith, l))
miss-at k (x ∷ xs) zero d m l e = at (bytes_eq k x) refl m
  where
    at : (b : Bool) → bytes_eq k x ≡ b → not (b || meets k xs) ≡ true → ⊥
    at true p n = true≢false (sym n)
    at false p n = true≢false (sym ((bytes_eq-Decides k x).1 e) ∙ p)
miss-at k (x ∷ xs) (suc j) d m l e = at (bytes_eq k x) m (λ n. miss-at k xs j d n (omega (arith, l)) e)
  where
    at : (b : Bool) → not (b || meets k xs) ≡ true → (not (meets k xs) ≡ true → ⊥) → ⊥
    at true n f = true≢false (sym n)
    at false n f = f n

-- distinct keys differ at each two indices
pub differ : (ks : List (List ℕ)) → distinct ks ≡ true → (i j : ℕ) (d : List ℕ) → i < j → j < length ks → get_or ks i d ≡ get_or ks j d → ⊥
differ [] h i j d lt l e = absurd (omega (arith, l))
differ (k ∷ ks) h i zero d lt l e = absurd (omega (arith, lt))
differ (k ∷ ks) h zero (suc j) d lt l e = miss-at k ks j d (and_parts _ _ h).0 (omega (arith, l)) e
differ (k ∷ ks) h (suc i) (suc j) d lt l e = differ ks (and_parts _ _ h).1 i j d (omega (arith, lt)) (omega (arith, l)) e

pub distinct-push : (ks : List (List ℕ)) (k : List ℕ) → distinct ks ≡ true → length ks ≤ key_index k ks → distinct (ks ++ k ∷ []) ≡ true
distinct-push [] k h l = refl
distinct-push (x ∷ ks) k h l = at (bytes_eq x k) refl l (λ m. distinct-push ks k (and_parts _ _ h).1 m)
  where
    at : (b : Bool) → bytes_eq x k ≡ b → suc (length ks) ≤ cond b 0 (suc (key_index k ks)) → (length ks ≤ key_index k ks → distinct (ks ++ k ∷ []) ≡ true) → distinct (x ∷ (ks ++ k ∷ [])) ≡ true
    at true e l f = absurd (omega (arith, l))
    at false e l f = rw (meets-push x k ks (and_parts _ _ h).0 e, f (omega (arith, l))) refl

module _ {V : Type 0} where
  key-at : (ms : List (List ℕ × V)) (i : ℕ) (d : List ℕ × V) → get_or (keys_of ms) i d.0 ≡ (get_or ms i d).0
  key-at [] i d = refl
  key-at (m ∷ ms) zero d = refl
  key-at (m ∷ ms) (suc i) d = key-at ms i d

  -- a key that stands at an index is found there, since each key stands once
  pub value-near : (ms : List (List ℕ × V)) (k : List ℕ) (i : ℕ) (d : List ℕ × V) → distinct (keys_of ms) ≡ true → i < length ms → d ≡ get_or ms i d → bytes_eq d.0 k ≡ true → value_of k ms ≡ Some d.1
  value-near [] k i d h l g e = absurd (omega (arith, l))
  value-near (m ∷ ms) k zero d h l g e = ap (λ o. cond (bytes_eq o.0 k) (Some o.1) (value_of k ms)) (sym g) ∙ ap (λ b. cond b (Some d.1) (value_of k ms)) e
  value-near (m ∷ ms) k (suc i) d h l g e = at (bytes_eq m.0 k) refl (value-near ms k i d (and_parts _ _ h).1 (omega (arith, l)) g e)
    where
      at : (b : Bool) → bytes_eq m.0 k ≡ b → value_of k ms ≡ Some d.1 → cond b (Some m.1) (value_of k ms) ≡ Some d.1
      at true f v = absurd (miss-at m.0 (keys_of ms) i d.0 (and_parts _ _ h).0 (omega (arith, l, length-keys ms)) ((bytes_eq-Decides m.0 k).0 f ∙ sym ((bytes_eq-Decides d.0 k).0 e) ∙ ap (λ o. o.0) g ∙ sym (key-at ms i d)))
      at false f v = v
