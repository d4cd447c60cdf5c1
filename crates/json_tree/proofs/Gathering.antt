-- Members that are put in one after another are gathered, and in one way.
use Rattle.std.proofs.Common.{◌≡◌, ℕ, Bool, true, false, not, cond, ◌||◌, List, [], ◌∷◌, ◌++◌, filter, length, drop, get_or, Option, Some, None, refl, sym, ap, ◌∙◌, subst, append_assoc, arith}
use Rattle.std.proofs.lemmas.List.{append-nil, reverse-append}
use Rattle.std.proofs.lemmas.Bool.{and_parts, true≢false}
use Rattle.std.proofs.lemmas.Slice.Eq.{bytes_eq-Decides}
use Rattle.std.specs.Str.{bytes_eq}
use Rattle.json_tree.specs.Tree.{Json}
use Rattle.json_tree.specs.Keys.{keys_of, first_keys, value_of, Gathers}
use Rattle.json_tree.specs.Layout.{meets, distinct, put}
use Rattle.json_tree.specs.Reading.{put_all, put_together}
use Rattle.json_tree.proofs.KeyIndices.{keys-append}

same : (x y : List ℕ) → bytes_eq x y ≡ true → x ≡ y
same x y e = (bytes_eq-Decides x y).0 e

clash : (x y : List ℕ) → x ≡ y → bytes_eq x y ≡ false → ⊥
clash x y e f = true≢false (sym ((bytes_eq-Decides x y).1 e) ∙ f)

not-false : (b : Bool) → not b ≡ true → b ≡ false
not-false true e = sym e
not-false false e = refl

-- ---- keys

-- one more key, where it isn't there
abbrev add : List ℕ → List (List ℕ) → List (List ℕ)
add k [] = k ∷ []
add k (x ∷ xs) = cond (bytes_eq x k) (x ∷ xs) (x ∷ add k xs)

-- the keys that differ from this one
abbrev others : List ℕ → List (List ℕ) → List (List ℕ)
others x ks = filter (λ other. not (bytes_eq x other)) ks

others-add : (x k : List ℕ) (ks : List (List ℕ)) → others x (add k ks) ≡ cond (bytes_eq x k) (others x ks) (add k (others x ks))
others-add x k [] = at (bytes_eq x k)
  where
    at : (c : Bool) → cond (not c) (k ∷ []) [] ≡ cond c [] (k ∷ [])
    at true = refl
    at false = refl
others-add x k (y ∷ ys) = at (bytes_eq y k) refl (bytes_eq x y) refl (bytes_eq x k) refl (others-add x k ys)
  where
    at : (a : Bool) → bytes_eq y k ≡ a → (b : Bool) → bytes_eq x y ≡ b → (c : Bool) → bytes_eq x k ≡ c
        → others x (add k ys) ≡ cond c (others x ys) (add k (others x ys))
        → others x (cond a (y ∷ ys) (y ∷ add k ys)) ≡ cond c (cond (not b) (y ∷ others x ys) (others x ys)) (add k (cond (not b) (y ∷ others x ys) (others x ys)))
    at true p true q true r h = rw q refl
    at true p false q true r h = rw q refl
    at true p true q false r h = absurd (clash x k (same x y q ∙ same y k p) r)
    at true p false q false r h = rw (q, p) refl
    at false p true q c r h = rw q h
    at false p false q true r h = rw q (ap (λ l. y ∷ l) h)
    at false p false q false r h = rw (q, p) (ap (λ l. y ∷ l) h)

first-add : (ks : List (List ℕ)) (k : List ℕ) → first_keys (ks ++ k ∷ []) ≡ add k (first_keys ks)
first-add [] k = refl
first-add (x ∷ xs) k = ap (λ l. x ∷ others x l) (first-add xs k) ∙ ap (λ l. x ∷ l) (others-add x k (first_keys xs)) ∙ at (bytes_eq x k)
  where
    at : (c : Bool) → x ∷ cond c (others x (first_keys xs)) (add k (others x (first_keys xs))) ≡ cond c (x ∷ others x (first_keys xs)) (x ∷ add k (others x (first_keys xs)))
    at true = refl
    at false = refl

others-miss : (x : List ℕ) (ks : List (List ℕ)) → meets x (others x ks) ≡ false
others-miss x [] = refl
others-miss x (y ∷ ys) = at (bytes_eq x y) refl (others-miss x ys)
  where
    at : (b : Bool) → bytes_eq x y ≡ b → meets x (others x ys) ≡ false → meets x (cond (not b) (y ∷ others x ys) (others x ys)) ≡ false
    at true q h = h
    at false q h = rw q h

others-fewer : (z x : List ℕ) (ks : List (List ℕ)) → meets z ks ≡ false → meets z (others x ks) ≡ false
others-fewer z x [] e = refl
others-fewer z x (y ∷ ys) e = at (bytes_eq z y) refl e (bytes_eq x y) (others-fewer z x ys)
  where
    at : (a : Bool) → bytes_eq z y ≡ a → (a || meets z ys) ≡ false → (b : Bool) → (meets z ys ≡ false → meets z (others x ys) ≡ false) → meets z (cond (not b) (y ∷ others x ys) (others x ys)) ≡ false
    at true p e b f = absurd (true≢false e)
    at false p e true f = f e
    at false p e false f = rw p (f e)

others-distinct : (x : List ℕ) (ks : List (List ℕ)) → distinct ks ≡ true → distinct (others x ks) ≡ true
others-distinct x [] e = refl
others-distinct x (y ∷ ys) e = let h = and_parts _ _ e in at (bytes_eq x y) (others-fewer y x ys (not-false _ h.0)) (others-distinct x ys h.1)
  where
    at : (b : Bool) → meets y (others x ys) ≡ false → distinct (others x ys) ≡ true → distinct (cond (not b) (y ∷ others x ys) (others x ys)) ≡ true
    at true m d = d
    at false m d = rw (m, d) refl

first-distinct : (ks : List (List ℕ)) → distinct (first_keys ks) ≡ true
first-distinct [] = refl
first-distinct (k ∷ ks) = rw (others-miss k (first_keys ks), others-distinct k (first_keys ks) (first-distinct ks)) refl

-- ---- one more member

module _ {V : Type 0} where
  put-keys : (ms : List (List ℕ × V)) (m : List ℕ × V) → keys_of (put ms m) ≡ add m.0 (keys_of ms)
  unfolding put
  put-keys [] m = refl
  put-keys (o ∷ os) m = at (bytes_eq o.0 m.0) (put-keys os m)
    where
      at : (b : Bool) → keys_of (put os m) ≡ add m.0 (keys_of os) → keys_of (cond b ((o.0, m.1) ∷ os) (o ∷ put os m)) ≡ cond b (o.0 ∷ keys_of os) (o.0 ∷ add m.0 (keys_of os))
      at true h = refl
      at false h = ap (λ l. o.0 ∷ l) h

  put-value : (ms : List (List ℕ × V)) (m : List ℕ × V) (key : List ℕ) → value_of key (put ms m) ≡ cond (bytes_eq m.0 key) (Some m.1) (value_of key ms)
  unfolding put
  put-value [] m key = refl
  put-value (o ∷ os) m key = at (bytes_eq o.0 m.0) refl (bytes_eq o.0 key) refl (bytes_eq m.0 key) refl (put-value os m key)
    where
      at : (a : Bool) → bytes_eq o.0 m.0 ≡ a → (b : Bool) → bytes_eq o.0 key ≡ b → (c : Bool) → bytes_eq m.0 key ≡ c
          → value_of key (put os m) ≡ cond c (Some m.1) (value_of key os)
          → value_of key (cond a ((o.0, m.1) ∷ os) (o ∷ put os m)) ≡ cond c (Some m.1) (cond b (Some o.1) (value_of key os))
      at true p true q true r h = rw q refl
      at true p false q false r h = rw q refl
      at true p true q false r h = absurd (clash m.0 key (sym (same o.0 m.0 p) ∙ same o.0 key q) r)
      at true p false q true r h = absurd (clash o.0 key (same o.0 m.0 p ∙ same m.0 key r) q)
      at false p true q true r h = absurd (clash o.0 m.0 (same o.0 key q ∙ sym (same m.0 key r)) p)
      at false p true q false r h = rw q refl
      at false p false q c r h = rw q h

  put-gathers : (raw old : List (List ℕ × V)) (m : List ℕ × V) → Gathers raw old → Gathers (raw ++ m ∷ []) (put old m)
  put-gathers raw old m h = record {
    keys = put-keys old m ∙ ap (add m.0) h.keys ∙ sym (first-add (keys_of raw) m.0) ∙ ap first_keys (sym (keys-append raw m.0 m.1));
    values = λ key. put-value old m key ∙ ap (λ o. cond (bytes_eq m.0 key) (Some m.1) o) (h.values key) ∙ ap (value_of key) (sym (reverse-append raw (m ∷ [])));
  }

  -- ---- in one way

  value-miss : (key : List ℕ) (ms : List (List ℕ × V)) → meets key (keys_of ms) ≡ false → value_of key ms ≡ None
  value-miss key [] e = refl
  value-miss key (m ∷ ms) e = at (bytes_eq key m.0) refl e (bytes_eq m.0 key) refl (value-miss key ms)
    where
      at : (a : Bool) → bytes_eq key m.0 ≡ a → (a || meets key (keys_of ms)) ≡ false → (b : Bool) → bytes_eq m.0 key ≡ b → (meets key (keys_of ms) ≡ false → value_of key ms ≡ None) → cond b (Some m.1) (value_of key ms) ≡ None
      at true p e b q f = absurd (true≢false e)
      at false p e true q f = absurd (clash key m.0 (sym (same m.0 key q)) p)
      at false p e false q f = f e

  abbrev some_or : V → Option V → V
  some_or v None = v
  some_or v (Some w) = w

  head-value : (v w : V) (b : Bool) (x y : Option V) → b ≡ true → cond b (Some v) x ≡ cond b (Some w) y → v ≡ w
  head-value v w true x y p e = ap (some_or v) e
  head-value v w false x y p e = absurd (true≢false (sym p))

  tail-values : (k : List ℕ) (v w : V) (ms os : List (List ℕ × V)) → meets k (keys_of ms) ≡ false → meets k (keys_of os) ≡ false
      → ((key : List ℕ) → value_of key ((k, v) ∷ ms) ≡ value_of key ((k, w) ∷ os)) → (key : List ℕ) → value_of key ms ≡ value_of key os
  tail-values k v w ms os a b f key = at (bytes_eq k key) refl (f key)
    where
      at : (c : Bool) → bytes_eq k key ≡ c → cond c (Some v) (value_of key ms) ≡ cond c (Some w) (value_of key os) → value_of key ms ≡ value_of key os
      at true p e =
          let is = same k key p in
          value-miss key ms (subst (λ x. meets x (keys_of ms) ≡ false) is a) ∙ sym (value-miss key os (subst (λ x. meets x (keys_of os) ≡ false) is b))
      at false p e = e

  -- members with distinct keys are told by their keys and values
  one-object : (a b : List (List ℕ × V)) → keys_of a ≡ keys_of b → distinct (keys_of a) ≡ true → ((key : List ℕ) → value_of key a ≡ value_of key b) → a ≡ b
  one-object [] [] e d f = refl
  one-object [] (o ∷ os) e d f = absurd (omega (arith, ap length e))
  one-object (m ∷ ms) [] e d f = absurd (omega (arith, ap length e))
  one-object (m ∷ ms) (o ∷ os) e d f =
      let key : m.0 ≡ o.0 = ap (λ ks. get_or ks 0 []) e in
      let tail : keys_of ms ≡ keys_of os = ap (drop 1) e in
      let parts = and_parts _ _ d in
      let miss = not-false _ parts.0 in
      let g = subst (λ k. (x : List ℕ) → value_of x (m ∷ ms) ≡ value_of x ((k, o.1) ∷ os)) (sym key) f in
      let value : m.1 ≡ o.1 = head-value m.1 o.1 (bytes_eq m.0 m.0) (value_of m.0 ms) (value_of m.0 os) ((bytes_eq-Decides m.0 m.0).1 refl) (g m.0) in
      let rest = one-object ms os tail parts.1 (tail-values m.0 m.1 o.1 ms os miss (subst (λ ks. meets m.0 ks ≡ false) tail miss) g) in
      ap (λ v. (m.0, v) ∷ ms) value ∙ ap (λ k. (k, o.1) ∷ ms) key ∙ ap (λ l. o ∷ l) rest

-- ---- all members

gathers-more : (raw old ms : List (List ℕ × Json)) → Gathers raw old → Gathers (raw ++ ms) (put_all old ms)
gathers-more raw old [] h = subst (λ r. Gathers r old) (sym (append-nil raw)) h
gathers-more raw old (m ∷ ms) h = subst (λ r. Gathers r (put_all (put old m) ms)) (append_assoc raw (m ∷ []) ms) (gathers-more (raw ++ m ∷ []) (put old m) ms (put-gathers raw old m h))

pub gathers : (ms : List (List ℕ × Json)) → Gathers ms (put_together ms)
gathers ms = gathers-more [] [] ms (record { keys = refl; values = λ key. refl })

pub gathered-once : (ms object : List (List ℕ × Json)) → Gathers ms object → object ≡ put_together ms
gathered-once ms object h =
    let k = gathers ms in
    one-object object (put_together ms) (h.keys ∙ sym k.keys) (ap distinct h.keys ∙ first-distinct (keys_of ms)) (λ key. h.values key ∙ sym (k.values key))
