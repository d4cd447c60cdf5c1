-- What is gathered of several values, value by value.
use Rattle.std.proofs.Common.{◌≡◌, ◌⊎◌, inl, inr, ℕ, zero, suc, ◌+◌, ◌-◌, ◌<◌, ◌≤◌, List, [], ◌∷◌, ◌++◌, length, get_or, take, map, refl, sym, ap, ◌∙◌, arith, append_assoc, Option, Result, Ok, Err, IfErr}
use Rattle.std.specs.Prelude.{◌↔◌}
use Rattle.std.specs.Borrow.{Bor}
use Rattle.std.proofs.lemmas.List.{map-append, map_more, length-append, length-map, append-nil}
use Rattle.arrow_core.specs.declared.error.Error.{Error}
use Rattle.arrow_core.specs.declared.error.Error.TheVariants.{OutOfMemory, Overflow}
use Rattle.arrow_flat.specs.Nested.{items_of, list_len}
use Rattle.json_tree.specs.Tree.{Json}
use Rattle.json_tree.specs.declared.value.Value.{out-Value}
use Rattle.json_tree.specs.declared.value.Value.TheOpen as layer
use Rattle.json_tree.specs.declared.value.Value.TheVariants as variant
use Rattle.json_flat.specs.Meaning.{Layer}
use Rattle.json_flat.specs.Columns.{lent}
use Rattle.json_columns.specs.Faults.{IsCountFault}
use Rattle.json_columns.specs.Gathered.{all_items, items_in, len_in, list_lens}
use Rattle.json_columns.proofs.Layers.{array_items}

-- the values lent so far, and one more
pub lent_more : (vs : List (Bor Json)) (i : ℕ) (v : Bor Json) → i < length vs → v ≡ get_or vs i v → lent (take (i + 1) vs) ≡ lent (take i vs) ++ v.now ∷ []
lent_more vs i v lt is = map_more (λ b. b.now) vs i v lt ∙ ap (λ (b : Bor Json). lent (take i vs) ++ b.now ∷ []) (sym is)

-- what a function makes of each value lent so far, and of one more
pub made_more : {X : Type 0} (f : Json → X) (vs : List (Bor Json)) (i : ℕ) (v : Bor Json) → i < length vs → v ≡ get_or vs i v → map f (lent (take (i + 1) vs)) ≡ map f (lent (take i vs)) ++ f v.now ∷ []
made_more f vs i v lt is = ap (map f) (lent_more vs i v lt is) ∙ map-append f (lent (take i vs)) (v.now ∷ [])

all_items-append : (xs ys : List Json) → all_items (xs ++ ys) ≡ all_items xs ++ all_items ys
all_items-append [] ys = refl
all_items-append (x ∷ xs) ys = ap (λ l. items_in (out-Value x) ++ l) (all_items-append xs ys) ∙ sym (append_assoc (items_in (out-Value x)) (all_items xs) (all_items ys))

pub items_more : (vs : List (Bor Json)) (i : ℕ) (v : Bor Json) → i < length vs → v ≡ get_or vs i v → all_items (lent (take (i + 1) vs)) ≡ all_items (lent (take i vs)) ++ items_in (out-Value v.now)
items_more vs i v lt is =
    ap all_items (lent_more vs i v lt is) ∙ all_items-append (lent (take i vs)) (v.now ∷ [])
    ∙ ap (λ l. all_items (lent (take i vs)) ++ l) (append-nil (items_in (out-Value v.now)))

len_is : (l : Layer) → list_len (len_in l) ≡ length (items_in l)
len_is layer.Null = refl
len_is (layer.Bool b) = refl
len_is (layer.Number n) = refl
len_is (layer.String text) = refl
len_is (layer.Array items) = refl
len_is (layer.Object o) = refl

-- the lengths of the lists count their items
pub counted : (vs : List Json) → items_of (list_lens vs) ≡ length (all_items vs)
counted [] = refl
counted (v ∷ vs) = omega (arith, len_is (out-Value v), counted vs, length-append (items_in (out-Value v)) (all_items vs))

some_items : (vs : List (Bor Json)) (n : ℕ) → length (all_items (lent (take n vs))) ≤ length (all_items (lent vs))
some_items vs zero = omega arith
some_items [] (suc n) = omega arith
some_items (v ∷ vs) (suc n) =
    omega (arith, some_items vs n, length-append (items_in (out-Value v.now)) (all_items (lent (take n vs))), length-append (items_in (out-Value v.now)) (all_items (lent vs)))

-- too many items up to some value are too many
pub counts_fault : (greatest : ℕ) (vs : List (Bor Json)) (i n : ℕ) (v : Bor Json) (e : Error) → i < length vs → v ≡ get_or vs i v → n ≡ length (all_items (lent (take i vs)))
    → IsCountFault greatest (n + length (items_in (out-Value v.now))) e → IsCountFault greatest (length (all_items (lent vs))) e
counts_fault greatest vs i n v e lt is c (inl h) = inl h
counts_fault greatest vs i n v e lt is c (inr h) =
    inr (h.0, omega (arith, h.1, c, ap length (items_more vs i v lt is), length-append (all_items (lent (take i vs))) (items_in (out-Value v.now)), some_items vs (i + 1)))

take_all : {A : Type 0} (l : List A) (n : ℕ) → length l ≤ n → take n l ≡ l
take_all [] zero h = refl
take_all [] (suc n) h = refl
take_all (x ∷ l) zero h = absurd (omega (arith, h))
take_all (x ∷ l) (suc n) h = ap (λ k. x ∷ k) (take_all l n (omega (arith, h)))

-- all values
pub all_lent : {X : Type 0} (f : List Json → X) (vs : List (Bor Json)) (n : ℕ) (x : X) → length vs ≤ n → x ≡ f (lent (take n vs)) → x ≡ f (lent vs)
all_lent f vs n x le e = e ∙ ap (λ (l : List (Bor Json)). f (lent l)) (take_all vs n le)

-- ---- one list more

gathered_length : (array : List Json) (old new : List (Bor Json)) → lent new ≡ lent old ++ array → length new ≡ length old + length array
gathered_length array old new e =
    omega (arith, ap length e, length-append (lent old) array, length-map old (λ b. b.now), length-map new (λ b. b.now))

pub count_err : {A : Type 0} (r : Result A Error) (greatest n end m : ℕ) → IfErr r (λ e. (e ≡ Overflow) ⊎ (e ≡ OutOfMemory)) → ((r ≡ Err Overflow) ↔ ((end < n) ⊎ (greatest < end))) → n ≤ end → end ≡ m
    → IfErr r (IsCountFault greatest m)
count_err (Ok x) greatest n end m h b le em = tt
count_err (Err e) greatest n end m (inl o) b le em = inr (o, over (b.0 (ap (λ (z : Error). Err z) o)))
  where
    over : ((end < n) ⊎ (greatest < end)) → greatest < m
    over (inl l) = absurd (omega (arith, l, le))
    over (inr g) = omega (arith, g, em)
count_err (Err e) greatest n end m (inr o) b le em = inl o

pub list_err : {A : Type 0} (r : Result A Error) (v : Json) (array : List Json) (old new : List (Bor Json)) (greatest n end : ℕ) → v ≡ variant.Array array → lent new ≡ lent old ++ array → n ≡ length old → end ≡ length new
    → IfErr r (λ e. (e ≡ Overflow) ⊎ (e ≡ OutOfMemory)) → ((r ≡ Err Overflow) ↔ ((end < n) ⊎ (greatest < end))) → IfErr r (IsCountFault greatest (length old + length (items_in (out-Value v))))
list_err r v array old new greatest n end e l o t h b =
    let k = gathered_length array old new l in
    count_err r greatest n end _ h b (omega (arith, k, o, t)) (omega (arith, k, t, ap length (array_items v array e)))

-- ---- the lists of the values so far

pub lens_end : (vs : List Json) (ls : List (Option ℕ)) (items : List (Bor Json)) → ls ≡ list_lens vs → lent items ≡ all_items vs → items_of ls ≡ length items
lens_end vs ls items le ie = omega (arith, ap items_of le, counted vs, ap length ie, length-map items (λ b. b.now))

pub items_length : (vs : List Json) (items : List (Bor Json)) → lent items ≡ all_items vs → length items ≡ length (all_items vs)
items_length vs items ie = omega (arith, ap length ie, length-map items (λ b. b.now))

pub lens_more : (vs : List (Bor Json)) (i : ℕ) (v : Bor Json) (old new : List (Option ℕ)) → i < length vs → v ≡ get_or vs i v → old ≡ list_lens (lent (take i vs)) → new ≡ old ++ len_in (out-Value v.now) ∷ []
    → new ≡ list_lens (lent (take (i + 1) vs))
lens_more vs i v old new lt is h e = e ∙ ap (λ (l : List (Option ℕ)). l ++ len_in (out-Value v.now) ∷ []) h ∙ sym (made_more (λ w. len_in (out-Value w)) vs i v lt is)

pub all_more : (vs : List (Bor Json)) (i : ℕ) (v : Bor Json) (old new : List (Bor Json)) → i < length vs → v ≡ get_or vs i v → lent old ≡ all_items (lent (take i vs)) → lent new ≡ lent old ++ items_in (out-Value v.now)
    → lent new ≡ all_items (lent (take (i + 1) vs))
all_more vs i v old new lt is h e = e ∙ ap (λ (l : List Json). l ++ items_in (out-Value v.now)) h ∙ sym (items_more vs i v lt is)
