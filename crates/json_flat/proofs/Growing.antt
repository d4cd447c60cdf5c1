-- A column grows by the slots of its values.
use Rattle.std.proofs.Common.{◌≡◌, inl, inr, ℕ, zero, suc, ◌+◌, ◌<◌, ◌≤◌, List, [], ◌∷◌, ◌++◌, length, get_or, take, map, refl, sym, ap, ◌∙◌, subst, arith}
use Rattle.std.specs.Borrow.{Bor}
use Rattle.std.specs.Prelude.{Result, Ok, Err, IfOk, IfErr}
use Rattle.std.proofs.lemmas.List.Sums.{sum_by_more_le}
use Rattle.std.proofs.lemmas.List.{map-append, map_more, length-map, get_or-map, take-map}
use Rattle.arrow_core.specs.declared.error.Error.{Error}
use Rattle.arrow_core.specs.declared.error.Error.TheVariants.{OutOfMemory, Overflow}
use Rattle.arrow_core.specs.declared.slot.Slot.{Slot}
use Rattle.arrow_core.specs.declared.types.DataType.{DataType}
use Rattle.json_tree.specs.Tree.{Json}
use Rattle.json_flat.specs.Meaning.{Meaning, Layer, slot_of, unfit}
use Rattle.json_flat.specs.Columns.{AreSlotsOf, Has, IsNoSlot, Pushes, IsPushFault, IsColumnFault, IsTextFault, IsTooLong, lent, means, size_of, total_size}

-- the values lent so far, and one more
lent_more : (vs : List (Bor Json)) (i : ℕ) (v : Bor Json) → i < length vs → v ≡ get_or vs i v → lent (take (i + 1) vs) ≡ lent (take i vs) ++ v.now ∷ []
lent_more vs i v lt is = map_more (λ b. b.now) vs i v lt ∙ ap (λ (b : Bor Json). lent (take i vs) ++ b.now ∷ []) (sym is)

pub pushed : (f : Layer → Meaning) (vs : List (Bor Json)) (i : ℕ) (v : Bor Json) (old new : List Slot) → i < length vs → v ≡ get_or vs i v → AreSlotsOf f (lent (take i vs)) old → Pushes f v.now old new → AreSlotsOf f (lent (take (i + 1) vs)) new
pushed f vs i v old new lt is h p =
    let one : means f v.now ≡ slot_of p.0 = p.1 in
    ap (map (means f)) (lent_more vs i v lt is) ∙ map-append (means f) (lent (take i vs)) (v.now ∷ [])
    ∙ (λ j. h j ++ one j ∷ []) ∙ sym (map-append slot_of old (p.0 ∷ [])) ∙ ap (map slot_of) (sym p.2)

take-all : {A : Type 0} (l : List A) (n : ℕ) → length l ≤ n → take n l ≡ l
take-all [] zero h = refl
take-all [] (suc n) h = refl
take-all (x ∷ l) zero h = absurd (omega (arith, h))
take-all (x ∷ l) (suc n) h = ap (λ k. x ∷ k) (take-all l n (omega (arith, h)))

pub finished : (f : Layer → Meaning) (vs : List (Bor Json)) (n : ℕ) (slots : List Slot) → length vs ≤ n → AreSlotsOf f (lent (take n vs)) slots → AreSlotsOf f (lent vs) slots
finished f vs n slots le h = ap (λ (l : List (Bor Json)). map (means f) (lent l)) (sym (take-all vs n le)) ∙ h

-- the value at an index among those that are lent
lent_at : (vs : List (Bor Json)) (i : ℕ) (v : Bor Json) → i < length vs → v ≡ get_or vs i v → get_or (lent vs) i v.now ≡ v.now
lent_at vs i v lt is = get_or-map (λ b. b.now) vs i v v.now lt ∙ ap (λ (b : Bor Json). b.now) (sym is)

-- the first fault of a value is the column's
pub faulty : (f : Layer → Meaning) (too_many : Type 0) (vs : List (Bor Json)) (i : ℕ) (v : Bor Json) (e : Error) → i < length vs → v ≡ get_or vs i v → IsPushFault f v.now e → IsColumnFault f too_many (lent vs) e
faulty f too_many vs i v e lt is (inl h) = inl h
faulty f too_many vs i v e lt is (inr (inl h)) =
    inr (inl (h.0, (i, v.now, omega (arith, lt, length-map vs (λ b. b.now)), lent_at vs i v lt is, h.1)))
faulty f too_many vs i v e lt is (inr (inr h)) =
    inr (inr (h.0, inl (i, v.now, omega (arith, lt, length-map vs (λ b. b.now)), lent_at vs i v lt is, subst IsNoSlot (sym h.1) tt)))

-- an `Overflow` comes of a value that doesn't fit
pub misfit : (f : Layer → Meaning) (vs : List (Bor Json)) (i : ℕ) (v : Bor Json) (e : Error) → i < length vs → v ≡ get_or vs i v → IsPushFault f v.now e → e ≡ Overflow → Has unfit f (lent vs)
misfit f vs i v e lt is (inl h) o = absurd cc
misfit f vs i v e lt is (inr (inl h)) o = let k = h.0 in absurd cc
misfit f vs i v e lt is (inr (inr h)) o = (i, v.now, omega (arith, lt, length-map vs (λ b. b.now)), lent_at vs i v lt is, h.1)

pub no-overflow : {A : Type 0} (P : Type 0) (r : Result A Error) → IfErr r (λ e. e ≡ OutOfMemory) → IfErr r (λ e. e ≡ Overflow → P)
no-overflow P (Ok a) h = tt
no-overflow P (Err e) h = λ o. absurd cc

-- the first string that is too much
pub too-long : (greatest : ℕ) (f : Layer → Meaning) (vs : List (Bor Json)) (i : ℕ) (v : Bor Json) (before : ℕ) (e : Error) → i < length vs → v ≡ get_or vs i v → before ≡ total_size f (lent (take i vs)) → IsTextFault greatest before f v.now e → IsColumnFault f (IsTooLong greatest f (lent vs)) (lent vs) e
too-long greatest f vs i v before e lt is eb (inl h) = inl h
too-long greatest f vs i v before e lt is eb (inr h) =
    let size : Json → ℕ = λ k. size_of (means f k) in
    let len : i < length (lent vs) = omega (arith, lt, length-map vs (λ b. b.now)) in
    let same : total_size f (lent (take i vs)) ≡ total_size f (take i (lent vs)) = ap (total_size f) (sym (take-map (λ b. b.now) i vs)) in
    inr (inr (h.0, inr (omega (arith, h.1, eb, same, sum_by_more_le size (lent vs) i v.now len, ap size (lent_at vs i v lt is)))))

-- the array of a builder
pub boxed : {A : Type 0} (r : Result A Error) (view : A → List Slot) (f : Layer → Meaning) (vs : List (Bor Json)) (n : ℕ) (s : List Slot) → length vs ≤ n → AreSlotsOf f (lent (take n vs)) s → IfOk r (λ a. view a ≡ s) → IfOk r (λ a. AreSlotsOf f (lent vs) (view a))
boxed (Ok a) view f vs n s le h e = subst (AreSlotsOf f (lent vs)) (sym e) (finished f vs n s le h)
boxed (Err x) view f vs n s le h e = tt

pub typed : {A : Type 0} (r : Result A Error) (view : A → DataType) (t u : DataType) → t ≡ u → IfOk r (λ a. view a ≡ t) → IfOk r (λ a. view a ≡ u)
typed (Ok a) view t u e h = h ∙ e
typed (Err x) view t u e h = tt

pub no-memory : {A : Type 0} (r : Result A Error) (f : Layer → Meaning) (too_many : Type 0) (vs : List Json) → IfErr r (λ e. e ≡ OutOfMemory) → IfErr r (IsColumnFault f too_many vs)
no-memory (Ok a) f too_many vs h = tt
no-memory (Err e) f too_many vs h = inl h
