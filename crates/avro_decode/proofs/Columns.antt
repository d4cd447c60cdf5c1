-- Columns that grow by a slot at a time, and what they are in the end.
use Rattle.std.proofs.Common.{◌≡◌, ◌∙◌, ℕ, zero, suc, ◌<◌, List, [], ◌∷◌, ◌++◌, length, get_or, set, refl, sym, ap, append_assoc, arith}
use Rattle.std.proofs.lemmas.List.{append-nil}
use Rattle.std.proofs.lemmas.List.FromFn.{fill_by_all}
use Rattle.arrow_core.specs.declared.slot.Slot.{Slot}
use Rattle.arrow_core.specs.declared.slot.Slot.TheVariants as slot
use Rattle.avro_schema.specs.Rows.{column}
use Rattle.avro_schema.specs.Columns.{columns}
use Rattle.avro_decode.specs.Decoding.{grown, grown_by, AreWide}

pub grown_none : (cs : List (List Slot)) → grown cs [] ≡ cs
grown_none [] = refl
grown_none (c ∷ cs) = refl

pub length-grown : (cs : List (List Slot)) (xs : List Slot) → length (grown cs xs) ≡ length cs
length-grown [] xs = refl
length-grown (c ∷ cs) [] = refl
length-grown (c ∷ cs) (x ∷ xs) = ap suc (length-grown cs xs)

pub grown_next : (cs : List (List Slot)) (xs : List Slot) (x : Slot) (k : ℕ) → length xs ≡ k → k < length cs → set (grown cs xs) k (get_or (grown cs xs) k [] ++ x ∷ []) ≡ grown cs (xs ++ x ∷ [])
grown_next [] xs x k e lt = absurd (omega (arith, lt))
grown_next (c ∷ cs) [] x zero e lt = ap (λ (ds : List (List Slot)). (c ++ x ∷ []) ∷ ds) (sym (grown_none cs))
grown_next (c ∷ cs) [] x (suc k) e lt = absurd (omega (arith, e))
grown_next (c ∷ cs) (y ∷ ys) x zero e lt = absurd (omega (arith, e))
grown_next (c ∷ cs) (y ∷ ys) x (suc k) e lt = ap (λ (ds : List (List Slot)). (c ++ y ∷ []) ∷ ds) (grown_next cs ys x k (omega (arith, e)) (omega (arith, lt)))

pub length-grown_by : (rows : List (List Slot)) (cs : List (List Slot)) → length (grown_by cs rows) ≡ length cs
length-grown_by [] cs = refl
length-grown_by (r ∷ rows) cs = length-grown_by rows (grown cs r) ∙ length-grown cs r

pub grown_by_next : (rows : List (List Slot)) (cs : List (List Slot)) (r : List Slot) → grown_by cs (rows ++ r ∷ []) ≡ grown (grown_by cs rows) r
grown_by_next [] cs r = refl
grown_by_next (q ∷ rows) cs r = grown_by_next rows (grown cs q) r

pub wide_next : (n : ℕ) (rows : List (List Slot)) (r : List Slot) → AreWide n rows → length r ≡ n → AreWide n (rows ++ r ∷ [])
wide_next n [] r w e = (e, tt)
wide_next n (q ∷ rows) r w e = (w.0, wide_next n rows r w.1 e)

-- ---- columns by index

grown_at : (cs : List (List Slot)) (xs : List Slot) (k : ℕ) → length xs ≡ length cs → k < length cs → get_or (grown cs xs) k [] ≡ get_or cs k [] ++ get_or xs k slot.Null ∷ []
grown_at [] xs k e lt = absurd (omega (arith, lt))
grown_at (c ∷ cs) [] k e lt = absurd (omega (arith, e))
grown_at (c ∷ cs) (x ∷ xs) zero e lt = refl
grown_at (c ∷ cs) (x ∷ xs) (suc k) e lt = grown_at cs xs k (omega (arith, e)) (omega (arith, lt))

pub wide_same : (m n : ℕ) (rows : List (List Slot)) → m ≡ n → AreWide m rows → AreWide n rows
wide_same m n rows e w = rw (sym e) w

grown_by_at : (rows : List (List Slot)) (cs : List (List Slot)) (k : ℕ) → AreWide (length cs) rows → k < length cs → get_or (grown_by cs rows) k [] ≡ get_or cs k [] ++ column rows k
grown_by_at [] cs k w lt = sym (append-nil (get_or cs k []))
grown_by_at (r ∷ rows) cs k w lt =
    let l = length-grown cs r in
    grown_by_at rows (grown cs r) k (wide_same _ _ rows (sym l) w.1) (omega (arith, lt, l))
    ∙ ap (λ (xs : List Slot). xs ++ column rows k) (grown_at cs r k w.0 lt)
    ∙ append_assoc (get_or cs k []) (get_or r k slot.Null ∷ []) (column rows k)

abbrev pub AreEmpty : List (List Slot) → Type 0
AreEmpty [] = Unit {0}
AreEmpty (c ∷ cs) = (c ≡ []) × AreEmpty cs

empty_at : (cs : List (List Slot)) (k : ℕ) → AreEmpty cs → get_or cs k [] ≡ []
empty_at [] k h = refl
empty_at (c ∷ cs) zero h = h.0
empty_at (c ∷ cs) (suc k) h = empty_at cs k h.1

-- empty columns that grew by rows are the columns of these rows
pub grown_columns : (rows : List (List Slot)) (cs : List (List Slot)) → AreEmpty cs → AreWide (length cs) rows → grown_by cs rows ≡ columns (length (grown_by cs rows)) rows
grown_columns rows cs h w =
    let l = length-grown_by rows cs in
    fill_by_all (column rows) (grown_by cs rows) (length (grown_by cs rows)) [] refl
    (λ k lt. grown_by_at rows cs k w (omega (arith, lt, l)) ∙ ap (λ (xs : List Slot). xs ++ column rows k) (empty_at cs k h))
