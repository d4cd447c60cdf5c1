-- Tests of equality that are true of equal values alone: of products, lists, options, numbers and texts, and of a variant
-- of an enum.
use mathlib.Core.Logic.{inl, inr}
use mathlib.Core.Bool.{true≢false, beq}
use lib.Pointwise.{pointwise}
use lib.Dec.{eqb}
use denote.Struct.Field.{Field as Part}
use denote.Enum.Compared.{Each, by}
use denote.Enum.Declared.{Choice}
use Rattle.std.proofs.Common.{◌≡◌, refl, sym, ap, ℕ, Bool, true, false, ◌&&◌, List, [], ◌∷◌, map, Option, Some, None, int_eq, ℤ}
use Rattle.std.specs.Option.{option_eq}
use Rattle.std.specs.Cmp.{signed_Decides, unsigned_Decides}

-- the test is true of x and no other
abbrev pub Tells : {A : Type 0} → (A → A → Bool) → A → Type 0
Tells {A} same x = (y : A) → same x y ≡ true → x ≡ y

pub and_true : (a b : Bool) → (a && b) ≡ true → (a ≡ true) × (b ≡ true)
and_true true b h = (refl, h)
and_true false b h = absurd (true≢false (sym h))

pub both : {A B : Type 0} (E : A → A → Bool) (F : B → B → Bool) (x : A) (y : B) → Tells E x → Tells F y → Tells (λ (p q : A × B). E p.0 q.0 && F p.1 q.1) (x, y)
both E F x y t u z h =
    let k = and_true (E x z.0) (F y z.1) h in
    let p = t z.0 k.0 in
    let q = u z.1 k.1 in
    λ i. (p i, q i)

pub one : {A : Type 0} (E : A → A → Bool) (x : A) → Tells E x → Tells (λ (p q : A × Unit {0}). E p.0 q.0) (x, tt)
one E x t z h = let p = t z.0 h in λ i. (p i, tt)

pub listed : {A X : Type 0} (E : X → X → Bool) (f : A → X) → ((a : A) → Tells E (f a)) → (xs : List A) → Tells (pointwise E) (map f xs)
listed E f t [] [] h = refl
listed E f t [] (y ∷ ys) h = absurd (true≢false (sym h))
listed E f t (x ∷ xs) [] h = absurd (true≢false (sym h))
listed E f t (x ∷ xs) (y ∷ ys) h =
    let k = and_true (E (f x) y) (pointwise E (map f xs) ys) h in
    let p = t x y k.0 in
    let q = listed E f t xs ys k.1 in
    λ i. p i ∷ q i

pub list : {X : Type 0} (E : X → X → Bool) → ((x : X) → Tells E x) → (xs : List X) → Tells (pointwise E) xs
list E t [] [] h = refl
list E t [] (y ∷ ys) h = absurd (true≢false (sym h))
list E t (x ∷ xs) [] h = absurd (true≢false (sym h))
list E t (x ∷ xs) (y ∷ ys) h =
    let k = and_true (E x y) (pointwise E xs ys) h in
    let p = t x y k.0 in
    let q = list E t xs ys k.1 in
    λ i. p i ∷ q i

pub optional : {X : Type 0} (E : X → X → Bool) → ((x : X) → Tells E x) → (o : Option X) → Tells (option_eq E) o
optional E t None None h = refl
optional E t None (Some y) h = absurd (true≢false (sym h))
optional E t (Some x) None h = absurd (true≢false (sym h))
optional E t (Some x) (Some y) h = ap Some (t x y h)

pub number : (n : ℕ) → Tells eqb n
number n m h = (unsigned_Decides n m).0 h

pub boolean : (b : Bool) → Tells beq b
boolean true true h = refl
boolean true false h = absurd (true≢false (sym h))
boolean false true h = absurd (true≢false (sym h))
boolean false false h = refl

pub integer : (n : ℤ) → Tells int_eq n
integer n m h = (signed_Decides n m).0 h

pub text : (s : List ℕ) → Tells (pointwise eqb) s
text = list eqb number

-- the test of the variant is true of its values and no others
abbrev pub TellsAt : (Fss : List (List Part)) → Each Bool Fss → Choice Fss → Type 0
TellsAt [] es c = Unit {0}
TellsAt (Fs ∷ Fss) es (inl x) = Tells es.0 x
TellsAt (Fs ∷ Fss) es (inr c) = TellsAt Fss es.1 c

pub told_by : (Fss : List (List Part)) (es : Each Bool Fss) (c d : Choice Fss) → TellsAt Fss es c → by false false Fss es c d ≡ true → c ≡ d
told_by [] es c d t h = absurd c
told_by (Fs ∷ Fss) es (inl x) (inl y) t h = ap inl (t y h)
told_by (Fs ∷ Fss) es (inl x) (inr d) t h = absurd (true≢false (sym h))
told_by (Fs ∷ Fss) es (inr c) (inl y) t h = absurd (true≢false (sym h))
told_by (Fs ∷ Fss) es (inr c) (inr d) t h = ap inr (told_by Fss es.1 c d t h)

abbrev pub point : Unit {0} → Unit {0} → Bool
point a b = true

pub bare : (y : Unit {0}) → true ≡ true → tt ≡ y
bare y h = refl
