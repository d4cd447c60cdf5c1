-- The turns of a loop over entries.
use Rattle.std.proofs.Common.{◌≡◌, ◌≢◌, ℕ, zero, suc, ◌≤◌, ◌-◌, set, Bool, true, false, cond, eqb, List, [], ◌∷◌, ◌++◌, length, refl, sym, ap, ◌∙◌, subst, arith}
use Rattle.std.proofs.lemmas.Bool.Decides.{nat_tests}
use Rattle.std.proofs.lemmas.Bool.{eq-eqb}
use Rattle.std.proofs.lemmas.List.{length-append}
use Rattle.std.proofs.Math.Seq.{set-append_seam}
use Rattle.std.specs.Prelude.{MatchOption, Option, Some, None}
use Rattle.json_tree.specs.Tree.{Json, null, boolean, string, array, object}
use Rattle.json_tree.specs.Layout.{put}
use Rattle.json_tree.specs.Grammar.{is_space, text_null, text_true, text_false}
use Rattle.json_tree.specs.Reading.{Outcome, found, wrong, bind, on_first, First, skip, strip, more_at, entry_at, listed_at, led, put_all, put_together, string_at, number_at, scalar_at, member_at, array_at, object_at, value_at}
use Rattle.json_tree.specs.Gives.{Fails}
use Rattle.json_tree.specs.declared.value.JsonFault.{JsonFault}
use Rattle.json_tree.specs.declared.value.JsonFault.TheVariants.{Text, Depth, Memory}
use Rattle.json_tree.proofs.ListLaws.{Reader, skip-stop}
use Rattle.json_tree.proofs.Scalars.{head_or}

pub skip-length : (b : List ℕ) → length (skip b) ≤ length b
unfolding skip
skip-length [] = omega arith
skip-length (x ∷ t) = tested (skip-length t) (is_space x)
  where
    tested : length (skip t) ≤ length t → (v : Bool) → length (cond v (skip t) (x ∷ t)) ≤ length (x ∷ t)
    tested h true = omega (arith, h)
    tested h false = omega arith

pub skip-skip : (b : List ℕ) → skip (skip b) ≡ skip b
unfolding skip
skip-skip [] = refl
skip-skip (x ∷ t) = tested (skip-skip t) (is_space x) refl
  where
    tested : skip (skip t) ≡ skip t → (v : Bool) → is_space x ≡ v → skip (cond v (skip t) (x ∷ t)) ≡ cond v (skip t) (x ∷ t)
    tested h true e = h
    tested h false e = skip-stop x t e

pub fails-bind : {A B : Type 0} (e : JsonFault) (o : Outcome A) (k : A → List ℕ → Outcome B) → Fails e o → Fails e (bind o k)
fails-bind Text o k h = ap (λ p. bind p k) h
fails-bind Depth o k h = ap (λ p. bind p k) h
fails-bind Memory o k h = tt

pub fails-same : {A : Type 0} (e : JsonFault) (o p : Outcome A) → o ≡ p → Fails e o → Fails e p
fails-same e o p q h = subst (Fails e) q h

pub ne-eqb : (x k : ℕ) → x ≢ k → eqb x k ≡ false
ne-eqb x k h = grind (arith, nat_tests, h)

-- ---- one turn

pub more-next : {A : Type 0} (g : Reader A) (z n : ℕ) (old : List A) (r s : List ℕ) → skip r ≡ 44 ∷ s → length r ≤ n → (m : ℕ) × (length s ≤ m) × (more_at g z n old r ≡ entry_at g z m old s)
unfolding more_at
more-next g z zero old r s e l = absurd (omega (arith, l, skip-length r, ap length e))
more-next g z (suc n) old r s e l = (n, omega (arith, l, skip-length r, ap length e), rw e refl)

pub more-end : {A : Type 0} (g : Reader A) (z n : ℕ) (old : List A) (r s : List ℕ) → skip r ≡ z ∷ s → z ≢ 44 → length r ≤ n → more_at g z n old r ≡ found old s
unfolding more_at
more-end g z zero old r s e h l = absurd (omega (arith, l, skip-length r, ap length e))
more-end g z (suc n) old r s e h l = rw (e, ne-eqb z 44 h, eq-eqb z z refl) refl

pub more-bad : {A : Type 0} (g : Reader A) (z n : ℕ) (old : List A) (r : List ℕ) → First (λ x t. (x ≢ 44) × (x ≢ z)) (skip r) → more_at g z n old r ≡ wrong
unfolding more_at
more-bad g z zero old r h = refl
more-bad {A} g z (suc n) old r h = first (skip r) h
  where
    first : (s : List ℕ) → First (λ x t. (x ≢ 44) × (x ≢ z)) s → on_first wrong (λ x t. cond (eqb x 44) (bind (g t) (λ y r. more_at g z n (old ++ y ∷ []) r)) (cond (eqb x z) (found old t) wrong)) s ≡ wrong
    first [] h = refl
    first (x ∷ t) h = rw (ne-eqb x 44 h.0, ne-eqb x z h.1) refl

-- ---- the first turn

pub listed-empty : {A : Type 0} (g : Reader A) (z : ℕ) (b s : List ℕ) → skip b ≡ z ∷ s → listed_at g z b ≡ found [] s
unfolding listed_at
listed-empty g z b s e = rw (e, eq-eqb z z refl) refl

pub listed-first : {A : Type 0} (g : Reader A) (z : ℕ) (b : List ℕ) → (skip b ≡ [] → g b ≡ wrong) → First (λ x t. x ≢ z) (skip b) → entry_at g z (length b) [] b ≡ listed_at g z b
unfolding listed_at
listed-first {A} g z b w h = first (skip b) w h
  where
    first : (s : List ℕ) → (s ≡ [] → g b ≡ wrong) → First (λ x t. x ≢ z) s → entry_at g z (length b) [] b ≡ on_first wrong (λ x t. cond (eqb x z) (found [] t) (entry_at g z (length b) [] b)) s
    first [] w h = ap (λ o. bind o (λ y r. more_at g z (length b) (y ∷ []) r)) (w refl)
    first (x ∷ t) w h = rw (ne-eqb x z h) refl

value-nil : (d : ℕ) → value_at d [] ≡ wrong
unfolding value_at
value-nil zero = refl
value-nil (suc d) = refl

member-nil : (d : ℕ) (b : List ℕ) → skip b ≡ [] → member_at (value_at d) b ≡ wrong
unfolding member_at string_at
member-nil d b e = rw e refl

-- ---- arrays

-- a value that is pushed first and set then
pub pushed-set : (old new : List Json) (x y : Json) (n : ℕ) → new ≡ old ++ x ∷ [] → n ≡ length new → set new (n - 1) y ≡ old ++ y ∷ []
pushed-set old new x y n p l =
    let at : n - 1 ≡ length old = omega (arith, l, ap length p, length-append old (x ∷ [])) in
    rw (at, p) (set-append_seam old x [] y)

abbrev Cells : ℕ → Reader Json
Cells d = led (value_at d)

abbrev pub ArrayTurn : ℕ → ℕ → List Json → List ℕ → List ℕ → Type 0
ArrayTurn d n old r b = entry_at (led (value_at d)) 93 n old r ≡ listed_at (led (value_at d)) 93 b

pub array-empty : (d : ℕ) (b s : List ℕ) → skip b ≡ 93 ∷ s → array_at (value_at d) b ≡ found (array []) s
array-empty d b s e = ap (λ o. bind o (λ xs r. found (array xs) r)) (listed-empty (Cells d) 93 b s e)

pub array-start : (d : ℕ) (b r : List ℕ) → r ≡ skip b → First (λ x t. x ≢ 93) (skip b) → (n : ℕ) × (length r ≤ n) × ArrayTurn d n [] r b
array-start d b r e h =
    let same : Cells d r ≡ Cells d b = ap (λ l. value_at d (skip l)) e ∙ ap (value_at d) (skip-skip b) in
    (length b, omega (arith, skip-length b, ap length e), ap (λ o. bind o (λ y q. more_at (Cells d) 93 (length b) (y ∷ []) q)) same ∙ listed-first (Cells d) 93 b (λ k. ap (value_at d) k ∙ value-nil d) h)

array-then : (d n : ℕ) (old : List Json) (x : Json) (r b q : List ℕ) → ArrayTurn d n old r b → value_at d (skip r) ≡ found x q → more_at (Cells d) 93 n (old ++ x ∷ []) q ≡ listed_at (Cells d) 93 b
array-then d n old x r b q t e = sym (ap (λ o. bind o (λ y q. more_at (Cells d) 93 n (old ++ y ∷ []) q)) e) ∙ t

pub array-bad : (d n : ℕ) (old : List Json) (x : Json) (r b q : List ℕ) → ArrayTurn d n old r b → value_at d (skip r) ≡ found x q → First (λ x t. (x ≢ 44) × (x ≢ 93)) (skip q) → array_at (value_at d) b ≡ wrong
array-bad d n old x r b q t e h = ap (λ o. bind o (λ xs p. found (array xs) p)) (sym (array-then d n old x r b q t e) ∙ more-bad (Cells d) 93 n (old ++ x ∷ []) q h)

pub array-next : (d n : ℕ) (old new : List Json) (x : Json) (r b q s : List ℕ) → ArrayTurn d n old r b → length q ≤ n → value_at d (skip r) ≡ found x q → skip q ≡ 44 ∷ s → new ≡ old ++ x ∷ [] → (m : ℕ) × (length s ≤ m) × ArrayTurn d m new s b
array-next d n old new x r b q s t l e c a =
    let m = more-next (Cells d) 93 n (old ++ x ∷ []) q s c l in
    (m.0, m.1, ap (λ o. entry_at (Cells d) 93 m.0 o s) a ∙ sym m.2 ∙ array-then d n old x r b q t e)

pub array-end : (d n : ℕ) (old new : List Json) (x : Json) (r b q s : List ℕ) → ArrayTurn d n old r b → length q ≤ n → value_at d (skip r) ≡ found x q → skip q ≡ 93 ∷ s → new ≡ old ++ x ∷ [] → array_at (value_at d) b ≡ found (array new) s
array-end d n old new x r b q s t l e c a =
    let m = more-end (Cells d) 93 n (old ++ x ∷ []) q s c (λ k. absurd (omega (arith, k))) l in
    ap (λ o. bind o (λ xs p. found (array xs) p)) (sym (array-then d n old x r b q t e) ∙ m) ∙ ap (λ o. found (array o) s) (sym a)

-- ---- objects

abbrev pub ObjectTurn : ℕ → ℕ → List (List ℕ × Json) → List ℕ → List ℕ → Type 0
ObjectTurn d n raw r b = entry_at (member_at (value_at d)) 125 n raw r ≡ listed_at (member_at (value_at d)) 125 b

abbrev Fields : ℕ → Reader (List ℕ × Json)
Fields d = member_at (value_at d)

pub object-empty : (d : ℕ) (b s : List ℕ) → skip b ≡ 125 ∷ s → object_at (value_at d) b ≡ found (object []) s
object-empty d b s e = ap (λ o. bind o (λ xs r. found (object (put_together xs)) r)) (listed-empty (Fields d) 125 b s e)

member-skip : (f : Reader Json) (b : List ℕ) → member_at f (skip b) ≡ member_at f b
unfolding member_at
member-skip f b = ap (λ l. bind (string_at l) (λ k r. bind (strip (58 ∷ []) (skip r)) (λ _ q. bind (led f q) (λ x p. found (k, x) p)))) (skip-skip b)

pub object-start : (d : ℕ) (b r : List ℕ) → r ≡ skip b → First (λ x t. x ≢ 125) (skip b) → (n : ℕ) × (length r ≤ n) × ObjectTurn d n [] r b
object-start d b r e h =
    let same : Fields d r ≡ Fields d b = ap (Fields d) e ∙ member-skip (value_at d) b in
    (length b, omega (arith, skip-length b, ap length e), ap (λ o. bind o (λ y q. more_at (Fields d) 125 (length b) (y ∷ []) q)) same ∙ listed-first (Fields d) 125 b (λ k. member-nil d b k) h)

abbrev AfterKey : Reader Json → List ℕ → List ℕ → Outcome (List ℕ × Json)
AfterKey f k q = bind (strip (58 ∷ []) (skip q)) (λ _ p. bind (led f p) (λ x o. found (k, x) o))

pub key-err : (e : JsonFault) (f : Reader Json) (r : List ℕ) → Fails e (string_at (skip r)) → Fails e (member_at f r)
unfolding member_at
key-err e f r h = fails-bind e (string_at (skip r)) (λ k q. AfterKey f k q) h

colon-wrong : (s : List ℕ) → First (λ x t. x ≢ 58) s → strip (58 ∷ []) s ≡ wrong
unfolding strip
colon-wrong [] h = refl
colon-wrong (x ∷ t) h = rw (ne-eqb x 58 h) refl

pub colon-err : (f : Reader Json) (r k q : List ℕ) → string_at (skip r) ≡ found k q → First (λ x t. x ≢ 58) (skip q) → member_at f r ≡ wrong
unfolding member_at
colon-err f r k q e h = rw (e, colon-wrong (skip q) h) refl

after-colon : (f : Reader Json) (r k q p : List ℕ) → string_at (skip r) ≡ found k q → skip q ≡ 58 ∷ p → member_at f r ≡ bind (f (skip p)) (λ x o. found (k, x) o)
unfolding member_at strip
after-colon f r k q p e h = rw (e, h) refl

pub item-err : (e : JsonFault) (f : Reader Json) (r k q p : List ℕ) → string_at (skip r) ≡ found k q → skip q ≡ 58 ∷ p → Fails e (f (skip p)) → Fails e (member_at f r)
item-err e f r k q p h c i = fails-same e (bind (f (skip p)) (λ x o. found (k, x) o)) (member_at f r) (sym (after-colon f r k q p h c)) (fails-bind e (f (skip p)) (λ x o. found (k, x) o) i)

pub member-ok : (f : Reader Json) (r k q p o : List ℕ) (x : Json) → string_at (skip r) ≡ found k q → skip q ≡ 58 ∷ p → f (skip p) ≡ found x o → member_at f r ≡ found (k, x) o
member-ok f r k q p o x h c i = after-colon f r k q p h c ∙ ap (λ o. bind o (λ x o. found (k, x) o)) i

pub object-err : (e : JsonFault) (d n : ℕ) (raw : List (List ℕ × Json)) (r b : List ℕ) → ObjectTurn d n raw r b → Fails e (member_at (value_at d) r) → Fails e (object_at (value_at d) b)
object-err e d n raw r b t h =
    let k = fails-bind e (Fields d r) (λ y q. more_at (Fields d) 125 n (raw ++ y ∷ []) q) h in
    fails-bind e (listed_at (Fields d) 125 b) (λ xs q. found (object (put_together xs)) q) (fails-same e (entry_at (Fields d) 125 n raw r) (listed_at (Fields d) 125 b) t k)

object-then : (d n : ℕ) (raw : List (List ℕ × Json)) (m : List ℕ × Json) (r b q : List ℕ) → ObjectTurn d n raw r b → member_at (value_at d) r ≡ found m q → more_at (Fields d) 125 n (raw ++ m ∷ []) q ≡ listed_at (Fields d) 125 b
object-then d n raw m r b q t e = sym (ap (λ o. bind o (λ y q. more_at (Fields d) 125 n (raw ++ y ∷ []) q)) e) ∙ t

pub object-bad : (d n : ℕ) (raw : List (List ℕ × Json)) (m : List ℕ × Json) (r b q : List ℕ) → ObjectTurn d n raw r b → member_at (value_at d) r ≡ found m q → First (λ x t. (x ≢ 44) × (x ≢ 125)) (skip q) → object_at (value_at d) b ≡ wrong
object-bad d n raw m r b q t e h = ap (λ o. bind o (λ xs p. found (object (put_together xs)) p)) (sym (object-then d n raw m r b q t e) ∙ more-bad (Fields d) 125 n (raw ++ m ∷ []) q h)

put-last : (old ms : List (List ℕ × Json)) (m : List ℕ × Json) → put_all old (ms ++ m ∷ []) ≡ put (put_all old ms) m
put-last old [] m = refl
put-last old (o ∷ ms) m = put-last (put old o) ms m

pub object-next : (d n : ℕ) (raw old new : List (List ℕ × Json)) (m : List ℕ × Json) (r b q s : List ℕ) → ObjectTurn d n raw r b → put_together raw ≡ old → length q ≤ n → member_at (value_at d) r ≡ found m q → skip q ≡ 44 ∷ s → new ≡ put old m → (k : ℕ) × (all : List (List ℕ × Json)) × (length s ≤ k) × (put_together all ≡ new) × ObjectTurn d k all s b
object-next d n raw old new m r b q s t f l e c a =
    let k = more-next (Fields d) 125 n (raw ++ m ∷ []) q s c l in
    (k.0, raw ++ m ∷ [], k.1, put-last [] raw m ∙ ap (λ o. put o m) f ∙ sym a, sym k.2 ∙ object-then d n raw m r b q t e)

pub object-end : (d n : ℕ) (raw old new : List (List ℕ × Json)) (m : List ℕ × Json) (r b q s : List ℕ) → ObjectTurn d n raw r b → put_together raw ≡ old → length q ≤ n → member_at (value_at d) r ≡ found m q → skip q ≡ 125 ∷ s → new ≡ put old m → object_at (value_at d) b ≡ found (object new) s
object-end d n raw old new m r b q s t f l e c a =
    let k = more-end (Fields d) 125 n (raw ++ m ∷ []) q s c (λ k. absurd (omega (arith, k))) l in
    ap (λ o. bind o (λ xs p. found (object (put_together xs)) p)) (sym (object-then d n raw m r b q t e) ∙ k) ∙ ap (λ o. found (object o) s) (put-last [] raw m ∙ ap (λ o. put o m) f ∙ sym a)

-- ---- values

pub value-array : (d e : ℕ) (b t : List ℕ) → d ≡ suc e → b ≡ 91 ∷ t → value_at d b ≡ array_at (value_at e) t
unfolding value_at
value-array d e b t h k = rw (h, k) refl

pub next-known : (o : Option ℕ) (b s t : List ℕ) (x : ℕ) → b ≡ x ∷ t → MatchOption o ((b ≡ []) × (s ≡ [])) (λ y. b ≡ y ∷ s) → b ≡ x ∷ s
next-known None b s t x e h = absurd (omega (arith, ap length (sym e ∙ h.0)))
next-known (Some y) b s t x e h = h ∙ ap (λ z. z ∷ s) (ap (head_or 0) (sym h ∙ e))

-- ---- values without brackets

pub scalar-nil : (b : List ℕ) → b ≡ [] → scalar_at b ≡ wrong
unfolding scalar_at
scalar-nil b e = rw e refl

pub scalar-quote : (b t : List ℕ) → b ≡ 34 ∷ t → scalar_at b ≡ bind (string_at b) (λ s r. found (string s) r)
unfolding scalar_at
scalar-quote b t e = rw e refl

pub scalar-null : (b t : List ℕ) → b ≡ 110 ∷ t → scalar_at b ≡ bind (strip text_null b) (λ _ r. found null r)
unfolding scalar_at
scalar-null b t e = rw e refl

pub scalar-true : (b t : List ℕ) → b ≡ 116 ∷ t → scalar_at b ≡ bind (strip text_true b) (λ _ r. found (boolean true) r)
unfolding scalar_at
scalar-true b t e = rw e refl

pub scalar-false : (b t : List ℕ) → b ≡ 102 ∷ t → scalar_at b ≡ bind (strip text_false b) (λ _ r. found (boolean false) r)
unfolding scalar_at
scalar-false b t e = rw e refl

pub scalar-else : (b t : List ℕ) (x : ℕ) → b ≡ x ∷ t → x ≢ 34 → x ≢ 110 → x ≢ 116 → x ≢ 102 → scalar_at b ≡ number_at b
unfolding scalar_at
scalar-else b t x e p q u v = rw (e, ne-eqb x 34 p, ne-eqb x 110 q, ne-eqb x 116 u, ne-eqb x 102 v) refl
