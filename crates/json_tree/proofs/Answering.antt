-- From what reading gives to what is promised.
use Rattle.std.proofs.Common.{◌≡◌, ℕ, ◌<◌, ◌≤◌, Bool, true, false, ltb, List, [], ◌++◌, length, take, drop, refl, sym, ap, ◌∙◌, subst, arith}
use Rattle.std.specs.Prelude.{Result, Ok, Err, IfOk}
use Rattle.std.specs.Str.{IsUtf8, IsValidUpTo}
use Rattle.std.proofs.lemmas.List.{append-nil, take-append-drop, length-append, length-take, take_at}
use Rattle.std.proofs.lemmas.Bool.{ltb-true, ltb-false}
use Rattle.json_tree.specs.Tree.{Json}
use Rattle.json_tree.specs.Reading.{wrong, deep, text_at}
use Rattle.json_tree.specs.Gives.{Gives}
use Rattle.json_tree.specs.Meaning.{IsJson, IsJsonText, HoldsTooMany}
use Rattle.json_tree.proofs.Reaching.{IsDeep}
use Rattle.json_tree.specs.declared.value.JsonFault.{JsonFault}
use Rattle.json_tree.specs.declared.value.JsonFault.TheVariants.{Text, Depth, Memory}
use Rattle.json_tree.proofs.ListLaws.{wrong-deep}
use Rattle.json_tree.proofs.TextLaws.{json-found, deep-why, deep-there, not_wrong}

abbrev pub Told : Result Json JsonFault → List ℕ → Type 0
Told r b = Gives (λ v. v) r [] (text_at 128 b)

pub ok-json : (r : Result Json JsonFault) (b : List ℕ) → Told r b → IsUtf8 b → IfOk r (λ v. IsJson v b)
ok-json (Ok v) b h u = json-found b [] v u h
ok-json (Err e) b h u = tt

pub err-deep : (r : Result Json JsonFault) (b : List ℕ) → Told r b → IsUtf8 b → r ≡ Err Depth → IsDeep b
err-deep r b h u e =
    let d : text_at 128 b ≡ deep = rw e at h in
    subst IsDeep (append-nil b) (deep-why b [] u d)

pub err-not_deep : (r : Result Json JsonFault) (b : List ℕ) → Told r b → r ≡ Err Text → IsDeep b → ⊥
err-not_deep r b h e d =
    let w : text_at 128 b ≡ wrong = rw e at h in
    let k = deep-there b b [] (sym (append-nil b)) (λ p r u c. omega (arith, ap length c, length-append p r)) d in
    wrong-deep (sym w ∙ k)

-- a text within the bound holds no prefix that goes on to none
pub within : (b : List ℕ) (v : Json) → IsJson v b → HoldsTooMany b → ⊥
within b v j h = h.4 h.1 v (subst (IsJson v) h.2 j)

pub ok-shallow : (r : Result Json JsonFault) (b : List ℕ) → Told r b → IsUtf8 b → IfOk r (λ v. HoldsTooMany b → ⊥)
ok-shallow (Ok v) b h u = within b v (json-found b [] v u h)
ok-shallow (Err e) b h u = tt

pub err-not_json : (r : Result Json JsonFault) (b : List ℕ) → Told r b → r ≡ Err Text → (v : Json) → IsJsonText v b → ⊥
err-not_json r b h e v j =
    let w : text_at 128 b ≡ wrong = rw e at h in
    not_wrong b v j w

-- bytes that are UTF-8 up to n
pub prefix-deep : (b f : List ℕ) (n : ℕ) → f ≡ take n b → IsValidUpTo b n → text_at 128 f ≡ deep → IsDeep b
prefix-deep b f n e v d =
    let u : IsUtf8 f = subst IsUtf8 (sym e) v.front in
    subst IsDeep (ap (λ l. l ++ drop n b) e ∙ take-append-drop n b) (deep-why f (drop n b) u d)

at_most : (a n m : ℕ) → m ≡ n → (n < a → ⊥) → a ≤ m
at_most a n m e never = tested (ltb n a) refl
  where
    tested : (t : Bool) → ltb n a ≡ t → a ≤ m
    tested true q = absurd (never (ltb-true n a q))
    tested false q = omega (arith, e, ltb-false n a q)

pub prefix-not_deep : (b f : List ℕ) (n : ℕ) → f ≡ take n b → IsValidUpTo b n → (text_at 128 f ≡ deep → ⊥) → IsDeep b → ⊥
prefix-not_deep b f n e v never d = never (deep-there b f (drop n b) (sym (ap (λ l. l ++ drop n b) e ∙ take-append-drop n b)) longest d)
  where
    tested : (p r : List ℕ) → IsUtf8 p → b ≡ p ++ r → n < length p → ⊥
    tested p r u c l = v.longest (length p) l (subst IsUtf8 (sym (ap (take (length p)) c ∙ take_at p r (length p) refl)) u)

    longest : (p r : List ℕ) → IsUtf8 p → b ≡ p ++ r → length p ≤ length f
    longest p r u c =
        let k : length f ≡ n = omega (arith, ap length e, length-take n b, v.short) in
        at_most (length p) n (length f) k (λ l. tested p r u c l)

abbrev fault_or : Result Json JsonFault → JsonFault
fault_or (Ok v) = Memory
fault_or (Err e) = e

pub err_is : (e f : JsonFault) → ◌≡◌ {A = Result Json JsonFault} (Err e) (Err f) → e ≡ f
err_is e f h = ap fault_or h
