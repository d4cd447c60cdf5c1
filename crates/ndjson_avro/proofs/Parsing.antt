-- Texts that are parsed, and rows that a reader shows.
use Rattle.std.proofs.Common.{◌≡◌, ◌∙◌, ℕ, zero, suc, ◌+◌, ◌<◌, ◌≤◌, List, [], ◌∷◌, ◌++◌, length, get_or, take, drop, refl, sym, ap, subst, arith}
use Rattle.std.proofs.Math.Seq.{drop-cons}
use Rattle.std.proofs.lemmas.List.{take-append-drop, take_more}
use Rattle.std.specs.List.{AllZip}
use Rattle.arrow_core.specs.declared.error.Error.{Error}
use Rattle.json_tree.specs.declared.value.JsonFault.{JsonFault}
use Rattle.json_tree.specs.declared.value.JsonFault.TheVariants.{Text, Depth, Memory}
use Rattle.json_tree.specs.Meaning.{HoldsTooMany, IsErrorOf, IsJson, IsJsonText}
use Rattle.json_tree.specs.Tree.{Json}
use Rattle.ndjson_read.specs.Reading.{State, ShowsRows}
use Rattle.ndjson_avro.specs.Values.{FirstWithout, IsNoValue}

-- why a row has no value, by the fault that parsing it gave
pub no_value : (row : List ℕ) (fault : JsonFault) (e : Error) → IsErrorOf fault e → (fault ≡ Depth → HoldsTooMany row) → (fault ≡ Text → HoldsTooMany row → ⊥) → (fault ≡ Text → (value : Json) → IsJsonText value row → ⊥) → IsNoValue row e
no_value row Text e is deep not_deep text = subst (IsNoValue row) (sym is) (not_deep refl, text refl)
no_value row Depth e is deep not_deep text = subst (IsNoValue row) (sym is) (deep refl)
no_value row Memory e is deep not_deep text = subst (IsNoValue row) (sym is) tt

-- ---- the values of texts

zip_push : {A B : Type 0} (R : A → B → Type 0) (xs : List A) (ys : List B) (x : A) (y : B) → AllZip R xs ys → R x y → AllZip R (xs ++ x ∷ []) (ys ++ y ∷ [])
zip_push R [] [] x y h r = (r, tt)
zip_push R [] (v ∷ ys) x y h r = absurd h
zip_push R (u ∷ xs) [] x y h r = absurd h
zip_push R (u ∷ xs) (v ∷ ys) x y h r = (h.0, zip_push R xs ys x y h.1 r)

-- the value of one text more
pub value_pushed : (texts : List (List ℕ)) (i : ℕ) (text : List ℕ) (values after : List Json) (value : Json) → i < length texts → text ≡ get_or texts i text → AllZip IsJson values (take i texts) → IsJson value text → after ≡ values ++ value ∷ [] → AllZip IsJson after (take (i + 1) texts)
value_pushed texts i text values after value l is h json pushed =
    let more : take (i + 1) texts ≡ take i texts ++ text ∷ [] = take_more texts i text l ∙ ap (λ (z : List ℕ). take i texts ++ z ∷ []) (sym is) in
    subst (λ (vs : List Json). AllZip IsJson vs (take (i + 1) texts)) (sym pushed) (subst (λ (ts : List (List ℕ)). AllZip IsJson (values ++ value ∷ []) ts) (sym more) (zip_push IsJson values (take i texts) value text h json))

take_all : {A : Type 0} (xs : List A) (n : ℕ) → length xs ≤ n → take n xs ≡ xs
take_all [] zero h = refl
take_all [] (suc n) h = refl
take_all (x ∷ xs) zero h = absurd (omega (arith, h))
take_all (x ∷ xs) (suc n) h = ap (λ (ys : List _). x ∷ ys) (take_all xs n (omega (arith, h)))

pub all_valued : (texts : List (List ℕ)) (i : ℕ) (values : List Json) → length texts ≤ i → AllZip IsJson values (take i texts) → AllZip IsJson values texts
all_valued texts i values l h = subst (λ (ts : List (List ℕ)). AllZip IsJson values ts) (take_all texts i l) h

-- this text has none
pub first_without : (texts : List (List ℕ)) (i : ℕ) (text given : List ℕ) (values : List Json) (e : Error) → i < length texts → text ≡ get_or texts i text → given ≡ text → AllZip IsJson values (take i texts) → IsNoValue given e → FirstWithout texts e
first_without texts i text given values e l is same h fault = record {
  before = take i texts;
  text = text;
  after = drop (suc i) texts;
  split = sym (take-append-drop i texts) ∙ ap (λ (ts : List (List ℕ)). take i texts ++ ts) (drop-cons texts i text l ∙ ap (λ (z : List ℕ). z ∷ drop (suc i) texts) (sym is));
  values = values;
  have = h;
  fault = subst (λ (t : List ℕ). IsNoValue t e) same fault;
}

-- ---- what a reader of one row at a time shows

one_of : (a b : State) (row : List ℕ) (rest : List (List ℕ)) → ShowsRows 1 a b (row ∷ rest) → ShowsRows 1 a b (row ∷ [])
one_of a b row [] s = s
one_of a b row (next ∷ rest) s = absurd (omega (arith, s.most))

-- the first of what is lent is the only row
pub shown_first : (wanted : ℕ) (a b : State) (shown given : List (List ℕ)) (row : List ℕ) → wanted ≡ 1 → given ≡ shown → 1 ≤ length given → row ≡ get_or given 0 [] → ShowsRows wanted a b shown → ShowsRows 1 a b (row ∷ [])
shown_first wanted a b shown [] row one same some is s = absurd (omega (arith, some))
shown_first wanted a b shown (first ∷ given) row one same some is s =
    subst (λ (z : List ℕ). ShowsRows 1 a b (z ∷ [])) (sym is)
    (one_of a b first given (subst (λ (n : ℕ). ShowsRows n a b (first ∷ given)) one (subst (ShowsRows wanted a b) (sym same) s)))
