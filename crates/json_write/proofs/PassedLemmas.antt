-- Arrays that are passed over, and the next one, whatever is shown of arrays.
use Rattle.std.proofs.Common.{◌≡◌, ℕ, true, false, cond, is_some, List, [], ◌∷◌, ◌++◌, Option, Some, None, Result, Ok, Err, All, refl, subst, sym, ap, ◌∙◌, arith}
use Rattle.std.proofs.lemmas.List.Elements.{All-append, All-cons, All-tail}
use Rattle.arrow_core.specs.declared.error.Error.{Error}
use Rattle.arrow_core.specs.declared.slot.Slot.{Slot}
use Rattle.arrow_array.specs.declared.array.Array.{Array}
use Rattle.arrow_array.specs.Arrays.{array_slots}
use Rattle.json_write.specs.Arrays.{IsPassedOver, Gave, Tells, items_by, array_refusal, is_empty, Adds, Finds, FindsNone, Stops, StopsAt}

not_empty : (slots : List Slot) → (slots ≡ [] → ⊥) → is_empty slots ≡ false
not_empty [] h = absurd (h refl)
not_empty (x ∷ xs) h = refl

-- an item of a list of arrays that was given
module _ (shown : Array → List ℕ) where
  empty_item : (a : Array) (xs : List (Result Array Error)) → array_refusal a ≡ None → array_slots a ≡ [] → items_by shown (Ok a ∷ xs) ≡ items_by shown xs
  empty_item a xs r e =
      ap (λ o. cond (is_some o) [] (cond (is_empty (array_slots a)) (items_by shown xs) (shown a ∷ items_by shown xs))) r
      ∙ ap (λ z. cond (is_empty z) (items_by shown xs) (shown a ∷ items_by shown xs)) e

  filled_item : (a : Array) (xs : List (Result Array Error)) → array_refusal a ≡ None → (array_slots a ≡ [] → ⊥) → items_by shown (Ok a ∷ xs) ≡ shown a ∷ items_by shown xs
  filled_item a xs r e =
      ap (λ o. cond (is_some o) [] (cond (is_empty (array_slots a)) (items_by shown xs) (shown a ∷ items_by shown xs))) r
      ∙ ap (λ b. cond b (items_by shown xs) (shown a ∷ items_by shown xs)) (not_empty _ e)

module _ {I : Type 0} (next_gives : I → Option (Result Array Error) → I → Type 0) where
  -- so far arrays were passed over
  pub record Passed (first now : I) : Type 0 where
    pub passed : List Array
    pub passed_over : All IsPassedOver passed
    pub gave : Gave next_gives first passed now

  gave_more : (xs : List Array) (s t u : I) (a : Array) → Gave next_gives s xs t → next_gives t (Some (Ok a)) u → Gave next_gives s (xs ++ (a ∷ [])) u
  gave_more [] s t u a h k = (u, subst (λ z. next_gives z (Some (Ok a)) u) (sym h) k, refl)
  gave_more (x ∷ xs) s t u a h k = (h.0, h.1, gave_more xs h.0 t u a h.2 k)

  pub stops : (s t u : I) (given : Result Array Error) (e : Error) → Passed s t → next_gives t (Some given) u → StopsAt given e → Stops next_gives s e u
  stops s t u given e p k d = record { passed = p.passed; passed_over = p.passed_over; between = t; gave = p.gave; given = given; next = k; cause = d }

-- the same where something is shown of arrays
module _ {I : Type 0} (next_gives : I → Option (Result Array Error) → I → Type 0) (shown : Array → List ℕ) where
  pub passed_more : (s t u : I) (given : Result Array Error) (old new : List ℕ) → Passed next_gives s t → next_gives t (Some given) u → Adds shown given false old new → Passed next_gives s u
  passed_more s t u (Ok a) old new p k d = record {
    passed = p.passed ++ (a ∷ []);
    passed_over = All-append IsPassedOver p.passed (a ∷ []) p.passed_over (All-cons IsPassedOver a [] (d.0, d.1.0) (λ i e h. absurd (omega (arith, h))));
    gave = gave_more next_gives p.passed s t u a p.gave k;
  }
  passed_more s t u (Err e) old new p k d = absurd d

  pub unchanged : (given : Result Array Error) (old new : List ℕ) → old ≡ [] → Adds shown given false old new → new ≡ []
  unchanged (Ok a) old new e d = d.1.1 ∙ e
  unchanged (Err x) old new e d = absurd d

  pub finds_next : (s t u : I) (given : Result Array Error) (old new : List ℕ) → old ≡ [] → Passed next_gives s t → next_gives t (Some given) u → Adds shown given true old new → Finds next_gives shown s new u
  finds_next s t u (Ok a) old new e p k d = record {
    passed = p.passed;
    passed_over = p.passed_over;
    between = t;
    gave = p.gave;
    array = a;
    next = k;
    accepted = d.0;
    filled = d.1.0;
    told = d.1.1 ∙ ap (λ z. z ++ shown a) e;
  }
  finds_next s t u (Err x) old new e p k d = absurd d

  -- what is told of the iterator is told of what is left of it
  tells_passed : (xs : List Array) (s t : I) (given : List (Result Array Error)) → All IsPassedOver xs → Gave next_gives s xs t → Tells next_gives s given
      → (rest : List (Result Array Error)) × Tells next_gives t rest × (items_by shown given ≡ items_by shown rest)
  tells_passed [] s t given o h k = (given, subst (λ z. Tells next_gives z given) h k, refl)
  tells_passed (x ∷ xs) s t [] o h k = let e : Some (Ok x) ≡ None = k (Some (Ok x)) h.0 h.1 in absurd (cc)
  tells_passed (x ∷ xs) s t (y ∷ ys) o h k =
      let p = k (Some (Ok x)) h.0 h.1 in
      let e : Some (Ok x) ≡ Some y = p.0 in
      let same : y ≡ Ok x = cc in
      let over : IsPassedOver x = o 0 x (omega arith) in
      let r = tells_passed xs h.0 t ys (All-tail IsPassedOver x xs o) h.2 p.1 in
      (r.0, r.1, ap (λ z. items_by shown (z ∷ ys)) same ∙ empty_item shown x ys over.0 over.1 ∙ r.2)

  item_next : (u t : I) (a : Array) (bytes : List ℕ) (xs : List (Result Array Error)) → next_gives t (Some (Ok a)) u → array_refusal a ≡ None → (array_slots a ≡ [] → ⊥) → bytes ≡ shown a → Tells next_gives t xs
      → (rest : List (Result Array Error)) × Tells next_gives u rest × (items_by shown xs ≡ bytes ∷ items_by shown rest)
  item_next u t a bytes [] n r f b k = let e : Some (Ok a) ≡ None = k (Some (Ok a)) u n in absurd (cc)
  item_next u t a bytes (y ∷ ys) n r f b k =
      let p = k (Some (Ok a)) u n in
      let e : Some (Ok a) ≡ Some y = p.0 in
      let same : y ≡ Ok a = cc in
      (ys, p.1, ap (λ z. items_by shown (z ∷ ys)) same ∙ filled_item shown a ys r f ∙ ap (λ z. z ∷ items_by shown ys) (sym b))

  pub tells_next : (s u : I) (bytes : List ℕ) (given : List (Result Array Error)) → Finds next_gives shown s bytes u → Tells next_gives s given
      → (rest : List (Result Array Error)) × Tells next_gives u rest × (items_by shown given ≡ bytes ∷ items_by shown rest)
  tells_next s u bytes given f k =
      let r = tells_passed f.passed s f.between given f.passed_over f.gave k in
      let q = item_next u f.between f.array bytes r.0 f.next f.accepted f.filled f.told r.1 in
      (q.0, q.1, r.2 ∙ q.2)

  none_next : (u t : I) (xs : List (Result Array Error)) → next_gives t None u → Tells next_gives t xs → items_by shown xs ≡ []
  none_next u t [] n k = refl
  none_next u t (y ∷ ys) n k = let p = k None u n in let e : None ≡ Some y = p.0 in absurd (cc)

  pub tells_none : (s u : I) (given : List (Result Array Error)) → FindsNone next_gives s u → Tells next_gives s given → items_by shown given ≡ []
  tells_none s u given f k =
      let r = tells_passed f.passed s f.between given f.passed_over f.gave k in
      r.2 ∙ none_next u f.between r.0 f.next r.1
