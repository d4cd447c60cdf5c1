-- A row, builder by builder.
use Rattle.std.proofs.Common.{◌≡◌, ◌≢◌, inl, inr, ℕ, zero, suc, ◌+◌, ◌<◌, ◌≤◌, true, List, [], ◌∷◌, length, set, get_or, map, refl, sym, ap, subst, ◌∙◌, arith}
use Rattle.std.proofs.lemmas.List.{get_or_default, length-append, length-map}
use Rattle.std.proofs.Math.Seq.{map-set_same}
use Rattle.std.specs.List.{AllZip}
use Rattle.std.specs.Prelude.{Option, Some, None, IfSome, MatchOption, Result, Ok, Err, OnOk}
use Rattle.json_tree.specs.Layout.{distinct, put}
use Rattle.json_tree.specs.Reading.{found, member_at, put_together, skip, value_at, First}
use Rattle.json_tree.specs.Tree.{Json, null}
use Rattle.json_tree.proofs.Turns.{object-empty, object-end, object-next, object-start, ObjectTurn}
use Rattle.arrow_builders.specs.declared.array.MutableArray.{MutableArray}
use Rattle.arrow_builders.specs.MutableArrays.{builder_slots}
use Rattle.arrow_builders.specs.Shapes.{Shape, shape}
use Rattle.arrow_builders.specs.Tight.{AllTight, IsTight}
use Rattle.arrow_builders.proofs.Upto.{Upto}
use Rattle.json_lend.specs.Fields.{value_named, values_of, BeginsMember, IsIndex}
use Rattle.json_lend.proofs.NameLaws.{values-turn}
use Rattle.json_lend.specs.declared.given_up.GivenUp.{GivenUp}
use Rattle.json_line.specs.Builders.{AllTakeOrWait, AreTight, Fills, ReadsInto, ReadsMember, ReadsObject, Takes, TakesAt, TakesOrWaits, TakesRow}

-- a builder that is set keeps its shape
pub shapes-step : (now : List MutableArray) (i : ℕ) (b x : MutableArray) (ss : List Shape) → b ≡ get_or now i b → shape x ≡ shape b → map shape now ≡ ss → map shape (set now i x) ≡ ss
shapes-step now i b x ss e t h = map-set_same shape now i x b (t ∙ ap shape e) ∙ h

pub as-many-shapes : (bs cs : List MutableArray) → map shape cs ≡ map shape bs → length cs ≡ length bs
as-many-shapes bs cs e = sym (length-map cs shape) ∙ ap length e ∙ length-map bs shape

pub tight-at : (bs : List MutableArray) (i : ℕ) (b : MutableArray) → i < length bs → AreTight bs → IsTight (get_or bs i b)
tight-at [] i b lt h = absurd (omega (arith, lt))
tight-at (c ∷ bs) zero b lt h = h.0
tight-at (c ∷ bs) (suc i) b lt h = tight-at bs i b (omega (arith, lt)) h.1

-- a slot more
pub took-one : (v : Json) (b x : MutableArray) → Takes v b x → length (builder_slots x) ≡ length (builder_slots b) + 1
took-one v b x (s, m, e) = omega (arith, ap length e, length-append (builder_slots b) (s ∷ []))

-- the index of a name is within as many
pub index-within : (names : List (List ℕ)) (key : List ℕ) (at : Option ℕ) (n : ℕ) → IsIndex names key at → length names ≡ n → IfSome at (λ i. i < n)
index-within names key None n is l = tt
index-within names key (Some i) n is l = omega (arith, is.1, l)

-- ---- what builders took of an object so far

waiting : (names : List (List ℕ)) (bs : List MutableArray) → length bs ≡ length names → AllTakeOrWait (values_of [] names) bs bs
waiting [] [] e = tt
waiting [] (b ∷ bs) e = absurd (omega (arith, e))
waiting (n ∷ ns) [] e = absurd (omega (arith, e))
waiting (n ∷ ns) (b ∷ bs) e = (inr (refl, refl), waiting ns bs (omega (arith, e)))

one-tight : (v : Json) (b c : MutableArray) → IsTight b → TakesOrWaits v b c → IsTight c
one-tight v b c t (inl h) = h.1
one-tight v b c t (inr h) = subst IsTight (sym h.1) t

pub tight-so_far : (n : ℕ) (vs : List Json) (bs cs : List MutableArray) → AllTight n bs → AllTakeOrWait vs bs cs → AreTight cs
tight-so_far n [] [] [] t h = tt
tight-so_far n [] [] (c ∷ cs) t h = absurd h
tight-so_far n [] (b ∷ bs) [] t h = absurd h
tight-so_far n [] (b ∷ bs) (c ∷ cs) t h = absurd h
tight-so_far n (v ∷ vs) [] [] t h = absurd h
tight-so_far n (v ∷ vs) [] (c ∷ cs) t h = absurd h
tight-so_far n (v ∷ vs) (b ∷ bs) [] t h = absurd h
tight-so_far n (v ∷ vs) (b ∷ bs) (c ∷ cs) t h = (one-tight v b c t.1 h.0, tight-so_far n vs bs cs t.2 h.1)

take-one : (n : ℕ) (v w : Json) (b c x : MutableArray) → length (builder_slots b) ≡ n → TakesOrWaits w b c → length (builder_slots c) ≡ n → IsTight x → Takes v c x → TakesOrWaits v b x
take-one n v w b c x l (inl h) m t p = absurd (omega (arith, took-one w b c h.0, l, m))
take-one n v w b c x l (inr h) m t p = inl (subst (λ (y : MutableArray). Takes v y x) h.1 p, t)

take-step : (n i : ℕ) (v : Json) (x : MutableArray) (vs : List Json) (bs cs : List MutableArray) → AllTight n bs → AllTakeOrWait vs bs cs → length (builder_slots (get_or cs i x)) ≡ n → IsTight x → Takes v (get_or cs i x) x → AllTakeOrWait (set vs i v) bs (set cs i x)
take-step n i v x [] [] [] t h l s p = h
take-step n i v x [] [] (c ∷ cs) t h l s p = absurd h
take-step n i v x [] (b ∷ bs) [] t h l s p = absurd h
take-step n i v x [] (b ∷ bs) (c ∷ cs) t h l s p = absurd h
take-step n i v x (w ∷ vs) [] [] t h l s p = absurd h
take-step n i v x (w ∷ vs) [] (c ∷ cs) t h l s p = absurd h
take-step n i v x (w ∷ vs) (b ∷ bs) [] t h l s p = absurd h
take-step n zero v x (w ∷ vs) (b ∷ bs) (c ∷ cs) t h l s p = (take-one n v w b c x t.0 h.0 l s p, h.1)
take-step n (suc i) v x (w ∷ vs) (b ∷ bs) (c ∷ cs) t h l s p = (h.0, take-step n i v x vs bs cs t.2 h.1 l s p)

after-member : (n : ℕ) (at : Option ℕ) (names : List (List ℕ)) (ms : List (List ℕ × Json)) (k : List ℕ) (v : Json) (bs cs ds : List MutableArray) → distinct names ≡ true → IsIndex names k at → AllTight n bs → AllTakeOrWait (values_of ms names) bs cs → MatchOption at (ds ≡ cs) (TakesAt n v cs ds)
    → AllTakeOrWait (values_of (put ms (k, v)) names) bs ds
after-member n None names ms k v bs cs ds d is t h e =
    subst (λ vs. AllTakeOrWait vs bs ds) (values-turn None names ms k v (values_of ms names) (values_of ms names) d is refl refl) (subst (λ xs. AllTakeOrWait (values_of ms names) bs xs) (sym e) h)
after-member n (Some i) names ms k v bs cs ds d is t h (x, e, l, s, p) =
    subst (λ vs. AllTakeOrWait vs bs ds) (values-turn (Some i) names ms k v (values_of ms names) (set (values_of ms names) i v) d is refl refl)
    (subst (λ xs. AllTakeOrWait (set (values_of ms names) i v) bs xs) (sym e) (take-step n i v x (values_of ms names) bs cs t h l s p))

abbrev pub MembersSoFar : ℕ → List (List ℕ) → List ℕ → List ℕ → List MutableArray → List MutableArray → Type 0
MembersSoFar d names b r bs cs =
    (n : ℕ) × (raw : List (List ℕ × Json)) × (length r ≤ n) × ObjectTurn d n raw r b × AllTakeOrWait (values_of (put_together raw) names) bs cs

pub members-start : (d : ℕ) (names : List (List ℕ)) (b r : List ℕ) (bs : List MutableArray) → length bs ≡ length names → r ≡ skip b → First (λ x t. x ≢ 125) (skip b) → MembersSoFar d names b r bs bs
members-start d names b r bs l e f =
    let s = object-start d b r e f in
    (s.0, [], s.1, s.2, waiting names bs l)

pub no-members : (d : ℕ) (names : List (List ℕ)) (b r : List ℕ) (bs : List MutableArray) → length bs ≡ length names → skip b ≡ 125 ∷ r → ReadsObject d names b r bs bs
no-members d names b r bs l e = ([], object-empty d b r e, waiting names bs l)

module _ (d count : ℕ) (at : Option ℕ) (names : List (List ℕ)) (b r p q s : List ℕ) (bs cs ds : List MutableArray) (are : distinct names ≡ true) (t : AllTight count bs)
    (so_far : MembersSoFar d names b r bs cs) (begins : BeginsMember names at r p) (le : length q ≤ length r) (reads : ReadsMember d count at p q cs ds) where
  abbrev Members : List (List ℕ × Json)
  Members = put (put_together so_far.1) (begins.0, reads.0)

  member : member_at (value_at d) r ≡ found (begins.0, reads.0) q
  member = begins.2 d reads.0 q reads.1

  took : AllTakeOrWait (values_of Members names) bs ds
  took = after-member count at names (put_together so_far.1) begins.0 reads.0 bs cs ds are begins.1 t so_far.4 reads.2

  short : length q ≤ so_far.0
  short = omega (arith, le, so_far.2)

  pub members-next : skip q ≡ 44 ∷ s → MembersSoFar d names b s bs ds
  members-next e =
      let n = object-next d so_far.0 so_far.1 (put_together so_far.1) Members (begins.0, reads.0) r b q s so_far.3 refl short member e refl in
      (n.0, n.1, n.2, n.4, subst (λ ms. AllTakeOrWait (values_of ms names) bs ds) (sym n.3) took)

  pub members-end : skip q ≡ 125 ∷ s → ReadsObject d names b s bs ds
  members-end e = (Members, object-end d so_far.0 so_far.1 (put_together so_far.1) Members (begins.0, reads.0) r b q s so_far.3 refl short member e refl, took)

-- what the builder at an index took
pub read-at : (r : Result (Unit {0}) GivenUp) (d n : ℕ) (at : Option ℕ) (i : ℕ) (p q : List ℕ) (bs ds : List MutableArray) (b x : MutableArray) → at ≡ Some i → i < length bs → ds ≡ set bs i x → b ≡ get_or bs i b
    → OnOk r (ReadsInto (value_at d) p q b x) → OnOk r (length (builder_slots b) ≡ n) → OnOk r (IsTight x) → OnOk r (ReadsMember d n at p q bs ds)
read-at (Ok u) d n at i p q bs ds b x a lt e v (value, is, took) l t =
    let here : get_or bs i x ≡ b = get_or_default bs i x b lt ∙ sym v in
    let takes : TakesAt n value bs ds i = (x, e, ap (λ (y : MutableArray). length (builder_slots y)) here ∙ l, t, subst (λ (y : MutableArray). Takes value y x) (sym here) took) in
    (value, is, subst (λ o. MatchOption o (ds ≡ bs) (TakesAt n value bs ds)) (sym a) takes)
read-at (Err g) d n at i p q bs ds b x a lt e v h l t = tt

pub read-at-same : (r : Result (Unit {0}) GivenUp) (d n : ℕ) (at : Option ℕ) (i : ℕ) (p q : List ℕ) (bs ds : List MutableArray) (b x : MutableArray) → at ≡ Some i → i < length bs → ds ≡ set bs i x → b ≡ get_or bs i b
    → OnOk r (ReadsInto (value_at d) p q (get_or bs i b) x) → OnOk r (length (builder_slots (get_or bs i b)) ≡ n) → OnOk r (IsTight x) → OnOk r (ReadsMember d n at p q bs ds)
read-at-same r d n at i p q bs ds b x a lt e v h l t = read-at r d n at i p q bs ds (get_or bs i b) x a lt e (get_or_default bs i b (get_or bs i b) lt) h l t

-- ---- those whose names are no key

pub stays : (n : ℕ) (b : MutableArray) (l : ℕ) → l ≡ length (builder_slots b) → l ≢ n → Fills n b b
stays n b l e h = inr ((λ k. h (e ∙ k)), refl)

pub fills : (r : Result (Unit {0}) GivenUp) (n : ℕ) (b x : MutableArray) (l : ℕ) → l ≡ length (builder_slots b) → l ≡ n → OnOk r (Takes null b x) → OnOk r (IsTight x) → OnOk r (Fills n b x)
fills (Ok u) n b x l e h p t = inl (sym e ∙ h, p, t)
fills (Err g) n b x l e h p t = tt

pub fills-all : (n i : ℕ) (cs ds : List MutableArray) → length ds ≤ i → Upto (Fills n) i cs ds → AllZip (Fills n) cs ds
fills-all n i [] [] le h = tt
fills-all n i [] (d ∷ ds) le h = absurd h
fills-all n i (c ∷ cs) [] le h = absurd h
fills-all n zero (c ∷ cs) (d ∷ ds) le h = absurd (omega (arith, le))
fills-all n (suc i) (c ∷ cs) (d ∷ ds) le h = (h.0, fills-all n i cs ds (omega (arith, le)) h.1)

filled-one : (n : ℕ) (v : Json) (b c d : MutableArray) → length (builder_slots b) ≡ n → TakesOrWaits v b c → Fills n c d → Takes v b d × (length (builder_slots d) ≡ n + 1) × IsTight d
filled-one n v b c d l (inl h) (inl f) = absurd (omega (arith, took-one v b c h.0, l, f.0))
filled-one n v b c d l (inl h) (inr f) =
    let p : Takes v b d = subst (λ (x : MutableArray). Takes v b x) (sym f.1) h.0 in
    (p, omega (arith, took-one v b d p, l), subst IsTight (sym f.1) h.1)
filled-one n v b c d l (inr h) (inl f) =
    let p : Takes v b d = subst (λ (x : MutableArray). Takes v x d) h.1 (subst (λ w. Takes w c d) (sym h.0) f.1) in
    (p, omega (arith, took-one v b d p, l), f.2)
filled-one n v b c d l (inr h) (inr f) = absurd (f.0 (ap (λ (x : MutableArray). length (builder_slots x)) h.1 ∙ l))

took-first : (name : List ℕ) (names : List (List ℕ)) (ms : List (List ℕ × Json)) (b d : MutableArray) (bs ds : List MutableArray) → Takes (value_named ms name) b d → TakesRow names ms bs ds → TakesRow (name ∷ names) ms (b ∷ bs) (d ∷ ds)
took-first name names ms b d bs ds p r zero x y lt = p
took-first name names ms b d bs ds p r (suc k) x y lt = r k x y (omega (arith, lt))

-- each builder took the value of its name
pub row-filled : (n : ℕ) (names : List (List ℕ)) (ms : List (List ℕ × Json)) (bs cs ds : List MutableArray) → AllTight n bs → AllTakeOrWait (values_of ms names) bs cs → AllZip (Fills n) cs ds → TakesRow names ms bs ds × AllTight (n + 1) ds
row-filled n [] ms [] [] [] t h z = (λ k name b lt. absurd (omega (arith, lt)), tt)
row-filled n [] ms [] [] (d ∷ ds) t h z = absurd z
row-filled n [] ms [] (c ∷ cs) ds t h z = absurd h
row-filled n [] ms (b ∷ bs) [] ds t h z = absurd h
row-filled n [] ms (b ∷ bs) (c ∷ cs) ds t h z = absurd h
row-filled n (name ∷ names) ms [] [] ds t h z = absurd h
row-filled n (name ∷ names) ms [] (c ∷ cs) ds t h z = absurd h
row-filled n (name ∷ names) ms (b ∷ bs) [] ds t h z = absurd h
row-filled n (name ∷ names) ms (b ∷ bs) (c ∷ cs) [] t h z = absurd z
row-filled n (name ∷ names) ms (b ∷ bs) (c ∷ cs) (d ∷ ds) t h z =
    let one = filled-one n (value_named ms name) b c d t.0 h.0 z.0 in
    let rest = row-filled n names ms bs cs ds t.2 h.1 z.1 in
    (took-first name names ms b d bs ds one.0 rest.0, (one.1, one.2, rest.1))
