-- The items so far, while they are written with a separator between them.
use Rattle.std.proofs.Common.{◌≡◌, ℕ, ◌≤◌, ◌<◌, Bool, true, false, List, [], ◌∷◌, ◌++◌, Option, Result, Err, arith, inl, inr, ⊎_elim, refl, sym, ap, ◌∙◌, subst, append_assoc, append-nil}
use Rattle.std.specs.Io.KnownBytes.{Appends, Keeps}
use Rattle.std.specs.List.{join_with_byte}
use Rattle.arrow_base.specs.Outside.{AppendsPrefix, RoseOrFull}
use Rattle.arrow_base.proofs.Written.{Appends-nothing, Appends-kept, Appends-append, Underway, underway-stop}
use Rattle.arrow_core.specs.declared.error.Error.{Error}
use Rattle.arrow_core.specs.declared.error.Error.TheVariants.{WriteFault}
use Rattle.lending.specs.Lending.{ShowsItem, ShowsEnd, Shows, TellsNone}
use Rattle.lending.specs.Joined.{piece, Wrote, StopsAtItem, WritesShown, StopsWriting, WritesTold}

abbrev pub is_nil : List (List ℕ) → Bool
is_nil [] = true
is_nil (x ∷ xs) = false

join-more : (c : ℕ) (xs : List (List ℕ)) (x : List ℕ) → join_with_byte c (xs ++ x ∷ []) ≡ join_with_byte c xs ++ piece c (is_nil xs) x
join-more c [] x = refl
join-more c (y ∷ []) x = refl
join-more c (y ∷ z ∷ xs) x =
    ap (λ (l : List ℕ). y ++ (c ∷ l)) (join-more c (z ∷ xs) x)
    ∙ sym (append_assoc y (c ∷ join_with_byte c (z ∷ xs)) (piece c false x))

not_nil : (xs : List (List ℕ)) (x : List ℕ) → is_nil (xs ++ x ∷ []) ≡ false
not_nil [] x = refl
not_nil (y ∷ xs) x = refl

-- text that was written, and then a prefix of a part
prefix-after : (a b c : Option (List ℕ)) (text part : List ℕ) → Appends a b text → AppendsPrefix b c part → AppendsPrefix a c (text ++ part)
prefix-after a b c text part h k =
    let underway : Underway a b (text ++ part) part = record { done = text; splits = refl; appended = h } in
    underway-stop a b c (text ++ part) part part [] (sym (append-nil part)) underway k

rose-later : (a b c : ℕ) → a ≤ b → RoseOrFull b c → RoseOrFull a c
rose-later a b c h r = ⊎_elim (λ (k : b < c). let j : a < c = omega arith in inl j) (λ k. inr k) r

module _ {S : Type 0} (step : S → Result (Unit {0}) Error → S → Type 0) (shown : S → Option (List ℕ)) (items : S → List (List ℕ) → Type 0) (to_come : S → ℕ) (c : ℕ) where
  shows-more : (xs : List (List ℕ)) (s t u : S) (x : List ℕ) → Shows step shown s xs t → ShowsItem step shown t x u → Shows step shown s (xs ++ x ∷ []) u
  shows-more [] s t u x h k = (u, subst (λ (v : S). ShowsItem step shown v x u) (sym h) k, refl)
  shows-more (y ∷ xs) s t u x h k = (h.0, h.1, shows-more xs h.0 t u x h.2 k)

  -- from `first` to `now` items were shown, and written
  pub record SoFar (first now : S) (is_first : Bool) (old new : Option (List ℕ)) : Type 0 where
    pub shown_items : List (List ℕ)
    pub shows : Shows step shown first shown_items now
    pub written : Appends old new (join_with_byte c shown_items)
    pub none_yet : is_first ≡ is_nil shown_items
    pub told : (all : List (List ℕ)) → items first all → (rest : List (List ℕ)) × (all ≡ shown_items ++ rest) × items now rest

  pub begins : (s : S) (held : Option (List ℕ)) → SoFar s s true held held
  begins s held = record { shown_items = []; shows = refl; written = Appends-nothing held; none_yet = refl; told = λ all k. (all, refl, k) }

  pub goes_on : (s t u : S) (b : Bool) (old mid new : Option (List ℕ)) → SoFar s t b old mid → Wrote step shown items to_come c b t u mid new → SoFar s u false old new
  goes_on s t u b old mid new h w = record {
    shown_items = h.shown_items ++ w.item ∷ [];
    shows = shows-more h.shown_items s t u w.item h.shows w.shows;
    written = subst (λ (l : List ℕ). Appends old new l)
        (ap (λ (p : Bool). join_with_byte c h.shown_items ++ piece c p w.item) h.none_yet ∙ sym (join-more c h.shown_items w.item))
        (Appends-append old mid new (join_with_byte c h.shown_items) (piece c b w.item) h.written w.written);
    none_yet = sym (not_nil h.shown_items w.item);
    told = λ all k. let a = h.told all k in let b = w.takes a.0 a.2 in
        (b.0, a.1 ∙ ap (λ (l : List (List ℕ)). h.shown_items ++ l) b.1 ∙ sym (append_assoc h.shown_items (w.item ∷ []) b.0), b.2);
  }

  written-kept : (s t : S) (b : Bool) (old mid new : Option (List ℕ)) (h : SoFar s t b old mid) → Keeps mid new → Appends old new (join_with_byte c h.shown_items)
  written-kept s t b old mid new h k =
      subst (λ (l : List ℕ). Appends old new l) (append-nil (join_with_byte c h.shown_items))
      (Appends-append old mid new (join_with_byte c h.shown_items) [] h.written (Appends-kept mid new k))

  pub ends-shown : (s t : S) (b : Bool) (old mid new : Option (List ℕ)) → SoFar s t b old mid → ShowsEnd step shown t → Keeps mid new → WritesShown step shown s c old new
  ends-shown s t b old mid new h e k = (h.shown_items, (t, h.shows, e), written-kept s t b old mid new h k)

  pub ends-told : (s t : S) (b : Bool) (old mid new : Option (List ℕ)) → SoFar s t b old mid → TellsNone items t → Keeps mid new → WritesTold (items s) c old new
  ends-told s t b old mid new h e k = λ all told.
      let a = h.told all told in
      let is : all ≡ h.shown_items = a.1 ∙ ap (λ (l : List (List ℕ)). h.shown_items ++ l) (e a.0 a.2) ∙ append-nil h.shown_items in
      subst (λ (l : List (List ℕ)). Appends old new (join_with_byte c l)) (sym is) (written-kept s t b old mid new h k)

  pub stops : (s t : S) (b : Bool) (old mid new : Option (List ℕ)) (before then now : ℕ) (e : Error) → SoFar s t b old mid → before ≤ then → StopsAtItem step shown c b t mid new then now e → StopsWriting step shown s c old new before now e
  stops s t b old mid new before then now e h le st = ⊎_elim
      (λ (f : (e ≡ WriteFault) × RoseOrFull then now × ((x : List ℕ) × (u : S) × ShowsItem step shown t x u × AppendsPrefix mid new (piece c b x))).
      let x = f.2.0 in
      inl (
        f.0,
        rose-later before then now le f.1,
        (
          h.shown_items ++ x ∷ [],
          f.2.1,
          shows-more h.shown_items s t f.2.1 x h.shows f.2.2,
          subst (λ (l : List ℕ). AppendsPrefix old new l)
              (ap (λ (p : Bool). join_with_byte c h.shown_items ++ piece c p x) h.none_yet ∙ sym (join-more c h.shown_items x))
              (prefix-after old mid new (join_with_byte c h.shown_items) (piece c b x) h.written f.2.3),
        ),
      ))
      (λ (f : ((u : S) × step t (Err e) u) × Keeps mid new).
      inr (h.shown_items, (t, f.0.0, h.shows, f.0.1), written-kept s t b old mid new h f.1))
      st
