-- Takings one after another.
use Rattle.std.proofs.Common.{◌≡◌, ℕ, ◌+◌, ◌≤◌, inl, inr, List, [], ◌∷◌, ◌++◌, length, Option, Some, None, Result, Ok, Err, IfErr, refl, sym, subst, append_assoc, length-append, arith}
use Rattle.std.proofs.lemmas.List.{append-nil}
use Rattle.std.specs.Result.{IsErrAnd}
use Rattle.std.proofs.KnownBytes.{Consumes-nil, Consumes-trans}
use Rattle.std.specs.Io.KnownBytes.{Consumes}
use Rattle.arrow_base.specs.Outside.{RoseOrFull}
use Rattle.avro_container.specs.Forms.{Form, both, meaning}
use Rattle.avro_container.specs.OneRead.{Stops, open_ended}
use Rattle.avro_container.specs.Taking.{State, SizeFalls, UsesUp, NotUsedUp, Takes, TakesPast, Ends, Passed, Stopped}
use Rattle.avro_container.specs.declared.parts.Stop.{Stop}
use Rattle.avro_container.specs.declared.parts.Stop.TheVariants as stop

size_same : (r : Option ℕ) → SizeFalls r r 0
size_same None = tt
size_same (Some a) = omega arith

size_more : (a b c : Option ℕ) (n m : ℕ) → SizeFalls a b n → SizeFalls b c m → SizeFalls a c (n + m)
size_more None None None n m p q = tt
size_more None None (Some c) n m p q = absurd q
size_more None (Some b) c n m p q = absurd p
size_more (Some a) None c n m p q = absurd p
size_more (Some a) (Some b) None n m p q = absurd q
size_more (Some a) (Some b) (Some c) n m p q = omega (arith, p, q)

full_after : (a b : Option ℕ) (n m : ℕ) → SizeFalls a b n → UsesUp b m → UsesUp a (n + m)
full_after None None n m p q = absurd q
full_after None (Some b) n m p q = absurd p
full_after (Some a) None n m p q = absurd p
full_after (Some a) (Some b) n m p q = omega (arith, p, q)

has_after : (a b : Option ℕ) (n m : ℕ) → SizeFalls a b n → NotUsedUp b m → NotUsedUp a (n + m)
has_after None None n m p q = tt
has_after None (Some b) n m p q = absurd p
has_after (Some a) None n m p q = absurd p
has_after (Some a) (Some b) n m p q = omega (arith, p, q)

not_used_up_after : (a b c : State) (t u : List ℕ) → SizeFalls a.size_left b.size_left (length t) → NotUsedUp b.size_left (length u) → NotUsedUp a.size_left (length (t ++ u))
not_used_up_after a b c t u p q = subst (NotUsedUp a.size_left) (sym (length-append t u)) (has_after a.size_left b.size_left (length t) (length u) p q)

rose_after : (a b c : ℕ) → a ≤ b → RoseOrFull b c → RoseOrFull a c
rose_after a b c l (inl h) = inl (omega (arith, l, h))
rose_after a b c l (inr h) = inr h

pub takes_nothing : (s : State) → Takes s s []
takes_nothing s = record { consumed = Consumes-nil s.left; limit = omega arith; size_left = size_same s.size_left; faults = omega arith }

pub takes_more : (a b c : State) (t u : List ℕ) → Takes a b t → Takes b c u → Takes a c (t ++ u)
takes_more a b c t u p q =
    let l : length (t ++ u) ≡ length t + length u = length-append t u in
    record {
      consumed = Consumes-trans a.left b.left c.left t u p.consumed q.consumed;
      limit = omega (arith, l, p.limit, q.limit);
      size_left = subst (SizeFalls a.size_left c.size_left) (sym l) (size_more a.size_left b.size_left c.size_left (length t) (length u) p.size_left q.size_left);
      faults = omega (arith, p.faults, q.faults);
    }

past_after : (a b c : State) (t u : List ℕ) → Takes a b t → TakesPast b c u → TakesPast a c (t ++ u)
past_after a b c t u p q =
    let l : length (t ++ u) ≡ length t + length u = length-append t u in
    record {
      byte = q.byte;
      consumed = subst (Consumes a.left c.left) (sym (append_assoc t u (q.byte ∷ []))) (Consumes-trans a.left b.left c.left t (u ++ q.byte ∷ []) p.consumed q.consumed);
      limit = omega (arith, l, p.limit, q.limit);
      faults = omega (arith, p.faults, q.faults);
    }

-- where bytes that end a form end another form behind t, so does what ends there
pub ends_after : {A B : Type 0} (F : Form A) (G : Form B) (a b c : State) (t u : List ℕ) → Takes a b t → (F.begun u → G.begun (t ++ u)) → (F.wrong u → G.wrong (t ++ u)) → (e : Stop) → Ends F b c u e → Ends G a c (t ++ u) e
ends_after F G a b c t u p f w stop.Ended h = (takes_more a b c t u p h.0, f h.1, not_used_up_after a b c t u p.size_left h.2, h.3)
ends_after F G a b c t u p f w stop.Wrong h = (takes_more a b c t u p h.0, w h.1)
ends_after F G a b c t u p f w stop.UsedUp h =
    (takes_more a b c t u p h.0, f h.1, subst (UsesUp a.size_left) (sym (length-append t u)) (full_after a.size_left b.size_left (length t) (length u) p.size_left h.2))
ends_after F G a b c t u p f w stop.Limit h = (past_after a b c t u p h.0, f h.1, not_used_up_after a b c t u p.size_left h.2)
ends_after F G a b c t u p f w stop.Fault h = (takes_more a b c t u p h.0, f h.1, not_used_up_after a b c t u p.size_left h.2, rose_after a.faults b.faults c.faults p.faults h.3)
ends_after F G a b c t u p f w stop.Memory h = (takes_more a b c t u p h.0, f h.1, not_used_up_after a b c t u p.size_left h.2)

-- the same bytes end another form
pub ends_as : {A B : Type 0} (F : Form A) (G : Form B) (a c : State) (u : List ℕ) → (F.begun u → G.begun u) → (F.wrong u → G.wrong u) → (e : Stop) → Ends F a c u e → Ends G a c u e
ends_as F G a c u f w stop.Ended h = (h.0, f h.1, h.2, h.3)
ends_as F G a c u f w stop.Wrong h = (h.0, w h.1)
ends_as F G a c u f w stop.UsedUp h = (h.0, f h.1, h.2)
ends_as F G a c u f w stop.Limit h = (h.0, f h.1, h.2)
ends_as F G a c u f w stop.Fault h = (h.0, f h.1, h.2, h.3)
ends_as F G a c u f w stop.Memory h = (h.0, f h.1, h.2)

-- a read that stopped, where the form has begun
pub stops_after : {A : Type 0} (G : Form A) (a b c : State) (t : List ℕ) → Takes a b t → G.begun t → (e : Stop) → Stops b c e → Stopped G a c e
stops_after G a b c t p f e h =
    (t ++ [], ends_after open_ended G a b c t [] p (λ _. subst G.begun (sym (append-nil t)) f) absurd e h)

-- there was no memory, where the form has begun
pub no_memory : {A : Type 0} (G : Form A) (a b : State) (t : List ℕ) (e : Stop) → Takes a b t → G.begun t → NotUsedUp b.size_left 0 → e ≡ stop.Memory → Stopped G a b e
no_memory G a b t e p f r is =
    (t, subst (Ends G a b t) (sym is) (p, f, subst (NotUsedUp a.size_left) (add_zero (length t)) (has_after a.size_left b.size_left (length t) 0 p.size_left r)))
  where
    add_zero : (n : ℕ) → n + 0 ≡ n
    add_zero n = omega arith

-- a stated size was used up, where the form has begun
pub used_up : {A : Type 0} (G : Form A) (a b : State) (t : List ℕ) (e : Stop) → Takes a b t → G.begun t → b.size_left ≡ Some 0 → e ≡ stop.UsedUp → Stopped G a b e
used_up G a b t e p f r is =
    (t, subst (Ends G a b t) (sym is) (p, f, full_now a.size_left b.size_left (length t) p.size_left r))
  where
    full_now : (a b : Option ℕ) (n : ℕ) → SizeFalls a b n → b ≡ Some 0 → UsesUp a n
    full_now None None n p r = absurd cc
    full_now None (Some b) n p r = absurd p
    full_now (Some a) None n p r = absurd p
    full_now (Some a) (Some b) n p r = let z : b ≡ 0 = cc in omega (arith, p, z)

-- ---- one form behind another

module _ {A B : Type 0} (P : Form A) (Q : A → Form B) where
  pub first_stops : (a c : State) (e : Stop) → Stopped P a c e → Stopped (both P Q) a c e
  first_stops a c e h = (h.0, ends_as P (both P Q) a c h.0 inl inl e h.1)

  pub second_stops : (a b c : State) (v : A) (e : Stop) → Passed P a b v → Stopped (Q v) b c e → Stopped (both P Q) a c e
  second_stops a b c v e p h = (
    p.0 ++ h.0,
    ends_after (Q v) (both P Q) a b c p.0 h.0 p.1
        (λ g. inr (record { prefix = p.0; back = h.0; joined = refl; value = v; first = p.2; second = g }))
        (λ g. inr (record { prefix = p.0; back = h.0; joined = refl; value = v; first = p.2; second = g })) e h.1,
  )

  pub both_pass : (a b c : State) (v : A) (y : B) → Passed P a b v → Passed (Q v) b c y → Passed (both P Q) a c y
  both_pass a b c v y p q =
      (p.0 ++ q.0, takes_more a b c p.0 q.0 p.1 q.1, record { prefix = p.0; back = q.0; joined = refl; value = v; first = p.2; second = q.2 })

-- ---- a form whose value stands for another

module _ {A B : Type 0} (P : Form A) (R : A → Type 0) (f : A → B) where
  pub meaning_stops : (a c : State) (e : Stop) → Stopped P a c e → Stopped (meaning P R f) a c e
  meaning_stops a c e h = (h.0, ends_as P (meaning P R f) a c h.0 (λ g. g) inl e h.1)

  pub meaning_passes : (a c : State) (v : A) → Passed P a c v → R v → Passed (meaning P R f) a c (f v)
  meaning_passes a c v p r = (p.0, p.1, record { value = v; encoded = p.2; allowed = r; means = refl })

  pub meaning_fails : (a c : State) (v : A) → Passed P a c v → (R v → ⊥) → Stopped (meaning P R f) a c stop.Wrong
  meaning_fails a c v p r = (p.0, (p.1, inr (v, p.2, r)))

-- what a `?` hands on
pub handed_on : {T : Type 0} (P : Stop → Type 0) (e : Stop) (r : Result T Stop) → IsErrAnd r (λ y. y ≡ e) → P e → IfErr r P
handed_on P e (Ok x) is h = absurd is
handed_on P e (Err y) is h = subst P (sym is) h
