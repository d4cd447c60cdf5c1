-- Facts about an option or a result, whichever it is.
use Rattle.std.proofs.Common.{◌≡◌, Option, Some, None, Result, Ok, Err, cond, is_ok, IfSome, IfNone, OnErr, OnOk, refl, List, [], ◌∷◌, ℕ}
use Rattle.std.specs.Borrow.{MutBor}
use Rattle.lending.specs.Filling.{Fills}

pub if_some-any : {X : Type 0} (o : Option X) (P : X → Type 0) → ((x : X) → P x) → IfSome o P
if_some-any None P h = tt
if_some-any (Some x) P h = h x

pub if_none-any : {X : Type 0} (o : Option X) (P : Type 0) → P → IfNone o P
if_none-any None P h = h
if_none-any (Some x) P h = tt

pub on_err-any : {T E : Type 0} (r : Result T E) (P : Type 0) → P → OnErr r P
on_err-any (Ok x) P h = tt
on_err-any (Err x) P h = h

pub on_ok-any : {T E : Type 0} (r : Result T E) (P : Type 0) → P → OnOk r P
on_ok-any (Ok x) P h = h
on_ok-any (Err x) P h = tt

-- after an error nothing is shown
pub on_err-hidden : {X T E : Type 0} (r : Result T E) (x : X) → OnErr r (cond (is_ok r) (Some x) None ≡ None)
on_err-hidden (Ok t) x = tt
on_err-hidden (Err e) x = refl

-- a call at an empty buffer fills it
pub fills : {F T V E : Type 0} (bytes_of : V → List ℕ) (calls : F → T → MutBor V → Result (Unit {0}) E → MutBor V → F → Type 0)
    (f : F) (item : T) (lent : MutBor V) (answer : Result (Unit {0}) E) (left : MutBor V) (f_after : F)
    → calls f item lent answer left f_after → bytes_of lent.now ≡ [] → Fills bytes_of calls f item answer (bytes_of left.now) f_after
fills bytes_of calls f item lent answer left f_after called empty = record { lent = lent; empty = empty; left = left; called = called; leaves = refl }

-- where no list is told, none has to be kept
pub tells_nothing : (o : Option (List ℕ)) → IfSome o (λ x. (told : List (List ℕ)) → ⊥ → (rest : List (List ℕ)) × (told ≡ x ∷ rest) × ⊥)
tells_nothing None = tt
tells_nothing (Some x) = λ _ told. absurd told
