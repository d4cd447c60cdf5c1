-- What holds of an error, or of what is there.
use Rattle.std.proofs.Common.{◌≡◌, ◌≢◌, ◌⊎◌, inl, inr, Option, Some, Result, Err, IfErr, refl, sym, subst}
use Rattle.std.specs.Prelude.{IfSome}
use Rattle.arrow_core.specs.declared.error.Error.{Error}
use Rattle.arrow_core.specs.declared.error.Error.TheVariants.{InvalidArgumentError, NotYetImplemented, ExternalFormat, OutOfSpec, Overflow, LimitExceeded, ReadFault, WriteFault, OutOfMemory}

pub err_then : {A : Type 0} (P : Error → Type 0) (r : Result A Error) (e : Error) → r ≡ Err e → P e → IfErr r P
err_then {A} P r e is h = subst (λ (z : Result A Error). IfErr z P) (sym is) h

pub some_then : {A : Type 0} (P : A → Type 0) (o : Option A) (x : A) → o ≡ Some x → IfSome o P → P x
some_then {A} P o x is h = subst (λ (z : Option A). IfSome z P) is h

pub memory_or_not : (e : Error) → (e ≡ OutOfMemory) ⊎ (e ≢ OutOfMemory)
memory_or_not (InvalidArgumentError r) = inr (λ q. cc)
memory_or_not (NotYetImplemented r) = inr (λ q. cc)
memory_or_not (ExternalFormat r) = inr (λ q. cc)
memory_or_not (OutOfSpec r) = inr (λ q. cc)
memory_or_not Overflow = inr (λ q. cc)
memory_or_not LimitExceeded = inr (λ q. cc)
memory_or_not (ReadFault line) = inr (λ q. cc)
memory_or_not WriteFault = inr (λ q. cc)
memory_or_not OutOfMemory = inl refl
