-- Avro fields that aren't carried are refused.
use Rattle.std.proofs.Common.{◌≡◌, List, [], ◌∷◌, length, Result, Err, refl, sym, ap, subst, arith}
use Rattle.std.specs.Prelude.{MatchResult}
use Rattle.arrow_core.specs.declared.error.Error.{Error}
use Rattle.arrow_core.specs.declared.error.Error.TheVariants.{NotYetImplemented}
use Rattle.arrow_core.specs.declared.error.Reason.TheVariants as reason
use Rattle.avro_schema.specs.ValidBlock.{HaveSameLength}
use Rattle.avro_schema.specs.Projected.{Projected, ProjectionRefused}
use Rattle.avro_schema.specs.Refusals.{AreNotCarried}

none_left : {A : Type 0} (xs : List A) → length xs ≡ 0 → xs ≡ []
none_left [] e = refl
none_left (x ∷ xs) e = absurd (omega (arith, e))

pub are_refused : (p : Projected) (e : Error) → HaveSameLength p.fields p.avro_fields p.projection → AreNotCarried p.avro_fields e → ProjectionRefused p e
are_refused p (NotYetImplemented reason.NoField) same h = ((same, none_left p.fields (omega (arith, ap length h, same.0))), λ q. absurd cc, λ q. absurd cc)
are_refused p (NotYetImplemented reason.NotCarried) same h = ((same, omega (arith, h.0, same.0), h.1), λ q. absurd cc, λ q. absurd cc)
are_refused p _ same h = absurd h

pub refused_then : {A : Type 0} (P : A → Type 0) (Q : Error → Type 0) (r : Result A Error) (e : Error) → r ≡ Err e → Q e → MatchResult r P Q
refused_then {A} P Q r e is h = subst (λ (z : Result A Error). MatchResult z P Q) (sym is) h
