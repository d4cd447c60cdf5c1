use Rattle.std.proofs.Common.{◌≤◌, ◌⊎◌, inl, inr, refl, arith}
use Rattle.avro_schema.specs.ValidBlock.{small_limit}
use Rattle.avro_decode.proofs.kept.offsets_fit.Goals as goal

few_or : {P Q : Type 0} (n : _) → (n ≤ small_limit → ⊥) → (P → Q) → (n ≤ small_limit) ⊎ P → Q
few_or n many f (inl le) = absurd (many le)
few_or n many f (inr p) = f p

pub returns-then-bytes-le-MOST_BYTES : goal.returns-then-bytes-le-MOST_BYTES
returns-then-bytes-le-MOST_BYTES c = (λ t. inl c.if-bytes-le-MOST_BYTES.true, λ h. refl)

pub returns : goal.returns
returns c = (λ t. inr (c.keep_no_small.ensures.0 t), few_or c.args.bytes (λ le. omega (arith, le, c.if-bytes-le-MOST_BYTES.false)) c.keep_no_small.ensures.1)
