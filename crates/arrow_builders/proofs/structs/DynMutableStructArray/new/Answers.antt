use Rattle.std.proofs.Common.{ℕ, length, ap, sym, subst}
use Rattle.arrow_builders.specs.Tight.{AllTight}
use Rattle.arrow_builders.proofs.Rows.{tight-record}
use Rattle.arrow_builders.proofs.structs.DynMutableStructArray.new.Goals as goal

pub returns-clause-tight : goal.returns-clause-tight
returns-clause-tight c = λ h.
    subst (λ (P : Type 0). P) (sym (tight-record (record { marks = c.new.result; values = c.args.values })))
    (subst (λ (n : ℕ). AllTight n c.args.values.items) (sym (ap length c.new.ensures.booleans)) h)
