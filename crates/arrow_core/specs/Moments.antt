-- Intervals are equal exactly where their three parts are. Cited by a model alone; nothing here has to be read to believe a public contract.
use mathlib.Core.Path.{ap}
use Rattle.std.specs.Prelude.{◌≡◌, ◌&&◌}
use Rattle.std.specs.Ordering.{int_eq}
use Rattle.std.specs.Bool.{Decides}
use Rattle.std.specs.Cmp.{signed_Decides}
use Rattle.std.proofs.lemmas.Bool.Decides.{Decides-and}
use Rattle.arrow_core.specs.declared.months_days_ns.MonthsDaysNs.{MonthsDaysNs}

pub equal_parts : (x y : MonthsDaysNs) → Decides (int_eq x.months y.months && (int_eq x.days y.days && int_eq x.ns y.ns)) (x ≡ y)
equal_parts x y =
    let days = Decides-and _ _ (signed_Decides x.days y.days) (signed_Decides x.ns y.ns) in
    let parts = Decides-and _ _ (signed_Decides x.months y.months) days in
    (λ t. let e = parts.0 t in λ i. record { months = e.0 i; days = e.1.0 i; ns = e.1.1 i }, λ e. parts.1 (ap (λ z. z.months) e, (ap (λ z. z.days) e, ap (λ z. z.ns) e)))
