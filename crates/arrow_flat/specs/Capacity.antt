-- Items that grow, and how many more fit before memory is asked for. Cited by the contracts and models of private types alone;
-- nothing here has to be read to believe a public contract.
use Rattle.std.specs.Prelude.{ℕ, List, refl}
use Rattle.std.specs.Coded.{Coded, code_by, coded×, coded_list, coded_ℕ}

pub record Growing (A : Type 0) : Type 0 where
  pub items : List A
  pub spare : ℕ

-- it is stored as the pair of its fields
abbrev pub growing_code : {A : Type 0} → Coded A → Coded (Growing A)
growing_code {A} c =
    code_by (List A × ℕ) (coded× (coded_list c) coded_ℕ) (λ g. (g.items, g.spare))
    (λ p. record { items = p.0; spare = p.1 }) (λ _. refl)
