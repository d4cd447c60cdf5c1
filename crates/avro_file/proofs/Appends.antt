-- Parts are written one after another.
use Rattle.std.proofs.Common.{◌≡◌, ℕ, List, ◌++◌, Result, Ok, Err, OnOk, sym, ap, ◌∙◌, append_assoc}

-- the part is written behind what stood there
pub record Adds (new old part : List ℕ) : Type 0 where
  pub is : new ≡ old ++ part

-- a part, and then another
pub after : {old middle new a b : List ℕ} → Adds middle old a → Adds new middle b → Adds new old (a ++ b)
after {old} {middle} {new} {a} {b} e i = record { is = i.is ∙ ap (λ t. t ++ b) e.is ∙ append_assoc old a b }

-- the last part
pub last : {T E : Type 0} {old middle a : List ℕ} (r : Result T E) (new part whole : List ℕ) → Adds middle old a → whole ≡ a ++ part → OnOk r (new ≡ middle ++ part) → OnOk r (new ≡ old ++ whole)
last {T} {E} {old} {middle} {a} (Ok x) new part whole e i h = h ∙ ap (λ t. t ++ part) e.is ∙ append_assoc old a part ∙ ap (λ t. old ++ t) (sym i)
last (Err x) new part whole e i h = tt

-- one part alone
pub alone : {T E : Type 0} (r : Result T E) (old new part whole : List ℕ) → whole ≡ part → OnOk r (new ≡ old ++ part) → OnOk r (new ≡ old ++ whole)
alone (Ok x) old new part whole e h = h ∙ ap (λ t. old ++ t) (sym e)
alone (Err x) old new part whole e h = tt

-- ---- the same parts, joined from the other side

pub six : (a b c d e f : List ℕ) → a ++ b ++ c ++ d ++ e ++ f ≡ a ++ (b ++ (c ++ (d ++ (e ++ f))))
six a b c d e f = simp append_assoc

pub seven : (a b c d e f g : List ℕ) → a ++ b ++ c ++ d ++ e ++ f ++ g ≡ a ++ (b ++ (c ++ (d ++ (e ++ (f ++ g)))))
seven a b c d e f g = simp append_assoc

pub eight : (a b c d e f g h : List ℕ) → a ++ b ++ c ++ d ++ e ++ f ++ g ++ h ≡ a ++ (b ++ (c ++ (d ++ (e ++ (f ++ (g ++ h))))))
eight a b c d e f g h = simp append_assoc
