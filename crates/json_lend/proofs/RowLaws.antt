-- A text that is an object.
use Rattle.std.proofs.Common.{◌≡◌, ℕ, List, [], ◌∷◌, refl, ap, ◌∙◌}
use Rattle.json_tree.specs.Tree.{Json}
use Rattle.json_tree.specs.Reading.{found, bind, skip, object_at, value_at, if_end, text_at}
use Rattle.json_lend.proofs.SkipLaws.{value-object}

text-object : (b t : List ℕ) → skip b ≡ 123 ∷ t → text_at 128 b ≡ bind (object_at (value_at 127) t) (λ x r. if_end x (skip r))
unfolding text_at
text-object b t e = ap (λ o. bind o (λ x r. if_end x (skip r))) (value-object 128 127 (skip b) t refl e)

pub object-ends : (b t r : List ℕ) (x : Json) → skip b ≡ 123 ∷ t → object_at (value_at 127) t ≡ found x r → skip r ≡ [] → text_at 128 b ≡ found x []
object-ends b t r x e h s = text-object b t e ∙ ap (λ o. bind o (λ x r. if_end x (skip r))) h ∙ ap (if_end x) s
