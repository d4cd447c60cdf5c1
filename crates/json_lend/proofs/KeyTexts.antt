-- Names that are passed as the keys that they are in a text.
use Rattle.std.proofs.Common.{◌≡◌, ◌∙◌, ◌<◌, ℕ, List, [], ◌∷◌, ◌++◌, length, drop, ap, append_assoc}
use Rattle.json_tree.specs.Reading.{found, string_at}
use Rattle.json_tree.proofs.CharTurns.{plain-string}
use Rattle.json_lend.specs.Names.{IsKeyOf}

-- a text that begins with the key of a name has the name as its first string
pub passed-key : (name key text : List ℕ) → IsKeyOf name key → 0 < length key → text ≡ key ++ drop (length key) text → string_at text ≡ found name (drop (length key) text)
passed-key name key text of some starts =
    let rest = drop (length key) text in
    let h = of some in
    plain-string text name rest h.0 (starts ∙ ap (λ k. k ++ rest) h.1 ∙ ap (λ w. 34 ∷ w) (append_assoc name (34 ∷ []) rest))
