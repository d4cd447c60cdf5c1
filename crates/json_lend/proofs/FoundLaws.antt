-- What is lent, from what was skipped.
use Rattle.std.proofs.Common.{◌≡◌, ℕ, List, ap, ◌∙◌}
use Rattle.json_tree.specs.Tree.{Json, object}
use Rattle.json_tree.specs.Reading.{found, bind, listed_at, member_at, object_at, value_at, put_together}
use Rattle.json_tree.proofs.ListLaws.{bind_found}
use Rattle.json_lend.specs.Parts.{IsFound, members_at}

pub members-found : (d : ℕ) (b start rest : List ℕ) → start ≡ b → (v : Json) × (object_at (value_at d) b ≡ found v rest) → IsFound (members_at d start)
members-found d b start rest e h =
    let k = bind_found (listed_at (member_at (value_at d)) 125 b) (λ ms r. found (object (put_together ms)) r) h.0 rest h.1 in
    (put_together k.0, k.1, ap (members_at d) e ∙ ap (λ o. bind o (λ ms r. found (put_together ms) r)) k.2)
