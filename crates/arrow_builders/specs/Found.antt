-- What the node of a number holds. Cited by private contracts alone; nothing here has to be read to believe a public contract.
use Rattle.std.specs.Prelude.{ℕ, ◌-◌, ◌==◌, if◌then◌else◌, Result, Ok, Err, List, [], ◌∷◌}
use Rattle.arrow_flat.specs.Nodes.{Node}
use Rattle.arrow_builders.specs.MutableArrays.{lengths_of}
use Rattle.arrow_flat.specs.declared.lengths.NodeLengths.{NodeLengths}

-- what the node at an index holds, or how far the index lies past the last node
abbrev pub found_at : List Node → ℕ → Result NodeLengths ℕ
found_at [] i = Err i
found_at (x ∷ xs) i = if i == 0 then Ok (lengths_of x) else found_at xs (i - 1)
