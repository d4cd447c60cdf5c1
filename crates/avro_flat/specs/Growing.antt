-- How the node of a builder grows while it is filled. Contracts below the decoder's public calls alone cite this
-- file.
use Rattle.std.specs.Prelude.{ℕ, ◌+◌, ◌≤◌, Bool}
use Rattle.arrow_core.specs.Numbers.{greatest_offset}
use Rattle.arrow_flat.specs.Nodes.{Node, Takes}

-- the offsets, of 64 bits where large, can count n more content bytes
abbrev pub OffsetsReach : Bool → ℕ → Node → Type 0
OffsetsReach large n x = x.bytes + n ≤ greatest_offset large

-- n slots are added at most, and n content bytes; none goes, and no other capacity is lost
abbrev pub Fills : ℕ → Node → Node → Type 0
Fills n x y = Takes n n x y
