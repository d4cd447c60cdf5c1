-- What builders hold, and the spare capacity that they have, at each of their nodes.
use Rattle.std.specs.Prelude.{◌≡◌, ℕ, ◌≤◌, ◌⊎◌, List, length, All}
use Rattle.std.specs.List.{AllZip}
use Rattle.arrow_builders.specs.Nodes.{Node, KeepsCapacity, Emptied, HasSpare, IsEmpty}
use Rattle.arrow_builders.specs.declared.array.MutableArray.{MutableArray}
use Rattle.arrow_builders.specs.MutableArrays.{nodes}

-- each node of each builder has P
abbrev pub AtNodes : (Node → Type 0) → List MutableArray → Type 0
AtNodes P builders = All (λ b. All P (nodes b)) builders

-- R holds between each node of each builder and the same node later
abbrev pub BetweenNodes : (Node → Node → Type 0) → List MutableArray → List MutableArray → Type 0
BetweenNodes R old new = AllZip (λ b c. AllZip R (nodes b) (nodes c)) old new

-- Builders that had spare capacity for n, then lost none of it but by growing, and then were emptied, are
-- empty and have spare capacity for n.
abbrev pub ReservedCapacityStays : Type 0
ReservedCapacityStays = (n : ℕ) (reserved filled cleared : List MutableArray) → AtNodes (HasSpare n) reserved → BetweenNodes KeepsCapacity reserved filled → BetweenNodes Emptied filled cleared → AtNodes IsEmpty cleared × AtNodes (HasSpare n) cleared

-- cited by private contracts alone: a builder of several nodes is as it was; one of a single node may have got capacity
abbrev pub IsReserved : MutableArray → MutableArray → Type 0
IsReserved old new = (length (nodes old) ≤ 1) ⊎ (new ≡ old)
