-- Several builders side by side, as the children of a builder of structs.
use Rattle.std.specs.Prelude.{ℕ, List, [], ◌∷◌, ◌++◌, map}
use Rattle.arrow_core.specs.declared.slot.Slot.{Slot}
use Rattle.arrow_builders.specs.Fits.{ChildrenFit}
use Rattle.arrow_builders.specs.MutableArrays.{builder_dictionaries, nodes, slots_at}
use Rattle.arrow_flat.specs.Nodes.{Node}
use Rattle.arrow_builders.specs.Shapes.{Added, Shape, no_field, field, shape, nulls_in}
use Rattle.arrow_builders.specs.declared.array.MutableArray.{MutableArray}

-- their nodes, one builder's after another
abbrev pub all_nodes : List MutableArray → List Node
all_nodes [] = []
all_nodes (b ∷ bs) = nodes b ++ all_nodes bs

-- the slots at each of their nodes, one builder's after another
abbrev pub all_slots : List MutableArray → List (List Slot)
all_slots [] = []
all_slots (b ∷ bs) = slots_at b ++ all_slots bs

-- the dictionaries of each, one builder's after another
abbrev pub builders_dictionaries : List MutableArray → List (List Slot × List Slot)
builders_dictionaries [] = []
builders_dictionaries (b ∷ bs) = builder_dictionaries b ++ builders_dictionaries bs

-- the shapes of a struct's children
abbrev pub fields_of : List Shape → Shape
fields_of [] = no_field
fields_of (s ∷ more) = field s (fields_of more)

-- what n nulls to each of them add at their nodes
abbrev pub all_nulls : ℕ → List MutableArray → List Added
all_nulls n bs = nulls_in n (fields_of (map shape bs))

-- the children of each of them fit
abbrev pub AllFit : List MutableArray → Type 0
AllFit [] = Unit {0}
AllFit (b ∷ bs) = ChildrenFit b × AllFit bs
