-- What a builder ends as, where it lent out a child.
use Rattle.std.specs.Prelude.{ℕ}
use Rattle.std.specs.Borrow.{Lends, MutBor, Fml}
use Rattle.std.specs.Vec.{with_item}
use Rattle.arrow_builders.specs.declared.array.MutableArray.{MutableArray}
use Rattle.arrow_builders.specs.declared.list.DynMutableListArray.{DynMutableListArray}
use Rattle.arrow_builders.specs.declared.large_list.DynMutableLargeListArray.{DynMutableLargeListArray}
use Rattle.arrow_builders.specs.declared.fixed_size_list.MutableFixedSizeListArray.{MutableFixedSizeListArray}
use Rattle.arrow_builders.specs.declared.structs.DynMutableStructArray.{DynMutableStructArray}
use Rattle.arrow_builders.specs.contracts.array.MutableArray as array
use Rattle.arrow_builders.specs.contracts.list.DynMutableListArray as list
use Rattle.arrow_builders.specs.contracts.large_list.DynMutableLargeListArray as large_list
use Rattle.arrow_builders.specs.contracts.fixed_size_list.MutableFixedSizeListArray as fixed_size_list
use Rattle.arrow_builders.specs.contracts.structs.DynMutableStructArray as structs

-- the same builder with another child
abbrev pub with_list_values : DynMutableListArray → MutableArray → DynMutableListArray
with_list_values b child = record b { values = record b.values { value = child } }

abbrev pub with_large_list_values : DynMutableLargeListArray → MutableArray → DynMutableLargeListArray
with_large_list_values b child = record b { values = record b.values { value = child } }

abbrev pub with_fixed_size_list_values : MutableFixedSizeListArray → MutableArray → MutableFixedSizeListArray
with_fixed_size_list_values b child = record b { values = record b.values { value = child } }

-- the same builder with another child of a field
abbrev pub with_field : DynMutableStructArray → ℕ → MutableArray → DynMutableStructArray
with_field b field child = record b { values = with_item b.values field child }

-- the builder b ends with the child that stands after r last
abbrev pub LendsListValues : MutBor DynMutableListArray → MutBor MutableArray → Fml
LendsListValues b r = Lends list.the_row array.the_row b r (with_list_values b.now)

abbrev pub LendsLargeListValues : MutBor DynMutableLargeListArray → MutBor MutableArray → Fml
LendsLargeListValues b r = Lends large_list.the_row array.the_row b r (with_large_list_values b.now)

abbrev pub LendsFixedSizeListValues : MutBor MutableFixedSizeListArray → MutBor MutableArray → Fml
LendsFixedSizeListValues b r = Lends fixed_size_list.the_row array.the_row b r (with_fixed_size_list_values b.now)

abbrev pub LendsField : MutBor DynMutableStructArray → ℕ → MutBor MutableArray → Fml
LendsField b field r = Lends structs.the_row array.the_row b r (with_field b.now field)
