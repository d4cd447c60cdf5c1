use Rattle.arrow_array.proofs.FixedLists.{fixed_kind}
use Rattle.arrow_array.proofs.fixed_size_list.is_fixed_list_of.Goals as goal

pub returns-in-FixedSizeList : goal.returns-in-FixedSizeList
returns-in-FixedSizeList c = fixed_kind _ _ c.in-FixedSizeList.field _ _ _ c.in-FixedSizeList.is c.get.ensures c.is_same.ensures
