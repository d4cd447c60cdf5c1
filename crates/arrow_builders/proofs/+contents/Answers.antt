use Rattle.arrow_builders.specs.declared.array.MutableArray.{out-MutableArray}
use Rattle.arrow_builders.proofs.FixedContents.{other_content, content-record}
use Rattle.arrow_builders.proofs.Flats.{is_flat}
use Rattle.arrow_builders.proofs.+contents.Goals as goal

pub array::MutableArray::fixed_content_is_whole-returns-in-FixedSizeBinary : goal.array::MutableArray::fixed_content_is_whole-returns-in-FixedSizeBinary
unfolding out-MutableArray denote.Hole.Carrier.out
array::MutableArray::fixed_content_is_whole-returns-in-FixedSizeBinary t c =
    rw c.in-FixedSizeBinary.is c.len.ensures.bytes

pub array::MutableArray::fixed_content_is_whole-returns-in_default : goal.array::MutableArray::fixed_content_is_whole-returns-in_default
array::MutableArray::fixed_content_is_whole-returns-in_default t c =
    let d = c.in_default in
    other_content c.args.self.now (is_flat c.args.self.now d.not-List d.not-LargeList d.not-FixedSizeList d.not-Struct) d.not-FixedSizeBinary

pub structs::DynMutableStructArray::fixed_content_is_whole-returns : goal.structs::DynMutableStructArray::fixed_content_is_whole-returns
structs::DynMutableStructArray::fixed_content_is_whole-returns t c =
    let children = rw c.as_slice.ensures.value at c.all_content_is_whole.ensures in
    content-record c.args.self.now children
