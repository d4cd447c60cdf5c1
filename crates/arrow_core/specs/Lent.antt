-- What `Bytes` end as, where the vector that holds them is lent.
use Rattle.std.specs.Prelude.{ℕ, List}
use Rattle.std.specs.Borrow.{Lends, MutBor, Fml, u8}
use Rattle.std.specs.contracts.alloc.Global as global
use Rattle.std.specs.contracts.vec.Vec as vec
use Rattle.std.specs.contracts.impls.GlobalAllocator.TheImpl.{ghosts}
use Rattle.arrow_core.specs.contracts.bytes.Bytes.{the_row}

-- the bytes end as what the vector holds when the borrow ends
abbrev pub LendsVec : MutBor (List ℕ) → MutBor (vec.the_row u8 global.the_row ghosts).Denot → Fml
LendsVec bytes vector = Lends the_row (vec.the_row u8 global.the_row ghosts) bytes vector (λ v. v.items)
