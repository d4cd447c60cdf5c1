-- Spare capacity for fewer slots and bytes.
use Rattle.std.proofs.Common.{◌≡◌, ℕ, ◌<◌, ◌≤◌, List, length, get_or, All, Result, Ok, Err, IfErr, sym, subst, arith}
use Rattle.arrow_core.specs.declared.error.Error.{Error}
use Rattle.avro_schema.specs.declared.block.Block.{Block}
use Rattle.arrow_builders.specs.declared.array.MutableArray.{MutableArray}
use Rattle.arrow_builders.specs.Nodes.{HasSpare}
use Rattle.avro_decode.specs.Capacity.{AtNodes}

pub spare_for_fewer : (n m : ℕ) (builders : List MutableArray) → m ≤ n → AtNodes (HasSpare n) builders → AtNodes (HasSpare m) builders
spare_for_fewer n m builders le h k b lt j node within =
    let spare = h k b lt j node within in
    record { slots = omega (arith, le, spare.slots); bytes = omega (arith, le, spare.bytes) }

pub spare_for_none : (builders : List MutableArray) → AtNodes (HasSpare 0) builders
spare_for_none builders k b lt j node within = record { slots = omega arith; bytes = omega arith }

pub spare_for_rest : (n : ℕ) (rest bytes : List ℕ) (builders : List MutableArray) → rest ≡ bytes → length bytes ≤ n → AtNodes (HasSpare n) builders → AtNodes (HasSpare (length rest)) builders
spare_for_rest n rest bytes builders e few spare = spare_for_fewer n (length rest) builders (subst (λ (z : List ℕ). length z ≤ n) (sym e) few) spare

-- one of blocks that are no longer than n
pub block_is_short : (blocks : List Block) (n i : ℕ) (b : Block) → b ≡ get_or blocks i b → i < length blocks → All (λ x. length x.bytes ≤ n) blocks → length b.bytes ≤ n
block_is_short blocks n i b is lt h = subst (λ (x : Block). length x.bytes ≤ n) (sym is) (h i b lt)

pub err_then : {A : Type 0} (P : Error → Type 0) (result : Result A Error) (e : Error) → result ≡ Err e → P e → IfErr result P
err_then P (Ok x) e is p = absurd cc
err_then P (Err d) e is p = let same : e ≡ d = cc in subst P same p
