-- A builder that is of no nested kind is flat.
use Rattle.std.proofs.Common.{◌≡◌, ◌∙◌, sym, subst}
use Rattle.arrow_builders.specs.Fits.{ChildrenFit}
use Rattle.arrow_builders.specs.Shapes.{IsFlat}
use Rattle.arrow_builders.specs.declared.list.DynMutableListArray.{DynMutableListArray}
use Rattle.arrow_builders.specs.declared.large_list.DynMutableLargeListArray.{DynMutableLargeListArray}
use Rattle.arrow_builders.specs.declared.fixed_size_list.MutableFixedSizeListArray.{MutableFixedSizeListArray}
use Rattle.arrow_builders.specs.declared.structs.DynMutableStructArray.{DynMutableStructArray}
use Rattle.arrow_builders.specs.declared.array.MutableArray.{MutableArray, out-MutableArray, roll-MutableArray, roll-out-MutableArray}
use Rattle.arrow_builders.specs.declared.array.MutableArray.{List', LargeList', FixedSizeList', Struct'}
use Rattle.arrow_builders.specs.declared.array.MutableArray.{Null, Boolean, Int8, Int16, Int32, Int64, UInt8, UInt16, UInt32, UInt64, Int128, MonthDayNano, Utf8, LargeUtf8, Binary, LargeBinary, FixedSizeBinary, Dictionary}
use Rattle.arrow_builders.specs.declared.array.MutableArray.TheOpen as layer
use Rattle.arrow_builders.specs.declared.array.MutableArray.TheVariants as any

pub is_flat : (b : MutableArray) → ((x : DynMutableListArray) → b ≡ any.List x → ⊥) → ((x : DynMutableLargeListArray) → b ≡ any.LargeList x → ⊥) → ((x : MutableFixedSizeListArray) → b ≡ any.FixedSizeList x → ⊥) → ((x : DynMutableStructArray) → b ≡ any.Struct x → ⊥) → IsFlat b
unfolding roll-MutableArray denote.Hole.Carrier.roll
is_flat b l m f s = (elim (out-MutableArray b) as (λ o. roll-MutableArray o ≡ b → IsFlat b) [
  | layer.Null x ↦ λ e. subst IsFlat e tt
  | layer.Boolean x ↦ λ e. subst IsFlat e tt
  | layer.Int8 x ↦ λ e. subst IsFlat e tt
  | layer.Int16 x ↦ λ e. subst IsFlat e tt
  | layer.Int32 x ↦ λ e. subst IsFlat e tt
  | layer.Int64 x ↦ λ e. subst IsFlat e tt
  | layer.UInt8 x ↦ λ e. subst IsFlat e tt
  | layer.UInt16 x ↦ λ e. subst IsFlat e tt
  | layer.UInt32 x ↦ λ e. subst IsFlat e tt
  | layer.UInt64 x ↦ λ e. subst IsFlat e tt
  | layer.Int128 x ↦ λ e. subst IsFlat e tt
  | layer.MonthDayNano x ↦ λ e. subst IsFlat e tt
  | layer.Utf8 x ↦ λ e. subst IsFlat e tt
  | layer.LargeUtf8 x ↦ λ e. subst IsFlat e tt
  | layer.Binary x ↦ λ e. subst IsFlat e tt
  | layer.LargeBinary x ↦ λ e. subst IsFlat e tt
  | layer.FixedSizeBinary x ↦ λ e. subst IsFlat e tt
  | layer.Dictionary x ↦ λ e. subst IsFlat e tt
  | layer.List x ↦ λ e. absurd (l x (sym e ∙ sym (any.rolls-List x)))
  | layer.LargeList x ↦ λ e. absurd (m x (sym e ∙ sym (any.rolls-LargeList x)))
  | layer.FixedSizeList x ↦ λ e. absurd (f x (sym e ∙ sym (any.rolls-FixedSizeList x)))
  | layer.Struct x ↦ λ e. absurd (s x (sym e ∙ sym (any.rolls-Struct x)))
]) (roll-out-MutableArray b)

pub flat_fits : (b : MutableArray) → IsFlat b → ChildrenFit b
flat_fits (Null b) h = tt
flat_fits (Boolean b) h = tt
flat_fits (Int8 b) h = tt
flat_fits (Int16 b) h = tt
flat_fits (Int32 b) h = tt
flat_fits (Int64 b) h = tt
flat_fits (UInt8 b) h = tt
flat_fits (UInt16 b) h = tt
flat_fits (UInt32 b) h = tt
flat_fits (UInt64 b) h = tt
flat_fits (Int128 b) h = tt
flat_fits (MonthDayNano b) h = tt
flat_fits (Utf8 b) h = tt
flat_fits (LargeUtf8 b) h = tt
flat_fits (Binary b) h = tt
flat_fits (LargeBinary b) h = tt
flat_fits (FixedSizeBinary b) h = tt
flat_fits (Dictionary b) h = tt
flat_fits (List' l p child) h = absurd h
flat_fits (LargeList' l p child) h = absurd h
flat_fits (FixedSizeList' m p child) h = absurd h
flat_fits (Struct' m size row) h = absurd h
