-- Where a `Box` keeps its value, for types that hold a `Box` of themselves: after the pointer of
-- the box of std that is its one field. Contracts see the value alone; nothing here has to be read to believe one.
use Rattle.std.specs.declared.alloc.Global.{Global}
use Rattle.std.specs.declared.boxed.Box as declared
use Rattle.std.specs.contracts.alloc.Global as heap
use Rattle.std.specs.contracts.boxed.Box as std_box
use Rattle.std.specs.contracts.impls.GlobalAllocator.TheImpl.{ghosts}
use Rattle.arrow_core.specs.declared.boxed.Box.TheInside.{Inside}
use Rattle.arrow_core.specs.declared.boxed.Box.TheView.{view, invariant}
use Rattle.arrow_core.specs.contracts.boxed.Box as seen
use Rattle.arrow_core.specs.contracts.boxed.Box.TheInside as inside
use mathlib.Core.Path.{refl}
use mathlib.Core.Former.{Former, this, const, pair, via}
use base.Fml.{ftrue}
use base.Stored.{gnil}
use denote.RattleType.{RattleType}
use denote.Memory.{part_of}
use denote.RawPtr.{Ptr}
use denote.Sharing.{nothing}
use denote.Hole.Fix.{over}
use denote.HoleLaws.{Alike}
use denote.HolePlaces.{Recodes, struct_places, laid, one_value}
use denote.Model.Placed.{view_places}
use denote.Param.Weighed.{Weighed}

-- contracts see the value
abbrev pub the_former : Former {0} → Former {0}
the_former value = value

-- a box weighs as much as its value
abbrev pub the_weighed : {value : Former {0}} → Weighed value → Weighed (the_former value)
the_weighed weight = weight

-- the box of std with another value, at the same pointer
abbrev replaced : {X Y : Type 0} → declared.Box X Global → Y → declared.Box Y Global
replaced b y = record { ptr = b.ptr; alloc = b.alloc; value = y }

-- the one field: a pointer, the allocator, and the value
abbrev the_std_box : Former {0}
the_std_box =
    via (pair (const (Ptr × Global)) this) Inside
    (λ X parts. ((parts.inner.ptr, parts.inner.alloc), parts.inner.value))
    (λ X b. record { inner = record { ptr = b.0.0; alloc = b.0.1; value = b.1 } })
    (λ X parts. refl) (λ X b. refl)

-- the box of std around a value of the type
abbrev around : RattleType → RattleType
around T = std_box.the_row T heap.the_row ghosts

module _ (Old New : RattleType) (change : Old.Denot → New.Denot) where
  -- with values that lie, own and lend alike, so do the boxes of std
  std_places : Alike Old New change → Alike (around Old) (around New) (λ b. replaced b (change b.value))
  unfolding part_of
  std_places alike = record {
    mir_same = λ i. (around (one_value Old (alike.mir_same i) (λ _. ftrue) (λ _ _. nothing) gnil)).mir;
    own_same = λ b i. (around (one_value Old (alike.mir_same i) (alike.own_same b.value i) (alike.shr_same b.value i) gnil)).own_val (replaced b tt);
    shr_same = λ b i. (around (one_value Old (alike.mir_same i) (alike.own_same b.value i) (alike.shr_same b.value i) gnil)).shr_at (replaced b tt);
  }

  -- and so do the boxes
  pub the_places : Alike Old New change → Alike (seen.the_row Old) (seen.the_row New) ((the_former this).map Old.Denot New.Denot change)
  the_places alike =
      let parts = struct_places (inside.the_type Old) (inside.the_type New) ((λ b. replaced b (change b.value)), tt) _ (λ p. refl) refl
      (laid _ _ _ (std_places alike), tt) in
      view_places the_std_box this view (λ X Y f p. refl) (λ X p. refl)
      Old.Denot New.Denot change
      (seen.the_row Old).coded (seen.the_row New).coded
      (invariant Old.Denot) (invariant New.Denot) (λ p a b. refl) (λ p a b. refl) (λ p e. tt) (λ p e. tt)
      (over (inside.the_row Old)) (over (inside.the_row New))
      parts

  -- with values of the same code, so are the boxes
  pub the_codes_placed : Recodes Old New change → Recodes (seen.the_row Old) (seen.the_row New) ((the_former this).map Old.Denot New.Denot change)
  the_codes_placed same value = same value
