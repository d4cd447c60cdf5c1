-- Where an `Items` keeps its items, for types that hold an `Items` of themselves: in the vector
-- that is its one field, and in the order in which contracts see them. Nothing here has to be read to believe a contract.
use Rattle.std.specs.declared.alloc.Global.{Global}
use Rattle.std.specs.contracts.alloc.Global as heap
use Rattle.std.specs.contracts.impls.GlobalAllocator.TheImpl.{ghosts}
use Rattle.std.specs.formers.vec.Vec as vec
use Rattle.arrow_core.specs.declared.items.Items.TheInside.{Inside}
use Rattle.arrow_core.specs.declared.items.Items.TheView.{view, invariant}
use Rattle.arrow_core.specs.contracts.items.Items as seen
use Rattle.arrow_core.specs.contracts.items.Items.TheInside as inside
use mathlib.Core.Path.{◌≡◌, refl, sym}
use mathlib.Core.List.{List, []}
use mathlib.Core.Former.{Former, this, list, via, children}
use base.Stored.{code_map}
use denote.RattleType.{RattleType}
use denote.Hole.Carrier.{listed, list-listed}
use denote.Hole.Fix.{over}
use denote.HoleLaws.{Alike}
use denote.HolePlaces.{Recodes, struct_places, laid}
use denote.Model.Placed.{view_places}
use denote.Param.Weighed.{Weighed, w_list}

-- contracts see a list
abbrev pub the_former : Former {0} → Former {0}
the_former item = list item

-- a list weighs as much as its heaviest item
abbrev pub the_weighed : {item : Former {0}} → Weighed item → Weighed (the_former item)
the_weighed weight = w_list weight

-- there is a list without items, so a type may hold the lists of itself
pub the_empty : List ⊥
the_empty = []

-- the items in order are the list itself
abbrev pub the_items : (X : Type 0) → List X → List X
the_items X xs = xs

pub the_items_listed : (X : Type 0) (xs : List X) → listed _ (children (the_former this) X xs) ≡ the_items X xs
the_items_listed X xs = list-listed X xs

-- the one field
abbrev the_vector : Former {0}
the_vector = via (vec.the_former this Global) Inside (λ X parts. parts.items) (λ X items. record { items = items }) (λ X parts. refl) (λ X items. refl)

module _ (Old New : RattleType) (change : Old.Denot → New.Denot) where
  -- with items that lie, own and lend alike, so do the lists
  pub the_places : Alike Old New change → Alike (seen.the_row Old) (seen.the_row New) ((the_former this).map Old.Denot New.Denot change)
  the_places alike =
      let parts = struct_places (inside.the_type Old) (inside.the_type New) (vec.mapped change, tt) _ (λ p. refl) refl
      (laid _ _ _ (vec.the_places heap.the_row ghosts Old New change alike), tt) in
      view_places the_vector (list this) view (λ X Y f p. refl) (λ X p. refl)
      Old.Denot New.Denot change
      (seen.the_row Old).coded (seen.the_row New).coded
      (invariant Old.Denot) (invariant New.Denot) (λ p a b. refl) (λ p a b. refl) (λ p e. tt) (λ p e. tt)
      (over (inside.the_row Old)) (over (inside.the_row New))
      parts

  -- with items of the same code, so are the lists
  pub the_codes_placed : Recodes Old New change → Recodes (seen.the_row Old) (seen.the_row New) ((the_former this).map Old.Denot New.Denot change)
  the_codes_placed same xs = sym (code_map Old.coded.code New.coded.code change (λ x. sym (same x)) xs)
