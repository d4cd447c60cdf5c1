-- `Members`, the members of an object (RFC 8259, section 4), as a type that may hold the type that holds it, by its values. Only
-- what Rattle states of the types of this crate cites this file.
use Rattle.std.specs.Prelude.{ℕ, List, [], ◌∷◌, map, drop, true}
use mathlib.Core.Path.{◌≡◌, refl, sym, ap, subst}
use mathlib.Core.HLevel.{×_prop, Π_prop}
use mathlib.Core.Bool.{Bool-set}
use mathlib.Core.Former.{Former, this, const, pair, list, via, children}
use base.Stored.{gcons, code_map, coded×, coded_list, coded_ℕ, Coded-set}
use Rattle.std.specs.Coded.{coded_option}
use denote.RattleType.{RattleType}
use denote.HoleLaws.{Alike}
use denote.HolePlaces.{Recodes, struct_places, laid, stays}
use denote.Hole.Carrier.{listed}
use denote.Hole.Fix.{over}
use denote.Struct.Tuple.{Tuple, tuple_type}
use denote.Param.Weighed.{Weighed, w_list, w_pair, w_const}
use denote.Model.Placed.{view_places}
use Rattle.std.specs.formers.vec.Vec as vec
use Rattle.std.specs.declared.alloc.Global.{Global}
use Rattle.std.specs.contracts.alloc.Global as heap
use Rattle.std.specs.contracts.impls.GlobalAllocator.TheImpl.{ghosts}
use Rattle.arrow_core.specs.contracts.text.Text as text
use Rattle.json_tree.specs.declared.members.Members.TheInside.{Inside}
use Rattle.json_tree.specs.declared.members.Members.TheView.{view, invariant}
use Rattle.json_tree.specs.contracts.members.Members as C
use Rattle.json_tree.specs.contracts.members.Members.TheInside as I
use Rattle.std.specs.BTreeMap.{BTreeMap}
use Rattle.std.specs.declared.string.String.{String}
use Rattle.json_tree.specs.Keys.{keys_of}
use Rattle.json_tree.specs.Layout.{distinct, Indexed}

-- a key beside one of g's values
abbrev member : Former {0} → Former {0}
member g = pair (const (List ℕ)) g

abbrev pub the_former : Former {0} → Former {0}
the_former g = list (member g)

abbrev pub the_weighed : {g : Former {0}} → Weighed g → Weighed (the_former g)
the_weighed w = w_list (w_pair (w_const (List ℕ)) w)

pub the_empty : List (List ℕ × ⊥)
the_empty = []

abbrev pub the_items : (X : Type 0) → List (List ℕ × X) → List X
the_items X d = map (λ p. p.1) d

pub the_items_listed : (X : Type 0) (d : List (List ℕ × X)) → listed _ (children (the_former this) X d) ≡ the_items X d
the_items_listed X [] = refl
the_items_listed X (e ∷ es) = ap (λ l. e.1 ∷ l) (the_items_listed X es)

abbrev fields : Former {0}
fields = via (pair (vec.the_former (member this) Global) (const (BTreeMap (String Global) ℕ))) Inside (λ X a. (a.pairs, a.indices)) (λ X v. record { pairs = v.0; indices = v.1 }) (λ X a. refl) (λ X v. refl)

abbrev Kept : BTreeMap (String Global) ℕ → List (List ℕ) → Type 0
Kept m ks = (distinct ks ≡ true) × Indexed m (drop 16 ks)

Kept-prop : (m : BTreeMap (String Global) ℕ) (ks : List (List ℕ)) → IsProp (Kept m ks)
Kept-prop m ks = ×_prop (Bool-set _ _) (Π_prop (λ k. Coded-set (coded_option coded_ℕ) _ _))

-- the member, with h applied to its value
abbrev on_value : {X Y : Type 0} → (X → Y) → List ℕ × X → List ℕ × Y
on_value h p = (p.0, h p.1)

keys_on_values : {X Y : Type 0} (h : X → Y) (ms : List (List ℕ × X)) → keys_of (map (on_value h) ms) ≡ keys_of ms
keys_on_values h [] = refl
keys_on_values h (m ∷ ms) = ap (λ l. m.0 ∷ l) (keys_on_values h ms)

abbrev member_of : RattleType → RattleType
member_of R = Tuple (text.the_row ∷ R ∷ [])

module _ (R S : RattleType) (h : R.Denot → S.Denot) where
  member_places : Alike R S h → Alike (member_of R) (member_of S) (on_value h)
  member_places a = struct_places (tuple_type (text.the_row ∷ R ∷ [])) (tuple_type (text.the_row ∷ S ∷ [])) ((λ k. k), (h, tt)) (on_value h) (λ d. refl) refl (stays text.the_row, (laid _ _ _ a, tt))

  pub the_places : Alike R S h → Alike (C.the_row R) (C.the_row S) ((the_former this).map R.Denot S.Denot h)
  the_places a = view_places fields (the_former this) view (λ X Y k u. refl) (λ X u. refl) R.Denot S.Denot h (C.the_row R).coded (C.the_row S).coded
      (invariant R.Denot) (invariant S.Denot) (λ u. Kept-prop u.indices (keys_of u.pairs.items)) (λ u. Kept-prop u.indices (keys_of u.pairs.items))
      (λ u e. subst (Kept u.indices) (sym (keys_on_values h u.pairs.items)) e) (λ u e. subst (Kept u.indices) (keys_on_values h u.pairs.items) e)
      (over (I.the_row R)) (over (I.the_row S))
      (struct_places (I.the_type R) (I.the_type S) (vec.mapped (on_value h), ((λ m. m), tt)) _ (λ d. refl) refl (laid _ _ _ (vec.the_places heap.the_row ghosts (member_of R) (member_of S) (on_value h) (member_places a)), ((refl, (λ m. refl, λ m. refl)), tt)))

  pub the_codes_placed : Recodes R S h → Recodes (C.the_row R) (C.the_row S) ((the_former this).map R.Denot S.Denot h)
  the_codes_placed e d = sym (code_map (coded× (coded_list coded_ℕ) R.coded).code (coded× (coded_list coded_ℕ) S.coded).code (on_value h) (λ x i. gcons ((coded_list coded_ℕ).code x.0) (sym (e x.1) i)) d)
