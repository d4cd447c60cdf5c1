-- The values of the dictionaries of an array, by those of its children.
use Rattle.std.proofs.Common.{◌≡◌, ◌∙◌, List, [], ◌∷◌, ◌++◌, refl, sym, ap, subst, append_assoc, Result, Ok, Err, IfOk}
use Rattle.std.specs.List.{All}
use Rattle.std.proofs.lemmas.List.Elements.{All-append, All-cons, All-nil}
use Rattle.arrow_array.specs.Arrays.{all_dictionaries, dictionaries_of}
use Rattle.arrow_array.specs.declared.array.Array.{Array}
use Rattle.arrow_core.specs.declared.error.Error.{Error}
use Rattle.arrow_dictionaries.specs.Encoding.{FirstSlots, HasFirstValues, HaveFirstValues}
use Rattle.arrow_core.specs.declared.slot.Slot.{Slot}

abbrev IsFirst : List Slot × List Slot → Type 0
IsFirst d = FirstSlots d.0 d.1

-- ---- one array

module _ (r : Result Array Error) where
  of_these : (dictionaries : List (List Slot × List Slot)) → All IsFirst dictionaries → IfOk r (λ a. dictionaries_of a ≡ dictionaries) → IfOk r HasFirstValues
  of_these dictionaries h e = all r e
    where
      all : (r : Result Array Error) → IfOk r (λ a. dictionaries_of a ≡ dictionaries) → IfOk r HasFirstValues
      all (Ok a) e = subst (All IsFirst) (sym e) h
      all (Err x) e = tt

  pub no_dictionary : IfOk r (λ a. dictionaries_of a ≡ []) → IfOk r HasFirstValues
  no_dictionary e = of_these [] (All-nil IsFirst) e

  pub one_dictionary : (slots items : List Slot) → FirstSlots slots items → IfOk r (λ a. dictionaries_of a ≡ (slots, items) ∷ []) → IfOk r HasFirstValues
  one_dictionary slots items f e = of_these ((slots, items) ∷ []) (All-cons IsFirst (slots, items) [] f (All-nil IsFirst)) e

  pub of_child : (child : Array) → IfOk r (λ a. dictionaries_of a ≡ dictionaries_of child) → HasFirstValues child → IfOk r HasFirstValues
  of_child child e h = of_these (dictionaries_of child) h e

  pub of_children : (children : List Array) → IfOk r (λ a. dictionaries_of a ≡ all_dictionaries children) → HaveFirstValues children → IfOk r HasFirstValues
  of_children children e h = of_these (all_dictionaries children) h e

-- ---- several arrays

all_append : (olds news : List Array) → all_dictionaries (olds ++ news) ≡ all_dictionaries olds ++ all_dictionaries news
all_append [] news = refl
all_append (a ∷ olds) news =
    ap (λ (l : List (List Slot × List Slot)). dictionaries_of a ++ l) (all_append olds news) ∙ sym (append_assoc (dictionaries_of a) (all_dictionaries olds) (all_dictionaries news))

pub one_array_more : (old new : List Array) (a : Array) → HaveFirstValues old → HasFirstValues a → new ≡ old ++ a ∷ [] → HaveFirstValues new
one_array_more old new a h k e =
    subst (All IsFirst) (sym (ap all_dictionaries e ∙ all_append old (a ∷ [])))
    (All-append IsFirst (all_dictionaries old) (all_dictionaries (a ∷ [])) h (All-append IsFirst (dictionaries_of a) [] k (All-nil IsFirst)))
