use Rattle.std.proofs.Common.{◌≡◌, ℕ, List, ◌+◌, ◌-◌, ◌++◌, take, drop, length, sym, ap, subst, ◌∙◌, drop-drop, take-append-drop, take_all, length-drop, rules, arith}
use Rattle.arrow_base.proofs.Through.{given_through}
use Rattle.arrow_base.proofs.pieces.Pieces.give_through.Goals as goal

split : (bytes : List ℕ) (at n : ℕ) → drop at bytes ≡ take n (drop at bytes) ++ drop (at + n) bytes
split bytes at n = sym (take-append-drop n (drop at bytes)) ∙ ap (λ (z : List ℕ). take n (drop at bytes) ++ z) (drop-drop n at bytes)

-- what is left, as a slice to the end
left_is : (all bytes : List ℕ) (at : ℕ) → all ≡ bytes → take (length all - at) (drop at all) ≡ drop at bytes
left_is all bytes at same = take_all (length all - at) (drop at all) (omega (arith, length-drop at all)) ∙ ap (drop at) same

pub returns-clause-given : goal.returns-clause-given
returns-clause-given c =
    let given = c.len_through-given in
    let bytes = c.args.self.now.bytes in
    let at = c.args.self.now.at in
    let is = left_is c.as_slice.result.now bytes at (search rules) in
    given_through _ _ _ _ _ _ given.result _ _
    (subst (λ (z : List ℕ). drop at bytes ≡ take given.result z ++ drop (at + given.result) bytes) (sym is) (split bytes at given.result))
    (search rules) given.ensures.within given.ensures.stops c.in_ok-extend_from_slice.ensures.items
