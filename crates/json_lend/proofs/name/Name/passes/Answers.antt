use Rattle.std.proofs.Common.{◌≡◌, ◌∙◌, ◌<◌, ◌++◌, true, length, drop, refl, ap, sym, subst, rules, arith}
use Rattle.std.proofs.lemmas.Bool.Decides.{nat_tests}
use Rattle.std.proofs.lemmas.Slice.Eq.{starts_is}
use Rattle.std.specs.Cmp.{unsigned_Decides}
use Rattle.json_tree.specs.Reading.{found}
use Rattle.json_lend.specs.Names.{IsKeyOf}
use Rattle.json_lend.proofs.KeyTexts.{passed-key}
use Rattle.json_lend.proofs.name.Name.passes.Goals as goal

pub returns-clause-key : goal.returns-clause-key
returns-clause-key c =
    let key = c.self.inside.key.items in
    let text = c.args.reader.now in
    let is : c.as_slice.result.now ≡ key = c.as_slice.ensures.value in
    let len : c.len.result ≡ length key = search rules in
    let starts = starts_is unsigned_Decides c.rest.result.now c.as_slice.result.now true c.if-not-starts_with.ensures.value in
    let begins : text ≡ key ++ drop (length key) text = sym c.rest.ensures ∙ starts.0 refl ∙ ap (λ k. k ++ drop (length k) c.rest.result.now) is ∙ ap (λ b. key ++ drop (length key) b) c.rest.ensures in
    let some : 0 < length key = grind (arith, nat_tests, c.is_empty.ensures, c.if-is_empty.false, len, c.len.ensures) in
    let of : IsKeyOf c.args.self.now key = subst (λ n. IsKeyOf n key) (search rules) c.self.invariant in
    passed-key c.args.self.now key text of some begins ∙ ap (found c.args.self.now) (ap (λ n. drop n text) (sym len) ∙ sym c.advance.ensures)
