use Rattle.std.proofs.Common.{◌≡◌, ◌∷◌, rules, arith}
use Rattle.json_tree.proofs.InTexts.{in_after}
use Rattle.json_tree.proofs.reader.Reader.takes.Goals as goal

pub returns-then-first-byte-clause-text : goal.returns-then-first-byte-clause-text
returns-then-first-byte-clause-text c t l =
    let e : c.self.inside.bytes.now ≡ c.in-Some.first.now ∷ c.in-Some.rest.now = search rules in
    in_after c.self.inside.bytes.now c.in-Some.rest.now c.in-Some.first.now c.self.invariant e (omega (arith, l, c.if-first-byte.true))
