use Rattle.std.proofs.Common.{◌∙◌, []}
use Rattle.std.proofs.lemmas.List.Elements.{All-cons, All-nil}
use Rattle.arrow_dictionaries.specs.Encoding.{FirstSlots}
use Rattle.ndjson.proofs.keys.dictionary_of.Goals as goal

pub returns-clause-dictionaries : goal.returns-clause-dictionaries
returns-clause-dictionaries c =
    let e = c.in_ok-keys.ensures in
    let a = c.in_ok-array.ensures in
    let d = c.in_ok-array.array in
    let first : FirstSlots d.slots d.items = rw (a.slots ∙ e.looks_up, a.items) e.first in
    All-cons (λ p. FirstSlots p.0 p.1) (d.slots, d.items) [] first (All-nil (λ p. FirstSlots p.0 p.1))
