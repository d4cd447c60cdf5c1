-- The loop goes over the arguments after the first.
use Rattle.std.proofs.Common.{◌≡◌, ◌∙◌, sym, ap, map, length, string_bytes}
use Rattle.std.specs.Vec.Iter.{into_iter_items, into_iter_len}
use Rattle.std.proofs.lemmas.List.{map-id}
use Rattle.std.proofs.lemmas.Iterator.Adapters.{YieldsList-from_vec, YieldsList-from_skip}
use Rattle.std.proofs.lemmas.Iterator.Consumers.{YieldsList-end}
use Rattle.avrocat.proofs.words_of.Goals as goal

pub returns-clause-words : goal.returns-clause-words
returns-clause-words c =
    rw c.in-Ok.is
    (λ (len : into_iter_len c.in-Ok.arguments ≡ length (into_iter_items c.in-Ok.arguments)).
    let all = YieldsList-end (YieldsList-from_skip {s = c.into_iter-argument-iterator.result} 1 (YieldsList-from_vec (into_iter_items c.in-Ok.arguments) (cc) (cc)) (cc)) c.loop-argument.yielded c.loop-argument.argument-iterator c.loop-argument.yielded_by c.next.result c.next.new.self c.in-None.is c.next.ensures.steps in
    c.loop-argument.invariant ∙ ap (map string_bytes) (sym (map-id c.loop-argument.yielded) ∙ all.0))
