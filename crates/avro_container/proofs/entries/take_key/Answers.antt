use Rattle.std.proofs.Common.{rules}
use Rattle.std.specs.Str.{IsUtf8}
use Rattle.avro_container.proofs.Taken as taken
use Rattle.avro_container.specs.Forms.{sized}
use Rattle.avro_container.proofs.entries.take_key.Goals as goal

pub returns-in_err-sized-clause-stops : goal.returns-in_err-sized-clause-stops
returns-in_err-sized-clause-stops g c =
    taken.handed_on _ _ c.from_residual.result c.from_residual.ensures.1 (taken.meaning_stops sized IsUtf8 (λ k. k) _ _ _ c.in_err-sized.ensures.stops)

pub returns-then-not-is_utf8-clause-stops : goal.returns-then-not-is_utf8-clause-stops
returns-then-not-is_utf8-clause-stops g c = taken.meaning_fails sized IsUtf8 (λ k. k) _ _ c.sized.new.bytes.items c.in_ok-sized.ensures.ok (search rules)

pub returns-clause-ok : goal.returns-clause-ok
returns-clause-ok g c = taken.meaning_passes sized IsUtf8 (λ k. k) _ _ c.sized.new.bytes.items c.in_ok-sized.ensures.ok (search rules)
