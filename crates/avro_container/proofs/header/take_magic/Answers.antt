use Rattle.std.proofs.Common.{◌≡◌, rules}
use Rattle.avro_container.proofs.Taken as taken
use Rattle.avro_container.specs.File.{magic}
use Rattle.avro_container.specs.Forms.{raw}
use Rattle.avro_container.proofs.header.take_magic.Goals as goal

pub returns-in_err-fill_buffer-clause-stops : goal.returns-in_err-fill_buffer-clause-stops
returns-in_err-fill_buffer-clause-stops g c =
    taken.handed_on _ _ c.from_residual.result c.from_residual.ensures.1 (taken.meaning_stops (raw 4) (λ b. b ≡ magic) (λ b. b) _ _ _ c.in_err-fill_buffer.ensures.stops)

pub returns-then-not-is_magic-clause-stops : goal.returns-then-not-is_magic-clause-stops
returns-then-not-is_magic-clause-stops g c = taken.meaning_fails (raw 4) (λ b. b ≡ magic) (λ b. b) _ _ c.fill_buffer.new.bytes.items c.in_ok-fill_buffer.ensures.ok (search rules)

pub returns-clause-ok : goal.returns-clause-ok
returns-clause-ok g c =
    let same : c.fill_buffer.new.bytes.items ≡ magic = search rules in
    taken.meaning_passes (raw 4) (λ b. b ≡ magic) (λ b. b) _ _ magic (rw same at c.in_ok-fill_buffer.ensures.ok) (search rules)
