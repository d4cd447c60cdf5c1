use Rattle.std.proofs.Common.{◌≡◌, ◌∙◌, ap, codes, length, rules}
use Rattle.avro_container.proofs.Manies.{last_is}
use Rattle.avro_container.proofs.Taken as taken
use Rattle.avro_container.specs.File.{header_parts}
use Rattle.avro_container.specs.FileForms.{entry, after_map}
use Rattle.avro_container.specs.Forms.{raw, blocks}
use Rattle.avro_schema.specs.Encodes.{Any}
use Rattle.avro_container.proofs.header.take_after_magic.Goals as goal

pub returns-in_err-take_map-clause-stops : goal.returns-in_err-take_map-clause-stops
returns-in_err-take_map-clause-stops g c =
    taken.handed_on _ _ c.from_residual.result c.from_residual.ensures.1 (taken.first_stops (blocks entry) after_map _ _ _ c.in_err-take_map.ensures.stops)

pub returns-in_err-fill_buffer-clause-stops : goal.returns-in_err-fill_buffer-clause-stops
returns-in_err-fill_buffer-clause-stops g c =
    taken.handed_on _ _ c.from_residual-in_err-fill_buffer.result c.from_residual-in_err-fill_buffer.ensures.1
    (taken.second_stops (blocks entry) after_map _ _ _ c.in_ok-take_map.ensures.ok.entries _ c.in_ok-take_map.ensures.ok.passed
    (taken.meaning_stops (raw 16) Any (header_parts c.in_ok-take_map.ensures.ok.entries) _ _ _ c.in_err-fill_buffer.ensures.stops))

pub sixteen-marker-requires : goal.sixteen-marker-requires
sixteen-marker-requires g c =
    let same : c.deref.result.now ≡ c.fill_buffer.new.bytes.items = search rules in
    let p = c.in_ok-fill_buffer.ensures.ok in
    ap length (same ∙ p.2.1) ∙ p.2.0

pub returns-clause-ok : goal.returns-clause-ok
returns-clause-ok g c =
    let all = c.in_ok-take_map.ensures.ok in
    let same : c.sixteen-marker.result ≡ c.fill_buffer.new.bytes.items = search rules in
    record {
      entries = all.entries;
      passed = rw same (taken.both_pass (blocks entry) after_map _ _ _ all.entries _ all.passed (taken.meaning_passes (raw 16) Any (header_parts all.entries) _ _ c.fill_buffer.new.bytes.items c.in_ok-fill_buffer.ensures.ok tt));
      schema_is = all.schema_is ∙ last_is (codes "avro.schema") all.entries;
      codec_is = all.codec_is ∙ last_is (codes "avro.codec") all.entries;
    }
