use Rattle.std.proofs.Common.{◌∙◌}
use Rattle.avro_line.proofs.Flats.{if_string}
use Rattle.avro_line.proofs.flat.push_text.Goals as goal

pub returns : goal.returns
returns g c =
    let t = c.in-Some-take.ensures.read in
    if_string c.push_bytes.result _ _ c.as_slice.result.now _ _ _ c.in-Some.length c.in-Some.ensures.reads t.0 (c.as_slice.ensures ∙ t.1) t.2 c.push_bytes.ensures.utf8 c.push_bytes.ensures.ok
