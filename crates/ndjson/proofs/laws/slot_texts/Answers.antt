use Rattle.ndjson.proofs.TextLaw.{texts_are_json, texts_are_shallow}
use Rattle.ndjson.proofs.laws.slot_texts.Goals as goal

pub returns : goal.returns
returns c = record { json = texts_are_json; shallow = texts_are_shallow }
