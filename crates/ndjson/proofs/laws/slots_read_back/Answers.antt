use Rattle.ndjson.proofs.MeaningLaw.{columns_read_back, texts_read_back, values_mean_slots}
use Rattle.ndjson.proofs.laws.slots_read_back.Goals as goal

pub returns : goal.returns
returns c = record { values = values_mean_slots; texts = texts_read_back; columns = columns_read_back }
