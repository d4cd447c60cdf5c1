use Rattle.avro_container.proofs.ShortestLemmas.{shortest_is_shortest}
use Rattle.avro_container.proofs.laws.shortest_numbers.Goals as goal

pub returns : goal.returns
returns c = record { shortest = shortest_is_shortest }
