use Rattle.avro_container.proofs.Taken as taken
use Rattle.avro_container.proofs.BlockParts.{data_stops, data_passes, fewer}
use Rattle.avro_container.specs.FileForms.{after_rows, after_size}
use Rattle.avro_container.specs.Forms.{count}
use Rattle.avro_container.proofs.block_reader.take_block.Goals as goal

pub returns-in_err-rows-clause-stops : goal.returns-in_err-rows-clause-stops
returns-in_err-rows-clause-stops g c =
    taken.handed_on _ _ c.from_residual.result c.from_residual.ensures.1 (taken.first_stops count after_rows _ _ _ c.in_err-rows.ensures.stops)

pub returns-in_err-size-clause-stops : goal.returns-in_err-size-clause-stops
returns-in_err-size-clause-stops g c =
    taken.handed_on _ _ c.from_residual-in_err-size.result c.from_residual-in_err-size.ensures.1
    (taken.second_stops count after_rows _ _ _ c.in_ok-rows.rows _ c.in_ok-rows.ensures.ok
    (taken.first_stops count (after_size c.in_ok-rows.rows) _ _ _ c.in_err-size.ensures.stops))

pub returns-in_err-fill_buffer-clause-stops : goal.returns-in_err-fill_buffer-clause-stops
returns-in_err-fill_buffer-clause-stops g c =
    taken.handed_on _ _ c.from_residual-in_err-fill_buffer.result c.from_residual-in_err-fill_buffer.ensures.1
    (taken.second_stops count after_rows _ _ _ c.in_ok-rows.rows _ c.in_ok-rows.ensures.ok
    (taken.second_stops count (after_size c.in_ok-rows.rows) _ _ _ c.in_ok-size.size _ c.in_ok-size.ensures.ok
    (data_stops c.in_ok-rows.rows c.in_ok-size.size _ _ _ c.in_err-fill_buffer.ensures.stops)))

pub returns-clause-ok : goal.returns-clause-ok
returns-clause-ok g c =
    taken.both_pass count after_rows _ _ _ c.in_ok-rows.rows _ c.in_ok-rows.ensures.ok
    (taken.both_pass count (after_size c.in_ok-rows.rows) _ _ _ c.in_ok-size.size _ c.in_ok-size.ensures.ok
    (data_passes c.in_ok-rows.rows c.in_ok-size.size _ _ c.fill_buffer.new.bytes.items c.in_ok-fill_buffer.ensures.ok))

pub returns-clause-fewer : goal.returns-clause-fewer
returns-clause-fewer g c =
    fewer _ _ _ _
    (taken.both_pass count after_rows _ _ _ c.in_ok-rows.rows _ c.in_ok-rows.ensures.ok
    (taken.both_pass count (after_size c.in_ok-rows.rows) _ _ _ c.in_ok-size.size _ c.in_ok-size.ensures.ok
    (data_passes c.in_ok-rows.rows c.in_ok-size.size _ _ c.fill_buffer.new.bytes.items c.in_ok-fill_buffer.ensures.ok)))
