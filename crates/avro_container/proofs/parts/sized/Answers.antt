use Rattle.avro_container.proofs.Taken as taken
use Rattle.avro_container.specs.Forms as forms
use Rattle.avro_container.proofs.parts.sized.Goals as goal

pub returns-in_err-fill_buffer-clause-stops : goal.returns-in_err-fill_buffer-clause-stops
returns-in_err-fill_buffer-clause-stops g c =
    taken.handed_on _ _ c.from_residual-in_err-fill_buffer.result c.from_residual-in_err-fill_buffer.ensures.1 (taken.second_stops forms.count forms.raw _ _ _ _ _ c.in_ok-n.ensures.ok c.in_err-fill_buffer.ensures.stops)

pub returns-clause-ok : goal.returns-clause-ok
returns-clause-ok g c = taken.both_pass forms.count forms.raw _ _ _ _ _ c.in_ok-n.ensures.ok c.in_ok-fill_buffer.ensures.ok

pub returns-in_err-n-clause-stops : goal.returns-in_err-n-clause-stops
returns-in_err-n-clause-stops g c = taken.handed_on _ _ c.from_residual.result c.from_residual.ensures.1 (taken.first_stops forms.count forms.raw _ _ _ c.in_err-n.ensures.stops)
