use Rattle.std.proofs.Common.{◌∙◌, refl, arith}
use Rattle.std.proofs.lemmas.Result.{err_from_is_err_and}
use Rattle.arrow_flat.specs.Dictionaries.{dictionary_node}
use Rattle.avro_flat.proofs.Many.{many_none, many_more, many_done, many_err}
use Rattle.avro_flat.proofs.symbol.decode_symbols.Goals as goal

pub decode_symbol-requires : goal.decode_symbol-requires
decode_symbol-requires g c = record { few = c.requires.few; items = c.loop.invariant.items ∙ c.requires.items }

pub loop-init : goal.loop-init
loop-init g c = record { items = refl; so_far = many_none (omega arith) }

-- `Reads` has the clauses of a call but that of the items
pub loop-preserved : goal.loop-preserved
loop-preserved g c =
    let e = c.in_ok-decode_symbol.ensures in
    record {
      items = e.items ∙ c.loop.invariant.items;
      so_far = many_more c.loop.invariant.so_far {c = dictionary_node c.decode_symbol.new.values} (omega arith)
          (record { data_type = e.data_type; grows = e.grows; has_capacity = e.has_capacity; same = e.same; moves = e.moves; costs = e.costs; reads = e.reads });
    }

pub returns-in_err-decode_symbol : goal.returns-in_err-decode_symbol
returns-in_err-decode_symbol g c =
    let e = c.in_err-decode_symbol.ensures in
    let m = many_err c.loop.invariant.so_far {c = dictionary_node c.decode_symbol.new.values} _ (omega arith) (err_from_is_err_and c.from_residual.result c.from_residual.ensures.1)
    (record { data_type = e.data_type; grows = e.grows; has_capacity = e.has_capacity; same = e.same; moves = e.moves; costs = e.costs; reads = e.reads }) in
    record { data_type = m.data_type; items = e.items ∙ c.loop.invariant.items; grows = m.grows; has_capacity = m.has_capacity; same = m.same; moves = m.moves; costs = m.costs; reads = m.reads }

pub returns : goal.returns
returns g c =
    let inv = c.loop.invariant in
    let m = many_done inv.so_far (omega arith) in
    record { data_type = m.data_type; items = inv.items; grows = m.grows; has_capacity = m.has_capacity; same = m.same; moves = m.moves; costs = m.costs; reads = m.reads }
