use Rattle.std.proofs.Common.{rules, pos, length, ◌++◌}
use Rattle.avro_container.specs.Shortest.{shortest}
use Rattle.avro_container.proofs.Writes.{cut_first, cut_later, cut_last, on_err}
use Rattle.avro_container.proofs.writer.write_block.Goals as goal

pub returns-in_err-write_all-clause-prefix : goal.returns-in_err-write_all-clause-prefix
returns-in_err-write_all-clause-prefix g c = on_err _ _ (cut_first _ _ _ (shortest (pos c.args.block.now.number_of_rows)) ((shortest (pos (length c.args.block.now.bytes))) ++ (c.args.block.now.bytes ++ c.args.marker)) c.in_err-write_all.ensures.prefix (search rules))

pub returns-in_err-write_all-2-clause-prefix : goal.returns-in_err-write_all-2-clause-prefix
returns-in_err-write_all-2-clause-prefix g c = on_err _ _ (cut_later _ _ _ _ (shortest (pos c.args.block.now.number_of_rows)) ((shortest (pos (length c.args.block.now.bytes))) ++ (c.args.block.now.bytes ++ c.args.marker)) c.in_ok-write_all.ensures.ok (search rules) (cut_first _ _ _ (shortest (pos (length c.args.block.now.bytes))) (c.args.block.now.bytes ++ c.args.marker) c.in_err-write_all-2.ensures.prefix (search rules)))

pub returns-in_err-write_all-3-clause-prefix : goal.returns-in_err-write_all-3-clause-prefix
returns-in_err-write_all-3-clause-prefix g c = on_err _ _ (cut_later _ _ _ _ (shortest (pos c.args.block.now.number_of_rows)) ((shortest (pos (length c.args.block.now.bytes))) ++ (c.args.block.now.bytes ++ c.args.marker)) c.in_ok-write_all.ensures.ok (search rules) (cut_later _ _ _ _ (shortest (pos (length c.args.block.now.bytes))) (c.args.block.now.bytes ++ c.args.marker) c.in_ok-write_all-2.ensures.ok (search rules) (cut_first _ _ _ c.args.block.now.bytes c.args.marker c.in_err-write_all-3.ensures.prefix (search rules))))

pub returns-in_err-write_all-4-clause-prefix : goal.returns-in_err-write_all-4-clause-prefix
returns-in_err-write_all-4-clause-prefix g c = on_err _ _ (cut_later _ _ _ _ (shortest (pos c.args.block.now.number_of_rows)) ((shortest (pos (length c.args.block.now.bytes))) ++ (c.args.block.now.bytes ++ c.args.marker)) c.in_ok-write_all.ensures.ok (search rules) (cut_later _ _ _ _ (shortest (pos (length c.args.block.now.bytes))) (c.args.block.now.bytes ++ c.args.marker) c.in_ok-write_all-2.ensures.ok (search rules) (cut_later _ _ _ _ c.args.block.now.bytes c.args.marker c.in_ok-write_all-3.ensures.ok (search rules) (cut_last _ _ _ c.args.marker c.in_err-write_all-4.ensures.prefix (search rules)))))
