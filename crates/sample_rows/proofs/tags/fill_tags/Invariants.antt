use Rattle.std.proofs.Common.{◌≡◌, ◌+◌, ◌++◌, map}
use Rattle.std.specs.List.{range_with_len}
use Rattle.sample_rows.specs.Drawing.{after, drawn, tag_of}
use Rattle.sample_rows.proofs.tags.fill_tags.Given as goal

abbrev pub invariant-loop : goal.invariant-loop
invariant-loop l = record {
  last : l.last ≡ after (l.counter + 2) l.state;
  slots : l.strings.slots ≡ l.fn.strings.slots ++ map (λ k. tag_of (drawn (after (k + 3) l.state))) (range_with_len 0 l.counter);
}
