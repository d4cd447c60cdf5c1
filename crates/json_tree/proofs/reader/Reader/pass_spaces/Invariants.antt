use Rattle.std.proofs.Common.{◌≡◌, ◌≤◌, length}
use Rattle.json_tree.specs.InText.{InText}
use Rattle.json_tree.specs.Reading.{skip}
use Rattle.json_tree.proofs.reader.Reader.pass_spaces.Given as goal

abbrev pub invariant-loop-first : goal.invariant-loop-first
invariant-loop-first l = record {
  skipped : skip l.rest ≡ skip l.fn.self;
  forward : length l.rest ≤ length l.fn.self;
  in_text : InText l.rest;
}

abbrev pub decreases-loop-first : goal.decreases-loop-first
decreases-loop-first l = length l.rest
