use Rattle.arrow_base.specs.WrittenString.{json_string}
use Rattle.arrow_base.proofs.ReadsBack.{reads_back}
use Rattle.json_tree.proofs.TextLaws.{string-text}
use Rattle.json_tree.proofs.laws.written_string_reads_back.Goals as goal

pub returns : goal.returns
returns c text utf8 = string-text text (json_string text) (reads_back text utf8)
