use Rattle.line_encode.proofs.Encoded.{lines_encoded}
use Rattle.line_encode.proofs.lines.LinePlan.encode_lines.Goals as goal

pub returns : goal.returns
returns c fields root is =
    lines_encoded c.push_lines.result c.args.self.now fields root c.as_slice.result.now c.as_slice-2.result.now c.args.lines.now c.args.out.now.items c.push_lines.new.out.items c.as_slice.ensures.names c.as_slice-2.ensures.value is c.push_lines.ensures
