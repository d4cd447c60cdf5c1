use Rattle.std.proofs.Common.{arith, ◌∙◌, ◌++◌, ◌-◌, take, drop, ap, length-drop, length-take, length}
use Rattle.avro_container.proofs.Filled.{written}
use Rattle.avro_container.proofs.parts.fill_some.Goals as goal

pub returns-clause-taken : goal.returns-clause-taken
returns-clause-taken g c =
    let most = c.in_ok-n.ensures.count in
    let xs = c.deref_mut.result.now in
    record {
      taken = _;
      takes = c.in_ok-n.ensures.taken;
      appended =
          written c.args.at c.in_ok-n.n c.args.bytes.now.len xs c.take_some.new.buffer _ _ (search arith)
          (omega (arith, most, c.take_some.auto.buffer))
          (omega (arith, most, length-take (length xs - c.args.at) (drop c.args.at xs), length-drop c.args.at xs, c.deref_mut.ensures.len, c.requires))
          ∙ ap (λ xs. take c.args.at xs ++ take c.in_ok-n.n c.take_some.new.buffer) c.deref_mut.ensures.value;
    }
