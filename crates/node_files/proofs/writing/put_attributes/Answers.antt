use Rattle.std.proofs.Common.{ap, ◌∙◌, arith, ◌++◌, List, ℕ}
use Rattle.node_files.specs.Writing.{fields_text}
use Rattle.node_files.proofs.Written.{field_more, fields_all}
use Rattle.node_files.proofs.writing.put_attributes.Goals as goal

pub loop-attribute-preserved : goal.loop-attribute-preserved
loop-attribute-preserved c =
    field_more c.loop-attribute.out c.push.new.self c.append.new.self (c.args.out.now ++ fields_text c.args.attributes.now) c.args.attributes.now c.loop-attribute.attribute-index c.attribute-item.result
    c.loop-attribute-test.true c.attribute-item.is c.in_ok-push.ensures.ok (c.in_ok-append.ensures.ok ∙ ap (λ (t : List ℕ). c.push.new.self ++ t) c.as_slice.ensures) c.loop-attribute.invariant

pub returns : goal.returns
returns c = fields_all c.loop-attribute.out (c.args.out.now ++ fields_text c.args.attributes.now) c.args.attributes.now c.loop-attribute.attribute-index (omega arith) c.loop-attribute.invariant
