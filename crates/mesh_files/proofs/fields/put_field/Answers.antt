use Rattle.std.proofs.Common.{◌++◌, ◌∷◌, take, ap, ◌∙◌, to_z-of_z, arith}
use Rattle.std.specs.Fmt.{decimal}
use Rattle.mesh_files.proofs.Pieces.{field_at, not_negative}
use Rattle.mesh_files.proofs.fields.put_field.Goals as goal

pub put-requires-clause-within : goal.put-requires-clause-within
put-requires-clause-within c =
    omega (arith, (field_at c.args.fields.now.known c.unsigned_abs-number.result c.at-known.result c.args.fields.now.right (omega arith) c.at-known.ensures).0)

pub returns-then-number-len-clause-short : goal.returns-then-number-len-clause-short
returns-then-number-len-clause-short c =
    omega (arith, (field_at c.args.fields.now.known c.unsigned_abs-number.result c.at-known.result c.args.fields.now.right (omega arith) c.at-known.ensures).0)

pub returns-then-number-len-clause-written : goal.returns-then-number-len-clause-written
returns-then-number-len-clause-written c =
    let f = c.at-known.result in
    let known = field_at c.args.fields.now.known c.unsigned_abs-number.result f c.args.fields.now.right (omega arith) c.at-known.ensures in
    let value = rw (to_z-of_z c.ranges.field) at c.unsigned_abs-number.ensures.value in
    c.put.ensures.written
    ∙ ap (λ bytes. take c.args.at c.args.block.now ++ bytes)
    (ap (λ k. take k f.text) c.from.ensures ∙ known.1 ∙ ap (λ bytes. 32 ∷ bytes) (ap decimal value ∙ not_negative c.args.field (rw (to_z-of_z c.ranges.field) at c.if-field-ge0.true)))
