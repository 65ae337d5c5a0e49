use Rattle.std.proofs.Common.{◌≡◌, ◌++◌, ◌∷◌, ◌+◌, ◌-◌, take, replicate, negsuc, sym, ap, ◌∙◌, to_z, to_z-of_z, w64, arith}
use Rattle.std.specs.Fmt.{signed_decimal}
use Rattle.std.proofs.lemmas.Fmt.{decimal_digit}
use Rattle.mesh_files.proofs.Pieces.{written_first}
use Rattle.mesh_files.proofs.fields.put_any.Goals as goal

pub returns-clause-written : goal.returns-clause-written
returns-clause-written c =
    let w = c.write_field-start in
    let e = rw (to_z-of_z c.ranges.field) at w.ensures.written in
    c.put-2.ensures.written ∙ ap (λ bytes. take c.args.at c.args.block.now ++ bytes)
    (written_first w.new.line (replicate 48 32) (32 ∷ signed_decimal c.args.field) w.result 24 (w.result + 24 - w.result) (omega arith) w.ensures.before (omega arith) (omega arith) e)

pub returns-then-field-eqminus1-clause-written : goal.returns-then-field-eqminus1-clause-written
returns-then-field-eqminus1-clause-written c =
    let e : c.args.field ≡ negsuc 0 = sym (to_z-of_z c.ranges.field) ∙ ap (to_z w64) c.if-field-eqminus1.true in
    c.put.ensures.written
    ∙ ap (λ bytes. take c.args.at c.args.block.now ++ bytes)
    (ap (λ bytes. 32 ∷ (45 ∷ bytes)) (sym (decimal_digit 1 (omega arith))) ∙ ap (λ z. 32 ∷ signed_decimal z) (sym e))
