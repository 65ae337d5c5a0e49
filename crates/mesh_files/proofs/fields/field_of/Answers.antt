use Rattle.std.proofs.Common.{◌≤◌, length, take, ap, ◌∙◌, arith}
use Rattle.std.proofs.lemmas.Fmt.{length-decimal-le}
use Rattle.std.proofs.lemmas.List.{length-take, take-take}
use Rattle.mesh_files.proofs.fields.field_of.Goals as goal

pub returns : goal.returns
returns c =
    let n = c.args.counter.now.number in
    let w = c.put-len in
    let h = w.ensures.written in
    let short = length-decimal-le 7 n (omega arith) (omega arith) (omega arith) in
    let fits : w.result ≤ 8 = omega (arith, length-take w.result w.new.block, ap length h, short) in
    (fits, ap (take w.result) c.copy_from_slice.ensures.after ∙ take-take w.result 8 w.new.block fits ∙ h)
