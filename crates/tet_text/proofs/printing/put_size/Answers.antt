use Rattle.std.proofs.Common.{ap, length, drop, ◌-◌, arith, length-drop}
use Rattle.std.proofs.lemmas.List.{length-take}
use Rattle.tet_text.proofs.Texts.{numeral_some}
use Rattle.tet_text.proofs.printing.put_size.Goals as goal

pub put_digits-requires : goal.put_digits-requires
put_digits-requires c =
    let at = c.fill_digits-start.result in
    let buffer = c.fill_digits-start.new.buffer in
    omega (arith, ap length c.fill_digits-start.ensures.digits, numeral_some c.args.number, length-take (36 - at) (drop at buffer), length-drop at buffer)
