use Rattle.std.proofs.Common.{◌∙◌, sym, ap, subst}
use Rattle.plc_files.specs.Checks.{HasFewParts, corners_check}
use Rattle.plc_files.proofs.Measured.{still_few, same_corners}
use Rattle.plc_files.proofs.measuring.measured_plc.Goals as goal

pub returns-clause-few : goal.returns-clause-few
returns-clause-few c few = subst HasFewParts (sym c.in_ok-made.ensures) (still_few c.args.w c.args.decimals c.args.text few)

pub returns-clause-corners : goal.returns-clause-corners
returns-clause-corners c first count is =
    ap (corners_check first count) c.in_ok-made.ensures ∙ same_corners c.args.w c.args.decimals c.args.text first count ∙ is
