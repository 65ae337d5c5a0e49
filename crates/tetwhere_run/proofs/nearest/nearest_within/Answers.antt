use Rattle.std.proofs.Common.{◌≡◌, ◌+◌, ◌*◌, ◌/◌, ◌^◌, sym, arith}
use Rattle.tet_text.proofs.Numerals.{pow10_pos}
use Rattle.grid_coords.specs.Rounding.{nearest_whole}
use Rattle.grid_coords.proofs.Products.{within_some, within_none}
use Rattle.tetwhere_run.proofs.Tens.{nearest_in_steps, over_by_front}
use Rattle.tetwhere_run.proofs.nearest.nearest_within.Goals as goal

pub nonzero_div-number : goal.nonzero_div-number
nonzero_div-number c = rw c.pow.ensures (pow10_pos c.min-cut.result)

pub returns-then-number-pow-gt-TEN_TO_18 : goal.returns-then-number-pow-gt-TEN_TO_18
returns-then-number-pow-gt-TEN_TO_18 c =
    let over = over_by_front c.args.number c.args.halvings c.args.tens c.min-cut.result c.requires.number c.min-cut.ensures (rw c.pow.ensures at c.if-number-pow-gt-TEN_TO_18.true) in
    sym (within_none _ _ (omega arith))

pub returns-then-size-from : goal.returns-then-size-from
returns-then-size-from c =
    let is : (c.over_tens-twice.result + 1) / 2 ≡ nearest_whole (c.args.number * 2 ^ c.args.halvings) c.args.tens =
    rw (c.over_tens-twice.ensures.value, c.whole_part.ensures.value) (nearest_in_steps c.args.number c.args.halvings c.args.tens c.min-cut.result (omega arith)) in
    let over = c.if-size-from.true in
    sym (within_none _ _ (omega arith))

pub returns : goal.returns
returns c =
    let is : (c.over_tens-twice.result + 1) / 2 ≡ nearest_whole (c.args.number * 2 ^ c.args.halvings) c.args.tens =
    rw (c.over_tens-twice.ensures.value, c.whole_part.ensures.value) (nearest_in_steps c.args.number c.args.halvings c.args.tens c.min-cut.result (omega arith)) in
    let within = c.if-size-from.false in
    rw is (sym (within_some _ _ (omega arith)))
