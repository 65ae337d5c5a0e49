use Rattle.std.proofs.Common.{◌≡◌, Some, None, rules, sym}
use Rattle.mesh_check.specs.Moving.{moved_within}
use Rattle.mesh_check.proofs.Differences.{long_x, long_y, long_z, point_moved}
use Rattle.mesh_check.proofs.moving.moved_point_within.Goals as goal

pub returns-in_err-moved_within : goal.returns-in_err-moved_within
returns-in_err-moved_within c =
    let x : moved_within c.args.w.x c.args.p.now.x ≡ None = search rules in
    rw c.from_residual.ensures (sym (long_x c.args.w c.args.p.now x))

pub returns-in_err-moved_within-2 : goal.returns-in_err-moved_within-2
returns-in_err-moved_within-2 c =
    let x : moved_within c.args.w.x c.args.p.now.x ≡ Some c.in_ok-moved_within.field-0 = search rules in
    let y : moved_within c.args.w.y c.args.p.now.y ≡ None = search rules in
    rw c.from_residual-in_err-moved_within-2.ensures (sym (long_y c.args.w c.args.p.now c.in_ok-moved_within.field-0 x y))

pub returns-in_err-moved_within-3 : goal.returns-in_err-moved_within-3
returns-in_err-moved_within-3 c =
    let x : moved_within c.args.w.x c.args.p.now.x ≡ Some c.in_ok-moved_within.field-0 = search rules in
    let y : moved_within c.args.w.y c.args.p.now.y ≡ Some c.in_ok-moved_within-2.field-0 = search rules in
    let z : moved_within c.args.w.z c.args.p.now.z ≡ None = search rules in
    rw c.from_residual-in_err-moved_within-3.ensures (sym (long_z c.args.w c.args.p.now c.in_ok-moved_within.field-0 c.in_ok-moved_within-2.field-0 x y z))

pub returns : goal.returns
returns c =
    let x : moved_within c.args.w.x c.args.p.now.x ≡ Some c.in_ok-moved_within.field-0 = search rules in
    let y : moved_within c.args.w.y c.args.p.now.y ≡ Some c.in_ok-moved_within-2.field-0 = search rules in
    let z : moved_within c.args.w.z c.args.p.now.z ≡ Some c.in_ok-moved_within-3.field-0 = search rules in
    point_moved c.args.w c.args.p.now c.in_ok-moved_within.field-0 c.in_ok-moved_within-2.field-0 c.in_ok-moved_within-3.field-0 x y z
