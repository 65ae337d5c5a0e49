use Rattle.std.proofs.Common.{◌≡◌, subst, sym}
use Rattle.sign_predicates.specs.declared.tetrahedron.Sign.TheVariants.{Zero}
use Rattle.sign_predicates.specs.Orientation.{InClosed}
use Rattle.sign_predicates.specs.Sign.{least_sign}
use Rattle.sign_predicates.proofs.Holds.{in_closed_of, NotBelow}
use Rattle.sign_predicates.proofs.orientation.in_tet.Goals as goal

pub returns-in-Zero-clause-outside : goal.returns-in-Zero-clause-outside
returns-in-Zero-clause-outside c =
    let a = c.orient_rat-a.result in
    let b = c.orient_rat-b.result in
    let d = c.orient_rat-c.result in
    let e = c.orient_rat.result in
    let z : least_sign (least_sign a b) (least_sign d e) ≡ Zero = cc in
    let h : InClosed c.args.t c.args.x =
    in_closed_of c.args.t c.args.x a b d e c.orient_rat-a.ensures c.orient_rat-b.ensures c.orient_rat-c.ensures c.orient_rat.ensures (subst NotBelow (sym z) tt) in
    (λ q n. (cc), λ n. absurd (n h))
