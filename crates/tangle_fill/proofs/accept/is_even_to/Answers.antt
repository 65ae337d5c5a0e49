use Rattle.std.proofs.Common.{◌≡◌, false, subst}
use Rattle.geo_laws.specs.Delaunay.{IsOn}
use Rattle.tangle_laws.specs.Tangle.{lies_on}
use Rattle.tangle_laws.proofs.Apart.{fails_true}
use Rattle.tangle_fill.specs.Fill.{as_oriented}
use Rattle.tangle_fill.specs.Accept.{IsEven}
use Rattle.tangle_fill.proofs.Smoothed.{only_one}
use Rattle.tangle_fill.proofs.accept.is_even_to.Goals as goal

pub is_even_pair-requires-clause-first : goal.is_even_pair-requires-clause-first
is_even_pair-requires-clause-first c = let m = c.requires.row in subst (IsOn c.args.points.now) m.2 (c.requires.paired.rows m.0 c.args.row m.1).0

pub is_even_pair-requires-clause-second : goal.is_even_pair-requires-clause-second
is_even_pair-requires-clause-second c = let m = c.in-Some.ensures.0 in subst (IsOn c.args.points.now) m.2 (c.requires.paired.rows m.0 c.in-Some.other m.1).0

pub returns-in-Some : goal.returns-in-Some
returns-in-Some c h t ct on_t =
    subst (IsEven c.args.points.now c.args.faces.now c.args.face c.args.row) (only_one c.args.growth.now.rows c.requires.paired.one_a_side c.in-Some.other t c.in-Some.ensures.0 ct (as_oriented c.args.across) c.in-Some.ensures.1 on_t) (c.is_even_pair.ensures h)

pub returns-in-None : goal.returns-in-None
returns-in-None c h t ct on_t =
    let across = as_oriented c.args.across in
    absurd (fails_true (lies_on across t) (subst (λ u. lies_on across u ≡ false) ct.2 (c.in-None.ensures ct.0 t ct.1)) on_t)
