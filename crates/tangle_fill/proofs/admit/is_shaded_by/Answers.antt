use Rattle.std.proofs.Common.{sym, ◌∙◌, arith}
use Rattle.sign_predicates.specs.Point.{as_rational}
use Rattle.sign_predicates.specs.Centroid.{centroid}
use Rattle.geo_laws.specs.Delaunay.{point, corners}
use Rattle.geo_laws.specs.OrientedFace.{triangle}
use Rattle.geo_laws.proofs.Members.{member_of, any_true}
use Rattle.tangle_laws.specs.Tangle.{facet_face}
use Rattle.tangle_laws.specs.Hidden.{hides}
use Rattle.tangle_fill.proofs.admit.is_shaded_by.Goals as goal

pub is_behind-requires-clause-of_facet : goal.is_behind-requires-clause-of_facet
is_behind-requires-clause-of_facet c = (c.args.place, omega arith, c.at.ensures c.at.result)

pub returns-then-place-len : goal.returns-then-place-len
returns-then-place-len c h =
    let ts = c.args.triangles.now in
    record {
      by_sign =
          any_true (λ k. hides (triangle c.args.points.now (facet_face k)) (centroid (corners c.args.points.now c.args.row)) (as_rational (point c.args.points.now c.args.i))) ts c.at.result
          (member_of ts c.at.result (c.args.place, omega arith, c.at.ensures c.at.result)) (sym c.is_behind.ensures ∙ h);
    }
