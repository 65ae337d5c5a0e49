use Rattle.std.proofs.Common.{◌≡◌, ◌<◌, None, length, ap, sym, subst, ◌∙◌, arith}
use Rattle.std.specs.Prelude.{slice_index_or}
use Rattle.incidence.specs.declared.pairs.Across.{Across}
use Rattle.incidence.specs.Pairs.{across_of}
use Rattle.hole_carve.specs.Flooding.{way, IsWay}
use Rattle.hole_carve.proofs.Steps.{pairs_at, ways-length}
use Rattle.hole_carve.proofs.Reached.{inner_none}
use Rattle.hole_carve.proofs.ways.Ways.is_inner.Goals as goal
use Rattle.geo_laws.specs.Delaunay.{row_at}

abbrev nothing : Across
nothing = record { n0 = None; n1 = None; n2 = None; n3 = None }

pub returns : goal.returns
returns c t w =
    let rows = c.self.inside.list.now in
    let closed = c.self.inside.closed.now in
    let at = c.args.row in
    let below : at < length rows = omega (arith, c.requires, ap length c.self.view_is, ways-length closed rows) in
    let across_is : c.at.result ≡ across_of rows at (row_at rows at) = sym (c.at.ensures.same nothing) ∙ ap (λ s. slice_index_or s at nothing) c.self.invariant ∙ pairs_at rows at nothing below in
    inner_none closed rows at below (λ k l e. c.has_all.ensures t k l (ap (λ x. way x k) across_is ∙ e))
    (subst (λ s. IsWay s at (length s)) (sym c.self.view_is) w)
