use Rattle.std.proofs.Common.{◌≡◌, ◌<◌, None, length, ap, sym, ◌∙◌, arith}
use Rattle.std.specs.Prelude.{slice_index_or}
use Rattle.incidence.specs.declared.pairs.Across.{Across}
use Rattle.incidence.specs.Pairs.{across_of, across_at}
use Rattle.hole_carve.specs.Ways.{ways_through}
use Rattle.hole_carve.proofs.Steps.{pairs_at, ways-length, ways_at}
use Rattle.hole_carve.proofs.ways.Ways.at.Goals as goal
use Rattle.geo_laws.specs.Delaunay.{row_at}

abbrev nothing : Across
nothing = record { n0 = None; n1 = None; n2 = None; n3 = None }

pub at-requires : goal.at-requires
at-requires c = omega (arith, c.requires, ap length c.self.view_is, ways-length c.self.inside.closed.now c.self.inside.list.now)

pub returns : goal.returns
returns c =
    let rows = c.self.inside.list.now in
    let closed = c.self.inside.closed.now in
    let at = c.args.row in
    let below : at < length rows = omega (arith, c.requires, ap length c.self.view_is, ways-length closed rows) in
    let row_is : c.at.result ≡ row_at rows at = sym (c.at.ensures _) in
    let across_is : c.at-2.result ≡ across_of rows at (row_at rows at) = sym (c.at-2.ensures.same nothing) ∙ ap (λ s. slice_index_or s at nothing) c.self.invariant ∙ pairs_at rows at nothing below in
    c.ways_through.ensures
    ∙ ap (λ t. ways_through closed t c.at-2.result c.len.result) row_is
    ∙ ap (λ x. ways_through closed (row_at rows at) x c.len.result) across_is
    ∙ ap (λ n. ways_through closed (row_at rows at) (across_of rows at (row_at rows at)) n) c.len.ensures.count
    ∙ sym (ways_at closed rows at below)
    ∙ ap (λ s. across_at s at) c.self.view_is
