use Rattle.tangle_fill.proofs.Finish.{some_growth, grown_of}
use Rattle.tangle_fill.proofs.Growing.{goes_on}
use Rattle.tangle_fill.proofs.fill.grown.Goals as goal

pub fill_facets-requires : goal.fill_facets-requires
fill_facets-requires c = some_growth c.args.complex.now.points.now c.args.complex.now.triangles.now c.args.list.now c.in_ok-growth.growth c.in_ok-growth.ensures.growth c.in_ok-growth.ensures.indexed

pub fill_rows-requires : goal.fill_rows-requires
fill_rows-requires c =
    goes_on c.args.complex.now.points.now c.args.complex.now.triangles.now c.in_ok-growth.growth c.fill_facets.new.growth c.in_ok-fill_facets.ensures.0
    (some_growth c.args.complex.now.points.now c.args.complex.now.triangles.now c.args.list.now c.in_ok-growth.growth c.in_ok-growth.ensures.growth c.in_ok-growth.ensures.indexed)

pub returns-clause-grown : goal.returns-clause-grown
returns-clause-grown c =
    grown_of c.args.complex.now.points.now c.args.complex.now.triangles.now c.args.list.now c.in_ok-growth.growth c.fill_facets.new.growth c.fill_rows.new.growth c.in_ok-growth.ensures.growth
    c.in_ok-fill_facets.ensures.0 c.in_ok-fill_facets.ensures.1 c.in_ok-fill_rows.ensures.0 c.in_ok-fill_rows.ensures.1

pub returns-clause-indexed : goal.returns-clause-indexed
returns-clause-indexed c = c.in_ok-fill_rows.ensures.0.indexed
