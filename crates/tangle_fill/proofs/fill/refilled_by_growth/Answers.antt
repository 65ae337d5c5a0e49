use Rattle.std.proofs.Common.{refl}
use Rattle.tangle_laws.proofs.Refilled.{law_refilled}
use Rattle.tangle_fill.proofs.Indexed.{indexed_order}
use Rattle.tangle_fill.proofs.Finish.{rows_ascend, ordered_grown, not_empty, whole_of}
use Rattle.tangle_fill.proofs.fill.refilled_by_growth.Goals as goal

pub test_count-requires-clause-admissible : goal.test_count-requires-clause-admissible
test_count-requires-clause-admissible c =
    (ordered_grown c.args.complex.now.points.now c.args.complex.now.triangles.now c.args.list.now c.in_ok-growth.growth.rows c.keep_distinct.new.self c.keep_distinct.ensures.exactly c.keep_distinct.ensures.ascending c.in_ok-growth.ensures.grown).growth.admissible

pub test_count-requires-clause-some : goal.test_count-requires-clause-some
test_count-requires-clause-some c =
    not_empty c.args.complex.now.points.now c.args.complex.now.triangles.now c.args.list.now c.keep_distinct.new.self c.args.complex.now.facets c.requires.delaunay c.requires.some
    (ordered_grown c.args.complex.now.points.now c.args.complex.now.triangles.now c.args.list.now c.in_ok-growth.growth.rows c.keep_distinct.new.self c.keep_distinct.ensures.exactly c.keep_distinct.ensures.ascending c.in_ok-growth.ensures.grown)

pub test_bent-requires-clause-whole : goal.test_bent-requires-clause-whole
test_bent-requires-clause-whole c =
    let one = c.in_ok-test_count.ensures in
    let grown =
    ordered_grown c.args.complex.now.points.now c.args.complex.now.triangles.now c.args.list.now c.in_ok-growth.growth.rows c.keep_distinct.new.self c.keep_distinct.ensures.exactly c.keep_distinct.ensures.ascending
    c.in_ok-growth.ensures.grown
    in
    record {
      whole = whole_of c.args.complex.now.points.now c.args.complex.now.triangles.now c.args.list.now c.keep_distinct.new.self c.args.complex.now.facets grown one.0 one.1 one.2;
      one_a_side = grown.growth.one_a_side;
      indexed =
          indexed_order c.in_ok-growth.growth (record { rows = c.keep_distinct.new.self; sides = c.in_ok-growth.growth.sides }) c.in_ok-growth.ensures.indexed refl
          (λ t. (c.keep_distinct.ensures.exactly t).0) (λ t. (c.keep_distinct.ensures.exactly t).1);
    }

pub returns : goal.returns
returns c =
    let one = c.in_ok-test_count.ensures in
    let grown =
    ordered_grown c.args.complex.now.points.now c.args.complex.now.triangles.now c.args.list.now c.in_ok-growth.growth.rows c.keep_distinct.new.self c.keep_distinct.ensures.exactly c.keep_distinct.ensures.ascending
    c.in_ok-growth.ensures.grown
    in
    record {
      grown = law_refilled c.args.complex.now.points.now c.args.complex.now.triangles.now c.args.list.now c.keep_distinct.new.self c.args.complex.now.facets.ascend c.args.complex.now.facets.spans
          grown (rows_ascend c.keep_distinct.new.self c.keep_distinct.ensures.ascending) one.0 one.1 one.2 c.in_ok-test_bent.ensures;
      admissible = grown.growth.admissible;
    }
