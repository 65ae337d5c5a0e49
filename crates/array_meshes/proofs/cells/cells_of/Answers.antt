use Rattle.std.proofs.Common.{◌∙◌, List, None, ap, arith, length, sym, subst}
use Rattle.geo_laws.specs.Delaunay.{numbers}
use Rattle.geo_laws.specs.declared.tetrahedra.Tet.{Tet}
use Rattle.incidence.specs.Pairs.{across_at, pairs_of}
use Rattle.incidence.specs.declared.pairs.Across.{Across}
use Rattle.mesh_files.specs.Texts.{AreNamed}
use Rattle.array_meshes.proofs.Listed.{cells_more, pairs_long}
use Rattle.array_meshes.specs.Meshes.{cell_at, named_cell}
use Rattle.array_meshes.proofs.cells.cells_of.Goals as goal

pub at-requires-in-loop-i : goal.at-requires-in-loop-i
at-requires-in-loop-i c =
    let long = ap (λ (xs : List Across). length xs) c.requires.pairs ∙ pairs_long c.args.list.now in
    omega (arith, long, c.loop-i-test.true, c.len-i-end.ensures.count)

pub named_cell-requires-clause-named : goal.named_cell-requires-clause-named
named_cell-requires-clause-named c =
    subst (λ (t : Tet). AreNamed c.args.names.now (numbers t)) (c.at.ensures c.at.result)
    (c.requires.named c.loop-i.i c.at.result (omega (arith, c.loop-i-test.true, c.len-i-end.ensures.count)))

pub loop-i-preserved : goal.loop-i-preserved
loop-i-preserved c =
    let none : Tet = record { a = 0; b = 0; c = 0; d = 0 } in
    let alone : Across = record { n0 = None; n1 = None; n2 = None; n3 = None } in
    let row = c.at.ensures none in
    let region = c.region_at-region.ensures in
    let across = sym (c.at-in-loop-i.ensures.same alone) ∙ ap (λ (xs : List Across). across_at xs c.loop-i.i) c.requires.pairs in
    cells_more (cell_at c.args.names.now c.args.list.now c.args.marks.now) c.loop-i.i c.loop-i.cells.items _ c.named_cell.result c.loop-i.invariant
    (c.named_cell.ensures ∙ (λ t. named_cell c.args.names.now (sym row t) (region t) (across t))) c.in_ok-push.ensures.items
