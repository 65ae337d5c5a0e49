use Rattle.std.proofs.Common.{◌∙◌, ◌-◌, All, List, ℕ, ap, arith, drop, length, length-drop, subst, sym, take_all}
use Rattle.geo_laws.specs.Delaunay.{numbers}
use Rattle.mesh_files.specs.Texts.{AreNamed}
use Rattle.node_files.specs.Folding.{names_with}
use Rattle.sign_predicates.specs.Point.{Point}
use Rattle.array_meshes.proofs.meshes.lists_of.Goals as goal

pub cells_of-requires-clause-named : goal.cells_of-requires-clause-named
cells_of-requires-clause-named c =
    let table = c.args.table.now in
    let points = c.as_slice.result.now in
    let first = c.len.result in
    let rest = take_all (length points - first) (drop first points) (omega (arith, length-drop first points)) in
    let named =
    c.in_ok-names.ensures ∙ ap (λ (ps : List Point). names_with table (length ps)) rest
    ∙ (λ t. names_with table (length (drop (c.len.ensures.count t) (c.as_slice.ensures t)))) in
    subst (λ (ns : List ℕ). All (λ t. AreNamed ns (numbers t)) c.args.mesh.now.tetrahedra) (sym named) c.requires.cells
