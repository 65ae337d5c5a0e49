use Rattle.std.specs.Prelude.{IfOk}
use Rattle.geo_laws.specs.Delaunay.{all_numbers}
use Rattle.geo_laws.specs.Height.{lifted}
use Rattle.mesh_laws.specs.LowestLiving.{IsLowestMesh}
use Rattle.mesh_laws.specs.Living.{IsDelaunayMesh}
use Rattle.mesh_laws.proofs.Bridge as bridge
use Rattle.cavity_insert.specs.declared.meshing.Built.{Built}
use Rattle.cavity_insert.proofs.Insertion.{if_ok}
use Rattle.cavity_insert.proofs.meshing.mesh_from.Goals as goal

pub returns-in-Some-clause-mesh : goal.returns-in-Some-clause-mesh
returns-in-Some-clause-mesh g c =
    let ps = c.args.points.now in
    let P : Built → Type 0 = λ b. IsLowestMesh (lifted ps) b.arena.slots ps (all_numbers ps) in
    let Q : Built → Type 0 = λ b. IsDelaunayMesh b.arena.slots ps (all_numbers ps) in
    let ok : IfOk c.mesh_counted.result P = rw c.new-framed.ensures at c.mesh_counted.ensures.mesh in
    if_ok P Q (λ b. bridge.mesh_from b.arena.slots ps (all_numbers ps)) c.mesh_counted.result ok

pub returns-in-None-clause-mesh : goal.returns-in-None-clause-mesh
returns-in-None-clause-mesh g c =
    let ps = c.args.points.now in
    let P : Built → Type 0 = λ b. IsLowestMesh (lifted ps) b.arena.slots ps (all_numbers ps) in
    let Q : Built → Type 0 = λ b. IsDelaunayMesh b.arena.slots ps (all_numbers ps) in
    if_ok P Q (λ b. bridge.mesh_from b.arena.slots ps (all_numbers ps)) c.mesh_counted-in-None.result c.mesh_counted-in-None.ensures.mesh
