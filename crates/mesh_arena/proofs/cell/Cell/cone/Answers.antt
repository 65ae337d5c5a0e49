use Rattle.std.proofs.Common.{[], ◌∷◌, refl, ◌∙◌, arith, length-set}
use Rattle.mesh_arena.proofs.ConeCell.{picked, same_lists, cone_corners, cone_bare}
use Rattle.mesh_arena.proofs.cell.Cell.cone.Goals as goal

pub returns-clause-bare : goal.returns-clause-bare
returns-clause-bare c =
    let self = c.args.self.now in
    let points = picked self.points c.args.place c.args.point _ _ _ _ (omega arith) c.requires c.either.ensures c.either-2.ensures c.either-3.ensures c.either-4.ensures in
    let links = picked (c.unlinked.result ∷ c.unlinked-2.result ∷ c.unlinked-3.result ∷ c.unlinked-4.result ∷ []) c.args.place 4 _ _ _ _ refl c.requires c.either-5.ensures c.either-6.ensures c.either-7.ensures c.either-8.ensures in
    rw (points, links) (cone_bare _ _ _ _ _ c.args.place (omega (arith, length-set self.points c.args.place c.args.point))
    (record { face = c.unlinked.ensures.face; first = c.unlinked.ensures.side; second = c.unlinked-2.ensures.side; third = c.unlinked-3.ensures.side; fourth = c.unlinked-4.ensures.side })
    c.requires)

pub returns-clause-corners : goal.returns-clause-corners
returns-clause-corners c =
    let self = c.args.self.now in
    let points = picked self.points c.args.place c.args.point _ _ _ _ (omega arith) c.requires c.either.ensures c.either-2.ensures c.either-3.ensures c.either-4.ensures in
    let links = picked (c.unlinked.result ∷ c.unlinked-2.result ∷ c.unlinked-3.result ∷ c.unlinked-4.result ∷ []) c.args.place 4 _ _ _ _ refl c.requires c.either-5.ensures c.either-6.ensures c.either-7.ensures c.either-8.ensures in
    same_lists _ _ _ _ points links ∙ cone_corners self _ _ _ _ c.args.place c.args.point (omega arith) (omega arith)
    (record { first = c.unlinked.ensures.infinite; second = c.unlinked-2.ensures.infinite; third = c.unlinked-3.ensures.infinite; fourth = c.unlinked-4.ensures.infinite })
    c.requires
