use Rattle.tangle_laws.proofs.Apart.{fails_true}
use Rattle.tangle_fill.proofs.Admitting.{admitted, passed}
use Rattle.tangle_fill.proofs.Joined.{not_true}
use Rattle.tangle_fill.proofs.Trees.{triangle_tree_had}
use Rattle.tangle_fill.proofs.admit.admissible_near.Goals as goal

pub returns-then-uncrossed_near : goal.returns-then-uncrossed_near
returns-then-uncrossed_near c =
    let ps = c.args.complex.now.points.now in
    let ts = c.args.complex.now.triangles.now in
    let t = c.args.row in (
      λ h. admitted ps ts t c.args.complex.now.facets c.requires.on c.requires.arranged c.requires.positive (c.uncrossed_near.ensures.0 c.if-uncrossed_near.true) (c.all_pass_near.ensures.0 h),
      λ one. c.all_pass_near.ensures.1 (passed ps ts t c.args.complex.now.facets one),
    )

pub returns-else-uncrossed_near : goal.returns-else-uncrossed_near
returns-else-uncrossed_near c = (λ h. not_true h, λ one. fails_true c.uncrossed_near.result c.if-uncrossed_near.false (c.uncrossed_near.ensures.1 one.uncrossed))

pub all_pass_near-requires : goal.all_pass_near-requires
all_pass_near-requires c = record { on = c.requires.on; positive = c.requires.positive; free = c.uncrossed_near.ensures.0 c.if-uncrossed_near.true }

pub uncrossed_near-requires-clause-tree : goal.uncrossed_near-requires-clause-tree
uncrossed_near-requires-clause-tree c = triangle_tree_had _ _ _ c.args.complex.now.over_triangles
