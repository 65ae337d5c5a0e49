use Rattle.std.proofs.Common.{◌≡◌, vec_capacity}
use Rattle.mesh_arena.specs.declared.slot.Corner.TheVariants.{Point}
use Rattle.mesh_arena.specs.Surgery.{Plans}
use Rattle.mesh_arena.proofs.arena.Arena.plan_star.Given as goal

abbrev pub invariant-loop-r : goal.invariant-loop-r
invariant-loop-r l = record { plans : Plans l.self.slots l.rim (Point l.point) l.star.items l.r; capacity : vec_capacity l.star ≡ vec_capacity l.fn.star }
