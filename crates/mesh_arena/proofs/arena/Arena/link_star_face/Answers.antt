use Rattle.std.proofs.Common.{sym, ap, subst}
use Rattle.mesh_arena.specs.declared.arena.SlotFace.{SlotFace}
use Rattle.mesh_arena.specs.declared.slot.Corner.TheVariants.{Point}
use Rattle.mesh_arena.specs.Mesh.{IsArenaMesh, Links}
use Rattle.mesh_arena.specs.Star.{behind}
use Rattle.mesh_arena.proofs.Pairs.{LinksFace-links}
use Rattle.mesh_arena.proofs.arena.Arena.link_star_face.Goals as goal

pub returns-then-is_none : goal.returns-then-is_none
returns-then-is_none c =
    let mesh : IsArenaMesh c.args.self.now.slots = rw (← c.self.view_is) c.self.invariant.sound.mesh in
    let two = c.find_mate-two.result in
    let one = ap (λ (b : SlotFace). b.slot) (ap behind c.over-one.ensures.value) in
    LinksFace-links _ c.link.new.self.slots _ (Point c.args.point) mesh c.requires.star _ _ c.requires.inside two c.find_mate-two.ensures
    (subst (λ n. Links c.args.self.now.slots c.link.new.self.slots n c.args.k two.slot two.face) (sym one) c.link.ensures.links)
