use Rattle.cavity_insert.proofs.StartMesh.{CanLink, can_link, linked_one}
use Rattle.cavity_insert.proofs.start.link_faces.Goals as goal

pub link-requires : goal.link-requires
link-requires c =
    let can : CanLink c.args.arena.now.slots c.args.shared = can_link _ c.requires.0 c.requires.1 c.args.shared c.requires.2 c.requires.3 in
    record { first = can.first; second = can.second; faces = can.faces; differ = can.differ; same = can.same; first_free = can.first_free; second_free = can.second_free }

pub returns : goal.returns
returns c = λ t linked are. linked_one _ _ t linked c.args.shared are c.link.ensures.links
