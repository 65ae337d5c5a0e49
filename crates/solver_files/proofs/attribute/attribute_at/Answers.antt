use Rattle.std.proofs.Common.{ℕ, ◌<◌, length, Option, sym, subst}
use Rattle.std.specs.Prelude.{IfSome}
use Rattle.solver_files.specs.Mesh.{mesh_of}
use Rattle.solver_files.proofs.Marks.{mark_there}
use Rattle.solver_files.proofs.attribute.attribute_at.Goals as goal

pub attribute_of-requires : goal.attribute_of-requires
attribute_of-requires c =
    let m = mesh_of c.args.mesh.now in
    subst (λ (mark : Option ℕ). IfSome mark (λ r. r < length m.regions)) (sym c.mark_at.ensures)
    (mark_there m.marks (length m.rows) (length m.regions) c.args.place c.requires.mesh.long c.requires.mesh.regions c.requires.place)
