use Rattle.std.proofs.Common.{◌++◌, ap, ◌∙◌}
use Rattle.solver_files.specs.Mesh.{mesh_of}
use Rattle.solver_files.specs.Msh.{msh_nodes, msh_elements, msh_text}
use Rattle.solver_files.proofs.Parts.{then_part}
use Rattle.solver_files.proofs.msh.write_msh.Goals as goal

pub returns : goal.returns
returns c =
    let m = mesh_of c.args.mesh.now in
    let out = c.new-out.result in
    let both = then_part out (msh_nodes m) c.put_nodes.new.out c.put_elements.new.out (msh_elements m) c.in_ok-put_nodes.ensures c.in_ok-put_elements.ensures in
    both ∙ ap (λ s. s ++ msh_text m) c.new-out.ensures
