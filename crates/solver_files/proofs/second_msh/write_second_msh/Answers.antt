use Rattle.std.proofs.Common.{◌++◌, ap, ◌∙◌}
use Rattle.solver_files.specs.Second.{second_of}
use Rattle.solver_files.specs.SecondTexts.{second_msh_nodes, second_msh_elements, second_msh_text}
use Rattle.solver_files.proofs.Parts.{then_part}
use Rattle.solver_files.proofs.second_msh.write_second_msh.Goals as goal

pub returns : goal.returns
returns c =
    let m = second_of c.args.mesh.now in
    let out = c.new-out.result in
    let both = then_part out (second_msh_nodes m) c.put_nodes.new.out c.put_elements.new.out (second_msh_elements m) c.in_ok-put_nodes.ensures c.in_ok-put_elements.ensures in
    both ∙ ap (λ s. s ++ second_msh_text m) c.new-out.ensures
