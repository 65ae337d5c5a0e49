-- The text of a mesh in each format.
use Rattle.std.specs.Prelude.{ℕ, List}
use Rattle.command_words.specs.declared.formats.Format.{Format}
use Rattle.command_words.specs.declared.formats.Format.TheVariants.{Vtk, Msh}
use Rattle.solver_files.specs.Mesh.{Mesh}
use Rattle.solver_files.specs.Msh.{msh_text}
use Rattle.solver_files.specs.Second.{Second}
use Rattle.solver_files.specs.SecondTexts.{second_msh_text, second_vtk_text}
use Rattle.solver_files.specs.Vtk.{vtk_text}

-- of first order
abbrev pub whole_text : Mesh → Format → List ℕ
whole_text mesh Vtk = vtk_text mesh
whole_text mesh Msh = msh_text mesh

-- and of second order
abbrev pub second_whole_text : Second → Format → List ℕ
second_whole_text mesh Vtk = second_vtk_text mesh
second_whole_text mesh Msh = second_msh_text mesh
