-- Points alone are a sound input.
use Rattle.std.proofs.Common.{refl, arith}
use Rattle.node_files.specs.Node.{IsNodeText}
use Rattle.node_files.specs.declared.node_text.NodeText.{NodeText}
use Rattle.plc_files.specs.Checks.{first_fault}
use Rattle.run_steps.specs.Reading.{points_alone, IsSound}

pub alone_sound : (nodes : NodeText) → IsNodeText nodes → IsSound (points_alone nodes)
unfolding first_fault
alone_sound nodes h = record { nodes = h; few = record { polygons = omega arith; regions = omega arith }; corners = refl }
