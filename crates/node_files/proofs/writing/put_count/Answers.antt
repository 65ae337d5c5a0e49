use Rattle.std.proofs.Common.{ℤ, ap, pos, w64}
use Rattle.std.proofs.lemmas.Int.{to_z_pos}
use Rattle.node_files.specs.Writing.{whole_text}
use Rattle.grid_coords.proofs.Printed.{ok_same}
use Rattle.node_files.proofs.writing.put_count.Goals as goal

pub returns : goal.returns
returns c =
    ok_same c.put_whole.result c.args.out.now c.put_whole.new.out _ (whole_text (pos c.args.n)) (ap (λ (z : ℤ). whole_text z) (to_z_pos w64 c.args.n c.requires)) c.put_whole.ensures
