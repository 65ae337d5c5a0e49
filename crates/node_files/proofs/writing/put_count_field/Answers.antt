use Rattle.std.proofs.Common.{[], ◌∷◌, pos}
use Rattle.node_files.specs.Writing.{whole_text}
use Rattle.node_files.proofs.Written.{ok_after}
use Rattle.node_files.proofs.writing.put_count_field.Goals as goal

pub returns : goal.returns
returns c = ok_after c.put_count.result c.args.out.now (32 ∷ []) c.push.new.self c.put_count.new.out (whole_text (pos c.args.n)) c.in_ok-push.ensures.ok c.put_count.ensures
