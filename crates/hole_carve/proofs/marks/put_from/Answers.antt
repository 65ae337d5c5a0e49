use Rattle.std.proofs.Common.{refl}
use Rattle.hole_carve.specs.Flooding.{queue_at}
use Rattle.hole_carve.proofs.Marked.{put_none, put_next}
use Rattle.hole_carve.proofs.marks.put_from.Goals as goal

pub loop-at-init : goal.loop-at-init
loop-at-init c = put_none c.args.queue.now c.args.from c.args.number c.args.marks.now

pub loop-at-preserved : goal.loop-at-preserved
loop-at-preserved c =
    put_next c.args.queue.now c.args.from c.loop-at.at c.args.number (queue_at c.args.queue.now c.loop-at.at) c.args.marks.now c.loop-at.marks c.put_at.new.marks
    refl c.loop-at.auto.at c.loop-at.invariant c.put_at.ensures.long c.put_at.ensures.here c.put_at.ensures.others
