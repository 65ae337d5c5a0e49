use Rattle.run_steps.proofs.Pieces.{put_after, put_front}
use Rattle.run_steps.proofs.put.put_both.Goals as goal

pub returns-in-Ok : goal.returns-in-Ok
returns-in-Ok g c =
    let E = g.E.Sink in
    let old = c.args.err.now in
    let mid = c.put.new.self in
    let new = c.put_message.new.err in
    put_after c.args.first.now c.args.second.now (E.state old).written (E.state mid).written (E.state new).written (E.state old).faults (E.state mid).faults (E.state new).faults (E.state old).wants (E.state mid).wants (E.state new).wants
    c.in-Ok.ensures.appended c.in-Ok.ensures.fault_count c.in-Ok.ensures.want_count c.put_message.ensures

pub returns-in-Err : goal.returns-in-Err
returns-in-Err g c =
    let E = g.E.Sink in
    let old = c.args.err.now in
    let new = c.put.new.self in
    let a = c.put.ensures in
    put_front c.args.first.now c.args.second.now (E.state old).written (E.state new).written (E.state old).faults (E.state new).faults (E.state old).wants (E.state new).wants
    c.in-Err.field-0 c.put.result c.in-Err.is a.failed a.partly a.wanting a.kept
