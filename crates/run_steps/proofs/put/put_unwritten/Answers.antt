use Rattle.std.proofs.Common.{◌++◌, subst}
use Rattle.std.specs.Prelude.{codes}
use Rattle.tet_ports.specs.Seen.{IsMessagePut, SinkSeen, sink_seen}
use Rattle.run_steps.proofs.Pieces.{put_after, put_front, unwritten_pieces}
use Rattle.run_steps.proofs.put.put_unwritten.Goals as goal

pub returns-in-Ok : goal.returns-in-Ok
returns-in-Ok g c =
    let E = g.E.Sink in
    let old = c.args.err.now in
    let mid = c.put.new.self in
    let new = c.put_both.new.err in
    let seen : SinkSeen = sink_seen E.state old new in
    let rest : SinkSeen = sink_seen E.state mid new in
    let back = subst (λ name. IsMessagePut (name ++ codes ": write failed\n") rest) c.as_slice.ensures c.put_both.ensures in
    subst (λ text. IsMessagePut text seen) (unwritten_pieces c.args.program.now c.args.name.now)
    (put_after c.args.program.now (c.args.name.now ++ codes ": write failed\n") (E.state old).written (E.state mid).written (E.state new).written (E.state old).faults (E.state mid).faults (E.state new).faults (E.state old).wants (E.state mid).wants (E.state new).wants
    c.in-Ok.ensures.appended c.in-Ok.ensures.fault_count c.in-Ok.ensures.want_count back)

pub returns-in-Err : goal.returns-in-Err
returns-in-Err g c =
    let E = g.E.Sink in
    let old = c.args.err.now in
    let new = c.put.new.self in
    let seen : SinkSeen = sink_seen E.state old new in
    let a = c.put.ensures in
    subst (λ text. IsMessagePut text seen) (unwritten_pieces c.args.program.now c.args.name.now)
    (put_front c.args.program.now (c.args.name.now ++ codes ": write failed\n") (E.state old).written (E.state new).written (E.state old).faults (E.state new).faults (E.state old).wants (E.state new).wants
    c.in-Err.field-0 c.put.result c.in-Err.is a.failed a.partly a.wanting a.kept)
