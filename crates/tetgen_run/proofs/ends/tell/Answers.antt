use Rattle.std.proofs.Common.{inl, subst, ◌∙◌}
use Rattle.tet_ports.specs.Seen.{IsMessagePut, SinkSeen, sink_seen}
use Rattle.tetgen_run.proofs.ends.tell.Goals as goal
use Rattle.tetgen_run.proofs.ends.tell.Goals.{in-Refused+in-Ok, in-Unwritten, in-Unsummed, in-NoMemory}

pub returns : goal.returns
returns g c =
    let E = g.E.Sink in
    inl (
      c.status.ensures,
      elim c.match-stop.branch [
        | in-Refused+in-Ok w ↦
            let seen : SinkSeen = sink_seen E.state c.args.err.now w.put_message.new.err in
            rw (w.in-Refused.is, w.err-is) (subst (λ line. IsMessagePut line seen) (w.as_slice.ensures ∙ w.in-Ok.ensures) w.put_message.ensures)
        | in-Unwritten w ↦ rw (w.in-Unwritten.is, w.err-is) w.put_unwritten.ensures
        | in-Unsummed w ↦ rw (w.in-Unsummed.is, w.err-is) w.put_message-in-Unsummed.ensures
        | in-NoMemory w ↦ rw (w.in-NoMemory.is, w.err-is) w.put_message-in-NoMemory.ensures
      ],
    )
