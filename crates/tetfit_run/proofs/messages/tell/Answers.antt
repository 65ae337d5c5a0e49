use Rattle.std.proofs.Common.{inl, inr, refl, subst, sym, ◌∙◌}
use Rattle.tet_ports.specs.Seen.{IsMessagePut, SinkSeen, sink_seen}
use Rattle.tetfit_run.proofs.Pieces.{unwritten_told, wanting_told}
use Rattle.tetfit_run.proofs.messages.tell.Goals as goal
use Rattle.tetfit_run.proofs.messages.tell.Goals.{in-Refused+in-Ok, in-Unwritten, in-Unsummed, in-NoMemory}

pub returns : goal.returns
returns g c =
    let E = g.E.Sink in
    inl (
      c.status.ensures,
      elim c.match-stop.branch [
        | in-Refused+in-Ok w ↦
            let seen : SinkSeen = sink_seen E.state c.args.err.now w.put_message.new.err in
            rw (w.in-Refused.is, w.err-is) (subst (λ line. IsMessagePut line seen) (w.as_slice.ensures ∙ w.in-Ok.ensures) w.put_message.ensures)
        | in-Unwritten w ↦
            let seen : SinkSeen = sink_seen E.state c.args.err.now w.put_unwritten.new.err in
            rw (w.in-Unwritten.is, w.err-is) (subst (λ line. IsMessagePut line seen) (sym (unwritten_told _ _ _ _ _)) w.put_unwritten.ensures)
        | in-Unsummed w ↦
            let seen : SinkSeen = sink_seen E.state c.args.err.now w.put_message-in-Unsummed.new.err in
            rw (w.in-Unsummed.is, w.err-is) (subst (λ line. IsMessagePut line seen) (sym (unwritten_told _ _ _ _ _)) w.put_message-in-Unsummed.ensures)
        | in-NoMemory w ↦
            let seen : SinkSeen = sink_seen E.state c.args.err.now w.put_message-in-NoMemory.new.err in
            rw (w.in-NoMemory.is, w.err-is) (subst (λ line. IsMessagePut line seen) (sym (wanting_told _ _ _ _)) w.put_message-in-NoMemory.ensures)
      ],
    )

pub returns-in-Err : goal.returns-in-Err
returns-in-Err g c =
    let E = g.E.Sink in
    let seen : SinkSeen = sink_seen E.state c.args.err.now c.put_message-in-Err.new.err in
    rw c.in-Refused.is (inr (refl, tt, subst (λ line. IsMessagePut line seen) (sym (wanting_told _ _ _ _)) c.put_message-in-Err.ensures))
