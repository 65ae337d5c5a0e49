use Rattle.std.proofs.Common.{rules, sym, subst, take}
use Rattle.std.specs.Io.KnownBytes.{Appends}
use Rattle.std.proofs.KnownBytes.{Appends-trans}
use Rattle.std.proofs.Math.Seq.{take-add}
use Rattle.std.proofs.lemmas.List.{take_rest}
use Rattle.tet_ports.proofs.streams.write_whole.Goals as goal

-- what was appended before, and then what this write took of the rest
pub loop-written-preserved : goal.loop-written-preserved
loop-written-preserved g c =
    let all = c.args.bytes.now in
    let before = c.loop-written.written in
    let count = c.in_ok-count.count in
    let taken = subst (λ rest. Appends (g.W.Write.contents c.loop-written.writer) (g.W.Write.contents c.write_some.new.writer) (take count rest)) (take_rest all before) c.in_ok-count.ensures.ok in
    (search rules, subst (Appends _ _) (sym (take-add before count all)) (Appends-trans _ _ _ _ _ c.loop-written.invariant.1 taken))
