use Rattle.std.proofs.Common.{arith}
use Rattle.std.proofs.lemmas.Fmt.{length-decimal-le}
use Rattle.std.proofs.lemmas.List.{length-set}
use Rattle.std.specs.Fmt.{decimal}
use Rattle.mesh_files.proofs.Pieces.{written_length, put_beside}
use Rattle.mesh_files.proofs.counter.Counter.put.Goals as goal

pub returns-clause-short : goal.returns-clause-short
returns-clause-short c =
    let s = c.args.self.now in
    let long = written_length _ s.digits (decimal s.number) s.start 24 (length-set s.digits 23 s.last) (omega arith) (omega arith) s.ends in
    omega (arith, long, length-decimal-le 20 s.number (omega arith) (omega arith) (omega arith))

pub returns-clause-written : goal.returns-clause-written
returns-clause-written c =
    let s = c.args.self.now in
    rw c.put-end.ensures.end (put_beside c.args.block.now c.put-end.new.block s.digits c.args.at s.start s.number s.last (omega arith) s.starts (omega arith) s.ends (rw c.put-end.ensures.end at c.put-end.ensures.written))
