use Rattle.std.proofs.Common.{◌++◌, drop, ap, sym, ◌∙◌, arith}
use Rattle.std.proofs.lemmas.Fmt.{length-decimal-le}
use Rattle.std.proofs.lemmas.List.{set-get_or}
use Rattle.std.specs.Fmt.{decimal}
use Rattle.mesh_files.proofs.Pieces.{stepped_beside, written_rest, some_digit}
use Rattle.mesh_files.proofs.counter.Counter.reach.Goals as goal

pub write_digits-self-requires : goal.write_digits-self-requires
write_digits-self-requires c = (omega (arith, length-decimal-le 20 c.args.number (omega arith) (omega arith) c.ranges.number.fits), omega arith)

pub invariant_of-self : goal.invariant_of-self
invariant_of-self c =
    let s = c.args.self.now in
    record { starts = s.starts; ends = stepped_beside s.digits s.start s.number c.args.number s.last (omega arith) (omega arith) s.ends (omega arith) (omega arith) (omega arith) c.ranges.number.fits }

pub invariant_of-self-2 : goal.invariant_of-self-2
invariant_of-self-2 c =
    let w = c.write_digits-self in
    record {
      starts = omega (arith, w.ensures.start, some_digit c.args.number c.ranges.number.fits);
      ends = ap (drop w.result) (set-get_or w.new.buf 23 0) ∙ w.ensures.written
          ∙ ap (λ bytes. decimal c.args.number ++ bytes)
          (sym (written_rest w.new.buf c.args.self.now.digits (decimal c.args.number) w.result 24 (omega arith) (omega (arith, w.ensures.start)) (omega arith) w.ensures.written));
    }
