use Rattle.std.proofs.Common.{◌++◌}
use Rattle.std.specs.Fmt.{decimal}
use Rattle.solver_files.proofs.Parts.{then_part, last_part}
use Rattle.solver_files.proofs.line.put_heading.Goals as goal

pub returns : goal.returns
returns c =
    let number = decimal c.args.count in
    let begun = then_part c.args.out.now c.args.before.now c.append.new.self c.put_count.new.out number c.in_ok-append.ensures.ok c.in_ok-put_count.ensures in
    last_part c.append-2.result c.args.out.now (c.args.before.now ++ number) c.put_count.new.out c.append-2.new.self c.args.after.now begun c.append-2.ensures.ok
