use Rattle.tet_text.specs.Printing.{sign_text}
use Rattle.tet_text.proofs.Texts.{front_on_err}
use Rattle.tet_text.proofs.printing.put_value.Goals as goal

pub returns-clause-err : goal.returns-clause-err
returns-clause-err c = front_on_err c.put_size.result c.args.out.now (sign_text c.args.negative) c.put_sign.new.out c.put_size.new.out c.in_ok-put_sign.ensures.ok c.put_size.ensures.err
