use Rattle.std.proofs.lemmas.Result.{IfOk-weaker}
use Rattle.constrained_laws.proofs.Grown.{law_grown_admissible}
use Rattle.tangle_fill.proofs.accept.is_constrained.Goals as goal

pub returns : goal.returns
returns c =
    let points = c.args.points.now in
    let triangles = c.args.triangles.now in
    let list = c.args.list.now in
    let rows = c.args.change.now.rows in
    let each = c.in_ok-has_each_point.ensures c.if-not-branch.false in
    IfOk-weaker c.is_refilled.result _ _
    (λ refilled h is. let grown = h is in record { grown = grown; admissible = law_grown_admissible points triangles list rows grown each }) c.is_refilled.ensures
