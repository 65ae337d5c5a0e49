use Rattle.std.proofs.Common.{subst, sym}
use Rattle.facet_recover.specs.Missing.{AreMissing, AreListed}
use Rattle.facet_recover.proofs.Listed.{if_ok_then}
use Rattle.facet_recover.proofs.missing.missing_triangles.Goals as goal

pub returns : goal.returns
returns c =
    if_ok_then _ (AreMissing c.args.triangles.now c.args.list.now) c.unmarked.result
    (λ missing h. h c.args.list.now (subst (AreListed c.args.triangles.now c.args.list.now) (sym c.deref.ensures.value) c.in_ok-listed.ensures)) c.unmarked.ensures
