use Rattle.std.proofs.Common.{subst, sym, ◌∙◌}
use Rattle.std.specs.Prelude.{List, All}
use Rattle.std.proofs.lemmas.List.Elements.{All-push}
use Rattle.geo_laws.specs.Delaunay.{IsOn}
use Rattle.geo_laws.specs.declared.tetrahedra.Tet.{Tet}
use Rattle.text_tests.proofs.tests.worked_shapes.rows.Goals as goal
use Rattle.text_tests.proofs.tests.worked_shapes.rows.Goals.{then-is_on+in_ok-push, else-is_on}

pub loop-a-preserved : goal.loop-a-preserved
loop-a-preserved c =
    let ps = c.args.points.now in
    elim c.if-is_on.branch [
      | then-is_on+in_ok-push w ↦
          subst (λ (ts : List Tet). All (IsOn ps) ts) (sym (w.list-is ∙ w.in_ok-push.ensures.ok))
          (All-push (IsOn ps) c.loop-a.list _ c.loop-a.invariant (c.is_on.ensures w.if-is_on.true))
      | else-is_on w ↦ subst (λ (ts : List Tet). All (IsOn ps) ts) (sym w.list-is) c.loop-a.invariant
    ]
