use Rattle.std.proofs.Common.{◌≡◌, ◌≢◌, ℕ, Option, subst, sym, ap, ◌∙◌, arith}
use Rattle.std.specs.HashMap.{get}
use Rattle.mesh_check.specs.Searches.{IsLeastOf}
use Rattle.mesh_check.specs.Sides.{same_side, IsLaterOn, IsLaterLike, lesser_of}
use Rattle.mesh_check.specs.declared.same_side.FaceSide.{FaceSide}
use Rattle.mesh_check.proofs.SidesOf.{met_on_plane, met_off_plane}
use Rattle.mesh_check.proofs.same_side.met_at.Goals as goal

pub returns-then-at-eq1 : goal.returns-then-at-eq1
returns-then-at-eq1 c = λ small.
    let ps = c.args.points.now in
    let rows = c.args.list.now in
    let p = c.args.at in
    let first = λ (side : ℕ). c.requires (record p { side = side }) in
    let last = c.least_of-then-at-eq1.ensures ∙ ap (λ (o : Option ℕ). lesser_of c.kept-middle.result o) c.least_of.ensures in
    subst (λ (o : Option ℕ). IsLeastOf (IsLaterLike ps rows c.args.from p) o) (sym last)
    (met_on_plane ps rows c.args.from p c.kept.result c.kept-middle.result c.kept-then-at-eq1.result c.if-at-eq1.true
    (subst (λ (o : Option ℕ). IsLeastOf (IsLaterOn ps rows c.args.from (record p { side = 0 })) o) (sym c.kept.ensures) (first 0))
    (subst (λ (o : Option ℕ). IsLeastOf (IsLaterOn ps rows c.args.from (record p { side = 1 })) o) (sym c.kept-middle.ensures) (first 1))
    (subst (λ (o : Option ℕ). IsLeastOf (IsLaterOn ps rows c.args.from (record p { side = 2 })) o) (sym c.kept-then-at-eq1.ensures) (first 2)))

pub returns : goal.returns
returns c = λ small.
    let ps = c.args.points.now in
    let rows = c.args.list.now in
    let p = c.args.at in
    subst (λ (o : Option ℕ). IsLeastOf (IsLaterLike ps rows c.args.from p) o) (sym c.least_of-2.ensures)
    (met_off_plane ps rows c.args.from p c.kept-middle.result c.kept-2.result c.if-at-eq1.false
    (subst (λ (o : Option ℕ). IsLeastOf (IsLaterOn ps rows c.args.from (record p { side = 1 })) o) (sym c.kept-middle.ensures) (c.requires (record p { side = 1 })))
    (subst (λ (o : Option ℕ). IsLeastOf (IsLaterOn ps rows c.args.from p) o) (sym c.kept-2.ensures) (c.requires p)))
