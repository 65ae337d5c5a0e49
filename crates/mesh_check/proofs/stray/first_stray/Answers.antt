use Rattle.std.proofs.Common.{◌≡◌, ℕ, subst, sym, ◌∙◌, arith}
use Rattle.std.specs.Prelude.{Contains}
use Rattle.geo_laws.specs.Faces.{faces_of_rows}
use Rattle.geo_laws.specs.declared.faces.Face.{Face}
use Rattle.mesh_check.specs.Corners.{listed_face_at}
use Rattle.mesh_check.specs.Defects.{IsStray}
use Rattle.mesh_check.proofs.Firsts.{none_more}
use Rattle.mesh_check.proofs.Rows.{listed_at}
use Rattle.mesh_check.proofs.stray.first_stray.Goals as goal

pub returns-then-not-has : goal.returns-then-not-has
returns-then-not-has c =
    let is = listed_at c.args.faces.now c.loop-i.i c.at.result (omega arith) c.at.ensures ∙ sym c.face_listed.ensures in
    ((omega arith, λ m. let y = c.has.ensures.1 ((c.requires c.face_listed.result).1 (subst (λ (f : Face). Contains (faces_of_rows c.args.list.now) f) is m)) in absurd (cc)), c.loop-i.invariant)

pub loop-i-preserved : goal.loop-i-preserved
loop-i-preserved c =
    let is = listed_at c.args.faces.now c.loop-i.i c.at.result (omega arith) c.at.ensures ∙ sym c.face_listed.ensures in
    none_more (IsStray c.args.list.now c.args.faces.now) c.loop-i.i c.loop-i.invariant
    (λ h. h.1 (subst (λ (f : Face). Contains (faces_of_rows c.args.list.now) f) (sym is) ((c.requires c.face_listed.result).0 (c.has.ensures.0 (cc)))))

pub returns : goal.returns
returns c = λ k h. c.loop-i.invariant k (let lt = h.0 in omega arith) h
