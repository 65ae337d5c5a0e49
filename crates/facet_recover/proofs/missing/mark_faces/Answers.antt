use Rattle.std.proofs.Common.{inl, inr}
use Rattle.geo_laws.specs.Faces.{face_of}
use Rattle.incidence.specs.Chains.{face_at}
use Rattle.facet_recover.proofs.Listed.{marked_four, told_of}
use Rattle.facet_recover.proofs.missing.mark_faces.Goals as goal

pub returns-then-not-begins_at-clause-marked : goal.returns-then-not-begins_at-clause-marked
returns-then-not-begins_at-clause-marked c k l =
    (λ m. inl m, λ w. elim w [ inl m ↦ m | inr h ↦ absurd (c.begins_at.ensures c.if-not-begins_at.true k l h) ])

pub returns-clause-marked : goal.returns-clause-marked
returns-clause-marked c k l =
    let t = c.args.tet in
    let x = face_at c.args.table.now k in
    marked_four x (face_of t.b t.c t.d) (face_of t.a t.c t.d) (face_of t.a t.b t.d) (face_of t.a t.b t.c) _ _ _ _ _
    (told_of x _ _ _ _ c.face_of.ensures (c.mark.ensures.marked k l))
    (told_of x _ _ _ _ c.face_of-2.ensures (c.mark-2.ensures.marked k l))
    (told_of x _ _ _ _ c.face_of-3.ensures (c.mark-3.ensures.marked k l))
    (told_of x _ _ _ _ c.face_of-4.ensures (c.mark-4.ensures.marked k l))
