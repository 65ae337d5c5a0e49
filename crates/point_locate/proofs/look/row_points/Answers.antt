use Rattle.std.proofs.Common.{ℕ, ◌<◌, [], ◌∷◌, length, arith}
use Rattle.std.proofs.lemmas.List.Elements.{All-nil, All-cons}
use Rattle.point_locate.proofs.look.row_points.Goals as goal

pub corners_of-requires : goal.corners_of-requires
corners_of-requires c =
    let P : ℕ → Type 0 = λ i. i < length c.args.points.now in
    let t = c.args.row in
    let at = c.requires in
    All-cons P t.a (t.b ∷ t.c ∷ t.d ∷ []) (at 0 (omega arith)) (All-cons P t.b (t.c ∷ t.d ∷ []) (at 1 (omega arith)) (All-cons P t.c (t.d ∷ []) (at 2 (omega arith)) (All-cons P t.d [] (at 3 (omega arith)) (All-nil P))))
