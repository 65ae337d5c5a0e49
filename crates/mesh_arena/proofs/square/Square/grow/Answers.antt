use Rattle.std.proofs.Common.{◌≢◌, ◌≤◌, ◌-◌, ◌++◌, List, is_ok, replicate, take, sym, ap, subst, ◌∙◌, arith}
use Rattle.std.specs.List.{All}
use Rattle.std.proofs.lemmas.Bool.{cond_both}
use Rattle.std.proofs.lemmas.List.{length-append, length-take, length-replicate}
use Rattle.std.proofs.lemmas.List.Elements.{All-append, All-take, All-replicate}
use Rattle.mesh_arena.specs.declared.square.MetFace.{MetFace}
use Rattle.mesh_arena.specs.Edges.{SquareValue, IsSquare}
use Rattle.mesh_arena.proofs.EdgeSquare.{IsSquare-others, others-IsSquare}
use Rattle.mesh_arena.proofs.square.Square.grow.Goals as goal

pub invariant_of-self : goal.invariant_of-self
invariant_of-self c =
    let round = c.self.inside.round in
    let met = c.self.inside.met.items in
    let square = c.self.invariant in
    let never : MetFace = record { slot = 0; round = 0; face = 0 } in
    let below : 0 ≤ round = omega arith in
    let others : All (λ (m : MetFace). m.round ≢ round) met = others-IsSquare met round (subst (IsSquare met round) (ap (λ (s : SquareValue). s.rows) c.self.view_is ∙ c.requires) square) in
    let long : List MetFace = take 4096 met ++ replicate (4096 - c.self.inside.met.len) never in
    let made : IsSquare long round c.self.inside.rows =
    IsSquare-others long round _ square.some (omega (arith, length-append (take 4096 met) (replicate (4096 - c.self.inside.met.len) never), length-take 4096 met, length-replicate (4096 - c.self.inside.met.len) never))
    (All-append (λ (m : MetFace). m.round ≤ round) _ _ (All-take (λ (m : MetFace). m.round ≤ round) 4096 met square.all) (All-replicate (λ (m : MetFace). m.round ≤ round) _ never below))
    (All-append (λ (m : MetFace). m.round ≢ round) _ _ (All-take (λ (m : MetFace). m.round ≢ round) 4096 met others) (All-replicate (λ (m : MetFace). m.round ≢ round) _ never (λ e. omega (arith, square.some)))) in
    subst (λ (l : List MetFace). IsSquare l round c.self.inside.rows) (sym c.resize.ensures.items)
    (cond_both (is_ok c.resize.result) _ _ (λ (l : List MetFace). IsSquare l round c.self.inside.rows) (λ _. made) (λ _. square))
