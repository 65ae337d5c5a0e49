use Rattle.std.proofs.Common.{◌≢◌, ◌-◌, ◌++◌, is_ok, replicate, take, sym, subst, arith}
use Rattle.std.specs.List.{All}
use Rattle.std.proofs.lemmas.Bool.{cond_both}
use Rattle.std.proofs.lemmas.List.Elements.{All-append, All-take, All-replicate}
use Rattle.mesh_arena.specs.declared.hashed.Met.{Met}
use Rattle.mesh_arena.proofs.EdgesByHash.{MeetsNone-others, others-MeetsNone}
use Rattle.mesh_arena.proofs.hashed.HashedEdges.grow.Goals as goal

pub returns-then-len : goal.returns-then-len
returns-then-len c =
    let round = c.self.inside.round in
    let met = c.self.inside.met.items in
    let none : Met = record { low = 0; high = 0; slot = 0; round = 0; face = 0 } in
    let P : Met → Type 0 = λ m. m.round ≢ round in
    let never : none.round ≢ round = λ e. omega (arith, c.self.invariant.some) in
    let before : All P met = others-MeetsNone met round (rw (← c.self.view_is) at c.requires) in
    let filled : All P (take c.args.len met ++ replicate (c.args.len - c.self.inside.met.len) none) = All-append P _ _ (All-take P c.args.len met before) (All-replicate P _ none never) in
    MeetsNone-others _ round (subst (All P) (sym c.resize.ensures.items) (cond_both (is_ok c.resize.result) _ _ (All P) (λ _. filled) (λ _. before)))
