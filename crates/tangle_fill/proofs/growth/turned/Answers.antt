use Rattle.std.proofs.Common.{refl}
use Rattle.crossing_laws.proofs.Faces.{onward, backward}
use Rattle.tangle_fill.proofs.Indexed.{lies_turned}
use Rattle.tangle_fill.proofs.growth.turned.Goals as goal

pub returns-then-b-least : goal.returns-then-b-least
returns-then-b-least c t = let f = c.args.f in lies_turned (record { a = f.b; b = f.c; c = f.a }) f t (onward refl refl refl)

pub returns-else-b-least : goal.returns-else-b-least
returns-else-b-least c t = let f = c.args.f in lies_turned (record { a = f.c; b = f.a; c = f.b }) f t (backward refl refl refl)
