use Rattle.std.proofs.Common.{inl, inr}
use Rattle.tetfit_run.proofs.grids.is_passed.Goals as goal

pub returns-then-is_off_grid : goal.returns-then-is_off_grid
returns-then-is_off_grid c = λ t. inl (c.is_off_grid.ensures c.if-is_off_grid.true)

pub returns : goal.returns
returns c = λ t. inr (c.are_alike.ensures t)
