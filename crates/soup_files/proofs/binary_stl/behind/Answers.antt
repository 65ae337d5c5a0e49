use Rattle.std.proofs.Common.{◌≡◌, ℕ, ◌-◌, List, length, take, drop, arith}
use Rattle.std.proofs.lemmas.Grind.{common_steps}
use Rattle.soup_files.proofs.binary_stl.behind.Goals as goal

-- what stands from a place on is whole
rest-drop : (n : ℕ) (xs : List ℕ) → take (length xs - n) (drop n xs) ≡ drop n xs
rest-drop n xs = grind (arith, common_steps)

pub returns : goal.returns
returns c = rest-drop c.args.count c.args.bytes.now
