use Rattle.std.proofs.Common.{◌^◌, ◌+◌, ◌-◌, ◌/◌, ◌∙◌, ℕ, ap, sym, arith}
use Rattle.std.proofs.lemmas.Nat.{one_shl}
use Rattle.binary_floats.proofs.Halves.{half_below, nearest_halved, nearest_none}
use Rattle.binary_floats.proofs.nearest.nearest_whole.Goals as goal

pub returns-then-k-gt127 : goal.returns-then-k-gt127
returns-then-k-gt127 c = sym (nearest_none c.args.n c.args.k c.requires.n c.if-k-gt127.true)

pub overflow_add-result : goal.overflow_add-result
overflow_add-result c =
    let k = c.args.k in
    omega (arith, one_shl (k - 1) 128 (omega (arith, c.if-k-gt127.false)), half_below k (omega (arith, c.if-k-gt127.false)) c.requires.k, c.requires.n)

pub returns : goal.returns
returns c =
    let k = c.args.k in
    ap (λ (h : ℕ). (c.args.n + h) / 2 ^ k) (one_shl (k - 1) 128 (omega (arith, c.if-k-gt127.false))) ∙ nearest_halved c.args.n k c.requires.k
