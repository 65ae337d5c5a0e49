use Rattle.std.proofs.Common.{◌≡◌, ℕ, ◌<◌, false, length, get_or, sym, ◌∙◌, arith}
use Rattle.mesh_arena.specs.Cells.{is_infinite}
use Rattle.mesh_arena.proofs.CellCorners.{finite_corners, infinite_corner_there, below_four}
use Rattle.mesh_arena.proofs.cell.Cell.numbers.Goals as goal
use Rattle.mesh_arena.proofs.cell.Cell.numbers.Goals.{then-is_infinite-via-then-is_infinite, then-is_infinite-via-else-is_infinite+then-is_infinite-2, then-is_infinite-via-else-is_infinite+else-is_infinite-2+then-is_infinite-3, then-is_infinite-via-else-is_infinite+else-is_infinite-2+else-is_infinite-3+then-is_infinite-4}

pub returns-then-is_infinite : goal.returns-then-is_infinite
returns-then-is_infinite c =
    let cell = c.args.self.now in
    let links : length cell.links ≡ 4 = omega arith in
    let len : length cell.links ≡ length cell.points = omega arith in
    elim c.then-is_infinite.branch [
      | then-is_infinite-via-then-is_infinite w ↦ infinite_corner_there cell.points cell.links 0 (omega arith) len (sym c.is_infinite.ensures ∙ w.if-is_infinite.true)
      | then-is_infinite-via-else-is_infinite+then-is_infinite-2 w ↦
          infinite_corner_there cell.points cell.links 1 (omega arith) len (sym w.is_infinite-else-is_infinite.ensures ∙ w.if-is_infinite-2.true)
      | then-is_infinite-via-else-is_infinite+else-is_infinite-2+then-is_infinite-3 w ↦
          infinite_corner_there cell.points cell.links 2 (omega arith) len (sym w.is_infinite-else-is_infinite-2.ensures ∙ w.if-is_infinite-3.true)
      | then-is_infinite-via-else-is_infinite+else-is_infinite-2+else-is_infinite-3+then-is_infinite-4 w ↦
          infinite_corner_there cell.points cell.links 3 (omega arith) len (sym w.is_infinite-else-is_infinite-3.ensures ∙ w.if-is_infinite-4.true)
    ]

pub returns : goal.returns
returns c =
    let cell = c.args.self.now in
    let links : length cell.links ≡ 4 = omega arith in
    let each : (k : ℕ) → k < 4 → is_infinite (get_or cell.links k 0) ≡ false =
    below_four (λ (k : ℕ). is_infinite (get_or cell.links k 0) ≡ false) (sym c.is_infinite.ensures ∙ c.if-is_infinite.false) (sym c.is_infinite-else-is_infinite.ensures ∙ c.if-is_infinite-2.false)
    (sym c.is_infinite-else-is_infinite-2.ensures ∙ c.if-is_infinite-3.false) (sym c.is_infinite-else-is_infinite-3.ensures ∙ c.if-is_infinite-4.false) in
    finite_corners cell.points cell.links (omega arith) (λ k below. each k (omega arith))
