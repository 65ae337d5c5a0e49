use Rattle.std.proofs.Common.{◌≡◌, ◌<◌, length, sym, subst, ◌∙◌, arith}
use Rattle.mesh_arena.specs.declared.star.StarSlot.{StarSlot}
use Rattle.mesh_arena.specs.Mesh.{AllDiffer}
use Rattle.mesh_arena.specs.Cells.{cell_corners, IsUnlinked}
use Rattle.mesh_arena.specs.Star.{rim_at}
use Rattle.mesh_arena.specs.Surgery.{star_at, star_corners, FitsFace, AddsOver}
use Rattle.mesh_arena.proofs.AddStar.{waiting_fits, AddsStar-step, same_star, new_star}
use Rattle.mesh_arena.proofs.StarEdges.{star_read, ArePlaced-step, AreOverRim-placed}
use Rattle.mesh_arena.proofs.arena.Arena.add_star.Goals as goal

pub add_over-made-requires-clause-bare : goal.add_over-made-requires-clause-bare
add_over-made-requires-clause-bare c =
    let placed = c.loop-r.invariant.placed in
    let is : star_at c.args.star.now.items c.loop-r.r ≡ c.index.result.now = sym (placed.rest c.loop-r.r (omega arith)) ∙ star_read c.loop-r.star.items c.loop-r.r c.index.result.now (omega (arith, placed.len)) c.index.ensures in
    subst (λ (s : StarSlot). IsUnlinked s.cell) is (c.requires.rim.bare c.loop-r.r c.loop-r-test.true)

pub add_over-made-requires-clause-differ : goal.add_over-made-requires-clause-differ
add_over-made-requires-clause-differ c =
    let placed = c.loop-r.invariant.placed in
    let is : star_at c.args.star.now.items c.loop-r.r ≡ c.index.result.now = sym (placed.rest c.loop-r.r (omega arith)) ∙ star_read c.loop-r.star.items c.loop-r.r c.index.result.now (omega (arith, placed.len)) c.index.ensures in
    subst (λ (s : StarSlot). AllDiffer (cell_corners s.cell)) is (c.requires.rim.differ c.loop-r.r c.loop-r-test.true)

pub add_over-made-requires-clause-fits : goal.add_over-made-requires-clause-fits
add_over-made-requires-clause-fits c =
    let placed = c.loop-r.invariant.placed in
    let outer = rim_at c.args.rim.now c.loop-r.r in
    let is : star_at c.args.star.now.items c.loop-r.r ≡ c.index.result.now = sym (placed.rest c.loop-r.r (omega arith)) ∙ star_read c.loop-r.star.items c.loop-r.r c.index.result.now (omega (arith, placed.len)) c.index.ensures in
    subst (λ (s : StarSlot). FitsFace c.loop-r.self.slots outer.slot.index outer.face (cell_corners s.cell) s.face) is
    (waiting_fits _ _ c.args.rim.now c.args.star.now.items c.loop-r.r c.requires.rim c.loop-r-test.true c.loop-r.invariant.adds_star)

pub loop-r-preserved : goal.loop-r-preserved
loop-r-preserved c =
    let first = c.args.self.now.slots in
    let now = c.loop-r.self.slots in
    let next = c.add_over-made.new.self.slots in
    let rim = c.args.rim.now in
    let star = c.args.star.now.items in
    let n = c.loop-r.r in
    let made = c.add_over-made.result in
    let outer = rim_at rim n in
    let was = c.loop-r.invariant.adds_star in
    let placed = c.loop-r.invariant.placed in
    let within : n < length c.loop-r.star.items = omega (arith, placed.len) in
    let is : star_at star n ≡ c.index.result.now = sym (placed.rest n (omega arith)) ∙ star_read c.loop-r.star.items n c.index.result.now within c.index.ensures in
    let adds : AddsOver now next outer.slot.index outer.face made (star_corners star n) (star_at star n).face =
    subst (λ (s : StarSlot). AddsOver now next outer.slot.index outer.face made (cell_corners s.cell) s.face) (sym is) c.add_over-made.ensures.adds in
    record {
      adds_star = AddsStar-step first now rim star n c.requires.rim c.loop-r-test.true was next made adds;
      placed = ArePlaced-step now next rim star c.loop-r.star.items n made c.index_mut.result.now (omega arith)
          (sym (star_read c.loop-r.star.items n c.index_mut.result.now within c.index_mut.ensures.value)) placed
          (same_star first now rim star n c.requires.rim c.loop-r-test.true was next made adds)
          (new_star first now rim star n c.requires.rim c.loop-r-test.true was next made adds);
      room = omega (arith, c.loop-r.invariant.room);
    }

pub returns-clause-adds_star : goal.returns-clause-adds_star
returns-clause-adds_star c =
    let done : c.loop-r.r ≡ length c.args.rim.now = omega arith in
    rw done at c.loop-r.invariant.adds_star

pub returns-clause-over : goal.returns-clause-over
returns-clause-over c =
    let done : c.loop-r.r ≡ length c.args.rim.now = omega arith in
    AreOverRim-placed c.args.self.now.slots _ c.args.rim.now c.args.star.now.items _ (rw done at c.loop-r.invariant.adds_star) (rw done at c.loop-r.invariant.placed)
