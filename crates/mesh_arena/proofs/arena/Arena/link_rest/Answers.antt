use Rattle.std.proofs.Common.{◌≡◌, ◌<◌, length, arith, inl, inr}
use Rattle.std.proofs.lemmas.Bool.{cases_lt}
use Rattle.mesh_arena.specs.declared.slot.Corner.TheVariants.{Point}
use Rattle.mesh_arena.proofs.Pairs.{ArePaired-along, LinksStar-one, here_one}
use Rattle.mesh_arena.proofs.arena.Arena.link_rest.Goals as goal

pub link_star_face-requires-clause-pairs : goal.link_star_face-requires-clause-pairs
link_star_face-requires-clause-pairs c = ArePaired-along _ _ _ c.loop-k.invariant.before.corners c.requires.pairs

pub loop-k-preserved : goal.loop-k-preserved
loop-k-preserved c =
    let first = c.args.self.now.slots in
    let rim = c.args.rim.now in
    let inside : c.loop-r.r < length rim = omega arith in
    record {
      before = LinksStar-one first _ _ rim (Point c.args.point) c.loop-r.r c.loop-k.k c.loop-r.r inside c.requires.star.outside c.loop-k.invariant.before c.link_star_face.ensures;
      here = λ m lt. elim (cases_lt m c.loop-k.k) [
        | inl less ↦ c.link_star_face.ensures.keeps _ m (c.loop-k.invariant.here m less)
        | inr more ↦
            let same : m ≡ c.loop-k.k = omega arith in
            rw same (here_one first _ _ rim (Point c.args.point) c.loop-r.r c.loop-k.k c.loop-r.r inside c.requires.star.outside c.loop-k.invariant.before c.link_star_face.ensures)
      ];
    }

pub loop-r-preserved : goal.loop-r-preserved
loop-r-preserved c =
    let was = c.loop-k.invariant.before in
    record {
      len = was.len;
      corners = was.corners;
      star = was.star;
      sides = was.sides;
      linked = λ q m lt m4. elim (cases_lt q c.loop-r.r) [
        | inl less ↦ was.linked q m less m4
        | inr more ↦ let same : q ≡ c.loop-r.r = omega arith in rw same (c.loop-k.invariant.here m (omega arith))
      ];
    }
