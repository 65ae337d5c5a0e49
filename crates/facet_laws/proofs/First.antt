-- A polygon on the hand of a leg's start of the first side that the leg passes through.
use Rattle.std.proofs.Common.{◌≡◌, ℕ, false}
use Rattle.std.specs.Prelude.{pos, ◌≤ℤ◌, Contains}
use Rattle.sign_predicates.specs.Orientation.{Triangle, side}
use Rattle.geo_laws.specs.Delaunay.{point}
use Rattle.geo_laws.specs.Segment.{sides, same_ends}
use Rattle.geo_laws.specs.declared.complex.Piece.{Piece}
use Rattle.geo_laws.proofs.Members.{member_of}
use Rattle.facet_laws.specs.Legs.{IsClear}
use Rattle.facet_laws.proofs.Chains.{all_both, all_sides, all_at}
use Rattle.facet_laws.specs.Passing.{LiesBeside, IsOtherSide, missed, left, entered, FirstSideLaw}
use Rattle.facet_laws.proofs.Common.{law_beside}
use Rattle.facet_laws.proofs.Once.{law_left_once, entered as enters}

pub law_first_side : FirstSideLaw
law_first_side ps f axis polygon s steep has_a has_b x xw fx y yw fy h beside once others off =
    law_beside ps f axis polygon s steep x xw fx y yw fy h beside once
    (all_both (λ r. same_ends s r ≡ false → IsOtherSide ps f polygon x y s r h) (λ r. ((side f (point ps r.a) ≡ pos 0) × (pos 0 ≤ℤ side h.g (point ps r.a))) × ((side f (point ps r.b) ≡ pos 0) × (pos 0 ≤ℤ side h.g (point ps r.b))))
    (λ r. same_ends s r ≡ false → IsClear x y (point ps r.a) (point ps r.b)) (sides polygon) (λ r o c e. clear r (o e) c.0.1 c.1.1) others
    (all_sides (λ i. (side f (point ps i) ≡ pos 0) × (pos 0 ≤ℤ side h.g (point ps i))) polygon beside)) off
  where
    within : (g : Triangle) (i : ℕ) → LiesBeside ps f g polygon → Contains polygon i → pos 0 ≤ℤ side g (point ps i)
    within g i b c = (all_at (λ i. (side f (point ps i) ≡ pos 0) × (pos 0 ≤ℤ side g (point ps i))) i polygon b (member_of polygon i c)).1

    clear : (r : Piece) → IsOtherSide ps f polygon x y s r h → pos 0 ≤ℤ side h.g (point ps r.a) → pos 0 ≤ℤ side h.g (point ps r.b) → IsClear x y (point ps r.a) (point ps r.b)
    clear r (missed c) ha hb = c
    clear r (left k b apart) ha hb =
        absurd (apart (law_left_once (point ps s.a) (point ps s.b) (point ps r.a) (point ps r.b) x xw y yw h k (within k.g s.a b has_a) (within k.g s.b b has_b) ha hb).0)
    clear r (entered k b apart first) ha hb =
        absurd (apart (enters (point ps s.a) (point ps s.b) (point ps r.a) (point ps r.b) x y xw yw h k (within k.g s.a b has_a) (within k.g s.b b has_b) first))
