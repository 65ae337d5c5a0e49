-- Boxes in boxes, and boxes of corners.
use Rattle.std.proofs.Common.{◌≡◌, ◌⊎◌, inl, inr, ℕ, ℤ, ◌<ℤ◌, ◌≤ℤ◌, true, false, Bool, ◌||◌, List, [], ◌∷◌, refl, subst, arith, eqb-true}
use Rattle.std.specs.Prelude.{◌==◌}
use Rattle.std.proofs.lemmas.Int.{ints}
use Rattle.sign_predicates.specs.Point.{Point}
use Rattle.geo_laws.specs.Delaunay.{point}
use Rattle.geo_laws.specs.Simplex.{has_number}
use Rattle.box_tree.specs.declared.bounds.Interval.{Interval}
use Rattle.box_tree.specs.declared.bounds.Bounds.{Bounds}
use Rattle.box_tree.specs.Bounds.{IsIn, AreDisjoint, AreBoundsApart, IsSubinterval, IsBoxWithin, HoldsPoint, HoldsCorners}

-- ---- boxes in boxes

in_larger : (i j : Interval) (z : ℤ) → IsSubinterval i j → IsIn i z → IsIn j z
in_larger i j z p h = go i.low i.high j.low j.high p h
  where
    go : (a b c d : ℤ) → (c ≤ℤ a) × (b ≤ℤ d) → (a ≤ℤ z) × (z ≤ℤ b) → (c ≤ℤ z) × (z ≤ℤ d)
    go a b c d p h = (omega (arith, ints), omega (arith, ints))

pub held_larger : (b c : Bounds) (p : Point) → IsBoxWithin b c → HoldsPoint b p → HoldsPoint c p
held_larger b c p w h = record { x = in_larger b.x c.x p.x w.x h.x; y = in_larger b.y c.y p.y w.y h.y; z = in_larger b.z c.z p.z w.z h.z }

apart_smaller : (i j k : Interval) → IsSubinterval i j → AreDisjoint j k → AreDisjoint i k
apart_smaller i j k p (inl h) = inl (go i.high j.high k.low p.1 h)
  where
    go : (a b c : ℤ) → a ≤ℤ b → b <ℤ c → a <ℤ c
    go a b c p h = omega (arith, ints)
apart_smaller i j k p (inr h) = inr (go k.high j.low i.low h p.0)
  where
    go : (a b c : ℤ) → a <ℤ b → b ≤ℤ c → a <ℤ c
    go a b c p h = omega (arith, ints)

-- what is apart from a box is apart from those in it
pub bounds_apart_smaller : (b c d : Bounds) → IsBoxWithin b c → AreBoundsApart c d → AreBoundsApart b d
bounds_apart_smaller b c d w (inl h) = inl (apart_smaller b.x c.x d.x w.x h)
bounds_apart_smaller b c d w (inr (inl h)) = inr (inl (apart_smaller b.y c.y d.y w.y h))
bounds_apart_smaller b c d w (inr (inr h)) = inr (inr (apart_smaller b.z c.z d.z w.z h))

part_more : (i j k : Interval) → IsSubinterval i j → IsSubinterval j k → IsSubinterval i k
part_more i j k p q = go i.low i.high j.low j.high k.low k.high p q
  where
    go : (a b c d e f : ℤ) → (c ≤ℤ a) × (b ≤ℤ d) → (e ≤ℤ c) × (d ≤ℤ f) → (e ≤ℤ a) × (b ≤ℤ f)
    go a b c d e f p q = (omega (arith, ints), omega (arith, ints))

pub within_more : (b c d : Bounds) → IsBoxWithin b c → IsBoxWithin c d → IsBoxWithin b d
within_more b c d p q = record { x = part_more b.x c.x d.x p.x q.x; y = part_more b.y c.y d.y p.y q.y; z = part_more b.z c.z d.z p.z q.z }

part_self : (i : Interval) → IsSubinterval i i
part_self i = go i.low i.high
  where
    go : (a b : ℤ) → (a ≤ℤ a) × (b ≤ℤ b)
    go a b = (omega (arith, ints), omega (arith, ints))

pub within_self : (b : Bounds) → IsBoxWithin b b
within_self b = record { x = part_self b.x; y = part_self b.y; z = part_self b.z }

-- ---- corners

pub holds_none : (ps : List Point) (b : Bounds) → HoldsCorners ps [] b
holds_none ps b i h = absurd (let g : false ≡ true = h in cc)

pub holds_more : (ps : List Point) (b : Bounds) (a : ℕ) (s : List ℕ) → HoldsPoint b (point ps a) → HoldsCorners ps s b → HoldsCorners ps (a ∷ s) b
holds_more ps b a s p h i m = go (either (a == i) (has_number s i) m)
  where
    either : (u v : Bool) → u || v ≡ true → (u ≡ true) ⊎ (v ≡ true)
    either true v e = inl refl
    either false v e = inr e

    go : ((a == i) ≡ true) ⊎ (has_number s i ≡ true) → HoldsPoint b (point ps i)
    go (inl e) = subst (λ k. HoldsPoint b (point ps k)) (eqb-true a i e) p
    go (inr e) = h i e
