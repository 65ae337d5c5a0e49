-- Parts whose boxes are apart are properly met.
use Rattle.std.proofs.Common.{◌≡◌, inl, inr, ℕ, ℤ, ◌<ℤ◌, ◌≤ℤ◌, Bool, true, false, List, get_or, refl, sym, subst, ◌∙◌, arith}
use Rattle.std.specs.Prelude.{IsTrue, ◌↔◌}
use Rattle.std.proofs.lemmas.Bool.{false≢true}
use Rattle.std.proofs.lemmas.Int.{ints}
use Rattle.sign_predicates.specs.Point.{Point}
use Rattle.geo_laws.specs.Delaunay.{point}
use Rattle.geo_laws.specs.Simplex.{ProperlyMet, has_number}
use Rattle.simplex_meets.specs.Proper.{CoordinateAxis, AlongX, AlongY, AlongZ, coordinate_along, LiesBelow}
use Rattle.simplex_meets.proofs.Along.{law_apart_along}
use Rattle.box_tree.specs.declared.bounds.Interval.{Interval}
use Rattle.box_tree.specs.declared.bounds.Bounds.{Bounds}
use Rattle.box_tree.specs.Bounds.{IsIn, AreDisjoint, AreBoundsApart, HoldsCorners}
use Rattle.simplex_meets.specs.declared.complex_parts.Compared.{Compared}
use Rattle.simplex_meets.specs.declared.complex_parts.Part.{Part}
use Rattle.simplex_meets.specs.Parts.{part_numbers, is_compared, IsPairMet}
use Rattle.simplex_meets.specs.Boxes.{HoldsPart}
use Rattle.simplex_meets.specs.Pairs.{AreMetAt}

-- whether two parts are properly met, by what they are
pub met_of : (ps : List Point) (p q p' q' : Part) (b : Bool) → p ≡ p' → q ≡ q' → IsTrue b ↔ ProperlyMet ps (part_numbers p') (part_numbers q')
    → IsTrue b ↔ ProperlyMet ps (part_numbers p) (part_numbers q)
met_of ps p q p' q' b is is' met =
    let P : Part → Type 0 = λ u. IsTrue b ↔ ProperlyMet ps (part_numbers u) (part_numbers q) in
    let Q : Part → Type 0 = λ u. IsTrue b ↔ ProperlyMet ps (part_numbers p') (part_numbers u) in
    subst P (sym is) (subst Q (sym is') met)

-- and where they are to be compared
pub compared_met : (compared : Compared) (ps : List Point) (p q : Part) (b : Bool) → is_compared compared ps p q ≡ true
    → IsTrue b ↔ ProperlyMet ps (part_numbers p) (part_numbers q) → IsTrue b ↔ IsPairMet compared ps p q
compared_met compared ps p q b e met = (λ t s. met.0 t, λ m. met.1 (m e))

pub not_compared : (compared : Compared) (ps : List Point) (p q : Part) → is_compared compared ps p q ≡ false → IsTrue true ↔ IsPairMet compared ps p q
not_compared compared ps p q e = (λ t s. absurd (false≢true (sym e ∙ s)), λ m. refl)

past : (a b c : ℤ) → a <ℤ b → b ≤ℤ c → a <ℤ c
past a b c h k = omega (arith, ints)

-- the interval holds the corners' coordinates along the axis
abbrev HoldsAlong : List Point → CoordinateAxis → List ℕ → Interval → Type 0
HoldsAlong ps axis s i = (k : ℕ) → has_number s k ≡ true → IsIn i (coordinate_along axis (point ps k))

below : (ps : List Point) (axis : CoordinateAxis) (s r : List ℕ) (i j : Interval) → HoldsAlong ps axis s i → HoldsAlong ps axis r j
    → i.high <ℤ j.low → LiesBelow ps axis s r
below ps axis s r i j hs hr h = (i.high, λ k is. (hs k is).1, λ k is. past i.high j.low (coordinate_along axis (point ps k)) h (hr k is).0)

-- the simplices in intervals that are apart along an axis
apart_along : (ps : List Point) (axis : CoordinateAxis) (s r : List ℕ) (i j : Interval) → HoldsAlong ps axis s i → HoldsAlong ps axis r j
    → AreDisjoint i j → ProperlyMet ps r s
apart_along ps axis s r i j hs hr (inl h) = (law_apart_along ps axis s r (below ps axis s r i j hs hr h)).1
apart_along ps axis s r i j hs hr (inr h) = (law_apart_along ps axis r s (below ps axis r s j i hr hs h)).0

apart_met : (ps : List Point) (s r : List ℕ) (b c : Bounds) → HoldsCorners ps s b → HoldsCorners ps r c → AreBoundsApart b c
    → ProperlyMet ps r s
apart_met ps s r b c hs hr (inl h) = apart_along ps AlongX s r b.x c.x (λ k is. (hs k is).x) (λ k is. (hr k is).x) h
apart_met ps s r b c hs hr (inr (inl h)) = apart_along ps AlongY s r b.y c.y (λ k is. (hs k is).y) (λ k is. (hr k is).y) h
apart_met ps s r b c hs hr (inr (inr h)) = apart_along ps AlongZ s r b.z c.z (λ k is. (hs k is).z) (λ k is. (hr k is).z) h

pub met_apart : (compared : Compared) (ps : List Point) (parts : List Part) (i j : ℕ) (b c : Bounds) → HoldsPart ps parts i b
    → HoldsPart ps parts j c → AreBoundsApart c b → AreMetAt compared ps parts i j
met_apart compared ps parts i j b c hb hc apart d t = apart_met ps (part_numbers (get_or parts j d)) (part_numbers (get_or parts i d)) c b (hc d) (hb d) apart
