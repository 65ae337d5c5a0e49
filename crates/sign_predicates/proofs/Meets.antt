-- When a segment meets a segment or a triangle, as the code decides it.
use Rattle.std.proofs.Common.{◌≡◌, ◌⊎◌, inl, inr, ℤ, pos, neg_ℤ, ◌-ℤ◌, ◌<ℤ◌, ◌≤ℤ◌, refl, sym, subst, ◌∙◌, arith}
use Rattle.std.specs.Prelude.{◌↔◌, IsTrue, Bool, true, false, not}
use Rattle.std.proofs.lemmas.Int.{ints}
use Rattle.exact_algebra.proofs.Signs.{by_sign, sign_of}
use Rattle.sign_predicates.specs.Point.{Point, from_to}
use Rattle.sign_predicates.specs.Orientation.{Triangle, normal, dot, cross, side, orient, SpansPlane}
use Rattle.sign_predicates.specs.Meeting.{segment, TrianglesMeet, SegmentMeetsTriangle}
use Rattle.sign_predicates.specs.Turns.{IsBetween, TurnsAcross, TurnsAbout, PassesWithin, common_normal, IsZeroVector}
use Rattle.sign_predicates.proofs.Shared.{Shared, shared_of, meet_of}
use Rattle.sign_predicates.proofs.Moves.{shared_back, turned_first}
use Rattle.sign_predicates.proofs.Flat.{zero_or_long, long_not_zero, flat_cases, about_shared, OnSides, on_ab, on_bc, on_ca, from_sides}
use Rattle.sign_predicates.proofs.Segments.{EndOn, p_on, q_on, a_on, b_on, end_of, of_end, across_of, of_across, flat_of}
use Rattle.sign_predicates.proofs.Pierce.{pierces, passes_of, above_apart, below_apart}

not_zero_long : (v : Point) → ¬ IsZeroVector v → pos 0 <ℤ dot v v
not_zero_long v off = go (zero_or_long v)
  where
    go : IsZeroVector v ⊎ (pos 0 <ℤ dot v v) → pos 0 <ℤ dot v v
    go (inl z) = absurd (off z)
    go (inr h) = h

pub meets_back : {f g : Triangle} → TrianglesMeet f g → TrianglesMeet g f
meets_back (x, w, (h, k)) = (x, w, (k, h))

-- ---- two segments

pub segments_flat : (p q a b : Point) → SegmentMeetsTriangle p q (segment a b) → orient p q a b ≡ pos 0
segments_flat p q a b h = flat_of p q a b (shared_of (segment p q) (segment a b) h)

pub parallel_meet : (p q a b : Point) → IsZeroVector (common_normal p q a b)
    → (IsBetween a b p ⊎ (IsBetween a b q ⊎ (IsBetween p q a ⊎ IsBetween p q b))) ↔ SegmentMeetsTriangle p q (segment a b)
parallel_meet p q a b z = (λ e. meet_of (segment p q) (segment a b) (of_end p q a b (to e)), λ h. from (end_of p q a b z (shared_of (segment p q) (segment a b) h)))
  where
    to : IsBetween a b p ⊎ (IsBetween a b q ⊎ (IsBetween p q a ⊎ IsBetween p q b)) → EndOn p q a b
    to (inl h) = p_on h
    to (inr (inl h)) = q_on h
    to (inr (inr (inl h))) = a_on h
    to (inr (inr (inr h))) = b_on h

    from : EndOn p q a b → IsBetween a b p ⊎ (IsBetween a b q ⊎ (IsBetween p q a ⊎ IsBetween p q b))
    from (p_on h) = inl h
    from (q_on h) = inr (inl h)
    from (a_on h) = inr (inr (inl h))
    from (b_on h) = inr (inr (inr h))

pub crossing_meet : (p q a b : Point) → orient p q a b ≡ pos 0 → ¬ IsZeroVector (common_normal p q a b) → TurnsAcross p q a b ↔ SegmentMeetsTriangle p q (segment a b)
crossing_meet p q a b e off =
    let long = not_zero_long (common_normal p q a b) off in
    (λ t. meet_of (segment p q) (segment a b) (of_across p q a b e long t), λ h. (across_of p q a b (shared_of (segment p q) (segment a b) h) long).1)

-- ---- a segment and a triangle

pub flat_meet : (f : Triangle) (p q : Point) → side f p ≡ pos 0
    → ((¬ IsZeroVector (normal f) × TurnsAbout f p) ⊎ (SegmentMeetsTriangle p q (segment f.a f.b) ⊎ (SegmentMeetsTriangle p q (segment f.b f.c) ⊎ SegmentMeetsTriangle p q (segment f.c f.a))))
    ↔ SegmentMeetsTriangle p q f
flat_meet f p q e = (to, from)
  where
    by_sides : OnSides f (segment p q) → SegmentMeetsTriangle p q f
    by_sides s = meets_back (meet_of f (segment p q) (from_sides f (segment p q) s))

    shared : (g : Triangle) → SegmentMeetsTriangle p q g → Shared g (segment p q)
    shared g h = shared_back (shared_of (segment p q) g h)

    to : (¬ IsZeroVector (normal f) × TurnsAbout f p) ⊎ (SegmentMeetsTriangle p q (segment f.a f.b) ⊎ (SegmentMeetsTriangle p q (segment f.b f.c) ⊎ SegmentMeetsTriangle p q (segment f.c f.a))) → SegmentMeetsTriangle p q f
    to (inl (off, t)) = meets_back (meet_of f (segment p q) (about_shared f (segment p q) e (not_zero_long (normal f) off) t))
    to (inr (inl h)) = by_sides (on_ab (shared (segment f.a f.b) h))
    to (inr (inr (inl h))) = by_sides (on_bc (shared (segment f.b f.c) h))
    to (inr (inr (inr h))) = by_sides (on_ca (shared (segment f.c f.a) h))

    meets : (g : Triangle) → Shared g (segment p q) → SegmentMeetsTriangle p q g
    meets g h = meets_back (meet_of g (segment p q) h)

    cases : ((pos 0 <ℤ dot (normal f) (normal f)) × TurnsAbout f p) ⊎ OnSides f (segment p q)
        → (¬ IsZeroVector (normal f) × TurnsAbout f p) ⊎ (SegmentMeetsTriangle p q (segment f.a f.b) ⊎ (SegmentMeetsTriangle p q (segment f.b f.c) ⊎ SegmentMeetsTriangle p q (segment f.c f.a)))
    cases (inl (long, t)) = inl (long_not_zero (normal f) long, t)
    cases (inr (on_ab h)) = inr (inl (meets (segment f.a f.b) h))
    cases (inr (on_bc h)) = inr (inr (inl (meets (segment f.b f.c) h)))
    cases (inr (on_ca h)) = inr (inr (inr (meets (segment f.c f.a) h)))

    from : SegmentMeetsTriangle p q f → (¬ IsZeroVector (normal f) × TurnsAbout f p) ⊎ (SegmentMeetsTriangle p q (segment f.a f.b) ⊎ (SegmentMeetsTriangle p q (segment f.b f.c) ⊎ SegmentMeetsTriangle p q (segment f.c f.a)))
    from h = cases (flat_cases f (segment p q) e (shared f h))

pub passing_meet : (f : Triangle) (p q : Point) → pos 0 ≤ℤ side f p → side f q ≤ℤ pos 0 → side f q <ℤ side f p → PassesWithin p q f ↔ SegmentMeetsTriangle p q f
passing_meet f p q hp hq h =
    (λ w. meets_back (meet_of f (segment p q) (pierces f p q hp hq h w)), λ k. passes_of f p q (shared_back (shared_of (segment p q) f k)) h)

-- the ends of a segment may be exchanged
pub turned_meet : (p q : Point) (f : Triangle) → SegmentMeetsTriangle p q f → SegmentMeetsTriangle q p f
turned_meet p q f k = meet_of (segment q p) f (turned_first p q f (shared_of (segment p q) f k))

pub apart_above : (f : Triangle) (p q : Point) → pos 0 <ℤ side f p → pos 0 <ℤ side f q → ¬ SegmentMeetsTriangle p q f
apart_above f p q hp hq h = above_apart f (segment p q) hp hq hq (shared_back (shared_of (segment p q) f h))

pub apart_below : (f : Triangle) (p q : Point) → side f p <ℤ pos 0 → side f q <ℤ pos 0 → ¬ SegmentMeetsTriangle p q f
apart_below f p q hp hq h = below_apart f (segment p q) hp hq hq (shared_back (shared_of (segment p q) f h))

-- ---- tests of the code

-- the parts of the test whether a point lies on a segment
pub between_parts : (a b p u v n : Point) → u ≡ from_to p a → v ≡ from_to p b → n ≡ cross u v → (IsZeroVector n × (dot u v ≤ℤ pos 0)) ↔ IsBetween a b p
between_parts a b p u v n eu ev en =
    let e : n ≡ cross (from_to p a) (from_to p b) = en ∙ (λ t. cross (eu t) (ev t)) in
    let d : dot u v ≡ dot (from_to p a) (from_to p b) = λ t. dot (eu t) (ev t) in (
      λ h. let z = subst IsZeroVector e h.0 in record { x_is = z.x_is; y_is = z.y_is; z_is = z.z_is; opposite = subst (λ r. r ≤ℤ pos 0) d h.1 },
      λ h. (subst IsZeroVector (sym e) (record { x_is = h.x_is; y_is = h.y_is; z_is = h.z_is }), subst (λ r. r ≤ℤ pos 0) (sym d) h.opposite),
    )

pub iff_trans : {A B C : Type 0} → A ↔ B → B ↔ C → A ↔ C
iff_trans f g = (λ a. g.0 (f.0 a), λ c. f.1 (g.1 c))

pub not_true : IsTrue false → ⊥
not_true e = cc

-- ---- by the sides of the two ends

pub fall_back : {s t s' t' : ℤ} → s ≡ s' → t ≡ t' → ((pos 0 ≤ℤ s) × (t ≤ℤ pos 0)) ↔ ((pos 0 ≤ℤ s') × (t' ≤ℤ pos 0))
fall_back {s} {t} {s'} {t'} e d =
    (λ h. (subst (λ z. pos 0 ≤ℤ z) e h.0, subst (λ z. z ≤ℤ pos 0) d h.1), λ h. (subst (λ z. pos 0 ≤ℤ z) (sym e) h.0, subst (λ z. z ≤ℤ pos 0) (sym d) h.1))

pub passing_at : (s t : ℤ) (f : Triangle) (p q : Point) → s ≡ side f p → t ≡ side f q → (pos 0 ≤ℤ s) × (t ≤ℤ pos 0) → (s ≡ t → ⊥) → PassesWithin p q f ↔ SegmentMeetsTriangle p q f
passing_at s t f p q es et h off =
    let hp : pos 0 ≤ℤ side f p = subst (λ z. pos 0 ≤ℤ z) es h.0 in
    let hq : side f q ≤ℤ pos 0 = subst (λ z. z ≤ℤ pos 0) et h.1 in
    passing_meet f p q hp hq (lower (side f p) (side f q) hp hq (λ e. off (es ∙ e ∙ sym et)))
  where
    lower : (a b : ℤ) → pos 0 ≤ℤ a → b ≤ℤ pos 0 → (a ≡ b → ⊥) → b <ℤ a
    lower a b h k off = by_sign (a -ℤ b) (λ l. absurd (omega (arith, ints))) (λ z. absurd (off (omega (arith, ints)))) (λ g. omega (arith, ints))

pub turned_at : (s t : ℤ) (f : Triangle) (p q : Point) → s ≡ side f p → t ≡ side f q → ((pos 0 ≤ℤ s) × (t ≤ℤ pos 0) → ⊥) → (pos 0 ≤ℤ t) × (s ≤ℤ pos 0)
    → PassesWithin q p f ↔ SegmentMeetsTriangle p q f
turned_at s t f p q es et off h =
    iff_trans (passing_at t s f q p et es h (λ e. off (subst (λ z. pos 0 ≤ℤ z) e h.0, subst (λ z. z ≤ℤ pos 0) (sym e) h.1))) (turned_meet q p f, turned_meet p q f)

pub apart_at : (s t : ℤ) (f : Triangle) (p q : Point) → s ≡ side f p → t ≡ side f q → ((pos 0 ≤ℤ s) × (t ≤ℤ pos 0) → ⊥) → ((pos 0 ≤ℤ t) × (s ≤ℤ pos 0) → ⊥)
    → ¬ SegmentMeetsTriangle p q f
apart_at s t f p q es et off back = go (sign_of s) (sign_of t)
  where
    weak : (a : ℤ) → pos 0 <ℤ a → pos 0 ≤ℤ a
    weak a h = omega (arith, ints)

    zero : (a : ℤ) → a ≡ pos 0 → (pos 0 ≤ℤ a) × (a ≤ℤ pos 0)
    zero a e = (omega (arith, ints), omega (arith, ints))

    low : (a : ℤ) → pos 0 <ℤ neg_ℤ a → (a <ℤ pos 0) × (a ≤ℤ pos 0)
    low a h = (omega (arith, ints), omega (arith, ints))

    go : (pos 0 <ℤ s) ⊎ ((s ≡ pos 0) ⊎ (pos 0 <ℤ neg_ℤ s)) → (pos 0 <ℤ t) ⊎ ((t ≡ pos 0) ⊎ (pos 0 <ℤ neg_ℤ t)) → ¬ SegmentMeetsTriangle p q f
    go (inl g) (inl k) = apart_above f p q (subst (λ z. pos 0 <ℤ z) es g) (subst (λ z. pos 0 <ℤ z) et k)
    go (inl g) (inr (inl z)) = absurd (off (weak s g, (zero t z).1))
    go (inl g) (inr (inr l)) = absurd (off (weak s g, (low t l).1))
    go (inr (inl z)) (inl k) = absurd (back (weak t k, (zero s z).1))
    go (inr (inl z)) (inr (inl y)) = absurd (back ((zero t y).0, (zero s z).1))
    go (inr (inl z)) (inr (inr l)) = absurd (off ((zero s z).0, (low t l).1))
    go (inr (inr l)) (inl k) = absurd (back (weak t k, (low s l).1))
    go (inr (inr l)) (inr (inl z)) = absurd (back ((zero t z).0, (low s l).1))
    go (inr (inr l)) (inr (inr k)) = apart_below f p q (subst (λ z. z <ℤ pos 0) es (low s l).0) (subst (λ z. z <ℤ pos 0) et (low t k).0)

-- ---- whether a triangle is on a line

pub spans_of : (b : Bool) (f : Triangle) → IsTrue b ↔ IsZeroVector (normal f) → IsTrue (not b) ↔ SpansPlane f
spans_of true f h = (λ e. absurd (not_true e), λ s. absurd (let z = h.0 refl in s (z.x_is, z.y_is, z.z_is)))
spans_of false f h = (λ _ z. not_true (h.1 (record { x_is = z.0; y_is = z.1; z_is = z.2 })), λ _. refl)
