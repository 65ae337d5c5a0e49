-- A leg that passes through inner sides of a facet, or has no common point with any side: both its ends are within the facet, or the same polygons are round
-- both. Of the sides that it passes through one is the first, and the polygon on the near hand of that one is round the leg's start.
use Rattle.std.proofs.Common.{◌≡◌, ◌⊎◌, inl, inr, ℕ, ℤ, pos, ◌-ℤ◌, ◌*ℤ◌, ◌<ℤ◌, ◌≤ℤ◌, Bool, true, false, List, [], ◌∷◌, refl, ap, sym, subst, ◌∙◌, arith, eqb-true}
use Rattle.std.specs.Prelude.{Contains, ◌&&◌, ◌==◌, ◌%◌, ◌≢◌}
use Rattle.std.specs.List.{AllByRecursion}
use Rattle.std.proofs.lemmas.Int.{ints}
use Rattle.exact_algebra.proofs.Ring.{◌⊗◌, var, ring, same}
use Rattle.exact_algebra.proofs.Signs.{by_sign, mul_le, le_of_mul}
use Rattle.sign_predicates.specs.Point.{Point, RationalPoint}
use Rattle.sign_predicates.specs.Orientation.{Triangle, normal, side, side_rational}
use Rattle.geo_laws.specs.Delaunay.{point}
use Rattle.geo_laws.specs.Segment.{sides, same_ends}
use Rattle.geo_laws.specs.Facet.{Facet, Axis, areas, is_on_piece, is_round, is_within}
use Rattle.geo_laws.specs.declared.complex.Piece.{Piece}
use Rattle.geo_laws.proofs.Members.{IsMember, here, there, contains_of, member_of, both_true}
use Rattle.facet_laws.specs.Inner.{HasOnce, IsOffInside}
use Rattle.facet_laws.specs.Legs.{IsWeightedMean, IsClear, dropped}
use Rattle.facet_laws.specs.Passing.{PassesThrough, LiesBeside, IsOtherSide, missed, left, entered}
use Rattle.facet_laws.proofs.Chains.{all_at, all_both, all_members, all_sides, odd_is}
use Rattle.facet_laws.proofs.Common.{either}
use Rattle.facet_laws.proofs.Constant.{all_map}
use Rattle.facet_laws.proofs.First.{law_first_side}
use Rattle.facet_laws.proofs.Hands.{IsInnerIn, Parted, down, up, Passing, beyond_beside}
use Rattle.facet_laws.proofs.Inner.{leg_back, over, side-over, side_rational-over, clear_back, zero_over, above_over, below_over, within}
use Rattle.facet_laws.proofs.RoundHull.{odd_some}
use lib.IntN.{*ℤ_comm}

-- ---- the least of a list

-- a place on a leg, at to_y over to_x of the way
pub record Step : Type 0 where
  pub to_x : ℤ
  pub to_y : ℤ
  pub some : pos 0 <ℤ to_x

-- the first place is not behind the second
abbrev pub NotBehind : Step → Step → Type 0
NotBehind m n = (m.to_y *ℤ n.to_x) ≤ℤ (m.to_x *ℤ n.to_y)

either_first : (m n : Step) → NotBehind m n ⊎ NotBehind n m
either_first m n = go (order (m.to_y *ℤ n.to_x) (m.to_x *ℤ n.to_y))
  where
    order : (a b : ℤ) → (a ≤ℤ b) ⊎ (b ≤ℤ a)
    order a b = by_sign (b -ℤ a) (λ h. inr (omega (arith, ints))) (λ h. inl (omega (arith, ints))) (λ h. inl (omega (arith, ints)))

    go : ((m.to_y *ℤ n.to_x) ≤ℤ (m.to_x *ℤ n.to_y)) ⊎ ((m.to_x *ℤ n.to_y) ≤ℤ (m.to_y *ℤ n.to_x)) → NotBehind m n ⊎ NotBehind n m
    go (inl h) = inl h
    go (inr h) = inr (subst (λ a. a ≤ℤ (n.to_x *ℤ m.to_y)) (*ℤ_comm m.to_x n.to_y) (subst (λ b. (m.to_x *ℤ n.to_y) ≤ℤ b) (*ℤ_comm m.to_y n.to_x) h))

-- by way of a third
pub step_trans : (m n k : Step) → NotBehind m n → NotBehind n k → NotBehind m k
unfolding same
step_trans m n k h l =
    le_of_mul n.to_x (m.to_y *ℤ k.to_x) (m.to_x *ℤ k.to_y) n.some
    (chain _ _ _ _ _ _ (first m.to_y n.to_x k.to_x) (mul_le k.to_x _ _ (weak _ k.some) h) (middle m.to_x n.to_y k.to_x) (mul_le m.to_x _ _ (weak _ m.some) l) (last m.to_x n.to_x k.to_y))
  where
    weak : (n : ℤ) → pos 0 <ℤ n → pos 0 ≤ℤ n
    weak n h = omega (arith, ints)

    first : (a b c : ℤ) → b *ℤ (a *ℤ c) ≡ c *ℤ (a *ℤ b)
    first a b c = ring (var 1 ⊗ (var 0 ⊗ var 2)) (var 2 ⊗ (var 0 ⊗ var 1)) tt (a ∷ b ∷ c ∷ [])

    middle : (a b c : ℤ) → c *ℤ (a *ℤ b) ≡ a *ℤ (b *ℤ c)
    middle a b c = ring (var 2 ⊗ (var 0 ⊗ var 1)) (var 0 ⊗ (var 1 ⊗ var 2)) tt (a ∷ b ∷ c ∷ [])

    last : (a b c : ℤ) → a *ℤ (b *ℤ c) ≡ b *ℤ (a *ℤ c)
    last a b c = ring (var 0 ⊗ (var 1 ⊗ var 2)) (var 1 ⊗ (var 0 ⊗ var 2)) tt (a ∷ b ∷ c ∷ [])

    chain : (a b c d e g : ℤ) → a ≡ b → b ≤ℤ c → c ≡ d → d ≤ℤ e → e ≡ g → a ≤ℤ g
    chain a b c d e g p q r s t = omega (arith, ints)

-- all have what C says, or one of those that have what M says is the first
abbrev pub Least : {A : Type 0} → (C M : A → Type 0) → ((a : A) → M a → Step) → List A → Type 0
Least {A = A} C M step xs = AllByRecursion C xs ⊎ ((a : A) × (m : M a) × IsMember a xs × AllByRecursion (λ b. C b ⊎ ((n : M b) × NotBehind (step a m) (step b n))) xs)

pub least : {A : Type 0} (C M : A → Type 0) (step : (a : A) → M a → Step) (xs : List A) → AllByRecursion (λ a. C a ⊎ M a) xs → Least C M step xs
least C M step [] h = inl tt
least {A = A} C M step (x ∷ xs) h = go h.0 (least C M step xs h.1)
  where
    itself : (n : Step) → NotBehind n n
    itself n = equal _ _ (*ℤ_comm n.to_y n.to_x)
      where
        equal : (a b : ℤ) → a ≡ b → a ≤ℤ b
        equal a b e = omega (arith, ints)

    go : C x ⊎ M x → Least C M step xs → Least C M step (x ∷ xs)
    go (inl c) (inl cs) = inl (c, cs)
    go (inl c) (inr r) = inr (r.0, r.1, there r.2, (inl c, r.3))
    go (inr m) (inl cs) = inr (x, m, here, (inr (m, itself (step x m)), all_map C (λ b. C b ⊎ ((n : M b) × NotBehind (step x m) (step b n))) xs (λ b c. inl c) cs))
    go (inr m) (inr r) = by (either_first (step x m) (step r.0 r.1))
      where
        by : NotBehind (step x m) (step r.0 r.1) ⊎ NotBehind (step r.0 r.1) (step x m) → Least C M step (x ∷ xs)
        by (inl f) = inr (
          x,
          m,
          here,
          (inr (m, itself (step x m)), all_map (λ b. C b ⊎ ((n : M b) × NotBehind (step r.0 r.1) (step b n))) (λ b. C b ⊎ ((n : M b) × NotBehind (step x m) (step b n))) xs (λ b e. later b e) r.3),
        )
          where
            later : (b : A) → C b ⊎ ((n : M b) × NotBehind (step r.0 r.1) (step b n)) → C b ⊎ ((n : M b) × NotBehind (step x m) (step b n))
            later b (inl c) = inl c
            later b (inr n) = inr (n.0, step_trans (step x m) (step r.0 r.1) (step b n.0) f n.1)
        by (inr f) = inr (r.0, r.1, there r.2, (inr (m, f), r.3))

-- ---- the polygon on the near hand

-- the leg passes through the inner side of a polygon
abbrev pub Met : List Point → Triangle → Facet → RationalPoint → RationalPoint → List ℕ → Piece → Type 0
Met ps f facet x y q s = (i : IsInnerIn ps f facet q s) × Passing ps x y s i.g

abbrev pub Status : List Point → Triangle → Facet → RationalPoint → RationalPoint → List ℕ → Piece → Type 0
Status ps f facet x y q s = IsClear x y (point ps s.a) (point ps s.b) ⊎ Met ps f facet x y q s

abbrev pub met_step : (ps : List Point) (f : Triangle) (facet : Facet) (x y : RationalPoint) (q : List ℕ) (s : Piece) → Met ps f facet x y q s → Step
met_step ps f facet x y q s m = record { to_x = m.1.leg.to_x; to_y = m.1.leg.to_y; some = m.1.x_weighs }

-- a polygon that has the side at one place has its ends as corners
pub has_ends : (ps : List Point) (s : Piece) (q : List ℕ) → HasOnce ps s q → Contains q s.a × Contains q s.b
has_ends ps s q h = by (odd_some (λ r. Contains q r.a × Contains q r.b) (same_ends s) (sides q) (all_sides (λ i. Contains q i) q (all_map (λ i. IsMember i q) (λ i. Contains q i) q (λ i m. contains_of q i m) (all_members q)))
    (sym (odd_is (same_ends s) (sides q)) ∙ ap (λ n. n % 2 == 1) h.once))
  where
    by : (r : Piece) × (Contains q r.a × Contains q r.b) × (same_ends s r ≡ true) → Contains q s.a × Contains q s.b
    by e = either (s.a == e.0.a && s.b == e.0.b) (s.a == e.0.b && s.b == e.0.a) e.2
        (λ t. let b = both_true (s.a == e.0.a) (s.b == e.0.b) t in
        (subst (λ i. Contains q i) (sym (eqb-true s.a e.0.a b.0)) e.1.0, subst (λ i. Contains q i) (sym (eqb-true s.b e.0.b b.1)) e.1.1))
        (λ t. let b = both_true (s.a == e.0.b) (s.b == e.0.a) t in
        (subst (λ i. Contains q i) (sym (eqb-true s.a e.0.b b.0)) e.1.1, subst (λ i. Contains q i) (sym (eqb-true s.b e.0.a b.1)) e.1.0))

-- the polygon on the near hand of the first side is round the leg's start
round_near : (ps : List Point) (f : Triangle) (facet : Facet) (axis : Axis) (q : List ℕ) (s : Piece) (x y : RationalPoint) → dropped axis (normal f) ≢ pos 0 → pos 0 <ℤ x.w → pos 0 <ℤ y.w
    → side_rational f x ≡ pos 0 → side_rational f y ≡ pos 0 → (h : PassesThrough x y (point ps s.a) (point ps s.b)) → LiesBeside ps f h.g q → HasOnce ps s q → AllByRecursion (λ r. is_on_piece ps r y ≡ false) (sides q)
    → AllByRecursion (λ r. IsClear x y (point ps r.a) (point ps r.b) ⊎ ((k : Met ps f facet x y q r) × ((h.leg.to_y *ℤ k.1.leg.to_x) ≤ℤ (h.leg.to_x *ℤ k.1.leg.to_y)))) (sides q)
    → is_round ps axis q x ≡ true
round_near ps f facet axis q s x y steep xw yw fx fy h beside has off others =
    (law_first_side ps f axis q s steep (has_ends ps s q has).0 (has_ends ps s q has).1 x xw fx y yw fy h beside has.once
    (all_both (λ r. IsClear x y (point ps r.a) (point ps r.b) ⊎ ((k : Met ps f facet x y q r) × ((h.leg.to_y *ℤ k.1.leg.to_x) ≤ℤ (h.leg.to_x *ℤ k.1.leg.to_y))))
    (λ r. same_ends s r ≡ false → IsOffInside (point ps s.a) (point ps s.b) (point ps r.a) (point ps r.b)) (λ r. same_ends s r ≡ false → IsOtherSide ps f q x y s r h) (sides q) other others has.others) off).0
  where
    other : (r : Piece) → IsClear x y (point ps r.a) (point ps r.b) ⊎ ((k : Met ps f facet x y q r) × ((h.leg.to_y *ℤ k.1.leg.to_x) ≤ℤ (h.leg.to_x *ℤ k.1.leg.to_y)))
        → (same_ends s r ≡ false → IsOffInside (point ps s.a) (point ps s.b) (point ps r.a) (point ps r.b)) → same_ends s r ≡ false → IsOtherSide ps f q x y s r h
    other r (inl c) apart e = missed c
    other r (inr k) apart e = by k.0.1.hands
      where
        by : Parted (side_rational k.0.0.g x) (side_rational k.0.0.g y) → IsOtherSide ps f q x y s r h
        by (down a b) = left (record {
          g = k.0.0.g;
          a_on = k.0.0.a_on;
          b_on = k.0.0.b_on;
          x_side = a;
          y_side = b;
          ends = k.0.0.ends;
          at = k.0.1.at;
          weight = k.0.1.weight;
          leg = k.0.1.leg;
          part = k.0.1.part;
          a_weighs = k.0.1.a_weighs;
          b_weighs = k.0.1.b_weighs;
        }) k.0.0.beside (λ on. apart e k.0.1.at k.0.1.weight on k.0.1.part k.0.1.a_weighs k.0.1.b_weighs)
        by (up a b) = entered (record {
          g = k.0.0.g;
          a_on = k.0.0.a_on;
          b_on = k.0.0.b_on;
          x_side = b;
          y_side = a;
          ends = k.0.0.ends;
          at = k.0.1.at;
          weight = k.0.1.weight;
          leg = leg_back x y k.0.1.at k.0.1.leg;
          part = k.0.1.part;
          a_weighs = k.0.1.a_weighs;
          b_weighs = k.0.1.b_weighs;
        }) k.0.0.beside (λ on. apart e k.0.1.at k.0.1.weight on k.0.1.part k.0.1.a_weighs k.0.1.b_weighs) k.1

-- ---- both ends

abbrev pub AreClear : List Point → Facet → RationalPoint → RationalPoint → Type 0
AreClear ps facet x y = AllByRecursion (λ q. AllByRecursion (λ s. IsClear x y (point ps s.a) (point ps s.b)) (sides q)) (areas facet)

abbrev pub AreDecided : List Point → Triangle → Facet → RationalPoint → RationalPoint → Type 0
AreDecided ps f facet x y = AllByRecursion (λ q. AllByRecursion (Status ps f facet x y q) (sides q)) (areas facet)

abbrev pub AreOff : List Point → Facet → RationalPoint → Type 0
AreOff ps facet x = AllByRecursion (λ q. AllByRecursion (λ s. is_on_piece ps s x ≡ false) (sides q)) (areas facet)

-- the first of a polygon's sides, with its polygon
abbrev FirstOf : List Point → Triangle → Facet → RationalPoint → RationalPoint → List ℕ → Type 0
FirstOf ps f facet x y q = (s : Piece) × (m : Met ps f facet x y q s) × IsMember s (sides q)
    × AllByRecursion (λ r. IsClear x y (point ps r.a) (point ps r.b) ⊎ ((n : Met ps f facet x y q r) × NotBehind (met_step ps f facet x y q s m) (met_step ps f facet x y q r n))) (sides q)

start_within : (ps : List Point) (f : Triangle) (facet : Facet) (axis : Axis) (x y : RationalPoint) → dropped axis (normal f) ≢ pos 0 → pos 0 <ℤ x.w → pos 0 <ℤ y.w
    → side_rational f x ≡ pos 0 → side_rational f y ≡ pos 0 → AreOff ps facet y → AreDecided ps f facet x y → AreClear ps facet x y ⊎ (is_within ps axis facet x ≡ true)
start_within ps f facet axis x y steep xw yw fx fy off decided =
    go (least (λ q. AllByRecursion (λ s. IsClear x y (point ps s.a) (point ps s.b)) (sides q)) (FirstOf ps f facet x y) (λ q m. met_step ps f facet x y q m.0 m.1) (areas facet)
    (all_map (λ q. AllByRecursion (Status ps f facet x y q) (sides q)) (λ q. AllByRecursion (λ s. IsClear x y (point ps s.a) (point ps s.b)) (sides q) ⊎ FirstOf ps f facet x y q) (areas facet)
    (λ q d. least (λ s. IsClear x y (point ps s.a) (point ps s.b)) (Met ps f facet x y q) (met_step ps f facet x y q) (sides q) d) decided))
  where
    go : Least (λ q. AllByRecursion (λ s. IsClear x y (point ps s.a) (point ps s.b)) (sides q)) (FirstOf ps f facet x y) (λ q m. met_step ps f facet x y q m.0 m.1) (areas facet)
        → AreClear ps facet x y ⊎ (is_within ps axis facet x ≡ true)
    go (inl c) = inl c
    go (inr r) = inr (by r.1.1.1.hands)
      where
        i : IsInnerIn ps f facet r.0 r.1.0
        i = r.1.1.0

        p : Passing ps x y r.1.0 r.1.1.0.g
        p = r.1.1.1

        -- no side of any polygon is passed through before it
        others : (n : List ℕ) → IsMember n (areas facet) → AllByRecursion (λ e. IsClear x y (point ps e.a) (point ps e.b) ⊎ ((k : Met ps f facet x y n e) × ((r.1.1.1.leg.to_y *ℤ k.1.leg.to_x) ≤ℤ (r.1.1.1.leg.to_x *ℤ k.1.leg.to_y)))) (sides n)
        others n m = of_polygon (all_at _ n (areas facet) r.3 m)
          where
            of_polygon : AllByRecursion (λ s. IsClear x y (point ps s.a) (point ps s.b)) (sides n) ⊎ ((k : FirstOf ps f facet x y n) × NotBehind (met_step ps f facet x y r.0 r.1.0 r.1.1) (met_step ps f facet x y n k.0 k.1))
                → AllByRecursion (λ e. IsClear x y (point ps e.a) (point ps e.b) ⊎ ((k : Met ps f facet x y n e) × ((r.1.1.1.leg.to_y *ℤ k.1.leg.to_x) ≤ℤ (r.1.1.1.leg.to_x *ℤ k.1.leg.to_y)))) (sides n)
            of_polygon (inl c) = all_map (λ s. IsClear x y (point ps s.a) (point ps s.b)) _ (sides n) (λ e d. inl d) c
            of_polygon (inr k) = all_map (λ e. IsClear x y (point ps e.a) (point ps e.b) ⊎ ((l : Met ps f facet x y n e) × NotBehind (met_step ps f facet x y n k.0.0 k.0.1) (met_step ps f facet x y n e l))) _ (sides n) later k.0.3
              where
                later : (e : Piece) → IsClear x y (point ps e.a) (point ps e.b) ⊎ ((l : Met ps f facet x y n e) × NotBehind (met_step ps f facet x y n k.0.0 k.0.1) (met_step ps f facet x y n e l))
                    → IsClear x y (point ps e.a) (point ps e.b) ⊎ ((l : Met ps f facet x y n e) × ((r.1.1.1.leg.to_y *ℤ l.1.leg.to_x) ≤ℤ (r.1.1.1.leg.to_x *ℤ l.1.leg.to_y)))
                later e (inl c) = inl c
                later e (inr l) = inr (l.0, step_trans (met_step ps f facet x y r.0 r.1.0 r.1.1) (met_step ps f facet x y n k.0.0 k.0.1) (met_step ps f facet x y n e l.0) k.1 l.1)

        other_in : IsMember r.1.1.0.other (areas facet)
        other_in = member_of (areas facet) r.1.1.0.other r.1.1.0.listed

        by : Parted (side_rational r.1.1.0.g x) (side_rational r.1.1.0.g y) → is_within ps axis facet x ≡ true
        by (down a b) = within ps facet axis r.0 x i.no_holes (contains_of (areas facet) r.0 r.2)
            (round_near ps f facet axis r.0 r.1.0 x y steep xw yw fx fy (record {
              g = i.g;
              a_on = i.a_on;
              b_on = i.b_on;
              x_side = a;
              y_side = b;
              ends = i.ends;
              at = p.at;
              weight = p.weight;
              leg = p.leg;
              part = p.part;
              a_weighs = p.a_weighs;
              b_weighs = p.b_weighs;
            }) i.beside i.own (all_at (λ n. AllByRecursion (λ e. is_on_piece ps e y ≡ false) (sides n)) r.0 (areas facet) off r.2) (others r.0 r.2))
        by (up a b) = within ps facet axis i.other x i.no_holes i.listed
            (round_near ps f facet axis i.other r.1.0 x y steep xw yw fx fy (record {
              g = over i.g;
              a_on = zero_over _ (side i.g (point ps r.1.0.a)) (side-over i.g (point ps r.1.0.a)) i.a_on;
              b_on = zero_over _ (side i.g (point ps r.1.0.b)) (side-over i.g (point ps r.1.0.b)) i.b_on;
              x_side = above_over _ (side_rational i.g x) (side_rational-over i.g x) a;
              y_side = below_over _ (side_rational i.g y) (side_rational-over i.g y) b;
              ends = i.ends;
              at = p.at;
              weight = p.weight;
              leg = p.leg;
              part = p.part;
              a_weighs = p.a_weighs;
              b_weighs = p.b_weighs;
            }) (beyond_beside ps f i.g i.other i.beyond) i.others (all_at (λ n. AllByRecursion (λ e. is_on_piece ps e y ≡ false) (sides n)) i.other (areas facet) off other_in) (others i.other other_in))

-- the leg back
status_back : (ps : List Point) (f : Triangle) (facet : Facet) (x y : RationalPoint) (q : List ℕ) (s : Piece) → Status ps f facet x y q s → Status ps f facet y x q s
status_back ps f facet x y q s (inl c) = inl (clear_back x y (point ps s.a) (point ps s.b) c)
status_back ps f facet x y q s (inr m) = inr (
  m.0,
  record {
    at = m.1.at;
    weight = m.1.weight;
    leg = leg_back x y m.1.at m.1.leg;
    part = m.1.part;
    a_weighs = m.1.a_weighs;
    b_weighs = m.1.b_weighs;
    x_weighs = m.1.y_weighs;
    y_weighs = m.1.x_weighs;
    hands = turned m.1.hands;
  },
)
  where
    turned : {a b : ℤ} → Parted a b → Parted b a
    turned (down h k) = up k h
    turned (up h k) = down k h

-- no side is met, or both ends are within
pub through : (ps : List Point) (f : Triangle) (facet : Facet) (axis : Axis) (x y : RationalPoint) → dropped axis (normal f) ≢ pos 0 → pos 0 <ℤ x.w → pos 0 <ℤ y.w
    → side_rational f x ≡ pos 0 → side_rational f y ≡ pos 0 → AreOff ps facet x → AreOff ps facet y → AreDecided ps f facet x y
    → AreClear ps facet x y ⊎ ((is_within ps axis facet x ≡ true) × (is_within ps axis facet y ≡ true))
through ps f facet axis x y steep xw yw fx fy x_off y_off decided =
    go (start_within ps f facet axis x y steep xw yw fx fy y_off decided)
    (start_within ps f facet axis y x steep yw xw fy fx x_off
    (all_map (λ q. AllByRecursion (Status ps f facet x y q) (sides q)) (λ q. AllByRecursion (Status ps f facet y x q) (sides q)) (areas facet)
    (λ q d. all_map (Status ps f facet x y q) (Status ps f facet y x q) (sides q) (λ s e. status_back ps f facet x y q s e) d) decided))
  where
    go : AreClear ps facet x y ⊎ (is_within ps axis facet x ≡ true) → AreClear ps facet y x ⊎ (is_within ps axis facet y ≡ true)
        → AreClear ps facet x y ⊎ ((is_within ps axis facet x ≡ true) × (is_within ps axis facet y ≡ true))
    go (inl c) _ = inl c
    go (inr a) (inl c) = inl (all_map (λ q. AllByRecursion (λ s. IsClear y x (point ps s.a) (point ps s.b)) (sides q)) (λ q. AllByRecursion (λ s. IsClear x y (point ps s.a) (point ps s.b)) (sides q)) (areas facet)
        (λ q d. all_map (λ s. IsClear y x (point ps s.a) (point ps s.b)) (λ s. IsClear x y (point ps s.a) (point ps s.b)) (sides q) (λ s e. clear_back y x (point ps s.a) (point ps s.b) e) d) c)
    go (inr a) (inr b) = inr (a, b)
