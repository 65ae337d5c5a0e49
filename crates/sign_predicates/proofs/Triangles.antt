-- Two triangles have a common point where a side of the one has one in the other. Either may lie on a line.
use Rattle.std.proofs.Common.{◌≡◌, ◌⊎◌, inl, inr, ℤ, pos, neg_ℤ, ◌+ℤ◌, ◌<ℤ◌, ◌≤ℤ◌, [], ◌∷◌, subst, ◌∙◌, arith}
use Rattle.std.specs.Prelude.{◌↔◌}
use Rattle.std.specs.List.{AllByRecursion}
use Rattle.std.proofs.lemmas.Int.{ints}
use Rattle.exact_algebra.proofs.Ring.{var, num, ring, same, ◌⊕◌, ◌⊗◌}
use Rattle.exact_algebra.proofs.Signs.{by_sign}
use Rattle.sign_predicates.specs.Orientation.{Triangle, orient, side, dot, normal}
use Rattle.sign_predicates.specs.Meeting.{segment, TrianglesMeet}
use Rattle.sign_predicates.specs.Turns.{TurnsAbout}
use Rattle.sign_predicates.proofs.Exit.{Exit, exit}
use Rattle.sign_predicates.proofs.Shared.{Balance, Shared, sum_of_three, shared_of, meet_of}
use Rattle.sign_predicates.proofs.Moves.{zero_least, changes, shared_back, turned_first}
use Rattle.sign_predicates.proofs.Flat.{OnSides, on_ab, on_bc, on_ca, from_sides, flat_cases, about_shared, left}
use Rattle.sign_predicates.proofs.Segments.{from_a}
use Rattle.sign_predicates.proofs.Pierce.{pierce_balance, pierces, above_apart, below_apart}

-- a side of the one has a common point with the other
pub data BySides (f g : Triangle) : Type 0 where
  by_first : OnSides f g → BySides f g
  by_second : OnSides g f → BySides f g

pub of_by_sides : (f g : Triangle) → BySides f g → Shared f g
of_by_sides f g (by_first s) = from_sides f g s
of_by_sides f g (by_second s) = shared_back (from_sides g f s)

neg_least : (a : ℤ) → a ≤ℤ pos 0 → pos 0 ≤ℤ neg_ℤ a
neg_least a h = omega (arith, ints)

weak : (a : ℤ) → pos 0 <ℤ a → pos 0 ≤ℤ a
weak a h = omega (arith, ints)

low : (a : ℤ) → a <ℤ pos 0 → a ≤ℤ pos 0
low a h = omega (arith, ints)

across : (a b : ℤ) → pos 0 <ℤ a → b ≤ℤ pos 0 → b <ℤ a
across a b h k = omega (arith, ints)

across_low : (a b : ℤ) → pos 0 ≤ℤ a → b <ℤ pos 0 → b <ℤ a
across_low a b h k = omega (arith, ints)

-- ---- the dependence of f and two corners of g, as a balance of f and g

placed_ab : (u w a b c : ℤ) → sum_of_three u w (pos 0) a b b ≡ sum_of_three u w (pos 0) a b c
unfolding same
placed_ab u w a b c = ring (var 0 ⊗ var 2 ⊕ var 1 ⊗ var 3 ⊕ num (pos 0) ⊗ var 3) (var 0 ⊗ var 2 ⊕ var 1 ⊗ var 3 ⊕ num (pos 0) ⊗ var 4) tt (u ∷ w ∷ a ∷ b ∷ c ∷ [])

total_ab : (u w : ℤ) → u +ℤ w +ℤ pos 0 ≡ u +ℤ w +ℤ pos 0
total_ab u w = omega (arith, ints)

balance_ab : (f g : Triangle) → Balance f g (orient f.b f.c g.b g.a) (orient f.c f.a g.b g.a) (orient f.a f.b g.b g.a) (neg_ℤ (side f g.b)) (side f g.a) (pos 0)
balance_ab f g =
    let b = pierce_balance f g.a g.b in
    record {
      total = b.total ∙ total_ab (neg_ℤ (side f g.b)) (side f g.a);
      x_is = b.x_is ∙ placed_ab (neg_ℤ (side f g.b)) (side f g.a) g.a.x g.b.x g.c.x;
      y_is = b.y_is ∙ placed_ab (neg_ℤ (side f g.b)) (side f g.a) g.a.y g.b.y g.c.y;
      z_is = b.z_is ∙ placed_ab (neg_ℤ (side f g.b)) (side f g.a) g.a.z g.b.z g.c.z;
    }

cross_ab : (f g : Triangle) → Shared f g → pos 0 ≤ℤ side f g.a → side f g.b ≤ℤ pos 0 → side f g.b <ℤ side f g.a → BySides f g
cross_ab f g s hp hq h =
    go (exit (changes s.i s.j s.k s.l s.m s.n (orient f.b f.c g.b g.a) (orient f.c f.a g.b g.a) (orient f.a f.b g.b g.a) (neg_ℤ (side f g.b)) (side f g.a) (pos 0))
    (s.common.i_least, (s.common.j_least, (s.common.k_least, (s.common.l_least, (s.common.m_least, (s.common.n_least, tt)))))))
  where
    least : (t a b : ℤ) → t ≡ neg_ℤ b +ℤ a +ℤ pos 0 → b <ℤ a → pos 0 ≤ℤ t
    least t a b e h = omega (arith, ints)

    go : AllByRecursion (λ (e : ℤ × ℤ). pos 0 ≤ℤ e.1) (changes s.i s.j s.k s.l s.m s.n (orient f.b f.c g.b g.a) (orient f.c f.a g.b g.a) (orient f.a f.b g.b g.a) (neg_ℤ (side f g.b)) (side f g.a) (pos 0))
        ⊎ Exit (changes s.i s.j s.k s.l s.m s.n (orient f.b f.c g.b g.a) (orient f.c f.a g.b g.a) (orient f.a f.b g.b g.a) (neg_ℤ (side f g.b)) (side f g.a) (pos 0)) → BySides f g
    go (inl all) = by_second (on_ab (shared_back (pierces f g.a g.b hp hq h (record { a_least = all.0; b_least = all.1.0; c_least = all.1.1.0 }))))
    go (inr x) =
        by_first (left f g s.i s.j s.k s.l s.m s.n (orient f.b f.c g.b g.a) (orient f.c f.a g.b g.a) (orient f.a f.b g.b g.a) (neg_ℤ (side f g.b)) (side f g.a) (pos 0)
        s.common (balance_ab f g) (least _ (side f g.a) (side f g.b) (pierce_balance f g.a g.b).total h) (neg_least (side f g.b) hq) hp zero_least x)

placed_ac : (u w a b c : ℤ) → sum_of_three u w (pos 0) a c c ≡ sum_of_three u (pos 0) w a b c
unfolding same
placed_ac u w a b c = ring (var 0 ⊗ var 2 ⊕ var 1 ⊗ var 4 ⊕ num (pos 0) ⊗ var 4) (var 0 ⊗ var 2 ⊕ num (pos 0) ⊗ var 3 ⊕ var 1 ⊗ var 4) tt (u ∷ w ∷ a ∷ b ∷ c ∷ [])

total_ac : (u w : ℤ) → u +ℤ w +ℤ pos 0 ≡ u +ℤ pos 0 +ℤ w
total_ac u w = omega (arith, ints)

balance_ac : (f g : Triangle) → Balance f g (orient f.b f.c g.c g.a) (orient f.c f.a g.c g.a) (orient f.a f.b g.c g.a) (neg_ℤ (side f g.c)) (pos 0) (side f g.a)
balance_ac f g =
    let b = pierce_balance f g.a g.c in
    record {
      total = b.total ∙ total_ac (neg_ℤ (side f g.c)) (side f g.a);
      x_is = b.x_is ∙ placed_ac (neg_ℤ (side f g.c)) (side f g.a) g.a.x g.b.x g.c.x;
      y_is = b.y_is ∙ placed_ac (neg_ℤ (side f g.c)) (side f g.a) g.a.y g.b.y g.c.y;
      z_is = b.z_is ∙ placed_ac (neg_ℤ (side f g.c)) (side f g.a) g.a.z g.b.z g.c.z;
    }

cross_ac : (f g : Triangle) → Shared f g → pos 0 ≤ℤ side f g.a → side f g.c ≤ℤ pos 0 → side f g.c <ℤ side f g.a → BySides f g
cross_ac f g s hp hq h =
    go (exit (changes s.i s.j s.k s.l s.m s.n (orient f.b f.c g.c g.a) (orient f.c f.a g.c g.a) (orient f.a f.b g.c g.a) (neg_ℤ (side f g.c)) (pos 0) (side f g.a))
    (s.common.i_least, (s.common.j_least, (s.common.k_least, (s.common.l_least, (s.common.m_least, (s.common.n_least, tt)))))))
  where
    least : (t a b : ℤ) → t ≡ neg_ℤ b +ℤ a +ℤ pos 0 → b <ℤ a → pos 0 ≤ℤ t
    least t a b e h = omega (arith, ints)

    go : AllByRecursion (λ (e : ℤ × ℤ). pos 0 ≤ℤ e.1) (changes s.i s.j s.k s.l s.m s.n (orient f.b f.c g.c g.a) (orient f.c f.a g.c g.a) (orient f.a f.b g.c g.a) (neg_ℤ (side f g.c)) (pos 0) (side f g.a))
        ⊎ Exit (changes s.i s.j s.k s.l s.m s.n (orient f.b f.c g.c g.a) (orient f.c f.a g.c g.a) (orient f.a f.b g.c g.a) (neg_ℤ (side f g.c)) (pos 0) (side f g.a)) → BySides f g
    go (inl all) = by_second (on_ca (turned_first g.a g.c f (shared_back (pierces f g.a g.c hp hq h (record { a_least = all.0; b_least = all.1.0; c_least = all.1.1.0 })))))
    go (inr x) =
        by_first (left f g s.i s.j s.k s.l s.m s.n (orient f.b f.c g.c g.a) (orient f.c f.a g.c g.a) (orient f.a f.b g.c g.a) (neg_ℤ (side f g.c)) (pos 0) (side f g.a)
        s.common (balance_ac f g) (least _ (side f g.a) (side f g.c) (pierce_balance f g.a g.c).total h) (neg_least (side f g.c) hq) zero_least hp x)

placed_ba : (u w a b c : ℤ) → sum_of_three u w (pos 0) b a a ≡ sum_of_three w u (pos 0) a b c
unfolding same
placed_ba u w a b c = ring (var 0 ⊗ var 3 ⊕ var 1 ⊗ var 2 ⊕ num (pos 0) ⊗ var 2) (var 1 ⊗ var 2 ⊕ var 0 ⊗ var 3 ⊕ num (pos 0) ⊗ var 4) tt (u ∷ w ∷ a ∷ b ∷ c ∷ [])

total_ba : (u w : ℤ) → u +ℤ w +ℤ pos 0 ≡ w +ℤ u +ℤ pos 0
total_ba u w = omega (arith, ints)

balance_ba : (f g : Triangle) → Balance f g (orient f.b f.c g.a g.b) (orient f.c f.a g.a g.b) (orient f.a f.b g.a g.b) (side f g.b) (neg_ℤ (side f g.a)) (pos 0)
balance_ba f g =
    let b = pierce_balance f g.b g.a in
    record {
      total = b.total ∙ total_ba (neg_ℤ (side f g.a)) (side f g.b);
      x_is = b.x_is ∙ placed_ba (neg_ℤ (side f g.a)) (side f g.b) g.a.x g.b.x g.c.x;
      y_is = b.y_is ∙ placed_ba (neg_ℤ (side f g.a)) (side f g.b) g.a.y g.b.y g.c.y;
      z_is = b.z_is ∙ placed_ba (neg_ℤ (side f g.a)) (side f g.b) g.a.z g.b.z g.c.z;
    }

cross_ba : (f g : Triangle) → Shared f g → pos 0 ≤ℤ side f g.b → side f g.a ≤ℤ pos 0 → side f g.a <ℤ side f g.b → BySides f g
cross_ba f g s hp hq h =
    go (exit (changes s.i s.j s.k s.l s.m s.n (orient f.b f.c g.a g.b) (orient f.c f.a g.a g.b) (orient f.a f.b g.a g.b) (side f g.b) (neg_ℤ (side f g.a)) (pos 0))
    (s.common.i_least, (s.common.j_least, (s.common.k_least, (s.common.l_least, (s.common.m_least, (s.common.n_least, tt)))))))
  where
    least : (t a b : ℤ) → t ≡ neg_ℤ b +ℤ a +ℤ pos 0 → b <ℤ a → pos 0 ≤ℤ t
    least t a b e h = omega (arith, ints)

    go : AllByRecursion (λ (e : ℤ × ℤ). pos 0 ≤ℤ e.1) (changes s.i s.j s.k s.l s.m s.n (orient f.b f.c g.a g.b) (orient f.c f.a g.a g.b) (orient f.a f.b g.a g.b) (side f g.b) (neg_ℤ (side f g.a)) (pos 0))
        ⊎ Exit (changes s.i s.j s.k s.l s.m s.n (orient f.b f.c g.a g.b) (orient f.c f.a g.a g.b) (orient f.a f.b g.a g.b) (side f g.b) (neg_ℤ (side f g.a)) (pos 0)) → BySides f g
    go (inl all) = by_second (on_ab (turned_first g.b g.a f (shared_back (pierces f g.b g.a hp hq h (record { a_least = all.0; b_least = all.1.0; c_least = all.1.1.0 })))))
    go (inr x) =
        by_first (left f g s.i s.j s.k s.l s.m s.n (orient f.b f.c g.a g.b) (orient f.c f.a g.a g.b) (orient f.a f.b g.a g.b) (side f g.b) (neg_ℤ (side f g.a)) (pos 0)
        s.common (balance_ba f g) (least _ (side f g.b) (side f g.a) (pierce_balance f g.b g.a).total h) hp (neg_least (side f g.a) hq) zero_least x)

placed_ca : (u w a b c : ℤ) → sum_of_three u w (pos 0) c a a ≡ sum_of_three w (pos 0) u a b c
unfolding same
placed_ca u w a b c = ring (var 0 ⊗ var 4 ⊕ var 1 ⊗ var 2 ⊕ num (pos 0) ⊗ var 2) (var 1 ⊗ var 2 ⊕ num (pos 0) ⊗ var 3 ⊕ var 0 ⊗ var 4) tt (u ∷ w ∷ a ∷ b ∷ c ∷ [])

total_ca : (u w : ℤ) → u +ℤ w +ℤ pos 0 ≡ w +ℤ pos 0 +ℤ u
total_ca u w = omega (arith, ints)

balance_ca : (f g : Triangle) → Balance f g (orient f.b f.c g.a g.c) (orient f.c f.a g.a g.c) (orient f.a f.b g.a g.c) (side f g.c) (pos 0) (neg_ℤ (side f g.a))
balance_ca f g =
    let b = pierce_balance f g.c g.a in
    record {
      total = b.total ∙ total_ca (neg_ℤ (side f g.a)) (side f g.c);
      x_is = b.x_is ∙ placed_ca (neg_ℤ (side f g.a)) (side f g.c) g.a.x g.b.x g.c.x;
      y_is = b.y_is ∙ placed_ca (neg_ℤ (side f g.a)) (side f g.c) g.a.y g.b.y g.c.y;
      z_is = b.z_is ∙ placed_ca (neg_ℤ (side f g.a)) (side f g.c) g.a.z g.b.z g.c.z;
    }

cross_ca : (f g : Triangle) → Shared f g → pos 0 ≤ℤ side f g.c → side f g.a ≤ℤ pos 0 → side f g.a <ℤ side f g.c → BySides f g
cross_ca f g s hp hq h =
    go (exit (changes s.i s.j s.k s.l s.m s.n (orient f.b f.c g.a g.c) (orient f.c f.a g.a g.c) (orient f.a f.b g.a g.c) (side f g.c) (pos 0) (neg_ℤ (side f g.a)))
    (s.common.i_least, (s.common.j_least, (s.common.k_least, (s.common.l_least, (s.common.m_least, (s.common.n_least, tt)))))))
  where
    least : (t a b : ℤ) → t ≡ neg_ℤ b +ℤ a +ℤ pos 0 → b <ℤ a → pos 0 ≤ℤ t
    least t a b e h = omega (arith, ints)

    go : AllByRecursion (λ (e : ℤ × ℤ). pos 0 ≤ℤ e.1) (changes s.i s.j s.k s.l s.m s.n (orient f.b f.c g.a g.c) (orient f.c f.a g.a g.c) (orient f.a f.b g.a g.c) (side f g.c) (pos 0) (neg_ℤ (side f g.a)))
        ⊎ Exit (changes s.i s.j s.k s.l s.m s.n (orient f.b f.c g.a g.c) (orient f.c f.a g.a g.c) (orient f.a f.b g.a g.c) (side f g.c) (pos 0) (neg_ℤ (side f g.a))) → BySides f g
    go (inl all) = by_second (on_ca (shared_back (pierces f g.c g.a hp hq h (record { a_least = all.0; b_least = all.1.0; c_least = all.1.1.0 }))))
    go (inr x) =
        by_first (left f g s.i s.j s.k s.l s.m s.n (orient f.b f.c g.a g.c) (orient f.c f.a g.a g.c) (orient f.a f.b g.a g.c) (side f g.c) (pos 0) (neg_ℤ (side f g.a))
        s.common (balance_ca f g) (least _ (side f g.c) (side f g.a) (pierce_balance f g.c g.a).total h) hp zero_least (neg_least (side f g.a) hq) x)

-- ---- all cases

by_sides : (f g : Triangle) → Shared f g → BySides f g
by_sides f g s = by_sign (side f g.a) below (λ z. on z (flat_cases f g z s)) above
  where
    on : side f g.a ≡ pos 0 → ((pos 0 <ℤ dot (normal f) (normal f)) × TurnsAbout f g.a) ⊎ OnSides f g → BySides f g
    on z (inr h) = by_first h
    on z (inl (long, t)) = by_second (on_ab (from_a (segment g.a g.b) f (shared_back (about_shared f (segment g.a g.a) z long t))))

    above : pos 0 <ℤ side f g.a → BySides f g
    above h = by_sign (side f g.b) (λ l. to_b (low _ l)) (λ z. to_b (omega (arith, ints))) (λ k. by_sign (side f g.c) (λ l. to_c (low _ l)) (λ z. to_c (omega (arith, ints))) (λ m. absurd (above_apart f g h k m s)))
      where
        to_b : side f g.b ≤ℤ pos 0 → BySides f g
        to_b l = cross_ab f g s (weak _ h) l (across _ _ h l)

        to_c : side f g.c ≤ℤ pos 0 → BySides f g
        to_c l = cross_ac f g s (weak _ h) l (across _ _ h l)

    below : side f g.a <ℤ pos 0 → BySides f g
    below h = by_sign (side f g.b)
        (λ k. by_sign (side f g.c) (λ m. absurd (below_apart f g h k m s)) (λ z. to_c (omega (arith, ints))) (λ l. to_c (weak _ l)))
        (λ z. to_b (omega (arith, ints))) (λ l. to_b (weak _ l))
      where
        to_b : pos 0 ≤ℤ side f g.b → BySides f g
        to_b l = cross_ba f g s l (low _ h) (across_low _ _ l h)

        to_c : pos 0 ≤ℤ side f g.c → BySides f g
        to_c l = cross_ca f g s l (low _ h) (across_low _ _ l h)

-- two triangles meet where a side of the one meets the other
pub sides_meet : (f g : Triangle)
    → ((TrianglesMeet (segment f.a f.b) g ⊎ (TrianglesMeet (segment f.b f.c) g ⊎ TrianglesMeet (segment f.c f.a) g))
    ⊎ (TrianglesMeet (segment g.a g.b) f ⊎ (TrianglesMeet (segment g.b g.c) f ⊎ TrianglesMeet (segment g.c g.a) f)))
    ↔ TrianglesMeet f g
sides_meet f g = (λ h. meet_of f g (of_by_sides f g (to h)), λ h. from (by_sides f g (shared_of f g h)))
  where
    side_of : (f g : Triangle) → TrianglesMeet (segment f.a f.b) g ⊎ (TrianglesMeet (segment f.b f.c) g ⊎ TrianglesMeet (segment f.c f.a) g) → OnSides f g
    side_of f g (inl h) = on_ab (shared_of (segment f.a f.b) g h)
    side_of f g (inr (inl h)) = on_bc (shared_of (segment f.b f.c) g h)
    side_of f g (inr (inr h)) = on_ca (shared_of (segment f.c f.a) g h)

    of_side : (f g : Triangle) → OnSides f g → TrianglesMeet (segment f.a f.b) g ⊎ (TrianglesMeet (segment f.b f.c) g ⊎ TrianglesMeet (segment f.c f.a) g)
    of_side f g (on_ab h) = inl (meet_of (segment f.a f.b) g h)
    of_side f g (on_bc h) = inr (inl (meet_of (segment f.b f.c) g h))
    of_side f g (on_ca h) = inr (inr (meet_of (segment f.c f.a) g h))

    to : (TrianglesMeet (segment f.a f.b) g ⊎ (TrianglesMeet (segment f.b f.c) g ⊎ TrianglesMeet (segment f.c f.a) g))
        ⊎ (TrianglesMeet (segment g.a g.b) f ⊎ (TrianglesMeet (segment g.b g.c) f ⊎ TrianglesMeet (segment g.c g.a) f)) → BySides f g
    to (inl h) = by_first (side_of f g h)
    to (inr h) = by_second (side_of g f h)

    from : BySides f g → (TrianglesMeet (segment f.a f.b) g ⊎ (TrianglesMeet (segment f.b f.c) g ⊎ TrianglesMeet (segment f.c f.a) g))
        ⊎ (TrianglesMeet (segment g.a g.b) f ⊎ (TrianglesMeet (segment g.b g.c) f ⊎ TrianglesMeet (segment g.c g.a) f))
    from (by_first h) = inl (of_side f g h)
    from (by_second h) = inr (of_side g f h)

-- a triangle on one side of the other's plane doesn't meet it
pub one_side : (f g : Triangle) {x y z : ℤ} → x ≡ side f g.a → y ≡ side f g.b → z ≡ side f g.c
    → ((pos 0 <ℤ x) × (pos 0 <ℤ y) × (pos 0 <ℤ z)) ⊎ ((x <ℤ pos 0) × (y <ℤ pos 0) × (z <ℤ pos 0)) → ¬ TrianglesMeet f g
one_side f g ex ey ez (inl h) m =
    above_apart f g (subst (λ v. pos 0 <ℤ v) ex h.0) (subst (λ v. pos 0 <ℤ v) ey h.1) (subst (λ v. pos 0 <ℤ v) ez h.2) (shared_of f g m)
one_side f g ex ey ez (inr h) m =
    below_apart f g (subst (λ v. v <ℤ pos 0) ex h.0) (subst (λ v. v <ℤ pos 0) ey h.1) (subst (λ v. v <ℤ pos 0) ez h.2) (shared_of f g m)
