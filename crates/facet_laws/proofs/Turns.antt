-- Passing through a side, in two coordinates.
use Rattle.std.proofs.Common.{[], ◌∷◌, ◌≡◌, arith}
use Rattle.std.proofs.lemmas.Int.{ints}
use Rattle.std.specs.Prelude.{ℤ, pos, neg_ℤ, ◌+ℤ◌, ◌-ℤ◌, ◌*ℤ◌, ◌<ℤ◌}
use Rattle.exact_algebra.proofs.Signs.{mul_pos, by_sign, opposite_pos, opposite_neg, opposite_zero}
use Rattle.exact_algebra.proofs.Ring.{num, var, neg, ring_given, given, same, ◌⊕◌, ◌⊖◌, ◌⊗◌}
use Rattle.facet_laws.specs.Parity.{Spot, spot_turn}
use Rattle.facet_laws.proofs.SpotTerms.{SpotE, spotE, turnE, of_spot, weight-joined}

-- the turn of a point of a leg is the mean of those of its ends
abbrev X : SpotE
X = spotE 0

abbrev Y : SpotE
Y = spotE 3

abbrev P : SpotE
P = spotE 6

abbrev Q : SpotE
Q = spotE 9

-- from m x + n y = t z = .. : m (x p q) + n (y p q) = 0, where z lies on the line through p and q
pub turns_cancel : (x y p q : Spot) (m n k l c d : ℤ)
    → c *ℤ (m *ℤ x.first +ℤ n *ℤ y.first) ≡ d *ℤ (k *ℤ p.first +ℤ l *ℤ q.first)
    → c *ℤ (m *ℤ x.second +ℤ n *ℤ y.second) ≡ d *ℤ (k *ℤ p.second +ℤ l *ℤ q.second)
    → c *ℤ (m *ℤ x.weight +ℤ n *ℤ y.weight) ≡ d *ℤ (k *ℤ p.weight +ℤ l *ℤ q.weight)
    → c *ℤ (m *ℤ spot_turn x p q +ℤ n *ℤ spot_turn y p q) ≡ pos 0
unfolding same spot_turn
turns_cancel x y p q m n k l c d e f g =
    ring_given (var 16 ⊗ (var 12 ⊗ turnE X P Q ⊕ var 13 ⊗ turnE Y P Q)) (num (pos 0))
    (given (P.second ⊗ Q.weight ⊖ P.weight ⊗ Q.second) (var 16 ⊗ (var 12 ⊗ X.first ⊕ var 13 ⊗ Y.first)) (var 17 ⊗ (var 14 ⊗ P.first ⊕ var 15 ⊗ Q.first))
    ∷ given (neg (P.first ⊗ Q.weight ⊖ P.weight ⊗ Q.first)) (var 16 ⊗ (var 12 ⊗ X.second ⊕ var 13 ⊗ Y.second)) (var 17 ⊗ (var 14 ⊗ P.second ⊕ var 15 ⊗ Q.second))
    ∷ given (P.first ⊗ Q.second ⊖ P.second ⊗ Q.first) (var 16 ⊗ (var 12 ⊗ X.weight ⊕ var 13 ⊗ Y.weight)) (var 17 ⊗ (var 14 ⊗ P.weight ⊕ var 15 ⊗ Q.weight)) ∷ [])
    tt (of_spot x (of_spot y (of_spot p (of_spot q (m ∷ n ∷ k ∷ l ∷ c ∷ d ∷ []))))) (e, (f, (g, tt)))

-- and likewise for the ends of the side
pub turns_cancel' : (x y p q : Spot) (m n k l c d : ℤ)
    → c *ℤ (m *ℤ x.first +ℤ n *ℤ y.first) ≡ d *ℤ (k *ℤ p.first +ℤ l *ℤ q.first)
    → c *ℤ (m *ℤ x.second +ℤ n *ℤ y.second) ≡ d *ℤ (k *ℤ p.second +ℤ l *ℤ q.second)
    → c *ℤ (m *ℤ x.weight +ℤ n *ℤ y.weight) ≡ d *ℤ (k *ℤ p.weight +ℤ l *ℤ q.weight)
    → d *ℤ (k *ℤ spot_turn x y p +ℤ l *ℤ spot_turn x y q) ≡ pos 0
unfolding same spot_turn
turns_cancel' x y p q m n k l c d e f g =
    ring_given (var 17 ⊗ (var 14 ⊗ turnE X Y P ⊕ var 15 ⊗ turnE X Y Q)) (num (pos 0))
    (given (neg (X.second ⊗ Y.weight ⊖ X.weight ⊗ Y.second)) (var 16 ⊗ (var 12 ⊗ X.first ⊕ var 13 ⊗ Y.first)) (var 17 ⊗ (var 14 ⊗ P.first ⊕ var 15 ⊗ Q.first))
    ∷ given (X.first ⊗ Y.weight ⊖ X.weight ⊗ Y.first) (var 16 ⊗ (var 12 ⊗ X.second ⊕ var 13 ⊗ Y.second)) (var 17 ⊗ (var 14 ⊗ P.second ⊕ var 15 ⊗ Q.second))
    ∷ given (neg (X.first ⊗ Y.second ⊖ X.second ⊗ Y.first)) (var 16 ⊗ (var 12 ⊗ X.weight ⊕ var 13 ⊗ Y.weight)) (var 17 ⊗ (var 14 ⊗ P.weight ⊕ var 15 ⊗ Q.weight)) ∷ [])
    tt (of_spot x (of_spot y (of_spot p (of_spot q (m ∷ n ∷ k ∷ l ∷ c ∷ d ∷ []))))) (e, (f, (g, tt)))

-- the signs of the other two turns
pub other_signs : (x y p q : Spot) (k l : ℤ) → pos 0 <ℤ x.weight → pos 0 <ℤ y.weight → p.weight ≡ pos 1 → q.weight ≡ pos 1 → pos 0 <ℤ k → pos 0 <ℤ l
    → pos 0 <ℤ spot_turn x p q → spot_turn y p q <ℤ pos 0 → k *ℤ spot_turn x y p +ℤ l *ℤ spot_turn x y q ≡ pos 0
    → (spot_turn x y p <ℤ pos 0) × (pos 0 <ℤ spot_turn x y q)
unfolding same
other_signs x y p q k l wx wy wp wq hk hl a b e =
    let above = more (spot_turn y p q) (spot_turn x p q) x.weight y.weight b a wx wy in
    let sum = one (spot_turn x y q) (spot_turn x y p) p.weight q.weight _ wp wq (weight-joined x y p q) in
    by_sign (spot_turn x y p)
    (λ n. (n, opposite_neg k l _ _ hk hl e n))
    (λ z. absurd (flat (spot_turn x y q) (spot_turn x y p) _ (opposite_zero k l _ _ hk hl e z) z sum above))
    (λ g. absurd (wrong (spot_turn x y q) (spot_turn x y p) _ (opposite_pos k l _ _ hk hl e g) g sum above))
  where
    more : (m n v w : ℤ) → m <ℤ pos 0 → pos 0 <ℤ n → pos 0 <ℤ v → pos 0 <ℤ w → pos 0 <ℤ (neg_ℤ m *ℤ v +ℤ n *ℤ w)
    more m n v w hm hn hv hw = omega (arith, ints, mul_pos (neg_ℤ m) v (omega (arith, ints)) hv, mul_pos n w hn hw)

    one : (d c m n s : ℤ) → m ≡ pos 1 → n ≡ pos 1 → d *ℤ m +ℤ neg_ℤ c *ℤ n ≡ s → d -ℤ c ≡ s
    one d c m n s em en e =
        ring_given (var 0 ⊖ var 1) (var 4)
        (given (num (pos 1)) (var 0 ⊗ var 2 ⊕ neg (var 1) ⊗ var 3) (var 4) ∷ given (neg (var 0)) (var 2) (num (pos 1)) ∷ given (var 1) (var 3) (num (pos 1)) ∷ [])
        tt (d ∷ c ∷ m ∷ n ∷ s ∷ []) (e, (em, (en, tt)))

    flat : (d c s : ℤ) → d ≡ pos 0 → c ≡ pos 0 → d -ℤ c ≡ s → pos 0 <ℤ s → ⊥
    flat d c s e f g h = omega (arith, ints)

    wrong : (d c s : ℤ) → d <ℤ pos 0 → pos 0 <ℤ c → d -ℤ c ≡ s → pos 0 <ℤ s → ⊥
    wrong d c s e f g h = omega (arith, ints)

-- a point on the line through two points of a plane, by two coordinates, lies in each plane that holds the two
pub on_line_first : (f1 f2 f3 fo g1 g2 g3 go x1 x2 x3 xw p1 p2 p3 q1 q2 q3 : ℤ)
    → f1 *ℤ x1 +ℤ (f2 *ℤ x2 +ℤ (f3 *ℤ x3 +ℤ fo *ℤ xw)) ≡ pos 0
    → f1 *ℤ p1 +ℤ (f2 *ℤ p2 +ℤ (f3 *ℤ p3 +ℤ fo *ℤ pos 1)) ≡ pos 0
    → f1 *ℤ q1 +ℤ (f2 *ℤ q2 +ℤ (f3 *ℤ q3 +ℤ fo *ℤ pos 1)) ≡ pos 0
    → g1 *ℤ p1 +ℤ (g2 *ℤ p2 +ℤ (g3 *ℤ p3 +ℤ go *ℤ pos 1)) ≡ pos 0
    → g1 *ℤ q1 +ℤ (g2 *ℤ q2 +ℤ (g3 *ℤ q3 +ℤ go *ℤ pos 1)) ≡ pos 0
    → x1 *ℤ (p2 *ℤ pos 1 -ℤ pos 1 *ℤ q2) -ℤ x2 *ℤ (p1 *ℤ pos 1 -ℤ pos 1 *ℤ q1) +ℤ xw *ℤ (p1 *ℤ q2 -ℤ p2 *ℤ q1) ≡ pos 0
    → (f3 *ℤ (g1 *ℤ x1 +ℤ (g2 *ℤ x2 +ℤ (g3 *ℤ x3 +ℤ go *ℤ xw)))) *ℤ (p2 -ℤ q2) ≡ pos 0
unfolding same
on_line_first f1 f2 f3 fo g1 g2 g3 go x1 x2 x3 xw p1 p2 p3 q1 q2 q3 fx fp fq gp gq t =
    ring_given ((var 2 ⊗ (var 4 ⊗ var 8 ⊕ (var 5 ⊗ var 9 ⊕ (var 6 ⊗ var 10 ⊕ var 7 ⊗ var 11)))) ⊗ (var 13 ⊖ var 16)) (num (pos 0))
    (given ((var 13 ⊖ var 16) ⊗ var 6) (var 0 ⊗ var 8 ⊕ (var 1 ⊗ var 9 ⊕ (var 2 ⊗ var 10 ⊕ var 3 ⊗ var 11))) (num (pos 0))
    ∷ given ((var 16 ⊗ var 11 ⊖ var 9) ⊗ var 6) (var 0 ⊗ var 12 ⊕ (var 1 ⊗ var 13 ⊕ (var 2 ⊗ var 14 ⊕ var 3 ⊗ num (pos 1)))) (num (pos 0))
    ∷ given (neg ((var 13 ⊗ var 11 ⊖ var 9) ⊗ var 6)) (var 0 ⊗ var 15 ⊕ (var 1 ⊗ var 16 ⊕ (var 2 ⊗ var 17 ⊕ var 3 ⊗ num (pos 1)))) (num (pos 0))
    ∷ given (neg ((var 16 ⊗ var 11 ⊖ var 9) ⊗ var 2)) (var 4 ⊗ var 12 ⊕ (var 5 ⊗ var 13 ⊕ (var 6 ⊗ var 14 ⊕ var 7 ⊗ num (pos 1)))) (num (pos 0))
    ∷ given ((var 13 ⊗ var 11 ⊖ var 9) ⊗ var 2) (var 4 ⊗ var 15 ⊕ (var 5 ⊗ var 16 ⊕ (var 6 ⊗ var 17 ⊕ var 7 ⊗ num (pos 1)))) (num (pos 0))
    ∷ given (var 2 ⊗ var 4 ⊖ var 6 ⊗ var 0) (var 8 ⊗ (var 13 ⊗ num (pos 1) ⊖ num (pos 1) ⊗ var 16) ⊖ var 9 ⊗ (var 12 ⊗ num (pos 1) ⊖ num (pos 1) ⊗ var 15) ⊕ var 11 ⊗ (var 12 ⊗ var 16 ⊖ var 13 ⊗ var 15)) (num (pos 0)) ∷ [])
    tt (f1 ∷ f2 ∷ f3 ∷ fo ∷ g1 ∷ g2 ∷ g3 ∷ go ∷ x1 ∷ x2 ∷ x3 ∷ xw ∷ p1 ∷ p2 ∷ p3 ∷ q1 ∷ q2 ∷ q3 ∷ []) (fx, (fp, (fq, (gp, (gq, (t, tt))))))

pub on_line_second : (f1 f2 f3 fo g1 g2 g3 go x1 x2 x3 xw p1 p2 p3 q1 q2 q3 : ℤ)
    → f1 *ℤ x1 +ℤ (f2 *ℤ x2 +ℤ (f3 *ℤ x3 +ℤ fo *ℤ xw)) ≡ pos 0
    → f1 *ℤ p1 +ℤ (f2 *ℤ p2 +ℤ (f3 *ℤ p3 +ℤ fo *ℤ pos 1)) ≡ pos 0
    → f1 *ℤ q1 +ℤ (f2 *ℤ q2 +ℤ (f3 *ℤ q3 +ℤ fo *ℤ pos 1)) ≡ pos 0
    → g1 *ℤ p1 +ℤ (g2 *ℤ p2 +ℤ (g3 *ℤ p3 +ℤ go *ℤ pos 1)) ≡ pos 0
    → g1 *ℤ q1 +ℤ (g2 *ℤ q2 +ℤ (g3 *ℤ q3 +ℤ go *ℤ pos 1)) ≡ pos 0
    → x1 *ℤ (p2 *ℤ pos 1 -ℤ pos 1 *ℤ q2) -ℤ x2 *ℤ (p1 *ℤ pos 1 -ℤ pos 1 *ℤ q1) +ℤ xw *ℤ (p1 *ℤ q2 -ℤ p2 *ℤ q1) ≡ pos 0
    → (f3 *ℤ (g1 *ℤ x1 +ℤ (g2 *ℤ x2 +ℤ (g3 *ℤ x3 +ℤ go *ℤ xw)))) *ℤ (q1 -ℤ p1) ≡ pos 0
unfolding same
on_line_second f1 f2 f3 fo g1 g2 g3 go x1 x2 x3 xw p1 p2 p3 q1 q2 q3 fx fp fq gp gq t =
    ring_given ((var 2 ⊗ (var 4 ⊗ var 8 ⊕ (var 5 ⊗ var 9 ⊕ (var 6 ⊗ var 10 ⊕ var 7 ⊗ var 11)))) ⊗ (var 15 ⊖ var 12)) (num (pos 0))
    (given ((var 15 ⊖ var 12) ⊗ var 6) (var 0 ⊗ var 8 ⊕ (var 1 ⊗ var 9 ⊕ (var 2 ⊗ var 10 ⊕ var 3 ⊗ var 11))) (num (pos 0))
    ∷ given ((var 8 ⊖ var 15 ⊗ var 11) ⊗ var 6) (var 0 ⊗ var 12 ⊕ (var 1 ⊗ var 13 ⊕ (var 2 ⊗ var 14 ⊕ var 3 ⊗ num (pos 1)))) (num (pos 0))
    ∷ given (neg ((var 8 ⊖ var 12 ⊗ var 11) ⊗ var 6)) (var 0 ⊗ var 15 ⊕ (var 1 ⊗ var 16 ⊕ (var 2 ⊗ var 17 ⊕ var 3 ⊗ num (pos 1)))) (num (pos 0))
    ∷ given (neg ((var 8 ⊖ var 15 ⊗ var 11) ⊗ var 2)) (var 4 ⊗ var 12 ⊕ (var 5 ⊗ var 13 ⊕ (var 6 ⊗ var 14 ⊕ var 7 ⊗ num (pos 1)))) (num (pos 0))
    ∷ given ((var 8 ⊖ var 12 ⊗ var 11) ⊗ var 2) (var 4 ⊗ var 15 ⊕ (var 5 ⊗ var 16 ⊕ (var 6 ⊗ var 17 ⊕ var 7 ⊗ num (pos 1)))) (num (pos 0))
    ∷ given (var 2 ⊗ var 5 ⊖ var 6 ⊗ var 1) (var 8 ⊗ (var 13 ⊗ num (pos 1) ⊖ num (pos 1) ⊗ var 16) ⊖ var 9 ⊗ (var 12 ⊗ num (pos 1) ⊖ num (pos 1) ⊗ var 15) ⊕ var 11 ⊗ (var 12 ⊗ var 16 ⊖ var 13 ⊗ var 15)) (num (pos 0)) ∷ [])
    tt (f1 ∷ f2 ∷ f3 ∷ fo ∷ g1 ∷ g2 ∷ g3 ∷ go ∷ x1 ∷ x2 ∷ x3 ∷ xw ∷ p1 ∷ p2 ∷ p3 ∷ q1 ∷ q2 ∷ q3 ∷ []) (fx, (fp, (fq, (gp, (gq, (t, tt))))))
