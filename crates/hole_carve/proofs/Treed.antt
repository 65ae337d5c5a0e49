-- The rows that hold a point, by the tree of the rows' boxes.
use Rattle.std.proofs.Common.{◌≡◌, ◌⊎◌, inl, inr, ℕ, ◌+◌, ◌<◌, ◌≤◌, ℤ, pos, ◌*ℤ◌, ◌<ℤ◌, ◌≤ℤ◌, List, [], ◌∷◌, length, get_or, ap, sym, subst, ◌∙◌, arith}
use Rattle.std.specs.Prelude.{◌↔◌, All, Any, Contains}
use Rattle.std.specs.List.{HoldsAt}
use Rattle.std.proofs.lemmas.Int.{ints}
use Rattle.exact_algebra.proofs.Ring.{var, ring, same, ◌⊗◌}
use Rattle.exact_algebra.proofs.Signs.{mul_lt}
use Rattle.sign_predicates.specs.Point.{Point, RationalPoint}
use Rattle.sign_predicates.specs.Orientation.{IsPositive, InClosed}
use Rattle.geo_laws.specs.Delaunay.{corners, numbers, row_at}
use Rattle.geo_laws.specs.declared.tetrahedra.Tet.{Tet}
use Rattle.geo_laws.proofs.Members.{here, there}
use Rattle.geo_laws.proofs.Simplices.{test_of_member}
use Rattle.box_tree.specs.declared.bounds.Interval.{Interval}
use Rattle.box_tree.specs.declared.bounds.Bounds.{Bounds}
use Rattle.box_tree.specs.declared.tree.Node.{Node}
use Rattle.box_tree.specs.Bodies.{IsRowTree}
use Rattle.box_tree.specs.Bounds.{IsIn, AreDisjoint, AreBoundsApart, HoldsPoint, HoldsCorners, HoldsQuotient, HoldsRational}
use Rattle.box_tree.specs.Tree.{AreApartBetween}
use Rattle.box_tree.proofs.Lists.{less_or_more}
use Rattle.hole_carve.specs.Boxes.{AreBelowOrAbove}
use Rattle.hole_carve.specs.Seeds.{RowHolds}
use Rattle.hole_carve.proofs.Apart.{off_x, off_y, off_z}

-- the same of equal numbers
pub quotient_same : (i : Interval) (x w x' w' : ℤ) → x ≡ x' → w ≡ w' → HoldsQuotient i x w → HoldsQuotient i x' w'
quotient_same i x w x' w' e f h = subst (λ v. HoldsQuotient i x' v) f (subst (λ y. HoldsQuotient i y w) e h)

-- ---- a box apart from one round the point

swap : (a b : ℤ) → a *ℤ b ≡ b *ℤ a
unfolding same
swap a b = ring (var 0 ⊗ var 1) (var 1 ⊗ var 0) tt (a ∷ b ∷ [])

below : (a h l x w : ℤ) → pos 0 <ℤ w → a ≤ℤ h → h <ℤ l → (l *ℤ w) ≤ℤ x → (a *ℤ w) <ℤ x
below a h l x w hw p q r = go (a *ℤ w) (l *ℤ w) (w *ℤ a) (w *ℤ l) r (mul_lt w a l hw (omega (arith, ints))) (swap a w) (swap l w)
  where
    go : (m n k o : ℤ) → n ≤ℤ x → k <ℤ o → m ≡ k → n ≡ o → m <ℤ x
    go m n k o r l d e = omega (arith, ints)

above : (a h l x w : ℤ) → pos 0 <ℤ w → l ≤ℤ a → h <ℤ l → x ≤ℤ (h *ℤ w) → x <ℤ (a *ℤ w)
above a h l x w hw p q r = go (a *ℤ w) (h *ℤ w) (w *ℤ a) (w *ℤ h) r (mul_lt w h a hw (omega (arith, ints))) (swap a w) (swap h w)
  where
    go : (m n k o : ℤ) → x ≤ℤ n → o <ℤ k → m ≡ k → n ≡ o → x <ℤ m
    go m n k o r l d e = omega (arith, ints)

-- along an axis
beside : (i j : Interval) (a b c d x w : ℤ) → pos 0 <ℤ w → IsIn i a → IsIn i b → IsIn i c → IsIn i d → HoldsQuotient j x w → AreDisjoint i j
    → AreBelowOrAbove (a *ℤ w) (b *ℤ w) (c *ℤ w) (d *ℤ w) x
beside i j a b c d x w hw ia ib ic id q (inl l) =
    inl (below a i.high j.low x w hw ia.1 l q.0, below b i.high j.low x w hw ib.1 l q.0, below c i.high j.low x w hw ic.1 l q.0, below d i.high j.low x w hw id.1 l q.0)
beside i j a b c d x w hw ia ib ic id q (inr l) =
    inr (above a j.high i.low x w hw ia.0 l q.1, above b j.high i.low x w hw ib.0 l q.1, above c j.high i.low x w hw ic.0 l q.1, above d j.high i.low x w hw id.0 l q.1)

-- a positive row whose box is apart from a box round a point does not hold the point
corners_apart : (ps : List Point) (t : Tet) (b c : Bounds) (x : RationalPoint) → pos 0 <ℤ x.w → IsPositive (corners ps t) → HoldsCorners ps (numbers t) b → HoldsRational c x → AreBoundsApart b c
    → ¬ InClosed (corners ps t) x
corners_apart ps t b c x hw p h round apart = by apart
  where
    at_a : HoldsPoint b (corners ps t).a
    at_a = h t.a (test_of_member (numbers t) t.a here)

    at_b : HoldsPoint b (corners ps t).b
    at_b = h t.b (test_of_member (numbers t) t.b (there here))

    at_c : HoldsPoint b (corners ps t).c
    at_c = h t.c (test_of_member (numbers t) t.c (there (there here)))

    at_d : HoldsPoint b (corners ps t).d
    at_d = h t.d (test_of_member (numbers t) t.d (there (there (there here))))

    by : AreBoundsApart b c → ¬ InClosed (corners ps t) x
    by (inl l) = off_x (corners ps t) x p hw (beside b.x c.x _ _ _ _ x.x x.w hw at_a.x at_b.x at_c.x at_d.x round.x l)
    by (inr (inl l)) = off_y (corners ps t) x p hw (beside b.y c.y _ _ _ _ x.y x.w hw at_a.y at_b.y at_c.y at_d.y round.y l)
    by (inr (inr l)) = off_z (corners ps t) x p hw (beside b.z c.z _ _ _ _ x.z x.w hw at_a.z at_b.z at_c.z at_d.z round.z l)

-- ---- rows by the nodes of their boxes

-- these are the places of rows that hold the point, among them those of all nodes before place i whose rows hold it
pub record AreSeenBefore (ps : List Point) (rows : List Tet) (x : RationalPoint) (nodes : List Node) (i : ℕ) (holders : List ℕ) : Type 0 where
  pub found : (r : ℕ) → Contains holders r → RowHolds ps rows x r
  pub seen : (j : ℕ) (d : Node) → j < i → RowHolds ps rows x (get_or nodes j d).own.place → Contains holders (get_or nodes j d).own.place

pub seen_start : (ps : List Point) (rows : List Tet) (x : RationalPoint) (nodes : List Node) → AreSeenBefore ps rows x nodes 0 []
seen_start ps rows x nodes = record { found = λ r m. absurd (let l = m.1 in omega arith); seen = λ j d l h. absurd (omega arith) }

module _ (ps : List Point) (rows : List Tet) (x : RationalPoint) (nodes : List Node) where
  pub seen_further : (b : Bounds) (i k : ℕ) (holders : List ℕ) → pos 0 <ℤ x.w → All (λ t. IsPositive (corners ps t)) rows → IsRowTree ps rows nodes → HoldsRational b x
      → AreSeenBefore ps rows x nodes i holders → AreApartBetween nodes b i k → k ≤ length nodes → AreSeenBefore ps rows x nodes k holders
  seen_further b i k holders hw positive tree round h apart l = record { found = h.found; seen = λ j d m holds. go j d m holds (less_or_more j i) }
    where
      off : (j : ℕ) (d : Node) → j < length nodes → AreBoundsApart (get_or nodes j d).own.bounds b → RowHolds ps rows x (get_or nodes j d).own.place → ⊥
      off j d m a holds =
          let n = get_or nodes j d in
          let q = tree.listed j d m in
          let none : Tet = record { a = 0; b = 0; c = 0; d = 0 } in
          corners_apart ps (row_at rows n.own.place) n.own.bounds b x hw (positive n.own.place none q.0) (q.1 none) round a holds.1

      go : (j : ℕ) (d : Node) → j < k → RowHolds ps rows x (get_or nodes j d).own.place → (j < i) ⊎ ((j ≡ i) ⊎ (i < j)) → Contains holders (get_or nodes j d).own.place
      go j d m holds (inl a) = h.seen j d a holds
      go j d m holds (inr (inl a)) = absurd (off j d (omega arith) (apart j d (omega arith) m) holds)
      go j d m holds (inr (inr a)) = absurd (off j d (omega arith) (apart j d (omega arith) m) holds)

  pub seen_more : (i : ℕ) (n : Node) (holders more : List ℕ) → HoldsAt (λ m. m ≡ n) nodes i → AreSeenBefore ps rows x nodes i holders
      → ((r : ℕ) → Contains more r ↔ (Contains holders r ⊎ (r ≡ n.own.place) × RowHolds ps rows x r)) → AreSeenBefore ps rows x nodes (i + 1) more
  seen_more i n holders more at h is = record { found = λ r c. found r ((is r).0 c); seen = λ j d m holds. go j d m holds (less_or_more j i) }
    where
      found : (r : ℕ) → Contains holders r ⊎ (r ≡ n.own.place) × RowHolds ps rows x r → RowHolds ps rows x r
      found r (inl c) = h.found r c
      found r (inr c) = c.1

      go : (j : ℕ) (d : Node) → j < i + 1 → RowHolds ps rows x (get_or nodes j d).own.place → (j < i) ⊎ ((j ≡ i) ⊎ (i < j)) → Contains more (get_or nodes j d).own.place
      go j d m holds (inl a) = (is _).1 (inl (h.seen j d a holds))
      go j d m holds (inr (inl a)) = (is _).1 (inr (ap (λ (o : Node). o.own.place) (ap (λ k. get_or nodes k d) a ∙ at d), holds))
      go j d m holds (inr (inr a)) = absurd (omega arith)

  -- when all nodes are done with
  pub seen_all : (i : ℕ) (holders : List ℕ) → IsRowTree ps rows nodes → length nodes ≤ i → AreSeenBefore ps rows x nodes i holders → (r : ℕ) → Contains holders r ↔ RowHolds ps rows x r
  seen_all i holders tree l h r = (h.found r, λ holds. by holds (tree.each r holds.0))
    where
      by : RowHolds ps rows x r → Any (λ n. n.own.place ≡ r) nodes → Contains holders r
      by holds a =
          let low = a.2 in
          let is : (get_or nodes a.0 a.1).own.place ≡ r = ap (λ (n : Node). n.own.place) a.3 ∙ a.4 in
          subst (Contains holders) is (h.seen a.0 a.1 (omega arith) (subst (RowHolds ps rows x) (sym is) holds))
