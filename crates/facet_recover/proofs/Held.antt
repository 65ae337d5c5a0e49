-- Whether a row of a cavity holds a centroid, by the tree of the rows' boxes.
use Rattle.std.proofs.Common.{◌≡◌, ◌⊎◌, inl, inr, ℕ, suc, ◌+◌, ◌<◌, ◌≤◌, ℤ, pos, ◌+ℤ◌, ◌*ℤ◌, ◌<ℤ◌, ◌≤ℤ◌, Bool, true, false, List, [], ◌∷◌, ◌||◌, length, get_or, refl, ap, sym, ◌∙◌, arith}
use Rattle.std.specs.Prelude.{Any, All}
use Rattle.std.specs.List.{HoldsAt, list_any}
use Rattle.std.proofs.lemmas.Int.{ints}
use Rattle.sign_predicates.specs.Point.{Point, RationalPoint}
use Rattle.sign_predicates.specs.Orientation.{IsPositive, InClosed}
use Rattle.geo_laws.specs.Delaunay.{corners, numbers}
use Rattle.geo_laws.specs.Simplex.{InSimplex}
use Rattle.geo_laws.specs.declared.tetrahedra.Tet.{Tet}
use Rattle.refill_laws.proofs.Weights.{closed_weights}
use Rattle.refill_laws.specs.Refill.{row_centroid}
use Rattle.box_tree.specs.declared.bounds.Interval.{Interval}
use Rattle.box_tree.specs.declared.bounds.Bounds.{Bounds}
use Rattle.box_tree.specs.declared.tree.Node.{Node}
use Rattle.box_tree.specs.Bodies.{IsRowTree}
use Rattle.box_tree.specs.Bounds.{AreBoundsApart, HoldsCorners, HoldsQuotient, HoldsRational}
use Rattle.tangle_fill.proofs.Boxed.{common_point, held_simplex}
use Rattle.facet_recover.specs.Cavity.{IsRowOn, holds_centroid, lies_in_cavity}
use Rattle.box_tree.specs.Tree.{AreApartBetween}
use Rattle.box_tree.proofs.Lists.{less_or_more}
use Rattle.facet_recover.proofs.Centroid.{closed_test}

-- a row whose box is apart from a box round a point does not hold the point
pub apart_closed : (ps : List Point) (r : Tet) (b c : Bounds) (x : RationalPoint) → pos 0 <ℤ x.w → IsPositive (corners ps r) → HoldsCorners ps (numbers r) b → HoldsRational c x → AreBoundsApart b c → InClosed (corners ps r) x → ⊥
apart_closed ps r b c x hw p h round apart closed = common_point b c x hw (held_simplex ps (numbers r) b x hw h inside) round apart
  where
    inside : InSimplex ps (numbers r) x
    inside = let m = closed_weights ps r x hw p closed in (m.weight, m.mean)

-- an interval round the sum of four numbers, over 4
pub round_four : (i : Interval) (s a b c d : ℤ) → (i.low *ℤ pos 4) ≤ℤ s → s ≤ℤ (i.high *ℤ pos 4) → s ≡ (a +ℤ b) +ℤ (c +ℤ d) → HoldsQuotient i (a +ℤ b +ℤ c +ℤ d) (pos 4)
round_four i s a b c d low high e = go (i.low *ℤ pos 4) (i.high *ℤ pos 4) low high
  where
    go : (l h : ℤ) → l ≤ℤ s → s ≤ℤ h → (l ≤ℤ (a +ℤ b +ℤ c +ℤ d)) × ((a +ℤ b +ℤ c +ℤ d) ≤ℤ h)
    go l h p q = (omega (arith, ints), omega (arith, ints))

-- ---- rows of the cavity, by their nodes

not_true : (b : Bool) → (b ≡ true → ⊥) → b ≡ false
not_true true h = absurd (h refl)
not_true false h = refl

-- the row at the place of a node does not hold the centroid
abbrev pub IsMissed : List Point → List Tet → Tet → Node → Type 0
IsMissed ps cavity t n = (d : Tet) → holds_centroid ps (get_or cavity n.own.place d) t ≡ false

-- so for the nodes before place i
pub record AreMissedBefore (ps : List Point) (cavity : List Tet) (t : Tet) (nodes : List Node) (i : ℕ) : Type 0 where
  pub missed : (j : ℕ) (d : Node) → j < i → IsMissed ps cavity t (get_or nodes j d)

pub missed_start : (ps : List Point) (cavity : List Tet) (t : Tet) (nodes : List Node) → AreMissedBefore ps cavity t nodes 0
missed_start ps cavity t nodes = record { missed = λ j d l. absurd (omega arith) }

apart_missed : (ps : List Point) (cavity : List Tet) (t : Tet) (nodes : List Node) (b : Bounds) → All (IsRowOn ps) cavity → IsRowTree ps cavity nodes → HoldsRational b (row_centroid (corners ps t))
    → (j : ℕ) (d : Node) → j < length nodes → AreBoundsApart (get_or nodes j d).own.bounds b → IsMissed ps cavity t (get_or nodes j d)
apart_missed ps cavity t nodes b rows tree round j d l apart e =
    let n = get_or nodes j d in
    let r = get_or cavity n.own.place e in
    let q = tree.listed j d l in
    not_true (holds_centroid ps r t)
    (λ h. apart_closed ps r n.own.bounds b (row_centroid (corners ps t)) (let four : pos 0 <ℤ pos 4 = omega (arith, ints) in four) (rows n.own.place e q.0).1 (q.1 e) round apart ((closed_test (corners ps r) (row_centroid (corners ps t))).0 h))

pub missed_further : (ps : List Point) (cavity : List Tet) (t : Tet) (nodes : List Node) (b : Bounds) (i k : ℕ) → All (IsRowOn ps) cavity → IsRowTree ps cavity nodes → HoldsRational b (row_centroid (corners ps t))
    → AreMissedBefore ps cavity t nodes i → AreApartBetween nodes b i k → k ≤ length nodes → AreMissedBefore ps cavity t nodes k
missed_further ps cavity t nodes b i k rows tree round h apart l = record { missed = λ j d m. go j d m (less_or_more j i) }
  where
    go : (j : ℕ) (d : Node) → j < k → (j < i) ⊎ ((j ≡ i) ⊎ (i < j)) → IsMissed ps cavity t (get_or nodes j d)
    go j d m (inl a) = h.missed j d a
    go j d m (inr (inl a)) = apart_missed ps cavity t nodes b rows tree round j d (omega arith) (apart j d (omega arith) m)
    go j d m (inr (inr a)) = apart_missed ps cavity t nodes b rows tree round j d (omega arith) (apart j d (omega arith) m)

pub missed_more : (ps : List Point) (cavity : List Tet) (t : Tet) (nodes : List Node) (i : ℕ) (n : Node) (r : Tet) → HoldsAt (λ m. m ≡ n) nodes i → HoldsAt (λ u. u ≡ r) cavity n.own.place → AreMissedBefore ps cavity t nodes i
    → holds_centroid ps r t ≡ false → AreMissedBefore ps cavity t nodes (i + 1)
missed_more ps cavity t nodes i n r there is h off = record { missed = λ j d m. go j d m (less_or_more j i) }
  where
    go : (j : ℕ) (d : Node) → j < i + 1 → (j < i) ⊎ ((j ≡ i) ⊎ (i < j)) → IsMissed ps cavity t (get_or nodes j d)
    go j d m (inl a) e = h.missed j d a e
    go j d m (inr (inl a)) e = ap (λ u. holds_centroid ps u t) (ap (λ (m : Node). get_or cavity m.own.place e) (ap (λ x. get_or nodes x d) a ∙ there d) ∙ is e) ∙ off
    go j d m (inr (inr a)) e = absurd (omega arith)

-- when all nodes are done with
pub none_holds : (ps : List Point) (cavity : List Tet) (t : Tet) (nodes : List Node) (i : ℕ) → IsRowTree ps cavity nodes → length nodes ≤ i → AreMissedBefore ps cavity t nodes i → lies_in_cavity ps cavity t ≡ false
none_holds ps cavity t nodes i tree l h = none cavity (λ k d m. at_node k d (tree.each k m))
  where
    at_node : (k : ℕ) (d : Tet) → Any (λ n. n.own.place ≡ k) nodes → holds_centroid ps (get_or cavity k d) t ≡ false
    at_node k d a =
        let low = a.2 in
        sym (ap (λ u. holds_centroid ps u t) (ap (λ (n : Node). get_or cavity n.own.place d) a.3 ∙ ap (λ x. get_or cavity x d) a.4)) ∙ h.missed a.0 a.1 (omega arith) d

    none : (rows : List Tet) → ((k : ℕ) (d : Tet) → k < length rows → holds_centroid ps (get_or rows k d) t ≡ false) → list_any (λ r. holds_centroid ps r t) rows ≡ false
    none [] f = refl
    none (r ∷ rows) f = λ z. f 0 r (omega arith) z || none rows (λ k d m. f (suc k) d (omega arith)) z
