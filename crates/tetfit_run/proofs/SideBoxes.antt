-- The boxes of sides: a side whose box is apart from that of another one does not cover it.
use Rattle.std.proofs.Common.{◌≡◌, ◌⊎◌, inl, inr, ℕ, ◌+◌, ◌<◌, ◌≤◌, Bool, true, false, cond, ◌&&◌, ◌||◌, List, length, get_or, refl, ap, sym, subst, ◌∙◌, arith}
use Rattle.std.specs.Prelude.{ℤ, ◌≤ℤ◌, ◌<ℤ◌, Any, HoldsAt, not, ◌==◌, int_lt}
use Rattle.std.specs.Int.{int_max, int_min}
use Rattle.std.specs.List.{list_any}
use Rattle.std.proofs.lemmas.Int.{int_max_is, int_min_is, ints}
use Rattle.std.proofs.lemmas.List.Folds.{list_any_none}
use Rattle.box_tree.specs.Bounds.{AreBoundsApart, AreDisjoint, HoldsPoint, IsIn}
use Rattle.box_tree.specs.Tree.{AreApartBetween}
use Rattle.box_tree.specs.declared.bounds.Bounds.{Bounds}
use Rattle.box_tree.specs.declared.bounds.Interval.{Interval}
use Rattle.box_tree.specs.declared.tree.Node.{Node}
use Rattle.box_tree.proofs.Lists.{less_or_more}
use Rattle.geo_laws.specs.Delaunay.{point}
use Rattle.geo_laws.specs.Facet.{spans_plane}
use Rattle.geo_laws.proofs.Sorting.{int_le_true}
use Rattle.sign_predicates.specs.Point.{Point}
use Rattle.tetfit_run.specs.Sides.{boxes_share, common, covers, has_more, has_some, lie_along, HoldsSide, IsSideTree}
use Rattle.tetfit_run.specs.declared.sides.FacetSide.{FacetSide}

-- ---- boxes that are apart

under_min : (k a b : ℤ) → k ≤ℤ a → k ≤ℤ b → k ≤ℤ int_min a b
under_min k a b ha hb = go (int_lt b a)
  where
    go : (t : Bool) → k ≤ℤ cond t b a
    go true = hb
    go false = ha

over_max : (k a b : ℤ) → a ≤ℤ k → b ≤ℤ k → int_max a b ≤ℤ k
over_max k a b ha hb = go (int_lt b a)
  where
    go : (t : Bool) → cond t a b ≤ℤ k
    go true = ha
    go false = hb

clash : (a b c d k l m n : ℤ) → (n <ℤ k) ⊎ (l <ℤ m) → (k ≤ℤ a) × (a ≤ℤ l) → (k ≤ℤ b) × (b ≤ℤ l) → (m ≤ℤ c) × (c ≤ℤ n) → (m ≤ℤ d) × (d ≤ℤ n)
    → int_max (int_min a b) (int_min c d) ≤ℤ int_min (int_max a b) (int_max c d) → ⊥
clash a b c d k l m n apart ha hb hc hd =
    least apart (int_min a b) (int_min c d) (int_max a b) (int_max c d) (under_min k a b ha.0 hb.0) (under_min m c d hc.0 hd.0) (over_max l a b ha.1 hb.1) (over_max n c d hc.1 hd.1)
  where
    least : (n <ℤ k) ⊎ (l <ℤ m) → (p q r u : ℤ) → k ≤ℤ p → m ≤ℤ q → r ≤ℤ l → u ≤ℤ n → int_max p q ≤ℤ int_min r u → ⊥
    least (inl h) p q r u hp hq hr hu le = let f = int_max_is p q in let g = int_min_is r u in omega (arith, ints, f, g)
    least (inr h) p q r u hp hq hr hu le = let f = int_max_is p q in let g = int_min_is r u in omega (arith, ints, f, g)

no_common : (i j : Interval) (a b c d : ℤ) → IsIn i a → IsIn i b → IsIn j c → IsIn j d → AreDisjoint j i → has_some (common a b c d) ≡ false
no_common i j a b c d ia ib jc jd apart = go (has_some (common a b c d)) refl
  where
    go : (t : Bool) → has_some (common a b c d) ≡ t → has_some (common a b c d) ≡ false
    go true e = absurd (clash a b c d i.low i.high j.low j.high apart ia ib jc jd (int_le_true (int_max (int_min a b) (int_min c d)) (int_min (int_max a b) (int_max c d)) e))
    go false e = e

first_false : (x y z w : Bool) → x ≡ false → x && y && z && w ≡ false
first_false x y z w e = ap (λ b. b && y && z && w) e

second_false : (x y z w : Bool) → y ≡ false → x && y && z && w ≡ false
second_false true y z w e = ap (λ b. b && z && w) e
second_false false y z w e = refl

third_false : (x y z w : Bool) → z ≡ false → x && y && z && w ≡ false
third_false true true z w e = ap (λ b. b && w) e
third_false true false z w e = refl
third_false false y z w e = refl

-- boxes that are apart have no point in common
none_shared : (b e : Bounds) (p q r u : Point) → HoldsPoint b p → HoldsPoint b q → HoldsPoint e r → HoldsPoint e u → AreBoundsApart e b → boxes_share p q r u ≡ false
none_shared b e p q r u hp hq hr hu = go
  where
    x : Interval
    x = common p.x q.x r.x u.x

    y : Interval
    y = common p.y q.y r.y u.y

    z : Interval
    z = common p.z q.z r.z u.z

    more : Bool
    more = has_more x || has_more y || has_more z

    go : AreBoundsApart e b → boxes_share p q r u ≡ false
    go (inl h) = first_false (has_some x) (has_some y) (has_some z) more (no_common b.x e.x p.x q.x r.x u.x hp.x hq.x hr.x hu.x h)
    go (inr (inl h)) = second_false (has_some x) (has_some y) (has_some z) more (no_common b.y e.y p.y q.y r.y u.y hp.y hq.y hr.y hu.y h)
    go (inr (inr h)) = third_false (has_some x) (has_some y) (has_some z) more (no_common b.z e.z p.z q.z r.z u.z hp.z hq.z hr.z hu.z h)

apart_uncovered : (ps : List Point) (s t : FacetSide) (b e : Bounds) → HoldsSide ps s.side b → HoldsSide ps t.side e → AreBoundsApart e b → covers ps s t ≡ false
apart_uncovered ps s t b e hs ht apart =
    let none = none_shared b e (point ps s.side.a) (point ps s.side.b) (point ps t.side.a) (point ps t.side.b) hs.0 hs.1 ht.0 ht.1 apart in
    last_false (not (t.facet == s.facet)) (lie_along ps s.side t.side) (ap (λ b. b && not (spans_plane ps s.side.a s.side.b t.side.a) && not (spans_plane ps s.side.a s.side.b t.side.b)) none)
  where
    last_false : (x y : Bool) → y ≡ false → x && y ≡ false
    last_false true y e = e
    last_false false y e = refl

-- ---- the nodes of a tree

-- the box holds the side at a place
abbrev pub holds_at : List Point → List FacetSide → ℕ → Bounds → Type 0
holds_at ps sides i b = (d : FacetSide) → HoldsSide ps (get_or sides i d).side b

-- the sides of the nodes before a place do not cover it
abbrev pub AreMissed : List Point → List FacetSide → FacetSide → List Node → ℕ → Type 0
AreMissed ps sides s nodes n = (j : ℕ) (d : Node) (e : FacetSide) → j < n → j < length nodes → covers ps s (get_or sides (get_or nodes j d).own.place e) ≡ false

pub missed_start : (ps : List Point) (sides : List FacetSide) (s : FacetSide) (nodes : List Node) → AreMissed ps sides s nodes 0
missed_start ps sides s nodes j d e lt within = absurd (omega arith)

-- nor do those whose boxes are apart from its box
pub missed_further : (ps : List Point) (sides : List FacetSide) (s : FacetSide) (nodes : List Node) (b : Bounds) (first past : ℕ) → IsSideTree ps sides nodes → HoldsSide ps s.side b
    → AreMissed ps sides s nodes first → AreApartBetween nodes b first past → past ≤ length nodes → AreMissed ps sides s nodes past
missed_further ps sides s nodes b first past tree holds missed apart within j d e lt there = go (less_or_more j first)
  where
    behind : first ≤ j → covers ps s (get_or sides (get_or nodes j d).own.place e) ≡ false
    behind le =
        let n = get_or nodes j d in
        apart_uncovered ps s (get_or sides n.own.place e) b n.own.bounds holds ((tree.listed j d there).1 e) (apart j d le lt)

    go : (j < first) ⊎ ((j ≡ first) ⊎ (first < j)) → covers ps s (get_or sides (get_or nodes j d).own.place e) ≡ false
    go (inl m) = missed j d e m there
    go (inr (inl same)) = behind (omega arith)
    go (inr (inr g)) = behind (omega arith)

-- nor does the one that was tested
pub missed_more : (ps : List Point) (sides : List FacetSide) (s : FacetSide) (nodes : List Node) (i : ℕ) (n : Node) → HoldsAt (λ m. m ≡ n) nodes i
    → HoldsAt (λ t. covers ps s t ≡ false) sides n.own.place → AreMissed ps sides s nodes i → AreMissed ps sides s nodes (i + 1)
missed_more ps sides s nodes i n at off missed j d e lt there = go (less_or_more j i)
  where
    go : (j < i) ⊎ ((j ≡ i) ⊎ (i < j)) → covers ps s (get_or sides (get_or nodes j d).own.place e) ≡ false
    go (inl m) = missed j d e m there
    go (inr (inl same)) =
        let is : get_or nodes j d ≡ n = ap (λ k. get_or nodes k d) same ∙ at d in
        subst (λ (m : Node). covers ps s (get_or sides m.own.place e) ≡ false) (sym is) (off e)
    go (inr (inr g)) = absurd (omega arith)

-- so no side does
pub missed_all : (ps : List Point) (sides : List FacetSide) (s : FacetSide) (nodes : List Node) (i : ℕ) → IsSideTree ps sides nodes → length nodes ≤ i → AreMissed ps sides s nodes i
    → false ≡ list_any (covers ps s) sides
missed_all ps sides s nodes i tree le missed = sym (list_any_none (covers ps s) sides (λ k d lt. each k d (tree.each k lt)))
  where
    each : (k : ℕ) (d : FacetSide) → Any (λ (n : Node). n.own.place ≡ k) nodes → covers ps s (get_or sides k d) ≡ false
    each k d found =
        let lt : found.0 < length nodes = found.2 in
        subst (λ p. covers ps s (get_or sides p d) ≡ false) (ap (λ (m : Node). m.own.place) found.3 ∙ found.4) (missed found.0 found.1 d (omega arith) lt)
