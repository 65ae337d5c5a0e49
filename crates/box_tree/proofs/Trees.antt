-- Trees of boxes.
use Rattle.std.proofs.Common.{◌≡◌, ◌⊎◌, inl, inr, ℕ, ◌+◌, ◌-◌, ◌<◌, ◌≤◌, true, List, [], ◌∷◌, ◌++◌, length, get_or, refl, ap, sym, subst, ◌∙◌, arith, eqb-true}
use Rattle.std.specs.Prelude.{◌↔◌, Any, Contains, ◌&&◌, nat_eq}
use Rattle.std.specs.List.{HoldsAt}
use Rattle.std.specs.Ordering.{int_eq}
use Rattle.std.proofs.lemmas.Bool.Decides.{Decides-int_eq}
use Rattle.std.proofs.lemmas.List.{get_or_append_left, get_or-append_right, length-append}
use Rattle.geo_laws.proofs.Members.{contains_of, at_place, both_true}
use Rattle.box_tree.specs.declared.bounds.Interval.{Interval}
use Rattle.box_tree.specs.declared.bounds.Bounds.{Bounds}
use Rattle.box_tree.specs.declared.tree.Boxed.{Boxed}
use Rattle.box_tree.specs.declared.tree.Keyed.{Keyed}
use Rattle.box_tree.specs.declared.tree.Node.{Node}
use Rattle.box_tree.specs.Bounds.{IsBoxWithin, AreBoundsApart}
use Rattle.box_tree.specs.Tree.{AreKeyed, HoldsFrom, IsNode, AreNodes, IsTree, IsTreeOf, AreApartBetween, IsTreeOver}
use Rattle.box_tree.proofs.Lists.{less_or_more, more_cases, in_more, in_last, any_of, any_member}
use Rattle.box_tree.proofs.Boxes.{within_more, within_self, bounds_apart_smaller}

-- ---- one element more

-- the last element
pub last_is : {X : Type 0} (xs : List X) (x : X) (k : ℕ) (d : X) → k ≡ length xs → get_or (xs ++ x ∷ []) k d ≡ x
last_is xs x k d e = get_or-append_right xs (x ∷ []) k k d (sym e) (omega arith) ∙ ap (λ n. get_or (x ∷ []) n d) (none k)
  where
    none : (k : ℕ) → k - k ≡ 0
    none k = omega arith

-- ---- equal boxes

same_interval : (i j : Interval) → int_eq i.low j.low && int_eq i.high j.high ≡ true → i ≡ j
same_interval i j e =
    let p = both_true (int_eq i.low j.low) (int_eq i.high j.high) e in
    λ z. record { low = (Decides-int_eq i.low j.low).0 p.0 z; high = (Decides-int_eq i.high j.high).0 p.1 z }

same_bounds : (b c : Bounds)
    → (int_eq b.x.low c.x.low && int_eq b.x.high c.x.high) && ((int_eq b.y.low c.y.low && int_eq b.y.high c.y.high) && (int_eq b.z.low c.z.low && int_eq b.z.high c.z.high)) ≡ true → b ≡ c
same_bounds b c e =
    let p = both_true _ _ e in
    let q = both_true _ _ p.1 in
    λ z. record { x = same_interval b.x c.x p.0 z; y = same_interval b.y c.y q.0 z; z = same_interval b.z c.z q.1 z }

same_boxed : (b c : Boxed)
    → nat_eq b.place c.place && ((int_eq b.bounds.x.low c.bounds.x.low && int_eq b.bounds.x.high c.bounds.x.high) && ((int_eq b.bounds.y.low c.bounds.y.low && int_eq b.bounds.y.high c.bounds.y.high) && (int_eq b.bounds.z.low c.bounds.z.low && int_eq b.bounds.z.high c.bounds.z.high))) ≡ true
    → b ≡ c
same_boxed b c e =
    let p = both_true _ _ e in
    λ z. record { place = eqb-true b.place c.place p.0 z; bounds = same_bounds b.bounds c.bounds p.1 z }

pub same_keyed : (j k : Keyed)
    → nat_eq j.key k.key && (nat_eq j.own.place k.own.place && ((int_eq j.own.bounds.x.low k.own.bounds.x.low && int_eq j.own.bounds.x.high k.own.bounds.x.high) && ((int_eq j.own.bounds.y.low k.own.bounds.y.low && int_eq j.own.bounds.y.high k.own.bounds.y.high) && (int_eq j.own.bounds.z.low k.own.bounds.z.low && int_eq j.own.bounds.z.high k.own.bounds.z.high)))) ≡ true
    → j ≡ k
same_keyed j k e =
    let p = both_true _ _ e in
    λ z. record { key = eqb-true j.key k.key p.0 z; own = same_boxed j.own k.own p.1 z }

-- ---- keys

pub keyed_none : (boxes : List Boxed) → AreKeyed boxes 0 []
keyed_none boxes = record { counted = refl; each = λ i d e l. absurd (omega arith) }

pub keyed_more : (boxes : List Boxed) (i : ℕ) (keyed : List Keyed) (k : Keyed) → AreKeyed boxes i keyed → HoldsAt (λ b. b ≡ k.own) boxes i → AreKeyed boxes (i + 1) (keyed ++ k ∷ [])
keyed_more boxes i keyed k h at = record {
  counted = (let l = length-append keyed (k ∷ []) in let c = h.counted in omega arith);
  each = λ j d e l. go j d e l (less_or_more j i);
}
  where
    go : (j : ℕ) (d : Keyed) (e : Boxed) → j < i + 1 → (j < i) ⊎ ((j ≡ i) ⊎ (i < j)) → (get_or (keyed ++ k ∷ []) j d).own ≡ get_or boxes j e
    go j d e l (inl m) = let c = h.counted in ap (λ (n : Keyed). n.own) (get_or_append_left keyed (k ∷ []) d j (omega arith)) ∙ h.each j d e m
    go j d e l (inr (inl s)) = let c = h.counted in ap (λ (n : Keyed). n.own) (last_is keyed k j d (omega arith)) ∙ sym (ap (λ n. get_or boxes n e) s ∙ at e)
    go j d e l (inr (inr g)) = absurd (omega arith)

-- a member's box is one of the boxes
box_listed : (boxes : List Boxed) (keyed : List Keyed) → AreKeyed boxes (length boxes) keyed → (k : Keyed) → Contains keyed k → Contains boxes k.own
box_listed boxes keyed h k m =
    let c = h.counted in
    let l : m.0 < length keyed = m.1 in
    let e : get_or boxes m.0 k.own ≡ k.own = sym (h.each m.0 k k.own (omega arith)) ∙ ap (λ (n : Keyed). n.own) m.2 in
    subst (Contains boxes) e (contains_of boxes (get_or boxes m.0 k.own) (at_place boxes m.0 k.own (omega arith)))

-- each box is that of a member
box_keyed : (boxes : List Boxed) (keyed : List Keyed) → AreKeyed boxes (length boxes) keyed → (b : Boxed) → Contains boxes b → Any (λ k. k.own ≡ b) keyed
box_keyed boxes keyed h b m =
    let c = h.counted in
    let l : m.0 < length boxes = m.1 in
    let d : Keyed = record { key = 0; own = b } in
    any_of (λ k. k.own ≡ b) keyed (get_or keyed m.0 d) (contains_of keyed (get_or keyed m.0 d) (at_place keyed m.0 d (omega arith))) (h.each m.0 d b l ∙ m.2)

-- ---- wide boxes

pub holds_first : (boxes : List Keyed) (i : ℕ) (k : Keyed) → i < length boxes → HoldsAt (λ c. c ≡ k) boxes i → HoldsFrom boxes i (i + 1) k.own.bounds
holds_first boxes i k l at j d from to =
    let e : j ≡ i = omega arith in
    subst (λ (c : Keyed). IsBoxWithin c.own.bounds k.own.bounds) (sym (ap (λ n. get_or boxes n d) e ∙ at d)) (within_self k.own.bounds)

pub holds_next : (boxes : List Keyed) (first i : ℕ) (k : Keyed) (old new : Bounds) → HoldsAt (λ c. c ≡ k) boxes i → HoldsFrom boxes first i old → IsBoxWithin old new → IsBoxWithin k.own.bounds new → HoldsFrom boxes first (i + 1) new
holds_next boxes first i k old new at h w v j d from to = go (less_or_more j i)
  where
    go : (j < i) ⊎ ((j ≡ i) ⊎ (i < j)) → IsBoxWithin (get_or boxes j d).own.bounds new
    go (inl l) = within_more (get_or boxes j d).own.bounds old new (h j d from l) w
    go (inr (inl e)) = subst (λ (c : Keyed). IsBoxWithin c.own.bounds new) (sym (ap (λ n. get_or boxes n d) e ∙ at d)) v
    go (inr (inr g)) = absurd (omega arith)

-- ---- nodes

pub nodes_more : (boxes : List Keyed) (i : ℕ) (nodes : List Node) (n : Node) → AreNodes boxes i nodes → IsNode boxes i n → AreNodes boxes (i + 1) (nodes ++ n ∷ [])
nodes_more boxes i nodes n h is = record {
  counted = (let l = length-append nodes (n ∷ []) in let c = h.counted in omega arith);
  each = λ j d l. go j d l (less_or_more j i);
}
  where
    go : (j : ℕ) (d : Node) → j < i + 1 → (j < i) ⊎ ((j ≡ i) ⊎ (i < j)) → IsNode boxes j (get_or (nodes ++ n ∷ []) j d)
    go j d l (inl m) = let c = h.counted in subst (IsNode boxes j) (sym (get_or_append_left nodes (n ∷ []) d j (omega arith))) (h.each j d m)
    go j d l (inr (inl e)) =
        let c = h.counted in
        subst (IsNode boxes j) (sym (last_is nodes n j d (omega arith))) (subst (λ k. IsNode boxes k n) (sym e) is)
    go j d l (inr (inr g)) = absurd (omega arith)

pub nodes_none : (boxes : List Keyed) → AreNodes boxes 0 []
nodes_none boxes = record { counted = refl; each = λ i d l. absurd (omega arith) }

-- all nodes are a tree
pub tree_is : (boxes : List Keyed) (nodes : List Node) → AreNodes boxes (length boxes) nodes → IsTree nodes
tree_is boxes nodes h = record {
  onward = λ i d l. (h.each i d (count i l)).onward;
  there = λ i d l. (let q = (h.each i d (count i l)).there in let c = h.counted in omega arith);
  holds = λ i j d o l p. (let n = h.each i d (count i l) in let q = n.there in let m = h.each j d (omega arith) in let e : Keyed = record { key = 0; own = (get_or nodes j d).own } in subst (λ (b : Boxed). IsBoxWithin b.bounds (get_or nodes i d).wide) (m.own e) (n.holds j e o p));
}
  where
    count : (i : ℕ) → i < length nodes → i < length boxes
    count i l = let c = h.counted in omega arith

pub tree_of_boxes : (boxes : List Boxed) (keyed sorted : List Keyed) (nodes : List Node) → AreKeyed boxes (length boxes) keyed
    → ((k : Keyed) → Contains sorted k ↔ Contains keyed k) → AreNodes sorted (length sorted) nodes → IsTreeOf boxes nodes
tree_of_boxes boxes keyed sorted nodes made same h = record {
  tree = tree_is sorted nodes h;
  listed = λ i d l. (let c = h.counted in listed i d (omega arith));
  each = λ b m. each b (box_keyed boxes keyed made b m);
}
  where
    listed : (i : ℕ) (d : Node) → i < length sorted → Contains boxes (get_or nodes i d).own
    listed i d l =
        let e : Keyed = record { key = 0; own = (get_or nodes i d).own } in
        let k = get_or sorted i e in
        subst (Contains boxes) ((h.each i d l).own e) (box_listed boxes keyed made k ((same k).0 (contains_of sorted k (at_place sorted i e l))))

    node_of : (k : Keyed) (b : Boxed) → Contains sorted k → k.own ≡ b → Any (λ n. n.own ≡ b) nodes
    node_of k b m is =
        let c = h.counted in
        let l : m.0 < length sorted = m.1 in
        let d : Node = record { own = b; wide = b.bounds; past = 0 } in
        any_of (λ n. n.own ≡ b) nodes (get_or nodes m.0 d) (contains_of nodes (get_or nodes m.0 d) (at_place nodes m.0 d (omega arith)))
        (sym ((h.each m.0 d l).own k) ∙ ap (λ (n : Keyed). n.own) m.2 ∙ is)

    each : (b : Boxed) → Any (λ k. k.own ≡ b) keyed → Any (λ n. n.own ≡ b) nodes
    each b a = node_of a.1 b ((same a.1).1 (any_member (λ k. k.own ≡ b) keyed a)) a.4

-- ---- boxes apart

pub apart_wide : (nodes : List Node) (b : Bounds) (first i : ℕ) (n : Node) → IsTree nodes → i < length nodes → HoldsAt (λ m. m ≡ n) nodes i → AreApartBetween nodes b first i → AreBoundsApart n.wide b → AreApartBetween nodes b first n.past
apart_wide nodes b first i n tree l at h apart j d from to = go (less_or_more j i)
  where
    here : i ≤ j → AreBoundsApart (get_or nodes j d).own.bounds b
    here o =
        bounds_apart_smaller (get_or nodes j d).own.bounds (get_or nodes i d).wide b (tree.holds i j d o l (subst (λ (m : Node). j < m.past) (sym (at d)) to))
        (subst (λ (m : Node). AreBoundsApart m.wide b) (sym (at d)) apart)

    go : (j < i) ⊎ ((j ≡ i) ⊎ (i < j)) → AreBoundsApart (get_or nodes j d).own.bounds b
    go (inl m) = h j d from m
    go (inr (inl e)) = here (omega arith)
    go (inr (inr g)) = here (omega arith)

pub apart_own : (nodes : List Node) (b : Bounds) (first i : ℕ) (n : Node) → HoldsAt (λ m. m ≡ n) nodes i → AreApartBetween nodes b first i → AreBoundsApart n.own.bounds b → AreApartBetween nodes b first (i + 1)
apart_own nodes b first i n at h apart j d from to = go (less_or_more j i)
  where
    go : (j < i) ⊎ ((j ≡ i) ⊎ (i < j)) → AreBoundsApart (get_or nodes j d).own.bounds b
    go (inl m) = h j d from m
    go (inr (inl e)) = subst (λ (m : Node). AreBoundsApart m.own.bounds b) (sym (ap (λ k. get_or nodes k d) e ∙ at d)) apart
    go (inr (inr g)) = absurd (omega arith)

-- a node ends after its place, and not after the end of the tree
pub onward_at : (nodes : List Node) (i : ℕ) (n : Node) → IsTree nodes → i < length nodes → HoldsAt (λ m. m ≡ n) nodes i → (i < n.past) × (n.past ≤ length nodes)
onward_at nodes i n tree l at = subst (λ (m : Node). (i < m.past) × (m.past ≤ length nodes)) (at n) (tree.onward i n l, tree.there i n l)

-- ---- a box for each place

-- the boxes are those of the first places
pub record AreBoxesTo (holds : ℕ → Bounds → Type 0) (count : ℕ) (boxes : List Boxed) : Type 0 where
  pub listed : (b : Boxed) → Contains boxes b → (b.place < count) × holds b.place b.bounds
  pub each : (i : ℕ) → i < count → Any (λ b. b.place ≡ i) boxes

pub boxes_none : (holds : ℕ → Bounds → Type 0) → AreBoxesTo holds 0 []
boxes_none holds = record { listed = λ b m. absurd (let l = m.1 in omega arith); each = λ i l. absurd (omega arith) }

pub boxes_more : (holds : ℕ → Bounds → Type 0) (i : ℕ) (boxes : List Boxed) (b : Boxed) → AreBoxesTo holds i boxes → b.place ≡ i → holds i b.bounds → AreBoxesTo holds (i + 1) (boxes ++ b ∷ [])
boxes_more holds i boxes b h e p = record { listed = λ c m. listed c (more_cases c b boxes m); each = λ j l. each j l (less_or_more j i) }
  where
    listed : (c : Boxed) → Contains boxes c ⊎ (c ≡ b) → (c.place < i + 1) × holds c.place c.bounds
    listed c (inl m) = let q = h.listed c m in let l = q.0 in (omega arith, q.1)
    listed c (inr d) = subst (λ (c : Boxed). (c.place < i + 1) × holds c.place c.bounds) (sym d) (omega arith, subst (λ k. holds k b.bounds) (sym e) p)

    each : (j : ℕ) → j < i + 1 → (j < i) ⊎ ((j ≡ i) ⊎ (i < j)) → Any (λ c. c.place ≡ j) (boxes ++ b ∷ [])
    each j l (inl m) = let q = h.each j m in any_of (λ c. c.place ≡ j) (boxes ++ b ∷ []) q.1 (in_more q.1 b boxes (any_member (λ c. c.place ≡ j) boxes q)) q.4
    each j l (inr (inl d)) = any_of (λ c. c.place ≡ j) (boxes ++ b ∷ []) b (in_last b boxes) (e ∙ sym d)
    each j l (inr (inr g)) = absurd (omega arith)

pub tree_over : (holds : ℕ → Bounds → Type 0) (count : ℕ) (boxes : List Boxed) (nodes : List Node) → AreBoxesTo holds count boxes → IsTreeOf boxes nodes → IsTreeOver count holds nodes
tree_over holds count boxes nodes h t = record { tree = t.tree; listed = λ i d l. h.listed (get_or nodes i d).own (t.listed i d l); each = λ i l. each i (h.each i l) }
  where
    each : (i : ℕ) → Any (λ b. b.place ≡ i) boxes → Any (λ n. n.own.place ≡ i) nodes
    each i a =
        let q = t.each a.1 (any_member (λ b. b.place ≡ i) boxes a) in
        any_of (λ n. n.own.place ≡ i) nodes q.1 (any_member (λ n. n.own ≡ a.1) nodes q) (ap (λ (b : Boxed). b.place) q.4 ∙ a.4)

-- the place of a node is one of the list
pub place_there : {holds : ℕ → Bounds → Type 0} {count : ℕ} (nodes : List Node) (i : ℕ) (n : Node) → IsTreeOver count holds nodes → i < length nodes → HoldsAt (λ m. m ≡ n) nodes i → n.own.place < count
place_there {holds} {count} nodes i n t l at = subst (λ (m : Node). m.own.place < count) (at n) (t.listed i n l).0
