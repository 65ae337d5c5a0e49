-- The outlines of a facet: walks along them, and the places of those round a point.
use Rattle.std.proofs.Common.{◌≡◌, ◌⊎◌, inl, inr, ℕ, zero, suc, ◌+◌, ◌-◌, ◌<◌, ◌≤◌, Bool, true, false, cond, not, ◌||◌, ◌&&◌, List, [], ◌∷◌, ◌++◌, map, take, drop, length, get_or, refl, ap, sym, subst, ◌∙◌, arith, append_assoc}
use Rattle.std.specs.Prelude.{All, pos, nat_eq}
use Rattle.std.specs.List.{list_any, HoldsAt}
use lib.Pointwise.{pointwise}
use Rattle.std.proofs.lemmas.List.{take_more, length-append, get_or_append_left, get_or-drop, drop-drop, length-drop}
use Rattle.sign_predicates.specs.Point.{Point, RationalPoint, from_to_rational}
use Rattle.geo_laws.specs.Complex.{Polygon}
use Rattle.geo_laws.specs.Facet.{Axis}
use Rattle.box_tree.proofs.Lists.{less_or_more}
use Rattle.box_tree.proofs.Trees.{last_is}
use Rattle.facet_plane.proofs.Around.{none_met, none_round}
use Rattle.facet_plane.proofs.Runs.{block_at, blocks_for, held_more}
use Rattle.facet_plane.proofs.Skips.{any_skip, drop_at, drop_past}
use Rattle.facet_plane.specs.Axes.{axis_is}
use Rattle.facet_plane.specs.Beyond.{IsBeyondBoth}
use Rattle.facet_plane.specs.Blocks.{HoldsBox, AreBlocks}
use Rattle.facet_plane.specs.Corners.{lists_between}
use Rattle.facet_plane.specs.Outline.{HoldsSides, IsBlocked, IsOutlineOf}
use Rattle.facet_plane.specs.Prepared.{shape, shape_of, shape_meets, shape_round, passing_places, HoldsOutline, AreExtentsTo, AreBlocked}
use Rattle.facet_plane.specs.Prepared.{outlines_meet, places_round, is_hole_at, AreHoles}
use Rattle.facet_plane.proofs.Polygons.{lists_next}
use Rattle.facet_plane.specs.declared.blocks.Extent.{Extent}
use Rattle.facet_plane.specs.declared.blocks.Block.{Block}
use Rattle.facet_plane.specs.declared.outline.Outline.{Outline}
use Rattle.facet_plane.specs.declared.outline.Reach.{Reach}
use Rattle.facet_plane.specs.declared.outline.Reach.TheVariants.{On, Over}
use Rattle.facet_plane.specs.declared.prepared.Outlines.{Outlines}

-- ---- lists with one more

pub all_none : {X : Type 0} (P : X → Type 0) → All P []
all_none P i d l = absurd (omega arith)

pub all_more : {X : Type 0} (P : X → Type 0) (xs : List X) (x : X) → All P xs → P x → All P (xs ++ x ∷ [])
all_more P xs x h p i d l = go (less_or_more i (length xs))
  where
    go : (i < length xs) ⊎ ((i ≡ length xs) ⊎ (length xs < i)) → P (get_or (xs ++ x ∷ []) i d)
    go (inl m) = subst P (sym (get_or_append_left xs (x ∷ []) d i m)) (h i d m)
    go (inr (inl e)) = subst P (sym (last_is xs x i d e)) p
    go (inr (inr g)) = absurd (let n = length-append xs (x ∷ []) in omega arith)

pub all_here : {X : Type 0} (P : X → Type 0) (xs : List X) (i : ℕ) (x : X) → All P xs → i < length xs → HoldsAt (λ y. y ≡ x) xs i → P x
all_here P xs i x h l at = subst P (at x) (h i x l)

pub map_more : {X Y : Type 0} (f : X → Y) (xs : List X) (x : X) (ys : List Y) → map f (xs ++ x ∷ []) ++ ys ≡ map f xs ++ f x ∷ ys
map_more f [] x ys = refl
map_more f (z ∷ zs) x ys = ap (λ r. f z ∷ r) (map_more f zs x ys)

-- ---- boxes of outlines

pub extents_none : (os : List Outline) → AreExtentsTo os 0 []
extents_none os = record { counted = refl; each = λ q d l. absurd (omega arith) }

pub extents_more : (os : List Outline) (i : ℕ) (boxes : List Extent) (o : Outline) → AreExtentsTo os i boxes → HoldsAt (λ p. p ≡ o) os i → IsBlocked o → AreExtentsTo os (i + 1) (boxes ++ o.extent ∷ [])
extents_more os i boxes o h at b = record {
  counted = (let l = length-append boxes (o.extent ∷ []) in let c = h.counted in omega arith);
  each = λ j d l. go j d l (less_or_more j i);
}
  where
    go : (j : ℕ) (d : Extent) → j < i + 1 → (j < i) ⊎ ((j ≡ i) ⊎ (i < j)) → HoldsOutline os j (get_or (boxes ++ o.extent ∷ []) j d)
    go j d l (inl m) = let c = h.counted in subst (HoldsOutline os j) (sym (get_or_append_left boxes (o.extent ∷ []) d j (omega arith))) (h.each j d m)
    go j d l (inr (inl k)) =
        let c = h.counted in
        subst (HoldsOutline os j) (sym (last_is boxes o.extent j d (omega arith)))
        (λ t. subst (λ (p : Outline). HoldsSides p.sides o.extent) (sym (ap (λ n. get_or os n t) k ∙ at t)) b.extent)
    go j d l (inr (inr g)) = absurd (omega arith)

-- the boxes hold the outlines, and so do the blocks of the boxes
pub outlines_in_blocks : (os : List Outline) (boxes : List Extent) (blocks : List Block) → AreExtentsTo os (length os) boxes → AreBlocks (HoldsBox boxes) (length boxes) blocks → AreBlocks (HoldsOutline os) (length os) blocks
outlines_in_blocks os boxes blocks h b = blocks_for (HoldsBox boxes) (HoldsOutline os) (length os) blocks held (subst (λ n. AreBlocks (HoldsBox boxes) n blocks) h.counted b)
  where
    held : (q : ℕ) (e : Extent) → q < length os → HoldsBox boxes q e → HoldsOutline os q e
    held q e l k d j m t =
        let p = h.each q e l d j m t in
        (held_more (get_or boxes q e) e (get_or (get_or os q d).sides j t).from p.0 (k e), held_more (get_or boxes q e) e (get_or (get_or os q d).sides j t).to p.1 (k e))

-- ---- a block of outlines that a point is beyond

no_area : (b c : Bool) → c ≡ false → b && c ≡ false
no_area true c e = e
no_area false c e = refl

shape_missed : (reach : Reach) (axis : Axis) (x : RationalPoint) (o : Outline) (e : Extent) → HoldsSides o.sides e → IsBeyondBoth axis (from_to_rational e.low x) (from_to_rational e.high x) → shape_meets reach axis x (shape o) ≡ false
shape_missed On axis x o e h far = no_area o.is_area _ (none_met On axis x o.sides e h far)
shape_missed Over axis x o e h far = none_met Over axis x o.sides e h far

shape_off : (axis : Axis) (x : RationalPoint) (o : Outline) (e : Extent) → IsBlocked o → HoldsSides o.sides e → IsBeyondBoth axis (from_to_rational e.low x) (from_to_rational e.high x) → shape_round axis x (shape o) ≡ false
shape_off axis x o e b h far = no_area o.is_area _ (none_round axis x o e b h far)

pub ahead_of : (o : Outlines) (q : ℕ) (b : Block) → AreBlocked o → q < length o.each → HoldsAt (λ c. c ≡ b) o.blocks q → (q < b.past) × (b.past ≤ length o.each)
ahead_of o q b h l at = let k = block_at (HoldsOutline o.each) (length o.each) q o.blocks b h.blocks l at in (k.onward, k.there)

pub met_apart : (reach : Reach) (x : RationalPoint) (o : Outlines) (q : ℕ) (b : Block) (d : Outline) → AreBlocked o → q < length o.each → HoldsAt (λ c. c ≡ b) o.blocks q
    → IsBeyondBoth (axis_is o.axis) (from_to_rational b.extent.low x) (from_to_rational b.extent.high x)
    → list_any (λ p. shape_meets reach (axis_is o.axis) x (shape p)) (drop q o.each) ≡ list_any (λ p. shape_meets reach (axis_is o.axis) x (shape p)) (drop b.past o.each)
met_apart reach x o q b d h l at far =
    let k = block_at (HoldsOutline o.each) (length o.each) q o.blocks b h.blocks l at in
    let n = k.onward in
    any_skip (λ p. shape_meets reach (axis_is o.axis) x (shape p)) o.each q b.past d (omega arith) k.there
    (λ j from to. shape_missed reach (axis_is o.axis) x (get_or o.each j d) b.extent (k.round j from to d) far)

-- ---- places

places_one : {X : Type 0} (test : X → Bool) (n : ℕ) (xs : List X) (m : ℕ) (d : X) → m ≤ length xs → ((j : ℕ) → j < m → test (get_or xs j d) ≡ false) → passing_places test n xs ≡ passing_places test (n + m) (drop m xs)
places_one test n xs zero d l h = ap (λ k. passing_places test k xs) (none n)
  where
    none : (n : ℕ) → n ≡ n + 0
    none n = omega arith
places_one test n [] (suc m) d l h = absurd (omega arith)
places_one test n (x ∷ xs) (suc m) d l h =
    ap (λ b. cond b (n ∷ passing_places test (n + 1) xs) (passing_places test (n + 1) xs)) (h 0 (omega arith))
    ∙ places_one test (n + 1) xs m d (omega arith) (λ j k. h (suc j) (omega arith))
    ∙ ap (λ k. passing_places test k (drop m xs)) (more n m)
  where
    more : (n m : ℕ) → n + 1 + m ≡ n + suc m
    more n m = omega arith

pub places_skip : {X : Type 0} (test : X → Bool) (xs : List X) (i past : ℕ) (d : X) → i ≤ past → past ≤ length xs → ((j : ℕ) → i ≤ j → j < past → test (get_or xs j d) ≡ false)
    → passing_places test i (drop i xs) ≡ passing_places test past (drop past xs)
places_skip test xs i past d l m h =
    places_one test i (drop i xs) (past - i) d (let e = length-drop i xs in omega arith)
    (λ j k. subst (λ y. test y ≡ false) (sym (get_or-drop i xs j d)) (h (i + j) (omega arith) (omega arith)))
    ∙ (λ t. passing_places test (back i past l t) ((drop-drop (past - i) i xs ∙ ap (λ n. drop n xs) (back i past l)) t))
  where
    back : (i past : ℕ) → i ≤ past → i + (past - i) ≡ past
    back i past l = omega arith

pub places_apart : (x : RationalPoint) (o : Outlines) (q : ℕ) (b : Block) (d : Outline) → AreBlocked o → q < length o.each → HoldsAt (λ c. c ≡ b) o.blocks q
    → IsBeyondBoth (axis_is o.axis) (from_to_rational b.extent.low x) (from_to_rational b.extent.high x)
    → passing_places (λ p. shape_round (axis_is o.axis) x (shape p)) b.past (drop b.past o.each) ≡ passing_places (λ p. shape_round (axis_is o.axis) x (shape p)) q (drop q o.each)
places_apart x o q b d h l at far =
    let k = block_at (HoldsOutline o.each) (length o.each) q o.blocks b h.blocks l at in
    let n = k.onward in
    let m = k.there in
    sym (places_skip (λ p. shape_round (axis_is o.axis) x (shape p)) o.each q b.past d (omega arith) k.there
    (λ j from to. shape_off (axis_is o.axis) x (get_or o.each j d) b.extent (h.each j d (omega arith)) (k.round j from to d) far))

pub places_hit : {X : Type 0} (test : X → Bool) (xs : List X) (i : ℕ) (x : X) (found more : List ℕ) → i < length xs → HoldsAt (λ y. y ≡ x) xs i → test x ≡ true → more ≡ found ++ i ∷ []
    → more ++ passing_places test (i + 1) (drop (i + 1) xs) ≡ found ++ passing_places test i (drop i xs)
places_hit test xs i x found more l at e f =
    ap (λ ps. ps ++ passing_places test (i + 1) (drop (i + 1) xs)) f ∙ append_assoc found (i ∷ []) (passing_places test (i + 1) (drop (i + 1) xs))
    ∙ ap (λ ps. found ++ ps) (sym (ap (passing_places test i) (drop_at xs i x l at) ∙ ap (λ b. cond b (i ∷ passing_places test (i + 1) (drop (i + 1) xs)) (passing_places test (i + 1) (drop (i + 1) xs))) e))

pub places_miss : {X : Type 0} (test : X → Bool) (xs : List X) (i : ℕ) (x : X) → i < length xs → HoldsAt (λ y. y ≡ x) xs i → test x ≡ false
    → passing_places test (i + 1) (drop (i + 1) xs) ≡ passing_places test i (drop i xs)
places_miss test xs i x l at e = sym (ap (passing_places test i) (drop_at xs i x l at) ∙ ap (λ b. cond b (i ∷ passing_places test (i + 1) (drop (i + 1) xs)) (passing_places test (i + 1) (drop (i + 1) xs))) e)

pub places_past : {X : Type 0} (test : X → Bool) (xs : List X) (i : ℕ) (found : List ℕ) → length xs ≤ i → found ≡ found ++ passing_places test i (drop i xs)
places_past test xs i found l = sym (ap (λ ys. found ++ passing_places test i ys) (drop_past xs i l) ∙ none found)
  where
    none : (ys : List ℕ) → ys ++ [] ≡ ys
    none [] = refl
    none (y ∷ ys) = ap (λ r. y ∷ r) (none ys)

-- an outline with no side
pub no_outline : Outline
no_outline =
    let p : Point = record { x = pos 0; y = pos 0; z = pos 0 } in
    record { is_area = false; sides = []; blocks = []; extent = record { low = p; high = p } }

-- ---- one polygon more

pub shapes_next : (ps : List Point) (polygons : List Polygon) (q past : ℕ) (cs : List ℕ) (os more : List Outline) (o : Outline) → q < past → past ≤ length polygons → HoldsAt (λ p. p.corners ≡ cs) polygons q
    → IsOutlineOf ps cs o → more ≡ os ++ o ∷ []
    → map shape more ++ map (shape_of ps) (lists_between polygons (q + 1) past) ≡ map shape os ++ map (shape_of ps) (lists_between polygons q past)
shapes_next ps polygons q past cs os more o l m at h e =
    ap (λ xs. map shape xs ++ map (shape_of ps) (lists_between polygons (q + 1) past)) e
    ∙ map_more shape os o (map (shape_of ps) (lists_between polygons (q + 1) past))
    ∙ (λ j. map shape os ++ is j ∷ map (shape_of ps) (lists_between polygons (q + 1) past))
    ∙ ap (λ xs. map shape os ++ map (shape_of ps) xs) (sym (lists_next polygons q past cs l m at))
  where
    is : shape o ≡ shape_of ps cs
    is = λ j. record { is_area = h.area j; sides = h.sides j }

-- ---- one hole point more

any_more : {X : Type 0} (test : X → Bool) (xs : List X) (x : X) → list_any test (xs ++ x ∷ []) ≡ (list_any test xs || test x)
any_more test [] x = or_none (test x)
  where
    or_none : (b : Bool) → b || false ≡ b
    or_none true = refl
    or_none false = refl
any_more test (y ∷ ys) x = ap (λ b. test y || b) (any_more test ys x) ∙ nested (test y) (list_any test ys) (test x)
  where
    nested : (a b c : Bool) → a || (b || c) ≡ ((a || b) || c)
    nested true b c = refl
    nested false b c = refl

take_next : {X : Type 0} (xs : List X) (i : ℕ) (x : X) → i < length xs → HoldsAt (λ y. y ≡ x) xs i → take (i + 1) xs ≡ take i xs ++ x ∷ []
take_next xs i x l at = take_more xs i x l ∙ ap (λ y. take i xs ++ y ∷ []) (at x)

pub hole_counts : (o : Outlines) (hs : List RationalPoint) (i : ℕ) (h : RationalPoint) (lists more : List (List ℕ)) (places : List ℕ) → i < length hs → HoldsAt (λ y. y ≡ h) hs i → AreHoles o (take i hs) lists
    → outlines_meet Over o h ≡ false → places ≡ places_round o h → more ≡ lists ++ places ∷ [] → AreHoles o (take (i + 1) hs) more
hole_counts o hs i h lists more places l at found off e f v =
    ap (list_any (pointwise nat_eq v)) f ∙ any_more (pointwise nat_eq v) lists places
    ∙ (λ j. found v j || not (sym off j) && pointwise nat_eq v (e j))
    ∙ sym (ap (list_any (is_hole_at o v)) (take_next hs i h l at) ∙ any_more (is_hole_at o v) (take i hs) h)

pub hole_passed : (o : Outlines) (hs : List RationalPoint) (i : ℕ) (h : RationalPoint) (lists : List (List ℕ)) → i < length hs → HoldsAt (λ y. y ≡ h) hs i → AreHoles o (take i hs) lists
    → outlines_meet Over o h ≡ true → AreHoles o (take (i + 1) hs) lists
hole_passed o hs i h lists l at found on v =
    found v ∙ sym (or_none (list_any (is_hole_at o v) (take i hs)))
    ∙ (λ j. list_any (is_hole_at o v) (take i hs) || not (sym on j) && pointwise nat_eq v (places_round o h))
    ∙ sym (ap (list_any (is_hole_at o v)) (take_next hs i h l at) ∙ any_more (is_hole_at o v) (take i hs) h)
  where
    or_none : (b : Bool) → b || false ≡ b
    or_none true = refl
    or_none false = refl

pub no_holes : (o : Outlines) (lists : List (List ℕ)) → lists ≡ [] → AreHoles o [] lists
no_holes o lists e v = ap (list_any (pointwise nat_eq v)) e
