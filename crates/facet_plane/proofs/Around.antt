-- Walks along the sides of an outline, block by block.
use Rattle.std.proofs.Common.{◌≡◌, ◌⊎◌, inl, inr, ℕ, ◌+◌, ◌-◌, ◌<◌, ◌≤◌, Bool, true, false, ◌||◌, List, [], ◌∷◌, ◌++◌, map, drop, length, get_or, refl, ap, sym, subst, ◌∙◌, arith}
use Rattle.std.specs.List.{list_any, HoldsAt}
use Rattle.std.proofs.lemmas.List.{length-append, get_or_append_left}
use Rattle.sign_predicates.specs.Point.{Point, RationalPoint, from_to_rational}
use Rattle.geo_laws.specs.Facet.{Axis}
use Rattle.geo_laws.specs.Segment.{sides}
use Rattle.box_tree.proofs.Lists.{less_or_more}
use Rattle.box_tree.proofs.Trees.{last_is}
use Rattle.facet_plane.proofs.Boxed.{apart_met, never_crossed, between_crossed, level_beyond}
use Rattle.facet_plane.proofs.Runs.{block_at, blocks_for, held_more}
use Rattle.facet_plane.proofs.Skips.{any_skip, odd_skip, odd_between, drop_at, drop_past, odd_around, odd_none, any_none, same_xor, around_sides}
use Rattle.facet_plane.specs.Beyond.{IsBeyondBoth, Tells}
use Rattle.facet_plane.specs.Blocks.{IsHeld, HoldsBox, AreBlocks, HoldsBetween}
use Rattle.facet_plane.specs.Outline.{side_between, IsChain, side_meets, side_crosses, is_under, HoldsSide, HoldsSides, AreBoxesTo, IsBlocked}
use Rattle.facet_plane.specs.Walk.{is_odd}
use Rattle.facet_plane.specs.declared.blocks.Extent.{Extent}
use Rattle.facet_plane.specs.declared.blocks.Block.{Block}
use Rattle.facet_plane.specs.declared.outline.Side.{Side}
use Rattle.facet_plane.specs.declared.outline.Outline.{Outline}
use Rattle.facet_plane.specs.declared.outline.Reach.{Reach}
use Rattle.facet_plane.specs.declared.outline.Crossing.TheVariants.{Never, Between}
use Rattle.facet_laws.specs.Parity.{xor}

-- ---- the next item

pub any_hit : {X : Type 0} (test : X → Bool) (xs : List X) (i : ℕ) (x : X) → i < length xs → HoldsAt (λ y. y ≡ x) xs i → test x ≡ true → list_any test (drop i xs) ≡ true
any_hit test xs i x l at e = ap (list_any test) (drop_at xs i x l at) ∙ ap (λ b. b || list_any test (drop (i + 1) xs)) e

pub any_miss : {X : Type 0} (test : X → Bool) (xs : List X) (i : ℕ) (x : X) → i < length xs → HoldsAt (λ y. y ≡ x) xs i → test x ≡ false → list_any test (drop i xs) ≡ list_any test (drop (i + 1) xs)
any_miss test xs i x l at e = ap (list_any test) (drop_at xs i x l at) ∙ ap (λ b. b || list_any test (drop (i + 1) xs)) e

pub any_past : {X : Type 0} (test : X → Bool) (xs : List X) (i : ℕ) → length xs ≤ i → list_any test (drop i xs) ≡ false
any_past test xs i l = ap (list_any test) (drop_past xs i l)

xor_assoc : (a b c : Bool) → xor (xor a b) c ≡ xor a (xor b c)
xor_assoc true true true = refl
xor_assoc true true false = refl
xor_assoc true false c = refl
xor_assoc false b c = refl

xor_none : (a : Bool) → xor a false ≡ a
xor_none true = refl
xor_none false = refl

pub odd_next : {X : Type 0} (test : X → Bool) (xs : List X) (i : ℕ) (x : X) (odd b : Bool) → i < length xs → HoldsAt (λ y. y ≡ x) xs i → b ≡ test x → xor (xor odd b) (is_odd test (drop (i + 1) xs)) ≡ xor odd (is_odd test (drop i xs))
odd_next test xs i x odd b l at e =
    xor_assoc odd b (is_odd test (drop (i + 1) xs))
    ∙ ap (xor odd) (ap (λ t. xor t (is_odd test (drop (i + 1) xs))) e ∙ sym (ap (is_odd test) (drop_at xs i x l at)))

pub odd_past : {X : Type 0} (test : X → Bool) (xs : List X) (i : ℕ) (odd : Bool) → length xs ≤ i → odd ≡ xor odd (is_odd test (drop i xs))
odd_past test xs i odd l = sym (ap (λ ys. xor odd (is_odd test ys)) (drop_past xs i l) ∙ xor_none odd)

-- ---- a block

pub any_apart : (reach : Reach) (axis : Axis) (x : RationalPoint) (o : Outline) (i : ℕ) (b : Block) → IsBlocked o → i < length o.sides → HoldsAt (λ c. c ≡ b) o.blocks i
    → IsBeyondBoth axis (from_to_rational b.extent.low x) (from_to_rational b.extent.high x) → list_any (side_meets reach axis x) (drop i o.sides) ≡ list_any (side_meets reach axis x) (drop b.past o.sides)
any_apart reach axis x o i b h l at far =
    let k = block_at (HoldsSide o.sides) (length o.sides) i o.blocks b h.blocks l at in
    let n = k.onward in
    any_skip (side_meets reach axis x) o.sides i b.past none (omega arith) k.there
    (λ j from to. (let q = k.round j from to none in apart_met reach axis b.extent (get_or o.sides j none) x q.0 q.1 far))
  where
    none : Side
    none = record { from = b.extent.low; to = b.extent.low }

pub odd_never : (axis : Axis) (x : RationalPoint) (o : Outline) (i : ℕ) (b : Block) → IsBlocked o → i < length o.sides → HoldsAt (λ c. c ≡ b) o.blocks i
    → Tells axis (from_to_rational b.extent.low x) (from_to_rational b.extent.high x) Never → is_odd (side_crosses axis x) (drop b.past o.sides) ≡ is_odd (side_crosses axis x) (drop i o.sides)
odd_never axis x o i b h l at tells =
    let k = block_at (HoldsSide o.sides) (length o.sides) i o.blocks b h.blocks l at in
    let n = k.onward in
    sym (odd_skip (side_crosses axis x) o.sides i b.past none (omega arith) k.there
    (λ j from to. (let q = k.round j from to none in never_crossed axis b.extent (get_or o.sides j none) x q.0 q.1 tells)))
  where
    none : Side
    none = record { from = b.extent.low; to = b.extent.low }

pub odd_block : (axis : Axis) (x : RationalPoint) (o : Outline) (i : ℕ) (b : Block) (first last : Side) (odd r : Bool) → IsBlocked o → i < length o.sides → HoldsAt (λ c. c ≡ b) o.blocks i
    → HoldsAt (λ s. s ≡ first) o.sides i → HoldsAt (λ s. s ≡ last) o.sides (b.past - 1)
    → Tells axis (from_to_rational b.extent.low x) (from_to_rational b.extent.high x) Between → r ≡ xor (is_under axis x first.from) (is_under axis x last.to)
    → xor (xor odd r) (is_odd (side_crosses axis x) (drop b.past o.sides)) ≡ xor odd (is_odd (side_crosses axis x) (drop i o.sides))
odd_block axis x o i b first last odd r h l at at_first at_last tells e =
    let k = block_at (HoldsSide o.sides) (length o.sides) i o.blocks b h.blocks l at in
    xor_assoc odd r (is_odd (side_crosses axis x) (drop b.past o.sides))
    ∙ ap (xor odd) (ap (λ t. xor t (is_odd (side_crosses axis x) (drop b.past o.sides))) e
    ∙ sym (odd_between (side_crosses axis x) (is_under axis x) h.around.0 o.sides h.around.0 i b.past first last h.around.1 k.onward k.there at_first at_last
    (λ j d from to. (let q = k.round j from to d in between_crossed axis b.extent (get_or o.sides j d) x q.0 q.1 tells))))

-- ---- boxes of sides

pub boxes_none : (ss : List Side) → AreBoxesTo ss 0 []
boxes_none ss = record { counted = refl; each = λ j d l. absurd (omega arith) }

pub boxes_more : (ss : List Side) (i : ℕ) (boxes : List Extent) (e : Extent) (s : Side) → AreBoxesTo ss i boxes → HoldsAt (λ t. t ≡ s) ss i → IsHeld e s.from → IsHeld e s.to → AreBoxesTo ss (i + 1) (boxes ++ e ∷ [])
boxes_more ss i boxes e s h at from to = record {
  counted = (let l = length-append boxes (e ∷ []) in let c = h.counted in omega arith);
  each = λ j d l. go j d l (less_or_more j i);
}
  where
    go : (j : ℕ) (d : Extent) → j < i + 1 → (j < i) ⊎ ((j ≡ i) ⊎ (i < j)) → HoldsSide ss j (get_or (boxes ++ e ∷ []) j d)
    go j d l (inl m) = let c = h.counted in subst (HoldsSide ss j) (sym (get_or_append_left boxes (e ∷ []) d j (omega arith))) (h.each j d m)
    go j d l (inr (inl k)) =
        let c = h.counted in
        subst (HoldsSide ss j) (sym (last_is boxes e j d (omega arith)))
        (λ t. subst (λ (u : Side). IsHeld e u.from × IsHeld e u.to) (sym (ap (λ n. get_or ss n t) k ∙ at t)) (from, to))
    go j d l (inr (inr g)) = absurd (omega arith)

-- what holds a box holds the side in it
pub side_held : (ss : List Side) (boxes : List Extent) (j : ℕ) (f : Extent) → AreBoxesTo ss (length ss) boxes → j < length ss → HoldsBox boxes j f → HoldsSide ss j f
side_held ss boxes j f h l k d =
    let q = h.each j f l d in
    (held_more (get_or boxes j f) f (get_or ss j d).from q.0 (k f), held_more (get_or boxes j f) f (get_or ss j d).to q.1 (k f))

-- ---- a whole outline that a point is beyond

pub none_met : (reach : Reach) (axis : Axis) (x : RationalPoint) (ss : List Side) (e : Extent) → HoldsSides ss e → IsBeyondBoth axis (from_to_rational e.low x) (from_to_rational e.high x) → list_any (side_meets reach axis x) ss ≡ false
none_met reach axis x ss e h far = any_none (side_meets reach axis x) ss (λ j d l. (let q = h j l d in apart_met reach axis e (get_or ss j d) x q.0 q.1 far))

-- the sides lead round, so an even number of them crosses the ray
pub none_round : (axis : Axis) (x : RationalPoint) (o : Outline) (e : Extent) → IsBlocked o → HoldsSides o.sides e → IsBeyondBoth axis (from_to_rational e.low x) (from_to_rational e.high x) → is_odd (side_crosses axis x) o.sides ≡ false
none_round axis x o e b h far = go far
  where
    never : Tells axis (from_to_rational e.low x) (from_to_rational e.high x) Never → is_odd (side_crosses axis x) o.sides ≡ false
    never t = odd_none (side_crosses axis x) o.sides (λ j d l. (let q = h j l d in never_crossed axis e (get_or o.sides j d) x q.0 q.1 t))

    between : Tells axis (from_to_rational e.low x) (from_to_rational e.high x) Between → is_odd (side_crosses axis x) o.sides ≡ false
    between t =
        odd_around (side_crosses axis x) (is_under axis x) b.around.0 o.sides b.around.0 b.around.1
        (λ j d l. (let q = h j l d in between_crossed axis e (get_or o.sides j d) x q.0 q.1 t))
        ∙ same_xor (is_under axis x b.around.0) (is_under axis x b.around.0) refl

    go : IsBeyondBoth axis (from_to_rational e.low x) (from_to_rational e.high x) → is_odd (side_crosses axis x) o.sides ≡ false
    go (inl (inl k)) = never (inr k)
    go (inl (inr k)) = between k
    go (inr k) = never (inl (level_beyond _ _ k))

-- ---- an outline

pub outline_blocked : (ps : List Point) (polygon : List ℕ) (o : Outline) (boxes : List Extent) → o.sides ≡ map (side_between ps) (sides polygon) → AreBoxesTo o.sides (length o.sides) boxes
    → AreBlocks (HoldsBox boxes) (length boxes) o.blocks → HoldsBetween (HoldsBox boxes) 0 (length boxes) o.extent → IsBlocked o
outline_blocked ps polygon o boxes e h b w = record {
  around = subst (λ ss. (p : Point) × IsChain p ss p) (sym e) (around_sides ps polygon);
  blocks = blocks_for (HoldsBox boxes) (HoldsSide o.sides) (length o.sides) o.blocks (λ j f l k. side_held o.sides boxes j f h l k) (subst (λ n. AreBlocks (HoldsBox boxes) n o.blocks) h.counted b);
  extent = λ j l. (let c = h.counted in side_held o.sides boxes j o.extent h l (w j (omega arith) (omega arith)));
}

-- a block ends after its place, and not after the end of the list
pub ahead : (o : Outline) (i : ℕ) (b : Block) → IsBlocked o → i < length o.sides → HoldsAt (λ c. c ≡ b) o.blocks i → (i < b.past) × (b.past ≤ length o.sides)
ahead o i b h l at = let k = block_at (HoldsSide o.sides) (length o.sides) i o.blocks b h.blocks l at in (k.onward, k.there)
