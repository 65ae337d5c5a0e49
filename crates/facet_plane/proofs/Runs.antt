-- Boxes and blocks.
use Rattle.std.proofs.Common.{◌≡◌, ◌⊎◌, inl, inr, ℕ, ◌+◌, ◌<◌, List, [], ◌∷◌, ◌++◌, get_or, refl, ap, sym, subst, ◌∙◌, w32, to_z, of_z, arith}
use Rattle.std.specs.List.{HoldsAt}
use Rattle.std.proofs.lemmas.Int.{ints}
use Rattle.std.proofs.lemmas.List.{get_or_append_left, length-append}
use Rattle.std.specs.Prelude.{ℤ, ◌≤ℤ◌}
use Rattle.box_tree.proofs.Lists.{less_or_more}
use Rattle.box_tree.proofs.Trees.{last_is}
use Rattle.sign_predicates.specs.Point.{Point, IsOnGrid}
use Rattle.sign_predicates.proofs.Vectors.{grid_back}
use Rattle.facet_plane.specs.Blocks.{IsBelow, IsHeld, IsSubbox, HoldsBox, HoldsBetween, IsBlock, AreBlocksTo, AreBlocks}
use Rattle.facet_plane.specs.declared.blocks.Extent.{Extent}
use Rattle.facet_plane.specs.declared.blocks.Block.{Block}

below_more : (a b c : Point) → IsBelow a b → IsBelow b c → IsBelow a c
below_more a b c h k = record { x = le a.x b.x c.x h.x k.x; y = le a.y b.y c.y h.y k.y; z = le a.z b.z c.z h.z k.z }
  where
    le : (m n o : ℤ) → m ≤ℤ n → n ≤ℤ o → m ≤ℤ o
    le m n o p q = omega (arith, ints)

below_self : (a : Point) → IsBelow a a
below_self a = record { x = le a.x; y = le a.y; z = le a.z }
  where
    le : (m : ℤ) → m ≤ℤ m
    le m = omega (arith, ints)

pub part_self : (e : Extent) → IsSubbox e e
part_self e = record { low = below_self e.low; high = below_self e.high }

pub part_more : (e f g : Extent) → IsSubbox e f → IsSubbox f g → IsSubbox e g
part_more e f g h k = record { low = below_more g.low f.low e.low k.low h.low; high = below_more e.high f.high g.high h.high k.high }

pub held_more : (e f : Extent) (p : Point) → IsHeld e p → IsSubbox e f → IsHeld f p
held_more e f p h k = record { low = below_more f.low e.low p k.low h.low; high = below_more p e.high f.high h.high k.high }

-- ---- the boxes of a run

pub run_first : (boxes : List Extent) (i : ℕ) (e : Extent) → HoldsAt (λ f. f ≡ e) boxes i → HoldsBetween (HoldsBox boxes) i (i + 1) e
run_first boxes i e at j from to d =
    let k : j ≡ i = omega arith in
    subst (λ f. IsSubbox f e) (sym (ap (λ n. get_or boxes n d) k ∙ at d)) (part_self e)

pub run_next : (boxes : List Extent) (first i : ℕ) (e old new : Extent) → HoldsAt (λ f. f ≡ e) boxes i → HoldsBetween (HoldsBox boxes) first i old → IsSubbox old new → IsSubbox e new → HoldsBetween (HoldsBox boxes) first (i + 1) new
run_next boxes first i e old new at h w v j from to d = go (less_or_more j i)
  where
    go : (j < i) ⊎ ((j ≡ i) ⊎ (i < j)) → IsSubbox (get_or boxes j d) new
    go (inl l) = part_more (get_or boxes j d) old new (h j from l d) w
    go (inr (inl k)) = subst (λ f. IsSubbox f new) (sym (ap (λ n. get_or boxes n d) k ∙ at d)) v
    go (inr (inr g)) = absurd (omega arith)

-- ---- blocks

pub blocks_none : (holds : ℕ → Extent → Type 0) (count : ℕ) → AreBlocksTo holds count 0 []
blocks_none holds count = record { counted = refl; each = λ i d l. absurd (omega arith) }

pub blocks_more : (holds : ℕ → Extent → Type 0) (count i : ℕ) (blocks : List Block) (b : Block) → AreBlocksTo holds count i blocks → IsBlock holds count i b → AreBlocksTo holds count (i + 1) (blocks ++ b ∷ [])
blocks_more holds count i blocks b h is = record {
  counted = (let l = length-append blocks (b ∷ []) in let c = h.counted in omega arith);
  each = λ j d l. go j d l (less_or_more j i);
}
  where
    go : (j : ℕ) (d : Block) → j < i + 1 → (j < i) ⊎ ((j ≡ i) ⊎ (i < j)) → IsBlock holds count j (get_or (blocks ++ b ∷ []) j d)
    go j d l (inl m) = let c = h.counted in subst (IsBlock holds count j) (sym (get_or_append_left blocks (b ∷ []) d j (omega arith))) (h.each j d m)
    go j d l (inr (inl e)) =
        let c = h.counted in
        subst (IsBlock holds count j) (sym (last_is blocks b j d (omega arith))) (subst (λ k. IsBlock holds count k b) (sym e) is)
    go j d l (inr (inr g)) = absurd (omega arith)

-- what the boxes hold is held by the blocks
pub blocks_for : (P Q : ℕ → Extent → Type 0) (count : ℕ) (blocks : List Block) → ((j : ℕ) (e : Extent) → j < count → P j e → Q j e) → AreBlocks P count blocks → AreBlocks Q count blocks
blocks_for P Q count blocks f h = record { counted = h.counted; each = λ i d l. (let b = h.each i d l in let t = b.there in record { onward = b.onward; there = b.there; round = λ j from to. f j _ (omega arith) (b.round j from to) }) }

-- the block at a place
pub block_at : (holds : ℕ → Extent → Type 0) (count i : ℕ) (blocks : List Block) (b : Block) → AreBlocks holds count blocks → i < count → HoldsAt (λ c. c ≡ b) blocks i → IsBlock holds count i b
block_at holds count i blocks b h l at = subst (IsBlock holds count i) (at b) (h.each i b l)

-- ---- points of the grid

-- a point as it is stored
abbrev pub as_stored : Point → Point
as_stored p = record { x = to_z w32 (of_z w32 p.x); y = to_z w32 (of_z w32 p.y); z = to_z w32 (of_z w32 p.z) }

pub stored : (p : Point) → IsOnGrid p → as_stored p ≡ p
stored p h = λ j. record { x = grid_back p.x h.x_low h.x_high j; y = grid_back p.y h.y_low h.y_high j; z = grid_back p.z h.z_low h.z_high j }
