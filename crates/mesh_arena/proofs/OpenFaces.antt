-- How links take the open faces of a star away.
use Rattle.std.proofs.Common.{◌≡◌, ◌≢◌, ℕ, ◌+◌, ◌*◌, ◌<◌, ◌≤◌, List, length, get_or, set, map, Option, Some, None, IsSome, refl, sym, ap, subst, ◌∙◌, inl, inr, arith}
use Rattle.std.specs.List.{sum}
use Rattle.std.proofs.lemmas.Bool.{cases_eq}
use Rattle.std.proofs.lemmas.List.{ext_get_or, get_or-map, get_or_default, get_or-set_same, get_or-set_other, length-map, length-set}
use Rattle.std.proofs.lemmas.List.Sums.{sum-map, sum_by-set, sum_by-le, get_or-le-sum_by}
use Rattle.mesh_arena.specs.declared.slot.Corner.{Corner}
use Rattle.mesh_arena.specs.declared.arena.SlotFace.{SlotFace}
use Rattle.mesh_arena.specs.declared.slot.RimFace.{RimFace}
use Rattle.mesh_arena.specs.Mesh.{SlotValue, link_behind, at, IsArenaMesh, Links}
use Rattle.mesh_arena.specs.Star.{behind, rim_at, no_face, behind_rim}
use Rattle.mesh_arena.specs.StarLinks.{IsStar, LinksStar, open_side, open_at, open_behind, open_faces}
use Rattle.mesh_arena.proofs.Pairs.{rim_side, star_live}

-- two terms of a sum are one less
two_less : (xs ys : List ℕ) (a b : ℕ) → length ys ≡ length xs → a < length xs → b < length xs → b ≢ a → get_or ys a 0 + 1 ≡ get_or xs a 0 → get_or ys b 0 + 1 ≡ get_or xs b 0
    → ((k : ℕ) → k < length xs → k ≢ a → k ≢ b → get_or ys k 0 ≡ get_or xs k 0) → sum ys + 2 ≡ sum xs
two_less xs ys a b len la lb ba ea eb rest =
    let one : List ℕ = set xs a (get_or ys a 0) in
    let two : List ℕ = set one b (get_or ys b 0) in
    let long : length one ≡ length xs = length-set xs a (get_or ys a 0) in
    let longer : length two ≡ length one = length-set one b (get_or ys b 0) in
    let lb1 : b < length one = omega arith in
    let same : ys ≡ two = ext_get_or 0 ys two (len ∙ sym long ∙ sym longer) (λ k lt. elim (cases_eq k b) [
      | inl kb ↦ rw kb (sym (get_or-set_same one b (get_or ys b 0) 0 lb1))
      | inr kb ↦ elim (cases_eq k a) [
        | inl ka ↦ rw ka (sym (get_or-set_other one b a (get_or ys b 0) 0 (λ e. ba (sym e)) ∙ get_or-set_same xs a (get_or ys a 0) 0 la))
        | inr ka ↦ rest k (omega arith) ka kb ∙ sym (get_or-set_other one b k (get_or ys b 0) 0 kb ∙ get_or-set_other xs a k (get_or ys a 0) 0 ka)
      ]
    ]) in
    omega (arith, ap sum same, sum_by-set (λ n. n) xs a (get_or ys a 0) 0 la, sum_by-set (λ n. n) one b (get_or ys b 0) 0 lb1, get_or-set_other xs a b (get_or ys a 0) 0 ba, ea, eb)

some_from_open : (o : Option SlotFace) → open_side o ≡ 0 → IsSome o
some_from_open None e = absurd (omega arith)
some_from_open (Some b) e = refl

-- a face that gets a neighbor is open no more
open_less : (old new : List (Option SlotValue)) (s i : ℕ) (b : SlotFace) → i < 4 → link_behind old s i ≡ None → link_behind new s i ≡ Some b → ((k : ℕ) → k ≢ i → link_behind new s k ≡ link_behind old s k) → open_at new s + 1 ≡ open_at old s
open_less old new s i b i4 was is rest =
    let before : open_side (link_behind old s i) ≡ 1 = ap open_side was in
    let after : open_side (link_behind new s i) ≡ 0 = ap open_side is in
    let same : (k : ℕ) → k ≢ i → open_side (link_behind new s k) ≡ open_side (link_behind old s k) = λ k differ. ap open_side (rest k differ) in
    elim (cases_eq i 0) [
      | inl i0 ↦ omega (arith, subst (λ n. open_side (link_behind old s n) ≡ 1) i0 before, subst (λ n. open_side (link_behind new s n) ≡ 0) i0 after, same 1 (λ e. omega arith), same 2 (λ e. omega arith), same 3 (λ e. omega arith))
      | inr n0 ↦ elim (cases_eq i 1) [
        | inl i1 ↦ omega (arith, subst (λ n. open_side (link_behind old s n) ≡ 1) i1 before, subst (λ n. open_side (link_behind new s n) ≡ 0) i1 after, same 0 (λ e. omega arith), same 2 (λ e. omega arith), same 3 (λ e. omega arith))
        | inr n1 ↦ elim (cases_eq i 2) [
          | inl i2 ↦ omega (arith, subst (λ n. open_side (link_behind old s n) ≡ 1) i2 before, subst (λ n. open_side (link_behind new s n) ≡ 0) i2 after, same 0 (λ e. omega arith), same 1 (λ e. omega arith), same 3 (λ e. omega arith))
          | inr n2 ↦
              let i3 : i ≡ 3 = omega arith in
              omega (arith, subst (λ n. open_side (link_behind old s n) ≡ 1) i3 before, subst (λ n. open_side (link_behind new s n) ≡ 0) i3 after, same 0 (λ e. omega arith), same 1 (λ e. omega arith), same 2 (λ e. omega arith))
        ]
      ]
    ]

-- one with a neighbor is not open
open_le_three : (slots : List (Option SlotValue)) (s i : ℕ) (b : SlotFace) → i < 4 → link_behind slots s i ≡ Some b → open_at slots s ≤ 3
open_le_three slots s i b i4 is =
    let here : open_side (link_behind slots s i) ≡ 0 = ap open_side is in
    let most : (k : ℕ) → open_side (link_behind slots s k) ≤ 1 = λ k. open_le_one (link_behind slots s k) in
    elim (cases_eq i 0) [
      | inl i0 ↦ omega (arith, subst (λ n. open_side (link_behind slots s n) ≡ 0) i0 here, most 1, most 2, most 3)
      | inr n0 ↦ elim (cases_eq i 1) [
        | inl i1 ↦ omega (arith, subst (λ n. open_side (link_behind slots s n) ≡ 0) i1 here, most 0, most 2, most 3)
        | inr n1 ↦ elim (cases_eq i 2) [
          | inl i2 ↦ omega (arith, subst (λ n. open_side (link_behind slots s n) ≡ 0) i2 here, most 0, most 1, most 3)
          | inr n2 ↦
              let i3 : i ≡ 3 = omega arith in
              omega (arith, subst (λ n. open_side (link_behind slots s n) ≡ 0) i3 here, most 0, most 1, most 2)
        ]
      ]
    ]
  where
    open_le_one : (o : Option SlotFace) → open_side o ≤ 1
    open_le_one None = omega arith
    open_le_one (Some b) = omega arith

none_open : (slots : List (Option SlotValue)) (s m : ℕ) → m < 4 → open_at slots s ≡ 0 → IsSome (link_behind slots s m)
none_open slots s m m4 none =
    some_from_open (link_behind slots s m) (elim (cases_eq m 0) [
      | inl m0 ↦ rw m0 (omega arith)
      | inr n0 ↦ elim (cases_eq m 1) [
        | inl m1 ↦ rw m1 (omega arith)
        | inr n1 ↦ elim (cases_eq m 2) [
          | inl m2 ↦ rw m2 (omega arith)
          | inr n2 ↦ let m3 : m ≡ 3 = omega arith in rw m3 (omega arith)
        ]
      ]
    ])

open_same : (old new : List (Option SlotValue)) (u : ℕ) → ((k : ℕ) → link_behind new u k ≡ link_behind old u k) → open_at new u ≡ open_at old u
open_same old new u same = rw (same 0, same 1, same 2, same 3) refl

open_read : (slots : List (Option SlotValue)) (rim : List RimFace) (k : ℕ) → k < length rim → get_or (map (open_behind slots) rim) k 0 ≡ open_at slots (behind_rim slots rim k).slot
open_read slots rim k lt = get_or-map (open_behind slots) rim k no_face 0 lt

module _ (old new : List (Option SlotValue)) (rim : List RimFace) (p : Corner) (star : IsStar old rim p) where
  kept : (links : LinksStar old new rim p 0) (t : ℕ) → t < length rim → behind_rim new rim t ≡ behind_rim old rim t
  kept links t lt = ap behind (links.sides _ _ (λ q qlt e. star.outside q t qlt lt e))

  -- a link takes two open faces away
  pub open_faces-link : LinksStar old new rim p 0 → (a b s i t j : ℕ) → a < length rim → b < length rim → s ≡ (behind_rim old rim a).slot → t ≡ (behind_rim old rim b).slot
      → i < 4 → j < 4 → s ≢ t → link_behind old s i ≡ None → link_behind old t j ≡ None → Links old new s i t j → open_faces new rim + 2 ≡ open_faces old rim
  open_faces-link star_links a b s i t j la lb es et i4 j4 differ free_a free_b links =
      let xs : List ℕ = map (open_behind old) rim in
      let ys : List ℕ = map (open_behind new) rim in
      let long : length xs ≡ length rim = length-map rim (open_behind old) in
      let long_too : length ys ≡ length rim = length-map rim (open_behind new) in
      let now : (k : ℕ) → k < length rim → get_or ys k 0 ≡ open_at new (behind_rim old rim k).slot = λ k lt. open_read new rim k lt ∙ ap (λ (f : SlotFace). open_at new f.slot) (kept star_links k lt) in
      let at_a = open_less old new s i (at t j) i4 free_a links.first (λ k ki. links.others s k (inr ki) (inl differ)) in
      let at_b = open_less old new t j (at s i) j4 free_b links.second (λ k kj. links.others t k (inl (λ e. differ (sym e))) (inr kj)) in
      let sums = two_less xs ys a b (long_too ∙ sym long) (omega arith) (omega arith) (λ e. differ (es ∙ ap (λ n. (behind_rim old rim n).slot) (sym e) ∙ sym et))
      (omega (arith, now a la, open_read old rim a la, at_a, ap (open_at new) es, ap (open_at old) es))
      (omega (arith, now b lb, open_read old rim b lb, at_b, ap (open_at new) et, ap (open_at old) et))
      (λ k lt ka kb. let k_lt : k < length rim = omega arith in
      now k k_lt ∙ open_same old new (behind_rim old rim k).slot (λ m. links.others (behind_rim old rim k).slot m (inl (λ e. ka (star.apart k a k_lt la (e ∙ es)))) (inl (λ e. kb (star.apart k b k_lt lb (e ∙ et))))) ∙ sym (open_read old rim k k_lt)) in
      omega (arith, sums, sum-map (open_behind old) rim, sum-map (open_behind new) rim)

  -- a star none of whose faces is open is linked
  pub LinksStar-all : LinksStar old new rim p 0 → open_faces new rim ≡ 0 → LinksStar old new rim p (length rim)
  LinksStar-all links none =
      record {
        len = links.len;
        corners = links.corners;
        star = links.star;
        sides = links.sides;
        linked = λ q m lt m4.
            let le = get_or-le-sum_by (open_behind new) rim q no_face lt in
            let zero : open_at new (behind_rim new rim q).slot ≡ 0 = omega (arith, le, none) in
            subst (λ (f : SlotFace). IsSome (link_behind new f.slot m)) (kept links q lt) (none_open new (behind_rim new rim q).slot m m4 zero);
      }

-- each slot of a star has a neighbor on the rim
pub open_faces-le : (slots : List (Option SlotValue)) (rim : List RimFace) (p : Corner) → IsArenaMesh slots → IsStar slots rim p → open_faces slots rim ≤ length rim * 3
open_faces-le slots rim p mesh star =
    sum_by-le (open_behind slots) 3 rim (λ k d lt.
    let is : get_or rim k d ≡ rim_at rim k = get_or_default rim k d no_face lt in
    subst (λ (f : RimFace). open_behind slots f ≤ 3) (sym is) (open_le_three slots (behind_rim slots rim k).slot (behind_rim slots rim k).face _ (star_live slots rim p mesh star k lt).1 (rim_side slots rim p mesh star k lt)))
