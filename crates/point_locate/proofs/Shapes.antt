-- A slot is a tetrahedron of points or a ghost, and not both; and what the signs at its faces tell.
use Rattle.std.proofs.Common.{◌≡◌, ℕ, zero, suc, ◌+◌, ◌<◌, ◌≤◌, pos, ◌≤ℤ◌, ◌<ℤ◌, List, length, get_or, Option, Some, None, option_map, refl, sym, ap, subst, ◌∙◌, inl, inr, arith}
use Rattle.std.proofs.lemmas.Bool.{cases_lt}
use Rattle.std.proofs.lemmas.Int.{ints}
use Rattle.std.proofs.lemmas.List.{get_or_past}
use Rattle.sign_predicates.specs.Point.{Point, as_rational}
use Rattle.sign_predicates.specs.Orientation.{side, side_rational, opposite_face, opposite_a, opposite_b, opposite_c, opposite_d, InClosed, Triangle}
use Rattle.sign_predicates.specs.declared.tetrahedron.Corners.{Corners}
use Rattle.geo_laws.specs.Delaunay.{corners}
use Rattle.geo_laws.specs.declared.tetrahedra.Tet.{Tet as Row}
use Rattle.geo_laws.proofs.Determinants.{side_rational-as_rational}
use Rattle.mesh_arena.specs.Mesh.{SlotValue, tet_at, corners_at, corner_list}
use Rattle.mesh_arena.specs.declared.slot.Corner.{Corner}
use Rattle.mesh_arena.specs.declared.slot.Corner.TheVariants.{Ghost}
use Rattle.mesh_arena.specs.declared.slot.SlotCorners.{SlotCorners}
use Rattle.point_locate.specs.Place.{AreOn, AreCornersOn, row_corners, IsInside, IsBeyond, IsPlace, IsSomePlace, Looks}
use Rattle.point_locate.specs.declared.look.Look.TheVariants.{Out}
use Rattle.point_locate.specs.declared.walk.Place.{Place}
use Rattle.point_locate.specs.declared.walk.Place.TheVariants.{Inside, Beyond}

-- a tetrahedron of points has no point at infinity
pub row_not_ghost : (t : Row) (k : ℕ) → k < 4 → get_or (row_corners t) k Ghost ≡ Ghost → ⊥
row_not_ghost t zero h e = cc
row_not_ghost t (suc zero) h e = cc
row_not_ghost t (suc (suc zero)) h e = cc
row_not_ghost t (suc (suc (suc zero))) h e = cc
row_not_ghost t (suc (suc (suc (suc k)))) h e = absurd (omega arith)

-- nonnegative at each face
pub closed_by_faces : (t : Corners) (p : Point) → ((k : ℕ) → k < 4 → pos 0 ≤ℤ side (opposite_face t k) p) → InClosed t (as_rational p)
closed_by_faces t p h =
    (along (opposite_a t) (h 0 (omega arith)), (along (opposite_b t) (h 1 (omega arith)), (along (opposite_c t) (h 2 (omega arith)), (along (opposite_d t) (h 3 (omega arith)), tt))))
  where
    along : (f : Triangle) → pos 0 ≤ℤ side f p → pos 0 ≤ℤ side_rational f (as_rational p)
    along f e = subst (λ z. pos 0 ≤ℤ z) (sym (side_rational-as_rational f p)) e

pub closed_not_beyond : (t : Corners) (p : Point) (k : ℕ) → InClosed t (as_rational p) → k < 4 → side (opposite_face t k) p <ℤ pos 0 → ⊥
closed_not_beyond t p k h lt e = by_place k h lt e
  where
    not_both : (f : Triangle) → pos 0 ≤ℤ side_rational f (as_rational p) → side f p <ℤ pos 0 → ⊥
    not_both f e l =
        let h : pos 0 ≤ℤ side f p = subst (λ z. pos 0 ≤ℤ z) (side_rational-as_rational f p) e in
        omega (arith, ints)

    by_place : (k : ℕ) → InClosed t (as_rational p) → k < 4 → side (opposite_face t k) p <ℤ pos 0 → ⊥
    by_place zero h lt e = not_both (opposite_a t) h.0 e
    by_place (suc zero) h lt e = not_both (opposite_b t) h.1.0 e
    by_place (suc (suc zero)) h lt e = not_both (opposite_c t) h.1.1.0 e
    by_place (suc (suc (suc zero))) h lt e = not_both (opposite_d t) h.1.1.1.0 e
    by_place (suc (suc (suc (suc k)))) h lt e = absurd (omega arith)

pub inside_by_faces : (ps : List Point) (p : Point) (t : SlotCorners) (r : Row) (q : Corners) → corner_list t ≡ row_corners r → q ≡ corners ps r → ((k : ℕ) → k < 4 → pos 0 ≤ℤ side (opposite_face q k) p) → IsInside ps p (corner_list t)
inside_by_faces ps p t r q e is h =
    record { row = r; is = e; holds = subst (λ x. InClosed x (as_rational p)) is (closed_by_faces q p h) }

-- a tetrahedron of points with a face that p is strictly beyond
pub row_leads_out : (ps : List Point) (p : Point) (t : SlotCorners) (r : Row) (q : Corners) (k : ℕ) → corner_list t ≡ row_corners r → q ≡ corners ps r → k < 4 → side (opposite_face q k) p <ℤ pos 0 → (IsInside ps p (corner_list t) → ⊥) × (IsBeyond ps p (corner_list t) → ⊥)
row_leads_out ps p t r q k e is lt out = (
  λ h.
      let row : r ≡ h.row = one_row h.row (sym e ∙ h.is) in
      let same : corners ps h.row ≡ q = sym (is ∙ ap (corners ps) row) in
      closed_not_beyond q p k (subst (λ x. InClosed x (as_rational p)) same h.holds) lt out,
  λ h. row_not_ghost r h.place h.within (sym (ap (λ cs. get_or cs h.place Ghost) e) ∙ h.infinite),
)
  where
    one_row : (s : Row) → row_corners r ≡ row_corners s → r ≡ s
    one_row s same =
        let a : r.a ≡ s.a = cc in
        let b : r.b ≡ s.b = cc in
        let c : r.c ≡ s.c = cc in
        let d : r.d ≡ s.d = cc in
        λ i. record { a = a i; b = b i; c = c i; d = d i }

-- the point is not in this place of the mesh
pub record IsNotAt (slots : List (Option SlotValue)) (ps : List Point) (p : Point) (s : ℕ) : Type 0 where
  pub outside : (cs : List Corner) → corners_at slots s ≡ Some cs → IsInside ps p cs → ⊥
  pub behind : (cs : List Corner) → corners_at slots s ≡ Some cs → IsBeyond ps p cs → ⊥

pub free_is_not_at : (slots : List (Option SlotValue)) (ps : List Point) (p : Point) (s : ℕ) → tet_at slots s ≡ None → IsNotAt slots ps p s
free_is_not_at slots ps p s free =
    record { outside = λ cs e h. none cs e; behind = λ cs e h. none cs e }
  where
    none : (cs : List Corner) → corners_at slots s ≡ Some cs → ⊥
    none cs e =
        let gone : corners_at slots s ≡ None = ap (option_map (λ (t : SlotValue). t.corners)) free in
        absurd (cc)

pub looked_is_not_at : (slots : List (Option SlotValue)) (ps : List Point) (p : Point) (s : ℕ) (cs : List Corner) → corners_at slots s ≡ Some cs → (face : ℕ) → Looks ps p cs (Out face) → IsNotAt slots ps p s
looked_is_not_at slots ps p s cs is face out =
    record { outside = λ ds e h. out.1 (subst (IsInside ps p) (same ds e) h); behind = λ ds e h. out.2 (subst (IsBeyond ps p) (same ds e) h) }
  where
    same : (ds : List Corner) → corners_at slots s ≡ Some ds → ds ≡ cs
    same ds e = cc

-- a live slot is before the end
pub live_within : (slots : List (Option SlotValue)) (s : ℕ) (cs : List Corner) → corners_at slots s ≡ Some cs → s < length slots
live_within slots s cs e = by_tet (tet_at slots s) refl e
  where
    by_tet : (o : Option SlotValue) → tet_at slots s ≡ o → option_map (λ (t : SlotValue). t.corners) o ≡ Some cs → s < length slots
    by_tet None is e = absurd (cc)
    by_tet (Some t) is e = grind (arith, get_or_past)

-- where each place was looked at, the point is nowhere
pub some_not_all : (slots : List (Option SlotValue)) (ps : List Point) (p : Point) (n : ℕ) → length slots ≤ n → ((s : ℕ) → s < n → IsNotAt slots ps p s) → IsSomePlace slots ps p → ⊥
some_not_all slots ps p n long none some = by_place some.0 some.1
  where
    by_place : (place : Place) → IsPlace slots ps p place → ⊥
    by_place (Inside s) h = (none s.index (omega (arith, live_within slots s.index h.corners h.is))).outside h.corners h.is h.here
    by_place (Beyond s) h = (none s.index (omega (arith, live_within slots s.index h.corners h.is))).behind h.corners h.is h.here

-- what holds of the corners of each slot before a place
pub record AreCornersOnBelow (slots : List (Option SlotValue)) (ps : List Point) (n : ℕ) : Type 0 where
  pub below : (s : ℕ) (cs : List Corner) → s < n → corners_at slots s ≡ Some cs → AreOn ps cs

pub below_more : (slots : List (Option SlotValue)) (ps : List Point) (n : ℕ) → AreCornersOnBelow slots ps n → ((cs : List Corner) → corners_at slots n ≡ Some cs → AreOn ps cs) → AreCornersOnBelow slots ps (n + 1)
below_more slots ps n before here =
    record {
      below = λ s cs lt e. elim (cases_lt s n) [
        | inl less ↦ before.below s cs less e
        | inr more ↦ let same : s ≡ n = omega arith in here cs (subst (λ m. corners_at slots m ≡ Some cs) same e)
      ];
    }

pub below_all : (slots : List (Option SlotValue)) (ps : List Point) (n : ℕ) → length slots ≤ n → AreCornersOnBelow slots ps n → AreCornersOn slots ps
below_all slots ps n long all s cs e = all.below s cs (omega (arith, live_within slots s cs e)) e

pub one_slot_on : (slots : List (Option SlotValue)) (ps : List Point) (s : ℕ) (cs : List Corner) → corners_at slots s ≡ Some cs → AreOn ps cs → (ds : List Corner) → corners_at slots s ≡ Some ds → AreOn ps ds
one_slot_on slots ps s cs is on ds e = let same : cs ≡ ds = cc in subst (AreOn ps) same on

pub free_slot_on : (slots : List (Option SlotValue)) (ps : List Point) (s : ℕ) → tet_at slots s ≡ None → (ds : List Corner) → corners_at slots s ≡ Some ds → AreOn ps ds
free_slot_on slots ps s free ds e =
    let gone : corners_at slots s ≡ None = ap (option_map (λ (t : SlotValue). t.corners)) free in
    absurd (cc)
