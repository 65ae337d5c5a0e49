-- A lowest mesh of points is one in whatever order their numbers stand, and with each hidden point.
use Rattle.std.proofs.Common.{◌⊎◌, inl, inr, ℕ, ℤ, List, ◌∷◌, Option}
use Rattle.std.specs.Prelude.{◌↔◌, Contains}
use Rattle.sign_predicates.specs.Point.{Point}
use Rattle.sign_predicates.specs.Orientation.{IsPositive}
use Rattle.geo_laws.specs.Delaunay.{corners, AreNumbersOf, IsAmong}
use Rattle.geo_laws.specs.Height.{IsLowestAmong}
use Rattle.geo_laws.specs.declared.tetrahedra.Tet.{Tet as Row}
use Rattle.geo_laws.specs.OrientedFace.{Face}
use Rattle.insert_laws.specs.LowestInsertion.{IsNew, IsLowestHullFace, IsHidden}
use Rattle.insert_laws.proofs.LowestBridge.{of_new}
use Rattle.insert_laws.proofs.LowestLists.{law_same_numbers}
use Rattle.mesh_arena.specs.Mesh.{SlotValue, IsLive}
use Rattle.mesh_laws.specs.LowestLiving.{IsLowestRowSlot, IsLowestGhostSlot, IsLowestMesh}
use Rattle.mesh_laws.specs.LowestReplaced.{LowestSameMeshLaw}

-- the rows, hull faces and positive fours of the one list, by its lifts, are those of the other
pub record Carries (lifts : ℕ → ℤ) (ps : List Point) (ms : List ℕ) (heights : ℕ → ℤ) (qs : List Point) (ks : List ℕ) : Type 0 where
  pub row : (t : Row) → IsLowestAmong ps ms lifts t → IsLowestAmong qs ks heights t
  pub hull : (f : Face) → IsLowestHullFace lifts ps ms f → IsLowestHullFace heights qs ks f
  pub positive : (t : Row) → IsAmong ms t → IsPositive (corners ps t) → IsPositive (corners qs t)

module _ (slots : List (Option SlotValue)) (lifts : ℕ → ℤ) (ps : List Point) (ms : List ℕ) (heights : ℕ → ℤ) (qs : List Point) (ks : List ℕ) (carries : Carries lifts ps ms heights qs ks) where
  abbrev row_slot : (s : ℕ) (t : Row) → IsLowestRowSlot lifts slots ps ms s t → IsLowestRowSlot heights slots qs ks s t
  row_slot s t x = record { is = x.is; row = x.row; is_row = carries.row x.row x.is_row; same_corners = x.same_corners; is_positive = carries.positive t (λ i c. x.is_row.is_on i ((x.same_corners i).0 c)) x.is_positive }

  ghost_slot : (s : ℕ) (t : Row) (k : ℕ) → IsLowestGhostSlot lifts slots ps ms s t k → IsLowestGhostSlot heights slots qs ks s t k
  ghost_slot s t k x = record { within = x.within; is = x.is; is_hull = carries.hull _ x.is_hull }

pub carried : (slots : List (Option SlotValue)) (lifts : ℕ → ℤ) (ps : List Point) (ms : List ℕ) (heights : ℕ → ℤ) (qs : List Point) (ks : List ℕ) → Carries lifts ps ms heights qs ks → Carries heights qs ks lifts ps ms
    → AreNumbersOf qs ks → IsLowestMesh lifts slots ps ms → IsLowestMesh heights slots qs ks
carried slots lifts ps ms heights qs ks to from within now = record {
  within = within;
  each = each;
  rows = λ r is. let x = now.rows r (from.row r is) in (x.0, x.1, row_of x.0 x.1 x.2, x.3);
  one_row = λ s u t r x y. now.one_row s u t r (row_from s t x) (row_from u r y);
  ghosts = λ f is. let x = now.ghosts f (from.hull f is) in (x.0, x.1, x.2, ghost_of x.0 x.1 x.2 x.3, x.4);
  one_ghost = λ s u t r k j x y. now.one_ghost s u t r k j (ghost_from s t k x) (ghost_from u r j y);
  linked = now.linked;
}
  where
    row_of : (s : ℕ) (t : Row) → IsLowestRowSlot lifts slots ps ms s t → IsLowestRowSlot heights slots qs ks s t
    row_of = row_slot slots lifts ps ms heights qs ks to

    row_from : (s : ℕ) (t : Row) → IsLowestRowSlot heights slots qs ks s t → IsLowestRowSlot lifts slots ps ms s t
    row_from = row_slot slots heights qs ks lifts ps ms from

    ghost_of : (s : ℕ) (t : Row) (k : ℕ) → IsLowestGhostSlot lifts slots ps ms s t k → IsLowestGhostSlot heights slots qs ks s t k
    ghost_of = ghost_slot slots lifts ps ms heights qs ks to

    ghost_from : (s : ℕ) (t : Row) (k : ℕ) → IsLowestGhostSlot heights slots qs ks s t k → IsLowestGhostSlot lifts slots ps ms s t k
    ghost_from = ghost_slot slots heights qs ks lifts ps ms from

    each : (s : ℕ) → IsLive slots s → ((t : Row) × IsLowestRowSlot heights slots qs ks s t) ⊎ ((t : Row) × (k : ℕ) × IsLowestGhostSlot heights slots qs ks s t k)
    each s live = elim (now.each s live) [
      | inl x ↦ inl (x.0, row_of s x.0 x.1)
      | inr x ↦ inr (x.0, x.1, ghost_of s x.0 x.1 x.2)
    ]

-- ---- the same numbers

same_numbers : (lifts : ℕ → ℤ) (ps : List Point) (ms ks : List ℕ) → ((i : ℕ) → Contains ms i ↔ Contains ks i) → Carries lifts ps ms lifts ps ks
same_numbers lifts ps ms ks same = record {
  row = law_same_numbers lifts ps ms ks same;
  hull = λ f h. record { behind = h.behind; is_row = law_same_numbers lifts ps ms ks same h.behind h.is_row; is_face = h.is_face; none_beyond = λ i c. h.none_beyond i ((same i).1 c) };
  positive = λ t on p. p;
}

pub law_same_mesh : LowestSameMeshLaw
law_same_mesh lifts slots ps ms ks now same =
    let back : (i : ℕ) → Contains ks i ↔ Contains ms i = λ i. ((same i).1, (same i).0) in
    carried slots lifts ps ms lifts ps ks (same_numbers lifts ps ms ks same) (same_numbers lifts ps ks ms back) (λ i c. now.within i ((same i).1 c)) now

-- ---- a hidden point

-- its rows and hull faces are those without it
pub with_hidden : (lifts : ℕ → ℤ) (slots : List (Option SlotValue)) (ps : List Point) (ms : List ℕ) (p : ℕ) → IsNew ps ms p → IsHidden lifts ps ms p → IsLowestMesh lifts slots ps ms → IsLowestMesh lifts slots ps (p ∷ ms)
with_hidden lifts slots ps ms p new hidden now =
    carried slots lifts ps ms lifts ps (p ∷ ms)
    (record { row = λ t d. (hidden.rows t).1 d; hull = λ f h. (hidden.hull f).1 h; positive = λ t on c. c })
    (record { row = λ t d. (hidden.rows t).0 d; hull = λ f h. (hidden.hull f).0 h; positive = λ t on c. c })
    (of_new ps ms p new).within now
