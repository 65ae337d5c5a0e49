-- How edges tell their ends.
use Rattle.std.proofs.Common.{◌≡◌, ◌⊎◌, ℕ, refl, ap, inl, inr, arith}
use Rattle.std.proofs.lemmas.Bool.{cases_eq}
use Rattle.mesh_arena.specs.declared.slot.Corner.{Corner}
use Rattle.mesh_arena.specs.declared.slot.Corner.TheVariants.{Point, Ghost}
use Rattle.mesh_arena.specs.declared.edge.Edge.{Edge}
use Rattle.mesh_arena.specs.Edges.{corner_key, edge_of, edge_between}

pub edge_of-numbers : (a b : ℕ) (x y : Corner) → a ≡ corner_key x → b ≡ corner_key y → edge_of a b ≡ edge_between x y
edge_of-numbers a b x y is_a is_b = rw (is_a, is_b) refl

same_number : (x y : Corner) → corner_key x ≡ corner_key y → x ≡ y
same_number (Point i) (Point j) e = ap Point (omega arith)
same_number (Point i) Ghost e = absurd (omega arith)
same_number Ghost (Point j) e = absurd (omega arith)
same_number Ghost Ghost e = refl

-- an edge tells its ends
pub same_ends : (x y z w : Corner) → edge_between x y ≡ edge_between z w → ((x ≡ z) × (y ≡ w)) ⊎ ((x ≡ w) × (y ≡ z))
same_ends x y z w e =
    let low = ap (λ (a : Edge). a.low) e in
    let high = ap (λ (a : Edge). a.high) e in
    elim (cases_eq (corner_key x) (corner_key z)) [
      | inl same ↦ inl (same_number x z same, same_number y w (omega arith))
      | inr differ ↦ inr (same_number x w (omega arith), same_number y z (omega arith))
    ]
