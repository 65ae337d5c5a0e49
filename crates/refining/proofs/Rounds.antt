-- What is refined, and what is told of it.
use Rattle.std.proofs.Common.{◌≡◌, ◌≤◌, ℕ, true, [], length, Result, Ok, Err, inl, inr, refl, sym, subst}
use Rattle.std.specs.Prelude.{All}
use Rattle.std.proofs.lemmas.List.Elements.{All-weaker}
use Rattle.sign_predicates.specs.Orientation.{IsPositive}
use Rattle.geo_laws.specs.Delaunay.{IsArranged, IsOn, corners}
use Rattle.command_words.specs.declared.options.Options.{Options}
use Rattle.complex_mesh.specs.declared.fault.MeshFault.{MeshFault}
use Rattle.complex_mesh.specs.declared.mesh.ComplexMesh.{ComplexMesh}
use Rattle.refining.proofs.PointsBehind.{law_plain}
use Rattle.refining.specs.Corners.{AreCorners}
use Rattle.refining.specs.Refined.{IsFewWith, IsMeshWith}
use Rattle.run_steps.specs.Faults.{status_of_fault}
use Rattle.node_files.specs.Writing.{IsNearGrid}
use Rattle.run_steps.specs.Meshing.{IsMeshableBound, IsUnmeshed, MeshOf, mesh_of_complex}
use Rattle.run_steps.specs.declared.mesh.Bound.{Bound}
use Rattle.run_steps.specs.declared.meshed.Meshed.{Meshed}
use Rattle.run_steps.specs.declared.outputs.Outputs.{Outputs}
use Rattle.run_steps.specs.declared.status.Status.{Status}
use Rattle.refining.specs.Outputs.{AreCountedOf, CountedAnswer, RefinedAnswer, RefinedMade}
use Rattle.refining.specs.Refining.{IsRefinedBehind, IsTakenMesh, IsRefinedTo}
use Rattle.refining.specs.declared.goal.ShapeBounds.{ShapeBounds}
use Rattle.refining.specs.declared.refining.Bounds.{Bounds}
use Rattle.refining.specs.declared.refining.Refined.{Refined}
use Rattle.refining.specs.declared.refining.Taken.{Taken}

pub refined_behind : (options : Options) (bound : Bound) (taken : Taken) (mesh : Meshed) (rounds : ℕ) → IsTakenMesh options bound taken → mesh ≡ mesh_of_complex bound taken.made
    → IsRefinedBehind options bound (record { added = taken.added; halvings = taken.halvings; mesh = mesh; rounds = rounds })
refined_behind options bound taken mesh rounds t is = record {
  answer = (taken.made, t.made.with_them, is);
  corners = subst (λ (m : Meshed). AreCorners (length bound.table.points) (length taken.added) m.tetrahedra) (sym is) t.corners;
  same = λ none.
      let bare = subst (λ more. IsMeshWith options bound more taken.halvings taken.made) none t.made.with_them in
      law_plain options bound mesh (taken.made, subst (λ h. IsMeshWith options bound [] h taken.made) (t.bare none) bare, is);
}

pub refined_to : (options : Options) (bound : Bound) (bounds : Bounds) (plain : ComplexMesh) (refined : Refined) (rounds : ℕ) → IsFewWith options bound [] bound.table.grid.halvings plain
    → IsRefinedBehind options bound refined → refined.rounds ≡ rounds → rounds ≤ bounds.rounds → IsRefinedTo options bound bounds refined
refined_to options bound bounds plain refined rounds p h is few = record {
  plain = mesh_of_complex bound plain;
  plain_is = law_plain options bound (mesh_of_complex bound plain) (plain, p.with_them, refl);
  behind = h;
  rounds = subst (λ n. n ≤ bounds.rounds) (sym is) few;
}

-- the corners of the tetrahedra of a mesh that was made are points of it
pub taken_on : (options : Options) (bound : Bound) (taken : Taken) → IsTakenMesh options bound taken → All (IsOn taken.made.points) taken.made.tetrahedra
taken_on options bound taken h =
    let made = taken.made in
    All-weaker (λ t. IsOn made.points t × IsPositive (corners made.points t) × IsArranged t) (IsOn made.points) (λ t p. p.0) made.tetrahedra h.made.with_them.mesh.mesh.positive

-- the corners of the tetrahedra of a refined mesh are points of it
pub refined_on : (options : Options) (bound : Bound) (refined : Refined) → IsRefinedBehind options bound refined → All (IsOn refined.mesh.points) refined.mesh.tetrahedra
refined_on options bound refined h =
    let made = h.answer.0 in
    let on = All-weaker (λ t. IsOn made.points t × IsPositive (corners made.points t) × IsArranged t) (IsOn made.points) (λ t p. p.0) made.tetrahedra h.answer.1.mesh.mesh.positive in
    subst (λ (mesh : Meshed). All (IsOn mesh.points) mesh.tetrahedra) (sym h.answer.2) on

-- the origin of the options is near the grid of a refined mesh
pub refined_near : (options : Options) (bound : Bound) (refined : Refined) → IsMeshableBound options bound → IsRefinedBehind options bound refined
    → IsNearGrid options.origin refined.mesh.table.grid
refined_near options bound refined b h = subst (λ (mesh : Meshed). IsNearGrid options.origin mesh.table.grid) (sym h.answer.2) b.near

-- the outputs of what is refined
pub answered : (shapes : ShapeBounds) (options : Options) (bound : Bound) (refined : Refined) (outputs : Outputs) → IsRefinedBehind options bound refined → AreCountedOf shapes options refined.mesh outputs
    → RefinedAnswer shapes options bound (Ok outputs)
answered shapes options bound refined outputs h k = (refined.added, refined.halvings, refined.mesh, h.answer, h.corners, k)

pub outputs_made : (shapes : ShapeBounds) (options : Options) (bound : Bound) (bounds : Bounds) (refined : Refined) (r : Result Outputs Status) → options.piecewise ≡ true → IsRefinedTo options bound bounds refined
    → CountedAnswer shapes options refined.mesh r → RefinedMade shapes options bound r
outputs_made shapes options bound bounds refined (Ok outputs) complex h k =
    (h.plain, subst (λ p. MeshOf p options bound (Ok h.plain)) (sym complex) h.plain_is, answered shapes options bound refined outputs h.behind k)
outputs_made shapes options bound bounds refined (Err status) complex h k =
    inr (h.plain, subst (λ p. MeshOf p options bound (Ok h.plain)) (sym complex) h.plain_is, k)

pub refused_made : (shapes : ShapeBounds) (options : Options) (bound : Bound) (fault : MeshFault) (status : Status) → options.piecewise ≡ true → IsUnmeshed options bound (status_of_fault fault) → status ≡ status_of_fault fault
    → RefinedMade shapes options bound (Err status)
refused_made shapes options bound fault status complex h is =
    inl (subst (λ p. MeshOf p options bound (Err status)) (sym complex) (subst (IsUnmeshed options bound) (sym is) h))
