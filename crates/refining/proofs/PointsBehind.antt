-- Meshes of a complex with points behind its own.
use Rattle.std.proofs.Common.{◌≡◌, ℕ, ◌+◌, ◌-◌, ◌^◌, ◌<◌, ◌≤◌, List, [], ◌++◌, length, sym, subst, arith}
use Rattle.std.proofs.lemmas.List.{length-append}
use Rattle.std.proofs.lemmas.List.{append-nil}
use Rattle.sign_predicates.specs.Point.{Point}
use Rattle.geo_laws.specs.Delaunay.{HasDistinctPoints}
use Rattle.geo_laws.specs.Segment.{pieces}
use Rattle.refining.proofs.Meshables.{law_meshable}
use Rattle.refining.specs.Addable.{AreAddable, IsJoined}
use Rattle.command_words.specs.declared.options.Options.{Options}
use Rattle.complex_mesh.proofs.Added.{added}
use Rattle.complex_mesh.specs.Meshing.{IsComplexMesh}
use Rattle.complex_mesh.specs.Protection.{IsMeshable}
use Rattle.complex_mesh.specs.declared.mesh.ComplexMesh.{ComplexMesh}
use Rattle.run_steps.proofs.Meshables.{writable_on}
use Rattle.run_steps.specs.Meshing.{IsMeshableBound, mesh_of_complex}
use Rattle.run_steps.specs.Outputs.{IsWritable}
use Rattle.run_steps.specs.declared.mesh.Bound.{Bound}
use Rattle.refining.specs.Refined.{options_with, IsMeshWith, IsFewWith, PlainLaw}

nothing_behind : (ps : List Point) → ps ++ [] ≡ ps
nothing_behind ps = append-nil ps

-- no point at all may be put behind the points of a table
pub none_addable : (halvings : ℕ) (ps : List Point) → HasDistinctPoints ps → AreAddable halvings ps []
none_addable halvings ps h = record { distinct = subst HasDistinctPoints (sym (nothing_behind ps)) h; multiples = λ i lt. absurd (omega (arith, lt)) }

pub plain_with : (options : Options) (bound : Bound) (made : ComplexMesh) → IsMeshableBound options bound
    → IsComplexMesh (options_with bound.table.grid.halvings options) bound.table.points bound.complex made
    → IsMeshWith options bound [] bound.table.grid.halvings made
plain_with options bound made b m = record {
  on_grid = omega arith;
  addable = none_addable bound.table.grid.halvings bound.table.points b.meshable.distinct;
  mesh = subst (λ ps. IsComplexMesh (options_with bound.table.grid.halvings options) ps bound.complex made) (sym (nothing_behind bound.table.points)) m;
}

pub law_plain : PlainLaw
law_plain options bound mesh h =
    (h.0, subst (λ ps. IsComplexMesh (options_with bound.table.grid.halvings options) ps bound.complex h.0) (nothing_behind bound.table.points) h.1.mesh, h.2)

-- what the mesh is made of
pub meshable_with : (options : Options) (bound : Bound) (more all : List Point) (halvings most : ℕ) → IsMeshableBound options bound → halvings ≤ bound.table.grid.halvings → most ≤ 2 ^ 30
    → IsJoined halvings most bound.table.points more all → IsMeshable halvings options.budget all bound.complex
meshable_with options bound more all halvings most b le little j =
    let budget = b.budget in
    let few = j.few in
    subst (λ ps. IsMeshable halvings options.budget ps bound.complex) (sym j.is)
    (law_meshable bound.table.grid.halvings halvings options.budget bound.table.points more bound.complex b.meshable le j.addable (omega arith))

module _ (options : Options) (bound : Bound) (more : List Point) (halvings : ℕ) (made : ComplexMesh) (b : IsMeshableBound options bound) (f : IsFewWith options bound more halvings made) where
  mesh : IsComplexMesh (options_with halvings options) (bound.table.points ++ more) bound.complex made
  mesh = f.with_them.mesh

  grows : (length (bound.table.points ++ more) ≤ length made.points) × (length made.points ≤ length (bound.table.points ++ more) + options.budget)
  grows = added halvings made.points f.with_them.mesh.rest options.budget (bound.table.points ++ more) (pieces (bound.table.points ++ more) f.with_them.mesh.segs) f.with_them.mesh.protected.ends

  pub begins_with : length bound.table.points ≤ length made.points
  begins_with = let low = grows.0 in omega (arith, low, length-append bound.table.points more)

  pub few_with : length bound.table.listed + (length made.points - length bound.table.points) < 2 ^ 32 - 1
  few_with =
      let high = grows.1 in
      let budget = b.budget in
      let listed = b.few in
      let few = f.few in
      omega (arith, high, length-append bound.table.points more)

  pub writable_with : IsWritable (mesh_of_complex bound made)
  writable_with =
      let few = few_with in
      writable_on (options_with halvings options) (bound.table.points ++ more) bound made b.table begins_with (omega arith) f.with_them.mesh

-- the mesh with points that may be put behind those of a table
pub few_made : (options : Options) (bound : Bound) (more all : List Point) (halvings most : ℕ) (made : ComplexMesh) → halvings ≤ bound.table.grid.halvings → most ≤ 2 ^ 30
    → IsJoined halvings most bound.table.points more all → IsComplexMesh (options_with halvings options) all bound.complex made → IsFewWith options bound more halvings made
few_made options bound more all halvings most made le little j m =
    let few = j.few in record {
      with_them = record { on_grid = le; addable = j.addable; mesh = subst (λ ps. IsComplexMesh (options_with halvings options) ps bound.complex made) j.is m };
      few = omega arith;
    }

pub plain_made : (options : Options) (bound : Bound) (made : ComplexMesh) → IsMeshableBound options bound
    → IsComplexMesh (options_with bound.table.grid.halvings options) bound.table.points bound.complex made → IsFewWith options bound [] bound.table.grid.halvings made
plain_made options bound made b m = record { with_them = plain_with options bound made b m; few = omega arith }
