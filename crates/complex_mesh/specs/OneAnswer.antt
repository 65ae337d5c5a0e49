-- A complex has one answer: it has a mesh, or one cause why there is none. Only where two facets cross one Delaunay
-- tetrahedron there may be both, and several such causes.
use Rattle.std.specs.Prelude.{◌≡◌, ◌≢◌, List}
use Rattle.sign_predicates.specs.Point.{Point}
use Rattle.geo_laws.specs.Complex.{Complex}
use Rattle.complex_mesh.specs.Meshing.{IsComplexMesh, IsMeshFault}
use Rattle.complex_mesh.specs.declared.mesh.MeshOptions.{MeshOptions}
use Rattle.complex_mesh.specs.declared.mesh.ComplexMesh.{ComplexMesh}
use Rattle.complex_mesh.specs.declared.fault.MeshFault.{MeshFault}
use Rattle.complex_mesh.specs.declared.fault.MeshFault.TheVariants.{NoFill, NoMemory}

-- The cause forces its answer: it is neither out of memory nor an anomaly, which only permit theirs
abbrev pub IsForcing : MeshFault → Type 0
IsForcing NoMemory = ⊥
IsForcing (NoFill anomaly) = ⊥
IsForcing fault = Unit {0}

-- Beside a forcing cause no other one holds but out of memory, nor does an anomaly
abbrev pub OneFaultLaw : Type 0
OneFaultLaw = (o : MeshOptions) (ps : List Point) (c : Complex) (a b : MeshFault) → IsForcing a → b ≢ NoMemory
    → IsMeshFault o ps c a → IsMeshFault o ps c b → a ≡ b

-- And where there is a mesh no forcing cause holds
abbrev pub NoFaultLaw : Type 0
NoFaultLaw = (o : MeshOptions) (ps : List Point) (c : Complex) (m : ComplexMesh) → IsComplexMesh o ps c m
    → (a : MeshFault) → IsForcing a → ¬ IsMeshFault o ps c a
