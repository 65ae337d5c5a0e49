-- The statuses with which a call from C ends.
use Rattle.std.specs.Prelude.{◌≡◌, ℕ, ℤ, pos, List, Result, Ok, Err, length}
use Rattle.array_meshes.specs.Arrays.{AreDelaunayRows, IsArrayFault, IsMeshFault, code_of, wanted_of}
use Rattle.array_meshes.specs.Doubles.{IsDoubleFault, code_of as double_code}
use Rattle.array_meshes.specs.Meshes.{IsArrayMesh, IsComplexFault, IsMeshedFault, MeshLists, code_of as complex_code, counts_of, wanted_of as wanted_counts}
use Rattle.memory_runs.specs.Runs.{IsHandedOver, RunLaw}
use Rattle.array_meshes.specs.declared.arrays.ArrayFault.{ArrayFault}
use Rattle.array_meshes.specs.declared.arrays.Place.{Place}
use Rattle.array_meshes.specs.declared.arrays.Row.{Row}
use Rattle.array_meshes.specs.declared.complexes.ArrayComplex.{ArrayComplex}
use Rattle.array_meshes.specs.declared.doubles.DoubleFault.{DoubleFault}
use Rattle.array_meshes.specs.declared.doubles.DoublePoint.{DoublePoint}
use Rattle.array_meshes.specs.declared.fault.ComplexFault.{ComplexFault}
use Rattle.array_meshes.specs.declared.fault.Counts.{Counts}
use Rattle.memory_runs.specs.declared.handing.HandedOver.{HandedOver}
use Rattle.memory_runs.specs.declared.handing.RunFault.{RunFault}
use Rattle.memory_runs.specs.declared.handing.RunFault.TheVariants.{NoRoom, NoMemory}
use Rattle.memory_runs.specs.declared.texts.Task.{Task}
use Rattle.tetgen_c.specs.declared.meshes.MeshBlocks.{MeshBlocks}

-- a fault has this cause, and the status is its own
pub record IsRefusal (Cause : ArrayFault → Type 0) (status : ℤ) : Type 0 where
  pub fault : ArrayFault
  pub cause : Cause fault
  pub status_is : status ≡ pos (code_of fault)

-- the fault is one of an array with this room, and the count is the length of the list for which that is too little, or 0
abbrev pub IsRefusedInto : List Place → ℕ → ℕ → ℤ → Type 0
IsRefusedInto places room count = IsRefusal (λ fault. IsArrayFault places room fault × (count ≡ wanted_of fault))

-- the fault is one of the points
abbrev pub IsRefused : List Place → ℤ → Type 0
IsRefused places = IsRefusal (IsMeshFault places)

-- the complex has no mesh, or arrays with these rooms are too short for it; the counts are the lengths of its lists in that case, or 0
pub record IsUnmeshedInto (c : ArrayComplex) (points cells faces : ℕ) (counts : Counts) (status : ℤ) : Type 0 where
  pub fault : ComplexFault
  pub cause : IsMeshedFault c points cells faces fault
  pub counted : counts ≡ wanted_counts fault
  pub status_is : status ≡ pos (complex_code fault)

-- the complex has no mesh
pub record IsUnmeshed (c : ArrayComplex) (status : ℤ) : Type 0 where
  pub fault : ComplexFault
  pub cause : IsComplexFault c fault
  pub status_is : status ≡ pos (complex_code fault)

-- the complex has a mesh whose lists have these lengths
pub record HasCounts (c : ArrayComplex) (counts : Counts) : Type 0 where
  pub made : MeshLists
  pub is : IsArrayMesh c made
  pub counted : counts ≡ counts_of made

-- the lengths of lists in blocks
abbrev pub counts_in : MeshBlocks → Counts
counts_in out = record { points = out.point_count; cells = out.cell_count; faces = out.face_count; halvings = out.halvings }

-- the points are not rounded to an array with this room
pub record IsUnrounded (decimals : ℕ) (points : List DoublePoint) (room : ℕ) (status : ℤ) : Type 0 where
  pub fault : DoubleFault
  pub cause : IsDoubleFault decimals points room fault
  pub status_is : status ≡ pos (double_code fault)

-- the points have a Delaunay list of this length
pub record HasLength (places : List Place) (count : ℕ) : Type 0 where
  pub rows : List Row
  pub are : AreDelaunayRows places rows
  pub counted : count ≡ length rows

-- a run of the program on the task ended with this status, and these are the lengths of its texts and the texts
pub record HasRun (Run : RunLaw) (task : Task) (lengths bytes : List ℕ) (status : ℤ) : Type 0 where
  pub code : ℕ
  pub status_is : status ≡ pos code
  pub handed : IsHandedOver Run task lengths bytes code

-- the count and the status of a run over texts: its own, or 20 where there is no room, or 10 out of memory
abbrev pub IsAnswered : Result HandedOver RunFault → ℕ → ℤ → Type 0
IsAnswered (Ok made) count status = (count ≡ made.count) × (status ≡ pos made.code)
IsAnswered (Err (NoRoom wanted)) count status = (count ≡ wanted) × (status ≡ pos 20)
IsAnswered (Err NoMemory) count status = (count ≡ 0) × (status ≡ pos 10)
