-- The faults of the steps, as faults of the whole.
use Rattle.segment_protect.specs.declared.fault.ProtectFault.{ProtectFault}
use Rattle.segment_protect.specs.declared.fault.ProtectFault.TheVariants as protection
use Rattle.simplex_meets.specs.declared.crossing.PlaneFault.{PlaneFault}
use Rattle.simplex_meets.specs.declared.crossing.PlaneFault.TheVariants as planes
use Rattle.facet_recover.specs.declared.recover.RecoverFault.{RecoverFault}
use Rattle.facet_recover.specs.declared.recover.RecoverFault.TheVariants as recovery
use Rattle.complex_mesh.specs.declared.fault.MeshFault.{MeshFault}
use Rattle.complex_mesh.specs.declared.fault.MeshFault.TheVariants.{Flat, SegmentsCross, GridEnd, BudgetEnd, Crossing, NoFill, NoMemory}

abbrev pub protect_fault : ProtectFault → MeshFault
protect_fault protection.Flat = Flat
protect_fault (protection.SegmentsCross one two) = SegmentsCross one two
protect_fault (protection.GridEnd piece) = GridEnd piece
protect_fault (protection.BudgetEnd made piece) = BudgetEnd made piece
protect_fault protection.NoMemory = NoMemory

abbrev pub plane_fault : PlaneFault → MeshFault
plane_fault (planes.Crossing one two) = Crossing one two
plane_fault planes.NoMemory = NoMemory

abbrev pub recover_fault : RecoverFault → MeshFault
recover_fault (recovery.NoFill anomaly) = NoFill anomaly
recover_fault recovery.NoMemory = NoMemory
