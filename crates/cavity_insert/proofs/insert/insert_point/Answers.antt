use Rattle.std.proofs.Common.{ℕ, List, ◌∷◌}
use Rattle.std.specs.Prelude.{IfOk}
use Rattle.mesh_arena.specs.Mesh.{IsLive}
use Rattle.mesh_arena.specs.Replace.{Replaces}
use Rattle.mesh_arena.specs.declared.slot.Corner.TheVariants.{Point as Numbered}
use Rattle.mesh_arena.specs.declared.slot.Slot.{Slot}
use Rattle.mesh_laws.specs.LowestLiving.{IsLowestMesh}
use Rattle.cavity_insert.specs.Insert.{IsReadyFor}
use Rattle.cavity_insert.specs.Growth.{IsCavityOf}
use Rattle.cavity_insert.proofs.Insertion.{CanReplace, replace_at, inserted_at, star_live, if_ok}
use Rattle.cavity_insert.proofs.insert.insert_point.Goals as goal

pub replace_cavity-requires : goal.replace_cavity-requires
replace_cavity-requires g c =
    let grown = c.grow_at.new.growth in
    let found : IsCavityOf (g.H.Lift.heights c.args.lift.now) c.args.arena.now.slots (g.H.Lift.points c.args.lift.now) c.args.number grown.cavity grown.rim = rw c.in_default.is at c.in_ok-s.ensures.grown in
    let can : CanReplace c.reserve.new.self.slots grown.cavity grown.rim c.args.number =
    replace_at (g.H.Lift.heights c.args.lift.now) _ _ (g.H.Lift.points c.args.lift.now) c.args.number _ _ c.in_ok-reserve.ensures.slots found c.requires.ready.0 c.requires.ready.1 in
    rw c.as_cavity.ensures (record { cavity = can.is_cavity; rim = can.is_rim; pairs = can.paired; point = can.off_rim })

pub returns-clause-mesh : goal.returns-clause-mesh
returns-clause-mesh g c =
    let grown = c.grow_at.new.growth in
    let found : IsCavityOf (g.H.Lift.heights c.args.lift.now) c.args.arena.now.slots (g.H.Lift.points c.args.lift.now) c.args.number grown.cavity grown.rim = rw c.in_default.is at c.in_ok-s.ensures.grown in
    let new = c.replace_cavity.new.self.slots in
    let P : Slot → Type 0 = λ s. Replaces c.reserve.new.self.slots new grown.cavity grown.rim (Numbered c.args.number) s.index in
    let Q : Slot → Type 0 = λ s. (ms : List ℕ) → IsReadyFor (g.H.Lift.heights c.args.lift.now) c.args.arena.now.slots (g.H.Lift.points c.args.lift.now) ms c.args.number → IsLowestMesh (g.H.Lift.heights c.args.lift.now) new (g.H.Lift.points c.args.lift.now) (c.args.number ∷ ms) in
    let ok : IfOk c.replace_cavity.result P = rw c.as_cavity.ensures at c.replace_cavity.ensures.ok in
    if_ok P Q (λ s replaces ms ready.
    inserted_at (g.H.Lift.heights c.args.lift.now) _ _ (g.H.Lift.points c.args.lift.now) c.args.number _ _ c.in_ok-reserve.ensures.slots found ms ready new s.index c.args.near.index c.requires.near c.replace_cavity.ensures.mesh replaces)
    c.replace_cavity.result ok

pub returns-clause-live : goal.returns-clause-live
returns-clause-live g c =
    let grown = c.grow_at.new.growth in
    let P : Slot → Type 0 = λ s. Replaces c.reserve.new.self.slots c.replace_cavity.new.self.slots grown.cavity grown.rim (Numbered c.args.number) s.index in
    let Q : Slot → Type 0 = λ s. IsLive c.replace_cavity.new.self.slots s.index in
    let ok : IfOk c.replace_cavity.result P = rw c.as_cavity.ensures at c.replace_cavity.ensures.ok in
    if_ok P Q (λ s replaces. star_live _ _ _ _ _ _ replaces) c.replace_cavity.result ok
