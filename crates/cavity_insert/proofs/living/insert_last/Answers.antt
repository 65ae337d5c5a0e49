use Rattle.std.proofs.Common.{◌≡◌, ◌⊎◌, inl, inr, ℕ, ◌-◌, List, ◌∷◌, length, ap, subst, arith}
use Rattle.std.proofs.lemmas.List.{length_push}
use Rattle.std.specs.Prelude.{IfOk}
use Rattle.geo_laws.specs.Delaunay.{point, all_numbers}
use Rattle.mesh_arena.specs.Mesh.{corners_at, IsLive}
use Rattle.mesh_arena.specs.Replace.{Replaces}
use Rattle.mesh_arena.specs.declared.slot.Corner.TheVariants.{Point as Numbered}
use Rattle.mesh_arena.specs.declared.slot.Slot.{Slot}
use Rattle.geo_laws.specs.Height.{lifted}
use Rattle.mesh_laws.specs.Rule.{IsTaken}
use Rattle.mesh_laws.specs.Living.{IsDelaunayMesh}
use Rattle.mesh_laws.specs.LowestLiving.{IsLowestMesh}
use Rattle.cavity_insert.specs.Growth.{IsCavityOf}
use Rattle.cavity_insert.specs.Insert.{IsReadyFor}
use Rattle.cavity_insert.specs.Lost.{IsToldOf}
use Rattle.cavity_insert.proofs.Insertion.{CanReplace, replace_at, inserted_at, stays_at, star_live, if_ok}
use Rattle.cavity_insert.proofs.LostSides.{in_or_not}
use Rattle.cavity_insert.proofs.OneMore.{ready_of, mesh_of, takes_of}
use Rattle.cavity_insert.proofs.living.insert_last.Goals as goal

pub overflow_sub-number : goal.overflow_sub-number
overflow_sub-number g c = let l = c.requires.longer in omega (arith, c.len.ensures.count, ap length l.is, length_push l.others l.last)

pub grow_at-requires-clause-ready : goal.grow_at-requires-clause-ready
grow_at-requires-clause-ready g c = rw c.len.ensures.count (all_numbers c.requires.longer.others, ready_of _ c.args.points.now (length c.args.points.now - 1) c.requires.longer)

pub tell_cavity-requires : goal.tell_cavity-requires
tell_cavity-requires g c =
    let ps = c.args.points.now in
    let made = c.grow_at.new.growth in
    let found : IsCavityOf (lifted ps) c.args.arena.now.slots ps (length ps - 1) made.cavity made.rim = rw (c.in_default.is, c.len.ensures.count) at c.in_ok-s.ensures.grown in
    rw c.as_cavity-cavity.ensures found.grown.live

pub replace_cavity-requires : goal.replace_cavity-requires
replace_cavity-requires g c =
    let ps = c.args.points.now in
    let n = length ps - 1 in
    let made = c.grow_at.new.growth in
    let found : IsCavityOf (lifted ps) c.args.arena.now.slots ps n made.cavity made.rim = rw (c.in_default.is, c.len.ensures.count) at c.in_ok-s.ensures.grown in
    let can : CanReplace c.reserve.new.self.slots made.cavity made.rim n = replace_at (lifted ps) _ _ ps n _ _ c.in_ok-reserve.ensures.slots found (all_numbers c.requires.longer.others) (ready_of _ ps n c.requires.longer) in
    rw (c.len.ensures.count, c.as_cavity-cavity.ensures) (record { cavity = can.is_cavity; rim = can.is_rim; pairs = can.paired; point = can.off_rim })

pub returns-clause-mesh : goal.returns-clause-mesh
returns-clause-mesh g c =
    let ps = c.args.points.now in
    let n = length ps - 1 in
    let made = c.grow_at.new.growth in
    let new = c.replace_cavity.new.self.slots in
    let found : IsCavityOf (lifted ps) c.args.arena.now.slots ps n made.cavity made.rim = rw (c.in_default.is, c.len.ensures.count) at c.in_ok-s.ensures.grown in
    let P : Slot → Type 0 = λ s. Replaces c.reserve.new.self.slots new made.cavity made.rim (Numbered n) s.index in
    let ok : IfOk c.replace_cavity.result P = rw (c.len.ensures.count, c.as_cavity-cavity.ensures) at c.replace_cavity.ensures.ok in
    let Q : Slot → Type 0 = λ s. IsDelaunayMesh new ps (all_numbers ps) in
    if_ok P Q (λ s replaces.
    mesh_of _ _ ps n c.requires.longer
    (inserted_at (lifted ps) _ _ ps n _ _ c.in_ok-reserve.ensures.slots found (all_numbers c.requires.longer.others) (ready_of _ ps n c.requires.longer) new s.index c.args.near.index c.requires.near c.replace_cavity.ensures.mesh replaces))
    c.replace_cavity.result ok

pub returns-clause-live : goal.returns-clause-live
returns-clause-live g c =
    let made = c.grow_at.new.growth in
    let P : Slot → Type 0 = λ s. Replaces c.reserve.new.self.slots c.replace_cavity.new.self.slots made.cavity made.rim (Numbered (c.len.result - 1)) s.index in
    let Q : Slot → Type 0 = λ s. IsLive c.replace_cavity.new.self.slots s.index in
    let ok : IfOk c.replace_cavity.result P = rw c.as_cavity-cavity.ensures at c.replace_cavity.ensures.ok in
    if_ok P Q (λ s replaces. star_live _ _ _ _ _ _ replaces) c.replace_cavity.result ok

pub returns-clause-stays : goal.returns-clause-stays
returns-clause-stays g c =
    let ps = c.args.points.now in
    let n = length ps - 1 in
    let old = c.args.arena.now.slots in
    let made = c.grow_at.new.growth in
    let new = c.replace_cavity.new.self.slots in
    let found : IsCavityOf (lifted ps) old ps n made.cavity made.rim = rw (c.in_default.is, c.len.ensures.count) at c.in_ok-s.ensures.grown in
    let P : Slot → Type 0 = λ s. Replaces c.reserve.new.self.slots new made.cavity made.rim (Numbered n) s.index in
    let ok : IfOk c.replace_cavity.result P = rw (c.len.ensures.count, c.as_cavity-cavity.ensures) at c.replace_cavity.ensures.ok in
    let Q : Slot → Type 0 = λ s. (u : ℕ) → IsLive old u → (IsTaken old ps (point ps n) n u → ⊥) → corners_at new u ≡ corners_at old u in
    if_ok P Q (λ s replaces u live not. stays_at (lifted ps) _ _ ps n _ _ c.in_ok-reserve.ensures.slots found new s.index u replaces live (λ t. not (takes_of old ps n u c.requires.longer t))) c.replace_cavity.result ok

pub returns-clause-told : goal.returns-clause-told
returns-clause-told g c =
    let old = c.args.arena.now.slots in
    let made = c.grow_at.new.growth in
    let new = c.replace_cavity.new.self.slots in
    let lost = c.tell_cavity.new.lost.items in
    let P : Slot → Type 0 = λ s. Replaces c.reserve.new.self.slots new made.cavity made.rim (Numbered (c.len.result - 1)) s.index in
    let Q : Slot → Type 0 = λ s. (u : ℕ) → IsLive old u → IsToldOf lost old u ⊎ (corners_at new u ≡ corners_at old u) in
    let by : (s : Slot) → P s → Q s = λ s replaces u live. elim (in_or_not made.cavity u) [
      | inl is ↦ inl (c.in_ok-tell_cavity.ensures u (rw c.as_cavity-cavity.ensures is))
      | inr off ↦ inr ((subst (λ x. Replaces x new made.cavity made.rim (Numbered (c.len.result - 1)) s.index) c.in_ok-reserve.ensures.slots replaces).kept u live off)
    ] in
    let ok : IfOk c.replace_cavity.result P = rw c.as_cavity-cavity.ensures at c.replace_cavity.ensures.ok in
    if_ok P Q by c.replace_cavity.result ok

-- where the last point is hidden the mesh stays
pub returns-in-Some-clause-mesh : goal.returns-in-Some-clause-mesh
returns-in-Some-clause-mesh g c =
    let ps = c.args.points.now in
    let n = length ps - 1 in
    let old = c.args.arena.now.slots in
    let l = c.requires.longer in
    let hidden : (ms : List ℕ) → IsReadyFor (lifted ps) old ps ms n → IsLowestMesh (lifted ps) old ps (n ∷ ms) = rw (c.in-Some.is, c.len.ensures.count) at c.in_ok-s.ensures.hidden in
    mesh_of old old ps n l (hidden (all_numbers l.others) (ready_of old ps n l))
