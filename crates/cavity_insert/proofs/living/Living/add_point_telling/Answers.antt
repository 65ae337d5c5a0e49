use Rattle.std.proofs.Common.{◌≡◌, ◌≢◌, ◌+◌, ◌-◌, ◌^◌, ◌<◌, ℕ, length, ap, sym, subst, ◌∙◌, arith}
use Rattle.std.proofs.lemmas.List.{length_push}
use Rattle.geo_laws.specs.Delaunay.{point}
use Rattle.mesh_arena.specs.Mesh.{corners_at, IsLive}
use Rattle.mesh_laws.specs.Rule.{IsTaken}
use Rattle.cavity_insert.specs.Living.{LivingMesh}
use Rattle.cavity_insert.specs.Lost.{AreLostSides}
use Rattle.cavity_insert.proofs.LostSides.{lost_sides}
use Rattle.cavity_insert.proofs.OneMore.{longer_of, stays_of, distinct_more}
use Rattle.cavity_insert.proofs.living.Living.add_point_telling.Goals as goal

pub invariant_of-self-in-Ok : goal.invariant_of-self-in-Ok
invariant_of-self-in-Ok c =
    let before = c.self.inside.points in
    let put = c.in_ok-push.ensures.ok in
    let apart : (i : ℕ) → i < length before → point before i ≢ c.args.p =
    subst (λ (v : LivingMesh). (i : ℕ) → i < length v.points → point v.points i ≢ c.args.p) (sym c.self.view_is) c.requires.apart in
    let few : length before + 1 < 2 ^ 32 - 1 = subst (λ (v : LivingMesh). length v.points + 1 < 2 ^ 32 - 1) (sym c.self.view_is) c.requires.few in
    let more = ap length put ∙ length_push before c.args.p in
    record { mesh = c.in-Ok.ensures.mesh; distinct = distinct_more before c.push.new.self c.args.p c.self.invariant.distinct apart put; few = omega arith; live = c.in-Ok.ensures.live }

pub insert_last-requires-clause-longer : goal.insert_last-requires-clause-longer
insert_last-requires-clause-longer c =
    let before = c.self.inside.points in
    let apart : (i : ℕ) → i < length before → point before i ≢ c.args.p =
    subst (λ (v : LivingMesh). (i : ℕ) → i < length v.points → point v.points i ≢ c.args.p) (sym c.self.view_is) c.requires.apart in
    longer_of _ before c.push.new.self c.args.p c.in_ok-push.ensures.ok c.self.invariant.mesh apart

pub insert_last-requires-clause-few : goal.insert_last-requires-clause-few
insert_last-requires-clause-few c =
    let before = c.self.inside.points in
    let few : length before + 1 < 2 ^ 32 - 1 = subst (λ (v : LivingMesh). length v.points + 1 < 2 ^ 32 - 1) (sym c.self.view_is) c.requires.few in
    let more = ap length c.in_ok-push.ensures.ok ∙ length_push before c.args.p in
    omega arith

pub returns-in-Ok-clause-stays : goal.returns-in-Ok-clause-stays
returns-in-Ok-clause-stays c =
    let before = c.self.inside.points in
    let slots = c.self.inside.arena.slots in
    let new = c.insert_last.new.arena.slots in
    let ps = c.push.new.self in
    let n = c.len-number.result in
    let last : length ps - 1 ≡ n = omega (arith, ap length c.in_ok-push.ensures.ok, length_push before c.args.p, c.len-number.ensures.count) in
    subst (λ (v : LivingMesh). (u : ℕ) → IsLive v.slots u → (IsTaken v.slots ps c.args.p n u → ⊥) → corners_at new u ≡ corners_at v.slots u) c.self.view_is
    (stays_of _ _ before ps c.args.p n c.in_ok-push.ensures.ok c.len-number.ensures.count
    (subst (λ m. (u : ℕ) → IsLive slots u → (IsTaken slots ps (point ps m) m u → ⊥) → corners_at new u ≡ corners_at slots u) last c.in-Ok.ensures.stays))

pub returns-in-Ok-clause-lost : goal.returns-in-Ok-clause-lost
returns-in-Ok-clause-lost c =
    subst (λ (v : LivingMesh). AreLostSides v.points c.push.new.self c.insert_last.new.lost.items) c.self.view_is
    (lost_sides _ _ c.self.inside.points c.push.new.self c.insert_last.new.lost.items c.self.invariant.mesh c.in-Ok.ensures.mesh c.in-Ok.ensures.told)
