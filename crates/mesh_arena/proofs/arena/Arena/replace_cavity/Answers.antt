use Rattle.std.proofs.Common.{length, refl}
use Rattle.mesh_arena.specs.declared.slot.Corner.TheVariants.{Point}
use Rattle.mesh_arena.specs.Mesh.{IsArenaMesh}
use Rattle.mesh_arena.specs.Surgery.{Plans, AddsStar}
use Rattle.mesh_arena.specs.StarLinks.{LinksStar}
use Rattle.mesh_arena.specs.Cut.{Cuts}
use Rattle.mesh_arena.proofs.Replace.{CanAdd-freed, IsStar-added, ArePaired-added, rim_some, Replaces-done}
use Rattle.mesh_arena.proofs.arena.Arena.replace_cavity.Goals as goal

pub add_star-requires-clause-rim : goal.add_star-requires-clause-rim
add_star-requires-clause-rim c =
    let before = c.in_ok-reserve.ensures in
    let mesh : IsArenaMesh c.args.self.now.slots = rw before.slots at before.mesh in
    let cuts : Cuts c.args.self.now.slots c.cut_cavity.new.self.slots c.args.cavity.now c.args.rim.now = rw (c.lend_star-star.ensures.slots, before.slots, c.as_slice-faces.ensures, c.as_slice.ensures) at c.cut_cavity.ensures.cuts in
    let plans : Plans c.args.self.now.slots c.args.rim.now (Point c.args.point) c.plan_star.new.star.items (length c.args.rim.now) = rw (c.lend_star-star.ensures.slots, before.slots, c.as_slice-faces.ensures) at c.plan_star.ensures.plans in
    rw c.as_slice-faces.ensures (CanAdd-freed _ c.args.cavity.now _ _ mesh c.requires.cavity c.requires.rim c.requires.pairs c.requires.point _ cuts _ plans)

pub link_star-requires-clause-star : goal.link_star-requires-clause-star
link_star-requires-clause-star c =
    let before = c.in_ok-reserve.ensures in
    let mesh : IsArenaMesh c.args.self.now.slots = rw before.slots at before.mesh in
    let cuts : Cuts c.args.self.now.slots c.cut_cavity.new.self.slots c.args.cavity.now c.args.rim.now = rw (c.lend_star-star.ensures.slots, before.slots, c.as_slice-faces.ensures, c.as_slice.ensures) at c.cut_cavity.ensures.cuts in
    let plans : Plans c.args.self.now.slots c.args.rim.now (Point c.args.point) c.plan_star.new.star.items (length c.args.rim.now) = rw (c.lend_star-star.ensures.slots, before.slots, c.as_slice-faces.ensures) at c.plan_star.ensures.plans in
    let adds_star : AddsStar c.cut_cavity.new.self.slots c.add_star.new.self.slots c.args.rim.now c.plan_star.new.star.items (length c.args.rim.now) = rw c.as_slice-faces.ensures at c.add_star.ensures.adds_star in
    rw c.as_slice-faces.ensures (IsStar-added _ c.args.cavity.now _ _ mesh c.requires.cavity c.requires.rim c.requires.pairs c.requires.point _ cuts _ plans _ adds_star)

pub link_star-requires-clause-pairs : goal.link_star-requires-clause-pairs
link_star-requires-clause-pairs c =
    let before = c.in_ok-reserve.ensures in
    let mesh : IsArenaMesh c.args.self.now.slots = rw before.slots at before.mesh in
    let cuts : Cuts c.args.self.now.slots c.cut_cavity.new.self.slots c.args.cavity.now c.args.rim.now = rw (c.lend_star-star.ensures.slots, before.slots, c.as_slice-faces.ensures, c.as_slice.ensures) at c.cut_cavity.ensures.cuts in
    let plans : Plans c.args.self.now.slots c.args.rim.now (Point c.args.point) c.plan_star.new.star.items (length c.args.rim.now) = rw (c.lend_star-star.ensures.slots, before.slots, c.as_slice-faces.ensures) at c.plan_star.ensures.plans in
    let adds_star : AddsStar c.cut_cavity.new.self.slots c.add_star.new.self.slots c.args.rim.now c.plan_star.new.star.items (length c.args.rim.now) = rw c.as_slice-faces.ensures at c.add_star.ensures.adds_star in
    rw c.as_slice-faces.ensures (ArePaired-added _ c.args.cavity.now _ _ mesh c.requires.cavity c.requires.rim c.requires.pairs c.requires.point _ cuts _ plans _ adds_star)

pub over-one-requires : goal.over-one-requires
over-one-requires c =
    let before = c.in_ok-reserve.ensures in
    let mesh : IsArenaMesh c.args.self.now.slots = rw before.slots at before.mesh in
    let cuts : Cuts c.args.self.now.slots c.cut_cavity.new.self.slots c.args.cavity.now c.args.rim.now = rw (c.lend_star-star.ensures.slots, before.slots, c.as_slice-faces.ensures, c.as_slice.ensures) at c.cut_cavity.ensures.cuts in
    let plans : Plans c.args.self.now.slots c.args.rim.now (Point c.args.point) c.plan_star.new.star.items (length c.args.rim.now) = rw (c.lend_star-star.ensures.slots, before.slots, c.as_slice-faces.ensures) at c.plan_star.ensures.plans in
    let adds_star : AddsStar c.cut_cavity.new.self.slots c.add_star.new.self.slots c.args.rim.now c.plan_star.new.star.items (length c.args.rim.now) = rw c.as_slice-faces.ensures at c.add_star.ensures.adds_star in
    let links_star : LinksStar c.add_star.new.self.slots c.link_star.new.self.slots c.args.rim.now (Point c.args.point) (length c.args.rim.now) = rw c.as_slice-faces.ensures at c.link_star.ensures.links_star in
    rw (c.keep_star.ensures.slots, c.as_slice-faces.ensures) (rim_some _ c.args.cavity.now _ _ mesh c.requires.cavity c.requires.rim c.requires.pairs c.requires.point _ cuts _ plans _ adds_star _ links_star 0 c.requires.rim.some)

pub returns-clause-ok : goal.returns-clause-ok
returns-clause-ok c =
    let before = c.in_ok-reserve.ensures in
    let mesh : IsArenaMesh c.args.self.now.slots = rw before.slots at before.mesh in
    let cuts : Cuts c.args.self.now.slots c.cut_cavity.new.self.slots c.args.cavity.now c.args.rim.now = rw (c.lend_star-star.ensures.slots, before.slots, c.as_slice-faces.ensures, c.as_slice.ensures) at c.cut_cavity.ensures.cuts in
    let plans : Plans c.args.self.now.slots c.args.rim.now (Point c.args.point) c.plan_star.new.star.items (length c.args.rim.now) = rw (c.lend_star-star.ensures.slots, before.slots, c.as_slice-faces.ensures) at c.plan_star.ensures.plans in
    let adds_star : AddsStar c.cut_cavity.new.self.slots c.add_star.new.self.slots c.args.rim.now c.plan_star.new.star.items (length c.args.rim.now) = rw c.as_slice-faces.ensures at c.add_star.ensures.adds_star in
    let links_star : LinksStar c.add_star.new.self.slots c.link_star.new.self.slots c.args.rim.now (Point c.args.point) (length c.args.rim.now) = rw c.as_slice-faces.ensures at c.link_star.ensures.links_star in
    rw c.keep_star.ensures.slots (Replaces-done _ c.args.cavity.now _ _ mesh c.requires.cavity c.requires.rim c.requires.pairs c.requires.point _ cuts _ plans _ adds_star _ links_star c.over-one.result.slot c.over-one.result (rw (c.keep_star.ensures.slots, c.as_slice-faces.ensures) at c.over-one.ensures.value) refl)
