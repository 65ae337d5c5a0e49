use Rattle.std.proofs.Common.{◌≡◌, ◌<◌, [], ◌∷◌, ◌++◌, sym, subst, ◌∙◌, true≢false, length, arith}
use Rattle.std.proofs.lemmas.Result.{on_ok_weaker}
use Rattle.std.proofs.lemmas.List.{get_or_append_left}
use Rattle.mesh_arena.specs.Mesh.{IsLive}
use Rattle.mesh_arena.specs.Cavity.{IsInCavitySlots}
use Rattle.mesh_arena.specs.declared.slot.Slot.{Slot}
use Rattle.cavity_insert.specs.Growth.{entry_of}
use Rattle.cavity_insert.proofs.Growth.{Growing-in, Growing-out, Grown-in, behind_is, none_behind, in_behind, AreEntered-push}
use Rattle.cavity_insert.proofs.grow.Growth.visit.Goals as goal

pub across-requires-clause-live : goal.across-requires-clause-live
across-requires-clause-live g c = subst (λ (s : Slot). IsLive (g.Z.Zone.slots c.args.zone.now) s.index) (c.at.ensures (record { index = 0 })) (c.requires.growing.growing.live c.args.i c.requires.inside)

pub returns-in_default-clause-growing : goal.returns-in_default-clause-growing
returns-in_default-clause-growing g c =
    let was = c.args.self.now in
    let now = c.requires.growing in
    let small : entry_of was c.args.i < 4 = now.entered.faces c.args.i c.requires.inside in
    let grown = Growing-in (g.Z.Zone.slots c.args.zone.now) (g.Z.Zone.takes c.args.zone.now) was.start.index c.requires.mesh was.cavity was.rim c.args.i (entry_of was c.args.i) c.args.k (λ _. (small, c.requires.face)) (λ _. none_behind (g.Z.Zone.slots c.args.zone.now) was.cavity c.args.i c.args.k c.at.result c.at.ensures c.in_default.ensures.value) now.growing in
    record { entered = now.entered; growing = grown }

pub returns-then-has-clause-growing : goal.returns-then-has-clause-growing
returns-then-has-clause-growing g c =
    let was = c.args.self.now in
    let now = c.requires.growing in
    let small : entry_of was c.args.i < 4 = now.entered.faces c.args.i c.requires.inside in
    let is = behind_is (g.Z.Zone.slots c.args.zone.now) was.cavity c.args.i c.args.k c.at.result _ c.at.ensures c.in-Some.ensures.value in
    let grown = Growing-in (g.Z.Zone.slots c.args.zone.now) (g.Z.Zone.takes c.args.zone.now) was.start.index c.requires.mesh was.cavity was.rim c.args.i (entry_of was c.args.i) c.args.k (λ _. (small, c.requires.face)) (λ _. in_behind (g.Z.Zone.slots c.args.zone.now) was.cavity c.args.i c.args.k c.in-Some.f is (c.has.ensures.0 c.if-has.true)) now.growing in
    record { entered = now.entered; growing = grown }

pub returns-in_ok-push-2-clause-growing : goal.returns-in_ok-push-2-clause-growing
returns-in_ok-push-2-clause-growing g c =
    let was = c.args.self.now in
    let now = c.requires.growing in
    let f = c.in-Some.f in
    let entry = entry_of was c.args.i in
    let fits : c.args.i < length was.entries.items = omega (arith, c.requires.inside, now.entered.many) in
    let small : entry < 4 = now.entered.faces c.args.i c.requires.inside in
    let is = behind_is (g.Z.Zone.slots c.args.zone.now) was.cavity c.args.i c.args.k c.at.result _ c.at.ensures c.in-Some.ensures.value in
    let fresh : IsInCavitySlots was.cavity f.slot.index → ⊥ = λ h. true≢false (sym (c.has.ensures.1 h) ∙ c.if-has.false) in
    let grown = Grown-in (g.Z.Zone.slots c.args.zone.now) (g.Z.Zone.takes c.args.zone.now) was.start.index c.requires.mesh was.cavity was.rim c.args.i entry c.args.k f c.requires.inside small c.requires.face is now.growing fresh c.in-Some.ensures.live.0 (c.test.ensures.value.0 c.if-test.true) in
    let entered = AreEntered-push (g.Z.Zone.slots c.args.zone.now) c.requires.mesh was.cavity was.entries.items c.args.i c.args.k f c.requires.inside c.in-Some.ensures.live.1 is now.entered in
    let same = get_or_append_left was.entries.items (f.face ∷ []) 0 c.args.i fits in
    record {
      entered = rw (c.in_ok-push.ensures, c.in_ok-push-2.ensures.items) entered;
      growing = rw (c.in_ok-push.ensures, c.in_ok-push-2.ensures.items, same) grown;
    }

pub returns-in_ok-push-2-clause-entry : goal.returns-in_ok-push-2-clause-entry
returns-in_ok-push-2-clause-entry g c =
    let was = c.args.self.now in
    let fits : c.args.i < length was.entries.items = omega (arith, c.requires.inside, c.requires.growing.entered.many) in
    rw c.in_ok-push-2.ensures.items (get_or_append_left was.entries.items (c.in-Some.f.face ∷ []) 0 c.args.i fits)

pub returns-else-test-clause-growing : goal.returns-else-test-clause-growing
returns-else-test-clause-growing g c =
    let was = c.args.self.now in
    let now = c.requires.growing in
    let f = c.in-Some.f in
    let small : entry_of was c.args.i < 4 = now.entered.faces c.args.i c.requires.inside in
    let is = behind_is (g.Z.Zone.slots c.args.zone.now) was.cavity c.args.i c.args.k c.at.result _ c.at.ensures c.in-Some.ensures.value in
    let grown = Growing-out (g.Z.Zone.slots c.args.zone.now) (g.Z.Zone.takes c.args.zone.now) was.start.index c.requires.mesh was.cavity was.rim c.args.i (entry_of was c.args.i) c.args.k f c.requires.inside small c.requires.face is (λ t. true≢false (sym (c.test.ensures.value.1 t) ∙ c.if-test.false)) now.growing in
    on_ok_weaker c.push-else-test.result (λ (e : c.push-else-test.new.self ≡ was.rim ++ f ∷ []). record { entered = now.entered; growing = rw e grown }) c.push-else-test.ensures.ok
