use Rattle.std.proofs.Common.{◌≡◌, ℕ, List, length, ap, sym, subst, arith}
use Rattle.merged_facets.specs.Merged.{IsMerging}
use Rattle.merged_facets.specs.Labels.{AreLabels, IsIdentity}
use Rattle.merged_facets.specs.Merging.{HasFound, group_of, is_inner}
use Rattle.merged_facets.specs.declared.merging.InnerSide.{InnerSide}
use Rattle.merged_facets.proofs.Labels.{whole}
use Rattle.merged_facets.proofs.Merged.{found_first, merging_found}
use Rattle.merged_facets.proofs.merging.merging_by.Goals as goal

pub loop-i-init : goal.loop-i-init
loop-i-init c =
    let ps = c.args.points.now in
    let cx = c.args.complex.now in
    let list = c.args.list.now in
    let down = c.in_ok-alone.field-0.items in
    subst (λ (ks : List InnerSide). HasFound ps cx list 0 down ks) (sym c.new.ensures.empty)
    (found_first ps cx list down (subst (λ (n : ℕ). IsIdentity down n) c.facet_count.ensures.count c.in_ok-alone.ensures))

pub returns : goal.returns
returns c =
    let down = c.loop-i.found.down.items in
    let ps = c.args.points.now in
    let cx = c.args.complex.now in
    let inner = c.loop-i.found.inner.keys in
    let new = c.settle.new.down in
    let long : length new ≡ length down = omega (arith, c.settle.auto.down, ap length c.deref_mut.ensures.value) in
    let count : c.loop-i.found.down.len ≡ length new = omega (arith, c.settle.auto.down, c.deref_mut.ensures.len) in
    let all : HasFound ps cx c.args.list.now (length c.args.list.now) down inner = subst (λ (n : ℕ). HasFound ps cx c.args.list.now n down inner) (omega arith) c.loop-i.invariant in
    let P : List ℕ → Type 0 = λ d. IsMerging ps cx (group_of (record { least = d; inner = inner })) (is_inner (record { least = d; inner = inner })) in
    subst P (sym (whole c.loop-i.found.down.len new down count))
    (merging_found ps cx c.args.list.now down (record { least = new; inner = inner }) c.requires.mergeable.distinct c.requires.mergeable.corners c.requires.sides all long
    (λ label h i l. c.settle.ensures label (subst (λ (d : List ℕ). AreLabels d label) (sym c.deref_mut.ensures.value) h) i l))
