use Rattle.std.proofs.Common.{◌∙◌, ◌+ℤ◌, ◌-ℤ◌, ◌*ℤ◌, ap, w64}
use Rattle.exact_algebra.proofs.Size.{read}
use Rattle.sign_predicates.specs.declared.volumes.Volumes.{Volumes}
use Rattle.sign_predicates.proofs.Lifting.{rises_volumes, volume_back}
use mir.Syntax.{w128}
use Rattle.sign_predicates.proofs.lifted.in_sphere.Goals as goal

pub returns : goal.returns
returns c =
    let a = c.args in
    let h = c.requires.short in
    let is = c.requires.value in
    let p = read w64 c.rise.result c.rise.type_inv ∙ c.rise.ensures.value in
    let q = read w64 c.rise-2.result c.rise-2.type_inv ∙ c.rise-2.ensures.value in
    let r = read w64 c.rise-3.result c.rise-3.type_inv ∙ c.rise-3.ensures.value in
    let s = read w64 c.rise-4.result c.rise-4.type_inv ∙ c.rise-4.ensures.value in
    let t = volume_back a.v.a h.a_short ∙ ap (λ (v : Volumes). v.a) is in
    let u = volume_back a.v.b h.b_short ∙ ap (λ (v : Volumes). v.b) is in
    let v = volume_back a.v.c h.c_short ∙ ap (λ (v : Volumes). v.c) is in
    let w = volume_back a.v.d h.d_short ∙ ap (λ (v : Volumes). v.d) is in
    read w128 c.short_sum_of_four.result c.short_sum_of_four.type_inv
    ∙ c.short_sum_of_four.ensures.value
    ∙ (λ i. p i *ℤ t i -ℤ q i *ℤ u i +ℤ r i *ℤ v i -ℤ s i *ℤ w i)
    ∙ rises_volumes (record { a = a.a; b = a.b; c = a.c; d = a.d }) a.e
