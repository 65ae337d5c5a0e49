use Rattle.std.proofs.Common.{◌∙◌, ◌+ℤ◌, ◌-ℤ◌, ◌*ℤ◌, ap}
use Rattle.exact_algebra.proofs.Size.{read}
use Rattle.sign_predicates.specs.declared.volumes.Volumes.{Volumes}
use Rattle.sign_predicates.proofs.Lifting.{volume_back}
use Rattle.sign_predicates.proofs.Vectors.{square_back, sphere_sum_is}
use mir.Syntax.{w128}
use Rattle.sign_predicates.proofs.sphere.short_sphere_sum.Goals as goal

pub returns : goal.returns
returns c =
    let k = c.squares_of-s.result in
    let squares_are = c.squares_of-s.ensures.value in
    let g = c.squares_of-s.ensures.size in
    let m = c.short_volumes-v.result in
    let is = c.short_volumes-v.ensures.value in
    let h = c.short_volumes-v.ensures.short in
    let p = square_back k.a g.a_small ∙ (λ i. (squares_are i).a) in
    let q = square_back k.b g.b_small ∙ (λ i. (squares_are i).b) in
    let r = square_back k.c g.c_small ∙ (λ i. (squares_are i).c) in
    let s = square_back k.d g.d_small ∙ (λ i. (squares_are i).d) in
    let t = volume_back m.a h.a_short ∙ ap (λ (v : Volumes). v.a) is in
    let u = volume_back m.b h.b_short ∙ ap (λ (v : Volumes). v.b) is in
    let v = volume_back m.c h.c_short ∙ ap (λ (v : Volumes). v.c) is in
    let w = volume_back m.d h.d_short ∙ ap (λ (v : Volumes). v.d) is in
    read w128 c.short_sum_of_four.result c.short_sum_of_four.type_inv
    ∙ c.short_sum_of_four.ensures.value
    ∙ (λ i. p i *ℤ t i -ℤ q i *ℤ u i +ℤ r i *ℤ v i -ℤ s i *ℤ w i)
    ∙ sphere_sum_is c.args.a c.args.b c.args.c c.args.d
