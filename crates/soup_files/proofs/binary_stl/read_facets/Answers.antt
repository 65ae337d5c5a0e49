use Rattle.std.proofs.Common.{◌≡◌, ◌∙◌, ◌++◌, ◌∷◌, ◌+◌, ◌-◌, [], ℕ, suc, List, map, sym, ap, arith}
use Rattle.std.proofs.lemmas.Result.{err_from_is_err_and}
use Rattle.std.proofs.lemmas.List.{map-append}
use Rattle.soup_files.specs.BinaryStl.{facets_to_end, settled, facets_behind}
use Rattle.soup_files.specs.Triangles.{triangle_polygon}
use Rattle.soup_files.proofs.FoundVertices.{seen_more}
use Rattle.soup_files.proofs.BinaryFacets.{stop_facet, facets_more, all_facets, bytes_behind, seen_settled}
use Rattle.soup_files.proofs.binary_stl.read_facets.Goals as goal

pub returns-in_err-facet : goal.returns-in_err-facet
returns-in_err-facet c =
    let inv = c.loop-i.invariant in
    let i = c.loop-i.i in
    let left = c.loop-i.left.now in
    let whole = facets_to_end c.args.count 1 c.args.bytes.now in
    let e : c.args.count - i ≡ suc (c.args.count - (i + 1)) = omega arith in
    let so_far : facets_behind inv.0 (facets_to_end (suc (c.args.count - (i + 1))) (i + 1) left) ≡ whole = ap (λ (n : ℕ). facets_behind inv.0 (facets_to_end n (i + 1) left)) (sym e) ∙ inv.2 in
    let p = err_from_is_err_and c.from_residual.result c.from_residual.ensures.1 in
    rw (p.1, p.2) (ap settled (stop_facet inv.0 (c.args.count - (i + 1)) (i + 1) left c.in_err-facet.field-0.0 whole (sym c.in_err-facet.ensures.value) so_far))

pub loop-i-preserved : goal.loop-i-preserved
loop-i-preserved c =
    let inv = c.loop-i.invariant in
    let i = c.loop-i.i in
    let left = c.loop-i.left.now in
    let whole = facets_to_end c.args.count 1 c.args.bytes.now in
    let facet = c.in_ok-facet.facet in
    let more = c.args.count - (i + 1) in
    let e : c.args.count - i ≡ suc more = omega arith in
    let so_far : facets_behind inv.0 (facets_to_end (suc more) (i + 1) left) ≡ whole = ap (λ (n : ℕ). facets_behind inv.0 (facets_to_end n (i + 1) left)) (sym e) ∙ inv.2 in
    let gone = facets_more inv.0 more (i + 1) left facet whole (sym c.in_ok-facet.ensures.value) so_far in
    let rest : facets_behind (inv.0 ++ facet ∷ []) (facets_to_end more (i + 1 + 1) c.behind-left.result.now) ≡ whole = ap (λ (bytes : List ℕ). facets_behind (inv.0 ++ facet ∷ []) (facets_to_end more (i + 1 + 1) bytes)) c.behind-left.ensures ∙ gone in
    let seen = seen_more inv.0 c.loop-i.points c.placed.new.points (map triangle_polygon c.loop-i.triangles) facet c.in_ok-placed.field-0 inv.1 c.in_ok-placed.ensures in
    let faces : map triangle_polygon c.push.new.self ≡ map triangle_polygon c.loop-i.triangles ++ triangle_polygon c.in_ok-placed.field-0 ∷ [] = ap (map triangle_polygon) c.in_ok-push.ensures.ok ∙ map-append triangle_polygon c.loop-i.triangles (c.in_ok-placed.field-0 ∷ []) in
    (inv.0 ++ facet ∷ [], rw faces seen, rest)

pub returns-in_err-want_end : goal.returns-in_err-want_end
returns-in_err-want_end c =
    let inv = c.loop-i.invariant in
    let i = c.loop-i.i in
    let left = c.loop-i.left.now in
    let whole = facets_to_end c.args.count 1 c.args.bytes.now in
    let none : c.args.count - i ≡ 0 = omega arith in
    let place : i + 1 ≡ c.args.count + 1 = omega arith in
    let so_far : facets_behind inv.0 (facets_to_end 0 (c.args.count + 1) left) ≡ whole = ap (λ (n : ℕ). facets_behind inv.0 (facets_to_end 0 n left)) (sym place) ∙ ap (λ (n : ℕ). facets_behind inv.0 (facets_to_end n (i + 1) left)) (sym none) ∙ inv.2 in
    let p = err_from_is_err_and c.from_residual-in_err-want_end.result c.from_residual-in_err-want_end.ensures.1 in
    rw (p.1, p.2) (ap settled (bytes_behind inv.0 (c.args.count + 1) left c.in_err-want_end.field-0.0 whole (sym c.in_err-want_end.ensures) so_far))

pub returns : goal.returns
returns c =
    let inv = c.loop-i.invariant in
    let i = c.loop-i.i in
    let left = c.loop-i.left.now in
    let whole = facets_to_end c.args.count 1 c.args.bytes.now in
    let none : c.args.count - i ≡ 0 = omega arith in
    let place : i + 1 ≡ c.args.count + 1 = omega arith in
    let so_far : facets_behind inv.0 (facets_to_end 0 (c.args.count + 1) left) ≡ whole = ap (λ (n : ℕ). facets_behind inv.0 (facets_to_end 0 n left)) (sym place) ∙ ap (λ (n : ℕ). facets_behind inv.0 (facets_to_end n (i + 1) left)) (sym none) ∙ inv.2 in
    seen_settled inv.0 c.loop-i.points (map triangle_polygon c.loop-i.triangles) whole inv.1 (all_facets inv.0 (c.args.count + 1) left whole (sym c.in_ok-want_end.ensures) so_far)
