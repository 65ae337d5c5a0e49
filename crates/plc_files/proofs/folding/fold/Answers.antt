use Rattle.std.proofs.Common.{◌≡◌, ℕ, [], ◌∙◌, ap, arith, length, subst, sym}
use Rattle.geo_laws.specs.Complex.{Complex}
use Rattle.sign_predicates.specs.Point.{RationalPoint}
use Rattle.std.specs.Prelude.{List}
use Rattle.plc_files.specs.Folding.{HasCornersBelow, folded_complex}
use Rattle.plc_files.specs.Appending.{plus_holes, plus_regions}
use Rattle.plc_files.proofs.Folded.{corners_folded}
use Rattle.plc_files.proofs.folding.fold.Goals as goal

is_folded : (made mid new : Complex) (folded : List ℕ) (c : Complex) (hs : List RationalPoint) → made ≡ record (folded_complex folded c) { holes = []; regions = [] } → hs ≡ c.holes → mid ≡ plus_holes hs made
    → new ≡ plus_regions c.regions mid → new ≡ folded_complex folded c
is_folded made mid new folded c hs facets holes first then =
    then ∙ ap (plus_regions c.regions) (first ∙ ap (plus_holes hs) facets ∙ ap (λ gs. plus_holes gs (record (folded_complex folded c) { holes = []; regions = [] })) holes)

pub returns-clause-folded : goal.returns-clause-folded
returns-clause-folded c =
    is_folded c.in_ok-made.made c.copy_holes.new.made c.copy_regions.new.made c.args.table.now.folded c.args.complex.now c.hole_points.result.now c.in_ok-made.ensures c.hole_points.ensures c.in_ok-copy_holes.ensures
    c.in_ok-copy_regions.ensures

pub returns-clause-corners : goal.returns-clause-corners
returns-clause-corners c =
    let table = c.args.table.now in
    let complex = c.args.complex.now in
    let f = c.requires.table.folded in
    let same = is_folded c.in_ok-made.made c.copy_holes.new.made c.copy_regions.new.made table.folded complex c.hole_points.result.now c.in_ok-made.ensures c.hole_points.ensures c.in_ok-copy_holes.ensures
    c.in_ok-copy_regions.ensures in
    subst (HasCornersBelow (length table.points)) (sym same)
    (corners_folded table.folded (length table.points) complex (subst (λ n. HasCornersBelow n complex) (sym f.as_many) c.requires.corners) (λ i l. (f.equal i (omega (arith, l, f.as_many))).0))
