use Rattle.std.proofs.Common.{◌≡◌, ◌∙◌, ◌++◌, ◌∷◌, ◌-◌, [], ℕ, length, map, refl, sym, ap, Result, Ok, Err, Bool, true, false, arith}
use Rattle.std.proofs.lemmas.Result.{err_from_is_err_and}
use Rattle.std.proofs.lemmas.List.{map-append}
use Rattle.tet_text.specs.declared.fault.TextFault.{TextFault}
use Rattle.tet_text.specs.Reading.{line_at}
use Rattle.tet_text.specs.Views.{content_left, line_total}
use Rattle.tet_text.proofs.ContentLines.{content_left_few}
use Rattle.plc_files.proofs.Repeats.{many_none}
use Rattle.soup_files.specs.declared.fields.Grammar.TheVariants.{Wide}
use Rattle.soup_files.specs.Solids.{next_solid, placed_solids, solid_polygon, solids_of}
use Rattle.soup_files.specs.Stl.{ascii_facet_of}
use Rattle.soup_files.proofs.Facets.{line_left}
use Rattle.soup_files.proofs.FoundVertices.{seen_none}
use Rattle.soup_files.proofs.ManySolids.{SolidsSeen, all_solids, facet_in, facets_more, going_on, next_few, solids_more, solids_placed, solids_seen_more, stop_facet, stop_first, stop_line, stop_next}
use Rattle.soup_files.proofs.Spent.{facet_takes}
use Rattle.soup_files.proofs.solids.read_solids.Goals as goal

pub loop-triangles-init : goal.loop-triangles-init
loop-triangles-init c =
    let start = c.args.lines.now in
    let whole = solids_of (length (content_left start)) 1 (line_total start) (content_left start) in
    let none : SolidsSeen [] [] [] = record { seen = seen_none; solids = refl } in
    ([], length (content_left start), rw (c.requires.none, c.new-triangles.ensures) none, many_none whole, omega arith, omega arith, refl)

pub returns-in_err-fields : goal.returns-in_err-fields
returns-in_err-fields c =
    let inv = c.loop-triangles.invariant in
    let start = c.args.lines.now in
    let whole = solids_of (length (content_left start)) 1 (line_total start) (content_left start) in
    let p = err_from_is_err_and c.from_residual.result c.from_residual.ensures.1 in
    let left = content_left c.loop-triangles.lines in
    let none = ap (λ (total : ℕ). line_at total left) (sym inv.6) ∙ sym c.in_err-fields.ensures.value in
    rw (p.1, p.2) (ap placed_solids (stop_line inv.0 inv.1 c.loop-triangles.solid (line_total start) left c.in_err-fields.field-0.0 whole none inv.3))

pub returns-in_err-starts_facet : goal.returns-in_err-starts_facet
returns-in_err-starts_facet c =
    let inv = c.loop-triangles.invariant in
    let start = c.args.lines.now in
    let whole = solids_of (length (content_left start)) 1 (line_total start) (content_left start) in
    let p = err_from_is_err_and c.from_residual-in_err-starts_facet.result c.from_residual-in_err-starts_facet.ensures.1 in
    let left = content_left c.loop-triangles.lines in
    let behind = content_left c.want_line.new.self in
    let line = c.in_ok-fields.fields in
    let solid = c.loop-triangles.solid in
    let first = ap (λ (total : ℕ). line_at total left) (sym inv.6) ∙ sym c.in_ok-fields.ensures.value in
    let one = line_left (line_total start) left behind line first in
    let going = going_on inv.0 inv.1 solid (line_total start) left whole (omega (arith, one, inv.4)) inv.3 in
    rw (p.1, p.2) (ap placed_solids (stop_first inv.0 (inv.1 - 1) solid (line_total start) left behind line whole first going c.in_err-starts_facet.field-0.0 (sym c.in_err-starts_facet.ensures)))

pub returns-in_err-facet : goal.returns-in_err-facet
returns-in_err-facet c =
    let inv = c.loop-triangles.invariant in
    let start = c.args.lines.now in
    let whole = solids_of (length (content_left start)) 1 (line_total start) (content_left start) in
    let p = err_from_is_err_and c.from_residual-in_err-facet.result c.from_residual-in_err-facet.ensures.1 in
    let left = content_left c.loop-triangles.lines in
    let behind = content_left c.want_line.new.self in
    let line = c.in_ok-fields.fields in
    let solid = c.loop-triangles.solid in
    let first = ap (λ (total : ℕ). line_at total left) (sym inv.6) ∙ sym c.in_ok-fields.ensures.value in
    let one = line_left (line_total start) left behind line first in
    let going = going_on inv.0 inv.1 solid (line_total start) left whole (omega (arith, one, inv.4)) inv.3 in
    let total : line_total c.want_line.new.self ≡ line_total start = c.in_ok-fields.ensures.count ∙ inv.6 in
    let more = sym c.in_ok-starts_facet.ensures ∙ ap (λ (b : Bool). let made : Result Bool TextFault = Ok b in made) c.if-branch.true in
    let fault = c.in_err-facet.field-0.0 in
    let failed : ascii_facet_of Wide (line_total start) line.line behind ≡ Err fault = sym (ap (λ (n : ℕ). ascii_facet_of Wide n c.line-line.result behind) total ∙ ap (λ (l : ℕ). ascii_facet_of Wide (line_total start) l behind) c.line-line.ensures) ∙ sym c.in_err-facet.ensures.value in
    rw (p.1, p.2) (ap placed_solids (stop_facet inv.0 (inv.1 - 1) solid (line_total start) left behind line whole first going fault more failed))

pub loop-triangles-smaller-in-Continue-branch-5 : goal.loop-triangles-smaller-in-Continue-branch-5
loop-triangles-smaller-in-Continue-branch-5 c =
    let left = content_left c.loop-triangles.lines in
    let behind = content_left c.want_line.new.self in
    let first = line_left (line_total c.loop-triangles.lines) left behind c.in_ok-fields.fields (sym c.in_ok-fields.ensures.value) in
    let taken = facet_takes Wide (line_total c.want_line.new.self) c.line-line.result behind (c.in_ok-facet.facet, content_left c.read_facet.new.lines) (sym c.in_ok-facet.ensures.value) in
    omega (arith, first, taken)

pub loop-triangles-preserved-in-Continue-branch-5 : goal.loop-triangles-preserved-in-Continue-branch-5
loop-triangles-preserved-in-Continue-branch-5 c =
    let inv = c.loop-triangles.invariant in
    let start = c.args.lines.now in
    let whole = solids_of (length (content_left start)) 1 (line_total start) (content_left start) in
    let left = content_left c.loop-triangles.lines in
    let behind = content_left c.want_line.new.self in
    let line = c.in_ok-fields.fields in
    let solid = c.loop-triangles.solid in
    let first = ap (λ (total : ℕ). line_at total left) (sym inv.6) ∙ sym c.in_ok-fields.ensures.value in
    let one = line_left (line_total start) left behind line first in
    let going = going_on inv.0 inv.1 solid (line_total start) left whole (omega (arith, one, inv.4)) inv.3 in
    let total : line_total c.want_line.new.self ≡ line_total start = c.in_ok-fields.ensures.count ∙ inv.6 in
    let more = sym c.in_ok-starts_facet.ensures ∙ ap (λ (b : Bool). let made : Result Bool TextFault = Ok b in made) c.if-branch.true in
    let facet = c.in_ok-facet.facet in
    let triangle = c.in_ok-triangle.triangle in
    let rest = content_left c.read_facet.new.lines in
    let made : ascii_facet_of Wide (line_total start) line.line behind ≡ Ok (facet, rest) = sym (ap (λ (n : ℕ). ascii_facet_of Wide n c.line-line.result behind) total ∙ ap (λ (l : ℕ). ascii_facet_of Wide (line_total start) l behind) c.line-line.ensures) ∙ sym c.in_ok-facet.ensures.value in
    let seen = solids_seen_more inv.0 c.loop-triangles.points c.placed.new.points (map solid_polygon c.loop-triangles.triangles) solid facet triangle inv.2 c.in_ok-triangle.ensures in
    let faces : map solid_polygon c.push.new.self ≡ map solid_polygon c.loop-triangles.triangles ++ solid_polygon (record { solid = solid; triangle = triangle }) ∷ [] = ap (map solid_polygon) c.in_ok-push.ensures.ok ∙ map-append solid_polygon c.loop-triangles.triangles (record { solid = solid; triangle = triangle } ∷ []) in
    let gone = facets_more inv.0 (inv.1 - 1) solid (line_total start) left behind line whole first going facet rest more made in
    let taken = facet_takes Wide (line_total start) line.line behind (facet, rest) made in
    (inv.0 ++ facet_in solid facet ∷ [], inv.1 - 1, rw faces seen, gone, omega (arith, one, taken, inv.4), omega (arith, one, taken, inv.5), c.in_ok-facet.ensures.count ∙ total)

pub returns-in_err-next_solid : goal.returns-in_err-next_solid
returns-in_err-next_solid c =
    let inv = c.loop-triangles.invariant in
    let start = c.args.lines.now in
    let whole = solids_of (length (content_left start)) 1 (line_total start) (content_left start) in
    let p = err_from_is_err_and c.from_residual-in_err-next_solid.result c.from_residual-in_err-next_solid.ensures.1 in
    let left = content_left c.loop-triangles.lines in
    let behind = content_left c.want_line.new.self in
    let line = c.in_ok-fields.fields in
    let solid = c.loop-triangles.solid in
    let first = ap (λ (total : ℕ). line_at total left) (sym inv.6) ∙ sym c.in_ok-fields.ensures.value in
    let one = line_left (line_total start) left behind line first in
    let going = going_on inv.0 inv.1 solid (line_total start) left whole (omega (arith, one, inv.4)) inv.3 in
    let end = sym c.in_ok-starts_facet.ensures ∙ ap (λ (b : Bool). let made : Result Bool TextFault = Ok b in made) c.if-branch.false in
    rw (p.1, p.2) (ap placed_solids (stop_next inv.0 (inv.1 - 1) solid (line_total start) left behind line whole first going c.in_err-next_solid.field-0.0 end (sym c.in_err-next_solid.ensures.value)))

pub overflow_add-solid : goal.overflow_add-solid
overflow_add-solid c =
    let inv = c.loop-triangles.invariant in
    let start = c.args.lines.now in
    let left = content_left c.loop-triangles.lines in
    let one = line_left (line_total c.loop-triangles.lines) left (content_left c.want_line.new.self) c.in_ok-fields.fields (sym c.in_ok-fields.ensures.value) in
    omega (arith, one, inv.5, content_left_few start, c.requires.total)

pub loop-triangles-smaller : goal.loop-triangles-smaller
loop-triangles-smaller c =
    let left = content_left c.loop-triangles.lines in
    let behind = content_left c.want_line.new.self in
    let first = line_left (line_total c.loop-triangles.lines) left behind c.in_ok-fields.fields (sym c.in_ok-fields.ensures.value) in
    let taken = next_few behind (c.in_ok-next_solid.field-0, content_left c.next_solid.new.lines) (sym c.in_ok-next_solid.ensures.value) in
    omega (arith, first, taken)

pub loop-triangles-preserved : goal.loop-triangles-preserved
loop-triangles-preserved c =
    let inv = c.loop-triangles.invariant in
    let start = c.args.lines.now in
    let whole = solids_of (length (content_left start)) 1 (line_total start) (content_left start) in
    let left = content_left c.loop-triangles.lines in
    let behind = content_left c.want_line.new.self in
    let rest = content_left c.next_solid.new.lines in
    let line = c.in_ok-fields.fields in
    let solid = c.loop-triangles.solid in
    let first = ap (λ (total : ℕ). line_at total left) (sym inv.6) ∙ sym c.in_ok-fields.ensures.value in
    let one = line_left (line_total start) left behind line first in
    let going = going_on inv.0 inv.1 solid (line_total start) left whole (omega (arith, one, inv.4)) inv.3 in
    let total : line_total c.want_line.new.self ≡ line_total start = c.in_ok-fields.ensures.count ∙ inv.6 in
    let end = sym c.in_ok-starts_facet.ensures ∙ ap (λ (b : Bool). let made : Result Bool TextFault = Ok b in made) c.if-branch.false in
    let next : next_solid behind ≡ Ok (true, rest) = sym c.in_ok-next_solid.ensures.value ∙ ap (λ (b : Bool). Ok (b, rest)) c.if-branch-2.true in
    let gone = solids_more inv.0 (inv.1 - 1) solid (line_total start) left behind line whole first going rest end next in
    let taken = next_few behind (true, rest) next in
    (inv.0, inv.1 - 1, inv.2, gone, omega (arith, one, taken, inv.4), omega (arith, one, taken, inv.5), c.in_ok-next_solid.ensures.count ∙ total)

pub returns-else-branch-2 : goal.returns-else-branch-2
returns-else-branch-2 c =
    let inv = c.loop-triangles.invariant in
    let start = c.args.lines.now in
    let whole = solids_of (length (content_left start)) 1 (line_total start) (content_left start) in
    let left = content_left c.loop-triangles.lines in
    let behind = content_left c.want_line.new.self in
    let rest = content_left c.next_solid.new.lines in
    let line = c.in_ok-fields.fields in
    let solid = c.loop-triangles.solid in
    let first = ap (λ (total : ℕ). line_at total left) (sym inv.6) ∙ sym c.in_ok-fields.ensures.value in
    let one = line_left (line_total start) left behind line first in
    let going = going_on inv.0 inv.1 solid (line_total start) left whole (omega (arith, one, inv.4)) inv.3 in
    let end = sym c.in_ok-starts_facet.ensures ∙ ap (λ (b : Bool). let made : Result Bool TextFault = Ok b in made) c.if-branch.false in
    let last : next_solid behind ≡ Ok (false, rest) = sym c.in_ok-next_solid.ensures.value ∙ ap (λ (b : Bool). Ok (b, rest)) c.if-branch-2.false in
    solids_placed inv.0 c.loop-triangles.points (map solid_polygon c.loop-triangles.triangles) solid whole inv.2 (all_solids inv.0 (inv.1 - 1) solid (line_total start) left behind line whole first going rest end last)
