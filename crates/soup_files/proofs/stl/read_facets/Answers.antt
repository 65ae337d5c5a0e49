use Rattle.std.proofs.Common.{◌≡◌, ◌∙◌, ◌++◌, ◌∷◌, ◌+◌, ◌-◌, [], ℕ, length, map, sym, ap, Result, Ok, Err, Bool, arith}
use Rattle.std.proofs.lemmas.Result.{err_from_is_err_and}
use Rattle.std.proofs.lemmas.List.{map-append, length_push}
use Rattle.tet_text.specs.declared.fault.TextFault.{TextFault}
use Rattle.tet_text.specs.Views.{content_left, line_total}
use Rattle.tet_text.specs.Reading.{line_at}
use Rattle.soup_files.specs.declared.fields.Grammar.TheVariants.{Strict}
use Rattle.soup_files.specs.Stl.{ascii_facet_of, ascii_facets_of}
use Rattle.soup_files.specs.Triangles.{triangle_polygon, placed_facets}
use Rattle.soup_files.proofs.Spent.{facet_takes}
use Rattle.soup_files.proofs.FoundVertices.{seen_more, seen_placed}
use Rattle.soup_files.proofs.Facets.{stop_line, stop_first, stop_facet, all_facets, facets_more, line_left, going_on}
use Rattle.soup_files.proofs.stl.read_facets.Goals as goal

pub returns-in_err-fields-clause-value : goal.returns-in_err-fields-clause-value
returns-in_err-fields-clause-value c =
    let inv = c.loop-triangles.invariant in
    let start = c.args.lines.now in
    let whole = ascii_facets_of (length (content_left start)) (line_total start) (content_left start) in
    let p = err_from_is_err_and c.from_residual.result c.from_residual.ensures.1 in
    let left = content_left c.loop-triangles.lines in
    let none = ap (λ (total : ℕ). line_at total left) (sym inv.4) ∙ sym c.in_err-fields.ensures.value in
    rw (p.1, p.2) (ap placed_facets (stop_line inv.0 (length (content_left start) - length inv.0) (line_total start) left c.in_err-fields.field-0.0 whole none inv.2))

pub returns-in_err-starts_facet-clause-value : goal.returns-in_err-starts_facet-clause-value
returns-in_err-starts_facet-clause-value c =
    let inv = c.loop-triangles.invariant in
    let start = c.args.lines.now in
    let whole = ascii_facets_of (length (content_left start)) (line_total start) (content_left start) in
    let p = err_from_is_err_and c.from_residual-in_err-starts_facet.result c.from_residual-in_err-starts_facet.ensures.1 in
    let left = content_left c.loop-triangles.lines in
    let behind = content_left c.want_line.new.self in
    let line = c.in_ok-fields.fields in
    let first = ap (λ (total : ℕ). line_at total left) (sym inv.4) ∙ sym c.in_ok-fields.ensures.value in
    let going = going_on inv.0 (length (content_left start)) (line_total start) left behind line whole first inv.3 inv.2 in
    rw (p.1, p.2) (ap placed_facets (stop_first inv.0 (length (content_left start) - (length inv.0 + 1)) (line_total start) left behind line c.in_err-starts_facet.field-0.0 whole first (sym c.in_err-starts_facet.ensures) going))

pub returns-then-not-branch-clause-value : goal.returns-then-not-branch-clause-value
returns-then-not-branch-clause-value c =
    let inv = c.loop-triangles.invariant in
    let start = c.args.lines.now in
    let whole = ascii_facets_of (length (content_left start)) (line_total start) (content_left start) in
    let left = content_left c.loop-triangles.lines in
    let behind = content_left c.want_line.new.self in
    let line = c.in_ok-fields.fields in
    let most = length (content_left start) - (length inv.0 + 1) in
    let first = ap (λ (total : ℕ). line_at total left) (sym inv.4) ∙ sym c.in_ok-fields.ensures.value in
    let going = going_on inv.0 (length (content_left start)) (line_total start) left behind line whole first inv.3 inv.2 in
    let end = sym c.in_ok-starts_facet.ensures ∙ ap (λ (b : Bool). let made : Result Bool TextFault = Ok b in made) c.if-not-branch.true in
    seen_placed inv.0 c.loop-triangles.points (map triangle_polygon c.loop-triangles.triangles) behind whole inv.1 (all_facets inv.0 most (line_total start) left behind line whole first end going)

pub returns-in_err-facet-clause-value : goal.returns-in_err-facet-clause-value
returns-in_err-facet-clause-value c =
    let inv = c.loop-triangles.invariant in
    let start = c.args.lines.now in
    let whole = ascii_facets_of (length (content_left start)) (line_total start) (content_left start) in
    let left = content_left c.loop-triangles.lines in
    let behind = content_left c.want_line.new.self in
    let line = c.in_ok-fields.fields in
    let most = length (content_left start) - (length inv.0 + 1) in
    let first = ap (λ (total : ℕ). line_at total left) (sym inv.4) ∙ sym c.in_ok-fields.ensures.value in
    let going = going_on inv.0 (length (content_left start)) (line_total start) left behind line whole first inv.3 inv.2 in
    let total : line_total c.want_line.new.self ≡ line_total start = c.in_ok-fields.ensures.count ∙ inv.4 in
    let more = sym c.in_ok-starts_facet.ensures ∙ ap (λ (b : Bool). let made : Result Bool TextFault = Ok b in made) c.if-not-branch.false in
    let p = err_from_is_err_and c.from_residual-in_err-facet.result c.from_residual-in_err-facet.ensures.1 in
    let fault = c.in_err-facet.field-0.0 in
    let failed : ascii_facet_of Strict (line_total start) line.line behind ≡ Err fault = sym (ap (λ (n : ℕ). ascii_facet_of Strict n c.line-line.result behind) total ∙ ap (λ (l : ℕ). ascii_facet_of Strict (line_total start) l behind) c.line-line.ensures) ∙ sym c.in_err-facet.ensures.value in
    rw (p.1, p.2) (ap placed_facets (stop_facet inv.0 most (line_total start) left behind line fault whole first more failed going))

pub loop-triangles-smaller : goal.loop-triangles-smaller
loop-triangles-smaller c =
    let left = content_left c.loop-triangles.lines in
    let behind = content_left c.want_line.new.self in
    let first = line_left (line_total c.loop-triangles.lines) left behind c.in_ok-fields.fields (sym c.in_ok-fields.ensures.value) in
    let taken = facet_takes Strict (line_total c.want_line.new.self) c.line-line.result behind (c.in_ok-facet.facet, content_left c.read_facet.new.lines) (sym c.in_ok-facet.ensures.value) in
    omega (arith, first, taken)

pub loop-triangles-preserved : goal.loop-triangles-preserved
loop-triangles-preserved c =
    let inv = c.loop-triangles.invariant in
    let start = c.args.lines.now in
    let whole = ascii_facets_of (length (content_left start)) (line_total start) (content_left start) in
    let left = content_left c.loop-triangles.lines in
    let behind = content_left c.want_line.new.self in
    let line = c.in_ok-fields.fields in
    let most = length (content_left start) - (length inv.0 + 1) in
    let first = ap (λ (total : ℕ). line_at total left) (sym inv.4) ∙ sym c.in_ok-fields.ensures.value in
    let going = going_on inv.0 (length (content_left start)) (line_total start) left behind line whole first inv.3 inv.2 in
    let total : line_total c.want_line.new.self ≡ line_total start = c.in_ok-fields.ensures.count ∙ inv.4 in
    let more = sym c.in_ok-starts_facet.ensures ∙ ap (λ (b : Bool). let made : Result Bool TextFault = Ok b in made) c.if-not-branch.false in
    let facet = c.in_ok-facet.facet in
    let rest = content_left c.read_facet.new.lines in
    let made : ascii_facet_of Strict (line_total start) line.line behind ≡ Ok (facet, rest) = sym (ap (λ (n : ℕ). ascii_facet_of Strict n c.line-line.result behind) total ∙ ap (λ (l : ℕ). ascii_facet_of Strict (line_total start) l behind) c.line-line.ensures) ∙ sym c.in_ok-facet.ensures.value in
    let seen = seen_more inv.0 c.loop-triangles.points c.placed.new.points (map triangle_polygon c.loop-triangles.triangles) facet c.in_ok-placed.field-0 inv.1 c.in_ok-placed.ensures in
    let faces : map triangle_polygon c.push.new.self ≡ map triangle_polygon c.loop-triangles.triangles ++ triangle_polygon c.in_ok-placed.field-0 ∷ [] = ap (map triangle_polygon) c.in_ok-push.ensures.ok ∙ map-append triangle_polygon c.loop-triangles.triangles (c.in_ok-placed.field-0 ∷ []) in
    let count : length (inv.0 ++ facet ∷ []) ≡ length inv.0 + 1 = length_push inv.0 facet in
    let gone = facets_more inv.0 most (line_total start) left behind rest line facet whole first more made going in
    let one = line_left (line_total start) left behind line first in
    let taken = facet_takes Strict (line_total start) line.line behind (facet, rest) made in
    let few = inv.3 in
    (inv.0 ++ facet ∷ [], rw faces seen, rw count gone, omega (arith, count, one, taken, few), c.in_ok-facet.ensures.count ∙ total)
