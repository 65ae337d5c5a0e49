use Rattle.std.proofs.Common.{◌≡◌, ◌-◌, ℕ, List, length, refl, ap, sym, subst, ◌∙◌, arith}
use Rattle.std.specs.Prelude.{Option, Ok, Some, None}
use Rattle.std.proofs.lemmas.List.{length_push}
use Rattle.std.proofs.lemmas.Result.{err_from_is_err_and}
use Rattle.sign_predicates.specs.Point.{Point}
use Rattle.geo_laws.specs.Segment.{midpoint, with_midpoint, with_halves, first_missing, Protected as ProtectedEnd}
use Rattle.geo_laws.specs.Delaunay.{point}
use Rattle.geo_laws.specs.declared.complex.Piece.{Piece}
use Rattle.segment_protect.specs.Front.{pieces_in}
use Rattle.segment_protect.specs.Ends.{IsNextMissing}
use Rattle.segment_protect.proofs.Ends.{ends_at, ends_fault, ends_split}
use Rattle.segment_protect.proofs.front.Front.split_missing.Goals as goal

-- the next missing piece, or none
next_none : (depth : ℕ) (ps : List Point) (pieces : List Piece) (o : Option (ℕ × Piece)) → o ≡ None → IsNextMissing depth ps pieces (Ok o) → first_missing ps pieces ≡ None
next_none depth ps pieces o e next = let P : Option (ℕ × Piece) → Type 0 = λ u. IsNextMissing depth ps pieces (Ok u) in subst P e next

next_some : (depth : ℕ) (ps : List Point) (pieces : List Piece) (o : Option (ℕ × Piece)) (k : ℕ) (p : Piece) → o ≡ Some (k, p) → IsNextMissing depth ps pieces (Ok o) → IsNextMissing depth ps pieces (Ok (Some (k, p)))
next_some depth ps pieces o k p e next = let P : Option (ℕ × Piece) → Type 0 = λ u. IsNextMissing depth ps pieces (Ok u) in subst P e next

pub loop-left-init : goal.loop-left-init
loop-left-init c = (c.requires.front, refl, refl)

pub returns-in_err-piece-clause-split : goal.returns-in_err-piece-clause-split
returns-in_err-piece-clause-split c =
    let p = err_from_is_err_and c.from_residual.result c.from_residual.ensures.1 in
    let old = c.args.self.now in
    let front = c.loop-left.self in
    rw (p.1, p.2) (ends_fault c.args.depth c.args.budget c.loop-left.left old.living.points front.living.points (pieces_in old) (pieces_in front) c.in_err-piece.field-0.0
    c.loop-left.invariant.1 c.in_err-piece.ensures.next)

pub returns-in_default-clause-split : goal.returns-in_default-clause-split
returns-in_default-clause-split c =
    let old = c.args.self.now in
    let front = c.loop-left.self in
    let none = next_none c.args.depth front.living.points (pieces_in front) c.in_ok-piece.field-0 c.in_default.is c.in_ok-piece.ensures.next in
    let same = c.in_ok-piece.ensures.living in
    let pieces = c.in_ok-piece.ensures.pieces in
    ends_at c.args.depth c.args.budget c.loop-left.left old.living.points front.living.points (pieces_in old) (pieces_in front) c.loop-left.invariant.1 none
    ∙ (λ j. ProtectedEnd (sym same j).points (sym pieces j))

pub loop-left-preserved : goal.loop-left-preserved
loop-left-preserved c =
    let old = c.args.self.now in
    let front = c.loop-left.self in
    let next = next_some c.args.depth front.living.points (pieces_in front) c.in_ok-piece.field-0 c.in-Some.field-0-0 c.in-Some.piece c.in-Some.is c.in_ok-piece.ensures.next in
    let same : c.next_missing.new.self.living.points ≡ front.living.points = ap (λ l. l.points) c.in_ok-piece.ensures.living in
    let pieces = c.in_ok-piece.ensures.pieces in
    let points : c.halve.new.self.living.points ≡ with_midpoint front.living.points c.in-Some.piece = c.in_ok-halve.ensures.points ∙ ap (λ q. with_midpoint q c.in-Some.piece) same in
    let count = ap length points ∙ length_push front.living.points (midpoint (point front.living.points c.in-Some.piece.a) (point front.living.points c.in-Some.piece.b)) in (
      c.in_ok-halve.ensures.front,
      ends_split c.args.depth c.args.budget c.loop-left.left (c.loop-left.left - 1) old.living.points front.living.points c.halve.new.self.living.points (pieces_in old) (pieces_in front) (pieces_in c.halve.new.self)
          c.in-Some.field-0-0 c.in-Some.piece (omega arith) c.loop-left.invariant.1 next points (c.in_ok-halve.ensures.pieces ∙ (λ j. with_halves c.in-Some.piece (length (same j)) (pieces j))),
      (let total = c.loop-left.invariant.2 in omega arith),
    )
