-- Pieces that were passed, and the others: which one is missing first.
use Rattle.std.proofs.Common.{◌≡◌, ◌≢◌, List, [], ◌++◌, reverse, get_or, Some, None, ap, sym, subst, ◌∙◌, arith}
use Rattle.std.specs.Prelude.{All}
use Rattle.std.proofs.lemmas.List.{append-nil, get_or-map}
use Rattle.sign_predicates.specs.Point.{Point}
use Rattle.geo_laws.specs.Segment.{first_missing}
use Rattle.geo_laws.specs.declared.complex.Piece.{Piece}
use Rattle.cavity_insert.specs.Living.{IsDelaunaySide}
use Rattle.segment_protect.specs.Watch.{pieces_of, IsWatched}
use Rattle.segment_protect.specs.Passed.{IsSide}
use Rattle.segment_protect.specs.Front.{pieces_in, IsNextMissing, IsWatching, HasPassedSides}
use Rattle.segment_protect.specs.declared.watch.Watched.{Watched}
use Rattle.segment_protect.specs.declared.front.Front.{Front}
use Rattle.segment_protect.proofs.Missing.{misses, not_missing, is_missing, find_none, find_next}
use Rattle.segment_protect.proofs.Watching.{pieces_length, top_at, all_and_last}

-- of sides none is missing
none_missing : (ps : List Point) (ws : List Watched) → All (IsSide ps) ws → first_missing ps (pieces_of ws) ≡ None
none_missing ps ws sides = find_none (misses ps) (pieces_of ws) (λ k d h. not_missing ps (get_or (pieces_of ws) k d) (let l = pieces_length ws in subst (λ p. IsDelaunaySide ps p.a p.b) (sym (get_or-map (λ (v : Watched). v.piece) ws k (record { piece = d; seen = 0 }) d (omega arith))) (sides k (record { piece = d; seen = 0 }) (omega arith))))

-- all pieces were passed
pub none_left : (front : Front) → HasPassedSides front → front.rest.items ≡ [] → first_missing front.living.points (pieces_in front) ≡ None
none_left front sides none =
    ap (λ rest. first_missing front.living.points (pieces_of (front.passed.watched.items ++ reverse rest))) none
    ∙ ap (λ ws. first_missing front.living.points (pieces_of ws)) (append-nil front.passed.watched.items) ∙ none_missing front.living.points front.passed.watched.items sides

-- the next piece is no side
pub next_left : (front : Front) (p : Piece) → IsWatching front → HasPassedSides front → IsNextMissing front p → first_missing front.living.points (pieces_in front) ≡ Some p
next_left front p watching sides next =
    let ps = front.living.points in
    let passed = front.passed.watched.items in
    ap (first_missing ps) (top_at passed front.rest.items p next.top)
    ∙ find_next (misses ps) (pieces_of passed) (pieces_of (reverse next.top.others)) p (none_missing ps passed sides) (is_missing ps p differ next.missing)
  where
    watched : IsWatched front.living.points front.touched.items next.top.top
    watched = (all_and_last (λ w. IsWatched front.living.points front.touched.items w) front.rest.items next.top.others next.top.top next.top.is watching.rest).1

    differ : p.a ≢ p.b
    differ = subst (λ (q : Piece). q.a ≢ q.b) next.top.piece_is watched.ends.2
