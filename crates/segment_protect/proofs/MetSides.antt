-- Pieces that were seen to be sides of the Delaunay list are properly met.
use Rattle.std.proofs.Common.{◌≡◌, inl, inr, ℕ, ◌<◌, Bool, true, List, [], map, nat_lt, length, get_or, ap, sym, subst, ◌∙◌, arith}
use Rattle.std.specs.Prelude.{All, Contains}
use Rattle.std.proofs.lemmas.Bool.{false≢true}
use Rattle.std.proofs.lemmas.List.{get_or-map, get_or_default, length-map}
use Rattle.sign_predicates.specs.Point.{Point}
use Rattle.geo_laws.specs.Delaunay.{numbers, IsDelaunay, delaunay_rows}
use Rattle.geo_laws.specs.Mesh.{ends}
use Rattle.geo_laws.specs.declared.tetrahedra.Tet.{Tet}
use Rattle.geo_laws.specs.declared.complex.Piece.{Piece}
use Rattle.geo_laws.proofs.DelaunayList.{law_delaunay_list}
use Rattle.geo_laws.proofs.Members.{IsMember, here, there, member_of}
use Rattle.path_laws.proofs.Rows.{place_of}
use Rattle.complex_laws.proofs.MetFaces.{parts_met}
use Rattle.complex_laws.proofs.Whole.{delaunay_whole}
use Rattle.cavity_insert.specs.Living.{IsDelaunaySide}
use Rattle.simplex_meets.specs.declared.complex_parts.Compared.TheVariants.{Any}
use Rattle.simplex_meets.specs.declared.complex_parts.Part.{Part}
use Rattle.simplex_meets.specs.declared.complex_parts.Part.TheVariants.{Segment}
use Rattle.simplex_meets.specs.Parts.{IsPairMet}
use Rattle.simplex_meets.specs.Pairs.{IsMarked, AreMarkedMet}
use Rattle.segment_protect.specs.Crossing.{AreMet}
use Rattle.segment_protect.specs.Watch.{pieces_of, IsSeenOrSide, seen_marks}
use Rattle.segment_protect.specs.declared.watch.Watched.{Watched}

-- two sides of the Delaunay list
sides_met : (ps : List Point) (p q : Piece) → IsDelaunaySide ps p.a p.b → IsDelaunaySide ps q.a q.b → AreMet ps p q
sides_met ps p q f g =
    parts_met ps [] (delaunay_rows ps) (delaunay_whole ps (delaunay_rows ps) (law_delaunay_list ps)).filling f.row g.row (listed f.row f.is_row) (listed g.row g.is_row)
    (ends p) (ends q) (λ i m. place_of f.row i (own p f i m)) (own q g)
  where
    listed : (r : Tet) → IsDelaunay ps r → Contains (delaunay_rows ps) r
    listed r h = ((law_delaunay_list ps).exactly r).1 h

    own : (p : Piece) (h : IsDelaunaySide ps p.a p.b) (i : ℕ) → IsMember i (ends p) → IsMember i (numbers h.row)
    own p h i here = member_of (numbers h.row) p.a h.first
    own p h i (there here) = member_of (numbers h.row) p.b h.second
    own p h i (there (there m)) = elim m [ ]

unseen : Watched
unseen = record { piece = record { a = 0; b = 0; halvings = 0 }; seen = 0 }

seen_side : (ps : List Point) (watched : List Watched) (k : ℕ) → All (IsSeenOrSide ps) watched → k < length watched → IsMarked (seen_marks watched) k
    → IsDelaunaySide ps (get_or watched k unseen).piece.a (get_or watched k unseen).piece.b
seen_side ps watched k seen l marked = by (seen k unseen l)
  where
    w : Watched
    w = get_or watched k unseen

    above : nat_lt 0 w.seen ≡ true
    above = sym (get_or-map (λ (v : Watched). nat_lt 0 v.seen) watched k unseen true l) ∙ marked

    by : IsSeenOrSide ps w → IsDelaunaySide ps w.piece.a w.piece.b
    by (inl none) = absurd (false≢true (ap (nat_lt 0) (sym none) ∙ above))
    by (inr side) = side.1

marked_met : (ps : List Point) (watched : List Watched) → All (IsSeenOrSide ps) watched → AreMarkedMet Any ps (map Segment (pieces_of watched)) (seen_marks watched)
marked_met ps watched seen i j h n mi mj d =
    let P : Part → Type 0 = λ u. IsPairMet Any ps u (get_or (map Segment (pieces_of watched)) j d) in
    let Q : Part → Type 0 = λ u. IsPairMet Any ps (Segment (get_or watched i unseen).piece) u in
    subst P (sym (part_is i (omega arith))) (subst Q (sym (part_is j n))
    (λ t. sides_met ps (get_or watched i unseen).piece (get_or watched j unseen).piece (seen_side ps watched i seen (there_are i (omega arith)) mi) (seen_side ps watched j seen (there_are j n) mj)))
  where
    there_are : (k : ℕ) → k < length (map Segment (pieces_of watched)) → k < length watched
    there_are k l = let e = length-map (pieces_of watched) Segment in let f = length-map watched (λ (v : Watched). v.piece) in omega arith

    part_is : (k : ℕ) → k < length (map Segment (pieces_of watched)) → get_or (map Segment (pieces_of watched)) k d ≡ Segment (get_or watched k unseen).piece
    part_is k l =
        let e = length-map (pieces_of watched) Segment in
        get_or_default (map Segment (pieces_of watched)) k d (Segment unseen.piece) l ∙ get_or-map Segment (pieces_of watched) k unseen.piece (Segment unseen.piece) (omega arith)
        ∙ ap Segment (get_or-map (λ (v : Watched). v.piece) watched k unseen unseen.piece (there_are k l))

-- the parts of pieces that were seen to be sides
pub known_sides : (ps : List Point) (pieces : List Piece) (watched : List Watched) (parts : List Part) (marks : List Bool) → parts ≡ map Segment pieces → pieces_of watched ≡ pieces → marks ≡ seen_marks watched
    → All (IsSeenOrSide ps) watched → AreMarkedMet Any ps parts marks
known_sides ps pieces watched parts marks are same noted seen =
    subst (λ ms. AreMarkedMet Any ps parts ms) (sym noted) (subst (λ us. AreMarkedMet Any ps us (seen_marks watched)) (sym (are ∙ ap (map Segment) (sym same))) (marked_met ps watched seen))
