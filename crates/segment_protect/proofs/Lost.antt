-- The first piece that is no side any more, among those that begin at points that are lost.
use Rattle.std.proofs.Common.{◌≡◌, ◌⊎◌, inl, inr, ℕ, ◌+◌, ◌-◌, ◌<◌, ◌≤◌, List, [], ◌∷◌, ◌++◌, take, length, get_or, ap, sym, subst, ◌∙◌, arith}
use Rattle.std.specs.Prelude.{All, Contains}
use Rattle.std.proofs.lemmas.Grind.{get_or_default_zero}
use Rattle.std.proofs.lemmas.List.{get_or-map, length-map, take_more, take_all}
use Rattle.std.proofs.lemmas.List.Elements.{Contains-push_cases}
use Rattle.sign_predicates.specs.Point.{Point}
use Rattle.geo_laws.specs.declared.complex.Piece.{Piece}
use Rattle.cavity_insert.specs.Living.{IsDelaunaySide}
use Rattle.segment_protect.specs.Watch.{pieces_of}
use Rattle.segment_protect.specs.Passed.{IsLast, AreLinked, IsSideAt, IsSideOrLost, AreSidesBefore, AreSidesFrom}
use Rattle.segment_protect.specs.declared.watch.Watched.{Watched}

abbrev pub no_piece : Piece
no_piece = record { a = 0; b = 0; halvings = 0 }

-- the pieces at a place or later that begin at v, and stand before another place, are sides; and the one just before begins there too
pub record AreSearched (ps : List Point) (pieces : List Piece) (v count place : ℕ) : Type 0 where
  pub within : count ≤ length pieces
  pub begins : (d : Piece) → 0 < count → (get_or pieces (count - 1) d).a ≡ v
  pub sides : (j : ℕ) (d : Piece) → count ≤ j → j < place → j < length pieces → (get_or pieces j d).a ≡ v → IsDelaunaySide ps (get_or pieces j d).a (get_or pieces j d).b

-- one is led back
pub led_back : (n : ℕ) (pieces : List Piece) (earlier latest : List ℕ) (count next : ℕ) → AreLinked n pieces earlier latest → 0 < count → count ≤ length pieces → next ≡ get_or earlier (count - 1) next
    → IsLast pieces (count - 1) (get_or pieces (count - 1) no_piece).a next
led_back n pieces earlier latest count next are some h is =
    let l = are.links in
    subst (IsLast pieces (count - 1) (get_or pieces (count - 1) no_piece).a) (sym (is ∙ get_or_default_zero earlier (count - 1) next (omega arith))) (are.follows (count - 1) no_piece (omega arith))

-- one more was
pub searched_more : (ps : List Point) (n : ℕ) (pieces : List Piece) (earlier latest : List ℕ) (v count next place less : ℕ) → AreLinked n pieces earlier latest → AreSearched ps pieces v count place
    → 0 < count → next ≡ get_or earlier (count - 1) next → less ≤ place
    → (less ≤ count - 1) ⊎ IsSideAt ps pieces (count - 1) → AreSearched ps pieces v next less
searched_more ps n pieces earlier latest v count next place less are so some is below here = record {
  within = (let a = so.within in let l = last.within in omega arith);
  begins = last.begins;
  sides = λ j d g b l e. by j d g b l e (order j (count - 1));
}
  where
    at : (d : Piece) → (get_or pieces (count - 1) d).a ≡ v
    at d = so.begins d some

    last : IsLast pieces (count - 1) v next
    last = subst (λ u. IsLast pieces (count - 1) u next) (at no_piece) (led_back n pieces earlier latest count next are some so.within is)

    order : (j k : ℕ) → (j < k) ⊎ ((j ≡ k) ⊎ (k < j))
    order j k = grind arith

    side : (j : ℕ) (d : Piece) → j < less → j ≡ count - 1 → (less ≤ count - 1) ⊎ IsSideAt ps pieces (count - 1) → IsDelaunaySide ps (get_or pieces j d).a (get_or pieces j d).b
    side j d b e (inl h) = absurd (omega arith)
    side j d b e (inr s) = subst (λ i. IsDelaunaySide ps (get_or pieces i d).a (get_or pieces i d).b) (sym e) (s d)

    by : (j : ℕ) (d : Piece) → next ≤ j → j < less → j < length pieces → (get_or pieces j d).a ≡ v → (j < count - 1) ⊎ ((j ≡ count - 1) ⊎ (count - 1 < j)) → IsDelaunaySide ps (get_or pieces j d).a (get_or pieces j d).b
    by j d g b l e (inl h) = absurd (last.no_later j d g h e)
    by j d g b l e (inr (inl f)) = side j d b f here
    by j d g b l e (inr (inr h)) = so.sides j d (omega arith) (omega arith) l e

-- ---- all points that are lost

-- the pieces before a place that begin at one of the points are sides
abbrev pub AreSidesOf : List Point → List ℕ → ℕ → List Piece → Type 0
AreSidesOf ps lost place pieces = (j : ℕ) (d : Piece) → j < place → j < length pieces → Contains lost (get_or pieces j d).a → IsDelaunaySide ps (get_or pieces j d).a (get_or pieces j d).b

from_take : (lost : List ℕ) (i v u : ℕ) → i < length lost → get_or lost i 0 ≡ v → Contains (take (i + 1) lost) u → Contains (take i lost) u ⊎ (v ≡ u)
from_take lost i v u h at c = Contains-push_cases (take i lost) v u (subst (λ xs. Contains xs u) (take_more lost i 0 h ∙ ap (λ n. take i lost ++ n ∷ []) at) c)

-- one point more was looked at
pub sides_more : (ps : List Point) (lost : List ℕ) (i v place less : ℕ) (pieces : List Piece) → i < length lost → get_or lost i 0 ≡ v → less ≤ place → AreSidesOf ps (take i lost) place pieces → AreSidesFrom ps v less pieces
    → AreSidesOf ps (take (i + 1) lost) less pieces
sides_more ps lost i v place less pieces h at below of_those from j d g l c = go (from_take lost i v (get_or pieces j d).a h at c)
  where
    go : Contains (take i lost) (get_or pieces j d).a ⊎ (v ≡ (get_or pieces j d).a) → IsDelaunaySide ps (get_or pieces j d).a (get_or pieces j d).b
    go (inl k) = of_those j d (omega arith) l k
    go (inr e) = from j d g l (sym e)

-- or it is none of the points
pub sides_left_out : (ps : List Point) (n : ℕ) (lost : List ℕ) (i v place : ℕ) (pieces : List Piece) → All (λ p. p.a < n) pieces → i < length lost → get_or lost i 0 ≡ v → n ≤ v → AreSidesOf ps (take i lost) place pieces
    → AreSidesOf ps (take (i + 1) lost) place pieces
sides_left_out ps n lost i v place pieces ends h at out of_those j d g l c = go (from_take lost i v (get_or pieces j d).a h at c)
  where
    go : Contains (take i lost) (get_or pieces j d).a ⊎ (v ≡ (get_or pieces j d).a) → IsDelaunaySide ps (get_or pieces j d).a (get_or pieces j d).b
    go (inl k) = of_those j d g l k
    go (inr e) = let b = ends j d l in absurd (omega arith)

-- the pieces before the place are sides
pub sides_before : (ps : List Point) (lost : List ℕ) (k place : ℕ) (old new : List Watched) → length lost ≤ k → pieces_of new ≡ pieces_of old → All (IsSideOrLost ps lost) old → AreSidesOf ps (take k lost) place (pieces_of old)
    → AreSidesBefore ps place new
sides_before ps lost k place old new all same kept of_those j d h l = subst (λ p. IsDelaunaySide ps p.a p.b) (at new l) (subst (λ ws. IsDelaunaySide ps (get_or ws j d.piece).a (get_or ws j d.piece).b) (sym same) side)
  where
    at : (ws : List Watched) → j < length ws → get_or (pieces_of ws) j d.piece ≡ (get_or ws j d).piece
    at ws h = get_or-map (λ (v : Watched). v.piece) ws j d d.piece h

    there : j < length old
    there = let a = length-map old (λ (v : Watched). v.piece) in let b = length-map new (λ (v : Watched). v.piece) in let e = ap length same in omega arith

    side : IsDelaunaySide ps (get_or (pieces_of old) j d.piece).a (get_or (pieces_of old) j d.piece).b
    side = go (kept j d there)
      where
        go : IsSideOrLost ps lost (get_or old j d) → IsDelaunaySide ps (get_or (pieces_of old) j d.piece).a (get_or (pieces_of old) j d.piece).b
        go (inl s) = subst (λ p. IsDelaunaySide ps p.a p.b) (sym (at old there)) s
        go (inr c) =
            of_those j d.piece h (let a = length-map old (λ (v : Watched). v.piece) in let t = there in omega arith)
            (subst (Contains (take k lost)) (ap (λ p. p.a) (sym (at old there))) (subst (λ xs. Contains xs (get_or old j d).piece.a) (sym (take_all k lost all)) c.0))
