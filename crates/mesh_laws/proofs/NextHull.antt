-- The faces of ghosts that have the point at infinity: each stands over an edge of the hull, and the ghosts of the two hull faces there are neighbors.
use Rattle.std.proofs.Common.{◌≡◌, ◌≢◌, ◌⊎◌, inl, inr, ℕ, ◌<◌, List, Option, Some, refl, sym, ap, subst, ◌∙◌, ℤ}
use Rattle.std.proofs.lemmas.Bool.{cases_eq}
use Rattle.sign_predicates.specs.Point.{Point}
use Rattle.geo_laws.specs.declared.tetrahedra.Tet.{Tet as Row}
use Rattle.geo_laws.proofs.Places.{number}
use Rattle.geo_laws.specs.OrientedFace.{Face}
use Rattle.insert_laws.specs.LowestInsertion.{IsLowestHullFace, edge_and}
use Rattle.insert_laws.proofs.Beyond.{turn}
use Rattle.insert_laws.proofs.LowestStart.{law_hull_turn}
use Rattle.insert_laws.proofs.LowestHull.{law_hull_edge}
use Rattle.mesh_arena.specs.Mesh.{SlotValue, corner, corner_in, IsLive, link_behind, at, OnFace, IsArenaMesh}
use Rattle.mesh_arena.specs.declared.arena.SlotFace.{SlotFace}
use Rattle.mesh_arena.specs.declared.slot.Corner.TheVariants.{Point as Numbered, Ghost}
use Rattle.mesh_arena.proofs.Mesh.{side_live}
use Rattle.mesh_arena.proofs.AddStar.{live_by_side}
use Rattle.mesh_laws.specs.LowestLiving.{face_off, IsFaceCorner, HasSameFaceCorners, IsLowestRowSlot, IsLowestGhostSlot, IsLowestMesh}
use Rattle.mesh_laws.proofs.LowestFaces.{AreApart, hull_apart, place_of, off_corner, corner_off}
use Rattle.mesh_laws.proofs.LowestAcross.{some_side, row_corner, same_number, ghost_corner, infinite_corner}
use Rattle.mesh_laws.proofs.LowestJoined.{IsNextTo, same_then, same_back}

pub turned_corners : (f : Face) → HasSameFaceCorners f (turn f)
turned_corners f k = (λ c. go c, λ c. back c)
  where
    go : IsFaceCorner f k → IsFaceCorner (turn f) k
    go (inl e) = inr (inr e)
    go (inr (inl e)) = inl e
    go (inr (inr e)) = inr (inl e)

    back : IsFaceCorner (turn f) k → IsFaceCorner f k
    back (inl e) = inr (inl e)
    back (inr (inl e)) = inr (inr e)
    back (inr (inr e)) = inl e

pub turned_twice : (f : Face) → HasSameFaceCorners f (turn (turn f))
turned_twice f = same_then f (turn f) (turn (turn f)) (turned_corners f) (turned_corners (turn f))

pub along : (P : ℕ → ℕ → Type 0) {a b c d : ℕ} → a ≡ c → b ≡ d → P a b → P c d
along P {a} {b} {c} {d} e g x = subst (λ m. P m d) e (subst (λ n. P a n) g x)

-- The slot u is the ghost of a hull face (j, i, apex), and its face off the place k is the one of the edge and the point at infinity
pub record IsOverEdge (lifts : ℕ → ℤ) (slots : List (Option SlotValue)) (ps : List Point) (ms : List ℕ) (i j u k : ℕ) : Type 0 where
  pub row : Row
  pub place : ℕ
  pub slot : IsLowestGhostSlot lifts slots ps ms u row place
  pub apex : ℕ
  pub hull : IsLowestHullFace lifts ps ms (edge_and j i apex)
  pub same : HasSameFaceCorners (face_off row place) (edge_and j i apex)
  pub within : k < 4
  pub off : k ≢ place
  pub is : number row (place_of k) ≡ apex

-- the corners of the face are i, j and the point at infinity
pub record ShowsEdge (slots : List (Option SlotValue)) (u k i j : ℕ) : Type 0 where
  pub to : (x : ℕ) → OnFace slots u k (Numbered x) → (x ≡ i) ⊎ (x ≡ j)
  pub first : OnFace slots u k (Numbered i)
  pub second : OnFace slots u k (Numbered j)
  pub infinite : OnFace slots u k Ghost

module _ (lifts : ℕ → ℤ) (slots : List (Option SlotValue)) (ps : List Point) (ms : List ℕ) (mesh : IsArenaMesh slots) (now : IsLowestMesh lifts slots ps ms) where
  pub turned : (f : Face) → IsLowestHullFace lifts ps ms f → IsLowestHullFace lifts ps ms (turn f)
  turned f h = law_hull_turn lifts ps ms now.within f.a f.b f.c h

  -- a hull face with the corners i and j has one of the two edges between them
  pub edge_in : (f : Face) (i j : ℕ) → IsLowestHullFace lifts ps ms f → i ≢ j → IsFaceCorner f i → IsFaceCorner f j
      → ((x : ℕ) × IsLowestHullFace lifts ps ms (edge_and i j x) × HasSameFaceCorners f (edge_and i j x)) ⊎ ((x : ℕ) × IsLowestHullFace lifts ps ms (edge_and j i x) × HasSameFaceCorners f (edge_and j i x))
  edge_in f i j hull n (inl p) (inl q) = absurd (n (p ∙ sym q))
  edge_in f i j hull n (inl p) (inr (inl q)) = inl (f.c, along (λ (m n : ℕ). IsLowestHullFace lifts ps ms (edge_and m n f.c)) (sym p) (sym q) (hull), along (λ (m n : ℕ). HasSameFaceCorners f (edge_and m n f.c)) (sym p) (sym q) ((λ k. (λ c. c, λ c. c))))
  edge_in f i j hull n (inl p) (inr (inr q)) = inr (f.b, along (λ (m n : ℕ). IsLowestHullFace lifts ps ms (edge_and n m f.b)) (sym p) (sym q) (turned (turn f) (turned f hull)), along (λ (m n : ℕ). HasSameFaceCorners f (edge_and n m f.b)) (sym p) (sym q) (turned_twice f))
  edge_in f i j hull n (inr (inl p)) (inl q) = inr (f.c, along (λ (m n : ℕ). IsLowestHullFace lifts ps ms (edge_and n m f.c)) (sym p) (sym q) (hull), along (λ (m n : ℕ). HasSameFaceCorners f (edge_and n m f.c)) (sym p) (sym q) ((λ k. (λ c. c, λ c. c))))
  edge_in f i j hull n (inr (inl p)) (inr (inl q)) = absurd (n (p ∙ sym q))
  edge_in f i j hull n (inr (inl p)) (inr (inr q)) = inl (f.a, along (λ (m n : ℕ). IsLowestHullFace lifts ps ms (edge_and m n f.a)) (sym p) (sym q) (turned f hull), along (λ (m n : ℕ). HasSameFaceCorners f (edge_and m n f.a)) (sym p) (sym q) (turned_corners f))
  edge_in f i j hull n (inr (inr p)) (inl q) = inl (f.b, along (λ (m n : ℕ). IsLowestHullFace lifts ps ms (edge_and m n f.b)) (sym p) (sym q) (turned (turn f) (turned f hull)), along (λ (m n : ℕ). HasSameFaceCorners f (edge_and m n f.b)) (sym p) (sym q) (turned_twice f))
  edge_in f i j hull n (inr (inr p)) (inr (inl q)) = inr (f.a, along (λ (m n : ℕ). IsLowestHullFace lifts ps ms (edge_and n m f.a)) (sym p) (sym q) (turned f hull), along (λ (m n : ℕ). HasSameFaceCorners f (edge_and n m f.a)) (sym p) (sym q) (turned_corners f))
  edge_in f i j hull n (inr (inr p)) (inr (inr q)) = absurd (n (p ∙ sym q))

  -- a number on a ghost is a corner of its hull face
  pub on_ghost : (s k j : ℕ) (t : Row) (i : ℕ) → IsLowestGhostSlot lifts slots ps ms s t k → OnFace slots s j (Numbered i) → IsFaceCorner (face_off t k) i
  on_ghost s k j t i slot on = elim (cases_eq on.place k) [
    | inl same ↦ absurd (never i (sym (infinite_corner lifts slots ps ms s k t slot) ∙ ap (corner slots s) (sym same) ∙ on.is))
    | inr other ↦ subst (IsFaceCorner (face_off t k)) (same_number _ i (sym (ghost_corner lifts slots ps ms s k t slot on.place on.within other) ∙ on.is)) (off_corner t k on.place slot.within on.within other)
  ]
    where
      never : (i : ℕ) → Ghost ≡ Numbered i → ⊥
      never i e = cc

  pub no_infinite : (s j : ℕ) (t : Row) → IsLowestRowSlot lifts slots ps ms s t → OnFace slots s j Ghost → ⊥
  no_infinite s j t slot on = never _ (sym (ap (λ o. corner_in o on.place) slot.is ∙ row_corner t on.place on.within) ∙ on.is)
    where
      never : (i : ℕ) → Numbered i ≡ Ghost → ⊥
      never i e = cc

  -- the corner off a face is not on it
  own_off : (u k : ℕ) → IsLive slots u → k < 4 → OnFace slots u k (corner slots u k) → ⊥
  own_off u k live k4 on = on.off (mesh.differ u on.place k live on.within k4 on.is)

  ghost_live : (u k : ℕ) (t : Row) → IsLowestGhostSlot lifts slots ps ms u t k → IsLive slots u
  ghost_live u k t slot = rw slot.is refl

  pub edge_shows : (i j u k : ℕ) → IsOverEdge lifts slots ps ms i j u k → ShowsEdge slots u k i j
  edge_shows i j u k e = record {
    to = λ x on. named x on ((e.same x).0 (on_ghost u e.place k e.row x e.slot on));
    first = on_it i (inr (inl refl)) d.bc;
    second = on_it j (inl refl) d.ac;
    infinite = record { place = e.place; within = e.slot.within; off = λ z. e.off (sym z); is = infinite_corner lifts slots ps ms u e.place e.row e.slot };
  }
    where
      d : AreApart (edge_and j i e.apex)
      d = hull_apart lifts ps ms (edge_and j i e.apex) e.hull

      own : corner slots u k ≡ Numbered e.apex
      own = ghost_corner lifts slots ps ms u e.place e.row e.slot k e.within e.off ∙ ap Numbered e.is

      named : (x : ℕ) → OnFace slots u k (Numbered x) → IsFaceCorner (edge_and j i e.apex) x → (x ≡ i) ⊎ (x ≡ j)
      named x on (inl c) = inr c
      named x on (inr (inl c)) = inl c
      named x on (inr (inr c)) = absurd (own_off u k (ghost_live u e.place e.row e.slot) e.within (subst (OnFace slots u k) (ap Numbered c ∙ sym own) on))

      on_it : (x : ℕ) → IsFaceCorner (edge_and j i e.apex) x → x ≢ e.apex → OnFace slots u k (Numbered x)
      on_it x c n =
          let m = corner_off e.row e.place x e.slot.within ((e.same x).1 c) in
          record {
            place = m.0;
            within = m.1;
            off = λ z. n (sym m.3 ∙ ap (λ y. number e.row (place_of y)) z ∙ e.is);
            is = ghost_corner lifts slots ps ms u e.place e.row e.slot m.0 m.1 m.2 ∙ ap Numbered m.3;
          }

  -- each face of a ghost off one of its numbers is over an edge
  pub edge_of_ghost : (u l k : ℕ) (t : Row) → IsLowestGhostSlot lifts slots ps ms u t l → k < 4 → k ≢ l → (i : ℕ) × (j : ℕ) × IsOverEdge lifts slots ps ms i j u k
  edge_of_ghost u l k t slot k4 off = by (off_corner t l k slot.within k4 off)
    where
      f : Face
      f = face_off t l

      by : IsFaceCorner (face_off t l) (number t (place_of k)) → (i : ℕ) × (j : ℕ) × IsOverEdge lifts slots ps ms i j u k
      by (inl c) = (f.c, f.b, record { row = t; place = l; slot = slot; apex = f.a; hull = turned f slot.is_hull; same = turned_corners f; within = k4; off = off; is = c })
      by (inr (inl c)) = (f.a, f.c, record { row = t; place = l; slot = slot; apex = f.b; hull = turned (turn f) (turned f slot.is_hull); same = turned_twice f; within = k4; off = off; is = c })
      by (inr (inr c)) = (f.b, f.a, record { row = t; place = l; slot = slot; apex = f.c; hull = slot.is_hull; same = λ x. (λ y. y, λ y. y); within = k4; off = off; is = c })

  -- and each edge of a hull face has such a face
  pub edge_of_hull : (i j q : ℕ) → IsLowestHullFace lifts ps ms (edge_and j i q) → (u : ℕ) × (k : ℕ) × (over : IsOverEdge lifts slots ps ms i j u k) × (over.apex ≡ q)
  edge_of_hull i j q hull =
      let s = now.ghosts (edge_and j i q) hull in
      let m = corner_off s.1 s.2 q s.3.within ((s.4 q).1 (inr (inr refl))) in
      (s.0, m.0, record { row = s.1; place = s.2; slot = s.3; apex = q; hull = hull; same = s.4; within = m.1; off = m.2; is = m.3 }, refl)

  -- the hull face is the one on its side of the edge
  pub edge_corners : (i j u k q : ℕ) (e : IsOverEdge lifts slots ps ms i j u k) → IsLowestHullFace lifts ps ms (edge_and j i q) → HasSameFaceCorners (face_off e.row e.place) (edge_and j i q)
  edge_corners i j u k q e hull = subst (λ x. HasSameFaceCorners (face_off e.row e.place) (edge_and j i x)) ((law_hull_edge lifts ps ms now.within j i e.apex e.hull).1 q hull) e.same

  -- one slot is over an edge
  pub edge_once : (i j u k v l : ℕ) → IsOverEdge lifts slots ps ms i j u k → IsOverEdge lifts slots ps ms i j v l → u ≡ v
  edge_once i j u k v l e d = now.one_ghost u v e.row d.row e.place d.place e.slot d.slot (same_then (face_off e.row e.place) (edge_and j i e.apex) (face_off d.row d.place) e.same (same_back (face_off d.row d.place) (edge_and j i e.apex) (edge_corners i j v l e.apex d e.hull)))

  -- behind it stands the ghost of the hull face across the edge
  pub edge_across : (i j u k : ℕ) (b : SlotFace) → IsOverEdge lifts slots ps ms i j u k → link_behind slots u k ≡ Some b → IsOverEdge lifts slots ps ms j i b.slot b.face
  edge_across i j u k b e is = by (now.each b.slot live)
    where
      shown : ShowsEdge slots u k i j
      shown = edge_shows i j u k e

      live : IsLive slots b.slot
      live = live_by_side slots b.slot b.face (at u k) (mesh.back u k b is)

      b4 : b.face < 4
      b4 = (side_live slots b.slot b.face (at u k) mesh.shaped (mesh.back u k b is)).1

      behind_on : (x : _) → OnFace slots u k x → OnFace slots b.slot b.face x
      behind_on = (mesh.shared u k b is).to

      d : AreApart (edge_and j i e.apex)
      d = hull_apart lifts ps ms (edge_and j i e.apex) e.hull

      by : ((r : Row) × IsLowestRowSlot lifts slots ps ms b.slot r) ⊎ ((r : Row) × (l : ℕ) × IsLowestGhostSlot lifts slots ps ms b.slot r l) → IsOverEdge lifts slots ps ms j i b.slot b.face
      by (inl row) = absurd (no_infinite b.slot b.face row.0 row.1 (behind_on Ghost shown.infinite))
      by (inr ghost) =
          let f = face_off ghost.0 ghost.1 in
          let has_i = on_ghost b.slot ghost.1 b.face ghost.0 i ghost.2 (behind_on (Numbered i) shown.first) in
          let has_j = on_ghost b.slot ghost.1 b.face ghost.0 j ghost.2 (behind_on (Numbered j) shown.second) in
          elim (edge_in f i j ghost.2.is_hull (λ z. d.ab (sym z)) has_i has_j) [
            | inl there ↦ record { row = ghost.0; place = ghost.1; slot = ghost.2; apex = there.0; hull = there.1; same = there.2; within = b4; off = off; is = named there.0 ((there.2 _).0 (off_corner ghost.0 ghost.1 b.face ghost.2.within b4 off)) }
            | inr here ↦
                let level : e.apex ≡ here.0 = (law_hull_edge lifts ps ms now.within j i e.apex e.hull).1 here.0 here.1 in
                let corners_of : HasSameFaceCorners f (edge_and j i e.apex) = subst (λ x. HasSameFaceCorners f (edge_and j i x)) (sym level) here.2 in
                absurd (mesh.apart u k b is (now.one_ghost b.slot u ghost.0 e.row ghost.1 e.place ghost.2 e.slot (same_then f (edge_and j i e.apex) (face_off e.row e.place) corners_of (same_back (face_off e.row e.place) (edge_and j i e.apex) e.same))))
          ]
        where
          off : b.face ≢ ghost.1
          off z = own_off b.slot b.face live b4 (subst (OnFace slots b.slot b.face) (sym (infinite_corner lifts slots ps ms b.slot ghost.1 ghost.0 ghost.2) ∙ ap (corner slots b.slot) (sym z)) (behind_on Ghost shown.infinite))

          own : corner slots b.slot b.face ≡ Numbered (number ghost.0 (place_of b.face))
          own = ghost_corner lifts slots ps ms b.slot ghost.1 ghost.0 ghost.2 b.face b4 off

          not_on : (x : ℕ) → OnFace slots b.slot b.face (Numbered x) → number ghost.0 (place_of b.face) ≡ x → ⊥
          not_on x on z = own_off b.slot b.face live b4 (subst (OnFace slots b.slot b.face) (sym (own ∙ ap Numbered z)) on)

          named : (o : ℕ) → IsFaceCorner (edge_and i j o) (number ghost.0 (place_of b.face)) → number ghost.0 (place_of b.face) ≡ o
          named o (inl c) = absurd (not_on i (behind_on (Numbered i) shown.first) c)
          named o (inr (inl c)) = absurd (not_on j (behind_on (Numbered j) shown.second) c)
          named o (inr (inr c)) = c

  -- the ghosts of hull faces on both sides of an edge are neighbors
  pub next_hull : (v u k l : ℕ) (t r : Row) → IsLowestGhostSlot lifts slots ps ms v t k → IsLowestGhostSlot lifts slots ps ms u r l → (i j o q : ℕ) → IsLowestHullFace lifts ps ms (edge_and j i q) → IsLowestHullFace lifts ps ms (edge_and i j o)
      → HasSameFaceCorners (face_off t k) (edge_and j i q) → HasSameFaceCorners (face_off r l) (edge_and i j o) → IsNextTo lifts slots v u
  next_hull v u k l t r one two i j o q hull next same same_next =
      let m = corner_off t k q one.within ((same q).1 (inr (inr refl))) in
      let e : IsOverEdge lifts slots ps ms i j v m.0 = record { row = t; place = k; slot = one; apex = q; hull = hull; same = same; within = m.1; off = m.2; is = m.3 } in
      let over = some_side (link_behind slots v m.0) (now.linked v m.0 (ghost_live v k t one) m.1) in
      let behind = edge_across i j v m.0 over.0 e over.1 in
      let corners_of = edge_corners j i over.0.slot over.0.face o behind next in
      record {
        face = m.0;
        over = over.0;
        is = over.1;
        there = now.one_ghost over.0.slot u behind.row r behind.place l behind.slot two (same_then (face_off behind.row behind.place) (edge_and i j o) (face_off r l) corners_of (same_back (face_off r l) (edge_and i j o) same_next));
      }
