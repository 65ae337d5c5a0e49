-- How a cavity is cut out of a mesh.
use Rattle.std.proofs.Common.{◌≡◌, ℕ, ◌+◌, ◌-◌, ◌<◌, List, length, get_or, set, Option, Some, None, IsSome, false, option_map, refl, sym, ap, subst, ◌∙◌, inl, inr, arith, length-set}
use Rattle.std.proofs.lemmas.Bool.{cases_eq}
use Rattle.std.proofs.lemmas.List.{map-set, length-map}
use Rattle.mesh_arena.specs.declared.arena.SlotFace.{SlotFace}
use Rattle.mesh_arena.specs.declared.cell.Cell.{Cell}
use Rattle.mesh_arena.specs.declared.slot.Corner.{Corner}
use Rattle.mesh_arena.specs.declared.slot.RimFace.{RimFace}
use Rattle.mesh_arena.specs.declared.slot.Slot.{Slot}
use Rattle.mesh_arena.specs.Mesh.{SlotValue, tet_at, corners_at, corner_in, IsLive, side_in, link_behind, at, IsShaped, IsArenaMesh, Off}
use Rattle.mesh_arena.specs.Cells.{live_in, tet_of, next_of, IsCounted}
use Rattle.mesh_arena.specs.Star.{behind, rim_at, face_side, behind_rim}
use Rattle.mesh_arena.specs.Cavity.{slot_at, IsInCavitySlots}
use Rattle.mesh_arena.specs.Replace.{IsCavity, IsRim}
use Rattle.mesh_arena.specs.Cut.{slots_in, ClearsRim, FreesCells, Cuts}
use Rattle.mesh_arena.proofs.Mesh.{none_some, none_live, same_or_off, face_kept, Puts, Puts-set}
use Rattle.mesh_arena.proofs.Cells.{tet_of-free, live_cell, Resided, Wrote-cell, IsCounted-rewrite, IsCounted-vacate}
use Rattle.mesh_arena.proofs.AddStar.{step_cases}
use Rattle.mesh_arena.proofs.Replace.{in_or_not}

pub ClearsRim-none : (cells : List Cell) (rim : List RimFace) → IsShaped (slots_in cells) → ClearsRim cells cells rim 0
ClearsRim-none cells rim shaped =
    record { len = refl; counted = λ live next h. h; shaped = shaped; corners = λ u. refl; outer = λ r h. absurd (omega arith); others = λ u k off. refl }

module _ (first now : List Cell) (rim : List RimFace) (n : ℕ) (was : ClearsRim first now rim n) (is_live : IsLive (slots_in first) (rim_at rim n).slot.index) where
  abbrev here : ℕ
  here = (rim_at rim n).slot.index

  abbrev face : ℕ
  face = (rim_at rim n).face

  pub live_rim : IsLive (slots_in now) here
  live_rim = subst IsSome (sym (was.corners here)) is_live

  pub ClearsRim-step : (c new : Cell) → face < 4 → c ≡ get_or now here c → Resided c new face None → ClearsRim first (set now here new) rim (n + 1)
  ClearsRim-step c new below read resided =
      let found = live_cell now here c c live_rim read in
      let writes = Wrote-cell now here face c new None was.shaped live_rim below read resided in
      record {
        len = length-set now here new ∙ was.len;
        counted = λ live next h. IsCounted-rewrite now live next here c new (was.counted live next h) found.1 found.2 (resided.live ∙ found.2);
        shaped = writes.shaped;
        corners = λ u. writes.corners u ∙ was.corners u;
        outer = λ r h. elim (same_or_off (rim_at rim r).slot.index (rim_at rim r).face here face) [
          | inl is ↦ rw (is.0, is.1) writes.here
          | inr off ↦ elim (step_cases r n h) [
            | inl less ↦ writes.others _ _ off ∙ was.outer r less
            | inr same ↦ rw same writes.here
          ]
        ];
        others = λ u k off. writes.others u k (off n (omega arith)) ∙ was.others u k (λ r h. off r (omega arith));
      }

pub FreesCells-none : (cells : List Cell) (cavity : List Slot) (next : ℕ) → FreesCells cells cells cavity 0 next next
FreesCells-none cells cavity next =
    record { len = refl; counted = λ live h. subst (λ m. IsCounted cells m next) (omega arith) h; gone = λ j h. absurd (omega arith); kept = λ u away. refl }

module _ (first now : List Cell) (cavity : List Slot) (n next from : ℕ) (was : FreesCells first now cavity n next from) (lt : n < length cavity) (once : (i j : ℕ) → i < length cavity → j < length cavity → slot_at cavity i ≡ slot_at cavity j → i ≡ j) (is_live : IsLive (slots_in first) (slot_at cavity n)) where
  abbrev place : ℕ
  place = slot_at cavity n

  pub live_ahead : IsLive (slots_in now) place
  live_ahead = subst (λ (o : Option SlotValue). IsSome (option_map (λ (t : SlotValue). t.corners) o)) (sym (was.kept place (λ j h e. let same : j ≡ n = once j n (omega arith) lt e in omega arith))) is_live

  pub FreesCells-step : (c new : Cell) → c ≡ get_or now place c → live_in new ≡ false → next_of new ≡ from → FreesCells first (set now place new) cavity (n + 1) next place
  FreesCells-step c new read dead names =
      let found = live_cell now place c c live_ahead read in
      let puts : Puts (slots_in now) (slots_in (set now place new)) place None =
      rw (map-set tet_of now place new, tet_of-free new dead) (Puts-set (slots_in now) place None (omega (arith, found.0, length-map now tet_of))) in
      record {
        len = length-set now place new ∙ was.len;
        counted = λ live h. subst (λ m. IsCounted (set now place new) m place) (omega arith) (IsCounted-vacate now (live - n) from place c new (was.counted live h) found.1 found.2 dead names);
        gone = λ j h. elim (cases_eq (slot_at cavity j) place) [
          | inl same ↦ rw same puts.here
          | inr differ ↦ elim (step_cases j n h) [
            | inl less ↦ puts.others _ differ ∙ was.gone j less
            | inr level ↦ absurd (differ (ap (slot_at cavity) level))
          ]
        ];
        kept = λ u away. puts.others u (λ e. away n (omega arith) (sym e)) ∙ was.kept u (λ j h. away j (omega arith));
      }

module _ (A : List Cell) (C : List Cell) (F : List Cell) (cavity : List Slot) (rim : List RimFace) (next from : ℕ) (mesh : IsArenaMesh (slots_in A)) (hole : IsCavity (slots_in A) cavity) (edge : IsRim (slots_in A) cavity rim) (clears : ClearsRim A C rim (length rim)) (frees : FreesCells C F cavity (length cavity) next from) where
  freed : (u : ℕ) → IsInCavitySlots cavity u → tet_at (slots_in F) u ≡ None
  freed u found = subst (λ m. tet_at (slots_in F) m ≡ None) found.is (frees.gone found.place found.inside)

  stays : (u : ℕ) → (IsInCavitySlots cavity u → ⊥) → tet_at (slots_in F) u ≡ tet_at (slots_in C) u
  stays u out = frees.kept u (λ j h e. out (record { place = j; inside = h; is = e }))

  corners_stay : (u : ℕ) → (IsInCavitySlots cavity u → ⊥) → corners_at (slots_in F) u ≡ corners_at (slots_in A) u
  corners_stay u out = ap (option_map (λ (t : SlotValue). t.corners)) (stays u out) ∙ clears.corners u

  side_stays : (u k : ℕ) → (IsInCavitySlots cavity u → ⊥) → link_behind (slots_in F) u k ≡ link_behind (slots_in C) u k
  side_stays u k out = ap (λ (o : Option SlotValue). side_in o k) (stays u out)

  -- what has a side is not in the cavity
  has_out : (u k : ℕ) (b : SlotFace) → link_behind (slots_in F) u k ≡ Some b → IsInCavitySlots cavity u → ⊥
  has_out u k b e found = none_some b (link_behind (slots_in F) u k) (ap (λ (o : Option SlotValue). side_in o k) (freed u found)) e

  -- nor on its rim
  has_off : (u k : ℕ) (b : SlotFace) → link_behind (slots_in F) u k ≡ Some b → (r : ℕ) → r < length rim → Off u k (rim_at rim r).slot.index (rim_at rim r).face
  has_off u k b e r h =
      elim (same_or_off u k (rim_at rim r).slot.index (rim_at rim r).face) [
        | inr off ↦ off
        | inl is ↦ absurd (none_some b (link_behind (slots_in F) u k) (side_stays u k (has_out u k b e) ∙ rw (is.0, is.1) (clears.outer r h)) e)
      ]

  before : (u k : ℕ) (b : SlotFace) → link_behind (slots_in F) u k ≡ Some b → link_behind (slots_in A) u k ≡ Some b
  before u k b e = sym (side_stays u k (has_out u k b e) ∙ clears.others u k (has_off u k b e)) ∙ e

  -- and neither does it lead there
  leads_out : (u k : ℕ) (b : SlotFace) → link_behind (slots_in F) u k ≡ Some b → IsInCavitySlots cavity b.slot → ⊥
  leads_out u k b e found =
      let r = edge.all u k b (before u k b e) (has_out u k b e) found in
      elim (has_off u k b e r.0 r.1) [ inl differ ↦ differ (sym r.2) | inr differ ↦ differ (sym r.3) ]

  back : (u k : ℕ) (b : SlotFace) → link_behind (slots_in F) u k ≡ Some b → link_behind (slots_in F) b.slot b.face ≡ Some (at u k)
  back u k b e =
      let home : link_behind (slots_in A) b.slot b.face ≡ Some (at u k) = mesh.back u k b (before u k b e) in
      let off : (r : ℕ) → r < length rim → Off b.slot b.face (rim_at rim r).slot.index (rim_at rim r).face =
      λ r h. elim (same_or_off b.slot b.face (rim_at rim r).slot.index (rim_at rim r).face) [
        | inr away ↦ away
        | inl is ↦
            let there : face_side (slots_in A) (rim_at rim r) ≡ Some (at u k) = rw (← is.0, ← is.1) home in
            let same : (behind_rim (slots_in A) rim r).slot ≡ u = ap (λ (x : SlotFace). x.slot) (ap behind there) in
            absurd (has_out u k b e (subst (IsInCavitySlots cavity) same (edge.inner r h)))
      ] in
      side_stays b.slot b.face (leads_out u k b e) ∙ clears.others b.slot b.face off ∙ home

  pub IsMesh-cut : IsArenaMesh (slots_in F)
  IsMesh-cut =
      record {
        shaped = λ u t e. elim (in_or_not cavity u) [
          | inl found ↦ absurd (let none = freed u found in cc)
          | inr out ↦ clears.shaped u t (sym (stays u out) ∙ e)
        ];
        differ = λ u i j live hi hj e. elim (in_or_not cavity u) [
          | inl found ↦ absurd (none_live _ (ap (option_map (λ (t : SlotValue). t.corners)) (freed u found)) live)
          | inr out ↦
              let kept = corners_stay u out in
              mesh.differ u i j (subst IsSome kept live) hi hj (subst (λ (o : Option (List Corner)). corner_in o i ≡ corner_in o j) kept e)
        ];
        back = back;
        apart = λ u k b e. mesh.apart u k b (before u k b e);
        shared = λ u k b e. face_kept (slots_in A) (slots_in F) u k b.slot b.face (corners_stay u (has_out u k b e)) (corners_stay b.slot (leads_out u k b e)) (mesh.shared u k b (before u k b e));
      }

  pub Cuts-done : Cuts (slots_in A) (slots_in F) cavity rim
  Cuts-done =
      record {
        gone = λ u found. ap (option_map (λ (t : SlotValue). t.corners)) (freed u found);
        kept = corners_stay;
        outer = λ r h. side_stays _ _ (edge.outer r h) ∙ clears.outer r h;
        sides = λ u k out off. side_stays u k out ∙ clears.others u k off;
      }
