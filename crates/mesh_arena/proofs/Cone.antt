-- How the star of a point takes the place of a cavity.
use Rattle.std.proofs.Common.{◌≡◌, ◌≢◌, ◌⊎◌, ℕ, ◌<◌, List, length, get_or, set, Option, Some, None, IsSome, option_map, refl, sym, ap, ◌∙◌, inl, inr, arith}
use Rattle.std.proofs.lemmas.Bool.{cases_eq}
use Rattle.std.proofs.lemmas.List.{get_or-set_same, get_or-set_other}
use Rattle.mesh_arena.specs.declared.slot.Corner.{Corner}
use Rattle.mesh_arena.specs.declared.slot.Corner.TheVariants.{Ghost}
use Rattle.mesh_arena.specs.declared.arena.SlotFace.{SlotFace}
use Rattle.mesh_arena.specs.Mesh.{SlotValue, tet_at, corners_at, corner_in, corner, link_behind, at, OnFace, SameFace, IsShaped, IsArenaMesh, AllDiffer}
use Rattle.mesh_arena.specs.Surgery.{FitsFace}
use Rattle.mesh_arena.proofs.Mesh.{side_live}

-- a live slot has four corners
pub corners_four : (slots : List (Option SlotValue)) (u : ℕ) (cs : List Corner) → IsShaped slots → corners_at slots u ≡ Some cs → length cs ≡ 4
corners_four slots u cs shaped e = by_tet (tet_at slots u) refl e
  where
    by_tet : (o : Option SlotValue) → tet_at slots u ≡ o → option_map (λ (t : SlotValue). t.corners) o ≡ Some cs → length cs ≡ 4
    by_tet None is e = absurd (cc)
    by_tet (Some t) is e = let same : t.corners ≡ cs = cc in sym (ap length same) ∙ (shaped u t is).0

pub faces_below : (slots : List (Option SlotValue)) (s i : ℕ) (b : SlotFace) → IsArenaMesh slots → link_behind slots s i ≡ Some b → (i < 4) × (b.face < 4) × IsSome (corners_at slots s) × IsSome (corners_at slots b.slot)
faces_below slots s i b mesh e =
    let here = side_live slots s i b mesh.shaped e in
    let there = side_live slots b.slot b.face (at s i) mesh.shaped (mesh.back s i b e) in
    (here.1, there.1, here.0, there.0)

read_corner : (slots : List (Option SlotValue)) (u : ℕ) (cs : List Corner) (m : ℕ) → corners_at slots u ≡ Some cs → corner slots u m ≡ get_or cs m Ghost
read_corner slots u cs m e = ap (λ (o : Option (List Corner)). corner_in o m) e

-- the corners of the slot behind a face, with a point that is not on the face in place of the one opposite it
pub cone_differ : (slots : List (Option SlotValue)) (s i : ℕ) (inner : SlotFace) (p : Corner) (cs : List Corner) → IsArenaMesh slots → link_behind slots s i ≡ Some inner → (OnFace slots s i p → ⊥) → corners_at slots inner.slot ≡ Some cs → AllDiffer (set cs inner.face p)
cone_differ slots s i inner p cs mesh was off is a b ha hb e =
    by_place (cases_eq a inner.face) (cases_eq b inner.face)
  where
    four : length cs ≡ 4
    four = corners_four slots inner.slot cs mesh.shaped is

    below : inner.face < 4
    below = (faces_below slots s i inner mesh was).1

    here : (d : Corner) → get_or (set cs inner.face p) inner.face d ≡ p
    here d = get_or-set_same cs inner.face p d (omega (arith, four, below))

    not_p : (m : ℕ) → m < 4 → m ≢ inner.face → get_or cs m Ghost ≡ p → ⊥
    not_p m lt differ same = off ((mesh.shared s i inner was).from p (record { place = m; within = lt; off = differ; is = read_corner slots inner.slot cs m is ∙ same }))

    by_place : (a ≡ inner.face) ⊎ (a ≢ inner.face) → (b ≡ inner.face) ⊎ (b ≢ inner.face) → a ≡ b
    by_place (inl x) (inl y) = x ∙ sym y
    by_place (inl x) (inr y) = absurd (not_p b hb y (sym (get_or-set_other cs inner.face b p Ghost y) ∙ sym e ∙ ap (λ n. get_or (set cs inner.face p) n Ghost) x ∙ here Ghost))
    by_place (inr x) (inl y) = absurd (not_p a ha x (sym (get_or-set_other cs inner.face a p Ghost x) ∙ e ∙ ap (λ n. get_or (set cs inner.face p) n Ghost) y ∙ here Ghost))
    by_place (inr x) (inr y) =
        let both : get_or cs a Ghost ≡ get_or cs b Ghost = sym (get_or-set_other cs inner.face a p Ghost x) ∙ e ∙ get_or-set_other cs inner.face b p Ghost y in
        mesh.differ inner.slot a b (faces_below slots s i inner mesh was).3 ha hb (read_corner slots inner.slot cs a is ∙ both ∙ sym (read_corner slots inner.slot cs b is))

-- the face of s fits those corners
pub cone_fits : (slots : List (Option SlotValue)) (s i : ℕ) (inner : SlotFace) (p : Corner) (cs : List Corner) → IsArenaMesh slots → link_behind slots s i ≡ Some inner → corners_at slots inner.slot ≡ Some cs → FitsFace slots s i (set cs inner.face p) inner.face
cone_fits slots s i inner p cs mesh was is =
    record {
      to = λ x on.
          let there = faces.to x on in
          record { place = there.place; within = there.within; differs = there.off; is = kept there.place there.off ∙ there.is };
      from = λ x has. faces.from x (record { place = has.place; within = has.within; off = has.differs; is = sym (kept has.place has.differs) ∙ has.is });
    }
  where
    faces : SameFace slots s i inner.slot inner.face
    faces = mesh.shared s i inner was

    kept : (m : ℕ) → m ≢ inner.face → get_or (set cs inner.face p) m Ghost ≡ corner slots inner.slot m
    kept m differ = get_or-set_other cs inner.face m p Ghost differ ∙ sym (read_corner slots inner.slot cs m is)

-- a face that fits these corners is shared with the slot that has them
pub fits_same : (slots new : List (Option SlotValue)) (s i made j : ℕ) (cs : List Corner) → FitsFace slots s i cs j → corners_at new s ≡ corners_at slots s → corners_at new made ≡ Some cs → SameFace new s i made j
fits_same slots new s i made j cs fits kept is =
    record {
      to = λ x on.
          let has = fits.to x (record { place = on.place; within = on.within; off = on.off; is = sym (same_s on.place) ∙ on.is }) in
          record { place = has.place; within = has.within; off = has.differs; is = read_corner new made cs has.place is ∙ has.is };
      from = λ x on.
          let there = fits.from x (record { place = on.place; within = on.within; differs = on.off; is = sym (read_corner new made cs on.place is) ∙ on.is }) in
          record { place = there.place; within = there.within; off = there.off; is = same_s there.place ∙ there.is };
    }
  where
    same_s : (m : ℕ) → corner new s m ≡ corner slots s m
    same_s m = ap (λ (o : Option (List Corner)). corner_in o m) kept
