-- One slot with four neighbors is a cavity, and its neighbors' faces are the rim.
use Rattle.std.proofs.Common.{◌≡◌, ◌≢◌, ℕ, zero, suc, ◌<◌, List, [], ◌∷◌, Option, Some, refl, sym, ap, subst, ◌∙◌, arith}
use Rattle.mesh_arena.specs.declared.slot.Corner.{Corner}
use Rattle.mesh_arena.specs.declared.slot.RimFace.{RimFace}
use Rattle.mesh_arena.specs.declared.slot.Slot.{Slot}
use Rattle.mesh_arena.specs.declared.arena.SlotFace.{SlotFace}
use Rattle.mesh_arena.specs.Mesh.{SlotValue, IsLive, corner, link_behind, at, OnFace, IsArenaMesh}
use Rattle.mesh_arena.specs.Star.{behind, rim_at, face_side, behind_rim}
use Rattle.mesh_arena.specs.Cavity.{slot_at, IsInCavitySlots}
use Rattle.mesh_arena.specs.StarLinks.{OnRim, ArePaired}
use Rattle.mesh_arena.specs.Replace.{IsCavity, IsRim, IsOffRim}
use Rattle.mesh_arena.proofs.Mesh.{side_live}
use Rattle.mesh_arena.proofs.Pairs.{one_left}

-- the face stands behind the face k of the slot
abbrev pub IsAcross : List (Option SlotValue) → Slot → ℕ → RimFace → Type 0
IsAcross slots s k f = link_behind slots s.index k ≡ Some (at f.slot.index f.face)

module _ (slots : List (Option SlotValue)) (s : Slot) (a b c d : RimFace) (mesh : IsArenaMesh slots) (is_a : IsAcross slots s 0 a) (is_b : IsAcross slots s 1 b) (is_c : IsAcross slots s 2 c) (is_d : IsAcross slots s 3 d) where
  abbrev cavity : List Slot
  cavity = s ∷ []

  abbrev rim : List RimFace
  rim = a ∷ b ∷ c ∷ d ∷ []

  across : (r : ℕ) → r < 4 → IsAcross slots s r (rim_at rim r)
  across zero h = is_a
  across (suc zero) h = is_b
  across (suc (suc zero)) h = is_c
  across (suc (suc (suc zero))) h = is_d
  across (suc (suc (suc (suc r)))) h = absurd (omega arith)

  live : IsLive slots s.index
  live = (side_live slots s.index 0 _ mesh.shaped is_a).0

  in_is : (u : ℕ) → IsInCavitySlots cavity u → u ≡ s.index
  in_is u found = by_place found.place found.inside found.is
    where
      by_place : (j : ℕ) → j < 1 → slot_at cavity j ≡ u → u ≡ s.index
      by_place zero h e = sym e
      by_place (suc j) h e = absurd (omega arith)

  is_in : IsInCavitySlots cavity s.index
  is_in = record { place = 0; inside = omega arith; is = refl }

  back : (r : ℕ) → r < 4 → face_side slots (rim_at rim r) ≡ Some (at s.index r)
  back r h = mesh.back s.index r _ (across r h)

  behind_is : (r : ℕ) → r < 4 → behind_rim slots rim r ≡ at s.index r
  behind_is r h = ap behind (back r h)

  pub IsCavity-one : IsCavity slots cavity
  IsCavity-one =
      record {
        live = λ j h. let same : j ≡ 0 = omega arith in rw same live;
        once = λ i j h g e. omega arith;
      }

  pub IsRim-one : IsRim slots cavity rim
  IsRim-one =
      record {
        some = omega arith;
        outer = λ r h found. mesh.apart s.index r _ (across r h) (in_is _ found);
        has = λ r h. back r h ∙ ap Some (sym (behind_is r h));
        inner = λ r h. rw (behind_is r h) is_in;
        once = λ r q h g e f.
            let left = back r h in
            let right : link_behind slots (rim_at rim r).slot.index (rim_at rim r).face ≡ Some (at s.index q) = rw (e, f) (back q g) in
            let both : at s.index r ≡ at s.index q = cc in
            ap (λ (x : SlotFace). x.face) both;
        all = λ u k x e out found.
            let home : link_behind slots x.slot x.face ≡ Some (at u k) = mesh.back u k x e in
            let is : x.slot ≡ s.index = in_is x.slot found in
            let below : x.face < 4 = (side_live slots x.slot x.face _ mesh.shaped home).1 in
            let there : link_behind slots s.index x.face ≡ Some (at u k) = subst (λ n. link_behind slots n x.face ≡ Some (at u k)) is home in
            let both : at (rim_at rim x.face).slot.index (rim_at rim x.face).face ≡ at u k = let g = across x.face below in cc in
            (x.face, below, ap (λ (y : SlotFace). y.slot) both, ap (λ (y : SlotFace). y.face) both);
      }

  on_slot : (r : ℕ) (x : Corner) → r < 4 → OnRim slots rim r x → OnFace slots s.index r x
  on_slot r x h on = (mesh.shared s.index r _ (across r h)).from x on

  on_rim : (r : ℕ) (x : Corner) → r < 4 → OnFace slots s.index r x → OnRim slots rim r x
  on_rim r x h on = (mesh.shared s.index r _ (across r h)).to x on

  pub ArePaired-one : ArePaired slots rim
  ArePaired-one r x y h on_x on_y differ =
      let ox = on_slot r x h on_x in
      let oy = on_slot r y h on_y in
      let apart : ox.place ≢ oy.place = λ e. differ (sym ox.is ∙ ap (corner slots s.index) e ∙ oy.is) in
      let left = one_left r ox.place oy.place h ox.within oy.within (λ e. ox.off (sym e)) (λ e. oy.off (sym e)) apart in
      let l = left.0 in
      let p = left.1 in
      record {
        face = l;
        inside = p.k4;
        differs = λ e. p.fk (sym e);
        first = on_rim l x p.k4 (record { place = ox.place; within = ox.within; off = p.ak; is = ox.is });
        second = on_rim l y p.k4 (record { place = oy.place; within = oy.within; off = p.bk; is = oy.is });
        only = λ t lt tr tx ty.
            let sx = on_slot t x lt tx in
            let sy = on_slot t y lt ty in
            let same_x : sx.place ≡ ox.place = mesh.differ s.index sx.place ox.place live sx.within ox.within (sx.is ∙ sym ox.is) in
            let same_y : sy.place ≡ oy.place = mesh.differ s.index sy.place oy.place live sy.within oy.within (sy.is ∙ sym oy.is) in
            let tx_off : t ≢ ox.place = λ e. sx.off (same_x ∙ sym e) in
            let ty_off : t ≢ oy.place = λ e. sy.off (same_y ∙ sym e) in
            omega (arith, p.k4, p.f4, p.a4, p.b4, p.fk, p.ak, p.bk, p.fa, p.fb, p.ab, lt, tr);
      }

  pub IsOffRim-one : (x : Corner) → ((k : ℕ) → k < 4 → corner slots s.index k ≢ x) → IsOffRim slots rim x
  IsOffRim-one x off r h on =
      let o = on_slot r x h on in
      off o.place o.within o.is
