-- That each face of a star's slot has a mate.
use Rattle.std.proofs.Common.{◌≡◌, ◌≢◌, ◌⊎◌, ℕ, ◌-◌, ◌<◌, ◌≤◌, List, length, Option, Some, None, IsSome, refl, sym, ap, subst, ◌∙◌, inl, inr, arith}
use Rattle.std.proofs.lemmas.Bool.{cases_eq}
use Rattle.mesh_arena.specs.declared.slot.Corner.{Corner}
use Rattle.mesh_arena.specs.declared.arena.SlotFace.{SlotFace}
use Rattle.mesh_arena.specs.declared.slot.RimFace.{RimFace}
use Rattle.mesh_arena.specs.Mesh.{SlotValue, corners_at, corner_in, IsLive, corner, link_behind, at, OnFace, SameFace, IsArenaMesh, Links}
use Rattle.mesh_arena.specs.Star.{behind, rim_at, face_side, behind_rim}
use Rattle.mesh_arena.specs.StarLinks.{AreFourPlaces, OnRim, Other, ArePaired, IsStar, Mate, LinksFace, LinksStar}
use Rattle.mesh_arena.proofs.Mesh.{none_some, side_live, same_or_off, OnFace-along, OnFace-back}

pub one_of_three : (k f a b m : ℕ) → AreFourPlaces k f a b → m < 4 → m ≢ k → (m ≡ f) ⊎ ((m ≡ a) ⊎ (m ≡ b))
one_of_three k f a b m p m4 mk =
    elim (cases_eq m f) [
      | inl is ↦ inl is
      | inr mf ↦ elim (cases_eq m a) [ inl is ↦ inr (inl is) | inr ma ↦ inr (inr (omega (arith, p.k4, p.f4, p.a4, p.b4, p.fk, p.ak, p.bk, p.fa, p.fb, p.ab))) ]
    ]

-- the two places that are left
pub two_left : (k f : ℕ) → k < 4 → f < 4 → f ≢ k → (a : ℕ) × (b : ℕ) × AreFourPlaces k f a b
two_left k f k4 f4 fk =
    elim (cases_eq k 0) [
      | inl k0 ↦ elim (cases_eq f 1) [
        | inl f1 ↦ (2, 3, record { k4 = k4; f4 = f4; a4 = omega arith; b4 = omega arith; fk = fk; ak = λ e. omega arith; bk = λ e. omega arith; fa = λ e. omega arith; fb = λ e. omega arith; ab = λ e. omega arith })
        | inr f1 ↦ (1, 5 - f, record { k4 = k4; f4 = f4; a4 = omega arith; b4 = omega arith; fk = fk; ak = λ e. omega arith; bk = λ e. omega arith; fa = λ e. omega arith; fb = λ e. omega arith; ab = λ e. omega arith })
      ]
      | inr k0 ↦ elim (cases_eq f 0) [
        | inl f0 ↦ elim (cases_eq k 1) [
          | inl k1 ↦ (2, 3, record { k4 = k4; f4 = f4; a4 = omega arith; b4 = omega arith; fk = fk; ak = λ e. omega arith; bk = λ e. omega arith; fa = λ e. omega arith; fb = λ e. omega arith; ab = λ e. omega arith })
          | inr k1 ↦ (1, 5 - k, record { k4 = k4; f4 = f4; a4 = omega arith; b4 = omega arith; fk = fk; ak = λ e. omega arith; bk = λ e. omega arith; fa = λ e. omega arith; fb = λ e. omega arith; ab = λ e. omega arith })
        ]
        | inr f0 ↦ (0, 6 - f - k, record { k4 = k4; f4 = f4; a4 = omega arith; b4 = omega arith; fk = fk; ak = λ e. omega arith; bk = λ e. omega arith; fa = λ e. omega arith; fb = λ e. omega arith; ab = λ e. omega arith })
      ]
    ]

-- the place that is left
pub one_left : (f a b : ℕ) → f < 4 → a < 4 → b < 4 → f ≢ a → f ≢ b → a ≢ b → (l : ℕ) × AreFourPlaces l f a b
one_left f a b f4 a4 b4 fa fb ab =
    (6 - f - a - b, record { k4 = omega arith; f4 = f4; a4 = a4; b4 = b4; fk = λ e. omega arith; ak = λ e. omega arith; bk = λ e. omega arith; fa = fa; fb = fb; ab = ab })

module _ (slots : List (Option SlotValue)) where
  face_to : (s k f a b t l g c d : ℕ) → AreFourPlaces k f a b → AreFourPlaces l g c d → corner slots s f ≡ corner slots t g → corner slots s a ≡ corner slots t c → corner slots s b ≡ corner slots t d → (x : Corner) → OnFace slots s k x → OnFace slots t l x
  face_to s k f a b t l g c d p q ef ea eb x on =
      elim (one_of_three k f a b on.place p on.within on.off) [
        | inl is ↦ record { place = g; within = q.f4; off = q.fk; is = sym ef ∙ ap (corner slots s) (sym is) ∙ on.is }
        | inr rest ↦ elim rest [
          | inl is ↦ record { place = c; within = q.a4; off = q.ak; is = sym ea ∙ ap (corner slots s) (sym is) ∙ on.is }
          | inr is ↦ record { place = d; within = q.b4; off = q.bk; is = sym eb ∙ ap (corner slots s) (sym is) ∙ on.is }
        ]
      ]

  pub SameFace-three : (s k f a b t l g c d : ℕ) → AreFourPlaces k f a b → AreFourPlaces l g c d → corner slots s f ≡ corner slots t g → corner slots s a ≡ corner slots t c → corner slots s b ≡ corner slots t d → SameFace slots s k t l
  SameFace-three s k f a b t l g c d p q ef ea eb =
      record {
        to = face_to s k f a b t l g c d p q ef ea eb;
        from = face_to t l g c d s k f a b q p (sym ef) (sym ea) (sym eb);
      }

module _ (slots : List (Option SlotValue)) (rim : List RimFace) (p : Corner) (mesh : IsArenaMesh slots) (star : IsStar slots rim p) where
  -- the side of a star's slot on the rim
  pub rim_side : (r : ℕ) → r < length rim → link_behind slots (behind_rim slots rim r).slot (behind_rim slots rim r).face ≡ Some (at (rim_at rim r).slot.index (rim_at rim r).face)
  rim_side r h = mesh.back _ _ _ (star.has r h)

  pub star_live : (r : ℕ) → r < length rim → IsLive slots (behind_rim slots rim r).slot × ((behind_rim slots rim r).face < 4)
  star_live r h = side_live slots _ _ _ mesh.shaped (rim_side r h)

  pub rim_from : (r : ℕ) (x : Corner) → r < length rim → OnFace slots (behind_rim slots rim r).slot (behind_rim slots rim r).face x → OnRim slots rim r x
  rim_from r x h on = (mesh.shared _ _ _ (star.has r h)).from x on

  pub rim_to : (r : ℕ) (x : Corner) → r < length rim → OnRim slots rim r x → OnFace slots (behind_rim slots rim r).slot (behind_rim slots rim r).face x
  rim_to r x h on = (mesh.shared _ _ _ (star.has r h)).to x on

  -- a face that is not that on the rim
  pub free_off : (r k : ℕ) → r < length rim → link_behind slots (behind_rim slots rim r).slot k ≡ None → k ≢ (behind_rim slots rim r).face
  free_off r k h free same = none_some _ _ free (ap (link_behind slots (behind_rim slots rim r).slot) same ∙ rim_side r h)

  -- a corner of a star's slot, off the point, is on its face of the rim
  rim_corner : (t : ℕ) (x : Corner) → t < length rim → (x ≡ p → ⊥) → (m : ℕ) → m < 4 → corner slots (behind_rim slots rim t).slot m ≡ x → OnRim slots rim t x
  rim_corner t x h not_p m m4 is =
      rim_from t x h (record { place = m; within = m4; off = λ e. not_p (sym is ∙ ap (corner slots (behind_rim slots rim t).slot) e ∙ star.apex t h); is = is })

  module _ (pairs : ArePaired slots rim) (r k : ℕ) (h : r < length rim) (k4 : k < 4) (free : link_behind slots (behind_rim slots rim r).slot k ≡ None) where
    abbrev mine : ℕ
    mine = (behind_rim slots rim r).slot

    abbrev apex_at : ℕ
    apex_at = (behind_rim slots rim r).face

    module _ (a b : ℕ) (here : AreFourPlaces k apex_at a b) where
      abbrev x : Corner
      x = corner slots mine a

      abbrev y : Corner
      y = corner slots mine b

      x_not_y : x ≢ y
      x_not_y e = here.ab (mesh.differ mine a b (star_live r h).0 here.a4 here.b4 e)

      x_not_p : x ≡ p → ⊥
      x_not_p e = here.fa (mesh.differ mine apex_at a (star_live r h).0 here.f4 here.a4 (star.apex r h ∙ sym e))

      y_not_p : y ≡ p → ⊥
      y_not_p e = here.fb (mesh.differ mine apex_at b (star_live r h).0 here.f4 here.b4 (star.apex r h ∙ sym e))

      other : Other slots rim r x y
      other =
          pairs r x y h
          (rim_from r x h (record { place = a; within = here.a4; off = λ e. here.fa (sym e); is = refl }))
          (rim_from r y h (record { place = b; within = here.b4; off = λ e. here.fb (sym e); is = refl }))
          x_not_y

      module _ (o : Other slots rim r x y) where
        abbrev theirs : ℕ
        theirs = (behind_rim slots rim o.face).slot

        abbrev their_apex : ℕ
        their_apex = (behind_rim slots rim o.face).face

        on_x : OnFace slots theirs their_apex x
        on_x = rim_to o.face x o.inside o.first

        on_y : OnFace slots theirs their_apex y
        on_y = rim_to o.face y o.inside o.second

        places_apart : on_x.place ≢ on_y.place
        places_apart e = x_not_y (sym on_x.is ∙ ap (corner slots theirs) e ∙ on_y.is)

        left : (l : ℕ) × AreFourPlaces l their_apex on_x.place on_y.place
        left = one_left their_apex on_x.place on_y.place (star_live o.face o.inside).1 on_x.within on_y.within (λ e. on_x.off (sym e)) (λ e. on_y.off (sym e)) places_apart

        same : SameFace slots mine k theirs left.0
        same = SameFace-three slots mine k apex_at a b theirs left.0 their_apex on_x.place on_y.place here left.1 (star.apex r h ∙ sym (star.apex o.face o.inside)) (sym on_x.is) (sym on_y.is)

        -- were that face linked, it would be so to the face that is free
        linked_is : (z : SlotFace) → link_behind slots theirs left.0 ≡ Some z → ⊥
        linked_is z e =
            let there = star.closed o.face left.0 z o.inside (λ q. left.1.fk (sym q)) e in
            let t = there.0 in
            let shared = mesh.shared theirs left.0 z e in
            let zx = shared.to x (record { place = on_x.place; within = on_x.within; off = left.1.ak; is = on_x.is }) in
            let zy = shared.to y (record { place = on_y.place; within = on_y.within; off = left.1.bk; is = on_y.is }) in
            let rx : OnRim slots rim t x = rim_corner t x there.1 x_not_p zx.place zx.within (ap (λ n. corner slots n zx.place) (sym there.2) ∙ zx.is) in
            let ry : OnRim slots rim t y = rim_corner t y there.1 y_not_p zy.place zy.within (ap (λ n. corner slots n zy.place) (sym there.2) ∙ zy.is) in
            let not_o : t ≢ o.face = λ q. mesh.apart theirs left.0 z e (there.2 ∙ ap (λ n. (behind_rim slots rim n).slot) q) in
            elim (cases_eq t r) [
              | inr differ ↦ not_o (o.only t there.1 differ rx ry)
              | inl is ↦
                  let home : z.slot ≡ mine = there.2 ∙ ap (λ n. (behind_rim slots rim n).slot) is in
                  let back : link_behind slots z.slot z.face ≡ Some (at theirs left.0) = mesh.back theirs left.0 z e in
                  elim (cases_eq z.face k) [
                    | inl level ↦ none_some _ _ free (subst (λ n. link_behind slots mine n ≡ Some (at theirs left.0)) level (subst (λ n. link_behind slots n z.face ≡ Some (at theirs left.0)) home back))
                    | inr off ↦
                        let z4 : z.face < 4 = (side_live slots z.slot z.face (at theirs left.0) mesh.shaped back).1 in
                        let mid = same.to (corner slots mine z.face) (record { place = z.face; within = z4; off = off; is = refl }) in
                        let end = shared.to (corner slots mine z.face) mid in
                        end.off (mesh.differ mine end.place z.face (star_live r h).0 end.within z4 (ap (λ n. corner slots n end.place) (sym home) ∙ end.is))
                  ]
            ]

        their_free : (v : Option SlotFace) → link_behind slots theirs left.0 ≡ v → link_behind slots theirs left.0 ≡ None
        their_free None e = e
        their_free (Some z) e = absurd (linked_is z e)

        mate : Mate slots rim r k (at theirs left.0)
        mate =
            record {
              face = o.face;
              inside = o.inside;
              differs = o.differs;
              slot = refl;
              below = left.1.k4;
              free = their_free (link_behind slots theirs left.0) refl;
              same = same;
            }

    pub mate_exists : (t : SlotFace) × Mate slots rim r k t
    mate_exists =
        let two = two_left k apex_at k4 (star_live r h).1 (λ e. free_off r k h free (sym e)) in
        let o = other two.0 two.1 two.2 in
        (at (theirs two.0 two.1 two.2 o) (left two.0 two.1 two.2 o).0, mate two.0 two.1 two.2 o)

module _ (old new : List (Option SlotValue)) (rim : List RimFace) (p : Corner) (mesh : IsArenaMesh old) (star : IsStar old rim p) (r k : ℕ) (h : r < length rim) (two : SlotFace) (mate : Mate old rim r k two) (links : Links old new (behind_rim old rim r).slot k two.slot two.face) where
  abbrev first : ℕ
  first = (behind_rim old rim r).slot

  rim_kept : (t : ℕ) → t < length rim → face_side new (rim_at rim t) ≡ face_side old (rim_at rim t)
  rim_kept t lt =
      links.others _ _
      (inl (λ e. star.outside r t h lt (sym e)))
      (inl (λ e. star.outside mate.face t mate.inside lt (sym (e ∙ mate.slot))))

  same_behind : (t : ℕ) → t < length rim → behind_rim new rim t ≡ behind_rim old rim t
  same_behind t lt = ap behind (rim_kept t lt)

  same_slot : (t : ℕ) → t < length rim → (behind_rim new rim t).slot ≡ (behind_rim old rim t).slot
  same_slot t lt = ap (λ (b : SlotFace). b.slot) (same_behind t lt)

  closed_old : (t m : ℕ) (b : SlotFace) → t < length rim → m ≢ (behind_rim old rim t).face → link_behind new (behind_rim old rim t).slot m ≡ Some b → (q : ℕ) × (q < length rim) × (b.slot ≡ (behind_rim old rim q).slot)
  closed_old t m b lt off e =
      elim (same_or_off (behind_rim old rim t).slot m first k) [
        | inl is ↦
            let there : link_behind new first k ≡ Some b = subst (λ n. link_behind new first n ≡ Some b) is.1 (subst (λ n. link_behind new n m ≡ Some b) is.0 e) in
            let both : at two.slot two.face ≡ b = let f = links.first in cc in
            (mate.face, mate.inside, ap (λ (x : SlotFace). x.slot) (sym both) ∙ mate.slot)
        | inr off_first ↦ elim (same_or_off (behind_rim old rim t).slot m two.slot two.face) [
          | inl is ↦
              let there : link_behind new two.slot two.face ≡ Some b = subst (λ n. link_behind new two.slot n ≡ Some b) is.1 (subst (λ n. link_behind new n m ≡ Some b) is.0 e) in
              let both : at first k ≡ b = let f = links.second in cc in
              (r, h, ap (λ (x : SlotFace). x.slot) (sym both))
          | inr off_second ↦ star.closed t m b lt off (sym (links.others _ _ off_first off_second) ∙ e)
        ]
      ]

  star_after : IsStar new rim p
  star_after =
      record {
        has = λ t lt. rim_kept t lt ∙ star.has t lt ∙ ap Some (sym (same_behind t lt));
        apart = λ t q a b e. star.apart t q a b (sym (same_slot t a) ∙ e ∙ same_slot q b);
        outside = λ t q a b e. star.outside t q a b (sym (same_slot t a) ∙ e);
        apex = λ t lt.
            subst (λ (x : SlotFace). corner new x.slot x.face ≡ p) (sym (same_behind t lt))
            (ap (λ (o : Option (List Corner)). corner_in o (behind_rim old rim t).face) (links.corners (behind_rim old rim t).slot) ∙ star.apex t lt);
        closed = λ t m b lt off e.
            let found = closed_old t m b lt (λ q. off (q ∙ ap (λ (x : SlotFace). x.face) (sym (same_behind t lt)))) (subst (λ n. link_behind new n m ≡ Some b) (same_slot t lt) e) in
            (found.0, found.1, found.2 ∙ sym (same_slot found.0 found.1));
      }

  keeps : (u m : ℕ) → IsSome (link_behind old u m) → IsSome (link_behind new u m)
  keeps u m some =
      elim (same_or_off u m first k) [
        | inl is ↦ some_at u m first k (at two.slot two.face) is.0 is.1 links.first
        | inr off ↦ elim (same_or_off u m two.slot two.face) [
          | inl is ↦ some_at u m two.slot two.face (at first k) is.0 is.1 links.second
          | inr off2 ↦ subst IsSome (sym (links.others u m off off2)) some
        ]
      ]
    where
      some_at : (u m s i : ℕ) (b : SlotFace) → u ≡ s → m ≡ i → link_behind new s i ≡ Some b → IsSome (link_behind new u m)
      some_at u m s i b us mi e = rw (us, mi, e) refl

  pub LinksFace-links : LinksFace old new rim p r k
  LinksFace-links =
      record {
        len = links.len;
        corners = links.corners;
        star = star_after;
        sides = λ u m away. links.others u m (inl (λ e. away r h (sym e))) (inl (λ e. away mate.face mate.inside (sym (e ∙ mate.slot))));
        keeps = keeps;
        here = rw links.first refl;
      }

-- pairs are a matter of corners alone
pub ArePaired-along : (old new : List (Option SlotValue)) (rim : List RimFace) → ((u : ℕ) → corners_at new u ≡ corners_at old u) → ArePaired old rim → ArePaired new rim
ArePaired-along old new rim same pairs r x y h on_x on_y differ =
    let o = pairs r x y h (OnFace-back old new same _ _ x on_x) (OnFace-back old new same _ _ y on_y) differ in
    record {
      face = o.face;
      inside = o.inside;
      differs = o.differs;
      first = OnFace-along old new same _ _ x o.first;
      second = OnFace-along old new same _ _ y o.second;
      only = λ t lt tr on_x2 on_y2. o.only t lt tr (OnFace-back old new same _ _ x on_x2) (OnFace-back old new same _ _ y on_y2);
    }

module _ (first now next : List (Option SlotValue)) (rim : List RimFace) (p : Corner) (r k n : ℕ) (h : r < length rim) (outside : (r q : ℕ) → r < length rim → q < length rim → (behind_rim first rim r).slot ≢ (rim_at rim q).slot.index) (was : LinksStar first now rim p n) (one : LinksFace now next rim p r k) where
  behind_kept : (t : ℕ) → t < length rim → behind_rim now rim t ≡ behind_rim first rim t
  behind_kept t lt = ap behind (was.sides _ _ (λ q qlt e. outside q t qlt lt e))

  pub LinksStar-one : LinksStar first next rim p n
  LinksStar-one =
      record {
        len = one.len ∙ was.len;
        corners = λ u. one.corners u ∙ was.corners u;
        star = one.star;
        sides = λ u m away. one.sides u m (λ q lt e. away q lt (ap (λ (b : SlotFace). b.slot) (sym (behind_kept q lt)) ∙ e)) ∙ was.sides u m away;
        linked = λ q m qn m4. one.keeps _ m (was.linked q m qn m4);
      }

  pub here_one : IsSome (link_behind next (behind_rim first rim r).slot k)
  here_one = subst (λ (b : SlotFace). IsSome (link_behind next b.slot k)) (behind_kept r h) one.here

pub LinksStar-none : (slots : List (Option SlotValue)) (rim : List RimFace) (p : Corner) → IsStar slots rim p → LinksStar slots slots rim p 0
LinksStar-none slots rim p star =
    record { len = refl; corners = λ u. refl; star = star; sides = λ u m away. refl; linked = λ q m h. absurd (omega arith) }

-- one more link
pub LinksStar-face : (old new : List (Option SlotValue)) (rim : List RimFace) (p : Corner) (r k : ℕ) → LinksFace old new rim p r k → LinksStar old new rim p 0
LinksStar-face old new rim p r k one =
    record { len = one.len; corners = one.corners; star = one.star; sides = one.sides; linked = λ q m h. absurd (omega arith) }

-- links after links
pub LinksStar-then : (first mid next : List (Option SlotValue)) (rim : List RimFace) (p : Corner) (m n : ℕ) → IsStar first rim p → n ≤ length rim → LinksStar first mid rim p m → LinksStar mid next rim p n → LinksStar first next rim p n
LinksStar-then first mid next rim p m n star few one two =
    record {
      len = two.len ∙ one.len;
      corners = λ u. two.corners u ∙ one.corners u;
      star = two.star;
      sides = λ u k away. two.sides u k (λ q lt e. away q lt (ap (λ (b : SlotFace). b.slot) (sym (kept q lt)) ∙ e)) ∙ one.sides u k away;
      linked = λ q k lt k4. subst (λ (b : SlotFace). IsSome (link_behind next b.slot k)) (kept q (omega arith)) (two.linked q k lt k4);
    }
  where
    kept : (t : ℕ) → t < length rim → behind_rim mid rim t ≡ behind_rim first rim t
    kept t lt = ap behind (one.sides _ _ (λ q qlt e. star.outside q t qlt lt e))

-- two faces with the same corners are linked
pub LinksStar-mates : (old new : List (Option SlotValue)) (rim : List RimFace) (p : Corner) (r k q j s t : ℕ) → IsArenaMesh old → IsStar old rim p → r < length rim → q < length rim → q ≢ r → j < 4 → s ≡ (behind_rim old rim r).slot → t ≡ (behind_rim old rim q).slot → link_behind old t j ≡ None → SameFace old s k t j → Links old new s k t j → LinksStar old new rim p 0
LinksStar-mates old new rim p r k q j s t mesh star hr hq differs j4 es et free same links =
    let two : SlotFace = at t j in
    let mate : Mate old rim r k two = record { face = q; inside = hq; differs = differs; slot = et; below = j4; free = free; same = subst (λ n. SameFace old n k t j) es same } in
    LinksStar-face old new rim p r k (LinksFace-links old new rim p mesh star r k hr two mate (subst (λ n. Links old new n k t j) es links))
