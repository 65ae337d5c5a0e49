-- The subsegment of which another is a half: protection that adds fewer points ends at it.
use Rattle.std.proofs.Common.{◌≡◌, ◌≢◌, ◌⊎◌, inl, inr, ℕ, zero, suc, ◌+◌, ◌-◌, ◌<◌, max, Bool, true, false, cond, List, [], ◌∷◌, length, Option, None, Some, refl, ap, sym, subst, ◌∙◌, arith, eqb-true, eq-eqb}
use Rattle.std.specs.Prelude.{◌==◌, find, zip, drop, filter, flat_map, if◌then◌else◌}
use Rattle.std.proofs.lemmas.List.{length_push}
use Rattle.sign_predicates.specs.Point.{Point}
use Rattle.geo_laws.proofs.Members.{IsMember, here, there, in_cons, in_head, filter_cases, flat_map_cases, map_cases, range_bounds}
use Rattle.geo_laws.proofs.Sorting.{from_sorted}
use Rattle.geo_laws.specs.Delaunay.{point, numbers_below}
use Rattle.geo_laws.specs.Segment.{ProtectionEnd, Protected, GridEnd, BudgetEnd, along, cut, first_missing, is_on_segment, midpoint, piece, pieces, protect, same_ends, stops, with_halves, with_midpoint}
use Rattle.geo_laws.specs.declared.complex.Piece.{Piece}
use Rattle.segment_protect.proofs.Ends.{end_done, end_grid, end_budget, end_split}
use Rattle.segment_protect.proofs.PieceLaws.{from_first}

-- protection ends at the subsegment, which is no edge and may not be halved
abbrev pub EndsAt : ProtectionEnd → Piece → Type 0
EndsAt end p = (end ≡ GridEnd p) ⊎ (end ≡ BudgetEnd p)

-- Protection of the subsegments `first` that adds as many points as there are before the later end of q, and fewer than
-- `added`, ends at the subsegment of which q is a half
pub record IsHalf (depth added : ℕ) (ps : List Point) (first : List Piece) (q : Piece) : Type 0 where
  pub before : Piece
  pub fewer : max q.a q.b - length ps < added
  pub halved : q.halvings ≡ before.halvings + 1
  pub ended : protect depth (max q.a q.b - length ps) ps first ≡ BudgetEnd before

-- once `added` points are added, both ends of the subsegment are among the points, and it is a half unless it is one of the first
pub record IsMade (depth added : ℕ) (ps : List Point) (first : List Piece) (q : Piece) : Type 0 where
  pub a_below : q.a < length ps + added
  pub b_below : q.b < length ps + added
  pub half : (q.halvings ≡ 0) ⊎ IsHalf depth added ps first q

abbrev pub AreMade : ℕ → ℕ → List Point → List Piece → List Piece → Type 0
AreMade depth added ps first pieces = (q : Piece) → IsMember q pieces → IsMade depth added ps first q

-- ---- the first that is found

found_in : {X : Type 0} (test : X → Bool) (xs : List X) (x : X) → find test xs ≡ Some x → IsMember x xs
found_in test [] x e = absurd (never e)
  where
    never : None ≡ Some x → ⊥
    never e = cc
found_in {X} test (y ∷ xs) x e = go (test y) e (found_in test xs x)
  where
    one : Some y ≡ Some x → y ≡ x
    one e = cc

    go : (b : Bool) → cond b (Some y) (find test xs) ≡ Some x → (find test xs ≡ Some x → IsMember x xs) → IsMember x (y ∷ xs)
    go true e rest = subst (λ z. IsMember z (y ∷ xs)) (one e) here
    go false e rest = there (rest e)

-- ---- a split

module _ (depth added : ℕ) (ps : List Point) (first : List Piece) where
  -- with more points
  later : (more : ℕ) (q : Piece) → IsMade depth added ps first q → IsMade depth (added + more) ps first q
  later more q made = record { a_below = (let h = made.a_below in omega arith); b_below = (let h = made.b_below in omega arith); half = go made.half }
    where
      go : (q.halvings ≡ 0) ⊎ IsHalf depth added ps first q → (q.halvings ≡ 0) ⊎ IsHalf depth (added + more) ps first q
      go (inl z) = inl z
      go (inr h) = let f = h.fewer in inr (record { before = h.before; fewer = omega arith; halved = h.halved; ended = h.ended })

  -- the halves of a subsegment at which protection ends
  half_made : (p q : Piece) → protect depth added ps first ≡ BudgetEnd p → q.halvings ≡ p.halvings + 1 → max q.a q.b ≡ length ps + added → IsMade depth (added + 1) ps first q
  half_made p q ended halved top =
      let at : max q.a q.b - length ps ≡ added = omega arith in
      record {
        a_below = omega arith;
        b_below = omega arith;
        half = inr (record { before = p; fewer = omega arith; halved = halved; ended = subst (λ n. protect depth n ps first ≡ BudgetEnd p) (sym at) ended });
      }

  halves_made : (pieces : List Piece) (p : Piece) (m : ℕ) → AreMade depth added ps first pieces → IsMember p pieces → m ≡ length ps + added → protect depth added ps first ≡ BudgetEnd p
      → AreMade depth (added + 1) ps first (with_halves p m pieces)
  halves_made pieces p m made p_in e ended q q_in = go (same_ends p c.0) c.2
    where
      near : Piece
      near = piece p.a m (p.halvings + 1)

      far : Piece
      far = piece m p.b (p.halvings + 1)

      c : (x : Piece) × IsMember x pieces × IsMember q (if same_ends p x then near ∷ far ∷ [] else x ∷ [])
      c = flat_map_cases (λ x. if same_ends p x then near ∷ far ∷ [] else x ∷ []) q pieces q_in

      top_near : max p.a m ≡ length ps + added
      top_near = let h = (made p p_in).a_below in omega arith

      top_far : max m p.b ≡ length ps + added
      top_far = let h = (made p p_in).b_below in omega arith

      near_made : IsMade depth (added + 1) ps first near
      near_made = half_made p near ended refl top_near

      far_made : IsMade depth (added + 1) ps first far
      far_made = half_made p far ended refl top_far

      only : (x : Piece) → IsMade depth (added + 1) ps first x → (q ≡ x) ⊎ IsMember q [] → IsMade depth (added + 1) ps first q
      only x h (inl d) = subst (IsMade depth (added + 1) ps first) (sym d) h
      only x h (inr k) = elim k [ ]

      one_of : (q ≡ near) ⊎ IsMember q (far ∷ []) → IsMade depth (added + 1) ps first q
      one_of (inl d) = subst (IsMade depth (added + 1) ps first) (sym d) near_made
      one_of (inr k) = only far far_made (in_cons q far [] k)

      go : (b : Bool) → IsMember q (if b then near ∷ far ∷ [] else c.0 ∷ []) → IsMade depth (added + 1) ps first q
      go true k = one_of (in_cons q near (far ∷ []) k)
      go false k = only c.0 (later 1 c.0 (made c.0 c.1)) (in_cons q c.0 [] k)

-- ---- where protection ends

-- the first missing subsegment is that of the end, or one more point is added
data EndCase (depth splits : ℕ) (qs : List Point) (pieces : List Piece) (p : Piece) : Type 0 where
  stops_here : IsMember p pieces → EndCase depth splits qs pieces p
  goes_on : (r : Piece) (left : ℕ) → splits ≡ left + 1 → IsMember r pieces → protect depth 0 qs pieces ≡ BudgetEnd r
      → ((n : ℕ) → protect depth (n + 1) qs pieces ≡ protect depth n (with_midpoint qs r) (with_halves r (length qs) pieces))
      → EndsAt (protect depth left (with_midpoint qs r) (with_halves r (length qs) pieces)) p → EndCase depth splits qs pieces p

module _ (depth : ℕ) (qs : List Point) (pieces : List Piece) (p : Piece) where
  no_end : EndsAt (Protected qs pieces) p → ⊥
  no_end (inl e) = cc
  no_end (inr e) = cc

  at_grid : (r : Piece) → EndsAt (GridEnd r) p → r ≡ p
  at_grid r (inl e) = cc
  at_grid r (inr e) = absurd (cc)

  at_budget : (r : Piece) → EndsAt (BudgetEnd r) p → r ≡ p
  at_budget r (inl e) = absurd (cc)
  at_budget r (inr e) = cc

  differs : (i j : ℕ) → (i == j) ≡ false → i ≢ j
  differs i j e d = clash (i == j) (eq-eqb i j d) e
    where
      clash : (b : Bool) → b ≡ true → b ≡ false → ⊥
      clash b e f = cc

  case_of : (splits : ℕ) → EndsAt (protect depth splits qs pieces) p → EndCase depth splits qs pieces p
  case_of splits ends = go (first_missing qs pieces) refl
    where
      stopped : (r : Piece) → first_missing qs pieces ≡ Some r → r ≡ p → EndCase depth splits qs pieces p
      stopped r f e = stops_here (subst (λ x. IsMember x pieces) e (found_in _ pieces r f))

      go : (o : Option Piece) → first_missing qs pieces ≡ o → EndCase depth splits qs pieces p
      go None f = absurd (no_end (subst (λ x. EndsAt x p) (end_done depth splits qs pieces f) ends))
      go (Some r) f = by (r.halvings == depth) refl
        where
          more : (n : ℕ) → splits ≡ n → r.halvings ≢ depth → EndCase depth splits qs pieces p
          more zero z d = stopped r f (at_budget r (subst (λ x. EndsAt x p) (end_budget depth splits qs pieces r z f d) ends))
          more (suc n) z d =
              let one : splits ≡ n + 1 = omega arith in
              goes_on r n one (found_in _ pieces r f) (end_budget depth 0 qs pieces r refl f d) (λ k. end_split depth (k + 1) k qs pieces r refl f d)
              (subst (λ x. EndsAt x p) (end_split depth splits n qs pieces r one f d) ends)

          by : (b : Bool) → (r.halvings == depth) ≡ b → EndCase depth splits qs pieces p
          by true d = stopped r f (at_grid r (subst (λ x. EndsAt x p) (end_grid depth splits qs pieces r f (eqb-true r.halvings depth d)) ends))
          by false d = more splits refl (differs r.halvings depth d)

module _ (depth : ℕ) (ps : List Point) (first : List Piece) (p : Piece) where
  -- from points and subsegments at which protection arrives
  made_from : (splits added : ℕ) (qs : List Point) (now : List Piece) → length qs ≡ length ps + added → ((n : ℕ) → protect depth (added + n) ps first ≡ protect depth n qs now)
      → AreMade depth added ps first now → EndsAt (protect depth splits qs now) p → IsMade depth (added + splits) ps first p
  made_from zero added qs now long same made ends = go (case_of depth qs now p 0 ends)
    where
      go : EndCase depth 0 qs now p → IsMade depth (added + 0) ps first p
      go (stops_here p_in) = later depth added ps first 0 p (made p p_in)
      go (goes_on r left one r_in ended next rest) = absurd (omega arith)
  made_from (suc n) added qs now long same made ends = go (case_of depth qs now p (suc n) ends) (made_from n)
    where
      go : EndCase depth (suc n) qs now p
          → ((more : ℕ) (us : List Point) (halves : List Piece) → length us ≡ length ps + more → ((k : ℕ) → protect depth (more + k) ps first ≡ protect depth k us halves)
          → AreMade depth more ps first halves → EndsAt (protect depth n us halves) p → IsMade depth (more + n) ps first p)
          → IsMade depth (added + suc n) ps first p
      go (stops_here p_in) rest = later depth added ps first (suc n) p (made p p_in)
      go (goes_on r left one r_in ended next after) rest =
          let count : (added + 1) + n ≡ added + suc n = omega arith in
          let e : left ≡ n = omega arith in
          let last = same 0 ∙ ended in
          let now_ended : protect depth added ps first ≡ BudgetEnd r = subst (λ k. protect depth k ps first ≡ BudgetEnd r) zero_more last in
          subst (λ k. IsMade depth k ps first p) count
          (rest (added + 1) (with_midpoint qs r) (with_halves r (length qs) now) (one_longer (length_push qs (midpoint (point qs r.a) (point qs r.b))))
          (λ k. ap (λ m. protect depth m ps first) (one_more k) ∙ same (k + 1) ∙ next k) (halves_made depth added ps first now r (length qs) made r_in long now_ended)
          (subst (λ k. EndsAt (protect depth k (with_midpoint qs r) (with_halves r (length qs) now)) p) e after))
        where
          zero_more : added + 0 ≡ added
          zero_more = omega arith

          one_more : (k : ℕ) → (added + 1) + k ≡ added + (k + 1)
          one_more k = omega arith

          one_longer : length (with_midpoint qs r) ≡ length qs + 1 → length (with_midpoint qs r) ≡ length ps + (added + 1)
          one_longer e = omega arith

  pub made_at : (splits : ℕ) → AreMade depth 0 ps first first → EndsAt (protect depth splits ps first) p → IsMade depth splits ps first p
  made_at splits made ends =
      subst (λ n. IsMade depth n ps first p) none (made_from splits 0 ps first zero_more (λ n. ap (λ m. protect depth m ps first) zero_first) made ends)
    where
      none : 0 + splits ≡ splits
      none = omega arith

      zero_more : length ps ≡ length ps + 0
      zero_more = omega arith

      zero_first : {n : ℕ} → 0 + n ≡ n
      zero_first {n} = omega arith

-- ---- what protection begins with

-- the parts of a member of zipped lists are members
zip_cases : {X Y : Type 0} (xs : List X) (ys : List Y) (e : X × Y) → IsMember e (zip xs ys) → IsMember e.0 xs × IsMember e.1 ys
zip_cases [] ys e m = elim m [ ]
zip_cases (x ∷ xs) [] e m = elim m [ ]
zip_cases {X} {Y} (x ∷ xs) (y ∷ ys) e m = go (in_cons e (x, y) (zip xs ys) m) (zip_cases xs ys e)
  where
    go : (e ≡ (x, y)) ⊎ IsMember e (zip xs ys) → (IsMember e (zip xs ys) → IsMember e.0 xs × IsMember e.1 ys) → IsMember e.0 (x ∷ xs) × IsMember e.1 (y ∷ ys)
    go (inl d) rest = (in_head e.0 x xs (ap (λ (p : X × Y). p.0) d), in_head e.1 y ys (ap (λ (p : X × Y). p.1) d))
    go (inr k) rest = let r = rest k in (there r.0, there r.1)

tail_in : {X : Type 0} (xs : List X) (x : X) → IsMember x (drop 1 xs) → IsMember x xs
tail_in [] x m = m
tail_in (y ∷ xs) x m = there m

stop_below : (ps : List Point) (s : Piece) (i : ℕ) → IsMember i (stops ps s) → i < length ps
stop_below ps s i m =
    let on = λ (i : ℕ). is_on_segment (point ps s.a) (point ps s.b) (point ps i) in
    let key = λ (i : ℕ). along (point ps s.a) (point ps s.b) (point ps i) in
    let f = filter_cases on i (numbers_below (length ps)) (from_sorted key i (filter on (numbers_below (length ps))) m) in
    let r = range_bounds 0 (length ps) i f.0 in
    let l = r.1 in
    omega arith

-- the pieces of segments are whole
pub pieces_made : (depth : ℕ) (ps : List Point) (first segments : List Piece) → AreMade depth 0 ps first (pieces ps segments)
pieces_made depth ps first segments q m =
    let c = flat_map_cases (cut ps) q segments (from_first q (flat_map (cut ps) segments) m) in
    let e = map_cases (λ (e : ℕ × ℕ). piece e.0 e.1 0) q (zip (stops ps c.0) (drop 1 (stops ps c.0))) c.2 in
    let z = zip_cases (stops ps c.0) (drop 1 (stops ps c.0)) e.0 e.1 in
    subst (IsMade depth 0 ps first) (sym e.2) (whole e.0.0 e.0.1 (stop_below ps c.0 e.0.0 z.0) (stop_below ps c.0 e.0.1 (tail_in (stops ps c.0) e.0.1 z.1)))
  where
    whole : (a b : ℕ) → a < length ps → b < length ps → IsMade depth 0 ps first (piece a b 0)
    whole a b h k = record { a_below = omega arith; b_below = omega arith; half = inl refl }

-- The subsegment at which protection of the pieces of segments ends, where it was halved, is a half of the one at which
-- protection ends that adds fewer points
pub half_at : (depth splits : ℕ) (ps : List Point) (segments : List Piece) (p : Piece) → EndsAt (protect depth splits ps (pieces ps segments)) p → p.halvings ≢ 0
    → IsHalf depth splits ps (pieces ps segments) p
half_at depth splits ps segments p ends halved = go (made_at depth ps (pieces ps segments) p splits (pieces_made depth ps (pieces ps segments) segments) ends).half
  where
    go : (p.halvings ≡ 0) ⊎ IsHalf depth splits ps (pieces ps segments) p → IsHalf depth splits ps (pieces ps segments) p
    go (inl z) = absurd (halved z)
    go (inr h) = h
