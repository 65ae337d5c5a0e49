-- How the faces of a star over the same edge are linked.
use Rattle.std.proofs.Common.{◌≡◌, ◌≢◌, ℕ, ◌+◌, ◌<◌, ◌≤◌, List, length, get_or, set, Option, None, refl, sym, ap, ◌∙◌, inl, inr, arith}
use Rattle.std.proofs.lemmas.Bool.{cases_eq}
use Rattle.std.proofs.lemmas.List.{get_or_default, get_or-set_same, get_or-set_other, length-set}
use Rattle.mesh_arena.specs.declared.slot.Corner.{Corner}
use Rattle.mesh_arena.specs.declared.slot.Corner.TheVariants.{Ghost}
use Rattle.mesh_arena.specs.declared.arena.SlotFace.{SlotFace}
use Rattle.mesh_arena.specs.declared.edge.Edge.{Edge}
use Rattle.mesh_arena.specs.declared.slot.RimFace.{RimFace}
use Rattle.mesh_arena.specs.declared.star.StarSlot.{StarSlot}
use Rattle.mesh_arena.specs.Mesh.{SlotValue, corner_in, corner, link_behind, at, SameFace, IsArenaMesh, Links}
use Rattle.mesh_arena.specs.Cells.{cell_corners}
use Rattle.mesh_arena.specs.Star.{behind, behind_rim}
use Rattle.mesh_arena.specs.StarLinks.{AreFourPlaces, IsStar, LinksStar, IsOverEdge, AreOverEdges}
use Rattle.mesh_arena.specs.Surgery.{no_slot, star_at, AddsStar, StandsOver, AreOverRim}
use Rattle.mesh_arena.specs.Edges.{edge_between, Table, IsEdgeMet, AddsOnly}
use Rattle.mesh_arena.proofs.Mesh.{same_corner}
use Rattle.mesh_arena.proofs.EdgeEnds.{same_ends}
use Rattle.mesh_arena.proofs.Pairs.{SameFace-three, LinksStar-mates}

-- the places of a slot in another order
pub turned : (k f a b : ℕ) → AreFourPlaces k f a b → AreFourPlaces k f b a
turned k f a b p = record { k4 = p.k4; f4 = p.f4; a4 = p.b4; b4 = p.a4; fk = p.fk; ak = p.bk; bk = p.ak; fa = p.fb; fb = p.fa; ab = λ e. p.ab (sym e) }

-- the face opposite the place a
pub opposite : (f a b c : ℕ) → AreFourPlaces f a b c → AreFourPlaces a f b c
opposite f a b c p = record { k4 = p.f4; f4 = p.k4; a4 = p.a4; b4 = p.b4; fk = λ e. p.fk (sym e); ak = λ e. p.fa (sym e); bk = λ e. p.fb (sym e); fa = λ e. p.ak (sym e); fb = λ e. p.bk (sym e); ab = p.ab }

pub first_last : (f a b c : ℕ) → AreFourPlaces f a b c → AreFourPlaces f b a c
first_last f a b c p = record { k4 = p.k4; f4 = p.a4; a4 = p.f4; b4 = p.b4; fk = p.ak; ak = p.fk; bk = p.bk; fa = λ e. p.fa (sym e); fb = p.ab; ab = p.fb }

-- links keep what stands over the rim
module _ (old new : List (Option SlotValue)) (rim : List RimFace) (p : Corner) (n : ℕ) (star : IsStar old rim p) (links : LinksStar old new rim p n) where
  kept : (t : ℕ) → t < length rim → behind_rim new rim t ≡ behind_rim old rim t
  kept t lt = ap behind (links.sides _ _ (λ q qlt e. star.outside q t qlt lt e))

  pub StandsOver-along : (r : ℕ) (s : StarSlot) → r < length rim → StandsOver old rim r s → StandsOver new rim r s
  StandsOver-along r s lt over =
      record {
        slot = over.slot ∙ ap (λ (b : SlotFace). b.slot) (sym (kept r lt));
        face = over.face ∙ ap (λ (b : SlotFace). b.face) (sym (kept r lt));
        corners = links.corners s.slot ∙ over.corners;
      }

  IsOverEdge-along : (e : Edge) (s : SlotFace) → IsOverEdge old rim p e s → IsOverEdge new rim p e s
  IsOverEdge-along e s o =
      let at_s = same_corner old new links.corners s.slot in
      let both : edge_between (corner new s.slot o.first) (corner new s.slot o.second) ≡ edge_between (corner old s.slot o.first) (corner old s.slot o.second) = rw (at_s o.first, at_s o.second) refl in
      record {
        over = o.over;
        inside = o.inside;
        slot = o.slot ∙ ap (λ (b : SlotFace). b.slot) (sym (kept o.over o.inside));
        apex = o.apex;
        first = o.first;
        second = o.second;
        places = o.places;
        point = at_s o.apex ∙ o.point;
        ends = both ∙ o.ends;
      }

  pub AreOverEdges-along : (table : Table) → AreOverEdges old rim p table → AreOverEdges new rim p table
  AreOverEdges-along table over e s met = IsOverEdge-along e s (over e s met)

pub AreOverEdges-met : (slots : List (Option SlotValue)) (rim : List RimFace) (p : Corner) (old new : Table) (e : Edge) (s : SlotFace) → AddsOnly (IsEdgeMet old) (IsEdgeMet new) e s → IsOverEdge slots rim p e s → AreOverEdges slots rim p old → AreOverEdges slots rim p new
AreOverEdges-met slots rim p old new e s only here before e2 s2 met =
    elim (only e2 s2 met) [
      | inl was ↦ before e2 s2 was
      | inr is ↦ rw (is.0, is.1) here
    ]

-- a face of the slot over the face r
pub IsOverEdge-face : (slots : List (Option SlotValue)) (rim : List RimFace) (p : Corner) → IsStar slots rim p → (r : ℕ) (s : StarSlot) (k a b : ℕ) (e : Edge) → r < length rim → StandsOver slots rim r s → AreFourPlaces k s.face a b → e ≡ edge_between (get_or (cell_corners s.cell) a Ghost) (get_or (cell_corners s.cell) b Ghost) → IsOverEdge slots rim p e (at s.slot k)
IsOverEdge-face slots rim p star r s k a b e lt over places is =
    let corners = cell_corners s.cell in
    let at_s : (m : ℕ) → corner slots s.slot m ≡ get_or corners m Ghost = λ m. ap (λ (o : Option (List Corner)). corner_in o m) over.corners in
    record {
      over = r;
      inside = lt;
      slot = over.slot;
      apex = s.face;
      first = a;
      second = b;
      places = places;
      point = ap (λ n. corner slots n s.face) over.slot ∙ ap (corner slots (behind_rim slots rim r).slot) over.face ∙ star.apex r lt;
      ends = ap (λ (x : Corner). edge_between x (corner slots s.slot b)) (at_s a) ∙ ap (edge_between (get_or corners a Ghost)) (at_s b) ∙ sym is;
    }

module _ (slots : List (Option SlotValue)) (rim : List RimFace) (p : Corner) (mesh : IsArenaMesh slots) (star : IsStar slots rim p) where
  -- faces over the same edge have the same corners
  pub over_same : (e : Edge) (s t : SlotFace) → IsOverEdge slots rim p e s → IsOverEdge slots rim p e t → SameFace slots s.slot s.face t.slot t.face
  over_same e s t a b =
      let apex : corner slots s.slot a.apex ≡ corner slots t.slot b.apex = a.point ∙ sym b.point in
      elim (same_ends _ _ _ _ (a.ends ∙ sym b.ends)) [
        | inl level ↦ SameFace-three slots s.slot s.face a.apex a.first a.second t.slot t.face b.apex b.first b.second a.places b.places apex level.0 level.1
        | inr across ↦ SameFace-three slots s.slot s.face a.apex a.first a.second t.slot t.face b.apex b.second b.first a.places (turned _ _ _ _ b.places) apex across.0 across.1
      ]

  pub LinksStar-over : (new : List (Option SlotValue)) (e : Edge) (s t : SlotFace) → IsOverEdge slots rim p e s → IsOverEdge slots rim p e t → s.slot ≢ t.slot → link_behind slots t.slot t.face ≡ None → Links slots new s.slot s.face t.slot t.face → LinksStar slots new rim p 0
  LinksStar-over new e s t a b differ free links =
      LinksStar-mates slots new rim p a.over s.face b.over t.face s.slot t.slot mesh star a.inside b.inside
      (λ same. differ (a.slot ∙ ap (λ n. (behind_rim slots rim n).slot) (sym same) ∙ sym b.slot))
      b.places.k4 a.slot b.slot free (over_same e s t a b) links

-- the slot that a list has over a face of the rim
pub star_read : (star : List StarSlot) (r : ℕ) (s : StarSlot) → r < length star → s ≡ get_or star r s → star_at star r ≡ s
star_read star r s lt is = get_or_default star r no_slot s lt ∙ sym is

abbrev pub placed : StarSlot → ℕ → StarSlot
placed s slot = record s { slot = slot }

-- the first n slots of a star have their places
pub record ArePlaced (slots : List (Option SlotValue)) (rim : List RimFace) (old new : List StarSlot) (n : ℕ) : Type 0 where
  pub len : length new ≡ length old
  pub made : (q : ℕ) → q < n → star_at new q ≡ placed (star_at old q) (behind_rim slots rim q).slot
  pub rest : (q : ℕ) → n ≤ q → star_at new q ≡ star_at old q

pub ArePlaced-step : (was now : List (Option SlotValue)) (rim : List RimFace) (old mid : List StarSlot) (n made : ℕ) (s : StarSlot) → n < length old → s ≡ star_at mid n → ArePlaced was rim old mid n → ((q : ℕ) → q < n → behind_rim now rim q ≡ behind_rim was rim q) → (behind_rim now rim n).slot ≡ made → ArePlaced now rim old (set mid n (placed s made)) (n + 1)
ArePlaced-step was now rim old mid n made s lt read before kept is =
    let new = set mid n (placed s made) in
    let len = before.len in
    let here : star_at new n ≡ placed s made = get_or-set_same mid n (placed s made) no_slot (omega arith) in
    let other : (q : ℕ) → q ≢ n → star_at new q ≡ star_at mid q = λ q differ. get_or-set_other mid n q (placed s made) no_slot differ in
    record {
      len = length-set mid n (placed s made) ∙ before.len;
      made = λ q h. elim (cases_eq q n) [
        | inl same ↦ rw same (here ∙ ap (λ (x : StarSlot). placed x made) (read ∙ before.rest n (omega arith)) ∙ ap (placed (star_at old n)) (sym is))
        | inr differ ↦ other q differ ∙ before.made q (omega arith) ∙ ap (λ (b : SlotFace). placed (star_at old q) b.slot) (sym (kept q (omega arith)))
      ];
      rest = λ q h. other q (λ e. omega arith) ∙ before.rest q (omega arith);
    }

pub AreOverRim-placed : (first slots : List (Option SlotValue)) (rim : List RimFace) (old new : List StarSlot) → AddsStar first slots rim old (length rim) → ArePlaced slots rim old new (length rim) → AreOverRim slots rim new
AreOverRim-placed first slots rim old new adds placed r lt =
    let o = adds.over r lt in
    let is = placed.made r lt in
    let face : (behind_rim slots rim r).face ≡ (star_at old r).face = ap (λ (b : SlotFace). b.face) (ap behind o.is) in
    rw is (record { slot = refl; face = sym face; corners = o.corners })
