-- A list of points with one more.
use Rattle.std.proofs.Common.{◌≡◌, ◌≢◌, ◌⊎◌, inl, inr, ℕ, ◌+◌, ◌-◌, ◌<◌, List, [], ◌∷◌, ◌++◌, length, Option, refl, sym, ap, subst, ◌∙◌, arith}
use Rattle.std.specs.Prelude.{Contains}
use Rattle.std.proofs.lemmas.Bool.{cases_order}
use Rattle.std.proofs.lemmas.List.{get_or_append_left, get_or_push, length_push}
use Rattle.sign_predicates.specs.Point.{Point, origin}
use Rattle.geo_laws.specs.Delaunay.{point, all_numbers, HasDistinctPoints}
use Rattle.geo_laws.proofs.Corners.{contains_below, below_of}
use Rattle.mesh_arena.specs.Mesh.{SlotValue, corners_at, IsLive}
use Rattle.mesh_laws.specs.LowestLiving.{IsLowestMesh}
use Rattle.mesh_laws.specs.LowestRule as lowest
use Rattle.mesh_laws.specs.Rule.{IsTaken}
use Rattle.mesh_laws.specs.Living.{IsDelaunayMesh}
use Rattle.geo_laws.specs.Height.{lifted}
use Rattle.mesh_laws.proofs.ReplacedLists.{law_same_mesh, law_longer_list}
use Rattle.mesh_laws.proofs.Bridge as bridge
use Rattle.cavity_insert.specs.Insert.{IsReadyFor}
use Rattle.cavity_insert.specs.Living.{IsLonger}
use Rattle.cavity_insert.proofs.Building.{in_cons}

module _ (others : List Point) (last : Point) where
  abbrev longer : List Point
  longer = others ++ last ∷ []

  pub count : length longer ≡ length others + 1
  count = length_push others last

  pub point_before : (i : ℕ) → i < length others → point longer i ≡ point others i
  point_before i h = get_or_append_left others (last ∷ []) origin i h

  pub point_last : point longer (length others) ≡ last
  point_last = get_or_push others last origin (length others) refl

  -- the points before are meshed, and the last one is new
  pub longer_ready : (slots : List (Option SlotValue)) → IsDelaunayMesh slots others (all_numbers others) → IsReadyFor (lifted longer) slots longer (all_numbers others) (length others)
  longer_ready slots mesh = record {
    mesh = bridge.mesh_of slots longer (all_numbers others) (law_longer_list slots others (all_numbers others) last mesh);
    is_new = record {
      within = λ i c. omega (arith, below_of (length others) i c, count);
      on = omega (arith, count);
      is_new = λ c. omega (arith, below_of (length others) (length others) c);
    };
  }

  pub all_longer : (slots : List (Option SlotValue)) → IsDelaunayMesh slots longer (length others ∷ all_numbers others) → IsDelaunayMesh slots longer (all_numbers longer)
  all_longer slots mesh = law_same_mesh slots longer (length others ∷ all_numbers others) (all_numbers longer) mesh (λ i. (λ c. to i ((in_cons (length others) (all_numbers others) i).0 c), λ c. (in_cons (length others) (all_numbers others) i).1 (from i (cases_order i (length others)) (below_of (length longer) i c))))
    where
      to : (i : ℕ) → (length others ≡ i) ⊎ Contains (all_numbers others) i → Contains (all_numbers longer) i
      to i (inl e) = contains_below (length longer) i (omega (arith, e, count))
      to i (inr c) = contains_below (length longer) i (omega (arith, below_of (length others) i c, count))

      from : (i : ℕ) → (i ≡ length others) ⊎ ((i < length others) ⊎ (length others < i)) → i < length longer → (length others ≡ i) ⊎ Contains (all_numbers others) i
      from i (inl e) l = inl (sym e)
      from i (inr (inl k)) l = inr (contains_below (length others) i k)
      from i (inr (inr k)) l = absurd (omega (arith, k, l, count))

-- the same for a list that is one with one more
pub ready_of : (slots : List (Option SlotValue)) (ps : List Point) (number : ℕ) (l : IsLonger slots ps number) → IsReadyFor (lifted ps) slots ps (all_numbers l.others) number
ready_of slots ps number l =
    subst (λ xs. IsReadyFor (lifted xs) slots xs (all_numbers l.others) number) (sym l.is)
    (subst (IsReadyFor (lifted (l.others ++ l.last ∷ [])) slots (l.others ++ l.last ∷ []) (all_numbers l.others)) (sym l.number_is) (longer_ready l.others l.last slots l.mesh))

pub mesh_of : (slots new : List (Option SlotValue)) (ps : List Point) (number : ℕ) (l : IsLonger slots ps number) → IsLowestMesh (lifted ps) new ps (number ∷ all_numbers l.others) → IsDelaunayMesh new ps (all_numbers ps)
mesh_of slots new ps number l lowest =
    let mesh : IsDelaunayMesh new ps (number ∷ all_numbers l.others) = bridge.mesh_from new ps (number ∷ all_numbers l.others) lowest in
    subst (λ xs. IsDelaunayMesh new xs (all_numbers xs)) (sym l.is)
    (all_longer l.others l.last new (subst (λ n. IsDelaunayMesh new (l.others ++ l.last ∷ []) (n ∷ all_numbers l.others)) l.number_is (subst (λ xs. IsDelaunayMesh new xs (number ∷ all_numbers l.others)) l.is mesh)))

-- and what the last point takes it takes by the heights too
pub takes_of : (slots : List (Option SlotValue)) (ps : List Point) (number u : ℕ) → IsLonger slots ps number → lowest.IsLowestTaken (lifted ps) slots ps number u → IsTaken slots ps (point ps number) number u
takes_of slots ps number u l =
    let ready = ready_of slots ps number l in
    bridge.taken_from slots ps (all_numbers l.others) number (bridge.mesh_from slots ps (all_numbers l.others) ready.mesh) ready.is_new u

-- the list after a push is one with one more
pub longer_of : (slots : List (Option SlotValue)) (before ps : List Point) (p : Point) → ps ≡ before ++ p ∷ [] → IsDelaunayMesh slots before (all_numbers before) → ((i : ℕ) → i < length before → point before i ≢ p)
    → IsLonger slots ps (length ps - 1)
longer_of slots before ps p e mesh apart = record { others = before; last = p; is = e; number_is = omega (arith, ap length e, length_push before p); mesh = mesh; apart = apart }

-- what stays, told of the last point itself
pub stays_of : (slots new : List (Option SlotValue)) (before ps : List Point) (p : Point) (n : ℕ) → ps ≡ before ++ p ∷ [] → n ≡ length before
    → ((u : ℕ) → IsLive slots u → (IsTaken slots ps (point ps n) n u → ⊥) → corners_at new u ≡ corners_at slots u)
    → (u : ℕ) → IsLive slots u → (IsTaken slots ps p n u → ⊥) → corners_at new u ≡ corners_at slots u
stays_of slots new before ps p n e m stay u live not =
    let is : point ps n ≡ p = ap (λ xs. point xs n) e ∙ ap (point (before ++ p ∷ [])) m ∙ point_last before p in
    stay u live (λ taken. not (subst (λ q. IsTaken slots ps q n u) is taken))

-- distinct points with one more that is none of them
pub distinct_more : (before ps : List Point) (p : Point) → HasDistinctPoints before → ((i : ℕ) → i < length before → point before i ≢ p) → ps ≡ before ++ p ∷ [] → HasDistinctPoints ps
distinct_more before ps p distinct apart is = subst HasDistinctPoints (sym is) all
  where
    last_or : (j n : ℕ) → j < n + 1 → (j < n) ⊎ (j ≡ n)
    last_or j n h = grind arith

    all : HasDistinctPoints (before ++ p ∷ [])
    all i j h k e = let l = count before p in go (last_or j (length before) (omega arith))
      where
        go : (j < length before) ⊎ (j ≡ length before) → ⊥
        go (inl l) = distinct i j h l (sym (point_before before p i (omega arith)) ∙ e ∙ point_before before p j l)
        go (inr d) = apart i (omega arith) (sym (point_before before p i (omega arith)) ∙ e ∙ ap (point (before ++ p ∷ [])) d ∙ point_last before p)
