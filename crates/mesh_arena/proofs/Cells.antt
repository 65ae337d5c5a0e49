-- How each change of the cells keeps the count and the list of free cells.
use Rattle.std.proofs.Common.{◌≡◌, ◌≢◌, ◌⊎◌, ℕ, zero, suc, ◌+◌, ◌-◌, ◌<◌, ◌≤◌, Bool, true, false, List, [], ◌∷◌, ◌++◌, map, length, get_or, set, Option, Some, None, is_some, IsSome, count_by, cond, slice_get, option_map, refl, sym, ap, subst, ◌∙◌, inl, inr, arith, length-set, true≢false}
use Rattle.std.proofs.lemmas.List.{map-set, map_push, length-map, length_push, get_or-map, get_or-set_same, get_or-set_other, get_or_past}
use Rattle.std.proofs.lemmas.List.Sums.{sum_by-set, sum_by_push, sum_by-cons}
use Rattle.std.proofs.lemmas.Option.{slice_get_within, slice_get-get_or, get_or_from_slice_get}
use Rattle.mesh_arena.specs.declared.cell.Cell.{Cell}
use Rattle.mesh_arena.specs.Mesh.{SlotValue, tet_at, corners_at, link_behind, at, SameFace, IsShaped, IsArenaMesh, Links, Takes, AllDiffer, tet_with}
use Rattle.mesh_arena.specs.declared.arena.SlotFace.{SlotFace}
use Rattle.mesh_arena.specs.declared.slot.Corner.{Corner}
use Rattle.mesh_arena.proofs.Mesh.{Writes, Writes-set, Links-writes, IsMesh-links, side_live, lone, Puts, Puts-set, Puts-push, Takes-puts, IsMesh-takes}
use Rattle.mesh_arena.specs.Cells.{cell_corners, sides_in, live_in, tet_in, tet_of, IsUnlinked, next_of, IsFreeList, most_cells, IsCounted, AreSoundCells}

-- the count of a cell
abbrev one_if : Bool → ℕ
one_if b = cond b 1 0

pub tet_of-live : (c : Cell) → live_in c ≡ true → tet_of c ≡ Some (tet_in c)
tet_of-live c h = rw h refl

pub tet_of-free : (c : Cell) → live_in c ≡ false → tet_of c ≡ None
tet_of-free c h = rw h refl

is_some-tet_of : (c : Cell) → is_some (tet_of c) ≡ live_in c
is_some-tet_of c = by_flag (live_in c) refl
  where
    by_flag : (b : Bool) → live_in c ≡ b → is_some (tet_of c) ≡ live_in c
    by_flag true h = rw h refl
    by_flag false h = rw h refl

-- a place starts one list of free cells at most
pub IsFreeList-unique : (cells : List Cell) (m n at : ℕ) → IsFreeList cells m at → IsFreeList cells n at → m ≡ n
IsFreeList-unique cells zero zero at p q = refl
IsFreeList-unique cells zero (suc n) at p q = absurd (omega (arith, slice_get_within cells at _ q.1))
IsFreeList-unique cells (suc m) zero at p q = absurd (omega (arith, slice_get_within cells at _ p.1))
IsFreeList-unique cells (suc m) (suc n) at p q =
    let first = p.1 in
    let second = q.1 in
    let same : q.0 ≡ p.0 = cc in
    ap suc (IsFreeList-unique cells m n (next_of p.0) p.3 (subst (λ (c : Cell). IsFreeList cells n (next_of c)) same q.3))

-- a write at a place that is not on the list keeps the list
pub IsFreeList-set : (cells : List Cell) (at : ℕ) (e : Cell) (n from : ℕ) → ((m : ℕ) → m < n → IsFreeList cells (suc m) at → ⊥) → IsFreeList cells n from → IsFreeList (set cells at e) n from
IsFreeList-set cells at e zero from off p = p ∙ sym (length-set cells at e)
IsFreeList-set cells at e (suc n) from off p =
    let other : from ≢ at = λ same. off n (omega arith) (subst (IsFreeList cells (suc n)) same p) in
    let within = slice_get_within cells from _ p.1 in
    let kept : slice_get (set cells at e) from ≡ Some p.0 =
    slice_get-get_or (set cells at e) from e (omega (arith, length-set cells at e))
    ∙ ap Some (get_or-set_other cells at from e e other ∙ get_or_from_slice_get cells from _ e p.1) in
    (p.0, kept, p.2, IsFreeList-set cells at e n (next_of p.0) (λ m below. off m (omega arith)) p.3)

-- a live cell is on no list of free cells
pub live_is_off_list : (cells : List Cell) (at : ℕ) (c : Cell) → slice_get cells at ≡ Some c → live_in c ≡ true → (m : ℕ) → IsFreeList cells (suc m) at → ⊥
live_is_off_list cells at c found live m p =
    let listed = p.1 in
    let same : p.0 ≡ c = cc in
    true≢false (sym live ∙ ap live_in (sym same) ∙ p.2)

-- the count of live cells after a write
count-set : (cells : List Cell) (at : ℕ) (old new : Cell) → slice_get cells at ≡ Some old → count_by is_some (map tet_of (set cells at new)) + one_if (live_in old) ≡ count_by is_some (map tet_of cells) + one_if (live_in new)
count-set cells at old new found =
    let within = slice_get_within cells at old found in
    let read : get_or (map tet_of cells) at None ≡ tet_of old =
    get_or-map tet_of cells at old None within ∙ ap tet_of (get_or_from_slice_get cells at old old found) in
    let counted = sum_by-set (λ (o : Option SlotValue). cond (is_some o) 1 0) (map tet_of cells) at (tet_of new) None (omega (arith, length-map cells tet_of)) in
    let was : one_if (is_some (get_or (map tet_of cells) at None)) ≡ one_if (live_in old) = ap (λ (o : Option SlotValue). one_if (is_some o)) read ∙ ap one_if (is_some-tet_of old) in
    let is : one_if (is_some (tet_of new)) ≡ one_if (live_in new) = ap one_if (is_some-tet_of new) in
    let moved : count_by is_some (map tet_of (set cells at new)) ≡ count_by is_some (set (map tet_of cells) at (tet_of new)) = ap (count_by is_some) (map-set tet_of cells at new) in
    omega (arith, counted, was, is, moved)

-- a live cell is rewritten
pub IsCounted-rewrite : (cells : List Cell) (live next at : ℕ) (old new : Cell) → IsCounted cells live next → slice_get cells at ≡ Some old → live_in old ≡ true → live_in new ≡ true → IsCounted (set cells at new) live next
IsCounted-rewrite cells live next at old new sound found was is =
    let count = count-set cells at old new found in
    let before = ap one_if was in
    let after = ap one_if is in
    record {
      counted = omega (arith, sound.counted);
      free = sound.free;
      total = omega (arith, sound.total, length-set cells at new);
      linked = IsFreeList-set cells at new sound.free next (λ m _. live_is_off_list cells at old found was m) sound.linked;
    }

-- the next cell is the end of full cells, or a free cell
pub next_cases : (cells : List Cell) (live next : ℕ) → IsCounted cells live next → ((next ≡ length cells) × (live ≡ length cells)) ⊎ ((c : Cell) × (slice_get cells next ≡ Some c) × (live_in c ≡ false))
next_cases cells live next sound = by_count sound.free sound.total sound.linked
  where
    by_count : (n : ℕ) → live + n ≡ length cells → IsFreeList cells n next → ((next ≡ length cells) × (live ≡ length cells)) ⊎ ((c : Cell) × (slice_get cells next ≡ Some c) × (live_in c ≡ false))
    by_count zero total linked = inl (linked, omega arith)
    by_count (suc n) total linked = inr (linked.0, linked.1, linked.2)

pub full_at_end : (cells : List Cell) (live next : ℕ) → IsCounted cells live next → next ≡ length cells → live ≡ length cells
full_at_end cells live next sound at_end =
    elim (next_cases cells live next sound) [
      | inl full ↦ full.1
      | inr found ↦ omega (arith, slice_get_within cells next _ found.1)
    ]

-- the next cell is no further than the end
pub next_within : (cells : List Cell) (live next : ℕ) → IsCounted cells live next → next ≤ length cells
next_within cells live next sound =
    elim (next_cases cells live next sound) [
      | inl full ↦ omega (arith, full.0)
      | inr found ↦ omega (arith, slice_get_within cells next _ found.1)
    ]

-- before the end of the cells the next cell is a free one
pub free_before_end : (cells : List Cell) (live next : ℕ) → IsCounted cells live next → next ≢ length cells → (c : Cell) × (slice_get cells next ≡ Some c) × (live_in c ≡ false)
free_before_end cells live next sound before =
    elim (next_cases cells live next sound) [ inl full ↦ absurd (before full.0) | inr found ↦ found ]

pub IsCounted-push : (cells : List Cell) (live next : ℕ) (new : Cell) → IsCounted cells live next → next ≡ length cells → live_in new ≡ true → IsCounted (cells ++ new ∷ []) (live + 1) (next + 1)
IsCounted-push cells live next new sound at_end is =
    let full = full_at_end cells live next sound at_end in
    let longer = length_push cells new in
    let pushed = sum_by_push (λ (o : Option SlotValue). cond (is_some o) 1 0) (map tet_of cells) (tet_of new) in
    let one : one_if (is_some (tet_of new)) ≡ 1 = ap one_if (is_some-tet_of new ∙ is) in
    record {
      counted = omega (arith, sound.counted, pushed, one, ap (count_by is_some) (map_push tet_of cells new));
      free = 0;
      total = omega arith;
      linked = omega arith;
    }

-- the first free cell leaves the list: the rest of the list is shorter, so it does not come back to it
pub IsCounted-fill : (cells : List Cell) (live next : ℕ) (old new : Cell) → IsCounted cells live next → slice_get cells next ≡ Some old → live_in new ≡ true → IsCounted (set cells next new) (live + 1) (next_of old)
IsCounted-fill cells live next old new sound found is = by_count sound.free sound.total sound.linked
  where
    by_count : (n : ℕ) → live + n ≡ length cells → IsFreeList cells n next → IsCounted (set cells next new) (live + 1) (next_of old)
    by_count zero total linked = absurd (omega (arith, slice_get_within cells next _ found))
    by_count (suc n) total linked =
        let listed = linked.1 in
        let same : linked.0 ≡ old = cc in
        let off : (m : ℕ) → m < n → IsFreeList cells (suc m) next → ⊥ =
        λ m below p. omega (arith, IsFreeList-unique cells (suc m) (suc n) next p linked) in
        let was : live_in old ≡ false = ap live_in (sym same) ∙ linked.2 in
        let before = ap one_if was in
        let after = ap one_if is in
        record {
          counted = omega (arith, sound.counted, count-set cells next old new found);
          free = n;
          total = omega (arith, length-set cells next new);
          linked = IsFreeList-set cells next new n (next_of old) off (subst (λ (c : Cell). IsFreeList cells n (next_of c)) same linked.3);
        }

pub IsCounted-vacate : (cells : List Cell) (live next at : ℕ) (old new : Cell) → IsCounted cells live next → slice_get cells at ≡ Some old → live_in old ≡ true → live_in new ≡ false → next_of new ≡ next → IsCounted (set cells at new) (live - 1) at
IsCounted-vacate cells live next at old new sound found was is links =
    let within = slice_get_within cells at _ found in
    let count = count-set cells at old new found in
    let before = ap one_if was in
    let after = ap one_if is in
    let written : slice_get (set cells at new) at ≡ Some new =
    slice_get-get_or _ at new (omega (arith, length-set cells at new))
    ∙ ap Some (get_or-set_same cells at new new within) in
    let rest : IsFreeList (set cells at new) sound.free next = IsFreeList-set cells at new sound.free next (λ m _. live_is_off_list cells at old found was m) sound.linked in
    record {
      counted = omega (arith, sound.counted);
      free = suc sound.free;
      total = omega (arith, sound.counted, sound.total, length-set cells at new);
      linked = (new, written, is, subst (IsFreeList (set cells at new) sound.free) (sym links) rest);
    }

-- a live place is one of the cells
pub live_within : (cells : List Cell) (s : ℕ) → IsSome (corners_at (map tet_of cells) s) → s < length cells
live_within cells s live = omega (arith, within (map tet_of cells) s live, length-map cells tet_of)
  where
    within : (slots : List (Option SlotValue)) (s : ℕ) → IsSome (corners_at slots s) → s < length slots
    within slots s live = grind (arith, get_or_past)

-- what a live place reads, from the list of slots and from the cells
pub live_cell : (cells : List Cell) (s : ℕ) (d c : Cell) → IsSome (corners_at (map tet_of cells) s) → c ≡ get_or cells s d → (s < length cells) × (slice_get cells s ≡ Some c) × (live_in c ≡ true) × (tet_at (map tet_of cells) s ≡ Some (tet_in c))
live_cell cells s d c live read =
    let lt : s < length cells = live_within cells s live in
    let got : tet_at (map tet_of cells) s ≡ tet_of c = get_or-map tet_of cells s d None lt ∙ ap tet_of (sym read) in
    let flag : live_in c ≡ true = by_flag (live_in c) refl got in
    (lt, slice_get-get_or cells s d lt ∙ ap Some (sym read), flag, got ∙ tet_of-live c flag)
  where
    by_flag : (b : Bool) → live_in c ≡ b → tet_at (map tet_of cells) s ≡ tet_of c → live_in c ≡ true
    by_flag true e got = e
    by_flag false e got =
        let gone : tet_at (map tet_of cells) s ≡ None = got ∙ tet_of-free c e in
        absurd (true≢false (sym (subst (λ (o : Option SlotValue). IsSome (option_map (λ (t : SlotValue). t.corners) o)) gone live)))

-- the cell has another side, and else stays
pub record Resided (c new : Cell) (i : ℕ) (b : Option SlotFace) : Type 0 where
  pub tet : tet_in new ≡ tet_with (tet_in c) i b
  pub live : live_in new ≡ live_in c

-- a side of a cell is rewritten
pub Wrote-cell : (cells : List Cell) (s i : ℕ) (c new : Cell) (b : Option SlotFace) → IsShaped (map tet_of cells) → IsSome (corners_at (map tet_of cells) s) → i < 4 → c ≡ get_or cells s c → Resided c new i b → Writes (map tet_of cells) (map tet_of (set cells s new)) s i b
Wrote-cell cells s i c new b shaped is_live face read resided =
    let found = live_cell cells s c c is_live read in
    let is : live_in new ≡ true = resided.live ∙ found.2 in
    let written : map tet_of (set cells s new) ≡ set (map tet_of cells) s (Some (tet_with (tet_in c) i b)) =
    map-set tet_of cells s new ∙ ap (set (map tet_of cells) s) (tet_of-live new is ∙ ap Some resided.tet) in
    rw written (Writes-set (map tet_of cells) s i (tet_in c) b shaped found.3 face)

pub record Wrote (cells : List Cell) (live next : ℕ) (s i : ℕ) (new : Cell) (b : Option SlotFace) : Type 0 where
  pub counted : IsCounted (set cells s new) live next
  pub writes : Writes (map tet_of cells) (map tet_of (set cells s new)) s i b

pub Wrote-set : (cells : List Cell) (live next s i : ℕ) (c new : Cell) (b : Option SlotFace) → IsCounted cells live next → IsShaped (map tet_of cells) → IsSome (corners_at (map tet_of cells) s) → i < 4 → c ≡ get_or cells s c → Resided c new i b → Wrote cells live next s i new b
Wrote-set cells live next s i c new b counted shaped is_live face read resided =
    let found = live_cell cells s c c is_live read in
    record {
      counted = IsCounted-rewrite cells live next s c new counted found.1 found.2 (resided.live ∙ found.2);
      writes = Wrote-cell cells s i c new b shaped is_live face read resided;
    }

pub record Linked (cells new : List Cell) (live next s i t j : ℕ) : Type 0 where
  pub sound : AreSoundCells new live next
  pub links : Links (map tet_of cells) (map tet_of new) s i t j

pub Linked-writes : (cells : List Cell) (live next s i t j : ℕ) (one two one2 two2 : Cell) → AreSoundCells cells live next → IsSome (corners_at (map tet_of cells) s) → IsSome (corners_at (map tet_of cells) t) → i < 4 → j < 4 → s ≢ t → SameFace (map tet_of cells) s i t j → link_behind (map tet_of cells) s i ≡ None → link_behind (map tet_of cells) t j ≡ None → one ≡ get_or cells s one → Resided one one2 i (Some (at t j)) → two ≡ get_or (set cells s one2) t two → Resided two two2 j (Some (at s i)) → Linked cells (set (set cells s one2) t two2) live next s i t j
Linked-writes cells live next s i t j one two one2 two2 sound live_s live_t hi hj differ faces free_s free_t read resided read2 resided2 =
    let w1 = Wrote-set cells live next s i one one2 (Some (at t j)) sound.counted sound.mesh.shaped live_s hi read resided in
    let w2 = Wrote-set _ live next t j two two2 (Some (at s i)) w1.counted w1.writes.shaped (subst IsSome (sym (w1.writes.corners t)) live_t) hj read2 resided2 in
    let links = Links-writes _ _ _ s i t j differ w1.writes w2.writes in
    record {
      sound = record { counted = w2.counted; small = omega (arith, sound.small, length-set cells s one2, length-set (set cells s one2) t two2); mesh = IsMesh-links _ _ s i t j sound.mesh w2.writes.shaped differ faces free_s free_t links };
      links = links;
    }

-- a side as it is read from a cell
pub side_read : (cells : List Cell) (s i : ℕ) (c : Cell) → IsSome (corners_at (map tet_of cells) s) → c ≡ get_or cells s c → get_or (sides_in c.links) i None ≡ link_behind (map tet_of cells) s i
side_read cells s i c live read = rw (live_cell cells s c c live read).3 refl

-- what has a side, as a cell
pub live_from_side : (slots : List (Option SlotValue)) (s i : ℕ) → IsShaped slots → IsSome (link_behind slots s i) → IsSome (corners_at slots s) × (i < 4)
live_from_side slots s i shaped some = by_side (link_behind slots s i) refl some
  where
    by_side : (o : Option SlotFace) → link_behind slots s i ≡ o → IsSome o → IsSome (corners_at slots s) × (i < 4)
    by_side None is some = absurd (true≢false (sym some))
    by_side (Some b) is some = side_live slots s i b shaped is

tet_of-bare : (c : Cell) → IsUnlinked c → tet_of c ≡ Some (lone (cell_corners c))
tet_of-bare c bare = tet_of-live c bare.live ∙ ap (λ (sides : List (Option SlotFace)). Some (record { corners = cell_corners c; sides = sides })) bare.sides

pub record Took (cells new : List Cell) (live next s : ℕ) (cs : List Corner) : Type 0 where
  pub sound : AreSoundCells new live next
  pub takes : Takes (map tet_of cells) (map tet_of new) s cs

count_le : (xs : List (Option SlotValue)) → count_by is_some xs ≤ length xs
count_le [] = omega arith
count_le (None ∷ xs) = omega (arith, count_le xs, sum_by-cons (λ (o : Option SlotValue). one_if (is_some o)) None xs)
count_le (Some t ∷ xs) = omega (arith, count_le xs, sum_by-cons (λ (o : Option SlotValue). one_if (is_some o)) (Some t) xs)

-- where all are counted, each is there
all_some : (xs : List (Option SlotValue)) (u : ℕ) → count_by is_some xs ≡ length xs → u < length xs → IsSome (get_or xs u None)
all_some [] u full lt = absurd (omega arith)
all_some (None ∷ xs) u full lt = absurd (omega (arith, count_le xs, sum_by-cons (λ (o : Option SlotValue). one_if (is_some o)) None xs))
all_some (Some t ∷ xs) zero full lt = refl
all_some (Some t ∷ xs) (suc u) full lt = all_some xs u (omega (arith, sum_by-cons (λ (o : Option SlotValue). one_if (is_some o)) (Some t) xs)) (omega arith)

some_tet : (o : Option SlotValue) → IsSome o → option_map (λ (t : SlotValue). t.corners) o ≡ None → ⊥
some_tet None some e = true≢false (sym some)
some_tet (Some t) some e = cc

pub Took-push : (cells : List Cell) (live next : ℕ) (new : Cell) → AreSoundCells cells live next → next ≡ length cells → length cells < most_cells → AllDiffer (cell_corners new) → IsUnlinked new → Took cells (cells ++ new ∷ []) (live + 1) (next + 1) next (cell_corners new)
Took-push cells live next new sound at_end room differ bare =
    let cs = cell_corners new in
    let end : next ≡ length (map tet_of cells) = omega (arith, length-map cells tet_of) in
    let puts : Puts (map tet_of cells) (map tet_of (cells ++ new ∷ [])) next (Some (lone cs)) =
    rw (map_push tet_of cells new, tet_of-bare new bare, end) (Puts-push (map tet_of cells) (Some (lone cs))) in
    let longer = length_push cells new in
    let full = full_at_end cells live next sound.counted at_end in
    let all : (u : ℕ) → u < length (map tet_of cells) → corners_at (map tet_of cells) u ≡ None → next < length (map tet_of cells) = λ u lt free. absurd (none_free cells live next u sound.counted full (omega (arith, length-map cells tet_of)) free) in
    let takes = Takes-puts _ _ next cs puts (rw end (get_or_past (map tet_of cells) (length (map tet_of cells)) None (omega arith))) all (λ lt. absurd (omega arith)) (λ le. (end, omega (arith, length-map cells tet_of, length-map (cells ++ new ∷ []) tet_of))) in
    record {
      sound = record { counted = IsCounted-push cells live next new sound.counted at_end bare.live; small = omega (arith, length_push cells new); mesh = IsMesh-takes _ _ next cs sound.mesh puts bare.corners differ takes };
      takes = takes;
    }
  where
    none_free : (cells : List Cell) (live next u : ℕ) → IsCounted cells live next → live ≡ length cells → u < length cells → corners_at (map tet_of cells) u ≡ None → ⊥
    none_free cells live next u counted full lt free =
        let some = all_some (map tet_of cells) u (omega (arith, counted.counted, length-map cells tet_of)) (omega (arith, length-map cells tet_of)) in
        absurd (some_tet (tet_at (map tet_of cells) u) some free)

pub Took-fill : (cells : List Cell) (live next : ℕ) (old new : Cell) → AreSoundCells cells live next → next ≢ length cells → old ≡ get_or cells next old → AllDiffer (cell_corners new) → IsUnlinked new → Took cells (set cells next new) (live + 1) (next_of old) next (cell_corners new)
Took-fill cells live next old new sound before read differ bare =
    let cs = cell_corners new in
    let free = free_before_end cells live next sound.counted before in
    let within : next < length cells = slice_get_within cells next _ free.1 in
    let found : slice_get cells next ≡ Some old = slice_get-get_or cells next old within ∙ ap Some (sym read) in
    let same : free.0 ≡ old = let h = free.1 in cc in
    let dead : live_in old ≡ false = ap live_in (sym same) ∙ free.2 in
    let inside : next < length (map tet_of cells) = omega (arith, length-map cells tet_of) in
    let puts : Puts (map tet_of cells) (map tet_of (set cells next new)) next (Some (lone cs)) =
    rw (map-set tet_of cells next new, tet_of-bare new bare) (Puts-set (map tet_of cells) next (Some (lone cs)) inside) in
    let was : tet_at (map tet_of cells) next ≡ None = get_or-map tet_of cells next old None within ∙ ap tet_of (sym read) ∙ tet_of-free old dead in
    let takes = Takes-puts _ _ next cs puts was (λ u lt e. inside) (λ lt. omega (arith, length-map cells tet_of, length-map (set cells next new) tet_of, length-set cells next new)) (λ le. absurd (omega arith)) in
    record {
      sound = record { counted = IsCounted-fill cells live next old new sound.counted found bare.live; small = omega (arith, sound.small, length-set cells next new); mesh = IsMesh-takes _ _ next cs sound.mesh puts bare.corners differ takes };
      takes = takes;
    }

-- the neighbor of a live slot is live
pub next_live : (cells : List Cell) (s i : ℕ) (c : Cell) (two : SlotFace) → IsArenaMesh (map tet_of cells) → IsSome (corners_at (map tet_of cells) s) → i < 4 → c ≡ get_or cells s c → get_or (sides_in c.links) i None ≡ Some two → IsSome (corners_at (map tet_of cells) two.slot) × (two.face < 4)
next_live cells s i c two mesh live face read found =
    let was : link_behind (map tet_of cells) s i ≡ Some two = sym (side_read cells s i c live read) ∙ found in
    side_live (map tet_of cells) two.slot two.face (at s i) mesh.shaped (mesh.back s i two was)
