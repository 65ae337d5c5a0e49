-- Marks and a queue that a flood fills.
use Rattle.std.proofs.Common.{◌≡◌, ◌≢◌, ◌⊎◌, inl, inr, ℕ, zero, suc, ◌+◌, ◌<◌, ◌≤◌, Bool, true, false, Some, None, List, [], ◌∷◌, length, refl, ap, sym, subst, ◌∙◌, arith}
use Rattle.std.specs.Prelude.{slice_index_or, Contains}
use Rattle.std.specs.List.{range_with_len}
use Rattle.geo_laws.proofs.Members.{IsMember, in_range, found_of}
use Rattle.path_laws.proofs.Room.{AllDiffer, none, more, no_room}
use Rattle.incidence.specs.declared.pairs.Across.{Across}
use Rattle.hole_carve.specs.Flooding.{way, IsWay, IsFlooded, IsFloodedFrom, begins, goes_on, comes_in, queue_at, IsQueued, Extends, IsClosedFrom}
use Rattle.incidence.specs.Pairs.{across_at}
use Rattle.geo_laws.specs.Marks.{is_marked}

pub extends_itself : (marks : List Bool) (queue : List ℕ) → Extends marks queue marks queue
extends_itself marks queue = record { long = refl; marked = λ v e. e; longer = omega arith; same = λ i l. refl }

pub extends_more : (m m' m'' : List Bool) (q q' q'' : List ℕ) → Extends m q m' q' → Extends m' q' m'' q'' → Extends m q m'' q''
extends_more m m' m'' q q' q'' a b = record {
  long = b.long ∙ a.long;
  marked = λ v e. b.marked v (a.marked v e);
  longer = (let h = a.longer in let k = b.longer in omega arith);
  same = λ i l. b.same i (let h = a.longer in omega arith) ∙ a.same i l;
}

-- ---- how long the queue gets

pub default_at : (s : List ℕ) (k d e : ℕ) → k < length s → slice_index_or s k d ≡ slice_index_or s k e
default_at [] k d e h = absurd (omega arith)
default_at (v ∷ s) zero d e h = refl
default_at (v ∷ s) (suc k) d e h = default_at s k d e (omega arith)

all_differ : (s : List ℕ) → ((i j : ℕ) → i < j → j < length s → queue_at s i ≢ queue_at s j) → AllDiffer s
all_differ [] h = none
all_differ (v ∷ s) h = more (λ m. let f = found_of s v m in let l = f.within in h 0 (suc f.place) (omega arith) (omega arith) (sym (f.is 0))) (all_differ s (λ i j l k. h (suc i) (suc j) (omega arith) (omega arith)))

range-length : (low n : ℕ) → length (range_with_len low n) ≡ n
range-length low zero = refl
range-length low (suc n) = let r = range-length (low + 1) n in omega arith

member_index : (s : List ℕ) (v : ℕ) → IsMember v s → (k : ℕ) × (k < length s) × (queue_at s k ≡ v)
member_index s v m = let f = found_of s v m in (f.place, f.within, f.is 0)

-- at most one for each mark
pub queue_short : (ways : List Across) (seeds marks : List Bool) (queue : List ℕ) → IsQueued ways seeds marks queue → length queue ≤ length marks
queue_short ways seeds marks queue f = go (order (length queue) (length marks))
  where
    order : (a b : ℕ) → (a ≤ b) ⊎ (b < a)
    order a b = grind arith

    go : (length queue ≤ length marks) ⊎ (length marks < length queue) → length queue ≤ length marks
    go (inl h) = h
    go (inr h) = absurd (no_room (range_with_len 0 (length marks)) queue (all_differ queue f.once)
        (λ v m. let k = member_index queue v m in in_range 0 (length marks) v (omega arith) (let w = f.within k.0 k.1 in let e = k.2 in omega arith))
        (let r = range-length 0 (length marks) in omega arith))

-- ---- the end of the flood

outside_none : (ways : List Across) (i : ℕ) → length ways ≤ i → across_at ways i ≡ record { n0 = None; n1 = None; n2 = None; n3 = None }
outside_none [] i h = refl
outside_none (x ∷ ways) zero h = absurd (omega arith)
outside_none (x ∷ ways) (suc i) h = outside_none ways i (omega arith)

none_way : (k j : ℕ) → k < 4 → way (record { n0 = None; n1 = None; n2 = None; n3 = None }) k ≡ Some j → ⊥
none_way zero j h e = cc
none_way (suc zero) j h e = cc
none_way (suc (suc zero)) j h e = cc
none_way (suc (suc (suc zero))) j h e = cc
none_way (suc (suc (suc (suc k)))) j h e = absurd (omega arith)

-- no way leads from past the rows
pub way_inside : (ways : List Across) (i j : ℕ) → IsWay ways i j → i < length ways
way_inside ways i j w = go (order i (length ways))
  where
    order : (a b : ℕ) → (a < b) ⊎ (b ≤ a)
    order a b = grind arith

    go : (i < length ways) ⊎ (length ways ≤ i) → i < length ways
    go (inl h) = h
    go (inr h) = absurd (none_way w.0 j w.1 (sym (ap (λ x. way x w.0) (outside_none ways i h)) ∙ w.2))

-- where each place in the queue is done, the marked places are those that the flood comes to
pub flooded_is : (ways : List Across) (seeds marks : List Bool) (queue : List ℕ) → IsQueued ways seeds marks queue → ((v : ℕ) → is_marked seeds v ≡ true → is_marked marks v ≡ true)
    → ((q : ℕ) → q < length queue → IsClosedFrom ways marks (queue_at queue q))
    → (i : ℕ) → IsFlooded ways seeds i → is_marked marks i ≡ true
flooded_is ways seeds marks queue f seeded done i (begins i' e) = seeded i e
flooded_is ways seeds marks queue f seeded done j (goes_on i j' r w) =
    let c = f.listed i (flooded_is ways seeds marks queue f seeded done i r) in
    let at : queue_at queue c.0 ≡ i = default_at queue c.0 0 i c.1 ∙ c.2 in
    (done c.0 c.1).row (subst (λ k. k < length ways) (sym at) (way_inside ways i j w)) j (subst (λ k. IsWay ways k j) (sym at) w)
flooded_is ways seeds marks queue f seeded done j (comes_in j' r w) =
    let c = f.listed (length ways) (flooded_is ways seeds marks queue f seeded done (length ways) r) in
    let at : queue_at queue c.0 ≡ length ways = default_at queue c.0 0 (length ways) c.1 ∙ c.2 in
    (done c.0 c.1).beyond (omega arith) j w

pub marked_is : (ways : List Across) (seeds marks : List Bool) (queue : List ℕ) → IsQueued ways seeds marks queue → (i : ℕ) → is_marked marks i ≡ true → IsFlooded ways seeds i
marked_is ways seeds marks queue f i e = let c = f.listed i e in subst (IsFlooded ways seeds) (default_at queue c.0 0 i c.1 ∙ c.2) (f.comes c.0 c.1)

-- what is done stays so where marks and queue only grow
pub done_still : (ways : List Across) (marks marks' : List Bool) (queue queue' : List ℕ) → Extends marks queue marks' queue' → (q : ℕ) → q < length queue → IsClosedFrom ways marks (queue_at queue q) → IsClosedFrom ways marks' (queue_at queue' q)
done_still ways marks marks' queue queue' e q l d = subst (IsClosedFrom ways marks') (sym (e.same q l)) (record {
  row = λ h j w. e.marked j (d.row h j w);
  beyond = λ h j w. e.marked j (d.beyond h j w);
})

-- what holds below a number and at it holds below the next
pub below_next : (P : ℕ → Type 0) (n : ℕ) → ((j : ℕ) → j < n → P j) → P n → (j : ℕ) → j < n + 1 → P j
below_next P n below at j l = go (order j n)
  where
    order : (a b : ℕ) → (a < b) ⊎ (b ≤ a)
    order a b = grind arith

    go : (j < n) ⊎ (n ≤ j) → P j
    go (inl h) = below j h
    go (inr h) = subst P (omega arith) at

-- a place that is marked is there
pub marked_inside : (marks : List Bool) (v : ℕ) → is_marked marks v ≡ true → v < length marks
marked_inside [] v e = absurd (never e)
  where
    never : false ≡ true → ⊥
    never e = cc
marked_inside (m ∷ marks) zero e = omega arith
marked_inside (m ∷ marks) (suc v) e = let h = marked_inside marks v e in omega arith

-- no flood where nothing is marked
pub no_flood : (ways : List Across) (seeds : List Bool) → ((i : ℕ) → is_marked seeds i ≡ false) → (i : ℕ) → IsFlooded ways seeds i → ⊥
no_flood ways seeds clear i (begins i' e) = never (is_marked seeds i) e (clear i)
  where
    never : (b : Bool) → b ≡ true → b ≡ false → ⊥
    never b h k = cc
no_flood ways seeds clear j (goes_on i j' r w) = no_flood ways seeds clear i r
no_flood ways seeds clear j (comes_in j' r w) = no_flood ways seeds clear (length ways) r

-- from more seeds the flood comes to more places
pub flooded_more : (ways : List Across) (seed seed' : ℕ → Type 0) → ((j : ℕ) → seed j → seed' j) → (i : ℕ) → IsFloodedFrom ways seed i → IsFloodedFrom ways seed' i
flooded_more ways seed seed' h i (begins i' e) = begins i (h i e)
flooded_more ways seed seed' h j (goes_on i j' r w) = goes_on i j (flooded_more ways seed seed' h i r) w
flooded_more ways seed seed' h j (comes_in j' r w) = comes_in j (flooded_more ways seed seed' h (length ways) r) w

-- and it comes from some of the seeds that it begins with
pub flooded_by_some : (ways : List Across) (seed : ℕ → Type 0) (from : ℕ → ℕ → Type 0) (n : ℕ) → ((j : ℕ) → seed j → (k : ℕ) × (k < n) × from k j)
    → (i : ℕ) → IsFloodedFrom ways seed i → (k : ℕ) × (k < n) × IsFloodedFrom ways (from k) i
flooded_by_some ways seed from n h i (begins i' e) = let k = h i e in (k.0, k.1, begins i k.2)
flooded_by_some ways seed from n h j (goes_on i j' r w) = let k = flooded_by_some ways seed from n h i r in (k.0, k.1, goes_on i j k.2 w)
flooded_by_some ways seed from n h j (comes_in j' r w) = let k = flooded_by_some ways seed from n h (length ways) r in (k.0, k.1, comes_in j k.2 w)

-- what is in the queue stays there where there are more seeds
pub filled_more : (ways : List Across) (seeds seeds' marks : List Bool) (queue : List ℕ) → ((j : ℕ) → is_marked seeds j ≡ true → is_marked seeds' j ≡ true) → IsQueued ways seeds marks queue → IsQueued ways seeds' marks queue
filled_more ways seeds seeds' marks queue h f = record {
  within = f.within;
  marked = f.marked;
  once = f.once;
  listed = f.listed;
  comes = λ i l. flooded_more ways (λ j. is_marked seeds j ≡ true) (λ j. is_marked seeds' j ≡ true) h (queue_at queue i) (f.comes i l);
}

-- nothing is in the queue where nothing is marked
pub filled_none : (ways : List Across) (seeds marks : List Bool) → ((i : ℕ) → is_marked marks i ≡ false) → IsQueued ways seeds marks []
filled_none ways seeds marks clear = record {
  within = λ i l. absurd (omega arith);
  marked = λ i l. absurd (omega arith);
  once = λ i j l k. absurd (omega arith);
  listed = λ v e. absurd (never (is_marked marks v) e (clear v));
  comes = λ i l. absurd (omega arith);
}
  where
    never : (b : Bool) → b ≡ true → b ≡ false → ⊥
    never b h k = cc

-- the place of what is listed
pub queue_place : (queue : List ℕ) (v : ℕ) → Contains queue v → (q : ℕ) × (q < length queue) × (queue_at queue q ≡ v)
queue_place queue v c = (c.0, c.1, default_at queue c.0 0 v c.1 ∙ c.2)

-- where each element is one value, that is read past the end too
pub one_value : {A : Type 0} (xs : List A) (d : A) → ((k : ℕ) → k < length xs → slice_index_or xs k d ≡ d) → (i : ℕ) → slice_index_or xs i d ≡ d
one_value [] d h i = refl
one_value (x ∷ xs) d h zero = h 0 (omega arith)
one_value (x ∷ xs) d h (suc i) = one_value xs d (λ k l. h (suc k) (omega arith)) i
