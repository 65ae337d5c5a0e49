-- Numbers put in at the rows to which floods come, region by region.
use Rattle.std.proofs.Common.{◌≡◌, ◌≢◌, ◌⊎◌, inl, inr, ℕ, ◌+◌, ◌<◌, ◌≤◌, pos, ◌<ℤ◌, Bool, true, false, Option, Some, None, List, [], length, refl, ap, sym, subst, ◌∙◌, arith}
use Rattle.std.specs.Prelude.{◌↔◌, All}
use Rattle.sign_predicates.specs.Point.{Point, RationalPoint, origin, as_rational}
use Rattle.geo_laws.specs.declared.faces.Face.{Face}
use Rattle.geo_laws.specs.declared.tetrahedra.Tet.{Tet}
use Rattle.geo_laws.specs.declared.complex.FacetTriangle.{FacetTriangle}
use Rattle.geo_laws.specs.declared.complex.Region.{Region}
use Rattle.geo_laws.proofs.Corners.{same_or_not}
use Rattle.incidence.specs.declared.pairs.Across.{Across}
use Rattle.hole_carve.specs.Flooding.{queue_at, IsFlooded, IsFloodedFrom, IsQueued, Extends}
use Rattle.hole_carve.specs.declared.flood.Flood.{Flood}
use Rattle.hole_carve.specs.Floods.{IsFlood, GoesOn, IsFloodDone, HasReached}
use Rattle.hole_carve.specs.Seeds.{IsSeedAt}
use Rattle.hole_carve.specs.Marks.{mark_at, region_point, IsInRegion, IsFirstOf, AreRegionMarks, AreNumbered, AreRegionSeeds, IsPutFrom}
use Rattle.hole_carve.proofs.Flooding.{flooded_more, flooded_by_some, queue_place}
use Rattle.hole_carve.proofs.Reached.{Setting}
use Rattle.hole_carve.proofs.Carved.{reached_joined}
use Rattle.geo_laws.specs.Delaunay.{row_at}
use Rattle.geo_laws.specs.Marks.{is_marked}

-- ---- the first number

marked_or_not : (b : Bool) → (b ≡ true) ⊎ (b ≡ false)
marked_or_not true = inl refl
marked_or_not false = inr refl

never_both : (b : Bool) → b ≡ true → b ≡ false → ⊥
never_both b h k = cc

order : (a b : ℕ) → (a < b) ⊎ (b ≤ a)
order a b = grind arith

-- none of no numbers
first_of_none : (P : ℕ → Type 0) (m : Option ℕ) → m ≡ None → IsFirstOf P 0 m
first_of_none P m e = subst (IsFirstOf P 0) (sym e) (λ j h. absurd (omega arith))

-- where there is none, no number is so
none_before : (P : ℕ → Type 0) (n : ℕ) (m : Option ℕ) → IsFirstOf P n m → m ≡ None → (j : ℕ) → j < n → ¬ P j
none_before P n m f e = subst (IsFirstOf P n) e f

-- one number more that is not so, or comes after the first
first_kept : (P : ℕ → Type 0) (n : ℕ) (m : Option ℕ) → IsFirstOf P n m → (m ≡ None → ¬ P n) → IsFirstOf P (n + 1) m
first_kept P n (Some k) f g = (let h = f.0 in omega arith, f.1, f.2)
first_kept P n None f g = λ j h. past j h (order j n)
  where
    past : (j : ℕ) → j < n + 1 → (j < n) ⊎ (n ≤ j) → ¬ P j
    past j h (inl l) = f j l
    past j h (inr l) = λ p. g refl (subst P (let e : j ≡ n = omega arith in e) p)

-- the same where the property is told otherwise
pub first_as : (P Q : ℕ → Type 0) (n : ℕ) → ((k : ℕ) → k < n → P k ↔ Q k) → (m : Option ℕ) → IsFirstOf P n m → IsFirstOf Q n m
first_as P Q n same None f = λ j h q. f j h ((same j h).1 q)
first_as P Q n same (Some k) f = (f.0, (same k f.0).0 f.1, λ j h q. let l = f.0 in f.2 j h ((same j (omega arith)).1 q))

-- ---- numbers put in along a queue

pub put_none : (queue : List ℕ) (from number : ℕ) (marks : List (Option ℕ)) → IsPutFrom queue from from number marks marks
put_none queue from number marks = record { long = refl; put = λ q a b h. absurd (omega arith); rest = λ i h. refl }

pub put_next : (queue : List ℕ) (from at number place : ℕ) (old marks new : List (Option ℕ)) → queue_at queue at ≡ place → from ≤ at → IsPutFrom queue from at number old marks
    → length new ≡ length marks → (place < length marks → mark_at new place ≡ Some number) → ((i : ℕ) → i ≢ place → mark_at new i ≡ mark_at marks i)
    → IsPutFrom queue from (at + 1) number old new
put_next queue from at number place old marks new e l was long here others = record {
  long = long ∙ was.long;
  put = λ q a b h. at_place q a b h (same_or_not (queue_at queue q) place);
  rest = λ i h. others i (λ d. h at l (omega arith) (e ∙ sym d)) ∙ was.rest i (λ q a b. h q a (omega arith));
}
  where
    at_place : (q : ℕ) → from ≤ q → q < at + 1 → queue_at queue q < length old → (queue_at queue q ≡ place) ⊎ (queue_at queue q ≢ place) → mark_at new (queue_at queue q) ≡ Some number
    at_place q a b h (inl d) = ap (mark_at new) d ∙ here (omega (arith, d, h, was.long))
    at_place q a b h (inr n) = others (queue_at queue q) n ∙ was.put q a (earlier (order q at)) h
      where
        earlier : (q < at) ⊎ (at ≤ q) → q < at
        earlier (inl k) = k
        earlier (inr k) = absurd (n (ap (queue_at queue) (let d : q ≡ at = omega arith in d) ∙ e))

-- ---- the seeds of region points

pub region_seeds_none : (ps : List Point) (closed : List Face) (rows : List Tet) (regions : List Region) (seeds : List Bool) → ((i : ℕ) → is_marked seeds i ≡ false) → AreRegionSeeds ps closed rows regions 0 seeds
region_seeds_none ps closed rows regions seeds clear i = (λ m. absurd (never_both (is_marked seeds i) m (clear i)), λ (k, h, s). absurd (omega arith))

pub region_seeds_next : (ps : List Point) (closed : List Face) (rows : List Tet) (regions : List Region) (n : ℕ) (x : RationalPoint) (old new : List Bool) → region_point regions n ≡ x
    → AreRegionSeeds ps closed rows regions n old → ((i : ℕ) → (is_marked new i ≡ true) ↔ ((is_marked old i ≡ true) ⊎ IsSeedAt ps closed rows x i)) → AreRegionSeeds ps closed rows regions (n + 1) new
region_seeds_next ps closed rows regions n x old new e was now i = (λ m. there ((now i).0 m), λ (k, h, s). (now i).1 (back k h s (order k n)))
  where
    there : (is_marked old i ≡ true) ⊎ IsSeedAt ps closed rows x i → (k : ℕ) × (k < n + 1) × IsSeedAt ps closed rows (region_point regions k) i
    there (inl m) = let k = (was i).0 m in (k.0, let h = k.1 in omega arith, k.2)
    there (inr s) = (n, omega arith, subst (λ y. IsSeedAt ps closed rows y i) (sym e) s)

    back : (k : ℕ) → k < n + 1 → IsSeedAt ps closed rows (region_point regions k) i → (k < n) ⊎ (n ≤ k) → (is_marked old i ≡ true) ⊎ IsSeedAt ps closed rows x i
    back k h s (inl l) = inl ((was i).1 (k, l, s))
    back k h s (inr l) = inr (subst (λ y. IsSeedAt ps closed rows y i) (ap (region_point regions) (let d : k ≡ n = omega arith in d) ∙ e) s)

-- ---- the numbers of region points

pub numbered_none : (ps : List Point) (closed : List Face) (rows : List Tet) (ways : List Across) (regions : List Region) (marks : List (Option ℕ)) → ((i : ℕ) → mark_at marks i ≡ None)
    → AreNumbered ps closed rows ways regions 0 marks
numbered_none ps closed rows ways regions marks clear i h = first_of_none (λ k. IsFloodedFrom ways (IsSeedAt ps closed rows (region_point regions k)) i) (mark_at marks i) (clear i)

-- a flood as far as some region points tell: what is marked, and in the queue
pub record IsFloodedBy (ps : List Point) (closed : List Face) (rows : List Tet) (ways : List Across) (regions : List Region) (n : ℕ) (seeds reached : List Bool) (queue : List ℕ) : Type 0 where
  pub seeds_are : AreRegionSeeds ps closed rows regions n seeds
  pub exactly : (i : ℕ) → (is_marked reached i ≡ true) ↔ IsFlooded ways seeds i
  pub filled : IsQueued ways seeds reached queue

reached_by : (ps : List Point) (closed : List Face) (rows : List Tet) (ways : List Across) (regions : List Region) (n : ℕ) (seeds reached : List Bool) (queue : List ℕ) → IsFloodedBy ps closed rows ways regions n seeds reached queue
    → (i : ℕ) → is_marked reached i ≡ true → (k : ℕ) × (k < n) × IsFloodedFrom ways (IsSeedAt ps closed rows (region_point regions k)) i
reached_by ps closed rows ways regions n seeds reached queue f i m =
    flooded_by_some ways (λ j. is_marked seeds j ≡ true) (λ k. IsSeedAt ps closed rows (region_point regions k)) n (λ j. (f.seeds_are j).0) i ((f.exactly i).0 m)

reached_from : (ps : List Point) (closed : List Face) (rows : List Tet) (ways : List Across) (regions : List Region) (n : ℕ) (seeds reached : List Bool) (queue : List ℕ) → IsFloodedBy ps closed rows ways regions n seeds reached queue
    → (i k : ℕ) → k < n → IsFloodedFrom ways (IsSeedAt ps closed rows (region_point regions k)) i → is_marked reached i ≡ true
reached_from ps closed rows ways regions n seeds reached queue f i k h r =
    (f.exactly i).1 (flooded_more ways (IsSeedAt ps closed rows (region_point regions k)) (λ j. is_marked seeds j ≡ true) (λ j s. (f.seeds_are j).1 (k, h, s)) i r)

-- the flood goes on from one region point more: what it comes to now gets the number, and all else keeps its own
pub numbered_next : (ps : List Point) (closed : List Face) (rows : List Tet) (ways : List Across) (regions : List Region) (n : ℕ) (seeds seeds' reached reached' : List Bool) (queue queue' : List ℕ) (marks marks' : List (Option ℕ))
    → IsFloodedBy ps closed rows ways regions n seeds reached queue → IsFloodedBy ps closed rows ways regions (n + 1) seeds' reached' queue'
    → Extends reached queue reached' queue' → IsPutFrom queue' (length queue) (length queue') n marks marks' → length marks ≡ length rows
    → AreNumbered ps closed rows ways regions n marks → AreNumbered ps closed rows ways regions (n + 1) marks'
numbered_next ps closed rows ways regions n seeds seeds' reached reached' queue queue' marks marks' f f' grown put long was i h =
    go (marked_or_not (is_marked reached i)) (marked_or_not (is_marked reached' i))
  where
    P : ℕ → Type 0
    P k = IsFloodedFrom ways (IsSeedAt ps closed rows (region_point regions k)) i

    -- it keeps its mark
    kept : ((q : ℕ) → length queue ≤ q → q < length queue' → queue_at queue' q ≢ i) → (mark_at marks i ≡ None → ¬ P n) → IsFirstOf P (n + 1) (mark_at marks' i)
    kept past none = subst (IsFirstOf P (n + 1)) (sym (put.rest i past)) (first_kept P n (mark_at marks i) (was i h) none)

    -- where it was reached before
    in_old : is_marked reached i ≡ true → (q : ℕ) → length queue ≤ q → q < length queue' → queue_at queue' q ≢ i
    in_old m q a b e =
        let o = queue_place queue i (f.filled.listed i m) in
        f'.filled.once o.0 q (let l = o.1 in omega arith) b (grown.same o.0 o.1 ∙ o.2 ∙ sym e)

    not_in_new : is_marked reached' i ≡ false → (q : ℕ) → length queue ≤ q → q < length queue' → queue_at queue' q ≢ i
    not_in_new m q a b e = never_both (is_marked reached' i) (ap (is_marked reached') (sym e) ∙ f'.filled.marked q b) m

    first_now : is_marked reached i ≡ false → (k : ℕ) × (k < n + 1) × P k → (n < n + 1) × P n × ((j : ℕ) → j < n → ¬ P j)
    first_now m (k, l, r) = (omega arith, last (order k n), λ j b p. before j b p)
      where
        before : (j : ℕ) → j < n → P j → ⊥
        before j b p = never_both (is_marked reached i) (reached_from ps closed rows ways regions n seeds reached queue f i j b p) m

        last : (k < n) ⊎ (n ≤ k) → P n
        last (inl b) = absurd (before k b r)
        last (inr b) = subst P (let d : k ≡ n = omega arith in d) r

    put_now : is_marked reached i ≡ false → is_marked reached' i ≡ true → mark_at marks' i ≡ Some n
    put_now m m' = let o = queue_place queue' i (f'.filled.listed i m') in by o.0 o.1 o.2 (order o.0 (length queue))
      where
        by : (q : ℕ) → q < length queue' → queue_at queue' q ≡ i → (q < length queue) ⊎ (length queue ≤ q) → mark_at marks' i ≡ Some n
        by q b e (inl l) = absurd (never_both (is_marked reached i) (ap (is_marked reached) (sym e ∙ grown.same q l) ∙ f.filled.marked q l) m)
        by q b e (inr l) = ap (mark_at marks') (sym e) ∙ put.put q l b (omega (arith, e, h, long))

    go : (is_marked reached i ≡ true) ⊎ (is_marked reached i ≡ false) → (is_marked reached' i ≡ true) ⊎ (is_marked reached' i ≡ false) → IsFirstOf P (n + 1) (mark_at marks' i)
    go (inl m) any = kept (in_old m) (λ e p. let k = reached_by ps closed rows ways regions n seeds reached queue f i m in none_before P n (mark_at marks i) (was i h) e k.0 k.1 k.2)
    go (inr m) (inl m') = subst (IsFirstOf P (n + 1)) (sym (put_now m m')) (first_now m (reached_by ps closed rows ways regions (n + 1) seeds' reached' queue' f' i m'))
    go (inr m) (inr m') = kept (not_in_new m') (λ e p. never_both (is_marked reached' i) (reached_from ps closed rows ways regions (n + 1) seeds' reached' queue' f' i n (omega arith) p) m')

-- a flood that is over, and the numbers that were put in, as far as some region points tell
pub record IsNumberedBy (ps : List Point) (closed : List Face) (rows : List Tet) (ways : List Across) (regions : List Region) (n : ℕ) (seeds : List Bool) (flood : Flood) (marks : List (Option ℕ)) : Type 0 where
  pub seeds_long : length seeds ≡ length rows + 1
  pub seeds_are : AreRegionSeeds ps closed rows regions n seeds
  pub flood_is : IsFlood ways seeds flood
  pub exactly : HasReached flood (IsFlooded ways seeds)
  pub done : IsFloodDone ways flood
  pub long : length marks ≡ length rows
  pub numbered : AreNumbered ps closed rows ways regions n marks

-- one region point more
pub numbered_on : (ps : List Point) (closed : List Face) (rows : List Tet) (ways : List Across) (regions : List Region) (n : ℕ) (x : RationalPoint) (seeds seeds' : List Bool) (old new : Flood) (marks marks' : List (Option ℕ))
    → region_point regions n ≡ x → IsNumberedBy ps closed rows ways regions n seeds old marks → length seeds' ≡ length rows + 1
    → ((i : ℕ) → (is_marked seeds' i ≡ true) ↔ ((is_marked seeds i ≡ true) ⊎ IsSeedAt ps closed rows x i))
    → HasReached new (IsFlooded ways seeds') → GoesOn ways seeds' old new → IsFloodDone ways new → IsPutFrom new.queue.items (length old.queue.items) (length new.queue.items) n marks marks'
    → IsNumberedBy ps closed rows ways regions (n + 1) seeds' new marks'
numbered_on ps closed rows ways regions n x seeds seeds' old new marks marks' e was seeds_long marked exactly goes_on done put = record {
  seeds_long = seeds_long;
  seeds_are = seeds_are;
  flood_is = goes_on.flood;
  exactly = exactly;
  done = done;
  long = put.long ∙ was.long;
  numbered = numbered_next ps closed rows ways regions n seeds seeds' old.marks.items new.marks.items old.queue.items new.queue.items marks marks'
      (record { seeds_are = was.seeds_are; exactly = was.exactly; filled = was.flood_is.filled }) (record { seeds_are = seeds_are; exactly = exactly; filled = goes_on.flood.filled }) goes_on.grown put was.long was.numbered;
}
  where
    seeds_are : AreRegionSeeds ps closed rows regions (n + 1) seeds'
    seeds_are = region_seeds_next ps closed rows regions n x seeds seeds' e was.seeds_are marked

-- the numbers of all region points, by free paths
numbered_joined : (ps : List Point) (ts : List FacetTriangle) (rows : List Tet) (closed : List Face) (ways : List Across) (regions : List Region) (marks : List (Option ℕ))
    → Setting ps ts rows closed ways → All (λ r. pos 0 <ℤ r.at.w) regions → length marks ≡ length rows → AreNumbered ps closed rows ways regions (length regions) marks
    → AreRegionMarks ps ts rows regions marks
numbered_joined ps ts rows closed ways regions marks s ws long first = record {
  long = long;
  each = λ i h. first_as (λ k. IsFloodedFrom ways (IsSeedAt ps closed rows (region_point regions k)) i) (λ k. IsInRegion ps ts rows (region_point regions k) (row_at rows i)) (length regions)
      (λ k l. reached_joined ps ts rows closed ways (region_point regions k) s (ws k (record { at = as_rational origin; attribute = [] }) l) i h)
      (mark_at marks i) (first i h);
}

-- the same, where what is read has other names than what was made
pub numbered_joined_as : (ps : List Point) (ts : List FacetTriangle) (rows : List Tet) (closed : List Face) (ways ways' : List Across) (regions : List Region) (marks marks' : List (Option ℕ))
    → ways' ≡ ways → marks' ≡ marks → Setting ps ts rows closed ways → All (λ r. pos 0 <ℤ r.at.w) regions → length marks ≡ length rows
    → AreNumbered ps closed rows ways' regions (length regions) marks → AreRegionMarks ps ts rows regions marks'
numbered_joined_as ps ts rows closed ways ways' regions marks marks' ew em s ws long are =
    subst (AreRegionMarks ps ts rows regions) (sym em) (numbered_joined ps ts rows closed ways regions marks s ws long (subst (λ v. AreNumbered ps closed rows v regions (length regions) marks) ew are))
