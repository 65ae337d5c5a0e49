-- Equal points, taken as one: a list that grows point by point, and what folding says of the points that are kept.
use Rattle.std.proofs.Common.{◌≡◌, ◌≢◌, ◌⊎◌, inl, inr, ℕ, zero, suc, ◌+◌, ◌<◌, ◌≤◌, length, map, take, List, [], ◌∷◌, ◌++◌, get_or, Option, Some, None, cond, refl, sym, ap, subst, ◌∙◌, arith}
use Rattle.std.specs.Prelude.{AllPairs, Contains}
use Rattle.std.specs.List.{range_with_len}
use Rattle.std.proofs.lemmas.Bool.{cases_lt, cases_order}
use Rattle.std.proofs.lemmas.List.{get_or_append_left, get_or_at, get_or-map, length_push, length-append, length-map, length-take-le, map-append, take_all, take_more}
use Rattle.std.proofs.lemmas.Grind.{same_number_lists}
use Rattle.std.proofs.lemmas.List.FromFn.{length-range_with_len}
use Rattle.std.proofs.lemmas.List.Quantifiers.{all_pairs_push}
use Rattle.sign_predicates.specs.Point.{Point, origin}
use Rattle.geo_laws.specs.Delaunay.{point, HasDistinctPoints}
use Rattle.geo_laws.proofs.Members.{IsMember, here, there, append_cases, in_append_left, in_append_right, in_cons, at_place, contains_of, member_of, found_of}
use Rattle.geo_laws.proofs.Ascending.{Rises, none, more, rises-same}
use Rattle.node_files.specs.Folding.{IsKeptPoint, IsFolded, names_with}
use Rattle.node_files.specs.declared.table.NodeTable.{NodeTable}
use Rattle.node_files.proofs.KnownPlaces.{Key, key, same_key, Knows, knows_none, knows_more, knows_again, unknown_new, known_equal}

-- ---- one more point

point_before : (qs : List Point) (p : Point) (i : ℕ) → i < length qs → point (qs ++ p ∷ []) i ≡ point qs i
point_before qs p i lt = get_or_append_left qs (p ∷ []) origin i lt

point_last : (qs : List Point) (p : Point) (i : ℕ) → length qs ≡ i → point (qs ++ p ∷ []) i ≡ p
point_last qs p i e = get_or_at qs p [] origin i e

kept_still : (qs : List Point) (p : Point) (i : ℕ) → IsKeptPoint qs i → IsKeptPoint (qs ++ p ∷ []) i
kept_still qs p i h =
    let lt = h.0 in
    (omega (arith, length_push qs p), λ j l e. h.1 j l (sym (point_before qs p j (omega arith)) ∙ e ∙ point_before qs p i lt))

kept_already : (qs : List Point) (p : Point) (i : ℕ) → i < length qs → IsKeptPoint (qs ++ p ∷ []) i → IsKeptPoint qs i
kept_already qs p i lt h = (lt, λ j l e. h.1 j l (point_before qs p j (omega arith) ∙ e ∙ sym (point_before qs p i lt)))

-- names are places in the list
pub name_below : (qs ps : List Point) (ns fs : List ℕ) → IsFolded qs ps ns fs → (n : ℕ) → IsMember n ns → n < length qs
name_below qs ps ns fs h n m = ((h.kept n).0 (contains_of ns n m)).0

points_still : (qs : List Point) (p : Point) (ns : List ℕ) → ((n : ℕ) → IsMember n ns → n < length qs) → map (point (qs ++ p ∷ [])) ns ≡ map (point qs) ns
points_still qs p [] below = refl
points_still qs p (n ∷ ns) below =
    let first = point_before qs p n (below n here) in
    let rest = points_still qs p ns (λ k m. below k (there m)) in
    λ t. first t ∷ rest t

-- where the place of the last point is known
equal_more : (qs ps : List Point) (fs : List ℕ) (p : Point) (v : ℕ) (ps' : List Point) → length fs ≡ length qs
    → ((i : ℕ) → i < length qs → (get_or fs i 0 < length ps') × (point ps' (get_or fs i 0) ≡ point qs i)) → v < length ps' → point ps' v ≡ p
    → (i : ℕ) → i < length (qs ++ p ∷ []) → (get_or (fs ++ v ∷ []) i 0 < length ps') × (point ps' (get_or (fs ++ v ∷ []) i 0) ≡ point (qs ++ p ∷ []) i)
equal_more qs ps fs p v ps' long old lt is i l = elim (cases_lt i (length qs)) [
  | inl before ↦
      let e = get_or_append_left fs (v ∷ []) 0 i (omega arith) in
      let h = old i before in
      subst (λ k. (k < length ps') × (point ps' k ≡ point (qs ++ p ∷ []) i)) (sym e) (h.0, h.1 ∙ sym (point_before qs p i before))
  | inr le ↦
      let at : length qs ≡ i = omega (arith, l, length_push qs p) in
      let e = get_or_at fs v [] 0 i (long ∙ at) in
      subst (λ k. (k < length ps') × (point ps' k ≡ point (qs ++ p ∷ []) i)) (sym e) (lt, is ∙ sym (point_last qs p i at))
]

-- a point that is equal to none before it
pub fold_new : (qs ps : List Point) (ns fs : List ℕ) (p : Point) → IsFolded qs ps ns fs → ((k : ℕ) → k < length ps → point ps k ≢ p)
    → IsFolded (qs ++ p ∷ []) (ps ++ p ∷ []) (ns ++ length qs ∷ []) (fs ++ length ps ∷ [])
fold_new qs ps ns fs p h new = record {
  ascending = all_pairs_push (λ i j. i < j) ns (length qs) h.ascending (λ k d l. name_below qs ps ns fs h (get_or ns k d) (at_place ns k d l));
  kept = λ i. (λ c. to i (append_cases i ns (length qs ∷ []) (member_of _ i c)), λ k. contains_of _ i (from i k));
  points_are =
      ap (λ (xs : List Point). xs ++ p ∷ []) (h.points_are ∙ sym (points_still qs p ns (name_below qs ps ns fs h)))
      ∙ ap (λ (x : Point). map (point (qs ++ p ∷ [])) ns ++ x ∷ []) (sym (point_last qs p (length qs) refl))
      ∙ sym (map-append (point (qs ++ p ∷ [])) ns (length qs ∷ []));
  as_many = omega (arith, length_push fs (length ps), length_push qs p, h.as_many);
  equal = equal_more qs ps fs p (length ps) (ps ++ p ∷ []) h.as_many
      (λ i l. let o = h.equal i l in let lt = o.0 in (omega (arith, length_push ps p), point_before ps p _ lt ∙ o.1)) (omega (arith, length_push ps p)) (point_last ps p (length ps) refl);
}
  where
    to : (i : ℕ) → IsMember i ns ⊎ IsMember i (length qs ∷ []) → IsKeptPoint (qs ++ p ∷ []) i
    to i (inl m) = kept_still qs p i ((h.kept i).0 (contains_of ns i m))
    to i (inr m) = last i (in_cons i (length qs) [] m)
      where
        last : (i : ℕ) → (i ≡ length qs) ⊎ IsMember i [] → IsKeptPoint (qs ++ p ∷ []) i
        last i (inl e) = (
          omega (arith, length_push qs p, e),
          λ j l same.
              let lt : j < length qs = omega (arith, l, e) in
              let o = h.equal j lt in
              new (get_or fs j 0) o.0 (o.1 ∙ sym (point_before qs p j lt) ∙ same ∙ point_last qs p i (sym e)),
        )
        last i (inr m) = elim m [ ]

    from : (i : ℕ) → IsKeptPoint (qs ++ p ∷ []) i → IsMember i (ns ++ length qs ∷ [])
    from i k = elim (cases_lt i (length qs)) [
      | inl lt ↦ in_append_left i ns (length qs ∷ []) (member_of ns i ((h.kept i).1 (kept_already qs p i lt k)))
      | inr le ↦
          let top = k.0 in
          let e : length qs ≡ i = omega (arith, top, length_push qs p) in
          in_append_right i ns (length qs ∷ []) (subst (λ n. IsMember i (n ∷ [])) (sym e) here)
    ]

-- a point that is equal to one before it
pub fold_again : (qs ps : List Point) (ns fs : List ℕ) (p : Point) (v : ℕ) → IsFolded qs ps ns fs → v < length ps → point ps v ≡ p → IsFolded (qs ++ p ∷ []) ps ns (fs ++ v ∷ [])
fold_again qs ps ns fs p v h lt is = record {
  ascending = h.ascending;
  kept = λ i. (λ c. kept_still qs p i ((h.kept i).0 c), from i);
  points_are = h.points_are ∙ sym (points_still qs p ns (name_below qs ps ns fs h));
  as_many = omega (arith, length_push fs v, length_push qs p, h.as_many);
  equal = equal_more qs ps fs p v ps h.as_many h.equal lt is;
}
  where
    -- its equal stands at an earlier place of the list
    place : (n : ℕ) × (n < length qs) × (point qs n ≡ p)
    place =
        let n = get_or ns v 0 in
        let long : length ps ≡ length ns = ap (λ (xs : List Point). length xs) h.points_are ∙ length-map ns (point qs) in (
          n,
          name_below qs ps ns fs h n (at_place ns v 0 (omega arith)),
          sym (get_or-map (point qs) ns v 0 origin (omega arith)) ∙ ap (λ (xs : List Point). point xs v) (sym h.points_are) ∙ is,
        )

    from : (i : ℕ) → IsKeptPoint (qs ++ p ∷ []) i → Contains ns i
    from i k = elim (cases_lt i (length qs)) [
      | inl less ↦ (h.kept i).1 (kept_already qs p i less k)
      | inr le ↦
          let top = k.0 in
          let e : length qs ≡ i = omega (arith, top, length_push qs p) in
          let n = place.0 in
          let below = place.1 in
          absurd (k.1 n (omega arith) (point_before qs p n below ∙ place.2 ∙ sym (point_last qs p i e)))
    ]

pub fold_none : IsFolded [] [] [] []
fold_none = record {
  ascending = λ i j d l k. absurd (omega (arith, k));
  kept = λ i. (λ c. absurd (omega (arith, c.1)), λ k. absurd (omega (arith, k.0)));
  points_are = refl;
  as_many = refl;
  equal = λ i l. absurd (omega (arith, l));
}

-- the list up to a place, and the point there
pub taken : (qs : List Point) (i : ℕ) (p : Point) → i < length qs → point qs i ≡ p → take (i + 1) qs ≡ take i qs ++ p ∷ []
taken qs i p lt is = take_more qs i origin lt ∙ ap (λ (x : Point). take i qs ++ x ∷ []) is

-- ---- as a loop goes over the list

-- the points before a place are folded, and known by their coordinates
pub record IsFoldedTo (look : Key → Option ℕ) (listed : List Point) (i : ℕ) (ps : List Point) (ns fs : List ℕ) : Type 0 where
  pub knows : Knows look ps
  pub folded : IsFolded (take i listed) ps ns fs
  pub few : length ps ≤ i

pub to_none : (look : Key → Option ℕ) (listed : List Point) → ((q : Key) → look q ≡ None) → IsFoldedTo look listed 0 [] [] []
to_none look listed empty = record { knows = knows_none look empty; folded = fold_none; few = omega arith }

-- one point more, that is new
pub to_new : (look look' : Key → Option ℕ) (listed ps ps' : List Point) (ns ns' fs fs' : List ℕ) (i n : ℕ) (p : Point) → IsFoldedTo look listed i ps ns fs → i < length listed → point listed i ≡ p → n ≡ length ps
    → look (key p) ≡ None → ((q : Key) → look' q ≡ cond (same_key (key p) q) (Some n) (look q)) → ps' ≡ ps ++ p ∷ [] → ns' ≡ ns ++ i ∷ [] → fs' ≡ fs ++ n ∷ []
    → IsFoldedTo look' listed (i + 1) ps' ns' fs'
to_new look look' listed ps ps' ns ns' fs fs' i n p h lt is count unknown updates points names folded =
    let qs = take i listed in
    let long : length qs ≡ i = length-take-le i listed (omega arith) in
    let made = fold_new qs ps ns fs p h.folded (unknown_new look ps p h.knows unknown) in
    let few = h.few in record {
      knows = subst (Knows look') (sym points) (knows_more look look' ps p h.knows unknown (λ q. updates q ∙ ap (λ (m : ℕ). cond (same_key (key p) q) (Some m) (look q)) count));
      folded = subst (λ xs. IsFolded xs ps' ns' fs') (sym (taken listed i p lt is))
          (subst (λ xs. IsFolded (qs ++ p ∷ []) xs ns' fs') (sym points)
          (subst (λ xs. IsFolded (qs ++ p ∷ []) (ps ++ p ∷ []) xs fs') (ap (λ (m : ℕ). ns ++ m ∷ []) long ∙ sym names)
          (subst (λ xs. IsFolded (qs ++ p ∷ []) (ps ++ p ∷ []) (ns ++ length qs ∷ []) xs) (ap (λ (m : ℕ). fs ++ m ∷ []) (sym count) ∙ sym folded) made)));
      few = omega (arith, few, ap (λ (xs : List Point). length xs) points, length_push ps p);
    }

-- one point more, that is known
pub to_again : (look look' look'' : Key → Option ℕ) (listed ps ps' : List Point) (ns ns' fs fs' : List ℕ) (i n v : ℕ) (p : Point) → IsFoldedTo look listed i ps ns fs → i < length listed → point listed i ≡ p
    → look (key p) ≡ Some v → ((q : Key) → look' q ≡ cond (same_key (key p) q) (Some n) (look q)) → ((q : Key) → look'' q ≡ cond (same_key (key p) q) (Some v) (look' q))
    → ps' ≡ ps → ns' ≡ ns → fs' ≡ fs ++ v ∷ [] → IsFoldedTo look'' listed (i + 1) ps' ns' fs'
to_again look look' look'' listed ps ps' ns ns' fs fs' i n v p h lt is found first then points names folded =
    let qs = take i listed in
    let known = known_equal look ps p v h.knows found in
    let made = fold_again qs ps ns fs p v h.folded known.0 known.1 in
    let few = h.few in record {
      knows = subst (Knows look'') (sym points) (knows_again look look' look'' ps (key p) n v h.knows found first then);
      folded = subst (λ xs. IsFolded xs ps' ns' fs') (sym (taken listed i p lt is))
          (subst (λ xs. IsFolded (qs ++ p ∷ []) xs ns' fs') (sym points)
          (subst (λ xs. IsFolded (qs ++ p ∷ []) ps xs fs') (sym names) (subst (λ xs. IsFolded (qs ++ p ∷ []) ps ns xs) (sym folded) made)));
      few = omega (arith, few, ap (λ (xs : List Point). length xs) points);
    }

-- all points are folded
pub to_all : (look : Key → Option ℕ) (listed : List Point) (i : ℕ) (ps : List Point) (ns fs : List ℕ) → length listed ≤ i → IsFoldedTo look listed i ps ns fs → IsFolded listed ps ns fs
to_all look listed i ps ns fs le h = subst (λ xs. IsFolded xs ps ns fs) (take_all i listed le) h.folded

-- one number more in a range
range_longer : (low n : ℕ) → range_with_len low (suc n) ≡ range_with_len low n ++ (low + n) ∷ []
range_longer low zero = ap (λ (k : ℕ). k ∷ []) (omega arith)
range_longer low (suc n) = ap (λ ks. low ∷ ks) (range_longer (low + 1) n ∙ ap (λ (k : ℕ). range_with_len (low + 1) n ++ k ∷ []) (omega arith))

pub range_more : (low n : ℕ) → range_with_len low (n + 1) ≡ range_with_len low n ++ (low + n) ∷ []
range_more low n = let e : n + 1 ≡ suc n = omega arith in ap (λ (k : ℕ). range_with_len low k) e ∙ range_longer low n

-- ---- what folding says

climbs : (ns : List ℕ) → AllPairs (λ i j. i < j) ns → (k : ℕ) → k < length ns → k ≤ get_or ns k 0
climbs ns up zero lt = omega arith
climbs ns up (suc k) lt = let before = climbs ns up k (omega arith) in let step = up k (suc k) 0 (omega arith) lt in omega arith

module _ (ls ps : List Point) (ns fs : List ℕ) (h : IsFolded ls ps ns fs) where
  pub names_long : length ns ≡ length ps
  names_long = sym (length-map ns (point ls)) ∙ ap (λ (xs : List Point). length xs) (sym h.points_are)

  -- each point stands in the list at its name
  pub kept_at : (k : ℕ) → k < length ps → (get_or ns k 0 < length ls) × (point ps k ≡ point ls (get_or ns k 0))
  kept_at k lt =
      let there : k < length ns = omega (arith, names_long) in
      (name_below ls ps ns fs h (get_or ns k 0) (at_place ns k 0 there), ap (λ (xs : List Point). point xs k) h.points_are ∙ get_or-map (point ls) ns k 0 origin there)

  -- any two points differ
  pub folded_distinct : HasDistinctPoints ps
  folded_distinct a b less below same =
      let there : b < length ns = omega (arith, names_long) in
      let first = kept_at a (omega arith) in
      let second = kept_at b below in
      let kept = (h.kept (get_or ns b 0)).0 (contains_of ns (get_or ns b 0) (at_place ns b 0 there)) in
      kept.1 (get_or ns a 0) (h.ascending a b 0 less there) (sym first.1 ∙ same ∙ second.1)

  -- there are no more of them than in the list
  pub folded_few : length ps ≤ length ls
  folded_few = elim (cases_lt (length ls) (length ps)) [
    | inl longer ↦
        let top = kept_at (length ls) longer in
        let below = top.0 in
        let climb = climbs ns h.ascending (length ls) (omega (arith, names_long)) in
        absurd (omega arith)
    | inr le ↦ le
  ]

ascends : (ns : List ℕ) → AllPairs (λ i j. i < j) ns → Rises ◌<◌ ns
ascends [] up = none
ascends (n ∷ ns) up =
    more (λ m at. let f = found_of ns m at in let l = f.within in subst (λ (k : ℕ). n < k) (f.is 0) (up 0 (suc f.place) 0 (omega arith) (omega arith)))
    (ascends ns (λ i j d l k. up (suc i) (suc j) d (omega arith) (omega arith)))

-- equal points are folded in one way
pub folded_once : (ls ps qs : List Point) (ns ms fs gs : List ℕ) → IsFolded ls ps ns fs → IsFolded ls qs ms gs → (ps ≡ qs) × (ns ≡ ms) × (fs ≡ gs)
folded_once ls ps qs ns ms fs gs h k =
    let names : ns ≡ ms = rises-same ◌<◌ (λ i j l m. omega arith) ns ms (ascends ns h.ascending) (ascends ms k.ascending)
    (λ i m. member_of ms i ((k.kept i).1 ((h.kept i).0 (contains_of ns i m)))) (λ i m. member_of ns i ((h.kept i).1 ((k.kept i).0 (contains_of ms i m)))) in
    let points : ps ≡ qs = h.points_are ∙ ap (λ (xs : List ℕ). map (point ls) xs) names ∙ sym k.points_are in (
      points,
      names,
      same_number_lists fs gs (h.as_many ∙ sym k.as_many) (λ i lt.
          let there : i < length ls = omega (arith, h.as_many) in
          let a = h.equal i there in
          let b = subst (λ xs. (get_or gs i 0 < length xs) × (point xs (get_or gs i 0) ≡ point ls i)) (sym points) (k.equal i there) in
          one (get_or fs i 0) (get_or gs i 0) a.0 b.0 (a.1 ∙ sym b.1)),
    )
  where
    one : (a b : ℕ) → a < length ps → b < length ps → point ps a ≡ point ps b → a ≡ b
    one a b la lb same = pick (cases_order a b)
      where
        pick : (a ≡ b) ⊎ ((a < b) ⊎ (b < a)) → a ≡ b
        pick (inl e) = e
        pick (inr (inl l)) = absurd (folded_distinct ls ps ns fs h a b l lb same)
        pick (inr (inr l)) = absurd (folded_distinct ls ps ns fs h b a l la (sym same))

-- the kept points and the added ones have as many names
pub names_with_long : (table : NodeTable) (added : ℕ) → IsFolded table.listed table.points table.names table.folded → length (names_with table added) ≡ length table.points + added
names_with_long table added h =
    omega (arith, names_long table.listed table.points table.names table.folded h, length-append table.names (range_with_len (length table.listed) added), length-range_with_len (length table.listed) added)
