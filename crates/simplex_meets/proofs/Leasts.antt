-- The least pair that is not properly met, by the parts that are not marked.
use Rattle.std.proofs.Common.{◌≡◌, ◌⊎◌, inl, inr, ℕ, ◌+◌, ◌<◌, ◌≤◌, Bool, List, length, get_or, Option, Some, None, true, false, refl, ap, sym, subst, ◌∙◌, arith}
use Rattle.std.specs.Prelude.{Any, MatchOption}
use Rattle.std.specs.List.{HoldsAt}
use Rattle.std.proofs.lemmas.Bool.{false≢true}
use Rattle.sign_predicates.specs.Point.{Point}
use Rattle.box_tree.specs.declared.bounds.Interval.{Interval}
use Rattle.box_tree.specs.declared.bounds.Bounds.{Bounds}
use Rattle.box_tree.specs.declared.tree.Node.{Node}
use Rattle.box_tree.specs.Bounds.{AreDisjoint, AreBoundsApart}
use Rattle.box_tree.specs.Tree.{AreApartBetween}
use Rattle.box_tree.proofs.Lists.{less_or_more}
use Rattle.simplex_meets.specs.declared.complex_parts.Compared.{Compared}
use Rattle.simplex_meets.specs.declared.complex_parts.Part.{Part}
use Rattle.simplex_meets.specs.Boxes.{HoldsPart, IsPartTree}
use Rattle.simplex_meets.specs.Pairs.{AreMetAt, ArePairwiseMet, AreMarkedMet, AreMarkedFrom, IsMarked, IsFirstPair, IsUnmetPair, IsPairUpTo, IsPairNoLater, IsSettled, IsSettledBeside, AreSettledBeside, IsLeastTo}
use Rattle.simplex_meets.proofs.Apart.{met_apart}
use Rattle.simplex_meets.proofs.Firsts.{below_or}

-- ---- the order of pairs

-- a pair that is not up to another stands after it
pub pair_no_later : (found : Option (ℕ × ℕ)) (i j : ℕ) → ¬ IsPairUpTo found i j → IsPairNoLater found (Some (i, j))
pair_no_later None i j off k l h = absurd h
pair_no_later (Some r) i j off k l h = go (less_or_more r.0 i) h
  where
    least : (a b : ℕ) → (a ≤ b) ⊎ (b < a)
    least a b = grind arith

    go : (r.0 < i) ⊎ ((r.0 ≡ i) ⊎ (i < r.0)) → (r.0 < k) ⊎ (r.0 ≡ k) × (r.1 ≤ l) → (i < k) ⊎ (i ≡ k) × (j ≤ l)
    go (inl a) h = absurd (off (inl a))
    go (inr (inl e)) (inl h) = inl (omega arith)
    go (inr (inl e)) (inr h) = last (least r.1 j)
      where
        last : (r.1 ≤ j) ⊎ (j < r.1) → (i < k) ⊎ (i ≡ k) × (j ≤ l)
        last (inl b) = absurd (off (inr (e, b)))
        last (inr b) = let f = h.0 in let g = h.1 in inr (sym e ∙ f, omega arith)
    go (inr (inr a)) (inl h) = inl (omega arith)
    go (inr (inr a)) (inr h) = let f = h.0 in inl (omega arith)

settled_still : (compared : Compared) (ps : List Point) (parts : List Part) (a b : Option (ℕ × ℕ)) (i j : ℕ) → IsPairNoLater a b
    → IsSettled compared ps parts a i j → IsSettled compared ps parts b i j
settled_still compared ps parts a b i j less (inl met) = inl met
settled_still compared ps parts a b i j less (inr u) = inr (less i j u)

pub beside_still : (compared : Compared) (ps : List Point) (parts : List Part) (marks : List Bool) (a b : Option (ℕ × ℕ)) (i j : ℕ) → IsPairNoLater a b
    → IsSettledBeside compared ps parts marks a i j → IsSettledBeside compared ps parts marks b i j
beside_still compared ps parts marks a b i j less h = record {
  after = λ l. settled_still compared ps parts a b i j less (h.after l);
  before = λ l m. settled_still compared ps parts a b j i less (h.before l m);
}

-- ---- one part and those beside it

disjoint_back : (i j : Interval) → AreDisjoint i j → AreDisjoint j i
disjoint_back i j (inl h) = inr h
disjoint_back i j (inr h) = inl h

apart_back : (b c : Bounds) → AreBoundsApart b c → AreBoundsApart c b
apart_back b c (inl h) = inl (disjoint_back b.x c.x h)
apart_back b c (inr (inl h)) = inr (inl (disjoint_back b.y c.y h))
apart_back b c (inr (inr h)) = inr (inr (disjoint_back b.z c.z h))

-- what is known once the nodes before the place n are done with
pub record IsBesideTo (compared : Compared) (ps : List Point) (parts : List Part) (marks : List Bool) (i : ℕ) (nodes : List Node) (n : ℕ) (old found : Option (ℕ × ℕ)) : Type 0 where
  pub is_found : IsUnmetPair compared ps parts found
  pub no_later : IsPairNoLater old found
  pub settled : (m : ℕ) (d : Node) → m < n → IsSettledBeside compared ps parts marks found i (get_or nodes m d).own.place

pub beside_start : (compared : Compared) (ps : List Point) (parts : List Part) (marks : List Bool) (i : ℕ) (nodes : List Node) (old : Option (ℕ × ℕ))
    → IsUnmetPair compared ps parts old → IsBesideTo compared ps parts marks i nodes 0 old old
beside_start compared ps parts marks i nodes old h = record { is_found = h; no_later = λ k l u. u; settled = λ m d l. absurd (omega arith) }

-- nodes whose boxes are apart from that of the part are done with
pub beside_further : (compared : Compared) (ps : List Point) (parts : List Part) (marks : List Bool) (i : ℕ) (nodes : List Node) (n k : ℕ) (old found : Option (ℕ × ℕ)) (b : Bounds)
    → IsPartTree ps parts nodes → HoldsPart ps parts i b
    → IsBesideTo compared ps parts marks i nodes n old found → AreApartBetween nodes b n k → k ≤ length nodes → IsBesideTo compared ps parts marks i nodes k old found
beside_further compared ps parts marks i nodes n k old found b tree holds to apart l = record {
  is_found = to.is_found;
  no_later = to.no_later;
  settled = λ m d h. go m d h (less_or_more m n);
}
  where
    past : (m : ℕ) (d : Node) → n ≤ m → m < k → IsSettledBeside compared ps parts marks found i (get_or nodes m d).own.place
    past m d o h =
        let n = get_or nodes m d in
        let there = (tree.listed m d (omega arith)).1 in
        record {
          after = λ _. inl (met_apart compared ps parts i n.own.place b n.own.bounds holds there (apart m d o h));
          before = λ _ _. inl (met_apart compared ps parts n.own.place i n.own.bounds b there holds (apart_back n.own.bounds b (apart m d o h)));
        }

    go : (m : ℕ) (d : Node) → m < k → (m < n) ⊎ ((m ≡ n) ⊎ (n < m)) → IsSettledBeside compared ps parts marks found i (get_or nodes m d).own.place
    go m d h (inl a) = to.settled m d a
    go m d h (inr (inl a)) = past m d (omega arith) h
    go m d h (inr (inr a)) = past m d (omega arith) h

-- one node more
pub beside_more : (compared : Compared) (ps : List Point) (parts : List Part) (marks : List Bool) (i : ℕ) (nodes : List Node) (n : ℕ) (x : Node) (old a b : Option (ℕ × ℕ))
    → HoldsAt (λ m. m ≡ x) nodes n → IsUnmetPair compared ps parts b → IsPairNoLater a b
    → IsSettledBeside compared ps parts marks b i x.own.place → IsBesideTo compared ps parts marks i nodes n old a → IsBesideTo compared ps parts marks i nodes (n + 1) old b
beside_more compared ps parts marks i nodes n x old a b at is less here to = record {
  is_found = is;
  no_later = λ k l u. less k l (to.no_later k l u);
  settled = λ m d h. go m d h (below_or m n h);
}
  where
    go : (m : ℕ) (d : Node) → m < n + 1 → (m < n) ⊎ (m ≡ n) → IsSettledBeside compared ps parts marks b i (get_or nodes m d).own.place
    go m d h (inl l) = beside_still compared ps parts marks a b i (get_or nodes m d).own.place less (to.settled m d l)
    go m d h (inr e) = subst (λ (y : Node). IsSettledBeside compared ps parts marks b i y.own.place) (sym (ap (λ k. get_or nodes k d) e ∙ at d)) here

-- when all nodes are done with
pub beside_all : (compared : Compared) (ps : List Point) (parts : List Part) (marks : List Bool) (i : ℕ) (nodes : List Node) (n : ℕ) (old found : Option (ℕ × ℕ))
    → IsPartTree ps parts nodes → length nodes ≤ n → IsBesideTo compared ps parts marks i nodes n old found → AreSettledBeside compared ps parts marks found i
beside_all compared ps parts marks i nodes n old found tree l to j h = go (tree.each j h)
  where
    go : Any (λ n. n.own.place ≡ j) nodes → IsSettledBeside compared ps parts marks found i j
    go a = let there = a.2 in subst (IsSettledBeside compared ps parts marks found i) (ap (λ (n : Node). n.own.place) a.3 ∙ a.4) (to.settled a.0 a.1 (omega arith))

-- ---- all parts

pub least_start : (compared : Compared) (ps : List Point) (parts : List Part) (marks : List Bool) → IsLeastTo compared ps parts marks 0 None
least_start compared ps parts marks = record { is_found = tt; settled = λ i l. absurd (omega arith) }

-- a marked part more
pub least_same : (compared : Compared) (ps : List Point) (parts : List Part) (marks : List Bool) (n : ℕ) (found : Option (ℕ × ℕ)) → IsMarked marks n
    → IsLeastTo compared ps parts marks n found → IsLeastTo compared ps parts marks (n + 1) found
least_same compared ps parts marks n found m to = record { is_found = to.is_found; settled = λ i l off. go i off (below_or i n l) }
  where
    go : (i : ℕ) → ¬ IsMarked marks i → (i < n) ⊎ (i ≡ n) → AreSettledBeside compared ps parts marks found i
    go i off (inl l) = to.settled i l off
    go i off (inr e) = absurd (off (subst (IsMarked marks) (sym e) m))

-- one that is not marked
pub least_more : (compared : Compared) (ps : List Point) (parts : List Part) (marks : List Bool) (n : ℕ) (a b : Option (ℕ × ℕ)) → IsUnmetPair compared ps parts b
    → IsPairNoLater a b → AreSettledBeside compared ps parts marks b n → IsLeastTo compared ps parts marks n a → IsLeastTo compared ps parts marks (n + 1) b
least_more compared ps parts marks n a b is less here to = record { is_found = is; settled = λ i l off. go i off (below_or i n l) }
  where
    go : (i : ℕ) → ¬ IsMarked marks i → (i < n) ⊎ (i ≡ n) → AreSettledBeside compared ps parts marks b i
    go i off (inl l) = λ j h. beside_still compared ps parts marks a b i j less (to.settled i l off j h)
    go i off (inr e) = subst (AreSettledBeside compared ps parts marks b) (sym e) here

-- where all pairs are settled, the pair found is the first
first_of_settled : (compared : Compared) (ps : List Point) (parts : List Part) (found : Option (ℕ × ℕ)) → IsUnmetPair compared ps parts found
    → ((k l : ℕ) → k < l → l < length parts → IsSettled compared ps parts found k l)
    → MatchOption found (ArePairwiseMet compared ps parts) (λ r. IsFirstPair compared ps parts r.0 r.1)
first_of_settled compared ps parts None is all = λ i j d h l. go i j (all i j h l) d
  where
    go : (i j : ℕ) → IsSettled compared ps parts None i j → AreMetAt compared ps parts i j
    go i j (inl met) = met
    go i j (inr u) = absurd u
first_of_settled compared ps parts (Some r) is all = record { is = is; first = λ k l h n c. go k l c (all k l h n) }
  where
    clash : (k l : ℕ) → (k < r.0) ⊎ (k ≡ r.0) × (l < r.1) → (r.0 < k) ⊎ (r.0 ≡ k) × (r.1 ≤ l) → ⊥
    clash k l (inl c) (inl u) = omega arith
    clash k l (inl c) (inr u) = let e = u.0 in omega arith
    clash k l (inr c) (inl u) = let e = c.0 in omega arith
    clash k l (inr c) (inr u) = let e = c.1 in let f = u.1 in omega arith

    go : (k l : ℕ) → (k < r.0) ⊎ (k ≡ r.0) × (l < r.1) → IsSettled compared ps parts (Some r) k l → AreMetAt compared ps parts k l
    go k l c (inl met) = met
    go k l c (inr u) = absurd (clash k l c u)

marked_or_not : (marks : List Bool) (j : ℕ) → IsMarked marks j ⊎ ¬ IsMarked marks j
marked_or_not marks j = go (get_or marks j true) refl
  where
    go : (b : Bool) → get_or marks j true ≡ b → IsMarked marks j ⊎ ¬ IsMarked marks j
    go true e = inl e
    go false e = inr (λ h. false≢true (sym e ∙ h))

-- where the parts from n on are marked, all pairs are settled
pub first_of_least : (compared : Compared) (ps : List Point) (parts : List Part) (marks : List Bool) (n end : ℕ) (found : Option (ℕ × ℕ))
    → AreMarkedMet compared ps parts marks → AreMarkedFrom marks end → ((k : ℕ) → n ≤ k → k < length parts → end ≤ k)
    → IsLeastTo compared ps parts marks n found → MatchOption found (ArePairwiseMet compared ps parts) (λ r. IsFirstPair compared ps parts r.0 r.1)
first_of_least compared ps parts marks n end found met marked past to =
    first_of_settled compared ps parts found to.is_found (λ k l h there. go k l h there (marked_or_not marks k) (marked_or_not marks l))
  where
    before_or : (i n : ℕ) → (i < n) ⊎ (n ≤ i)
    before_or i n = grind arith

    settled : (i : ℕ) → i < length parts → ¬ IsMarked marks i → (i < n) ⊎ (n ≤ i) → AreSettledBeside compared ps parts marks found i
    settled i h off (inl l) = to.settled i l off
    settled i h off (inr l) = absurd (off (marked i (past i l h)))

    go : (k l : ℕ) → k < l → l < length parts → IsMarked marks k ⊎ ¬ IsMarked marks k → IsMarked marks l ⊎ ¬ IsMarked marks l → IsSettled compared ps parts found k l
    go k l h there (inl mk) (inl ml) = inl (met k l h there mk ml)
    go k l h there (inl mk) (inr off) = (settled l there off (before_or l n) k (omega arith)).before h mk
    go k l h there (inr off) m = (settled k (omega arith) off (before_or k n) l there).after h
