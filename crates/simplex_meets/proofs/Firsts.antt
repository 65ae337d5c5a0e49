-- The first part after another that is not properly met with it, by the tree of the parts' boxes.
use Rattle.std.proofs.Common.{◌≡◌, ◌⊎◌, inl, inr, ℕ, ◌+◌, ◌<◌, ◌≤◌, List, length, get_or, Option, Some, None, ap, sym, subst, ◌∙◌, arith}
use Rattle.std.specs.Prelude.{All, Any}
use Rattle.std.specs.List.{HoldsAt}
use Rattle.std.proofs.lemmas.List.{get_or_default}
use Rattle.sign_predicates.specs.Point.{Point}
use Rattle.box_tree.specs.declared.bounds.Bounds.{Bounds}
use Rattle.box_tree.specs.declared.tree.Node.{Node}
use Rattle.box_tree.specs.Bounds.{HoldsCorners}
use Rattle.box_tree.specs.Tree.{AreApartBetween}
use Rattle.box_tree.proofs.Lists.{less_or_more}
use Rattle.simplex_meets.specs.declared.complex_parts.Compared.{Compared}
use Rattle.simplex_meets.specs.declared.complex_parts.Part.{Part}
use Rattle.simplex_meets.specs.declared.complex_parts.Part.TheVariants.{Triangle}
use Rattle.simplex_meets.specs.Parts.{part_numbers, IsPairMet}
use Rattle.simplex_meets.specs.Boxes.{HoldsPart, IsPartTree, HasPartBoxes}
use Rattle.simplex_meets.specs.Pairs.{AreMetAt, IsUnmet, IsFirstPair, IsUnmetFound, IsUpTo, IsNoLater, IsPairSettled, IsFirstAfter, IsFirstAmong}
use Rattle.simplex_meets.proofs.Apart.{met_apart}

-- what stands for a part at a place beyond the end
abbrev pub no_part : Part
no_part = Triangle (record { facet = 0; a = 0; b = 0; c = 0 })

pub below_or : (k j : ℕ) → k < j + 1 → (k < j) ⊎ (k ≡ j)
below_or k j h = grind arith

-- two parts that are not properly met
pub unmet_of : (compared : Compared) (ps : List Point) (parts : List Part) (i j : ℕ) → i < j → j < length parts
    → ¬ IsPairMet compared ps (get_or parts i no_part) (get_or parts j no_part) → IsUnmet compared ps parts i j
unmet_of compared ps parts i j h n unmet = record { order = h; within = n; unmet = λ d met. unmet (moved d met) }
  where
    moved : (d : Part) → IsPairMet compared ps (get_or parts i d) (get_or parts j d)
        → IsPairMet compared ps (get_or parts i no_part) (get_or parts j no_part)
    moved d met =
        let P : Part → Type 0 = λ u. IsPairMet compared ps u (get_or parts j d) in
        let Q : Part → Type 0 = λ u. IsPairMet compared ps (get_or parts i no_part) u in
        subst Q (get_or_default parts j d no_part n) (subst P (get_or_default parts i d no_part (omega arith)) met)

-- what holds a part as it was read holds the part at its place
pub holds_at : (ps : List Point) (parts : List Part) (i : ℕ) (b : Bounds) → i < length parts
    → HoldsCorners ps (part_numbers (get_or parts i no_part)) b → HoldsPart ps parts i b
holds_at ps parts i b h holds d = subst (λ (p : Part). HoldsCorners ps (part_numbers p) b) (get_or_default parts i no_part d h) holds

-- the place of a node is one of the list
pub node_there : (ps : List Point) (parts : List Part) (nodes : List Node) (m : ℕ) (n : Node) → HasPartBoxes ps parts nodes → m < length nodes → HoldsAt (λ k. k ≡ n) nodes m
    → n.own.place < length parts
node_there ps parts nodes m n boxes l at = subst (λ (k : Node). k.own.place < length parts) (at n) (boxes.listed m n l).0

-- ---- one part and the later ones

-- what is known once the nodes before the place n are done with
pub record IsFirstTo (compared : Compared) (ps : List Point) (parts : List Part) (i : ℕ) (nodes : List Node) (n : ℕ) (found : Option ℕ) : Type 0 where
  pub is_found : IsUnmetFound compared ps parts i found
  pub settled : (m : ℕ) (d : Node) → m < n → IsPairSettled compared ps parts i found (get_or nodes m d).own.place

pub first_start : (compared : Compared) (ps : List Point) (parts : List Part) (i : ℕ) (nodes : List Node) → IsFirstTo compared ps parts i nodes 0 None
first_start compared ps parts i nodes = record { is_found = tt; settled = λ m d l. absurd (omega arith) }

-- nodes whose boxes are apart from that of the part are done with
pub first_further : (compared : Compared) (ps : List Point) (parts : List Part) (i : ℕ) (nodes : List Node) (n k : ℕ) (found : Option ℕ) (b : Bounds)
    → HasPartBoxes ps parts nodes → HoldsPart ps parts i b
    → IsFirstTo compared ps parts i nodes n found → AreApartBetween nodes b n k → k ≤ length nodes → IsFirstTo compared ps parts i nodes k found
first_further compared ps parts i nodes n k found b tree holds to apart l = record {
  is_found = to.is_found;
  settled = λ m d h. go m d h (less_or_more m n);
}
  where
    past : (m : ℕ) (d : Node) → n ≤ m → m < k → IsPairSettled compared ps parts i found (get_or nodes m d).own.place
    past m d o h after =
        let n = get_or nodes m d in
        inl (met_apart compared ps parts i n.own.place b n.own.bounds holds (tree.listed m d (omega arith)).1 (apart m d o h))

    go : (m : ℕ) (d : Node) → m < k → (m < n) ⊎ ((m ≡ n) ⊎ (n < m)) → IsPairSettled compared ps parts i found (get_or nodes m d).own.place
    go m d h (inl a) = to.settled m d a
    go m d h (inr (inl a)) = past m d (omega arith) h
    go m d h (inr (inr a)) = past m d (omega arith) h

settled_still : (compared : Compared) (ps : List Point) (parts : List Part) (i : ℕ) (a b : Option ℕ) (j : ℕ) → IsNoLater a b
    → IsPairSettled compared ps parts i a j → IsPairSettled compared ps parts i b j
settled_still compared ps parts i a b j less before after = go (before after)
  where
    go : AreMetAt compared ps parts i j ⊎ IsUpTo a j → AreMetAt compared ps parts i j ⊎ IsUpTo b j
    go (inl met) = inl met
    go (inr u) = inr (less j u)

-- one node more
pub first_more : (compared : Compared) (ps : List Point) (parts : List Part) (i : ℕ) (nodes : List Node) (n : ℕ) (x : Node) (a b : Option ℕ)
    → HoldsAt (λ m. m ≡ x) nodes n → IsUnmetFound compared ps parts i b → IsNoLater a b
    → IsPairSettled compared ps parts i b x.own.place → IsFirstTo compared ps parts i nodes n a → IsFirstTo compared ps parts i nodes (n + 1) b
first_more compared ps parts i nodes n x a b at is less here to = record { is_found = is; settled = λ m d h. go m d h (below_or m n h) }
  where
    go : (m : ℕ) (d : Node) → m < n + 1 → (m < n) ⊎ (m ≡ n) → IsPairSettled compared ps parts i b (get_or nodes m d).own.place
    go m d h (inl l) = settled_still compared ps parts i a b (get_or nodes m d).own.place less (to.settled m d l)
    go m d h (inr e) = subst (λ (y : Node). IsPairSettled compared ps parts i b y.own.place) (sym (ap (λ k. get_or nodes k d) e ∙ at d)) here

-- when all nodes are done with
pub first_of_all : (compared : Compared) (ps : List Point) (parts : List Part) (i : ℕ) (nodes : List Node) (n : ℕ) (found : Option ℕ)
    → length nodes ≤ n → IsFirstTo compared ps parts i nodes n found → IsFirstAmong compared ps parts i nodes found
first_of_all compared ps parts i nodes n found l to = (to.is_found, λ m d h. to.settled m d (omega arith))

-- ---- from the tree to the list

-- a part with a box in the tree is done with
settled_of : (compared : Compared) (ps : List Point) (parts : List Part) (i : ℕ) (nodes : List Node) (found : Option ℕ) (j : ℕ)
    → All (λ n. IsPairSettled compared ps parts i found n.own.place) nodes → Any (λ n. n.own.place ≡ j) nodes → IsPairSettled compared ps parts i found j
settled_of compared ps parts i nodes found j all a = subst (IsPairSettled compared ps parts i found) (ap (λ (n : Node). n.own.place) a.3 ∙ a.4) (all a.0 a.1 a.2)

pub boxes_of : (ps : List Point) (parts : List Part) (nodes : List Node) → IsPartTree ps parts nodes → HasPartBoxes ps parts nodes
boxes_of ps parts nodes h = record { tree = h.tree; listed = h.listed }

-- where each part has a box
pub first_of_whole : (compared : Compared) (ps : List Point) (parts : List Part) (i : ℕ) (nodes : List Node) (found : Option ℕ)
    → IsPartTree ps parts nodes → IsFirstAmong compared ps parts i nodes found → IsFirstAfter compared ps parts i found
first_of_whole compared ps parts i nodes found tree first = (first.0, λ j h. settled_of compared ps parts i nodes found j first.1 (tree.each j h))

-- ---- all parts

-- the parts after the one at i are properly met with it, where none is found
none_after : (compared : Compared) (ps : List Point) (parts : List Part) (i : ℕ) → IsFirstAfter compared ps parts i None → (j : ℕ) → i < j
    → j < length parts → AreMetAt compared ps parts i j
none_after compared ps parts i first j o h = go (first.1 j h o)
  where
    go : AreMetAt compared ps parts i j ⊎ IsUpTo None j → AreMetAt compared ps parts i j
    go (inl met) = met
    go (inr u) = absurd u

pub met_more : (compared : Compared) (ps : List Point) (parts : List Part) (i : ℕ)
    → ((k l : ℕ) → k < i → k < l → l < length parts → AreMetAt compared ps parts k l) → IsFirstAfter compared ps parts i None
    → (k l : ℕ) → k < i + 1 → k < l → l < length parts → AreMetAt compared ps parts k l
met_more compared ps parts i before first k l o h n = go (below_or k i o)
  where
    go : (k < i) ⊎ (k ≡ i) → AreMetAt compared ps parts k l
    go (inl c) = before k l c h n
    go (inr e) = subst (λ m. AreMetAt compared ps parts m l) (sym e) (none_after compared ps parts i first l (omega arith) n)

-- the first pair is that of the first part that has one, and the first after it
pub first_pair_is : (compared : Compared) (ps : List Point) (parts : List Part) (i j : ℕ)
    → ((k l : ℕ) → k < i → k < l → l < length parts → AreMetAt compared ps parts k l) → IsFirstAfter compared ps parts i (Some j)
    → IsFirstPair compared ps parts i j
first_pair_is compared ps parts i j before first = record { is = first.0; first = λ k l h n c. go k l h n c }
  where
    sooner : (l : ℕ) → l < j → AreMetAt compared ps parts i l ⊎ IsUpTo (Some j) l → AreMetAt compared ps parts i l
    sooner l h (inl met) = met
    sooner l h (inr u) = absurd (clash l j h u)
      where
        clash : (l j : ℕ) → l < j → j ≤ l → ⊥
        clash l j h u = omega arith

    go : (k l : ℕ) → k < l → l < length parts → (k < i) ⊎ (k ≡ i) × (l < j) → AreMetAt compared ps parts k l
    go k l h n (inl c) = before k l c h n
    go k l h n (inr c) =
        let e = c.0 in
        subst (λ m. AreMetAt compared ps parts m l) (sym e) (sooner l c.1 (first.1 l n (omega arith)))
