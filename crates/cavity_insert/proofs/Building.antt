-- The points are inserted in their turns, each once.
use Rattle.std.proofs.Common.{◌≡◌, ◌≢◌, ◌↔◌, ◌⊎◌, inl, inr, ℕ, zero, suc, ◌+◌, ◌<◌, ◌≤◌, ℤ, false, ◌==◌, List, [], ◌∷◌, ◌++◌, length, take, take_all, get_or, Option, refl, sym, ap, subst, ◌∙◌, arith}
use Rattle.std.specs.Prelude.{Contains, if◌then◌else◌}
use Rattle.std.specs.List.{sum_by, range_with_len}
use Rattle.std.specs.List.Sorted.{IsPermutation}
use Rattle.std.proofs.lemmas.Bool.{cases_eq, eq-eqb, ne_eqb, true≢false, cond-true, cond-false}
use Rattle.std.proofs.lemmas.List.{take_more, get_or-map, length-map}
use Rattle.std.proofs.lemmas.List.Elements.{Contains-append_left, Contains-append_right, Contains-append_cases, Contains-push, Contains-push_cases}
use Rattle.std.proofs.lemmas.List.Sorted.{Contains-permutation, IsPermutation-sym, sum_by-IsPermutation}
use Rattle.std.proofs.lemmas.List.Sums.{sum_by-append, sum_by-cons, sum_by-take-le}
use Rattle.sign_predicates.specs.Point.{Point}
use Rattle.geo_laws.specs.Delaunay.{numbers, numbers_below, all_numbers, has_corner}
use Rattle.geo_laws.specs.declared.tetrahedra.Tet.{Tet as Row}
use Rattle.geo_laws.proofs.Corners.{found, contains_below, below_of}
use Rattle.mesh_arena.specs.Mesh.{SlotValue}
use Rattle.mesh_laws.specs.LowestLiving.{IsLowestMesh}
use Rattle.mesh_laws.proofs.LowestReplacedLists.{law_same_mesh}
use Rattle.cavity_insert.specs.declared.order.Turn.{Turn}
use Rattle.cavity_insert.specs.Order.{turn_numbers, IsOrderOf}
use Rattle.cavity_insert.specs.Insert.{IsReadyFor}
use Rattle.cavity_insert.specs.Build.{HasInserted}

-- how often a number stands in a list
abbrev one_at : ℕ → ℕ → ℕ
one_at x i = if i == x then 1 else 0

times_after : (x a n : ℕ) → x < a → sum_by (one_at x) (range_with_len a n) ≡ 0
times_after x a zero h = refl
times_after x a (suc n) h =
    let here : one_at x a ≡ 0 = cond-false _ 1 0 (ne_eqb a x (λ e. omega (arith, h, e))) in
    let rest = times_after x (a + 1) n (omega (arith, h)) in
    let both : sum_by (one_at x) (range_with_len a (suc n)) ≡ one_at x a + sum_by (one_at x) (range_with_len (a + 1) n) = sum_by-cons (one_at x) a (range_with_len (a + 1) n) in
    omega (arith, here, rest, both)

-- a list that begins with x or not
times_more : (x a : ℕ) (xs : List ℕ) → sum_by (one_at x) xs ≤ 1 → (x < a + 1 → sum_by (one_at x) xs ≡ 0) → sum_by (one_at x) (a ∷ xs) ≤ 1
times_more x a xs most none = by (cases_eq a x)
  where
    both : sum_by (one_at x) (a ∷ xs) ≡ one_at x a + sum_by (one_at x) xs
    both = sum_by-cons (one_at x) a xs

    by : (a ≡ x) ⊎ (a ≢ x) → sum_by (one_at x) (a ∷ xs) ≤ 1
    by (inl e) =
        let here : one_at x a ≡ 1 = cond-true _ 1 0 (eq-eqb a x e) in
        let rest = none (omega (arith, e)) in
        let sum = both in
        omega (arith, here, rest, sum)
    by (inr d) =
        let here : one_at x a ≡ 0 = cond-false _ 1 0 (ne_eqb a x d) in
        let sum = both in
        omega (arith, here, most, sum)

times_below : (x a n : ℕ) → sum_by (one_at x) (range_with_len a n) ≤ 1
times_below x a zero = let none : sum_by (one_at x) (range_with_len a zero) ≡ 0 = refl in omega (arith, none)
times_below x a (suc n) = times_more x a (range_with_len (a + 1) n) (times_below x (a + 1) n) (λ h. times_after x (a + 1) n h)

times_first : (x y : ℕ) (ys : List ℕ) → Contains (y ∷ []) x ⊎ (1 ≤ sum_by (one_at x) ys) → 1 ≤ sum_by (one_at x) (y ∷ ys)
times_first x y ys h = by h
  where
    both : sum_by (one_at x) (y ∷ ys) ≡ one_at x y + sum_by (one_at x) ys
    both = sum_by-cons (one_at x) y ys

    head : Contains [] x ⊎ (y ≡ x) → 1 ≤ sum_by (one_at x) (y ∷ ys)
    head (inl c) = absurd (omega (arith, c.1))
    head (inr e) =
        let here : one_at x y ≡ 1 = cond-true _ 1 0 (eq-eqb y x e) in
        let sum = both in
        omega (arith, here, sum)

    by : Contains (y ∷ []) x ⊎ (1 ≤ sum_by (one_at x) ys) → 1 ≤ sum_by (one_at x) (y ∷ ys)
    by (inl c) = head (Contains-push_cases [] y x c)
    by (inr c) = let sum = both in omega (arith, c, sum)

times_in : (x : ℕ) (xs : List ℕ) → Contains xs x → 1 ≤ sum_by (one_at x) xs
times_in x [] h = absurd (omega (arith, h.1))
times_in x (y ∷ ys) h = times_first x y ys (elim (Contains-append_cases (y ∷ []) ys x h) [ inl c ↦ inl c | inr c ↦ inr (times_in x ys c) ])

-- in an order of the numbers below n no number stands twice
pub once : (n k : ℕ) (xs : List ℕ) → IsPermutation (numbers_below n) xs → k < length xs → Contains (take k xs) (get_or xs k 0) → ⊥
once n k xs order l c =
    let x = get_or xs k 0 in
    let all : sum_by (one_at x) xs ≡ sum_by (one_at x) (numbers_below n) = sum_by-IsPermutation (one_at x) (numbers_below n) xs order in
    let parts : sum_by (one_at x) (take (k + 1) xs) ≡ sum_by (one_at x) (take k xs) + sum_by (one_at x) (x ∷ []) = ap (sum_by (one_at x)) (take_more xs k 0 l) ∙ sum_by-append (one_at x) (take k xs) (x ∷ []) in
    let here : 1 ≤ sum_by (one_at x) (x ∷ []) = times_in x (x ∷ []) (Contains-push [] x) in
    omega (arith, all, parts, here, times_below x 0 n, times_in x (take k xs) c, sum_by-take-le (one_at x) xs (k + 1))

abbrev pub no_turn : Turn
no_turn = record { round = 0; curve = 0; number = 0 }

-- the numbers of the first turns and of the next one
pub next_numbers : (turns : List Turn) (k : ℕ) (d : Turn) → k < length turns → turn_numbers (take (k + 1) turns) ≡ turn_numbers (take k turns) ++ (get_or turns k d).number ∷ []
next_numbers turns k d l = ap turn_numbers (take_more turns k d l) ∙ map_push (take k turns)
  where
    map_push : (xs : List Turn) → turn_numbers (xs ++ get_or turns k d ∷ []) ≡ turn_numbers xs ++ (get_or turns k d).number ∷ []
    map_push [] = refl
    map_push (x ∷ xs) = ap (λ ys. x.number ∷ ys) (map_push xs)

pub number_taken : (turns : List Turn) (k : ℕ) → turn_numbers (take k turns) ≡ take k (turn_numbers turns)
number_taken turns zero = refl
number_taken [] (suc k) = refl
number_taken (x ∷ xs) (suc k) = ap (λ ys. x.number ∷ ys) (number_taken xs k)

pub in_cons : (x : ℕ) (xs : List ℕ) (i : ℕ) → Contains (x ∷ xs) i ↔ ((x ≡ i) ⊎ Contains xs i)
in_cons x xs i = (λ c. to (Contains-append_cases (x ∷ []) xs i c), from)
  where
    to : Contains (x ∷ []) i ⊎ Contains xs i → (x ≡ i) ⊎ Contains xs i
    to (inl c) = elim (Contains-push_cases [] x i c) [
      | inl none ↦ absurd (omega (arith, none.1))
      | inr e ↦ inl e
    ]
    to (inr c) = inr c

    from : (x ≡ i) ⊎ Contains xs i → Contains (x ∷ xs) i
    from (inl e) = subst (Contains (x ∷ xs)) e (Contains-append_left (x ∷ []) xs x (Contains-push [] x))
    from (inr c) = Contains-append_right (x ∷ []) xs i c

module _ (heights : ℕ → ℤ) (ps : List Point) (first : Row) (turns : List Turn) where
  pub begun : (slots : List (Option SlotValue)) → IsLowestMesh heights slots ps (numbers first) → HasInserted heights slots ps first (take 0 turns)
  begun slots mesh = record { ms = numbers first; mesh = mesh; exactly = λ i. (λ c. inl c, back i) }
    where
      back : (i : ℕ) → Contains (numbers first) i ⊎ Contains [] i → Contains (numbers first) i
      back i (inl c) = c
      back i (inr c) = absurd (omega (arith, c.1))

  module _ (k : ℕ) (d : Turn) (l : k < length turns) where
    abbrev pub x : ℕ
    x = (get_or turns k d).number

    -- a corner of the first row is there already
    pub passed : (slots : List (Option SlotValue)) → HasInserted heights slots ps first (take k turns) → Contains (numbers first) x → HasInserted heights slots ps first (take (k + 1) turns)
    passed slots now corner = record {
      ms = now.ms;
      mesh = now.mesh;
      exactly = λ i. (λ c. to i ((now.exactly i).0 c), λ c. (now.exactly i).1 (from i c));
    }
      where
        to : (i : ℕ) → Contains (numbers first) i ⊎ Contains (turn_numbers (take k turns)) i → Contains (numbers first) i ⊎ Contains (turn_numbers (take (k + 1) turns)) i
        to i (inl c) = inl c
        to i (inr c) = inr (subst (λ xs. Contains xs i) (sym (next_numbers turns k d l)) (Contains-append_left _ (x ∷ []) i c))

        from : (i : ℕ) → Contains (numbers first) i ⊎ Contains (turn_numbers (take (k + 1) turns)) i → Contains (numbers first) i ⊎ Contains (turn_numbers (take k turns)) i
        from i (inl c) = inl c
        from i (inr c) = by (Contains-push_cases _ x i (subst (λ xs. Contains xs i) (next_numbers turns k d l) c))
          where
            by : Contains (turn_numbers (take k turns)) i ⊎ (x ≡ i) → Contains (numbers first) i ⊎ Contains (turn_numbers (take k turns)) i
            by (inl c) = inr c
            by (inr e) = inl (subst (Contains (numbers first)) e corner)

    pub added : (old new : List (Option SlotValue)) (now : HasInserted heights old ps first (take k turns)) → IsLowestMesh heights new ps (x ∷ now.ms) → HasInserted heights new ps first (take (k + 1) turns)
    added old new now mesh = record {
      ms = x ∷ now.ms;
      mesh = mesh;
      exactly = λ i. (λ c. to i ((in_cons x now.ms i).0 c), λ c. (in_cons x now.ms i).1 (from i c));
    }
      where
        to : (i : ℕ) → (x ≡ i) ⊎ Contains now.ms i → Contains (numbers first) i ⊎ Contains (turn_numbers (take (k + 1) turns)) i
        to i (inl e) = inr (subst (λ xs. Contains xs i) (sym (next_numbers turns k d l)) (subst (Contains (turn_numbers (take k turns) ++ x ∷ [])) e (Contains-push _ x)))
        to i (inr c) = elim ((now.exactly i).0 c) [
          | inl f ↦ inl f
          | inr t ↦ inr (subst (λ xs. Contains xs i) (sym (next_numbers turns k d l)) (Contains-append_left _ (x ∷ []) i t))
        ]

        from : (i : ℕ) → Contains (numbers first) i ⊎ Contains (turn_numbers (take (k + 1) turns)) i → (x ≡ i) ⊎ Contains now.ms i
        from i (inl c) = inr ((now.exactly i).1 (inl c))
        from i (inr c) = elim (Contains-push_cases _ x i (subst (λ xs. Contains xs i) (next_numbers turns k d l) c)) [
          | inl t ↦ inr ((now.exactly i).1 (inr t))
          | inr e ↦ inl e
        ]

    -- and any other one is new
    pub ready : (slots : List (Option SlotValue)) → IsOrderOf (length ps) turns → (now : HasInserted heights slots ps first (take k turns)) → ¬ Contains (numbers first) x → IsReadyFor heights slots ps now.ms x
    ready slots order now not = record {
      mesh = now.mesh;
      is_new = record { within = now.mesh.within; on = on; is_new = fresh };
    }
      where
        there : get_or (turn_numbers turns) k 0 ≡ x
        there = get_or-map (λ t. t.number) turns k d 0 l

        on : x < length ps
        on = below_of (length ps) x (Contains-permutation _ _ x (IsPermutation-sym _ _ order) (k, omega (arith, length-map turns (λ t. t.number), l), get_or-map (λ t. t.number) turns k d x l))

        fresh : ¬ Contains now.ms x
        fresh c = by ((now.exactly x).0 c)
          where
            by : Contains (numbers first) x ⊎ Contains (turn_numbers (take k turns)) x → ⊥
            by (inl f) = not f
            by (inr t) = once (length ps) k (turn_numbers turns) order (omega (arith, length-map turns (λ t. t.number), l)) (subst (Contains (take k (turn_numbers turns))) (sym there) (subst (λ xs. Contains xs x) (number_taken turns k) t))

  pub finished : (slots : List (Option SlotValue)) → IsOrderOf (length ps) turns → (k : ℕ) → length turns ≤ k → HasInserted heights slots ps first (take k turns) → IsLowestMesh heights slots ps (all_numbers ps)
  finished slots order k all now = law_same_mesh heights slots ps now.ms (all_numbers ps) now.mesh (λ i. (λ c. contains_below (length ps) i (now.mesh.within i c), from i))
    where
      from : (i : ℕ) → Contains (all_numbers ps) i → Contains now.ms i
      from i c = (now.exactly i).1 (inr (subst (λ xs. Contains (turn_numbers xs) i) (sym (take_all k turns all)) (Contains-permutation _ _ i order c)))

-- a number that the test of a corner refuses is none
pub has_corner_not : (t : Row) (i : ℕ) → has_corner t i ≡ false → ¬ Contains (numbers t) i
has_corner_not t i h c = true≢false (sym (found (numbers t) i c) ∙ h)
