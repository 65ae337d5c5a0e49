-- Walks along a list that pass over what fails a test, and chains of sides along which what the ends say cancels.
use Rattle.std.proofs.Common.{◌≡◌, ℕ, zero, suc, ◌+◌, ◌-◌, ◌<◌, ◌≤◌, Bool, true, false, cond, ◌||◌, List, [], ◌∷◌, map, drop, length, get_or, refl, ap, sym, subst, ◌∙◌, arith, eqb-true}
use Rattle.std.specs.Prelude.{not, ◌==◌, filter}
use Rattle.std.specs.List.{list_any, HoldsAt}
use Rattle.std.proofs.lemmas.List.{get_or-drop, drop-drop, length-drop}
use Rattle.std.proofs.Math.Seq.{drop-cons}
use Rattle.sign_predicates.specs.Point.{Point}
use Rattle.geo_laws.specs.Delaunay.{point}
use Rattle.geo_laws.specs.Segment.{sides, piece}
use Rattle.facet_plane.specs.Outline.{side_between, sides_between, IsChain}
use Rattle.facet_plane.specs.Walk.{walk, is_odd}
use Rattle.facet_plane.specs.declared.outline.Side.{Side}
use Rattle.facet_plane.proofs.Walks.{sides_walk}
use Rattle.facet_laws.specs.Parity.{xor}

-- ---- items that a function of a list passes over

-- what the function says of a list does not depend on the item before it
skip_one : {X Y : Type 0} (f : List X → Y) (fails : X → Type 0) → ((x : X) (xs : List X) → fails x → f (x ∷ xs) ≡ f xs) → (xs : List X) (m : ℕ) (d : X) → m ≤ length xs
    → ((j : ℕ) → j < m → fails (get_or xs j d)) → f xs ≡ f (drop m xs)
skip_one f fails step xs zero d l h = refl
skip_one f fails step [] (suc m) d l h = absurd (omega arith)
skip_one f fails step (x ∷ xs) (suc m) d l h = step x xs (h 0 (omega arith)) ∙ skip_one f fails step xs m d (omega arith) (λ j k. h (suc j) (omega arith))

pub skip : {X Y : Type 0} (f : List X → Y) (fails : X → Type 0) → ((x : X) (xs : List X) → fails x → f (x ∷ xs) ≡ f xs) → (xs : List X) (i past : ℕ) (d : X) → i ≤ past → past ≤ length xs
    → ((j : ℕ) → i ≤ j → j < past → fails (get_or xs j d)) → f (drop i xs) ≡ f (drop past xs)
skip f fails step xs i past d l m h =
    skip_one f fails step (drop i xs) (past - i) d (let e = length-drop i xs in omega arith)
    (λ j k. subst fails (sym (get_or-drop i xs j d)) (h (i + j) (omega arith) (omega arith)))
    ∙ ap f (drop-drop (past - i) i xs ∙ ap (λ n. drop n xs) (back i past l))
  where
    back : (i past : ℕ) → i ≤ past → i + (past - i) ≡ past
    back i past l = omega arith

pub any_skip : {X : Type 0} (test : X → Bool) (xs : List X) (i past : ℕ) (d : X) → i ≤ past → past ≤ length xs
    → ((j : ℕ) → i ≤ j → j < past → test (get_or xs j d) ≡ false) → list_any test (drop i xs) ≡ list_any test (drop past xs)
any_skip test = skip (list_any test) (λ x. test x ≡ false) (λ x xs e. ap (λ b. b || list_any test xs) e)

pub odd_skip : {X : Type 0} (test : X → Bool) (xs : List X) (i past : ℕ) (d : X) → i ≤ past → past ≤ length xs
    → ((j : ℕ) → i ≤ j → j < past → test (get_or xs j d) ≡ false) → is_odd test (drop i xs) ≡ is_odd test (drop past xs)
odd_skip test = skip (is_odd test) (λ x. test x ≡ false) (λ x xs e. ap (λ b. xor b (is_odd test xs)) e)

-- the next item
pub drop_at : {X : Type 0} (xs : List X) (i : ℕ) (x : X) → i < length xs → HoldsAt (λ y. y ≡ x) xs i → drop i xs ≡ x ∷ drop (i + 1) xs
drop_at xs i x l at = drop-cons xs i x l ∙ (λ j. at x j ∷ drop (more i j) xs)
  where
    more : (i : ℕ) → suc i ≡ i + 1
    more i = omega arith

pub drop_past : {X : Type 0} (xs : List X) (i : ℕ) → length xs ≤ i → drop i xs ≡ []
drop_past [] zero l = refl
drop_past [] (suc i) l = refl
drop_past (x ∷ xs) zero l = absurd (omega arith)
drop_past (x ∷ xs) (suc i) l = drop_past xs i (omega arith)

-- ---- chains

pub same_xor : (a b : Bool) → a ≡ b → xor a b ≡ false
same_xor true true e = refl
same_xor false false e = refl
same_xor true false e = cc
same_xor false true e = cc

xor_chain : (a b c r : Bool) → xor (xor a b) (xor (xor b c) r) ≡ xor (xor a c) r
xor_chain true true true r = refl
xor_chain true true false r = refl
xor_chain true false true r = not_not r
  where
    not_not : (r : Bool) → not (not r) ≡ r
    not_not true = refl
    not_not false = refl
xor_chain true false false r = refl
xor_chain false true true r = refl
xor_chain false true false r = not_not r
  where
    not_not : (r : Bool) → not (not r) ≡ r
    not_not true = refl
    not_not false = refl
xor_chain false false true r = refl
xor_chain false false false r = refl

pub chain_drop : (p : Point) (ss : List Side) (e : Point) (i : ℕ) (d : Side) → IsChain p ss e → i < length ss → IsChain (get_or ss i d).from (drop i ss) e
chain_drop p [] e i d h l = absurd (omega arith)
chain_drop p (s ∷ ss) e zero d h l = (refl, h.1)
chain_drop p (s ∷ ss) e (suc i) d h l = chain_drop s.to ss e i d h.1 (omega arith)

-- along a chain, the ends of each side say whether it passes the test
telescope : (test : Side → Bool) (says : Point → Bool) (p : Point) (ss : List Side) (e : Point) (m : ℕ) (d : Side) → IsChain p ss e → m < length ss
    → ((j : ℕ) → j ≤ m → test (get_or ss j d) ≡ xor (says (get_or ss j d).from) (says (get_or ss j d).to))
    → is_odd test ss ≡ xor (xor (says p) (says (get_or ss m d).to)) (is_odd test (drop (suc m) ss))
telescope test says p [] e m d h l k = absurd (omega arith)
telescope test says p (s ∷ ss) e zero d h l k = ap (λ b. xor b (is_odd test ss)) (k 0 (omega arith) ∙ ap (λ q. xor (says q) (says s.to)) h.0)
telescope test says p (s ∷ ss) e (suc m) d h l k =
    (λ j. xor ((k 0 (omega arith) ∙ ap (λ q. xor (says q) (says s.to)) h.0) j) (telescope test says s.to ss e m d h.1 (omega arith) (λ i n. k (suc i) (omega arith)) j))
    ∙ xor_chain (says p) (says s.to) (says (get_or ss m d).to) (is_odd test (drop (suc m) ss))

pub odd_between : (test : Side → Bool) (says : Point → Bool) (p : Point) (ss : List Side) (e : Point) (i past : ℕ) (first last : Side) → IsChain p ss e → i < past → past ≤ length ss
    → HoldsAt (λ s. s ≡ first) ss i → HoldsAt (λ s. s ≡ last) ss (past - 1)
    → ((j : ℕ) (d : Side) → i ≤ j → j < past → test (get_or ss j d) ≡ xor (says (get_or ss j d).from) (says (get_or ss j d).to))
    → is_odd test (drop i ss) ≡ xor (xor (says first.from) (says last.to)) (is_odd test (drop past ss))
odd_between test says p ss e i past first last h l m at_first at_last k =
    telescope test says (get_or ss i first).from (drop i ss) e (past - 1 - i) last (chain_drop p ss e i first h (omega arith)) (let n = length-drop i ss in omega arith)
    (λ j n. subst (λ s. test s ≡ xor (says s.from) (says s.to)) (sym (get_or-drop i ss j last)) (k (i + j) last (omega arith) (omega arith)))
    ∙ (λ j. xor (xor (says (at_first first j).from) (says (reached j).to)) (is_odd test (rest j)))
  where
    place : (i past : ℕ) → i < past → i + (past - 1 - i) ≡ past - 1
    place i past l = omega arith

    place_past : (i past : ℕ) → i < past → i + suc (past - 1 - i) ≡ past
    place_past i past l = omega arith

    reached : get_or (drop i ss) (past - 1 - i) last ≡ last
    reached = get_or-drop i ss (past - 1 - i) last ∙ ap (λ n. get_or ss n last) (place i past l) ∙ at_last last

    rest : drop (suc (past - 1 - i)) (drop i ss) ≡ drop past ss
    rest = drop-drop (suc (past - 1 - i)) i ss ∙ ap (λ n. drop n ss) (place_past i past l)

-- a chain that leads back
pub odd_around : (test : Side → Bool) (says : Point → Bool) (p : Point) (ss : List Side) (e : Point) → IsChain p ss e
    → ((j : ℕ) (d : Side) → j < length ss → test (get_or ss j d) ≡ xor (says (get_or ss j d).from) (says (get_or ss j d).to)) → is_odd test ss ≡ xor (says p) (says e)
odd_around test says p [] e h k = sym (same_xor (says p) (says e) (ap says h))
odd_around test says p (s ∷ ss) e h k =
    (λ j. xor ((k 0 s (omega arith) ∙ ap (λ q. xor (says q) (says s.to)) h.0) j) (odd_around test says s.to ss e h.1 (λ i d n. k (suc i) d (omega arith)) j))
    ∙ chain (says p) (says s.to) (says e)
  where
    chain : (a b c : Bool) → xor (xor a b) (xor b c) ≡ xor a c
    chain true true true = refl
    chain true true false = refl
    chain true false true = refl
    chain true false false = refl
    chain false true true = refl
    chain false true false = refl
    chain false false true = refl
    chain false false false = refl

pub odd_none : {X : Type 0} (test : X → Bool) (xs : List X) → ((j : ℕ) (d : X) → j < length xs → test (get_or xs j d) ≡ false) → is_odd test xs ≡ false
odd_none test [] h = refl
odd_none test (x ∷ xs) h = (λ j. xor (h 0 x (omega arith) j) (odd_none test xs (λ i d l. h (suc i) d (omega arith)) j))

pub any_none : {X : Type 0} (test : X → Bool) (xs : List X) → ((j : ℕ) (d : X) → j < length xs → test (get_or xs j d) ≡ false) → list_any test xs ≡ false
any_none test [] h = refl
any_none test (x ∷ xs) h = (λ j. h 0 x (omega arith) j || any_none test xs (λ i d l. h (suc i) d (omega arith)) j)

-- ---- the sides of a polygon are a chain

chain_walk : (ps : List Point) (first p : ℕ) (qs : List ℕ) → IsChain (point ps p) (sides_between ps (walk first p qs)) (point ps first)
chain_walk ps first p [] = go (p == first) refl
  where
    go : (b : Bool) → (p == first) ≡ b → IsChain (point ps p) (map (side_between ps) (cond (not b) (piece p first 0 ∷ []) [])) (point ps first)
    go true e = ap (point ps) (eqb-true p first e)
    go false e = (refl, refl)
chain_walk ps first p (q ∷ qs) = go (p == q) refl (chain_walk ps first q qs)
  where
    go : (b : Bool) → (p == q) ≡ b → IsChain (point ps q) (sides_between ps (walk first q qs)) (point ps first)
        → IsChain (point ps p) (map (side_between ps) (cond (not b) (piece p q 0 ∷ filter (λ s. not (s.a == s.b)) (walk first q qs)) (filter (λ s. not (s.a == s.b)) (walk first q qs)))) (point ps first)
    go true e h = subst (λ n. IsChain (point ps n) (sides_between ps (walk first q qs)) (point ps first)) (sym (eqb-true p q e)) h
    go false e h = (refl, h)

pub chain_sides : (ps : List Point) (p : ℕ) (qs : List ℕ) → IsChain (point ps p) (map (side_between ps) (sides (p ∷ qs))) (point ps p)
chain_sides ps p qs = subst (λ ss. IsChain (point ps p) (map (side_between ps) ss) (point ps p)) (sym (sides_walk p qs)) (chain_walk ps p p qs)

pub around_sides : (ps : List Point) (polygon : List ℕ) → (p : Point) × IsChain p (map (side_between ps) (sides polygon)) p
around_sides ps [] = (point ps 0, refl)
around_sides ps (p ∷ qs) = (point ps p, chain_sides ps p qs)
