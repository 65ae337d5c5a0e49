-- What is noted of two sides with the same ends, and of all.
use Rattle.std.proofs.Common.{◌≡◌, ◌≢◌, ◌⊎◌, inl, inr, ℕ, ◌+◌, ◌<◌, ◌≤◌, Bool, true, false, List, [], ◌∷◌, ◌++◌, length, refl, ap, sym, ◌∙◌, subst, arith, eqb-true, eq-eqb, ne_eqb}
use Rattle.std.specs.Prelude.{◌==◌, ◌&&◌, if◌then◌else◌, min, max, Contains, Option, Some, None}
use Rattle.std.specs.List.{list_any}
use Rattle.indexmap.specs.IndexSet.{insert_key}
use Rattle.sign_predicates.specs.Point.{Point}
use Rattle.geo_laws.specs.Complex.{Complex}
use Rattle.geo_laws.specs.Segment.{piece, same_ends}
use Rattle.geo_laws.specs.declared.complex.Piece.{Piece}
use Rattle.geo_laws.proofs.Members.{IsMember, here, at_place, member_of, contains_of, both_true, some_true, in_append_left, in_append_right, append_cases, in_cons}
use Rattle.merged_facets.specs.Merged.{AreJoined, AreChained, alone, onward, IsInner}
use Rattle.merged_facets.proofs.FacetGroups.{law_joined_back}
use Rattle.incidence.proofs.Found.{SameEnds, same_of, by_order}
use Rattle.merged_facets.specs.Labels.{IsForest, AreLabels, joined_label}
use Rattle.merged_facets.specs.FacetSides.{facet_side, ends_of, ends_at, IsPair, AreFacetSidesOf, IsLastBefore}
use Rattle.merged_facets.specs.Merging.{inner_side, WithInner, IsNoted, Grows, NotesPair, facet_side_at, IsBehind, AreNotedBehind, AreInnerFound, HasFound}
use Rattle.merged_facets.specs.declared.sides.FacetSide.{FacetSide}
use Rattle.merged_facets.specs.declared.sides.Ends.{Ends}
use Rattle.merged_facets.specs.declared.merging.InnerSide.{InnerSide}
use Rattle.merged_facets.proofs.Joins.{joined_alike}

-- ---- ends

pub alike_of : (s r : Piece) → ends_of s ≡ ends_of r → SameEnds s r
alike_of s r e =
    same_of s r (sym (by_order s r) ∙ (λ j. eq-eqb (min s.a s.b) (min r.a r.b) (ap (λ (x : Ends). x.low) e) j && eq-eqb (max s.a s.b) (max r.a r.b) (ap (λ (x : Ends). x.high) e) j))

pub ends_same : (s r : Piece) → same_ends s r ≡ true → ends_of s ≡ ends_of r
ends_same s r h =
    let e = both_true (min s.a s.b == min r.a r.b) (max s.a s.b == max r.a r.b) (by_order s r ∙ h) in
    λ j. record { low = eqb-true (min s.a s.b) (min r.a r.b) e.0 j; high = eqb-true (max s.a s.b) (max r.a r.b) e.1 j }

-- ---- one more inner side

abbrev pub same_inner : InnerSide → InnerSide → Bool
same_inner p q = p.facet == q.facet && (p.ends.low == q.ends.low && p.ends.high == q.ends.high)

inner_equal : (p q : InnerSide) → same_inner p q ≡ true → p ≡ q
inner_equal p q h =
    let r = both_true (p.facet == q.facet) (p.ends.low == q.ends.low && p.ends.high == q.ends.high) h in
    let s = both_true (p.ends.low == q.ends.low) (p.ends.high == q.ends.high) r.1 in
    λ j. record { facet = eqb-true p.facet q.facet r.0 j; ends = record { low = eqb-true p.ends.low q.ends.low s.0 j; high = eqb-true p.ends.high q.ends.high s.1 j } }

pub inner_added : (keys new : List InnerSide) (k : InnerSide) → new ≡ insert_key same_inner keys k → WithInner keys k new
inner_added keys new k is = subst (λ (xs : List InnerSide). WithInner keys k xs) (sym is) (go (list_any (same_inner k) keys) refl)
  where
    go : (b : Bool) → list_any (same_inner k) keys ≡ b → WithInner keys k (if b then keys else keys ++ k ∷ [])
    go true e =
        let r = some_true (same_inner k) keys e in
        record { kept = λ x m. m; added = subst (λ (x : InnerSide). Contains keys x) (sym (inner_equal k r.0 r.2)) (contains_of keys r.0 r.1); only = λ x m. inl m }
    go false e = record {
      kept = λ x m. contains_of (keys ++ k ∷ []) x (in_append_left x keys (k ∷ []) (member_of keys x m));
      added = contains_of (keys ++ k ∷ []) k (in_append_right k keys (k ∷ []) here);
      only = λ x m. last x (append_cases x keys (k ∷ []) (member_of (keys ++ k ∷ []) x m));
    }
      where
        last : (x : InnerSide) → IsMember x keys ⊎ IsMember x (k ∷ []) → Contains keys x ⊎ (x ≡ k)
        last x (inl m) = inl (contains_of keys x m)
        last x (inr m) = one (in_cons x k [] m)
          where
            one : (x ≡ k) ⊎ IsMember x [] → Contains keys x ⊎ (x ≡ k)
            one (inl e) = inr e
            one (inr n) = elim n [ ]

-- ---- two labels made one

low_or_high : (m n : ℕ) → ((max m n ≡ m) × (min m n ≡ n)) ⊎ ((max m n ≡ n) × (min m n ≡ m))
low_or_high m n = go (either m n)
  where
    either : (m n : ℕ) → (n ≤ m) ⊎ (m ≤ n)
    either m n = grind arith

    go : (n ≤ m) ⊎ (m ≤ n) → ((max m n ≡ m) × (min m n ≡ n)) ⊎ ((max m n ≡ n) × (min m n ≡ m))
    go (inl h) = inl (omega arith, omega arith)
    go (inr h) = inr (omega arith, omega arith)

same_or_other : (a b : ℕ) → (a ≡ b) ⊎ (a ≢ b)
same_or_other a b = grind arith

joined_yes : (m n : ℕ) (label : ℕ → ℕ) (f : ℕ) → label f ≡ max m n → joined_label m n label f ≡ min m n
joined_yes m n label f e = ap (λ t. if t then min m n else label f) (eq-eqb (label f) (max m n) e)

joined_no : (m n : ℕ) (label : ℕ → ℕ) (f : ℕ) → label f ≢ max m n → joined_label m n label f ≡ label f
joined_no m n label f e = ap (λ t. if t then min m n else label f) (ne_eqb (label f) (max m n) e)

-- both labels become the lesser one
joined_either : (m n : ℕ) (label : ℕ → ℕ) (f : ℕ) → (label f ≡ m) ⊎ (label f ≡ n) → joined_label m n label f ≡ min m n
joined_either m n label f h = go (same_or_other (label f) (max m n))
  where
    lesser : (k m n : ℕ) → (k ≡ m) ⊎ (k ≡ n) → k ≢ max m n → k ≡ min m n
    lesser k m n (inl e) d = grind arith
    lesser k m n (inr e) d = grind arith

    go : (label f ≡ max m n) ⊎ (label f ≢ max m n) → joined_label m n label f ≡ min m n
    go (inl e) = joined_yes m n label f e
    go (inr e) = joined_no m n label f e ∙ lesser (label f) m n h e

-- ---- chains

pub chains : (ps : List Point) (c : Complex) (f g h : ℕ) → AreChained ps c f g → AreChained ps c g h → AreChained ps c f h
chains ps c _ _ h (alone f) k = k
chains ps c _ _ h (onward f m g s j r) k = onward f m h s j (chains ps c m g h r k)

pub chain_back : (ps : List Point) (c : Complex) (f g : ℕ) → AreChained ps c f g → AreChained ps c g f
chain_back ps c _ _ (alone f) = alone f
chain_back ps c _ _ (onward f m g s j r) = chains ps c g m f (chain_back ps c m g r) (onward m f f s (law_joined_back ps c s f m j) (alone f))

-- each facet is chained with its label after two groups of joined facets are made one
joined_chained : (ps : List Point) (c : Complex) (s : Piece) (x y : ℕ) (label : ℕ → ℕ) → AreJoined ps c s x y → ((f : ℕ) → AreChained ps c f (label f)) → (f : ℕ)
    → AreChained ps c f (joined_label (label x) (label y) label f)
joined_chained ps c s x y label j h f = go (same_or_other (label f) (max (label x) (label y)))
  where
    across : AreChained ps c (label x) (label y)
    across = chains ps c (label x) x (label y) (chain_back ps c x (label x) (h x)) (onward x y (label y) s j (h y))

    down : ((max (label x) (label y) ≡ label x) × (min (label x) (label y) ≡ label y)) ⊎ ((max (label x) (label y) ≡ label y) × (min (label x) (label y) ≡ label x))
        → AreChained ps c (max (label x) (label y)) (min (label x) (label y))
    down (inl e) = subst (λ (i : ℕ). AreChained ps c i (min (label x) (label y))) (sym e.0) (subst (λ (i : ℕ). AreChained ps c (label x) i) (sym e.1) across)
    down (inr e) =
        subst (λ (i : ℕ). AreChained ps c i (min (label x) (label y))) (sym e.0) (subst (λ (i : ℕ). AreChained ps c (label y) i) (sym e.1) (chain_back ps c (label x) (label y) across))

    go : (label f ≡ max (label x) (label y)) ⊎ (label f ≢ max (label x) (label y)) → AreChained ps c f (joined_label (label x) (label y) label f)
    go (inl e) =
        subst (λ (i : ℕ). AreChained ps c f i) (sym (joined_yes (label x) (label y) label f e))
        (chains ps c f (max (label x) (label y)) (min (label x) (label y)) (subst (λ (i : ℕ). AreChained ps c f i) e (h f)) (down (low_or_high (label x) (label y))))
    go (inr e) = subst (λ (i : ℕ). AreChained ps c f i) (sym (joined_no (label x) (label y) label f e)) (h f)

-- ---- a pair

pub pair_noted : (ps : List Point) (c : Complex) (x y : FacetSide) (down down' : List ℕ) (inner one two : List InnerSide) → IsPair c x y → AreJoined ps c x.side x.facet y.facet
    → WithInner inner (inner_side x) one → WithInner one (inner_side y) two → IsForest down' → length down' ≡ length down
    → ((label : ℕ → ℕ) → AreLabels down label → AreLabels down' (joined_label (label x.facet) (label y.facet) label)) → NotesPair ps c x y down inner down' two
pair_noted ps c x y down down' inner one two pair j with_x with_y forest long labels label h = (
  joined_label (label x.facet) (label y.facet) label,
  record { forest = forest; long = long ∙ h.long; labels = labels label h.labels; chained = joined_chained ps c x.side x.facet y.facet label j h.chained; inner_is = inner_is },
  record { same = λ f g e. ap (λ (n : ℕ). if n == max (label x.facet) (label y.facet) then min (label x.facet) (label y.facet) else n) e; kept = λ k m. with_y.kept k (with_x.kept k m) },
  λ n. (
    joined_either (label x.facet) (label y.facet) label x.facet (inl refl) ∙ sym (joined_either (label x.facet) (label y.facet) label y.facet (inr refl)),
    with_y.kept (inner_side x) with_x.added,
    with_y.added,
  ),
)
  where
    of_x : (s : Piece) → ends_of s ≡ ends_of x.side → IsInner ps c x.facet s
    of_x s e = (y.facet, joined_alike ps c x.side s x.facet y.facet (alike_of x.side s (sym e)) j)

    of_y : (s : Piece) → ends_of s ≡ ends_of y.side → IsInner ps c y.facet s
    of_y s e = (x.facet, law_joined_back ps c s x.facet y.facet (joined_alike ps c x.side s x.facet y.facet (alike_of x.side s (sym pair.same ∙ sym e)) j))

    inner_is : (k : InnerSide) (s : Piece) → Contains two k → ends_of s ≡ k.ends → IsInner ps c k.facet s
    inner_is k s m e = second (with_y.only k m)
      where
        first : Contains inner k ⊎ (k ≡ inner_side x) → IsInner ps c k.facet s
        first (inl n) = h.inner_is k s n e
        first (inr d) = subst (λ (i : ℕ). IsInner ps c i s) (sym (ap (λ (k : InnerSide). k.facet) d)) (of_x s (e ∙ ap (λ (k : InnerSide). k.ends) d))

        second : Contains one k ⊎ (k ≡ inner_side y) → IsInner ps c k.facet s
        second (inl n) = first (with_x.only k n)
        second (inr d) = subst (λ (i : ℕ). IsInner ps c i s) (sym (ap (λ (k : InnerSide). k.facet) d)) (of_y s (e ∙ ap (λ (k : InnerSide). k.ends) d))

pub pair_passed : (ps : List Point) (c : Complex) (x y : FacetSide) (down : List ℕ) (inner : List InnerSide) → (AreJoined ps c x.side x.facet y.facet → ⊥) → NotesPair ps c x y down inner down inner
pair_passed ps c x y down inner n label h = (label, h, record { same = λ f g e. e; kept = λ k m. m }, λ j. absurd (n j))

-- ---- a side and all earlier ones

pub behind_first : (ps : List Point) (c : Complex) (list : List FacetSide) (i : ℕ) (o : Option ℕ) (inner : List InnerSide) (label : ℕ → ℕ) → IsLastBefore list i (ends_at list i) o
    → AreNotedBehind ps c list i o inner label
behind_first ps c list i None inner label h = λ j l b e. absurd (h j l e)
behind_first ps c list i (Some m) inner label h = λ j l b e. absurd (h.2 j b l e)

pub grown : (ps : List Point) (c : Complex) (inner inner' : List InnerSide) (label label' : ℕ → ℕ) (x y : FacetSide) → Grows inner label inner' label' → IsNoted ps c inner label x y
    → IsNoted ps c inner' label' x y
grown ps c inner inner' label label' x y g h j = let r = h j in (g.same x.facet y.facet r.0, g.kept (inner_side x) r.1, g.kept (inner_side y) r.2)

before_after : (a b : ℕ) → (a < b) ⊎ ((a ≡ b) ⊎ (b < a))
before_after a b = grind arith

pub behind_more : (ps : List Point) (c : Complex) (list : List FacetSide) (i m : ℕ) (o : Option ℕ) (inner inner' : List InnerSide) (label label' : ℕ → ℕ) → ends_at list m ≡ ends_at list i
    → IsLastBefore list m (ends_at list m) o → AreNotedBehind ps c list i (Some m) inner label → Grows inner label inner' label' → IsNoted ps c inner' label' (facet_side_at list i) (facet_side_at list m)
    → AreNotedBehind ps c list i o inner' label'
behind_more ps c list i m o inner inner' label label' same last old g pair = λ j l b e. go j l b e (before_after j m)
  where
    none : (o : Option ℕ) (j : ℕ) → IsLastBefore list m (ends_at list m) o → j < m → IsBehind o j → ends_at list j ≡ ends_at list m → ⊥
    none None j h l b e = h j l e
    none (Some k) j h l b e = h.2 j b l e

    go : (j : ℕ) → j < i → IsBehind o j → ends_at list j ≡ ends_at list i → (j < m) ⊎ ((j ≡ m) ⊎ (m < j)) → IsNoted ps c inner' label' (facet_side_at list i) (facet_side_at list j)
    go j l b e (inl before) = absurd (none o j last before b (e ∙ sym same))
    go j l b e (inr (inl at)) = subst (λ (k : ℕ). IsNoted ps c inner' label' (facet_side_at list i) (facet_side_at list k)) (sym at) pair
    go j l b e (inr (inr after)) = grown ps c inner inner' label label' (facet_side_at list i) (facet_side_at list j) g (old j l after e)

-- while the earlier ones are gone over
pub record IsNoting (ps : List Point) (c : Complex) (list : List FacetSide) (i : ℕ) (next : Option ℕ) (down : List ℕ) (inner : List InnerSide) (label : ℕ → ℕ) : Type 0 where
  pub found : AreInnerFound ps c list i down inner label
  pub behind : AreNotedBehind ps c list i next inner label

abbrev pub HasNoting : List Point → Complex → List FacetSide → ℕ → Option ℕ → List ℕ → List InnerSide → Type 0
HasNoting ps c list i next down inner = (label : ℕ → ℕ) × IsNoting ps c list i next down inner label

-- the place that comes next is before i, and has the same ends
abbrev pub IsAlikeBefore : List FacetSide → ℕ → Option ℕ → Type 0
IsAlikeBefore list i None = Unit {0}
IsAlikeBefore list i (Some m) = (m < i) × (ends_at list m ≡ ends_at list i)

-- how far the place that comes next is from the front
abbrev pub rank : Option ℕ → ℕ
rank None = 0
rank (Some m) = m + 1

pub rank_falls : (list : List FacetSide) (m : ℕ) (o next : Option ℕ) → next ≡ Some m → IsLastBefore list m (ends_at list m) o → rank o < rank next
rank_falls list m o next e h = subst (λ (p : Option ℕ). rank o < rank p) (sym e) (go o h)
  where
    go : (o : Option ℕ) → IsLastBefore list m (ends_at list m) o → rank o < m + 1
    go None h = omega arith
    go (Some k) h = omega (arith, h.0)

pub alike_first : (list : List FacetSide) (i : ℕ) (o : Option ℕ) → IsLastBefore list i (ends_at list i) o → IsAlikeBefore list i o
alike_first list i None h = tt
alike_first list i (Some m) h = (h.0, h.1)

pub alike_more : (list : List FacetSide) (i m : ℕ) (o : Option ℕ) → m < i → ends_at list m ≡ ends_at list i → IsLastBefore list m (ends_at list m) o → IsAlikeBefore list i o
alike_more list i m None l e h = tt
alike_more list i m (Some k) l e h = (omega (arith, h.0), h.1 ∙ e)

pub noting_first : (ps : List Point) (c : Complex) (list : List FacetSide) (i : ℕ) (o : Option ℕ) (down : List ℕ) (inner : List InnerSide) → IsLastBefore list i (ends_at list i) o
    → HasFound ps c list i down inner → HasNoting ps c list i o down inner
noting_first ps c list i o down inner last h = (h.0, record { found = h.1; behind = behind_first ps c list i o inner h.0 last })

pub noting_more : (ps : List Point) (c : Complex) (list : List FacetSide) (i m : ℕ) (o : Option ℕ) (x y : FacetSide) (down down' : List ℕ) (inner inner' : List InnerSide)
    → facet_side_at list i ≡ x → facet_side_at list m ≡ y → ends_at list m ≡ ends_at list i → IsLastBefore list m (ends_at list m) o → NotesPair ps c x y down inner down' inner'
    → HasNoting ps c list i (Some m) down inner → HasNoting ps c list i o down' inner'
noting_more ps c list i m o x y down down' inner inner' ex ey same last put h =
    let n = put h.0 h.1.found.sound in (
      n.0,
      record {
        found = record { sound = n.1; noted = λ k l j b u e. grown ps c inner inner' h.0 n.0 (facet_side_at list k) (facet_side_at list j) n.2 (h.1.found.noted k l j b u e) };
        behind =
            behind_more ps c list i m o inner inner' h.0 n.0 same last h.1.behind n.2
            (subst (λ (z : FacetSide). IsNoted ps c inner' n.0 z (facet_side_at list m)) (sym ex) (subst (λ (z : FacetSide). IsNoted ps c inner' n.0 x z) (sym ey) n.3));
      },
    )

pub noting_all : (ps : List Point) (c : Complex) (list : List FacetSide) (i : ℕ) (down : List ℕ) (inner : List InnerSide) → HasNoting ps c list i None down inner → HasFound ps c list (i + 1) down inner
noting_all ps c list i down inner h = (h.0, record { sound = h.1.found.sound; noted = λ k l. go k (before k i l) })
  where
    before : (a b : ℕ) → a < b + 1 → (a < b) ⊎ (a ≡ b)
    before a b h = grind arith

    go : (k : ℕ) → (k < i) ⊎ (k ≡ i) → AreNotedBehind ps c list k None inner h.0
    go k (inl less) = h.1.found.noted k less
    go k (inr e) = subst (λ (n : ℕ). AreNotedBehind ps c list n None inner h.0) (sym e) h.1.behind

pub pair_of : (c : Complex) (list : List FacetSide) (i m : ℕ) (x y : FacetSide) → AreFacetSidesOf c list → i < length list → m < i → facet_side_at list i ≡ x → facet_side_at list m ≡ y → ends_at list m ≡ ends_at list i
    → IsPair c x y
pair_of c list i m x y h li lm ex ey e = record {
  first = h.each x (subst (λ (z : FacetSide). Contains list z) ex (contains_of list (facet_side_at list i) (at_place list i (facet_side 0 (piece 0 0 0)) li)));
  second = h.each y (subst (λ (z : FacetSide). Contains list z) ey (contains_of list (facet_side_at list m) (at_place list m (facet_side 0 (piece 0 0 0)) (omega arith))));
  same = sym (ap (λ (z : FacetSide). ends_of z.side) ey) ∙ e ∙ ap (λ (z : FacetSide). ends_of z.side) ex;
}
