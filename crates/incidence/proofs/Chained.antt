-- Faces that are chained from each one to the next in its chain, and followed.
use Rattle.std.proofs.Common.{◌≡◌, ◌↔◌, ◌⊎◌, inl, inr, ℕ, zero, suc, ◌+◌, ◌<◌, ◌≤◌, Bool, true, false, List, [], ◌∷◌, length, get_or, set, refl, ap, sym, subst, ◌∙◌, arith, eq-eqb, eqb-true}
use Rattle.std.specs.Prelude.{Contains, ◌&&◌, nat_eq}
use Rattle.std.proofs.lemmas.Bool.{cases_order}
use Rattle.std.proofs.lemmas.Grind.{get_or-set_at}
use Rattle.std.proofs.lemmas.List.{get_or-set_other, length-set}
use Rattle.geo_laws.proofs.Members.{both_true}
use Rattle.geo_laws.specs.declared.faces.Face.{Face}
use Rattle.incidence.specs.Chains.{face_at, chain_of, IsNextFace, AreLinkedFaces, AreMarkedTo}
use Rattle.geo_laws.specs.Marks.{is_marked}

-- there is no face after the last one
next_end : (faces : List Face) (chain place : ℕ) → place ≡ length faces → IsNextFace faces chain (length faces) place
next_end faces chain place e = record { after = omega (arith, e); within = omega (arith, e); like = λ h. absurd (omega (arith, e, h)); first = λ k l h. absurd (omega (arith, l, h, e)) }

-- a face of the chain is the first one from itself on
next_here : (faces : List Face) (chain at : ℕ) → at < length faces → chain_of (face_at faces at) ≡ chain → IsNextFace faces chain at at
next_here faces chain at h e = record { after = omega arith; within = omega (arith, h); like = λ g. e; first = λ k l g. absurd (omega (arith, l, g)) }

-- a face of another chain is passed over
next_skips : (faces : List Face) (chain at place : ℕ) → ¬ (chain_of (face_at faces at) ≡ chain) → IsNextFace faces chain (at + 1) place → IsNextFace faces chain at place
next_skips faces chain at place n x = record { after = omega (arith, x.after); within = x.within; like = x.like; first = λ k l g. here k l g (cases_order k at) }
  where
    here : (k : ℕ) → at ≤ k → k < place → (k ≡ at) ⊎ ((k < at) ⊎ (at < k)) → ¬ (chain_of (face_at faces k) ≡ chain)
    here k l g (inl e) = subst (λ i. ¬ (chain_of (face_at faces i) ≡ chain)) (sym e) n
    here k l g (inr (inl e)) = absurd (omega (arith, l, e))
    here k l g (inr (inr e)) = x.first k (omega (arith, e)) g

pub chained_first : (faces : List Face) (first next : List ℕ) → ((k : ℕ) → k < length faces → chain_of (face_at faces k) < length first) → length next ≡ length faces
    → ((b d : ℕ) → b < length first → get_or first b d ≡ length faces) → AreLinkedFaces faces (length faces) first next
chained_first faces first next chains links end = record {
  chains = chains;
  links = links;
  within = omega arith;
  begins = λ b d h. next_end faces b (get_or first b d) (end b d h);
  follows = λ i d l h. absurd (omega (arith, l, h));
}

-- the face before is linked to the first one of its chain, and becomes the first one
pub chained_next : (faces : List Face) (at b old : ℕ) (first next : List ℕ) → at < length faces → b ≡ chain_of (face_at faces at) → old ≡ get_or first b old
    → AreLinkedFaces faces (at + 1) first next → AreLinkedFaces faces at (set first b at) (set next at old)
chained_next faces at b old first next there is was x = record {
  chains = λ k h. subst (λ n. chain_of (face_at faces k) < n) (sym (length-set first b at)) (x.chains k h);
  links = length-set next at old ∙ x.links;
  within = omega (arith, there);
  begins = λ k d h. head k d (subst (λ n. k < n) (length-set first b at) h) (cases_order k b);
  follows = λ i d l h. link i d l h (cases_order i at);
}
  where
    small : b < length first
    small = subst (λ n. n < length first) (sym is) (x.chains at there)

    other_head : (k d : ℕ) → k < length first → ¬ (k ≡ b) → IsNextFace faces k at (get_or (set first b at) k d)
    other_head k d h n =
        subst (IsNextFace faces k at) (sym (get_or-set_other first b k at d n))
        (next_skips faces k at (get_or first k d) (λ e. n (sym (is ∙ e))) (x.begins k d h))

    head : (k d : ℕ) → k < length first → (k ≡ b) ⊎ ((k < b) ⊎ (b < k)) → IsNextFace faces k at (get_or (set first b at) k d)
    head k d h (inl e) = subst (IsNextFace faces k at) (sym (get_or-set_at first b k at d e (omega (arith, small)))) (next_here faces k at there (sym is ∙ sym e))
    head k d h (inr (inl e)) = other_head k d h (λ q. omega (arith, q, e))
    head k d h (inr (inr e)) = other_head k d h (λ q. omega (arith, q, e))

    After : ℕ → ℕ → Type 0
    After j p = IsNextFace faces (chain_of (face_at faces j)) (j + 1) p

    here : After at old
    here = subst (λ c. IsNextFace faces c (at + 1) old) is (subst (IsNextFace faces b (at + 1)) (sym was) (x.begins b old small))

    link : (i d : ℕ) → at ≤ i → i < length faces → (i ≡ at) ⊎ ((i < at) ⊎ (at < i)) → After i (get_or (set next at old) i d)
    link i d l h (inl e) = subst (λ j. After j (get_or (set next at old) i d)) (sym e) (subst (After at) (sym (get_or-set_at next at i old d e (omega (arith, x.links, there)))) here)
    link i d l h (inr (inl e)) = absurd (omega (arith, l, e))
    link i d l h (inr (inr e)) = subst (After i) (sym (get_or-set_other next at i old d (λ q. omega (arith, q, e)))) (x.follows i d (omega (arith, e)) h)

-- a chain beyond all has no face
pub next_none : (faces : List Face) (first next : List ℕ) (chain place : ℕ) → AreLinkedFaces faces 0 first next → length first ≤ chain → place ≡ length faces → IsNextFace faces chain 0 place
next_none faces first next chain place x beyond e = record {
  after = omega arith;
  within = omega (arith, e);
  like = λ h. absurd (omega (arith, e, h));
  first = λ k l h d. absurd (let m = x.chains k (omega (arith, e, h)) in omega (arith, beyond, d, m));
}

-- ---- places with another face

-- no face before a place is this one
abbrev pub IsNotBefore : List Face → Face → ℕ → Type 0
IsNotBefore faces face past = (k : ℕ) → k < past → k < length faces → ¬ (face_at faces k ≡ face)

pub not_first : (faces : List Face) (face : Face) (place : ℕ) → IsNextFace faces (chain_of face) 0 place → IsNotBefore faces face place
not_first faces face place x k l h e = x.first k (omega arith) l (ap chain_of e)

pub not_next : (faces : List Face) (face : Face) (at place : ℕ) → chain_of (face_at faces at) ≡ chain_of face → ¬ (face_at faces at ≡ face) → IsNextFace faces (chain_of (face_at faces at)) (at + 1) place
    → IsNotBefore faces face at → IsNotBefore faces face place
not_next faces face at place like n x before k l h e = go (cases_order k at)
  where
    go : (k ≡ at) ⊎ ((k < at) ⊎ (at < k)) → ⊥
    go (inl d) = n (subst (λ i. face_at faces i ≡ face) d e)
    go (inr (inl d)) = before k d h e
    go (inr (inr d)) = x.first k (omega (arith, d)) l (ap chain_of e ∙ sym like)

face_default : (faces : List Face) (k : ℕ) (d e : Face) → k < length faces → get_or faces k d ≡ get_or faces k e
face_default [] k d e h = absurd (omega arith)
face_default (t ∷ faces) zero d e h = refl
face_default (t ∷ faces) (suc k) d e h = face_default faces k d e (omega arith)

pub has_at : (faces : List Face) (face : Face) (k : ℕ) → k < length faces → face_at faces k ≡ face → Contains faces face
has_at faces face k h e = (k, h, face_default faces k face _ h ∙ e)

pub has_none : (faces : List Face) (face : Face) (past : ℕ) → length faces ≤ past → IsNotBefore faces face past → ¬ Contains faces face
has_none faces face past over before (k, h, e) = before k (omega (arith, over, h)) h (face_default faces k _ face h ∙ e)

-- ---- equal faces

pub same_corners : (f g : Face) → nat_eq f.a g.a && (nat_eq f.b g.b && nat_eq f.c g.c) ≡ true → f ≡ g
same_corners f g e =
    let p = both_true _ _ e in
    let q = both_true _ _ p.1 in
    λ z. record { a = eqb-true f.a g.a p.0 z; b = eqb-true f.b g.b q.0 z; c = eqb-true f.c g.c q.1 z }

all_true : (x y z : Bool) → x ≡ true → y ≡ true → z ≡ true → x && (y && z) ≡ true
all_true x y z e f g = subst (λ b. b && (y && z) ≡ true) (sym e) (subst (λ b. b && z ≡ true) (sym f) g)

pub corners_same : (f g : Face) → f ≡ g → nat_eq f.a g.a && (nat_eq f.b g.b && nat_eq f.c g.c) ≡ true
corners_same f g e =
    all_true (nat_eq f.a g.a) (nat_eq f.b g.b) (nat_eq f.c g.c) (eq-eqb f.a g.a (ap (λ (h : Face). h.a) e)) (eq-eqb f.b g.b (ap (λ (h : Face). h.b) e)) (eq-eqb f.c g.c (ap (λ (h : Face). h.c) e))

-- ---- marks

pub marked_first : (faces : List Face) (face : Face) (place : ℕ) (marks : List Bool) → IsNextFace faces (chain_of face) 0 place → AreMarkedTo faces face place marks marks
marked_first faces face place marks x = record {
  long = refl;
  before = λ k l h. (λ m. inl m, λ w. elim w [ inl m ↦ m | inr e ↦ absurd (x.first k (omega arith) l (ap chain_of e)) ]);
  rest = λ k l. refl;
}

-- the place itself is marked exactly where it was or has the face; those passed over are of other chains
pub marked_next : (faces : List Face) (face : Face) (at place : ℕ) (old marks new : List Bool) → at < length faces → length marks ≡ length faces → chain_of (face_at faces at) ≡ chain_of face
    → IsNextFace faces (chain_of (face_at faces at)) (at + 1) place
    → ((is_marked new at ≡ true) ↔ ((is_marked marks at ≡ true) ⊎ (face_at faces at ≡ face))) → length new ≡ length marks → ((k : ℕ) → ¬ (k ≡ at) → is_marked new k ≡ is_marked marks k)
    → AreMarkedTo faces face at old marks → AreMarkedTo faces face place old new
marked_next faces face at place old marks new there long like x here same others was = record {
  long = same ∙ was.long;
  before = λ k l h. go k l h (cases_order k at);
  rest = λ k l. others k (λ e. omega (arith, e, l, x.after)) ∙ was.rest k (let m = x.after in omega (arith, l));
}
  where
    Wanted : ℕ → Type 0
    Wanted k = (is_marked new k ≡ true) ↔ ((is_marked old k ≡ true) ⊎ (face_at faces k ≡ face))

    at_it : Wanted at
    at_it = subst (λ b. (is_marked new at ≡ true) ↔ ((b ≡ true) ⊎ (face_at faces at ≡ face))) (was.rest at (omega arith)) here

    kept : (k : ℕ) → is_marked new k ≡ is_marked old k → ¬ (face_at faces k ≡ face) → Wanted k
    kept k e n = (λ m. inl (sym e ∙ m), λ w. elim w [ inl m ↦ e ∙ m | inr d ↦ absurd (n d) ])

    go : (k : ℕ) → k < place → k < length faces → (k ≡ at) ⊎ ((k < at) ⊎ (at < k)) → Wanted k
    go k l h (inl d) = subst Wanted (sym d) at_it
    go k l h (inr (inl d)) = subst (λ b. (b ≡ true) ↔ ((is_marked old k ≡ true) ⊎ (face_at faces k ≡ face))) (sym (others k (λ e. omega (arith, e, d)))) (was.before k d h)
    go k l h (inr (inr d)) =
        kept k (others k (λ e. omega (arith, e, d)) ∙ was.rest k (omega (arith, d))) (λ e. x.first k (omega (arith, d)) l (ap chain_of e ∙ sym like))

pub set_marked : (faces : List Face) (face : Face) (at : ℕ) (marks : List Bool) → at < length marks → face_at faces at ≡ face
    → (is_marked (set marks at true) at ≡ true) ↔ ((is_marked marks at ≡ true) ⊎ (face_at faces at ≡ face))
set_marked faces face at marks h e = (λ m. inr e, λ w. get_or-set_at marks at at true false refl h)

pub still_marked : (faces : List Face) (face : Face) (at : ℕ) (marks : List Bool) → ¬ (face_at faces at ≡ face)
    → (is_marked marks at ≡ true) ↔ ((is_marked marks at ≡ true) ⊎ (face_at faces at ≡ face))
still_marked faces face at marks n = (λ m. inl m, λ w. elim w [ inl m ↦ m | inr e ↦ absurd (n e) ])
