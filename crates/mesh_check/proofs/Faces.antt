-- Sets of faces, into which faces are put.
use Rattle.std.proofs.Common.{◌≡◌, ◌≢◌, ℕ, ◌<◌, Bool, true, false, cond, nat_eq, ◌&&◌, List, [], ◌∷◌, ◌++◌, length, refl, ap, sym, subst, ◌∙◌, arith, inl, inr, eqb-true}
use Rattle.std.specs.Prelude.{◌↔◌, ◌⊎◌, Contains}
use Rattle.std.specs.List.{list_any}
use Rattle.std.specs.HashSet.{HashSet, contains}
use Rattle.std.proofs.lemmas.List.Elements.{Contains-append_left, Contains-push, Contains-push_cases}
use Rattle.geo_laws.specs.declared.faces.Face.{Face}
use Rattle.geo_laws.proofs.Members.{both_true}
use Rattle.mesh_check.specs.declared.face_set.FaceKey.{FaceKey}
use Rattle.mesh_check.specs.FaceSets.{key, same_key, HasFace, HasExactly}

same_face : (f g : Face) → same_key (key f) (key g) ≡ true → f ≡ g
same_face f g e =
    let h = both_true (nat_eq f.a g.a) (nat_eq f.b g.b && nat_eq f.c g.c) e in
    let k = both_true (nat_eq f.b g.b) (nat_eq f.c g.c) h.1 in
    λ j. record { a = eqb-true f.a g.a h.0 j; b = eqb-true f.b g.b k.0 j; c = eqb-true f.c g.c k.1 j }

nat_self : (n : ℕ) → nat_eq n n ≡ true
nat_self n = grind arith

self_key : (f : Face) → same_key (key f) (key f) ≡ true
self_key f = λ j. nat_self f.a j && (nat_self f.b j && nat_self f.c j)

put_cases : (b c : Bool) → cond b true c ≡ true → (b ≡ true) ⊎ (c ≡ true)
put_cases true c e = inl refl
put_cases false c e = inr e

put_old : (b c : Bool) → c ≡ true → cond b true c ≡ true
put_old true c e = refl
put_old false c e = e

put_new : (b c : Bool) → b ≡ true → cond b true c ≡ true
put_new b c e = ap (λ d. cond d true c) e

not_both : false ≡ true → ⊥
not_both e = cc

-- the second set has one face more than the first
abbrev pub HasMore : {S : Type 0} → HashSet FaceKey S → HashSet FaceKey S → Face → Type 0
HasMore s n g = (f : Face) → HasFace n f ↔ (HasFace s f ⊎ (g ≡ f))

pub put_is : {S : Type 0} (s n : HashSet FaceKey S) (k : FaceKey) (g : Face) → k ≡ key g → ((q : FaceKey) → contains same_key n q ≡ cond (same_key k q) true (contains same_key s q)) → HasMore s n g
put_is s n k g is u f = (λ e. to (put_cases same old (sym at ∙ e)), from)
  where
    at : contains same_key n (key f) ≡ cond (same_key (key g) (key f)) true (contains same_key s (key f))
    at = u (key f) ∙ (λ j. cond (same_key (is j) (key f)) true (contains same_key s (key f)))

    same : Bool
    same = same_key (key g) (key f)

    old : Bool
    old = contains same_key s (key f)

    to : (same ≡ true) ⊎ (old ≡ true) → HasFace s f ⊎ (g ≡ f)
    to (inl e) = inr (same_face g f e)
    to (inr e) = inl e

    from : HasFace s f ⊎ (g ≡ f) → HasFace n f
    from (inl h) = at ∙ put_old same old h
    from (inr e) = at ∙ put_new same old (subst (λ (h : Face). same_key (key g) (key h) ≡ true) e (self_key g))

empty_has_none : {S : Type 0} (s : HashSet FaceKey S) (k : FaceKey) → length s.keys ≡ 0 → contains same_key s k ≡ false
empty_has_none s k e = go s.keys e
  where
    go : (ks : List FaceKey) → length ks ≡ 0 → list_any (same_key k) ks ≡ false
    go [] e = refl
    go (q ∷ ks) e = absurd (omega arith)

pub exactly_none : {S : Type 0} (s : HashSet FaceKey S) → s.keys ≡ [] → HasExactly s []
exactly_none s e f = (λ h. absurd (not_both (sym (empty_has_none s (key f) (ap (λ (ks : List FaceKey). length ks) e)) ∙ h)), λ m. absurd (let l = m.1 in omega arith))

pub exactly_more : {S : Type 0} (s n : HashSet FaceKey S) (fs : List Face) (g : Face) → HasExactly s fs → HasMore s n g → HasExactly n (fs ++ g ∷ [])
exactly_more s n fs g h put f = (λ x. to ((put f).0 x), λ m. (put f).1 (from (Contains-push_cases fs g f m)))
  where
    to : HasFace s f ⊎ (g ≡ f) → Contains (fs ++ g ∷ []) f
    to (inl old) = Contains-append_left fs (g ∷ []) f ((h f).0 old)
    to (inr e) = subst (λ (x : Face). Contains (fs ++ g ∷ []) x) e (Contains-push fs g)

    from : Contains fs f ⊎ (g ≡ f) → HasFace s f ⊎ (g ≡ f)
    from (inl m) = inl ((h f).1 m)
    from (inr e) = inr e

joined : (fs : List Face) (g1 g2 g3 g4 : Face) → (((fs ++ g1 ∷ []) ++ g2 ∷ []) ++ g3 ∷ []) ++ g4 ∷ [] ≡ fs ++ g1 ∷ g2 ∷ g3 ∷ g4 ∷ []
joined [] g1 g2 g3 g4 = refl
joined (f ∷ fs) g1 g2 g3 g4 = ap (λ (hs : List Face). f ∷ hs) (joined fs g1 g2 g3 g4)

-- four more
pub exactly_four : {S : Type 0} (s n1 n2 n3 n4 : HashSet FaceKey S) (fs : List Face) (g1 g2 g3 g4 : Face) → HasExactly s fs → HasMore s n1 g1 → HasMore n1 n2 g2 → HasMore n2 n3 g3 → HasMore n3 n4 g4
    → HasExactly n4 (fs ++ g1 ∷ g2 ∷ g3 ∷ g4 ∷ [])
exactly_four s n1 n2 n3 n4 fs g1 g2 g3 g4 h p1 p2 p3 p4 =
    let a = exactly_more s n1 fs g1 h p1 in
    let b = exactly_more n1 n2 (fs ++ g1 ∷ []) g2 a p2 in
    let c = exactly_more n2 n3 ((fs ++ g1 ∷ []) ++ g2 ∷ []) g3 b p3 in
    let d = exactly_more n3 n4 (((fs ++ g1 ∷ []) ++ g2 ∷ []) ++ g3 ∷ []) g4 c p4 in
    subst (HasExactly n4) (joined fs g1 g2 g3 g4) d
