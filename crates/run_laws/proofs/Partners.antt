-- The neighbors of renamed rows.
use Rattle.std.proofs.Common.{◌≡◌, ℕ, ◌+◌, Bool, true, false, eqb, not, ◌&&◌, ◌||◌, cond, List, [], ◌∷◌, map, Option, Some, refl, ap, ◌∙◌}
use Rattle.std.specs.Prelude.{find, option_map}
use Rattle.std.specs.List.{enumerate_from}
use Rattle.geo_laws.specs.Faces.{face_of}
use Rattle.geo_laws.specs.declared.faces.Face.{Face}
use Rattle.geo_laws.specs.declared.tetrahedra.Tet.{Tet}
use Rattle.incidence.specs.Pairs.{is_face, has_face, is_partner, partner}
use Rattle.run_laws.specs.Renamed.{renamed_row}
use Rattle.run_laws.proofs.Renaming.{Rises, renamed, face_renamed, same_test}

is_face_renamed : (r : ℕ → ℕ) → Rises r → (i j k : ℕ) (f : Face) → is_face (face_of (r i) (r j) (r k)) (renamed r f) ≡ is_face (face_of i j k) f
is_face_renamed r up i j k f =
    let g = face_of i j k in
    ap (λ (h : Face). is_face h (renamed r f)) (face_renamed r up i j k)
    ∙ (λ n. same_test r up g.a f.a n && (same_test r up g.b f.b n && same_test r up g.c f.c n))

has_face_renamed : (r : ℕ → ℕ) → Rises r → (f : Face) (t : Tet) → has_face (renamed r f) (renamed_row r t) ≡ has_face f t
has_face_renamed r up f t =
    λ n. is_face_renamed r up t.b t.c t.d f n || (is_face_renamed r up t.a t.c t.d f n || (is_face_renamed r up t.a t.b t.d f n || is_face_renamed r up t.a t.b t.c f n))

found_renamed : (r : ℕ → ℕ) → Rises r → (place : ℕ) (f : Face) (from : ℕ) (rows : List Tet)
    → option_map (λ x. x.0) (find (is_partner place (renamed r f)) (enumerate_from from (map (renamed_row r) rows))) ≡ option_map (λ x. x.0) (find (is_partner place f) (enumerate_from from rows))
found_renamed r up place f from [] = refl
found_renamed r up place f from (t ∷ rows) =
    ap (λ (b : Bool). option_map (λ (x : ℕ × Tet). x.0) (cond (not (eqb from place) && b) (Some (from, renamed_row r t)) (find (is_partner place (renamed r f)) (enumerate_from (from + 1) (map (renamed_row r) rows))))) (has_face_renamed r up f t)
    ∙ either (not (eqb from place) && has_face f t) (from, renamed_row r t) (from, t) _ _ refl (found_renamed r up place f (from + 1) rows)
  where
    either : (b : Bool) (x y : ℕ × Tet) (u v : Option (ℕ × Tet)) → x.0 ≡ y.0 → option_map (λ z. z.0) u ≡ option_map (λ z. z.0) v → option_map (λ z. z.0) (cond b (Some x) u) ≡ option_map (λ z. z.0) (cond b (Some y) v)
    either b x y u v e h = elim b as (λ c. option_map (λ z. z.0) (cond c (Some x) u) ≡ option_map (λ z. z.0) (cond c (Some y) v)) [ true ↦ ap Some e | false ↦ h ]

-- the partner has the same place
pub partner_renamed : (r : ℕ → ℕ) → Rises r → (rows : List Tet) (place : ℕ) (f : Face) → partner (map (renamed_row r) rows) place (renamed r f) ≡ partner rows place f
partner_renamed r up rows place f = found_renamed r up place f 0 rows
