-- Oriented faces and their numbers in ascending order.
use Rattle.std.proofs.Common.{◌≡◌, ◌⊎◌, inl, inr, ℕ, ◌<◌, ◌≤◌, neg_ℤ, List, sym, ◌∙◌, arith}
use Rattle.std.specs.Prelude.{min, max}
use Rattle.std.proofs.lemmas.Bool.{cases_lt}
use Rattle.sign_predicates.specs.Point.{Point}
use Rattle.sign_predicates.specs.Orientation.{side}
use Rattle.geo_laws.specs.Faces.{face_of}
use Rattle.geo_laws.specs.declared.faces.Face as sorted
use Rattle.geo_laws.specs.OrientedFace.{Face, triangle}
use Rattle.crossing_laws.proofs.Faces.{Same, straight, onward, backward, over, side-same}
use Rattle.crossing_laws.proofs.Identities.{side-turned}

-- a face whose numbers ascend, with its positive side
abbrev pub oriented : sorted.Face → Face
oriented f = record { a = f.a; b = f.b; c = f.c }

-- the numbers of a face, ascending
abbrev pub ascending : Face → sorted.Face
ascending f = face_of f.a f.b f.c

abbrev pub IsSorted : Face → Type 0
IsSorted f = Same f (oriented (ascending f)) ⊎ Same (over f) (oriented (ascending f))

in_abc : (i j k : ℕ) → i ≤ j → j ≤ k → (i ≡ min (min i j) k) × (j ≡ max (min i j) (min (max i j) k)) × (k ≡ max (max i j) k)
in_abc i j k p q = (omega arith, omega arith, omega arith)

in_acb : (i j k : ℕ) → i ≤ k → k ≤ j → (i ≡ min (min i j) k) × (k ≡ max (min i j) (min (max i j) k)) × (j ≡ max (max i j) k)
in_acb i j k p q = (omega arith, omega arith, omega arith)

in_bac : (i j k : ℕ) → j ≤ i → i ≤ k → (j ≡ min (min i j) k) × (i ≡ max (min i j) (min (max i j) k)) × (k ≡ max (max i j) k)
in_bac i j k p q = (omega arith, omega arith, omega arith)

in_bca : (i j k : ℕ) → j ≤ k → k ≤ i → (j ≡ min (min i j) k) × (k ≡ max (min i j) (min (max i j) k)) × (i ≡ max (max i j) k)
in_bca i j k p q = (omega arith, omega arith, omega arith)

in_cab : (i j k : ℕ) → k ≤ i → i ≤ j → (k ≡ min (min i j) k) × (i ≡ max (min i j) (min (max i j) k)) × (j ≡ max (max i j) k)
in_cab i j k p q = (omega arith, omega arith, omega arith)

in_cba : (i j k : ℕ) → k ≤ j → j ≤ i → (k ≡ min (min i j) k) × (j ≡ max (min i j) (min (max i j) k)) × (i ≡ max (max i j) k)
in_cba i j k p q = (omega arith, omega arith, omega arith)

weak : (m n : ℕ) → m < n → m ≤ n
weak m n h = omega arith

-- the ascending order of a face's corners is one of its two cyclic orders
pub is_sorted : (f : Face) → IsSorted f
is_sorted f =
    elim (cases_lt f.b f.a) [
      | inl ba ↦ elim (cases_lt f.c f.b) [
        | inl cb ↦ let e = in_cba f.a f.b f.c (weak f.c f.b cb) (weak f.b f.a ba) in inr (backward e.2 e.0 e.1)
        | inr bc ↦ elim (cases_lt f.c f.a) [
          | inl ca ↦ let e = in_bca f.a f.b f.c bc (weak f.c f.a ca) in inl (backward e.2 e.0 e.1)
          | inr ac ↦ let e = in_bac f.a f.b f.c (weak f.b f.a ba) ac in inr (onward e.1 e.2 e.0)
        ]
      ]
      | inr ab ↦ elim (cases_lt f.c f.b) [
        | inl cb ↦ elim (cases_lt f.c f.a) [
          | inl ca ↦ let e = in_cab f.a f.b f.c (weak f.c f.a ca) ab in inl (onward e.1 e.2 e.0)
          | inr ac ↦ let e = in_acb f.a f.b f.c ac (weak f.c f.b cb) in inr (straight e.0 e.1 e.2)
        ]
        | inr bc ↦ let e = in_abc f.a f.b f.c ab bc in inl (straight e.0 e.1 e.2)
      ]
    ]

-- points lie on the sides of the ascending face as on those of the face, or all on the others
abbrev pub KeepsSides : List Point → Face → Type 0
KeepsSides ps f =
    ((p : Point) → side (triangle ps (oriented (ascending f))) p ≡ side (triangle ps f) p)
    ⊎ ((p : Point) → side (triangle ps (oriented (ascending f))) p ≡ neg_ℤ (side (triangle ps f) p))

pub keeps_sides : (ps : List Point) (f : Face) → KeepsSides ps f
keeps_sides ps f =
    elim (is_sorted f) [
      | inl same ↦ inl (λ p. sym (side-same ps p f (oriented (ascending f)) same))
      | inr same ↦ inr (λ p. sym (side-same ps p (over f) (oriented (ascending f)) same) ∙ side-turned (triangle ps f) p)
    ]
