-- Minors of vectors between points of the grid, as 32 bits hold their coordinates.
use Rattle.std.proofs.Common.{◌≡◌, ◌↔◌, ◌^◌, ◌≤◌, ℤ, pos, negsuc, ◌-ℤ◌, ◌*ℤ◌, ◌≤ℤ◌, w32, to_z, of_z, unsigned_abs, sym, ◌∙◌}
use Rattle.sign_predicates.specs.Point.{Point}
use Rattle.sign_predicates.proofs.Vectors.{coordinate_back, grid_back}
use Rattle.cavity_insert.specs.First.{IsOnLine}

-- a coordinate of the vector from one point to another
pub from_to_read : (r x y p q : ℤ) → unsigned_abs r ≤ 2 ^ 30 → r ≡ to_z w32 (of_z w32 y) -ℤ to_z w32 (of_z w32 x)
    → negsuc 536870911 ≤ℤ x → x ≤ℤ pos 536870912 → negsuc 536870911 ≤ℤ y → y ≤ℤ pos 536870912 → x ≡ p → y ≡ q → to_z w32 (of_z w32 r) ≡ q -ℤ p
from_to_read r x y p q small e xl xh yl yh ep eq = coordinate_back r small ∙ e ∙ (λ j. (grid_back y yl yh ∙ eq) j -ℤ (grid_back x xl xh ∙ ep) j)

-- the minors are zero just where the three points lie on one line
pub on_line_of_minors : (a b c : Point) (ux uy uz vx vy vz : ℤ) → ux ≡ b.x -ℤ a.x → uy ≡ b.y -ℤ a.y → uz ≡ b.z -ℤ a.z → vx ≡ c.x -ℤ a.x → vy ≡ c.y -ℤ a.y → vz ≡ c.z -ℤ a.z
    → IsOnLine a b c ↔ ((ux *ℤ vy ≡ uy *ℤ vx) × (ux *ℤ vz ≡ uz *ℤ vx) × (uy *ℤ vz ≡ uz *ℤ vy))
on_line_of_minors a b c ux uy uz vx vy vz e1 e2 e3 e4 e5 e6 = (
  λ h. ((λ j. e1 j *ℤ e5 j) ∙ h.0 ∙ sym (λ j. e2 j *ℤ e4 j), (λ j. e1 j *ℤ e6 j) ∙ h.1 ∙ sym (λ j. e3 j *ℤ e4 j), (λ j. e2 j *ℤ e6 j) ∙ h.2 ∙ sym (λ j. e3 j *ℤ e5 j)),
  λ h. (sym (λ j. e1 j *ℤ e5 j) ∙ h.0 ∙ (λ j. e2 j *ℤ e4 j), sym (λ j. e1 j *ℤ e6 j) ∙ h.1 ∙ (λ j. e3 j *ℤ e4 j), sym (λ j. e2 j *ℤ e6 j) ∙ h.2 ∙ (λ j. e3 j *ℤ e5 j)),
)
