-- The whole numbers as a ring.
use Rattle.std.proofs.Common.{◌≡◌, arith, ℤ, ◌+ℤ◌, ◌*ℤ◌}
use Rattle.vp_terms.proofs.Gaps.{gap-of, gap-same, gaps}

pub add-mul : (a b c : ℤ) → (a +ℤ b) *ℤ c ≡ a *ℤ c +ℤ b *ℤ c
add-mul a b c = rw (gap-of a, gap-of b, gap-of c) (simp gaps (gap-same _ _ _ _ (omega arith)))

pub mul-add : (a b c : ℤ) → a *ℤ (b +ℤ c) ≡ a *ℤ b +ℤ a *ℤ c
mul-add a b c = rw (gap-of a, gap-of b, gap-of c) (simp gaps (gap-same _ _ _ _ (omega arith)))

pub mul_assoc : (a b c : ℤ) → (a *ℤ b) *ℤ c ≡ a *ℤ (b *ℤ c)
mul_assoc a b c = rw (gap-of a, gap-of b, gap-of c) (simp gaps (gap-same _ _ _ _ (omega arith)))

pub mul_comm : (a b : ℤ) → a *ℤ b ≡ b *ℤ a
mul_comm a b = rw (gap-of a, gap-of b) (simp gaps (gap-same _ _ _ _ (omega arith)))
