-- The truth of a comparison, as a number.
use Rattle.std.proofs.Common.{◌≡◌, Bool, true, false, ◌&&◌, ◌||◌, refl, arith}
use Rattle.std.specs.Prelude.{ℤ, pos, negsuc, neg_ℤ, int_lt, int_le, ◌≤ℤ◌, ◌<ℤ◌, if◌then◌else◌}
use Rattle.std.specs.Int.{int_min, int_max}
use Rattle.std.specs.Ordering.{int_eq}
use Rattle.std.proofs.lemmas.Int.{ints, clamps}
use Rattle.vp_words.specs.Number.{lower_sum}
use Rattle.vp_logic.specs.declared.norm.Rel.TheVariants.{Ge, Gt, Eq}
use Rattle.vp_interval.specs.declared.truth.Truth.{Truth}
use Rattle.vp_interval.specs.declared.truth.Truth.TheVariants.{No, Maybe, Yes}
use Rattle.vp_interval.specs.Formula.{of_relation}
use Rattle.vp_layout.specs.Truths.{number}

-- Yes where b holds, else No where c does
abbrev by_tests : Bool → Bool → Truth
by_tests b c = if b then Yes else (if c then No else Maybe)

below : (z : ℤ) → int_lt z (pos 0) ≡ true → z <ℤ pos 0
below z h = grind (arith, ints)

not_below : (z : ℤ) → int_lt z (pos 0) ≡ false → pos 0 ≤ℤ z
not_below z h = grind (arith, ints)

above : (z : ℤ) → int_lt (pos 0) z ≡ true → pos 0 <ℤ z
above z h = grind (arith, ints)

not_above : (z : ℤ) → int_lt (pos 0) z ≡ false → z ≤ℤ pos 0
not_above z h = grind (arith, ints)

at_least : (z : ℤ) → int_le (pos 0) z ≡ true → pos 0 ≤ℤ z
at_least z h = grind (arith, ints)

not_at_least : (z : ℤ) → int_le (pos 0) z ≡ false → z <ℤ pos 0
not_at_least z h = grind (arith, ints)

at_most : (z : ℤ) → int_le z (pos 0) ≡ true → z ≤ℤ pos 0
at_most z h = grind (arith, ints)

not_at_most : (z : ℤ) → int_le z (pos 0) ≡ false → pos 0 <ℤ z
not_at_most z h = grind (arith, ints)

low_off : (z y : ℤ) → pos 0 ≤ℤ z → int_min (int_max z y) (pos 0) ≡ pos 0
low_off z y h = omega (arith, ints, clamps)

low_on : (z : ℤ) → z <ℤ pos 0 → int_min (int_max z (negsuc 0)) (pos 0) ≡ negsuc 0
low_on z h = omega (arith, ints, clamps)

up_on : (z y : ℤ) → pos 0 <ℤ z → int_min (int_max z y) (pos 1) ≡ pos 1
up_on z y h = omega (arith, ints, clamps)

up_off : (z : ℤ) → z ≤ℤ pos 0 → int_min (int_max z (pos 0)) (pos 1) ≡ pos 0
up_off z h = omega (arith, ints, clamps)

max_right : (z : ℤ) → int_min (int_max z (pos 1)) (pos 1) ≡ pos 1
max_right z = omega (arith, ints, clamps)

-- the code of p >= 0
abbrev pub ge_value : ℤ → ℤ → ℤ
ge_value lo hi =
    let x = int_min (int_max lo (negsuc 0)) (pos 0) in
    lower_sum (lower_sum x (int_min (int_max hi x) (pos 0))) (pos 2)

pub ge_number : (lo hi : ℤ) → ge_value lo hi ≡ number (of_relation Ge (record { lo = lo; hi = hi }))
ge_number lo hi = case (int_le (pos 0) lo) (int_lt hi (pos 0)) refl refl
  where
    two : (x y : ℤ) → int_min (int_max lo (negsuc 0)) (pos 0) ≡ x → int_min (int_max hi x) (pos 0) ≡ y
        → ge_value lo hi ≡ lower_sum (lower_sum x y) (pos 2)
    two x y e f = rw e (rw f refl)

    case : (b c : Bool) → int_le (pos 0) lo ≡ b → int_lt hi (pos 0) ≡ c → ge_value lo hi ≡ number (by_tests b c)
    case false true e f = two (negsuc 0) (negsuc 0) (low_on lo (not_at_least lo e)) (low_on hi (below hi f))
    case false false e f = two (negsuc 0) (pos 0) (low_on lo (not_at_least lo e)) (low_off hi (negsuc 0) (not_below hi f))
    case true c e f = two (pos 0) (pos 0) (low_off lo (negsuc 0) (at_least lo e)) (omega (arith, ints, clamps))

-- the code of p > 0
abbrev pub gt_value : ℤ → ℤ → ℤ
gt_value lo hi =
    let x = int_min (int_max lo (pos 0)) (pos 1) in
    lower_sum x (int_min (int_max hi x) (pos 1))

pub gt_number : (lo hi : ℤ) → gt_value lo hi ≡ number (of_relation Gt (record { lo = lo; hi = hi }))
gt_number lo hi = case (int_lt (pos 0) lo) (int_le hi (pos 0)) refl refl
  where
    two : (x y : ℤ) → int_min (int_max lo (pos 0)) (pos 1) ≡ x → int_min (int_max hi x) (pos 1) ≡ y
        → gt_value lo hi ≡ lower_sum x y
    two x y e f = rw e (rw f refl)

    case : (b c : Bool) → int_lt (pos 0) lo ≡ b → int_le hi (pos 0) ≡ c → gt_value lo hi ≡ number (by_tests b c)
    case true c e f = two (pos 1) (pos 1) (up_on lo (pos 0) (above lo e)) (max_right hi)
    case false false e f = two (pos 0) (pos 1) (up_off lo (not_above lo e)) (up_on hi (pos 0) (not_at_most hi f))
    case false true e f = two (pos 0) (pos 0) (up_off lo (not_above lo e)) (up_off hi (at_most hi f))

-- the code of p = 0
abbrev pub eq_value : ℤ → ℤ → ℤ
eq_value lo hi =
    let y = int_max (int_min lo (neg_ℤ hi)) (negsuc 0) in
    let v = neg_ℤ (int_min (int_max (int_max lo (neg_ℤ hi)) (pos 0)) (pos 1)) in
    lower_sum (int_min (lower_sum v v) y) (pos 2)

pub eq_number : (lo hi : ℤ) → eq_value lo hi ≡ number (of_relation Eq (record { lo = lo; hi = hi }))
eq_number lo hi = case (int_lt (pos 0) lo) (int_lt hi (pos 0)) (int_eq lo (pos 0)) (int_eq hi (pos 0)) refl refl refl refl
  where
    two : (v r : ℤ) → int_min (int_max (int_max lo (neg_ℤ hi)) (pos 0)) (pos 1) ≡ v
        → int_min (lower_sum (neg_ℤ v) (neg_ℤ v)) (int_max (int_min lo (neg_ℤ hi)) (negsuc 0)) ≡ r
        → eq_value lo hi ≡ lower_sum r (pos 2)
    two v r e f = rw e (rw f refl)

    case : (p n a b : Bool) → int_lt (pos 0) lo ≡ p → int_lt hi (pos 0) ≡ n → int_eq lo (pos 0) ≡ a → int_eq hi (pos 0) ≡ b
        → eq_value lo hi ≡ number (by_tests (a && b) (p || n))
    case true n true b e f g h = absurd (grind (arith, ints))
    case true n false b e f g h = let k = above lo e in two (pos 1) (negsuc 1) (omega (arith, ints, clamps)) (omega (arith, ints, clamps))
    case false true true true e f g h = absurd (grind (arith, ints))
    case false true true false e f g h = let k = below hi f in two (pos 1) (negsuc 1) (omega (arith, ints, clamps)) (omega (arith, ints, clamps))
    case false true false b e f g h = let k = below hi f in two (pos 1) (negsuc 1) (omega (arith, ints, clamps)) (omega (arith, ints, clamps))
    case false false true true e f g h =
        let l : lo ≡ pos 0 = grind (arith, ints) in let m : hi ≡ pos 0 = grind (arith, ints) in rw (l, m) refl
    case false false true false e f g h =
        let k = not_above lo e in let m = not_below hi f in let u : pos 0 <ℤ hi = grind (arith, ints) in
        two (pos 0) (negsuc 0) (omega (arith, ints, clamps)) (omega (arith, ints, clamps))
    case false false false b e f g h =
        let k = not_above lo e in let m = not_below hi f in let u : lo <ℤ pos 0 = grind (arith, ints) in
        two (pos 0) (negsuc 0) (omega (arith, ints, clamps)) (omega (arith, ints, clamps))
