-- The instructions of polynomials.
use Rattle.std.specs.Prelude.{ℕ, ◌+◌, nat_eq, not, Bool, false, ◌||◌, if◌then◌else◌, List, [], ◌∷◌, ◌++◌, pos}
use Rattle.vp_isa.specs.declared.instr.Instr.{Instr}
use Rattle.vp_isa.specs.declared.instr.Instr.TheVariants.{Const, AddD, AddU}
use Rattle.vp_layout.specs.declared.home.Home.{Home}
use Rattle.vp_poly.specs.declared.mono.Term.{Term}
use Rattle.vp_layout.specs.Blocks.{product_code}
use Rattle.vp_gen.specs.PowerCode.{first_code, factor_code}

abbrev pub has_factors : List ℕ → List Home → Bool
has_factors [] hs = false
has_factors (k ∷ ks) [] = false
has_factors (k ∷ ks) (h ∷ hs) = not (nat_eq k 0) || has_factors ks hs

abbrev pub factors_code : ℕ → List ℕ → List Home → List Instr
factors_code d [] hs = []
factors_code d (k ∷ ks) [] = []
factors_code d (k ∷ ks) (h ∷ hs) = (if nat_eq k 0 then [] else factor_code d k h) ++ factors_code d ks hs

abbrev pub front_code : ℕ → List ℕ → List Home → List Instr
front_code d [] hs = []
front_code d (k ∷ ks) [] = []
front_code d (k ∷ ks) (h ∷ hs) = if nat_eq k 0 then front_code d ks hs else (first_code d k h ++ factors_code d ks hs)

abbrev pub scaled_code : ℕ → Term → List Home → List Instr
scaled_code d t hs =
    front_code (d + 2) t.mono.powers hs
    ++ Const (d + 4) t.coef ∷ [] ++ product_code d (d + 5) (record { lo = d + 2; hi = d + 3 }) (record { lo = d + 4; hi = d + 4 })

abbrev pub term_code : ℕ → Term → List Home → List Instr
term_code d t hs = if has_factors t.mono.powers hs then scaled_code d t hs else Const d t.coef ∷ Const (d + 1) t.coef ∷ []

abbrev pub added_code : ℕ → Term → List Home → List Instr
added_code d t hs = term_code (d + 2) t hs ++ AddD d d (d + 2) ∷ AddU (d + 1) (d + 1) (d + 3) ∷ []

abbrev pub sums_code : ℕ → List Term → List Home → List Instr
sums_code d [] hs = []
sums_code d (t ∷ ts) hs = added_code d t hs ++ sums_code d ts hs

abbrev pub poly_code : ℕ → List Term → List Home → List Instr
poly_code d [] hs = Const d (pos 0) ∷ Const (d + 1) (pos 0) ∷ []
poly_code d (t ∷ ts) hs = term_code d t hs ++ sums_code d ts hs
