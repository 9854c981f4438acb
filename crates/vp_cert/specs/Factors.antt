-- Factors as polynomials: what private calls say to one another.
use Rattle.std.specs.Prelude.{◌≡◌, ⊤, List, [], ◌∷◌}
use Rattle.vp_words.specs.Record.{place_count}
use Rattle.vp_words.specs.declared.record.Counts.{Counts}
use Rattle.vp_poly.specs.Canonical.{IsEnvironment, StandsFor, selves, variables}
use Rattle.vp_poly.specs.Places.{places_for}
use Rattle.vp_poly.specs.declared.scaled.Scaled.{Scaled}
use Rattle.vp_poly.specs.Poly.{IsWithin}
use Rattle.vp_poly.specs.Times.{HasCoefficients}
use Rattle.vp_cert.specs.Certificate.{TermFactor}

-- the polynomial is that of the factor, and has its size
pub record IsTermFactor (f : TermFactor) (s : Scaled) : Type 0 where
  pub coefficients : HasCoefficients 1 s.poly f.coefficients
  pub norm : s.weight.norm ≡ f.size.norm
  pub terms : s.weight.terms ≡ f.size.terms
  pub degree : s.weight.degree ≡ f.size.degree
  pub within : IsWithin s.poly s.weight.norm s.weight.degree s.weight.terms

-- one for each
abbrev pub AreTermFactors : List TermFactor → List Scaled → Type 0
AreTermFactors [] [] = ⊤
AreTermFactors [] (s ∷ ss) = ⊥
AreTermFactors (f ∷ fs) [] = ⊥
AreTermFactors (f ∷ fs) (s ∷ ss) = IsTermFactor f s × AreTermFactors fs ss

-- each variable stands for itself
pub record IsPlain (c : Counts) (env : List Scaled) : Type 0 where
  pub exact : env ≡ selves (place_count c)
  pub environment : IsEnvironment (place_count c) env
  pub coefficients : StandsFor (places_for c) env (variables (places_for c))
