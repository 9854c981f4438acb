-- What fits a sandbox may be told the truth of.
use Rattle.std.proofs.Common.{ℕ, Bool, List, [], ◌∷◌, refl}
use Rattle.std.specs.List.{All}
use Rattle.std.proofs.lemmas.List.Elements.{All-nil, All-cons}
use Rattle.vp_poly.specs.declared.mono.Term.{Term}
use Rattle.vp_poly.specs.Places.{AreBelow}
use Rattle.vp_interval.specs.Polynomial.{AreSmall}
use Rattle.vp_sandbox.specs.Fits.{PolysFit}
use Rattle.vp_sandbox.proofs.Fitting.{places_at, small_at}

pub fallback_places : (f : ℕ → Bool) (ps : List (List Term)) → PolysFit f ps → All (λ p. AreBelow 32 p) ps
fallback_places f [] h = All-nil (λ (p : List Term). AreBelow 32 p)
fallback_places f (p ∷ ps) h = All-cons (λ (q : List Term). AreBelow 32 q) p ps (places_at 32 f p refl h.0) (fallback_places f ps h.1)

pub fallback_small : (f : ℕ → Bool) (ps : List (List Term)) → PolysFit f ps → All (λ p. AreSmall p) ps
fallback_small f [] h = All-nil (λ (p : List Term). AreSmall p)
fallback_small f (p ∷ ps) h = All-cons (λ (q : List Term). AreSmall q) p ps (small_at f p h.0) (fallback_small f ps h.1)
