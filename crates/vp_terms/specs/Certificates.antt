-- The form of certificates.
use Rattle.std.specs.Prelude.{Bool, true, false, not, ◌&&◌, IsTrue, pos, List, [], ◌∷◌}
use Rattle.std.specs.List.{list_all}
use Rattle.std.specs.Ordering.{int_eq}
use Rattle.vp_terms.specs.declared.expr.Expr.{Expr}
use Rattle.vp_terms.specs.declared.expr.Expr.TheVariants.{Num, Var as Variable, Add', Sub', Mul', Pow'}
use Rattle.vp_terms.specs.declared.package.Cert.{Cert}
use Rattle.vp_terms.specs.declared.package.CertTerm.{CertTerm}
use Rattle.vp_terms.specs.declared.package.CertTerm.TheVariants as term

-- each number of the expression is a whole number
abbrev pub has_whole_numbers : Expr → Bool
has_whole_numbers (Num r) = int_eq r.den (pos 1)
has_whole_numbers (Variable v) = true
has_whole_numbers (Add' l e r f) = has_whole_numbers e && has_whole_numbers f
has_whole_numbers (Sub' l e r f) = has_whole_numbers e && has_whole_numbers f
has_whole_numbers (Mul' l e r f) = has_whole_numbers e && has_whole_numbers f
has_whole_numbers (Pow' l e n) = has_whole_numbers e

-- and so in each expression of the term
abbrev pub term_has_whole_numbers : CertTerm → Bool
term_has_whole_numbers (term.Pos times labels) = true
term_has_whole_numbers (term.Sum times squares labels) = list_all has_whole_numbers squares
term_has_whole_numbers (term.Eq label times) = has_whole_numbers times

-- the term is a `Pos`
abbrev pub is_pos : CertTerm → Bool
is_pos (term.Pos times labels) = true
is_pos (term.Sum times squares labels) = false
is_pos (term.Eq label times) = false

-- the first term is a `Pos`, and no other is
abbrev pub begins_with_one_pos : List CertTerm → Bool
begins_with_one_pos [] = false
begins_with_one_pos (t ∷ ts) = is_pos t && list_all (λ u. not (is_pos u)) ts

-- a certificate begins with its one `Pos`, and its expressions have whole numbers alone
pub record IsCertificate (c : Cert) : Type 0 where
  pub begins : IsTrue (begins_with_one_pos c.terms)
  pub whole : IsTrue (list_all term_has_whole_numbers c.terms)
