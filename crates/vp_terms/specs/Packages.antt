-- The trees of a package's parts.
use Rattle.std.specs.Prelude.{ℕ, List, map}
use Rattle.vp_terms.specs.declared.package.Part.{Part}
use Rattle.vp_terms.specs.declared.package.Slack.{Slack}
use Rattle.vp_terms.specs.declared.package.CertTerm.{CertTerm}
use Rattle.vp_terms.specs.declared.package.CertTerm.TheVariants as term
use Rattle.vp_terms.specs.declared.package.Cert.{Cert}
use Rattle.vp_terms.specs.declared.package.Names.{Names}
use Rattle.vp_terms.specs.declared.package.Package.{Package}
use Rattle.vp_terms.specs.Tree.{ExprTree, FormulaTree, ProgTree, expr_tree, formula_tree, prog_tree}

-- a term of a certificate: a number and labels; a number, squares and labels; a label and an expression
pub data TermTree : Type 0 where
  Product : ℕ → List ℕ → TermTree
  Squares : ℕ → List ExprTree → List ℕ → TermTree
  Multiple : ℕ → ExprTree → TermTree

-- a certificate
pub record CertTree : Type 0 where
  pub part : Part
  pub number : ℕ
  pub terms : List TermTree

-- a package
pub record PackageTree : Type 0 where
  pub names : Names
  pub init : FormulaTree
  pub inv : FormulaTree
  pub safe : FormulaTree
  pub ctrl : ProgTree
  pub low : ExprTree
  pub high : ExprTree
  pub rates : List ExprTree
  pub slack : List (ExprTree × ExprTree)
  pub domain : FormulaTree
  pub fallback : List ExprTree
  pub certs : List CertTree

-- the term without the boxes of its expressions
abbrev pub term_tree : CertTerm → TermTree
term_tree (term.Pos times labels) = Product times labels
term_tree (term.Sum times squares labels) = Squares times (map expr_tree squares) labels
term_tree (term.Eq label times) = Multiple label (expr_tree times)

-- and the certificate
abbrev pub cert_tree : Cert → CertTree
cert_tree c = record { part = c.part; number = c.number; terms = map term_tree c.terms }

-- the low and the high bound
abbrev pub slack_tree : Slack → ExprTree × ExprTree
slack_tree s = (expr_tree s.low, expr_tree s.high)

-- the package without the boxes that hold its parts
abbrev pub package_tree : Package → PackageTree
package_tree p = record {
  names = p.names;
  init = formula_tree p.init;
  inv = formula_tree p.inv;
  safe = formula_tree p.safe;
  ctrl = prog_tree p.ctrl;
  low = expr_tree p.plant.low;
  high = expr_tree p.plant.high;
  rates = map expr_tree p.plant.rates;
  slack = map slack_tree p.plant.slack;
  domain = formula_tree p.plant.domain;
  fallback = map expr_tree p.fallback;
  certs = map cert_tree p.certs;
}
