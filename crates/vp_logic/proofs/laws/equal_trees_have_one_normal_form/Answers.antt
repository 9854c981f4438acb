use Rattle.std.proofs.Common.{pos}
use Rattle.vp_terms.specs.Rational.{whole}
use Rattle.vp_logic.proofs.Alike.{normal-alike, narrow-alike, terms-alike}
use Rattle.vp_logic.proofs.laws.equal_trees_have_one_normal_form.Goals as goal

pub returns : goal.returns
returns c = record {
  forms = λ p ws f g h t e i. normal-alike p ws f g h t e i;
  narrow = λ p ws g h e. narrow-alike p ws (λ v m. whole (pos 0)) g h e;
  terms = λ p ws g h e. terms-alike p ws (λ v m. whole (pos 0)) g h e;
}
