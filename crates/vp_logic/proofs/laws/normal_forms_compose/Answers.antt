use Rattle.vp_logic.proofs.Replacing.{normal_replaced, normal_back, narrow_replaced, terms_replaced}
use Rattle.vp_logic.proofs.laws.normal_forms_compose.Goals as goal

pub returns : goal.returns
returns c = record {
  forms = λ p ws vs f g s w k h t v. (normal_replaced p ws vs f g s w k h t v, normal_back p ws vs f g s w k h t v);
  narrow = narrow_replaced;
  terms = terms_replaced;
}
