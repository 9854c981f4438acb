-- Which atoms a label may name.
use Rattle.std.specs.Prelude.{Bool}
use Rattle.vp_logic.specs.declared.norm.Rel.{Rel}
use Rattle.vp_cert.specs.declared.labels.Wanted.{Wanted}
use Rattle.vp_cert.specs.declared.labels.Wanted.TheVariants.{Any, Inequality, Equation, Strict}
use Rattle.vp_cert.specs.Certificate.{is_any, is_equation, is_inequality, is_strict}

-- the test on an atom's relation
abbrev pub wants : Wanted → Rel → Bool
wants Any r = is_any r
wants Inequality r = is_inequality r
wants Equation r = is_equation r
wants Strict r = is_strict r
