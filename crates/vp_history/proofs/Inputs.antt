-- The same over every input: its answered records are due, each in its turn.
use Rattle.std.proofs.Common.{◌≡◌, ℕ, zero, suc, List, [], Some, sym, subst, pos, replicate}
use Rattle.std.specs.Prelude.{ℤ, slice_get}
use Rattle.vp_words.specs.declared.record.Due.TheVariants as due
use Rattle.vp_words.specs.Exchanges.{AreDue, Exchange, exchanges}
use Rattle.vp_stream.specs.Answers.{AreAnswers, answers_of, records_in}
use Rattle.vp_stream.proofs.Answered.{run_is_made}
use Rattle.vp_terms.specs.Model.{IsInductive, Model}
use Rattle.vp_terms.specs.Places.{place}
use Rattle.vp_terms.specs.Rational.{whole}
use Rattle.vp_poly.specs.Places.{places_for}
use Rattle.vp_interval.specs.Represents.{Represents}
use Rattle.vp_interval.specs.Rounding.{Ends, point}
use Rattle.vp_sandbox.specs.declared.sandbox.Sandbox.{Sandbox}
use Rattle.vp_sandbox.specs.Answer.{sandbox_of, start}
use Rattle.vp_sandbox.specs.Fits.{Fits}
use Rattle.vp_history.specs.Allowed.{DeniesRightly, IsAllowed, IsDenied, IsSafe}
use Rattle.vp_history.specs.History.{History, IsRepresented, first}
use Rattle.vp_history.specs.Means.{Means}
use Rattle.vp_history.specs.Reports.{ReportsRightly}
use Rattle.vp_history.specs.Rounds.{IsSampledRun}
use Rattle.vp_history.proofs.Allowing.{Says, says_from}
use Rattle.vp_history.proofs.Known.{KeepsValid, Known, MayBeTested, Truthful}
use Rattle.vp_history.proofs.Points.{Holds}
use Rattle.vp_history.proofs.Right.{reports_are_right}
use Rattle.vp_history.proofs.Sampled.{allowed_is_run}

same_item : (n : ℕ) (x y : Ends) (k : ℕ) → slice_get (replicate n x) k ≡ Some y → x ≡ y
same_item zero x y k e = absurd cc
same_item (suc n) x y zero e = cc
same_item (suc n) x y (suc k) e = same_item n x y k e

-- the answers over an input
given : (s : Sandbox) (bytes : List ℕ) → AreAnswers (sandbox_of s) start (answers_of (sandbox_of s) bytes)
given s bytes = (run_is_made (sandbox_of s) bytes).given

module _ (known : Known) (s : Sandbox) (m : Model) (fits : Fits s) (means : Means s m) where
  -- at first all boxes represent 0
  at_start : Holds s.counts start.boxes (λ v. whole (pos 0))
  at_start = record { each = λ v b l e. subst (λ (x : Ends). Represents x (whole (pos 0))) (same_item 32 (point (pos 0)) b (place (places_for s.counts) v) e) (known.represented.word (pos 0)) }

  says : (h : History) (records : List (List ℤ)) → AreDue (sandbox_of s) start records → IsRepresented s.counts h (exchanges (sandbox_of s) start records) → Says known s m h fits means due.Init first (exchanges (sandbox_of s) start records)
  says h records d here = let b = known.keeps.always s [] fits tt in says_from known s m h fits means records due.Init first start.boxes b.0 b.1 (λ v. whole (pos 0), at_start) d here

  pub is_safe : IsInductive m → IsSafe s m
  is_safe ind bytes h here =
      let g = given s bytes in
      let es = answers_of (sandbox_of s) bytes in
      subst (λ (xs : List Exchange). IsAllowed m s.counts h xs) (sym g.replies) ((says h (records_in es) g.due (subst (λ (xs : List Exchange). IsRepresented s.counts h xs) g.replies here)).allowed ind tt)

  pub denies_rightly : DeniesRightly s m
  denies_rightly bytes h here =
      let g = given s bytes in
      let es = answers_of (sandbox_of s) bytes in
      subst (λ (xs : List Exchange). IsDenied m s.counts h xs) (sym g.replies) (says h (records_in es) g.due (subst (λ (xs : List Exchange). IsRepresented s.counts h xs) g.replies here)).denied

  pub is_run : IsInductive m → (bytes : List ℕ) (h : History) → IsRepresented s.counts h (answers_of (sandbox_of s) bytes) → IsSampledRun m s.counts h (answers_of (sandbox_of s) bytes)
  is_run ind bytes h here =
      let g = given s bytes in
      let es = answers_of (sandbox_of s) bytes in
      subst (λ (xs : List Exchange). IsSampledRun m s.counts h xs) (sym g.replies)
      (allowed_is_run s m h (records_in es) g.due ((says h (records_in es) g.due (subst (λ (xs : List Exchange). IsRepresented s.counts h xs) g.replies here)).allowed ind tt))

pub always_right : KeepsValid → MayBeTested → Truthful → (s : Sandbox) → Fits s → ReportsRightly s
always_right keeps may known s fits bytes = reports_are_right keeps may known s fits (records_in (answers_of (sandbox_of s) bytes)) (given s bytes).due
