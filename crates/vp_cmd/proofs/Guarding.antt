-- What is put together of an accepted package: its counts, and its sandbox that guards its model.
use Rattle.std.proofs.Common.{◌≢◌, List, Result, Ok, Err, ap, ◌∙◌, ℕ}
use Rattle.std.specs.Prelude.{IfErr, IfOk}
use Rattle.vp_words.specs.declared.record.Counts.{Counts}
use Rattle.vp_terms.specs.declared.expr.Places.{Places}
use Rattle.vp_terms.specs.declared.package.Package.{Package}
use Rattle.vp_monitor.specs.declared.types.Obligation.{Obligation}
use Rattle.vp_sandbox.specs.declared.sandbox.Sandbox.{Sandbox}
use Rattle.vp_synth.specs.Accepting.{Accepts, AreMadeOf}
use Rattle.vp_cmd.specs.Images.{AreCountsOf, HasRoom, IsGuarded, IsImageOf, IsSandboxFor}

counts_are : (pkg : Package) (os : List Obligation) (s : Sandbox) → AreMadeOf pkg os s → AreCountsOf pkg s.counts
counts_are pkg os s h =
    let e = h.made.counts in
    let p = h.has.has.are.places in
    record {
      params = ap (λ (c : Counts). c.params) e ∙ ap (λ (q : Places). q.params) p;
      states = ap (λ (c : Counts). c.states) e ∙ ap (λ (q : Places). q.states) p;
      controls = ap (λ (c : Counts). c.controls) e ∙ ap (λ (q : Places). q.controls) p;
    }

-- an accepted text with room has its sandbox
pub sandbox_for : (text : List ℕ) (pkg : Package) (os : List Obligation) (s : Sandbox) → Accepts text pkg → AreMadeOf pkg os s → HasRoom s → IsGuarded pkg s → IsSandboxFor text s
sandbox_for text pkg os s accepts made room guarded =
    record { pkg = pkg; obligations = os; accepts = accepts; made = made; counts = counts_are pkg os s made; room = room; guarded = guarded }

-- the image of its code is an image of the package
pub image_made : {V E : Type 0} (r : Result V E) (items : V → List ℕ) (text : List ℕ) (pkg : Package) (os : List Obligation) (s : Sandbox) → Accepts text pkg → AreMadeOf pkg os s → IsGuarded pkg s
    → IfOk r (λ v. IsImageOf text s (items v)) → IfOk r (λ v. HasRoom s) → IfOk r (λ v. (s : Sandbox) × IsSandboxFor text s × IsImageOf text s (items v))
image_made (Ok v) items text pkg os s accepts made guarded image room = (s, sandbox_for text pkg os s accepts made room guarded, image)
image_made (Err e) items text pkg os s accepts made guarded image room = tt
