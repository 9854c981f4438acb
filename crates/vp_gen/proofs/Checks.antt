-- Checking a list of forms.
use Rattle.std.proofs.Common.{◌≡◌, ℕ, suc, ◌+◌, ◌<◌, ◌≤◌, List, [], ◌∷◌, ◌++◌, length, Bool, None, refl, subst, arith, length-append}
use Rattle.std.specs.Prelude.{ℤ}
use Rattle.vp_isa.specs.declared.code.Code.{Code}
use Rattle.vp_isa.specs.declared.instr.Mon.{Mon}
use Rattle.vp_isa.specs.Block.{after, HasAt}
use Rattle.vp_isa.specs.Runs.{Comes}
use Rattle.vp_logic.specs.Tree.{Tree}
use Rattle.vp_interval.specs.Formula.{truth, truths, first_from}
use Rattle.vp_layout.specs.declared.home.Home.{Home}
use Rattle.vp_layout.specs.Blocks.{yes_code}
use Rattle.vp_layout.specs.Cells.{Keeps}
use Rattle.vp_layout.specs.Homes.{boxes_in}
use Rattle.vp_layout.proofs.Machines.{Runs}
use Rattle.vp_layout.specs.Ties.{Leads, standing}
use Rattle.vp_layout.specs.Truths.{need, AllNeed}
use Rattle.vp_layout.proofs.Writes.{keeps_all}
use Rattle.vp_layout.proofs.Kept.{boxes_kept, constants_kept}
use Rattle.vp_layout.proofs.Running.{fault, later_leads, leads_before, named, yes_leads}
use Rattle.vp_gen.specs.FormCode.{form_code}
use Rattle.vp_gen.specs.CheckCode.{check_code, checks_code}
use Rattle.vp_gen.proofs.Formulas.{Ready, form_holds, ready_after}
use Rattle.vp_gen.proofs.Plain.{plain-form}

-- the code of a form runs
pub form_runs : (law : Runs) (code : Code) (p d : ℕ) (n : Tree) (hs : List Home) (c : List ℤ) → HasAt code p (form_code d n hs)
    → Comes code (standing c p) (standing (after (form_code d n hs) c) (p + length (form_code d n hs)))
form_runs law code p d n hs c h = law.block code (form_code d n hs) (standing c p) refl h (plain-form n d hs)

check_leads : (law : Runs) (code : Code) (p d : ℕ) (mon : Bool → Mon) (n : Tree) (hs : List Home) (c : List ℤ) → need n < 65536
    → Ready d (need n + 12) hs c → HasAt code p (check_code p d mon n hs)
    → Leads code d c p (p + length (check_code p d mon n hs)) (fault mon (truth (boxes_in c hs) n))
check_leads law code p d mon n hs c small r h =
    let block = form_code d n hs in
    let q = p + length block in
    let c1 = after block c in
    let held = form_holds n d hs small c r in
    let runs = form_runs law code p d n hs c (law.front code p block (yes_code q d mon) h) in
    let test = yes_leads law code d mon c1 q (truth (boxes_in c hs) n) (constants_kept d c c1 r.above held.keeps r.constants) held.here
    (law.back code p block (yes_code q d mon) h) in
    let len : q + 4 ≡ p + length (check_code p d mon n hs) = omega (arith, length-append block (yes_code q d mon)) in
    subst (λ e. Leads code d c p e (fault mon (truth (boxes_in c hs) n))) len
    (leads_before law code d c c1 p q (q + 4) _ held.keeps runs test)

-- the checks of a list
pub checks_lead : (law : Runs) (code : Code) (p d : ℕ) (mon : ℕ → Bool → Mon) (k m : ℕ) (ns : List Tree) (hs : List Home) (c : List ℤ)
    → m < 65536 → AllNeed m ns → Ready d (m + 12) hs c → HasAt code p (checks_code p d mon k ns hs)
    → Leads code d c p (p + length (checks_code p d mon k ns hs)) (named mon (first_from k (truths (boxes_in c hs) ns)))
checks_lead law code p d mon k m [] hs c small few r h =
    let e : p ≡ p + 0 = omega arith in
    subst (λ q. Leads code d c p q None) e (record { cells = c; keeps = keeps_all d c; comes = law.none code (standing c p) })
checks_lead law code p d mon k m (n ∷ ns) hs c small few r h =
    let one = check_code p d (mon k) n hs in
    let q = p + length one in
    let rest = checks_code q d mon (suc k) ns hs in
    let le : need n ≤ m = few.0 in
    let first = check_leads law code p d (mon k) n hs c (omega arith) (ready_after d (m + 12) d (need n + 12) hs c c (omega arith) (omega arith) r (keeps_all d c))
    (law.front code p one rest h) in
    let next : (c1 : List ℤ) → Keeps d c c1 → Leads code d c1 q (q + length rest) (named mon (first_from (suc k) (truths (boxes_in c hs) ns))) =
    λ c1 kept. subst (λ b. Leads code d c1 q (q + length rest) (named mon (first_from (suc k) (truths b ns)))) (boxes_kept c c1 d hs kept r.homes)
    (checks_lead law code q d mon (suc k) m ns hs c1 small few.1 (ready_after d (m + 12) d (m + 12) hs c c1 (omega arith) (omega arith) r kept) (law.back code p one rest h)) in
    let len : q + length rest ≡ p + length (one ++ rest) = omega (arith, length-append one rest) in
    subst (λ e. Leads code d c p e (named mon (first_from k (truths (boxes_in c hs) (n ∷ ns))))) len
    (later_leads law code d c p q (q + length rest) k mon (truth (boxes_in c hs) n) (truths (boxes_in c hs) ns) first next)
