-- Single instructions and tests, as runs.
use Rattle.std.proofs.Common.{◌≡◌, ℕ, suc, ◌+◌, List, [], ◌∷◌, Bool, true, false, not, Option, Some, None, refl, sym, ap, ◌∙◌, subst, arith}
use Rattle.std.specs.Prelude.{ℤ, int_lt, slice_get, if◌then◌else◌}
use Rattle.std.specs.Option.{option_map}
use Rattle.std.specs.Ordering.{int_eq}
use Rattle.vp_words.specs.declared.record.Kind.{Kind}
use Rattle.vp_words.specs.declared.record.Reply.{Reply}
use Rattle.vp_words.specs.declared.record.Reply.TheVariants as reply
use Rattle.vp_isa.specs.declared.code.Code.{Code}
use Rattle.vp_isa.specs.declared.instr.Mon.{Mon}
use Rattle.vp_isa.specs.declared.instr.Mon.TheVariants as mon
use Rattle.vp_isa.specs.declared.instr.Instr.{Instr}
use Rattle.vp_isa.specs.declared.instr.Instr.TheVariants.{Jmp, Jge, Jeq, Take, Halt}
use Rattle.vp_isa.specs.Machine.{MachineState, cell, effect, step, stopped, why_of}
use Rattle.vp_isa.specs.Valid.{is_take}
use Rattle.vp_isa.specs.Block.{HasAt}
use Rattle.vp_isa.specs.Runs.{Comes}
use Rattle.vp_interval.specs.declared.truth.Truth.{Truth}
use Rattle.vp_interval.specs.declared.truth.Truth.TheVariants.{No, Maybe, Yes}
use Rattle.vp_interval.specs.Formula.{first_from}
use Rattle.vp_sandbox.specs.Answer.{is_unknown}
use Rattle.vp_layout.specs.Blocks.{yes_code}
use Rattle.vp_layout.specs.Cells.{Constants, Keeps}
use Rattle.vp_layout.proofs.Machines.{Runs}
use Rattle.vp_layout.specs.Ties.{Gains, Halted, Leads, standing}
use Rattle.vp_layout.specs.Truths.{number}
use Rattle.vp_layout.proofs.Writes.{keeps_all, keeps_fewer, keeps_on}

-- one instruction that is no TAKE
pub goes : (law : Runs) (code : Code) (c : List ℤ) (p : ℕ) (i : Instr) (m : MachineState) → slice_get code.instrs p ≡ Some i → is_take (Some i) ≡ false
    → effect code [] (Some i) (standing c p) ≡ m → Comes code (standing c p) m
goes law code c p i m at moving e =
    let on : stopped code (standing c p) ≡ false = ap is_take at ∙ moving in
    let stepped : step code [] (standing c p) ≡ m = ap (λ o. effect code [] o (standing c p)) at ∙ e in
    subst (λ n. Comes code (standing c p) n) stepped (law.one code (standing c p) on)

-- a jump that is taken, or not
pub jumps : (law : Runs) (code : Code) (a b t : ℕ) (c : List ℤ) (p : ℕ) (taken : Bool) → slice_get code.instrs p ≡ Some (Jge a b t)
    → not (int_lt (cell c a) (cell c b)) ≡ taken → Comes code (standing c p) (standing c (if taken then t else p + 1))
jumps law code a b t c p taken at is = goes law code c p (Jge a b t) _ at refl (ap (λ v. standing c (if v then t else p + 1)) is)

pub jumps_same : (law : Runs) (code : Code) (a b t : ℕ) (c : List ℤ) (p : ℕ) (taken : Bool) → slice_get code.instrs p ≡ Some (Jeq a b t)
    → int_eq (cell c a) (cell c b) ≡ taken → Comes code (standing c p) (standing c (if taken then t else p + 1))
jumps_same law code a b t c p taken at is = goes law code c p (Jeq a b t) _ at refl (ap (λ v. standing c (if v then t else p + 1)) is)

-- a jump to another place, whatever there is to report
pub jumped : (law : Runs) (code : Code) (m : MachineState) (t : ℕ) → m.ended ≡ false → slice_get code.instrs m.place ≡ Some (Jmp t) → Comes code m (record m { place = t })
jumped law code m t on at =
    let moving : stopped code m ≡ false = rw (on, at) refl in
    let stepped : step code [] m ≡ record m { place = t } = ap (λ o. effect code [] o m) at in
    subst (λ n. Comes code m n) stepped (law.one code m moving)

-- the machine stops where a TAKE is
pub stops_at : (code : Code) (c : List ℤ) (p : ℕ) (r : Reply) (k : Kind) (d : ℕ) → slice_get code.instrs p ≡ Some (Take k d)
    → stopped code (record { cells = c; place = p; reply = r; ended = false }) ≡ true
stops_at code c p r k d at = ap is_take at

pub halts : (law : Runs) (code : Code) (mon : Mon) (c : List ℤ) (p : ℕ) → slice_get code.instrs p ≡ Some (Halt mon) → Halted code (standing c p) mon
halts law code mon c p at = record {
  last = record { cells = c; place = p + 1; reply = reply.Violation (why_of mon); ended = true };
  ended = refl;
  reply = refl;
  comes = goes law code c p (Halt mon) _ at refl refl;
}

pub halted_before : (law : Runs) (code : Code) (a b : MachineState) (mon : Mon) → Comes code a b → Halted code b mon → Halted code a mon
halted_before law code a b mon c h = record { last = h.last; ended = h.ended; reply = h.reply; comes = law.both code a b h.last c h.comes }

-- what comes before a test
pub leads_before : (law : Runs) (code : Code) (d : ℕ) (c c1 : List ℤ) (p p1 q : ℕ) (o : Option Mon) → Keeps d c c1
    → Comes code (standing c p) (standing c1 p1) → Leads code d c1 p1 q o → Leads code d c p q o
leads_before law code d c c1 p p1 q None k f l =
    record { cells = l.cells; keeps = keeps_on d c c1 l.cells k l.keeps; comes = law.both code _ _ _ f l.comes }
leads_before law code d c c1 p p1 q (Some mon) k f l = halted_before law code _ _ mon f l

-- the violation that names a part that isn't Yes
abbrev pub named : (ℕ → Bool → Mon) → Option (ℕ × Truth) → Option Mon
named mon None = None
named mon (Some r) = Some (mon r.0 (is_unknown r.1))

abbrev pub fault : (Bool → Mon) → Truth → Option Mon
fault mon No = Some (mon false)
fault mon Maybe = Some (mon true)
fault mon Yes = None

-- the test of a truth's number
pub yes_leads : (law : Runs) (code : Code) (d : ℕ) (mon : Bool → Mon) (c : List ℤ) (q : ℕ) (t : Truth) → Constants c
    → cell c d ≡ number t → HasAt code q (yes_code q d mon) → Leads code d c q (q + 4) (fault mon t)
yes_leads law code d mon c q Yes s is h =
    record { cells = c; keeps = keeps_all d c; comes = jumps law code d 66 (q + 4) c q true h.0 (rw (is, s.two_is) refl) }
yes_leads law code d mon c q Maybe s is h =
    let one = jumps law code d 66 (q + 4) c q false h.0 (rw (is, s.two_is) refl) in
    let two = jumps law code d 65 (q + 3) c (q + 1) true h.1.0 (rw (is, s.one_is) refl) in
    let e : q + 1 + 1 + 1 ≡ q + 3 = omega arith in
    let at : slice_get code.instrs (q + 3) ≡ Some (Halt (mon true)) = ap (slice_get code.instrs) (sym e) ∙ h.1.1.1.0 in
    halted_before law code _ _ (mon true) (law.both code _ _ _ one two) (halts law code (mon true) c (q + 3) at)
yes_leads law code d mon c q No s is h =
    let one = jumps law code d 66 (q + 4) c q false h.0 (rw (is, s.two_is) refl) in
    let two = jumps law code d 65 (q + 3) c (q + 1) false h.1.0 (rw (is, s.one_is) refl) in
    halted_before law code _ _ (mon false) (law.both code _ _ _ one two) (halts law code (mon false) c (q + 1 + 1) h.1.1.0)

-- one test, and then the others
pub later_leads : (law : Runs) (code : Code) (d : ℕ) (c : List ℤ) (p q e k : ℕ) (mon : ℕ → Bool → Mon) (t : Truth) (ts : List Truth)
    → Leads code d c p q (fault (mon k) t) → ((c1 : List ℤ) → Keeps d c c1 → Leads code d c1 q e (named mon (first_from (suc k) ts)))
    → Leads code d c p e (named mon (first_from k (t ∷ ts)))
later_leads law code d c p q e k mon Yes ts l f = leads_before law code d c l.cells p q e _ l.keeps l.comes (f l.cells l.keeps)
later_leads law code d c p q e k mon Maybe ts l f = l
later_leads law code d c p q e k mon No ts l f = l

-- The fallback's words.

-- where the code of one word leads: on with the word in cell f, or to the violation
abbrev pub One : Code → ℕ → List ℤ → ℕ → ℕ → Bool → ℤ → Type 0
One code f c p q true w = (c' : List ℤ) × (cell c' f ≡ w) × Keeps f c c' × Comes code (standing c p) (standing c' q)
One code f c p q false w = Halted code (standing c p) mon.Fallback

pub one_before : (law : Runs) (code : Code) (f : ℕ) (c c1 : List ℤ) (p p1 q : ℕ) (b : Bool) (w : ℤ) → Keeps f c c1
    → Comes code (standing c p) (standing c1 p1) → One code f c1 p1 q b w → One code f c p q b w
one_before law code f c c1 p p1 q true w k go l = (l.0, l.1, keeps_on f c c1 l.0 k l.2, law.both code _ _ _ go l.3)
one_before law code f c c1 p p1 q false w k go l = halted_before law code _ _ mon.Fallback go l

-- one word, and then the others
pub then_words : (law : Runs) (code : Code) (f : ℕ) (c : List ℤ) (p q e : ℕ) (b : Bool) (w : ℤ) (o : Option (List ℤ)) → One code f c p q b w
    → ((c1 : List ℤ) → Keeps f c c1 → Gains code (f + 1) c1 q e o) → Gains code f c p e (if b then option_map (λ ws. w ∷ ws) o else None)
then_words law code f c p q e false w o one rest = one
then_words law code f c p q e true w None one rest = halted_before law code _ _ mon.Fallback one.3 (rest one.0 one.2)
then_words law code f c p q e true w (Some ws) one rest =
    let l = rest one.0 one.2 in
    record {
      cells = l.cells;
      stand = (l.keeps.below f (omega arith) ∙ one.1, l.stand);
      keeps = keeps_on f c one.0 l.cells one.2 (keeps_fewer f (f + 1) one.0 l.cells (omega arith) l.keeps);
      comes = law.both code _ _ _ one.3 l.comes;
    }
