-- The instructions of a whole sandbox.
use Rattle.std.specs.Prelude.{ℕ, ◌+◌, ◌*◌, true, false, List, [], ◌∷◌, ◌++◌, length, map}
use Rattle.vp_words.specs.declared.record.Kind.TheVariants as kind
use Rattle.vp_isa.specs.declared.instr.Mon.TheVariants as mon
use Rattle.vp_isa.specs.declared.instr.Instr.{Instr}
use Rattle.vp_isa.specs.declared.instr.Instr.TheVariants.{Copy, Jmp, Jge, Jeq, Halt}
use Rattle.vp_isa.specs.declared.code.Code.{Code}
use Rattle.vp_poly.specs.declared.mono.Term.{Term}
use Rattle.vp_logic.specs.Tree.{tree}
use Rattle.vp_sandbox.specs.declared.sandbox.Sandbox.{Sandbox}
use Rattle.vp_layout.specs.declared.home.Home.{Home}
use Rattle.vp_layout.specs.declared.block.Monitor.TheVariants as monitor
use Rattle.vp_layout.specs.Blocks.{act_code, copies, take_code}
use Rattle.vp_layout.specs.Drafts.{mon_of}
use Rattle.vp_layout.specs.Homes.{homes_of, two_cell, state_cell, next_control_cell, next_state_cell}
use Rattle.vp_gen.specs.PolyCode.{poly_code}
use Rattle.vp_gen.specs.FormCode.{form_code}
use Rattle.vp_gen.specs.CheckCode.{checks_code}

-- the fallback's words stand behind the constants, and behind them the cells that are worked in
abbrev pub fallback_cell : ℕ
fallback_cell = 68

abbrev pub work_cell : ℕ
work_cell = 84

-- from place q: the low end in the work cells goes to cell f where the ends are the same, and else it ends
abbrev pub same_code : ℕ → ℕ → List Instr
same_code q f = Jeq work_cell (work_cell + 1) (q + 2) ∷ Halt mon.Fallback ∷ Copy f work_cell ∷ []

-- from place p: the one word of a polynomial, in cell f
abbrev pub word_code : ℕ → ℕ → List Term → List Home → List Instr
word_code p f q hs = poly_code work_cell q hs ++ same_code (p + length (poly_code work_cell q hs)) f

-- from place p: the words of these polynomials, from cell f on
abbrev pub words_code : ℕ → ℕ → List (List Term) → List Home → List Instr
words_code p f [] hs = []
words_code p f (q ∷ qs) hs = word_code p f q hs ++ words_code (p + length (word_code p f q hs)) (f + 1) qs hs

-- the init record is taken and tested
abbrev pub init_code : Sandbox → List Instr
init_code s = take_code s.counts kind.Init ++ checks_code 5 work_cell (mon_of monitor.Init) 1 (map tree s.init) (homes_of s.counts)

-- from place p: the fallback is actuated
abbrev pub fallback_code : Sandbox → ℕ → List Instr
fallback_code s p = words_code p fallback_cell s.fallback (homes_of s.counts) ++ act_code s.counts true fallback_cell

-- the choice is actuated
abbrev pub chosen_code : Sandbox → List Instr
chosen_code s = act_code s.counts false (next_control_cell s.counts)

-- a choice is taken, and its truth worked out
abbrev pub test_code : Sandbox → List Instr
test_code s = take_code s.counts kind.Choice ++ form_code work_cell (tree s.ctrl) (homes_of s.counts)

-- from place p: a choice is taken, and it or the fallback is actuated
abbrev pub choice_code : Sandbox → ℕ → List Instr
choice_code s p =
    let q = p + length (test_code s) + 1 in
    let chosen = q + length (fallback_code s q) + 1 in
    test_code s
    ++ (Jge work_cell two_cell chosen ∷ (fallback_code s q
    ++ (Jmp (chosen + length (chosen_code s)) ∷ chosen_code s)))

-- from place p: a sensing is taken and tested, and the next states become the states; then back to the head
abbrev pub sense_code : Sandbox → ℕ → ℕ → List Instr
sense_code s head p =
    take_code s.counts kind.Sense
    ++ (checks_code (p + 5) work_cell (mon_of monitor.Plant) 1 (map tree s.plant) (homes_of s.counts)
    ++ (copies (state_cell s.counts) (next_state_cell s.counts) (2 * s.counts.states) ++ Jmp head ∷ []))

-- where a choice is taken, and where a sensing is
abbrev pub head_of : Sandbox → ℕ
head_of s = length (init_code s)

abbrev pub sense_of : Sandbox → ℕ
sense_of s = head_of s + length (choice_code s (head_of s))

-- the code of a sandbox
abbrev pub code_of : Sandbox → Code
code_of s = record {
  counts = s.counts;
  cells = 512;
  head = head_of s;
  instrs = init_code s ++ (choice_code s (head_of s) ++ sense_code s (head_of s) (sense_of s));
}
