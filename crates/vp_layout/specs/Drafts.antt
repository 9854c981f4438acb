-- What emitting adds to a draft of code.
use Rattle.std.specs.Prelude.{ℕ, ◌≡◌, ◌<◌, ◌≤◌, ◌+◌, ◌^◌, Bool, true, false, ◌&&◌, List, [], ◌∷◌, ◌++◌, length, map, Option, Some, None}
use Rattle.vp_isa.specs.declared.instr.Mon.{Mon}
use Rattle.vp_isa.specs.declared.instr.Mon.TheVariants as mon
use Rattle.vp_isa.specs.declared.instr.Instr.{Instr}
use Rattle.vp_isa.specs.Valid.{target_of}
use Rattle.vp_emit.specs.Targets.{resolved, first_unplaced}
use Rattle.vp_emit.specs.Draft.{Draft}
use Rattle.vp_layout.specs.declared.block.Monitor.{Monitor}
use Rattle.vp_layout.specs.declared.block.Monitor.TheVariants as monitor

-- the violation that a monitor reports
abbrev pub mon_of : Monitor → ℕ → Bool → Mon
mon_of monitor.Init k unknown = mon.Init k unknown
mon_of monitor.Plant k unknown = mon.Plant k unknown

abbrev pub is_none : Option ℕ → Bool
is_none None = true
is_none (Some t) = false

-- none of the instructions is a jump
abbrev pub no_jumps : List Instr → Bool
no_jumps [] = true
no_jumps (i ∷ is) = is_none (target_of i) && no_jumps is

-- with these places of labels, the instructions become the code, and each label has its place
pub record Settles (places : List (Option ℕ)) (added code : List Instr) : Type 0 where
  pub code_is : map (resolved places) added ≡ code
  pub placed : first_unplaced places added ≡ None

-- the draft grows by instructions that use no labels but new ones, and become the code of the place where they stand
pub record Appends (a b : Draft) (code : ℕ → List Instr) : Type 0 where
  pub added : List Instr
  pub labels : List (Option ℕ)
  pub counts : b.counts ≡ a.counts
  pub pushed : b.pushed ≡ a.pushed ++ added
  pub places : b.places ≡ a.places ++ labels
  pub few : length labels ≤ length added
  pub own : (front more : List (Option ℕ)) → length front ≡ length a.places → Settles (front ++ (labels ++ more)) added (code (length a.pushed))

-- n more instructions can be pushed, and as many labels made
pub record HasRoom (a : Draft) (n : ℕ) : Type 0 where
  pub room : length a.pushed + n < 2 ^ 31
  pub labels : length a.places ≤ length a.pushed + 1
