-- When a call may answer a fault.
use Rattle.std.specs.Prelude.{ℕ, ◌≤◌, ◌≡◌, List, Result, OnOk, OnErr, IsErrOf}
use Rattle.vp_outside.specs.Counts.{next_count}
use Rattle.vp_outside.specs.declared.store.Loaded.{Loaded}
use Rattle.vp_outside.specs.declared.store.LoadErr.{LoadErr}
use Rattle.vp_outside.specs.declared.store.LoadErr.TheVariants.{Failed}

-- the count went up by at least one, or stands at its last value
abbrev pub Rose : ℕ → ℕ → Type 0
Rose before now = next_count before ≤ now

-- the count never falls; it rose where a fault is answered, and is as before at an Ok
pub record HasCause {T E : Type 0} (before now : ℕ) (result : Result T E) : Type 0 where
  pub later : before ≤ now
  pub failed : OnErr result (Rose before now)
  pub kept : OnOk result (now ≡ before)

-- the same of a load: its fault makes the given name the last that failed, and every other answer leaves the count and that name
pub record HasLoadCause (before now : ℕ) (last_before last_now name : List ℕ) (result : Result Loaded LoadErr) : Type 0 where
  pub later : before ≤ now
  pub failed : IsErrOf result Failed → Rose before now
  pub named : IsErrOf result Failed → last_now ≡ name
  pub kept : ¬ IsErrOf result Failed → now ≡ before
  pub kept_name : ¬ IsErrOf result Failed → last_now ≡ last_before
