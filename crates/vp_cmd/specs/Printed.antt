-- Statuses under which a text is printed.
use Rattle.vp_cmd.specs.declared.status.Status.{Status}
use Rattle.vp_cmd.specs.declared.status.Status.TheVariants.{ReadFault, WriteFault, StoreFault, WantOfMemory}

-- a status under which a whole text is printed: no fault, and no want of memory
abbrev pub IsPrinted : Status → Type 0
IsPrinted ReadFault = ⊥
IsPrinted WriteFault = ⊥
IsPrinted StoreFault = ⊥
IsPrinted WantOfMemory = ⊥
IsPrinted status = Unit {0}
