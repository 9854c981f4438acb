-- The instruction that 12 bytes are.
use Rattle.std.specs.Prelude.{ℕ, List, Option, None, Some, option_and_then, if◌then◌else◌}
use Rattle.std.specs.Str.{bytes_eq}
use Rattle.vp_isa.specs.declared.instr.Instr.{Instr}
use Rattle.vp_isa.specs.Encoding.{encoded}
use Rattle.vp_isa.specs.Reading.{instr_of}

-- an instruction, if the bytes are its own
abbrev pub own_bytes : List ℕ → Instr → Option Instr
own_bytes bytes instr = if bytes_eq (encoded instr) bytes then Some instr else None

-- the instruction whose bytes these are, if there is one
abbrev pub decoded : List ℕ → Option Instr
decoded bytes = option_and_then (own_bytes bytes) (instr_of bytes)
