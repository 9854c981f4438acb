use Rattle.std.proofs.Common.{◌≡◌, map, string_bytes, take}
use Rattle.vp_read.specs.Sections.{spelled}
use Rattle.vp_read.proofs.sections.spelled.Given as goal

abbrev pub invariant-loop-span : goal.invariant-loop-span
invariant-loop-span l = map string_bytes l.names.items ≡ spelled l.text (take l.span-index l.spans)
