-- Refusals of the layers below, as those of a package.
use Rattle.vp_read.specs.declared.fault.ReadErr.{ReadErr}
use Rattle.vp_read.specs.declared.fault.ReadErr.TheVariants as read
use Rattle.vp_monitor.specs.declared.error.MonErr.{MonErr}
use Rattle.vp_monitor.specs.declared.error.MonErr.TheVariants as monitor
use Rattle.vp_synth.specs.declared.refusal.Refusal.{Refusal}
use Rattle.vp_synth.specs.declared.refusal.Refusal.TheVariants.{Read, Monitor, Memory}

-- want of memory is one refusal, wherever it came
abbrev pub of_read : ReadErr → Refusal
of_read (read.Lex at) = Read (read.Lex at)
of_read (read.Number at) = Read (read.Number at)
of_read (read.Deep piece) = Read (read.Deep piece)
of_read (read.Section piece) = Read (read.Section piece)
of_read (read.Names count) = Read (read.Names count)
of_read (read.Twice name) = Read (read.Twice name)
of_read (read.Entries piece count) = Read (read.Entries piece count)
of_read (read.Undeclared name piece) = Read (read.Undeclared name piece)
of_read read.Memory = Memory

abbrev pub of_monitors : MonErr → Refusal
of_monitors (monitor.Wide place) = Monitor (monitor.Wide place)
of_monitors (monitor.Paths count) = Monitor (monitor.Paths count)
of_monitors (monitor.Hidden name) = Monitor (monitor.Hidden name)
of_monitors (monitor.NotLinear name) = Monitor (monitor.NotLinear name)
of_monitors (monitor.Cycle names) = Monitor (monitor.Cycle names)
of_monitors (monitor.Fraction name) = Monitor (monitor.Fraction name)
of_monitors (monitor.Cases part count) = Monitor (monitor.Cases part count)
of_monitors monitor.Memory = Memory
