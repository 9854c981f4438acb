-- The command that a value of the program shows.
use Rattle.vp_cmd.specs.declared.words.Command.{Command}
use Rattle.vp_cmd.specs.declared.words.Command.TheVariants as of
use Rattle.vp_cmd.specs.Commands as command

abbrev pub shown : Command → command.Command
shown (of.Check p) = command.Check p.now
shown (of.Compile p) = command.Compile p.now
shown (of.Exec i) = command.Exec i.now
shown (of.Run p) = command.Run p.now
shown (of.Listing p) = command.Listing p.now
shown (of.Log p c) = command.Log p.now c.now
shown (of.SelfTest seed rounds) = command.SelfTest seed rounds
shown of.Demo = command.Demo
