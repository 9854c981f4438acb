-- Why a text has no tokens, as why it is no package.
use Rattle.vp_lex.specs.declared.token.LexErr.{LexErr}
use Rattle.vp_lex.specs.declared.token.LexErr.TheVariants as lex
use Rattle.vp_read.specs.declared.fault.ReadErr.{ReadErr}
use Rattle.vp_read.specs.declared.fault.ReadErr.TheVariants as fault

abbrev pub of_lex : LexErr → ReadErr
of_lex (lex.Byte at) = fault.Lex at
of_lex lex.Memory = fault.Memory
