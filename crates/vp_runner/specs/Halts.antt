-- Halts of a walk as answers of a session. Private to sessions.
use Rattle.vp_stream.specs.declared.verdict.Ending.TheVariants as ending
use Rattle.vp_runner.specs.declared.walk.Halt.{Halt}
use Rattle.vp_runner.specs.declared.walk.Halt.TheVariants as halt
use Rattle.vp_runner.specs.declared.ends.Cause.{Cause}
use Rattle.vp_runner.specs.declared.ends.Cause.TheVariants as cause
use Rattle.vp_runner.specs.declared.ends.Fed.{Fed}
use Rattle.vp_runner.specs.declared.ends.Fed.TheVariants as fed
use Rattle.vp_runner.specs.declared.ends.End.{End}
use Rattle.vp_runner.specs.declared.ends.End.TheVariants as end

-- why nothing more is answered behind a halt
abbrev pub cause_of : Halt → Cause
cause_of (halt.Ended ending.Violated) = cause.Violated
cause_of (halt.Ended (ending.BadLine n)) = cause.BadLine n
cause_of halt.Failed = cause.Failed

-- what `feed` answers then
abbrev pub fed_of : Halt → Fed
fed_of (halt.Ended ending.Violated) = fed.Violated
fed_of (halt.Ended (ending.BadLine n)) = fed.BadLine n
fed_of halt.Failed = fed.Failed

-- what `finish` answers then
abbrev pub end_of : Halt → End
end_of (halt.Ended ending.Violated) = end.Violated
end_of (halt.Ended (ending.BadLine n)) = end.BadLine n
end_of halt.Failed = end.Failed
