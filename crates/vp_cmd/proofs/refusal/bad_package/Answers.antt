use Rattle.vp_cmd.proofs.Refusing.{monitor_is, monitor_line}
use Rattle.vp_cmd.proofs.refusal.bad_package.Goals as goal

pub returns-in_ok-read_names-in-Monitor-clause-due : goal.returns-in_ok-read_names-in-Monitor-clause-due
returns-in_ok-read_names-in-Monitor-clause-due c =
    monitor_line c.args.text.now c.args.why c.in-Monitor.why c.in_ok-read_names-in-Monitor.field-0 c.bad_model.result c.in-Monitor.is c.in_ok-read_names-in-Monitor.ensures c.bad_model.ensures.due

pub returns-in_ok-read_names-in-Monitor-clause-memory : goal.returns-in_ok-read_names-in-Monitor-clause-memory
returns-in_ok-read_names-in-Monitor-clause-memory c = monitor_is c.args.why c.in-Monitor.why c.bad_model.result c.in-Monitor.is
