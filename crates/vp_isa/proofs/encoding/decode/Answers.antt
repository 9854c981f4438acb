use Rattle.std.proofs.Common.{◌≡◌, true, Some, ap, sym, ◌∙◌}
use lib.Pointwise.{bytes_decides}
use Rattle.vp_isa.specs.Reading.{instr_of}
use Rattle.vp_isa.proofs.Bytes.{read_back}
use Rattle.vp_isa.proofs.encoding.decode.Goals.{in_default-via-in-Some+else-eq, in_default-via-in_default}
use Rattle.vp_isa.proofs.encoding.decode.Goals as goal

pub returns-in_default-clause-bytes : goal.returns-in_default-clause-bytes
returns-in_default-clause-bytes c = λ i fits e.
    let found : c.read.result ≡ Some i = c.read.ensures ∙ ap instr_of (sym e) ∙ read_back i fits in
    elim c.in_default.branch [
      | in_default-via-in-Some+else-eq w ↦ let same : w.encode.result ≡ c.args.bytes.now = cc in
          let equal : w.eq.result ≡ true = w.eq.ensures ∙ (bytes_decides w.encode.result c.args.bytes.now).1 same in
          cc
      | in_default-via-in_default w ↦ w.in_default.not-Some i found
    ]
