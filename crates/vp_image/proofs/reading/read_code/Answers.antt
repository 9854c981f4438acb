use Rattle.std.proofs.Common.{ℕ, List, None, Some}
use Rattle.std.proofs.lemmas.List.{take_rest}
use Rattle.vp_image.proofs.Parts.{AreRead, code_checked}
use Rattle.vp_image.proofs.reading.read_code.Goals as goal

pub returns-in-Ok : goal.returns-in-Ok
returns-in-Ok c =
    let bytes : List ℕ = c.args.bytes.now in
    let are : AreRead bytes c.u32_at.result _ c.in_ok-instrs.instrs = record { counted = c.u32_at.ensures; follows = take_rest bytes 19; read = c.in_ok-instrs.ensures } in
    rw (c.package_digest.ensures, c.in-Ok.ensures.0) (code_checked bytes _ _ c.code_from.result c.in_ok-instrs.instrs None are c.code_from.ensures c.in-Ok.ensures.1)

pub returns-in-Err : goal.returns-in-Err
returns-in-Err c =
    let bytes : List ℕ = c.args.bytes.now in
    let are : AreRead bytes c.u32_at.result _ c.in_ok-instrs.instrs = record { counted = c.u32_at.ensures; follows = take_rest bytes 19; read = c.in_ok-instrs.ensures } in
    code_checked bytes _ _ c.code_from.result c.in_ok-instrs.instrs (Some c.in-Err.e) are c.code_from.ensures c.in-Err.ensures
