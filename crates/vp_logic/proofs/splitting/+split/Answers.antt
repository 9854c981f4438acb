use Rattle.std.proofs.Common.{◌≡◌, sym, arith}
use Rattle.vp_logic.specs.Tree.{trees}
use Rattle.vp_logic.specs.Cases.{all_count}
use Rattle.vp_logic.proofs.Joining.{no_all}
use Rattle.vp_logic.proofs.splitting.+split.Goals as goal

pub split_all-returns-then-count_of_all-eq0 : goal.split_all-returns-then-count_of_all-eq0
split_all-returns-then-count_of_all-eq0 t c =
    let e : all_count (trees c.args.norms.now) ≡ 0 = omega arith in
    rw c.new.ensures.items (sym (no_all c.args.first (trees c.args.norms.now) e))
