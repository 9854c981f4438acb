use Rattle.std.proofs.Common.{◌≡◌, ◌+◌, ◌-◌, ◌++◌, length, take, drop, replicate, length-drop, ap, sym, ◌∙◌, arith}
use Rattle.std.specs.Prelude.{pos}
use Rattle.std.proofs.lemmas.List.{drop-replicate, length-take}
use Rattle.vp_vm.proofs.execute.words_at.Goals as goal

pub returns : goal.returns
returns c =
    let words = take c.args.count (drop c.args.d c.args.cells.now) in
    let same : (c.args.d + c.args.count) - c.args.d ≡ c.args.count = omega arith in
    let long : length words ≡ c.args.count = simp (length-take, length-drop) (omega arith) in
    ap (λ t. t ++ drop c.args.count (replicate 16 (pos 0))) (c.copy_from_slice.ensures.after ∙ ap (λ n. take n (drop c.args.d c.args.cells.now)) same)
    ∙ ap (λ t. words ++ t) (drop-replicate c.args.count 16 (pos 0))
    ∙ ap (λ n. words ++ replicate (16 - n) (pos 0)) (sym long)
