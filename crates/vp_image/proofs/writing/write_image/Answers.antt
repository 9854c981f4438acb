use Rattle.std.proofs.Common.{◌≡◌, ◌++◌, List, ℕ, ap, subst, ◌∙◌}
use Rattle.sha2.specs.Sha256.{sha256}
use Rattle.vp_isa.specs.declared.code.Code.{Code}
use Rattle.vp_image.specs.Image.{body, image_read, AreInstrs}
use Rattle.vp_image.proofs.writing.write_image.Goals as goal

pub returns-clause-bytes : goal.returns-clause-bytes
returns-clause-bytes c =
    let before : List ℕ = c.in_ok-bytes.bytes.items in
    let whole : before ≡ body c.args.code.now c.args.package_digest.now = c.in_ok-bytes.ensures.bytes ∙ ap (λ (code : Code). body code c.args.package_digest.now) c.code.ensures.code in
    c.in_ok-extend_from_slice.ensures.items
    ∙ ap (λ (digest : List ℕ). before ++ digest) (c.digest-digest.ensures ∙ ap sha256 c.as_slice.ensures.value)
    ∙ ap (λ (bytes : List ℕ). bytes ++ sha256 bytes) whole

pub returns-clause-read_back : goal.returns-clause-read_back
returns-clause-read_back c =
    let fit : AreInstrs c.args.code.now.instrs = subst (λ (code : Code). AreInstrs code.instrs) c.code.ensures.code c.in_ok-bytes.ensures.fit in
    ap image_read (returns-clause-bytes c)
    ∙ c.written_is_read.ensures c.args.code.now c.args.package_digest.now (record { instrs = fit; long = c.told-package_digest; accepted = c.code.ensures.accepted })
