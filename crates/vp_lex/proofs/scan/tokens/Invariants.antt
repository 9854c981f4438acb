use Rattle.std.proofs.Common.{ℕ, ◌≤◌, ◌-◌, List, length, Result}
use Rattle.vp_lex.specs.declared.token.Token.{Token}
use Rattle.vp_lex.proofs.Scanning.{Scans, with_tokens}
use Rattle.vp_lex.proofs.scan.tokens.Given as goal

-- whatever the rest gives completes the tokens so far
abbrev pub invariant-scan : goal.invariant-scan
invariant-scan l = record {
  within : l.at ≤ length l.text;
  completes : (r : Result (List Token) ℕ) → Scans l.text l.at r → Scans l.text 0 (with_tokens l.found.items r);
}

abbrev pub decreases-scan : goal.decreases-scan
decreases-scan l = length l.text - l.at
