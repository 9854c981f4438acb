-- Words that were read, and those of the fields that are left.
use Rattle.std.proofs.Common.{◌≡◌, ℤ, List, [], ◌∷◌, ◌++◌, Result, Ok, Err, refl, ap, sym, append_assoc}
use Rattle.vp_stream.specs.declared.record.LineErr.{LineErr}
use Rattle.vp_stream.specs.Reading.{with_word}

-- the words so far, before the others
abbrev pub behind : List ℤ → Result (List ℤ) LineErr → Result (List ℤ) LineErr
behind front (Err e) = Err e
behind front (Ok words) = Ok (front ++ words)

pub behind_none : (r : Result (List ℤ) LineErr) → behind [] r ≡ r
behind_none (Ok words) = refl
behind_none (Err e) = refl

pub behind_more : (front : List ℤ) (word : ℤ) (r : Result (List ℤ) LineErr) → behind front (with_word (Ok word) r) ≡ behind (front ++ word ∷ []) r
behind_more front word (Ok words) = ap Ok (sym (append_assoc front (word ∷ []) words))
behind_more front word (Err e) = refl
