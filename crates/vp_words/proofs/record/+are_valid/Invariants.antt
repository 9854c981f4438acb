use Rattle.vp_words.proofs.record.+are_valid.Given as goal

abbrev pub decreases-are_valid : goal.decreases-are_valid
decreases-are_valid l = l.pairs
