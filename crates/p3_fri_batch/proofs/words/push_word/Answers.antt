use Rattle.p3_fri_batch.proofs.words.push_word.Goals as goal

pub has_log_height-requires : goal.has_log_height-requires
has_log_height-requires g c = record { cosets = λ k d l. (c.requires.ready k d l).coset }
