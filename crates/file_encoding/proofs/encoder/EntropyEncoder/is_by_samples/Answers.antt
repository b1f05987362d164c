use Rattle.file_encoding.proofs.encoder.EntropyEncoder.is_by_samples.Goals as goal

pub returns-in-Samples : goal.returns-in-Samples
returns-in-Samples c = record { samples = λ yes. rw c.in-Samples.is tt; blocks = λ no. absurd cc }

pub returns-in-Blocks : goal.returns-in-Blocks
returns-in-Blocks c = record { samples = λ yes. absurd cc; blocks = λ no. rw c.in-Blocks.is tt }
