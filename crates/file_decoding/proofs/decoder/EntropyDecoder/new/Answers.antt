use Rattle.sample_adaptive.proofs.ForSamples.{for_samples}
use Rattle.sample_adaptive.proofs.Given.{none_given}
use Rattle.file_decoding.proofs.decoder.EntropyDecoder.new.Goals as goal

pub new-requires : goal.new-requires
new-requires c = for_samples _ c.requires (rw c.in-Sample.is tt)

pub returns-in_ok-new-in-Sample-clause-given : goal.returns-in_ok-new-in-Sample-clause-given
returns-in_ok-new-in-Sample-clause-given c =
    none_given _ _ (rw c.in-Sample.is tt) c.in_ok-new-in-Sample.ensures.bands c.in_ok-new-in-Sample.ensures.taken
