-- The exit status of each refusal.
use Rattle.std.specs.Prelude.{ℕ}
use Rattle.cube_core.specs.declared.fault.Fault.{Fault}
use Rattle.cube_core.specs.declared.fault.Fault.TheVariants as fault

-- 1 for the words, 2 for refused input, 3 for memory or a thread, 4 for a device
abbrev pub status : Fault → ℕ
status fault.ShortHeader = 2
status (fault.Reserved bit) = 2
status (fault.FieldRange field value) = 2
status (fault.Disagree rule) = 2
status fault.TableElsewhere = 2
status (fault.Truncated bit) = 2
status (fault.BadCode place) = 2
status (fault.BadOption block) = 2
status (fault.RunPastSegment block) = 2
status fault.BadFill = 2
status (fault.TooLong bits) = 2
status fault.WantOfMemory = 3
status (fault.SampleRange index) = 2
status (fault.RawLength wanted had) = 2
status (fault.BadDeal band) = 2
status fault.SpawnRefused = 3
status (fault.Stopped predictor sent) = 2
status fault.Read = 4
status (fault.Write written) = 4
status fault.Usage = 1
