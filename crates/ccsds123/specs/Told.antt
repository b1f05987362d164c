-- What C is told of the outcome of a call.
use Rattle.std.specs.Prelude.{ℕ, ◌≡◌, ◌^◌, ◌-◌, min, ℤ, pos, Result, Ok, Err}
use Rattle.cube_core.specs.declared.fault.Fault.{Fault}
use Rattle.cube_core.specs.declared.fault.Fault.TheVariants as fault
use Rattle.cube_core.specs.declared.fault.Field.{Field}
use Rattle.cube_core.specs.declared.fault.Field.TheVariants as field
use Rattle.cube_core.specs.declared.fault.Rule.{Rule}
use Rattle.cube_core.specs.declared.fault.Rule.TheVariants as rule
use Rattle.ccsds123.specs.declared.records.FaultRecord.{FaultRecord}
use Rattle.ccsds123.specs.declared.refusal.Refusal.{Refusal}
use Rattle.ccsds123.specs.declared.refusal.Refusal.TheVariants.{Coder, Room, StructSize, Choice}
use Rattle.ccsds123.specs.declared.refusal.Room.{Room as RoomName}
use Rattle.ccsds123.specs.declared.refusal.Room.TheVariants as room
use Rattle.ccsds123.specs.declared.refusal.Member.{Member}
use Rattle.ccsds123.specs.declared.refusal.Member.TheVariants as member

-- a number as C's signed one of 64 bits, and the greatest of these where it is above
abbrev pub capped : ℕ → ℤ
capped n = pos (min n (2 ^ 63 - 1))

abbrev pub fault_record : ℕ → ℕ → ℤ → ℤ → FaultRecord
fault_record number name first second = record { number = number; name = name; first = first; second = second }

abbrev pub room_number : RoomName → ℕ
room_number room.File = 1
room_number room.Raw = 2
room_number room.Weights = 3
room_number room.Accumulators = 4

abbrev pub member_number : Member → ℕ
member_number member.Order = 1
member_number member.Coder = 2
member_number member.Interleave = 3
member_number member.Bytes = 4

-- a field's place among all fields, counted from 1
abbrev pub field_number : Field → ℕ
field_number field.Columns = 1
field_number field.Rows = 2
field_number field.Bands = 3
field_number field.DynamicRange = 4
field_number field.User = 5
field_number field.Depth = 6
field_number field.WordSize = 7
field_number field.Previous = 8
field_number field.Register = 9
field_number field.Omega = 10
field_number field.Interval = 11
field_number field.VMin = 12
field_number field.VMax = 13
field_number field.WeightStart = 14
field_number field.Resolution = 15
field_number field.WeightEntry = 16
field_number field.Umax = 17
field_number field.GammaStar = 18
field_number field.GammaZero = 19
field_number field.AccumulatorTable = 20
field_number field.BlockSize = 21
field_number field.Restricted = 22
field_number field.Reference = 23
field_number field.Predictors = 24
field_number field.Slots = 25

-- a rule's place among all rules, counted from 1
abbrev pub rule_number : Rule → ℕ
rule_number rule.DepthOverBands = 1
rule_number rule.FullOneColumn = 2
rule_number rule.NeighbourOneColumn = 3
rule_number rule.RegisterTooSmall = 4
rule_number rule.ExponentOrder = 5
rule_number rule.DefaultWithTable = 6
rule_number rule.DefaultWithResolution = 7
rule_number rule.ResolutionOverOmega = 8
rule_number rule.WeightTableLength = 9
rule_number rule.CounterOrder = 10
rule_number rule.StartConstant = 11
rule_number rule.ConstantWithTable = 12
rule_number rule.AccumulatorTableLength = 13
rule_number rule.AccumulatorEntry = 14
rule_number rule.RestrictedOverFour = 15

-- the number of a fault of the coder, its field or rule, and its values
abbrev pub coder_record : Fault → FaultRecord
coder_record fault.ShortHeader = fault_record 1 0 (pos 0) (pos 0)
coder_record (fault.Reserved bit) = fault_record 2 0 (capped bit) (pos 0)
coder_record (fault.FieldRange field value) = fault_record 3 (field_number field) value (pos 0)
coder_record (fault.Disagree rule) = fault_record 4 (rule_number rule) (pos 0) (pos 0)
coder_record fault.TableElsewhere = fault_record 5 0 (pos 0) (pos 0)
coder_record (fault.Truncated bit) = fault_record 6 0 (capped bit) (pos 0)
coder_record (fault.BadCode place) = fault_record 7 0 (capped place) (pos 0)
coder_record (fault.BadOption block) = fault_record 8 0 (capped block) (pos 0)
coder_record (fault.RunPastSegment block) = fault_record 9 0 (capped block) (pos 0)
coder_record fault.BadFill = fault_record 10 0 (pos 0) (pos 0)
coder_record (fault.TooLong bits) = fault_record 11 0 (capped bits) (pos 0)
coder_record fault.WantOfMemory = fault_record 12 0 (pos 0) (pos 0)
coder_record (fault.SampleRange index) = fault_record 13 0 (capped index) (pos 0)
coder_record (fault.RawLength wanted had) = fault_record 14 0 (capped wanted) (capped had)
coder_record (fault.BadDeal band) = fault_record 15 0 (pos band) (pos 0)
coder_record fault.SpawnRefused = fault_record 16 0 (pos 0) (pos 0)
coder_record (fault.Stopped predictor sent) = fault_record 17 0 (pos predictor) (capped sent)
coder_record fault.Read = fault_record 18 0 (pos 0) (pos 0)
coder_record (fault.Write written) = fault_record 19 0 (capped written) (pos 0)
coder_record fault.Usage = fault_record 20 0 (pos 0) (pos 0)

-- what is told of a refusal
abbrev pub record_of : Refusal → FaultRecord
record_of (Coder fault) = coder_record fault
record_of (Room room wanted had) = fault_record 21 (room_number room) (capped wanted) (capped had)
record_of (StructSize wanted had) = fault_record 22 0 (pos wanted) (pos had)
record_of (Choice member value) = fault_record 23 (member_number member) (pos value) (pos 0)

-- the call answers 0, and all is told as 0; or it answers the number of the refusal that is told
unfoldable pub IsAnswer : Result (Unit {0}) Refusal → ℤ → FaultRecord → Type 0
IsAnswer (Ok done) code told = (code ≡ pos 0) × (told ≡ fault_record 0 0 (pos 0) (pos 0))
IsAnswer (Err refusal) code told = (code ≡ pos (record_of refusal).number) × (told ≡ record_of refusal)

-- the call answers an outcome, of which this holds
unfoldable pub Answers : ℤ → FaultRecord → (Result (Unit {0}) Refusal → Type 0) → Type 0
Answers code told Holds = (outcome : Result (Unit {0}) Refusal) × IsAnswer outcome code told × Holds outcome
