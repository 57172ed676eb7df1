-- The names of the fields of records, in short words of DSP0248.
use Rattle.std.specs.Prelude.{ℕ, List, codes}
use Rattle.mctpctl_decode.specs.declared.label.Label.{Label}
use Rattle.mctpctl_decode.specs.declared.label.Limit.{Limit}
use Rattle.mctpctl_decode.specs.declared.label.Label.TheVariants.{Record, Version, RecordType, Change, Terminus, Valid, Tid}
use Rattle.mctpctl_decode.specs.declared.label.Label.TheVariants.{Eid, Sensor, Effecter, Entity, Instance, Container}
use Rattle.mctpctl_decode.specs.declared.label.Label.TheVariants.{Semantic, Init, AuxiliaryNames, Description}
use Rattle.mctpctl_decode.specs.declared.label.Label.TheVariants.{StateSet, Unit, Modifier, Rate, Oem, AuxUnit}
use Rattle.mctpctl_decode.specs.declared.label.Label.TheVariants.{AuxModifier, AuxRate, AuxOem, Rel, Linear}
use Rattle.mctpctl_decode.specs.declared.label.Label.TheVariants.{Resolution, Offset, Accuracy, PlusTolerance}
use Rattle.mctpctl_decode.specs.declared.label.Label.TheVariants.{MinusTolerance, MaxReadable, MinReadable}
use Rattle.mctpctl_decode.specs.declared.label.Label.TheVariants.{Hysteresis, StateTransition, Update, Volatility}
use Rattle.mctpctl_decode.specs.declared.label.Label.TheVariants.{MaxSettable, MinSettable, Transition}
use Rattle.mctpctl_decode.specs.declared.label.Limit.TheVariants.{Nominal, NormalMax, NormalMin, WarningHigh}
use Rattle.mctpctl_decode.specs.declared.label.Limit.TheVariants.{WarningLow, CriticalHigh, CriticalLow, FatalHigh}
use Rattle.mctpctl_decode.specs.declared.label.Limit.TheVariants.{FatalLow, RatedMax, RatedMin, UpperWarning}
use Rattle.mctpctl_decode.specs.declared.label.Limit.TheVariants.{UpperCritical, UpperFatal, LowerWarning}
use Rattle.mctpctl_decode.specs.declared.label.Limit.TheVariants.{LowerCritical, LowerFatal}

unfoldable pub label_name : Label → List ℕ
label_name Record = codes "record"
label_name Version = codes "version"
label_name RecordType = codes "type"
label_name Change = codes "change"
label_name Terminus = codes "terminus"
label_name Valid = codes "valid"
label_name Tid = codes "tid"
label_name Eid = codes "eid"
label_name Sensor = codes "sensor"
label_name Effecter = codes "effecter"
label_name Entity = codes "entity"
label_name Instance = codes "instance"
label_name Container = codes "container"
label_name Semantic = codes "semantic"
label_name Init = codes "init"
label_name AuxiliaryNames = codes "auxiliaryNames"
label_name Description = codes "description"
label_name StateSet = codes "stateSet"
label_name Unit = codes "unit"
label_name Modifier = codes "modifier"
label_name Rate = codes "rate"
label_name Oem = codes "oem"
label_name AuxUnit = codes "auxUnit"
label_name AuxModifier = codes "auxModifier"
label_name AuxRate = codes "auxRate"
label_name AuxOem = codes "auxOem"
label_name Rel = codes "rel"
label_name Linear = codes "linear"
label_name Resolution = codes "resolution"
label_name Offset = codes "offset"
label_name Accuracy = codes "accuracy"
label_name PlusTolerance = codes "plusTolerance"
label_name MinusTolerance = codes "minusTolerance"
label_name MaxReadable = codes "maxReadable"
label_name MinReadable = codes "minReadable"
label_name Hysteresis = codes "hysteresis"
label_name StateTransition = codes "stateTransition"
label_name Update = codes "update"
label_name Volatility = codes "volatility"
label_name MaxSettable = codes "maxSettable"
label_name MinSettable = codes "minSettable"
label_name Transition = codes "transition"

-- a field of the range of a numeric sensor or effecter, or a threshold of a sensor
unfoldable pub limit_name : Limit → List ℕ
limit_name Nominal = codes "nominal"
limit_name NormalMax = codes "normalMax"
limit_name NormalMin = codes "normalMin"
limit_name WarningHigh = codes "warningHigh"
limit_name WarningLow = codes "warningLow"
limit_name CriticalHigh = codes "criticalHigh"
limit_name CriticalLow = codes "criticalLow"
limit_name FatalHigh = codes "fatalHigh"
limit_name FatalLow = codes "fatalLow"
limit_name RatedMax = codes "ratedMax"
limit_name RatedMin = codes "ratedMin"
limit_name UpperWarning = codes "upperWarning"
limit_name UpperCritical = codes "upperCritical"
limit_name UpperFatal = codes "upperFatal"
limit_name LowerWarning = codes "lowerWarning"
limit_name LowerCritical = codes "lowerCritical"
limit_name LowerFatal = codes "lowerFatal"
