-- The options of the commands, each with its default.
use Rattle.std.specs.Prelude.{List, [], ◌∷◌, ◌++◌, map, Some, true, codes, fold}
use Rattle.clap.specs.Walk.{Rule, Text}
use Rattle.clap.specs.Simple.{App, new_app, new_rule, with_rule}
use Rattle.clap.specs.declared.builder.action.ArgAction.TheVariants.{Set, SetTrue}

-- a required option with a value
abbrev pub required : Text → Rule
required name = record (new_rule name) { long = Some name; action = Some Set; required = true }

-- an option with a value, and its default
abbrev pub option : Text × Text → Rule
option o = record (new_rule o.0) { long = Some o.0; action = Some Set; defaults = o.1 ∷ [] }

abbrev pub flag : Text → Rule
flag name = record (new_rule name) { long = Some name; action = Some SetTrue }

-- a positional word: the name of a file
abbrev pub file : Text → Rule
file name = record (new_rule name) { action = Some Set; required = true }

-- the options of an image's sizes and samples
unfoldable pub sizes : List Text
sizes = codes "columns" ∷ codes "rows" ∷ codes "bands" ∷ codes "bits" ∷ []

-- the options with defaults: those of the encoding order and the rest of the image part, of the predictor, of the coders, and of threads
unfoldable pub options : List (Text × Text)
options =
    (codes "order", codes "bsq") ∷ (codes "depth", codes "1") ∷ (codes "user", codes "0") ∷ (codes "word", codes "1")
    ∷ (codes "previous", codes "3") ∷ (codes "register", codes "64") ∷ (codes "omega", codes "13") ∷ (codes "interval-log", codes "6")
    ∷ (codes "vmin-code", codes "5") ∷ (codes "vmax-code", codes "9")
    ∷ (codes "coder", codes "sample") ∷ (codes "umax", codes "16") ∷ (codes "gamma-star", codes "6") ∷ (codes "gamma-zero", codes "1") ∷ (codes "k", codes "3")
    ∷ (codes "block", codes "8") ∷ (codes "reference", codes "64")
    ∷ (codes "predictors", codes "0") ∷ (codes "slots", codes "1024") ∷ []

unfoldable pub flags : List Text
flags = codes "signed" ∷ codes "reduced" ∷ codes "column-sums" ∷ codes "restricted" ∷ []

-- the options of the image, the predictor and the coders
unfoldable pub image_rules : List Rule
image_rules = map required sizes ++ map option options ++ map flag flags

-- the options of the raw layout, and the two files
unfoldable pub layout_rules : List Rule
layout_rules = option (codes "layout", codes "bsq") ∷ option (codes "bytes", codes "2") ∷ flag (codes "little") ∷ file (codes "IN") ∷ file (codes "OUT") ∷ []

-- a command with these options and files
abbrev pub with_rules : App → List Rule → App
with_rules = fold with_rule

unfoldable pub compress_app : App
compress_app = with_rules (new_app (codes "compress")) (image_rules ++ layout_rules)

unfoldable pub expand_app : App
expand_app = with_rules (new_app (codes "expand")) layout_rules
