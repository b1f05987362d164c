-- Lines of words, for the examples.
use Rattle.std.specs.Prelude.{List, [], ◌∷◌, codes}
use Rattle.clap.specs.Walk.{Text}

-- a column of two samples, of one byte each
abbrev pub column_words : List Text
column_words =
    codes "compress" ∷ codes "--columns" ∷ codes "1" ∷ codes "--rows" ∷ codes "2" ∷ codes "--bands" ∷ codes "1" ∷ codes "--bits" ∷ codes "8"
    ∷ codes "--bytes" ∷ codes "1" ∷ codes "--previous" ∷ codes "0" ∷ codes "--reduced" ∷ codes "--column-sums" ∷ codes "--register" ∷ codes "32" ∷ codes "a"
    ∷ codes "b" ∷ []
