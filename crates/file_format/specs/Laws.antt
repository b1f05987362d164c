-- What holds of the definitions alone.
use Rattle.std.specs.Prelude.{ℕ, ◌≡◌, ◌+◌, ◌*◌, ◌≤◌, List, length}
use Rattle.cube_core.specs.Image.{Image}
use Rattle.header_bits.specs.declared.params.Params.{Params}
use Rattle.header_bits.specs.Bits.{bits_of_bytes}
use Rattle.header_bits.specs.Parts.{fine}
use Rattle.header_bits.specs.Lawful.{IsLawful}
use Rattle.predict_core.specs.Cubes.{IsCubeOf}
use Rattle.file_format.specs.File.{file_of}
use Rattle.file_format.specs.Files.{IsFile, file_test}
use Rattle.file_format.specs.MinimumLength.{minimum_length}

-- the file that is written for a cube is a file of it
abbrev pub ChosenIsFile : Type 0
ChosenIsFile = (p : Params) (c : Image) → IsLawful p → IsCubeOf p c → IsFile (file_of c p) p c

-- a file has no fault
abbrev pub FileIsFine : Type 0
FileIsFine = (bytes : List ℕ) (p : Params) (c : Image) → IsLawful p → IsFile bytes p c → file_test (bits_of_bytes bytes) ≡ fine

-- bytes without a fault are a file
abbrev pub FineIsFile : Type 0
FineIsFile = (bytes : List ℕ) → file_test (bits_of_bytes bytes) ≡ fine → (p : Params) × (c : Image) × IsLawful p × IsFile bytes p c

-- no file is shorter: after its header there are as many bits as every body has
abbrev pub NoShorterFile : Type 0
NoShorterFile =
    (bytes : List ℕ) (p : Params) (c : Image) → IsLawful p → (f : IsFile bytes p c)
    → length f.header + minimum_length p ≤ 8 * length bytes

-- no bytes are a file of two different pairs of parameters and cube
abbrev pub OneFile : Type 0
OneFile =
    (bytes : List ℕ) (p q : Params) (c d : Image) → IsLawful p → IsFile bytes p c → IsFile bytes q d
    → (p ≡ q) × (c ≡ d)
