-- What is spelled by a lawful data set is read as that data set, whatever follows it.
use Rattle.std.proofs.Common.{◌≡◌, ℕ, ◌*◌, ◌^◌, ◌≤◌, Bool, false, List, ◌∷◌, ◌++◌, Ok, sym}
use Rattle.std.proofs.Common.{◌∙◌, append_assoc, arith}
use Rattle.std.proofs.Math.Pow.{pow_mono}
use Rattle.block_adaptive.specs.Laws.{OneText}
use Rattle.block_adaptive.specs.declared.options.CodeSet.{CodeSet}
use Rattle.block_adaptive.specs.declared.options.Choice.{Choice}
use Rattle.block_adaptive.specs.declared.options.Choice.TheVariants.{Uncoded, Second, Split}
use Rattle.block_adaptive.specs.Options.{width, zero_identifier, identifier, coded, option_text}
use Rattle.block_adaptive.specs.DataSets.{CodedDataSet, Block, Run, RestOfSegment, run_code, rest_code, spelled, IsCodedDataSet, IsBlock}
use Rattle.block_adaptive.specs.Reading.{Site, run_at, data_set_at}
use Rattle.header_bits.proofs.Reading.{ok_is, number_again}
use Rattle.header_bits.proofs.Fronts.{zeros_again, zeros_front, ones_front, bit_front}
use Rattle.block_adaptive.proofs.Codes.{words_again, split_again}
use Rattle.block_adaptive.proofs.Triangles.{pairs_again}
use Rattle.header_bits.proofs.Items.{all_weaker}
use Rattle.std.proofs.lemmas.Bool.Decides.{nat_tests}

pub run_again : (site : Site) (left n : ℕ) (rest : List Bool) → 1 ≤ n → n ≤ left → run_at site left (run_code n ++ rest) ≡ Ok (Run n, rest)
unfolding run_at run_code
run_again site left n rest least most = grind (arith, zeros_again)

pub rest_again : (site : Site) (left : ℕ) (rest : List Bool) → run_at site left (rest_code ++ rest) ≡ Ok (RestOfSegment, rest)
unfolding run_at rest_code
rest_again site left rest = grind (arith, zeros_again)

run_text_read : (site : Site) (s : CodeSet) (size left : ℕ) (code rest : List Bool) (t : CodedDataSet) → run_at site left (code ++ rest) ≡ Ok (t, rest)
    → data_set_at site s size left ((zero_identifier s ++ code) ++ rest) ≡ Ok (t, rest)
unfolding data_set_at zero_identifier
run_text_read site s size left code rest t e = rw (append_assoc, append_assoc, zeros_front _ _ (false ∷ (code ++ rest)), bit_front _ false _) e

pub width_least : (s : CodeSet) → 1 ≤ width s
width_least s = grind (arith, nat_tests)

two_below : (n : ℕ) → 1 ≤ n → 2 ≤ 2 ^ n
two_below n h = search (arith, pow_mono)

pub block_again : (site : Site) (s : CodeSet) (half left : ℕ) (o : Choice) (vs : List ℕ) (rest : List Bool) → IsBlock s (2 * half) o vs
    → data_set_at site s (2 * half) left (option_text s o vs ++ rest) ≡ Ok (Block o vs, rest)
unfolding data_set_at option_text identifier coded
block_again site s half left Uncoded vs rest h = grind (arith, append_assoc, ones_front, words_again)
block_again site s half left Second vs rest h = grind (arith, all_weaker, append_assoc, bit_front, pairs_again, zeros_front)
block_again site s half left (Split k) vs rest h = grind (arith, append_assoc, number_again, split_again)

-- a block has a size that is even
pub data_set_again : (site : Site) (s : CodeSet) (half left : ℕ) (t : CodedDataSet) (rest : List Bool) → IsCodedDataSet s (2 * half) left t
    → data_set_at site s (2 * half) left (spelled s t ++ rest) ≡ Ok (t, rest)
unfolding spelled
data_set_again site s half left (Run n) rest h = run_text_read site s (2 * half) left (run_code n) rest (Run n) (run_again site left n rest h.0 h.1)
data_set_again site s half left RestOfSegment rest h = run_text_read site s (2 * half) left rest_code rest RestOfSegment (rest_again site left rest)
data_set_again site s half left (Block o vs) rest h = block_again site s half left o vs rest h

-- two lawful data sets of which one is a prefix of the other are one
-- any site will do
abbrev nowhere : Site
nowhere = record { count = 0; block = 0 }

pub one_text : OneText
one_text s half left t u x y ht hu e =
    let same = ok_is (t, x) (u, y) (sym (data_set_again nowhere s half left t x ht) ∙ (λ i. data_set_at nowhere s (2 * half) left (e i))
    ∙ data_set_again nowhere s half left u y hu) in
    ((λ i. (same i).0), (λ i. (same i).1))
