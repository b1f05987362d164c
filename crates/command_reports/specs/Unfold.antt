-- Unfolds each definition, for the worked examples.
use Rattle.command_reports.specs.Lines.{line, size_lines, sample_lines, prediction_lines, weight_lines, coder_lines, header_lines}

unfoldable pub everything : Unit {0}
unfolding line size_lines sample_lines prediction_lines weight_lines coder_lines header_lines
everything = tt
