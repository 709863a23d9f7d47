-- What is put out of the play of a script.
use Rattle.std.specs.Prelude.{ℕ, List}
use Rattle.lt_world.specs.Trace.{Entry}
use Rattle.script_net.specs.Reports.{report_of}
use Rattle.script_gen.specs.Totals.{summary_of}
use Rattle.lt_commands.specs.declared.playing.Output.{Output}
use Rattle.lt_commands.specs.declared.playing.Output.TheVariants as output

-- the report of what the net told, or its summary
abbrev pub output_of : Output → List Entry → List ℕ
output_of output.Report trace = report_of trace
output_of output.Summary trace = summary_of trace
