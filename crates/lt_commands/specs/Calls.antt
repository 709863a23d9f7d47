-- The line that a call is.
use Rattle.std.specs.Prelude.{◌≤◌}
use Rattle.command_words.specs.declared.line.TheConstants.{MAX_CLIENTS}
use Rattle.lt_commands.specs.declared.words.Call.{Call}
use Rattle.lt_commands.specs.declared.words.Call.TheVariants as call
use Rattle.lt_commands.specs.Words.{Line, Replay, Check, Print, Bench}

abbrev pub line_of : Call → Line
line_of (call.Replay conf script) = Replay conf.now script.now
line_of (call.Check conf) = Check conf.now
line_of (call.Print conf) = Print conf.now
line_of (call.Bench clients) = Bench clients

-- no more clients than words may ask for
abbrev pub HasFewClients : Call → Type 0
HasFewClients (call.Bench clients) = clients ≤ MAX_CLIENTS
HasFewClients other = Unit {0}
