-- What a line that lends from the words says.
use Rattle.std.specs.Prelude.{◌≤◌}
use Rattle.command_words.specs.declared.line.TheConstants.{MAX_CLIENTS}
use Rattle.command_words.specs.declared.line.Line.{Line as LentLine}
use Rattle.command_words.specs.declared.line.Line.TheVariants as lent_line
use Rattle.command_words.specs.Lines.{Line, Serve, Check, Print, Replay, Bench}

abbrev pub lent : LentLine → Line
lent (lent_line.Serve conf) = Serve conf.now
lent (lent_line.Check conf) = Check conf.now
lent (lent_line.Print conf) = Print conf.now
lent (lent_line.Replay conf script) = Replay conf.now script.now
lent (lent_line.Bench clients) = Bench clients

-- a number of clients is from 1 to 10,000
abbrev pub HasFewClients : LentLine → Type 0
HasFewClients (lent_line.Bench clients) = (1 ≤ clients) × (clients ≤ MAX_CLIENTS)
HasFewClients other = Unit {0}
