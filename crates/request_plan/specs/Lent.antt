-- The settings that are lent for a request, and the client that they are asked for.
use Rattle.std.specs.Prelude.{ℕ, Result, Ok, Err}
use Rattle.server_model.specs.Settings as model
use Rattle.server_model.specs.World as client
use Rattle.settings.specs.Used.{seen}
use Rattle.settings.specs.declared.lent.Settings.{Settings}
use Rattle.request_settings.specs.declared.attributes.Arrival.{Arrival}

-- what they say
abbrev pub lent : Settings → model.Settings
lent settings = model.settings_from (seen settings)

-- where its client came from, and to which address
abbrev pub came : Arrival → client.Arrival
came arrival = record { peer = arrival.peer; local = arrival.local }

-- a comparison may have been made in vain only where memory was wanted
abbrev pub wanted : {A E : Type 0} → Result A E → ℕ
wanted (Ok done) = 0
wanted (Err e) = 1
