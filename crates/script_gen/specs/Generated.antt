-- The script of a benchmark run (README.md of this crate, 'The script').
use Rattle.std.specs.Prelude.{ℕ, ◌+◌, false, List, [], ◌∷◌, ◌++◌, flat_map, codes}
use Rattle.std.specs.List.{range_with_len}
use Rattle.std.specs.Fmt.{decimal}
use Rattle.lt_world.specs.declared.net.Address.{Address}
use Rattle.lt_script.specs.declared.script.Name.{Name}
use Rattle.lt_script.specs.declared.script.Script.{Script}
use Rattle.lt_script.specs.declared.script.ScriptFile.{ScriptFile}
use Rattle.lt_script.specs.declared.script.ScriptFile.TheVariants.{Fill}
use Rattle.lt_script.specs.declared.script.Step.{Step}
use Rattle.lt_script.specs.declared.script.Step.TheVariants.{Accept, Bytes, Take}
use Rattle.script_gen.specs.Draws.{drawn, file_of, piece_of}

-- four files, of the time 0
abbrev pub fills : List ScriptFile
fills = Fill (codes "/srv/f0") 0 0 ∷ Fill (codes "/srv/f1") 0 300 ∷ Fill (codes "/srv/f2") 0 5000 ∷ Fill (codes "/srv/f3") 0 70000 ∷ []

-- 10.0.0.5:40000
abbrev pub peer : Address
peer = record { ip = 10 ∷ 0 ∷ 0 ∷ 5 ∷ []; port = 40000 }

-- 127.0.0.1:80
abbrev pub local : Address
local = record { ip = 127 ∷ 0 ∷ 0 ∷ 1 ∷ []; port = 80 }

-- the name of a client
abbrev pub named : ℕ → Name
named number = record { gate = false; number = number }

-- a request for the file of this number, after which the connection is closed
abbrev pub request : ℕ → List ℕ
request file = codes "GET /f" ++ (decimal file ++ codes " HTTP/1.1\r\nHost: h\r\nConnection: close\r\n\r\n")

-- what the client of this number does: it arrives, asks, and takes 1,200 pieces of the reply
abbrev pub client : ℕ → ℕ → List Step
client number draw = Accept peer local ∷ Bytes (named number) (request (file_of draw)) ∷ Take (named number) (piece_of draw) 1200 ∷ []

-- what the first of so many clients do, one after another; the first draw is the first client's
abbrev pub clients_below : ℕ → ℕ → List Step
clients_below clients first = flat_map (λ number. client number (drawn clients (number + 1))) (range_with_len 0 first)

-- the script of so many clients, in which no call fails
abbrev pub generated : ℕ → Script
generated clients = record { files = fills; faults = []; steps = clients_below clients clients }
