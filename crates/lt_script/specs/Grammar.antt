-- The grammar of a script's lines (README.md of this crate, 'The format'): for each thing that a line can say, the bytes that say it.
use Rattle.std.specs.Prelude.{◌≡◌, ◌≢◌, ℕ, ◌+◌, ◌*◌, ◌<◌, ◌≤◌, true, false, List, [], ◌∷◌, ◌++◌, length, get_or, ◌⊎◌, codes}
use Rattle.std.specs.Char.{digit_char}
use Rattle.std.specs.Fmt.{decimal}
use Rattle.lt_world.specs.declared.net.Address.{Address}
use Rattle.lt_world.specs.Memory.{is_path}
use Rattle.lt_script.specs.declared.script.Name.{Name}
use Rattle.lt_script.specs.declared.script.Step.TheVariants as step
use Rattle.lt_script.specs.declared.script.ScriptFile.TheVariants as file
use Rattle.lt_script.specs.declared.script.ScriptFault.{ScriptFault}
use Rattle.lt_script.specs.declared.script.FaultCall.{FaultCall}
use Rattle.lt_script.specs.declared.script.FaultCall.TheVariants as call
use Rattle.lt_script.specs.declared.limits.TheConstants.{NAME_LIMIT, TIME_LIMIT, FILL_LIMIT, POUR_LIMIT, TAKE_LIMIT, COUNT_LIMIT, FAULT_LIMIT}
use Rattle.lt_script.specs.declared.lines.Line.{Line}
use Rattle.lt_script.specs.declared.lines.Line.TheVariants.{Skip, File, Fault, Step}

-- one byte of a quoted text, and how it may be written
pub data IsPiece : ℕ → List ℕ → Type 0 where
  Plainly : (b : ℕ) → 32 ≤ b → b ≤ 126 → b ≢ 34 → b ≢ 92 → IsPiece b (b ∷ [])
  Return : IsPiece 13 (codes "\\r")
  Feed : IsPiece 10 (codes "\\n")
  Quote : IsPiece 34 (codes "\\\"")
  Backslash : IsPiece 92 (codes "\\\\")
  Hex : (high low : ℕ) → high < 16 → low < 16 → IsPiece (high * 16 + low) (92 ∷ 120 ∷ digit_char high ∷ digit_char low ∷ [])

-- a text, and how it may be written between quotes
pub data IsQuoted : List ℕ → List ℕ → Type 0 where
  Empty : IsQuoted [] []
  More : (b : ℕ) (piece text bytes : List ℕ) → IsPiece b piece → IsQuoted text bytes → IsQuoted (b ∷ text) (piece ++ bytes)

-- a client's name, `cK`
abbrev pub name_text : Name → List ℕ
name_text name = codes "c" ++ decimal name.number

-- a name is that of a client, up to the greatest number
pub record IsName (name : Name) : Type 0 where
  pub client : name.gate ≡ false
  pub most : name.number ≤ NAME_LIMIT

-- an address, `IP:PORT`
abbrev pub address_text : Address → List ℕ
address_text address = decimal (get_or address.ip 0 0) ++ (codes "." ++ (decimal (get_or address.ip 1 0) ++ (codes "." ++ (decimal (get_or address.ip 2 0) ++ (codes "." ++ (decimal (get_or address.ip 3 0) ++ (codes ":" ++ decimal address.port)))))))

-- four octets and a port of 16 bits
pub record IsAddress (address : Address) : Type 0 where
  pub four : length address.ip ≡ 4
  pub small : (k : ℕ) → get_or address.ip k 0 ≤ 255
  pub port : address.port ≤ 65535

-- `accept IP:PORT IP:PORT`
pub record IsAccept (peer local : Address) (bytes : List ℕ) : Type 0 where
  pub is_peer : IsAddress peer
  pub is_local : IsAddress local
  pub spelled : bytes ≡ codes "accept " ++ (address_text peer ++ (codes " " ++ address_text local))

-- `data LINK "BYTES"`
pub record IsData (link : Name) (text bytes : List ℕ) : Type 0 where
  pub quoted : List ℕ
  pub is_name : IsName link
  pub is_quoted : IsQuoted text quoted
  pub spelled : bytes ≡ codes "data " ++ (name_text link ++ (codes " \"" ++ (quoted ++ codes "\"")))

-- `pour LINK SIZE`
pub record IsPour (link : Name) (size : ℕ) (bytes : List ℕ) : Type 0 where
  pub is_name : IsName link
  pub some : 1 ≤ size
  pub sized : size ≤ POUR_LIMIT
  pub spelled : bytes ≡ codes "pour " ++ (name_text link ++ (codes " " ++ decimal size))

-- `end LINK`
pub record IsEnd (link : Name) (bytes : List ℕ) : Type 0 where
  pub is_name : IsName link
  pub spelled : bytes ≡ codes "end " ++ name_text link

-- `ready LINK COUNT`
pub record IsReady (link : Name) (count : ℕ) (bytes : List ℕ) : Type 0 where
  pub is_name : IsName link
  pub some : 1 ≤ count
  pub counted : count ≤ COUNT_LIMIT
  pub spelled : bytes ≡ codes "ready " ++ (name_text link ++ (codes " " ++ decimal count))

-- `rfail LINK`
pub record IsReadFail (link : Name) (bytes : List ℕ) : Type 0 where
  pub is_name : IsName link
  pub spelled : bytes ≡ codes "rfail " ++ name_text link

-- `take LINK SIZE COUNT`
pub record IsTake (link : Name) (size count : ℕ) (bytes : List ℕ) : Type 0 where
  pub is_name : IsName link
  pub sized : size ≤ TAKE_LIMIT
  pub some : 1 ≤ count
  pub counted : count ≤ COUNT_LIMIT
  pub spelled : bytes ≡ codes "take " ++ (name_text link ++ (codes " " ++ (decimal size ++ (codes " " ++ decimal count))))

-- `wfail LINK`
pub record IsWriteFail (link : Name) (bytes : List ℕ) : Type 0 where
  pub is_name : IsName link
  pub spelled : bytes ≡ codes "wfail " ++ name_text link

-- a kind of call
abbrev pub call_text : FaultCall → List ℕ
call_text call.Connect = codes "connect"
call_text call.Find = codes "find"
call_text call.Open = codes "open"
call_text call.File = codes "file"
call_text call.Listen = codes "listen"
call_text call.Wait = codes "wait"

-- `fault KIND K`
pub record IsFault (fault : ScriptFault) (bytes : List ℕ) : Type 0 where
  pub most : fault.nth ≤ FAULT_LIMIT
  pub spelled : bytes ≡ codes "fault " ++ (call_text fault.call ++ (codes " " ++ decimal fault.nth))

-- `file "PATH" TIME "BYTES"`
pub record IsFile (path : List ℕ) (time : ℕ) (text bytes : List ℕ) : Type 0 where
  pub named : List ℕ
  pub quoted : List ℕ
  pub rooted : is_path path ≡ true
  pub is_named : IsQuoted path named
  pub dated : time ≤ TIME_LIMIT
  pub is_quoted : IsQuoted text quoted
  pub spelled : bytes ≡ codes "file \"" ++ (named ++ (codes "\" " ++ (decimal time ++ (codes " \"" ++ (quoted ++ codes "\"")))))

-- `fill "PATH" TIME SIZE`
pub record IsFill (path : List ℕ) (time size : ℕ) (bytes : List ℕ) : Type 0 where
  pub named : List ℕ
  pub rooted : is_path path ≡ true
  pub is_named : IsQuoted path named
  pub dated : time ≤ TIME_LIMIT
  pub sized : size ≤ FILL_LIMIT
  pub spelled : bytes ≡ codes "fill \"" ++ (named ++ (codes "\" " ++ (decimal time ++ (codes " " ++ decimal size))))

-- `dir "PATH"`
pub record IsDir (path bytes : List ℕ) : Type 0 where
  pub named : List ℕ
  pub rooted : is_path path ≡ true
  pub is_named : IsQuoted path named
  pub spelled : bytes ≡ codes "dir \"" ++ (named ++ codes "\"")

-- a comment, or nothing
abbrev pub IsSkipped : List ℕ → Type 0
IsSkipped bytes = (bytes ≡ []) ⊎ ((rest : List ℕ) × (bytes ≡ codes "#" ++ rest))

-- the bytes of a line say this
abbrev pub IsLine : Line → List ℕ → Type 0
IsLine (Step (step.Accept peer local)) bytes = IsAccept peer local bytes
IsLine (Step (step.Bytes link text)) bytes = IsData link text bytes
IsLine (Step (step.Pour link size)) bytes = IsPour link size bytes
IsLine (Step (step.End link)) bytes = IsEnd link bytes
IsLine (Step (step.Ready link count)) bytes = IsReady link count bytes
IsLine (Step (step.ReadFail link)) bytes = IsReadFail link bytes
IsLine (Step (step.Take link size count)) bytes = IsTake link size count bytes
IsLine (Step (step.WriteFail link)) bytes = IsWriteFail link bytes
IsLine (Step step.Idle) bytes = bytes ≡ codes "idle"
IsLine (Fault fault) bytes = IsFault fault bytes
IsLine (File (file.Bytes path time text)) bytes = IsFile path time text bytes
IsLine (File (file.Fill path time size)) bytes = IsFill path time size bytes
IsLine (File (file.Dir path)) bytes = IsDir path bytes
IsLine Skip bytes = IsSkipped bytes
