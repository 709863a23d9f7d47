-- What the plan of one request does to the files, and what it plans.
use Rattle.std.specs.Prelude.{◌≡◌, ◌≢◌, ℕ, ◌+◌, ◌≤◌, List, [], length, take, drop, Option, Some, None}
use Rattle.http_reply.specs.FieldLines.{FieldLines}
use Rattle.lt_world.specs.declared.files.FileCall.{FileCall}
use Rattle.lt_world.specs.Disk.{Disk}
use Rattle.server_model.specs.Site.{Site}
use Rattle.server_model.specs.Request.{Head, Request}
use Rattle.server_model.specs.World.{Arrival, Side, World, world_at, call_count}
use Rattle.server_model.specs.Plan.{Content, Nothing, Bytes, Outcome, plan, calls_of}
use Rattle.server_model.specs.Settings.{Settings}
use Rattle.server_model.specs.Reply.{body_for, reply}
use Rattle.server_model.specs.Files.{FileStep}

-- no call was made for request k
abbrev pub Unasked : World → ℕ → Type 0
Unasked world k = (what : FileCall) → call_count world k what ≡ 0

-- calls on the files were made for request k of a client that came so alone, as its plan by this head names them or fewer, and this file was opened
pub record CallsFor (site : Site) (arrival : Option Arrival) (client k : ℕ) (head : Head) (file : Option ℕ) (before after : Disk) : Type 0 where
  pub files : FileStep client None file before after
  pub others : (side : Side) (j : ℕ) (what : FileCall) → k ≢ j → call_count (world_at site after client side) j what ≡ call_count (world_at site before client side) j what
  pub replies : (side : Side) (j : ℕ) (r : Request) → k ≢ j → reply (world_at site after client side) j r ≡ reply (world_at site before client side) j r
  pub plans : (side : Side) (j : ℕ) (other : Head) (what : FileCall) → k ≢ j → calls_of (world_at site after client side) j other what ≡ calls_of (world_at site before client side) j other what
  pub within : (side : Side) → side.arrival ≡ arrival → Unasked (world_at site before client side) k → (what : FileCall) → call_count (world_at site after client side) k what ≤ calls_of (world_at site after client side) k head what

-- just the calls that its plan names were made
abbrev pub CallsWhole : Site → Option Arrival → ℕ → ℕ → Head → Disk → Disk → Type 0
CallsWhole site arrival client k head before after = (side : Side) → side.arrival ≡ arrival → Unasked (world_at site before client side) k → (what : FileCall) → call_count (world_at site after client side) k what ≡ calls_of (world_at site after client side) k head what

-- the first plan of request k of a client that came so, by its head
abbrev pub PlansTo : Outcome → Site → Option Arrival → ℕ → ℕ → Head → Disk → Disk → Type 0
PlansTo o site arrival client k head before after = (side : Side) → side.arrival ≡ arrival
    → Unasked (world_at site before client side) k → plan (world_at site after client side) k head ≡ o

-- this is planned, by just the calls that its plan names, and this file is open behind them
pub record Plans (o : Outcome) (file : Option ℕ) (site : Site) (arrival : Option Arrival) (client k : ℕ) (head : Head) (before after : Disk) : Type 0 where
  pub calls : CallsFor site arrival client k head file before after
  pub whole : CallsWhole site arrival client k head before after
  pub plans : PlansTo o site arrival client k head before after

-- with these settings, this status and these fields
abbrev pub outcome_of : Settings → ℕ → FieldLines → Content → Outcome
outcome_of settings status fields content = record { settings = settings; status = status; fields = fields; content = content }

-- a status in words is planned, and no file is open
abbrev pub PlansError : Settings → ℕ → FieldLines → Site → Option Arrival → ℕ → ℕ → Head → Disk → Disk → Type 0
PlansError settings status fields site arrival client k head before after = Plans (outcome_of settings status fields Nothing) None site arrival client k head before after

-- so many bytes of this opened file are planned, from the byte with this number on
pub record PlansFile (file start len : ℕ) (settings : Settings) (status : ℕ) (fields : FieldLines) (site : Site) (arrival : Option Arrival) (client k : ℕ) (head : Head) (before after : Disk) : Type 0 where
  pub bytes : List ℕ
  pub opened : after.table file ≡ Some bytes
  pub within : start + len ≤ length bytes
  pub plans : Plans (outcome_of settings status fields (Bytes (take len (drop start bytes)))) (Some file) site arrival client k head before after

-- so many bytes are planned of which none is sent, and no file is open any more
pub record PlansUnsent (len : ℕ) (settings : Settings) (status : ℕ) (fields : FieldLines) (site : Site) (arrival : Option Arrival) (client k : ℕ) (head : Head) (before after : Disk) : Type 0 where
  pub bytes : List ℕ
  pub has_length : length bytes ≡ len
  pub unsent : body_for head.method bytes ≡ []
  pub plans : Plans (outcome_of settings status fields (Bytes bytes)) None site arrival client k head before after
