-- What a server keeps.
use Rattle.std.specs.Prelude.{◌≡◌, ℕ, ◌<◌, length, List, [], ◌∷◌, get_or, Bool, Option, Some, None, ◌==◌, if◌then◌else◌}
use Rattle.lt_world.specs.declared.net.Address.{Address}
use Rattle.chunkqueue.specs.Items.{Item}
use Rattle.lt_http_body.specs.declared.standing.Standing.{Standing}
use Rattle.server_model.specs.Site.{Site}
use Rattle.server_model.specs.Request.{Head, Request}
use Rattle.server_model.specs.World.{Arrival}

pub data Stage : Type 0 where
  -- request k isn't there yet
  Awaiting : ℕ → Stage
  -- the head of request k was read, and the limit of its body is asked for
  Heading : ℕ → Head → Stage
  -- the body of request k is read: where it stands, and its data so far
  Taking : ℕ → Head → Standing → List ℕ → Stage
  -- request k is there, complete or refused, and isn't answered yet
  Asking : ℕ → Request → Stage
  -- reply k was given, and is the last or not
  Answering : ℕ → Bool → Stage

-- what is kept for one open client
pub record Held : Type 0 where
  pub link : ℕ
  pub peer : Address
  pub local : Address
  -- what came, and isn't taken up yet
  pub input : List ℕ
  pub stage : Stage
  -- what is owed of the current reply
  pub owed : List Item
  -- the first of these bytes that were read from the file
  pub staged : List ℕ
  -- the opened file that the reply comes from
  pub file : Option ℕ
  pub ended : Bool

-- where its client came from, and to which address
abbrev pub arrival_of : Held → Arrival
arrival_of held = record { peer = held.peer; local = held.local }

-- what a server keeps: what it serves, and the clients that are open
pub record Serving : Type 0 where
  pub site : Site
  pub table : List Held

-- what is kept for this link
abbrev pub kept_at : ℕ → List Held → Option Held
kept_at link [] = None
kept_at link (held ∷ table) = if held.link == link then Some held else kept_at link table

-- each link is kept once
abbrev pub IsEachOnce : List Held → Type 0
IsEachOnce [] = Unit {0}
IsEachOnce (held ∷ table) = (kept_at held.link table ≡ None) × IsEachOnce table

-- the place of a link in the table, where it has one
abbrev pub IsPlace : ℕ → List Held → Option ℕ → Type 0
IsPlace link table None = kept_at link table ≡ None
IsPlace link table (Some i) = (i < length table) × ((other : Held) → (get_or table i other).link ≡ link)
