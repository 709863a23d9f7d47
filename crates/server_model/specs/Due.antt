-- What must follow an event, by the deeds of its client up to it.
use Rattle.std.specs.Prelude.{◌≡◌, ◌⊎◌, ℕ, ◌<◌, ◌≤◌, List, ◌∷◌, Bool, true, false, not, ◌&&◌, ◌||◌, length, nat_le}
use Rattle.lt_world.specs.declared.net.Address.{Address}
use Rattle.lt_world.specs.declared.net.Ending.TheVariants as ending
use Rattle.lt_world.specs.Trace.{Act, Reading, Writing, Accepted, Readable, Writable, Read, ReadEnd, NotYet, Failed, Wrote, Close}
use Rattle.server_model.specs.World.{World}
use Rattle.server_model.specs.Stream.{IsPrefix}
use Rattle.server_model.specs.Deeds.{Deed, Ours, ours}
use Rattle.server_model.specs.Request.{has_head, is_complete, is_open_body}
use Rattle.server_model.specs.Client.{has_failed, is_open, current, owed, wants, owes, IsFinished, request_at, current_request}

-- bytes that one write offers, at most
abbrev pub offer_limit : ℕ
offer_limit = 4096

-- nothing is left to do for a client that is open
pub record Rests (world : World) (deeds : List Deed) : Type 0 where
  pub is_open : is_open (ours deeds) ≡ true
  pub sound : has_failed (ours deeds) ≡ false
  pub unfinished : IsFinished world (ours deeds) → ⊥

-- memory doesn't run out in the place of a clean end, but where the client ended within the body of a request: that it did is known once the head was read, which takes memory
abbrev pub MayYield : World → List Act → Type 0
MayYield world acts = IsFinished world acts → is_open_body (current_request world acts) ≡ true

-- what follows without a further event, up to where nothing is left to do; `may` says that memory may be wanted
pub data Settles (world : World) (may : Bool) : List Deed → List Deed → Type 0 where
  rests : {now : List Deed} → Rests world now → Settles world may now now
  finishes : {now : List Deed} → IsFinished world (ours now) → has_failed (ours now) ≡ false → Settles world may now (Ours (Close ending.Clean) ∷ now)
  fails : {now : List Deed} → has_failed (ours now) ≡ true → Settles world may now (Ours (Close ending.ClientFault) ∷ now)
  yields : {now : List Deed} → may ≡ true → MayYield world (ours now) → Settles world may now (Ours (Close ending.NoMemory) ∷ now)

-- the same by the world before and after it
abbrev pub DueSettles : Bool → World → World → List Deed → List Deed → Type 0
DueSettles may before after past now = Settles after may past now

abbrev pub IsReadAct : Act → Type 0
IsReadAct (Read asked bytes) = Unit {0}
IsReadAct ReadEnd = Unit {0}
IsReadAct (NotYet Reading) = Unit {0}
IsReadAct (Failed Reading) = Unit {0}
IsReadAct act = ⊥

-- a write of bytes of these
abbrev pub IsWriteAct : List ℕ → Act → Type 0
IsWriteAct due (Wrote offered bytes) = (1 ≤ offered) × (offered ≤ offer_limit) × (offered ≤ length due) × IsPrefix bytes due
IsWriteAct due (NotYet Writing) = Unit {0}
IsWriteAct due (Failed Writing) = Unit {0}
IsWriteAct due act = ⊥

-- what came with a read is kept alone: no whole head of the current request is there by then, or the request was whole before
abbrev pub IsKeptAlone : World → List Act → ℕ → List ℕ → Type 0
IsKeptAlone world acts asked bytes = (has_head (request_at world (Read asked bytes ∷ acts) (current world acts).number) ≡ false) ⊎ (is_complete (current_request world acts) ≡ true)

-- memory may be wanted after bytes came, while so many buffers were spare: where there was none for them, or where the head of the current request is whole by then and the request wasn't whole before; and never after their end
abbrev pub may_want_after_read : ℕ → World → List Act → Act → Bool
may_want_after_read spare world acts (Read asked bytes) =
    nat_le spare 0 || (has_head (request_at world (Read asked bytes ∷ acts) (current world acts).number) && not (is_complete (current_request world acts)))
may_want_after_read spare world acts act = false

-- and after a write that took all that was owed
abbrev pub may_want_after_write : List ℕ → Act → Bool
may_want_after_write due (Wrote offered bytes) = nat_le (length due) (length bytes)
may_want_after_write due act = false

-- clients that are open at once, at most
abbrev pub connection_limit : ℕ
connection_limit = 256

-- a client arrives while so many are open: it is closed as one too many exactly where the limit is reached, and never for want of memory
pub data DueArrival (open_now : ℕ) (peer local : Address) (past : List Deed) : List Deed → Type 0 where
  comes : open_now < connection_limit → DueArrival open_now peer local past (Ours (Accepted peer local) ∷ past)
  full : connection_limit ≤ open_now → DueArrival open_now peer local past (Ours (Close ending.Full) ∷ Ours (Accepted peer local) ∷ past)

-- exactly one read where the client wants one, else nothing; so many buffers were spare before the turn, and the world before and after it
pub data DueRead (spare : ℕ) (before after : World) (past : List Deed) : List Deed → Type 0 where
  idle : wants before (ours past) ≡ false → DueRead spare before after past past
  reads : {now : List Deed} (act : Act) → wants before (ours past) ≡ true → IsReadAct act → Settles after (may_want_after_read spare before (ours past) act) (Ours act ∷ past) now → DueRead spare before after past now

-- exactly one write where something is owed, or the failed read of the file in its place; else nothing
pub data DueWrite (sound : Type 0) (failed : ℕ → Type 0) (before after : World) (past : List Deed) : List Deed → Type 0 where
  idle : owes before (ours past) ≡ false → sound → DueWrite sound failed before after past past
  writes : {now : List Deed} (act : Act) → owes before (ours past) ≡ true → IsWriteAct (owed before (ours past)) act → sound
      → Settles after (may_want_after_write (owed before (ours past)) act) (Ours act ∷ past) now → DueWrite sound failed before after past now
  faults : owes before (ours past) ≡ true → failed (current before (ours past)).number → DueWrite sound failed before after past (Ours (Close ending.FileFault) ∷ past)

-- what must follow an event of a client, while so many clients are open and so many buffers are spare; `unread` says that no piece of a file was read in this turn, `sound` that one was at most and none failed, and `failed` for which request one did
abbrev pub Due : ℕ → Act → ℕ → Type 0 → Type 0 → (ℕ → Type 0) → World → World → List Deed → List Deed → Type 0
Due open_now (Accepted peer local) spare unread sound failed before after past now = unread × DueArrival open_now peer local past now
Due open_now Readable spare unread sound failed before after past now = unread × DueRead spare before after past now
Due open_now Writable spare unread sound failed before after past now = DueWrite sound failed before after past now
Due open_now act spare unread sound failed before after past now = ⊥
