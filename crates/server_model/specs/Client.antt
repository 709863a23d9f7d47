-- One client, by the acts of its link, the newest first, and by its world.
use Rattle.std.specs.Prelude.{◌≡◌, ℕ, ◌<◌, ◌≤◌, List, [], ◌∷◌, length, nat_lt, nat_le, Bool, true, false, not, ◌&&◌, Some}
use Rattle.lt_world.specs.declared.net.Address.{Address}
use Rattle.lt_world.specs.declared.net.Ending.TheVariants as ending
use Rattle.lt_world.specs.declared.files.FileCall.{FileCall}
use Rattle.lt_world.specs.Acts.{input_of, output_of, ending_of}
use Rattle.lt_world.specs.Trace.{Act, Accepted, ReadEnd, Failed, Close}
use Rattle.server_model.specs.Settings.{limit_for}
use Rattle.server_model.specs.Request.{Head, Request, Complete, Limits, request_of, rest_of, is_complete}
use Rattle.server_model.specs.World.{World, call_count}
use Rattle.server_model.specs.Plan.{calls_of}
use Rattle.server_model.specs.Reply.{Extent, Growing, Whole, Reply}
use Rattle.server_model.specs.Stream.{IsPrefix, is_whole, final, Place, place, remainder, Passed, left_after, replies_to, stream_of}
use Rattle.server_model.specs.Deeds.{Deed, ours}

abbrev pub has_ended : List Act → Bool
has_ended [] = false
has_ended (ReadEnd ∷ acts) = true
has_ended (act ∷ acts) = has_ended acts

-- a read or a write failed
abbrev pub has_failed : List Act → Bool
has_failed [] = false
has_failed (Failed way ∷ acts) = true
has_failed (act ∷ acts) = has_failed acts

-- from its arrival to its close
abbrev pub is_open : List Act → Bool
is_open [] = false
is_open (Accepted peer local ∷ acts) = true
is_open (Close ending ∷ acts) = false
is_open (act ∷ acts) = is_open acts

-- the client came from one address to the other
abbrev pub CameFrom : Address → Address → List Act → Type 0
CameFrom peer local [] = ⊥
CameFrom peer local (Accepted from to ∷ acts) = (from ≡ peer) × (to ≡ local)
CameFrom peer local (act ∷ acts) = CameFrom peer local acts

abbrev pub stream : World → List Act → List ℕ
stream world acts = stream_of world (input_of acts)

-- its current reply, the first that isn't wholly taken
abbrev pub current : World → List Act → Place
current world acts = place 0 (length (output_of acts)) (replies_to world (input_of acts))

-- what it is still to get of that one
abbrev pub owed : World → List Act → List ℕ
owed world acts = remainder (current world acts)

-- the reply is whole and the last
abbrev pub is_last : Reply → Bool
is_last r = is_whole r.extent && r.last

-- bytes that are held for a client, at most
abbrev pub input_limit : ℕ
input_limit = 65536

-- the request at the front of these bytes is whole, and as many bytes follow it as may be held
abbrev pub is_full : Limits → List ℕ → Bool
is_full limits bytes = is_complete (request_of limits bytes) && nat_le input_limit (length (rest_of limits bytes))

-- from its current request on
abbrev pub unanswered : World → List Act → List ℕ
unanswered world acts = left_after (limit_for world) (current world acts).number (input_of acts)

-- a read is wanted
abbrev pub wants : World → List Act → Bool
wants world acts = is_open acts && not (has_ended acts) && not (is_last (current world acts).reply) && not (is_full (limit_for world) (unanswered world acts))

-- a write is wanted
abbrev pub owes : World → List Act → Bool
owes world acts = is_open acts && nat_lt 0 (length (owed world acts))

-- nothing can come after this reply, where the client ended or not
abbrev pub is_end : Extent → Bool → Bool → Bool
is_end Growing last ended = ended
is_end Whole last ended = last

-- all of its stream was taken, and nothing further can come
pub record IsFinished (world : World) (acts : List Act) : Type 0 where
  pub taken : output_of acts ≡ stream world acts
  pub over : is_end (final (replies_to world (input_of acts))).extent (final (replies_to world (input_of acts))).last (has_ended acts) ≡ true

-- the request that is whole after k others
abbrev pub request_at : World → List Act → ℕ → Request
request_at world acts k = request_of (limit_for world) (left_after (limit_for world) k (input_of acts))

-- its current request, as far as it came
abbrev pub current_request : World → List Act → Request
current_request world acts = request_at world acts (current world acts).number

-- no calls on files were made for request k but those of its plan
abbrev pub AskedWithin : World → List Act → ℕ → Type 0
AskedWithin world acts k = (head : Head) (content : List ℕ) → request_at world acts k ≡ Complete head content → (what : FileCall) → call_count world k what ≤ calls_of world k head what

-- exactly those of its plan were made
abbrev pub AskedWhole : World → List Act → ℕ → Type 0
AskedWhole world acts k = (head : Head) (content : List ℕ) → request_at world acts k ≡ Complete head content → (what : FileCall) → call_count world k what ≡ calls_of world k head what

-- request k came whole, the replies before it were wholly taken, and it asked for no more than its plan names
pub record IsPlanned (world : World) (acts : List Act) (k : ℕ) : Type 0 where
  pub before : List ℕ
  pub passed : Passed k (replies_to world (input_of acts)) before
  pub taken : IsPrefix before (output_of acts)
  pub whole : is_complete (request_at world acts k) ≡ true
  pub within : AskedWithin world acts k

-- calls on files were made for such requests alone
abbrev pub AskedInTurn : World → List Act → Type 0
AskedInTurn world acts = (k : ℕ) (what : FileCall) → 0 < call_count world k what → IsPlanned world acts k

-- what it took so far is right
pub record IsRight (world : World) (acts : List Act) : Type 0 where
  pub prefix : IsPrefix (output_of acts) (stream world acts)
  pub in_turn : AskedInTurn world acts

-- what it took is a prefix of its stream, and all of it where it was closed clean
pub record IsServedRight (world : World) (deeds : List Deed) : Type 0 where
  pub right : IsRight world (ours deeds)
  pub clean : ending_of (ours deeds) ≡ Some ending.Clean → IsFinished world (ours deeds)
