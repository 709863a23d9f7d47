-- Where memory is wanted for a client, a clean end isn't missed, but where the client ended within a body; and what may want memory after a read.
use Rattle.std.proofs.Common.{◌≡◌, ℕ, ◌+◌, ◌<◌, ◌≤◌, List, [], ◌∷◌, ◌++◌, length, Bool, true, false, not, ◌&&◌, ◌||◌, nat_le, nat_lt, ◌-◌, if◌then◌else◌, Some, None, refl, sym, ◌∙◌, ap, arith, append-nil, length-append}
use Rattle.std.specs.Prelude.{Result, Ok, Err}
use Rattle.lt_world.specs.Acts.{input_of, output_of}
use Rattle.lt_world.specs.Disk.{Table}
use Rattle.lt_world.specs.Trace.{Act, Read}
use Rattle.lt_http_body.specs.declared.standing.Standing.{Standing}
use Rattle.lt_http_body.specs.declared.body.BodyState.{BodyState}
use Rattle.lt_http_body.specs.declared.body.BodyState.TheVariants as body
use Rattle.lt_http_body.specs.declared.body.BodyRefusal.{BodyRefusal}
use Rattle.lt_http_body.specs.Standings.{answer_from}
use Rattle.lt_http_body.specs.Reading.{standing_after, data_in}
use Rattle.http_reply.specs.FieldLines.{FieldLines}
use Rattle.server_model.specs.Settings.{settings_of, limit_for, is_last_request}
use Rattle.server_model.specs.Request.{Head, Request, Unfinished, Refused, Open, Declined, Complete, Front, NoHead, BadHead, HasHead, front_of, is_headed, has_head, is_open_body, is_complete, bodied, begin_of, headed, request_by, request_of, Limits}
use Rattle.server_model.specs.World.{World}
use Rattle.server_model.specs.Plan.{Content, Nothing, Bytes, Outcome, is_head, plan}
use Rattle.server_model.specs.Reply.{Reply, error_bytes, bytes_by, final_bytes, refusal_bytes, continue_of, reply}
use Rattle.server_model.specs.Stream.{is_followed, Place, place, Passed, left_after, replies_to}
use Rattle.server_model.specs.Client.{input_limit, has_ended, current, current_request, request_at, is_end}
use Rattle.chunkqueue.specs.Items.{Item, bytes_of}
use Rattle.server_model.specs.Held.{Stage, Awaiting, Heading, Taking, Asking, Answering, Held}
use Rattle.server_model.specs.Steps.{number_of, received, received_end, has_no_items, has_no_bytes, wants_memory_at, wants_memory, looks_at, is_read_at, wants_read}
use Rattle.server_model.specs.Serves.{IsTaking, IsAsking, IsAnswering, IsBegun, told_first, IsAt, IsWaitingAt, IsWaiting, Matches, Stands}
use Rattle.server_model.specs.Due.{MayYield, may_want_after_read}
use Rattle.server_model.proofs.Requests.{request_is, front_headed, nohead_unfinished}
use Rattle.server_model.proofs.Replying.{next_request, next_reply, told_headed, passed_reply, passed_stream, passed_final, passed_place, passed_next}
use Rattle.server_model.proofs.Calls.{and_false}
use Rattle.server_model.proofs.Moves.{followed_by}
use Rattle.server_model.proofs.Settled.{and_true, some_items, joined_first, answering_begun, begun_short, open_now, all_taken}
use Rattle.server_model.proofs.Standing.{stands_number, matches_received}

or_true : (b : Bool) → (b || true) ≡ true
or_true true = refl
or_true false = refl

-- ---- a reply that is whole

some_bytes : (bytes : List ℕ) → has_no_bytes bytes ≡ false → 0 < length bytes
some_bytes [] is = absurd (cc (is))
some_bytes (b ∷ bytes) is = omega arith

some_error : (tag : List ℕ) (minor status : ℕ) (fields : FieldLines) (last head_only : Bool) → 0 < length (error_bytes tag minor status fields last head_only)
some_error tag minor status fields last head_only = some_bytes (error_bytes tag minor status fields last head_only) refl

some_final : (head : Head) (last : Bool) (o : Outcome) → 0 < length (final_bytes head last o)
some_final head last o = by o.content
  where
    by : (c : Content) → 0 < length (bytes_by head last o c)
    by Nothing = some_error o.settings.tag head.minor o.status o.fields last (is_head head.method)
    by (Bytes bytes) = some_bytes (bytes_by head last o (Bytes bytes)) refl

more_behind : (first rest : List ℕ) → 0 < length rest → length first < length (first ++ rest)
more_behind first rest some = omega (arith, some, length-append first rest)

-- it says more than what is told first
pub more_told : (world : World) (k : ℕ) (r : Request) → has_head r ≡ true → is_open_body r ≡ false → length (told_first (limit_for world) r) < length (reply world k r).bytes
more_told world k Unfinished headed shut = absurd (cc (headed))
more_told world k (Refused status) headed shut = let n = some_error (settings_of world None).tag 1 status [] true false in omega (arith, n)
more_told world k (Open head) headed shut = absurd (cc (shut))
more_told world k (Declined status head) headed shut =
    more_behind (continue_of (limit_for world) head) (refusal_bytes (settings_of world (Some head)) head.minor status (is_head head.method)) (some_error (settings_of world (Some head)).tag head.minor status [] true (is_head head.method))
more_told world k (Complete head content) headed shut =
    let o = plan world k head in
    more_behind (continue_of (limit_for world) head) (final_bytes head (is_last_request o.settings.request_limit k head) o) (some_final head (is_last_request o.settings.request_limit k head) o)

-- the reply to an open body grows
open_grows : (world : World) (k : ℕ) (r : Request) → is_open_body r ≡ true → is_followed (reply world k r) ≡ false
open_grows world k Unfinished is = refl
open_grows world k (Refused status) is = refl
open_grows world k (Open head) is = refl
open_grows world k (Declined status head) is = refl
open_grows world k (Complete head content) is = absurd (cc (is))

headed_has : (limits : Limits) (head : Head) (bytes : List ℕ) → has_head (headed limits head bytes) ≡ true
headed_has limits head bytes = by (answer_from (standing_after (begin_of limits head) bytes).state) (data_in (begin_of limits head) bytes)
  where
    by : (a : Result BodyState BodyRefusal) (content : List ℕ) → has_head (bodied head a content) ≡ true
    by (Ok body.NeedMore) content = refl
    by (Ok body.Done) content = refl
    by (Err e) content = refl

-- where a head is whole, the request has it
front_has : (limits : Limits) (bytes : List ℕ) → is_headed (front_of bytes) ≡ true → has_head (request_of limits bytes) ≡ true
front_has limits bytes is = ap has_head (request_is limits bytes) ∙ by (front_of bytes) is
  where
    by : (f : Front) → is_headed f ≡ true → has_head (request_by limits f) ≡ true
    by NoHead is = absurd (cc (is))
    by (BadHead status) is = refl
    by (HasHead head rest) is = headed_has limits head rest

module _ (opened : Table) (world : World) (held : Held) (acts : List Act) where
  -- the replies before k were taken, and no more of reply k than what is told first
  module _ (k : ℕ) (before taken : List ℕ) (passed : Passed k (replies_to world (input_of acts)) before) (output : output_of acts ≡ before ++ taken) (told : length taken ≤ length (told_first (limit_for world) (next_request (limit_for world) (input_of acts) k))) where
    len : length (output_of acts) ≡ length before + length taken
    len = omega (arith, ap length output, length-append before taken)

    -- a client ended cleanly within a body alone
    reached_yields : has_head (next_request (limit_for world) (input_of acts) k) ≡ true → MayYield world acts
    reached_yields has f = by (is_open_body (next_request (limit_for world) (input_of acts) k)) refl
      where
        by : (t : Bool) → is_open_body (next_request (limit_for world) (input_of acts) k) ≡ t → is_open_body (current_request world acts) ≡ true
        by true is =
            let alone : is_followed (next_reply world (input_of acts) k) ≡ false = open_grows world k (next_request (limit_for world) (input_of acts) k) is in
            let at : current world acts ≡ record { number = k; reply = next_reply world (input_of acts) k; taken = length taken } =
            ap (λ (n : ℕ). place 0 n (replies_to world (input_of acts))) len
            ∙ passed_place world (input_of acts) k before passed (length taken) (ap (λ b. b && nat_le (length (next_reply world (input_of acts) k).bytes) (length taken)) alone) in
            ap (λ (p : Place). is_open_body (request_at world acts p.number)) at ∙ is
        by false is =
            let s = passed_stream world (input_of acts) k before passed in
            let first = joined_first (next_reply world (input_of acts) k) s.0 in
            let all : output_of acts ≡ before ++ ((next_reply world (input_of acts) k).bytes ++ first.0) = f.taken ∙ s.1 ∙ ap (λ l. before ++ l) first.1 in
            let more = more_told world k (next_request (limit_for world) (input_of acts) k) has is in
            absurd (omega (arith, ap length all, len, told, more, length-append before ((next_reply world (input_of acts) k).bytes ++ first.0), length-append (next_reply world (input_of acts) k).bytes first.0))

    -- nothing is finished before its end
    reached_goes_on : has_ended acts ≡ false → MayYield world acts
    reached_goes_on unended f = by (has_head (next_request (limit_for world) (input_of acts) k)) refl
      where
        none : (r : Request) → has_head r ≡ false → is_followed (reply world k r) ≡ false × (is_end (reply world k r).extent (reply world k r).last false ≡ false)
        none Unfinished is = (refl, refl)
        none (Refused status) is = absurd (cc (is))
        none (Open head) is = absurd (cc (is))
        none (Declined status head) is = absurd (cc (is))
        none (Complete head content) is = absurd (cc (is))

        by : (t : Bool) → has_head (next_request (limit_for world) (input_of acts) k) ≡ t → is_open_body (current_request world acts) ≡ true
        by true has = reached_yields has f
        by false hasnt =
            let n = none (next_request (limit_for world) (input_of acts) k) hasnt in
            let over : is_end (next_reply world (input_of acts) k).extent (next_reply world (input_of acts) k).last (has_ended acts) ≡ true =
            ap (λ (r : Reply). is_end r.extent r.last (has_ended acts)) (sym (passed_final world (input_of acts) k before passed n.0)) ∙ f.over in
            absurd (cc (over, unended, n.1))

  -- what of a reply was taken that is owed in part
  begun_told : (k : ℕ) (told : List ℕ) (b : IsBegun opened world held acts k told) → length b.taken ≤ length told
  begun_told k told b = omega (arith, ap length b.owed, length-append b.taken (bytes_of opened held.owed))

  -- something is owed of a reply that was given
  owing_yields : (k : ℕ) (last : Bool) → IsAnswering opened world held acts k last → has_no_items held.owed ≡ false → MayYield world acts
  owing_yields k last at some f =
      absurd (begun_short opened world held acts k (next_reply world (input_of acts) k).bytes (answering_begun opened world held acts k last at) [] (sym (append-nil (next_reply world (input_of acts) k).bytes)) (some_items held.owed some) f.taken)

  -- the request of a body that is read
  taking_request : (k : ℕ) (head : Head) (s : Standing) (content : List ℕ) (at : IsTaking opened world held acts k head s content) → next_request (limit_for world) (input_of acts) k ≡ headed (limit_for world) head (at.read ++ held.input)
  taking_request k head s content at = front_headed (limit_for world) (left_after (limit_for world) k (input_of acts)) head (at.read ++ held.input) at.front

  taking_yields : (k : ℕ) (head : Head) (s : Standing) (content : List ℕ) → IsTaking opened world held acts k head s content → MayYield world acts
  taking_yields k head s content at =
      let is = taking_request k head s content at in
      let told : told_first (limit_for world) (next_request (limit_for world) (input_of acts) k) ≡ continue_of (limit_for world) head = ap (told_first (limit_for world)) is ∙ told_headed (limit_for world) head (at.read ++ held.input) in
      reached_yields k at.begun.before at.begun.taken at.begun.passed at.begun.output (omega (arith, begun_told k (continue_of (limit_for world) head) at.begun, ap length told))
      (ap has_head is ∙ headed_has (limit_for world) head (at.read ++ held.input))

  -- where memory is wanted
  at_yields : (s : Stage) → IsAt opened world held acts s → wants_memory_at s held.input held.owed ≡ true → MayYield world acts
  at_yields (Awaiting k) at is =
      reached_yields k (output_of acts) [] at.passed (sym (append-nil (output_of acts))) (omega arith) (ap (λ l. has_head (request_of (limit_for world) l)) (sym at.input) ∙ front_has (limit_for world) held.input is)
  at_yields (Heading k head) at is =
      reached_yields k (output_of acts) [] at.passed (sym (append-nil (output_of acts))) (omega arith)
      (ap has_head (front_headed (limit_for world) (left_after (limit_for world) k (input_of acts)) head held.input at.front) ∙ headed_has (limit_for world) head held.input)
  at_yields (Taking k head s content) at is = taking_yields k head s content at
  at_yields (Asking k r) at is =
      reached_yields k at.begun.before at.begun.taken at.begun.passed at.begun.output
      (omega (arith, begun_told k (told_first (limit_for world) r) at.begun, ap (λ (q : Request). length (told_first (limit_for world) q)) at.request)) (ap has_head at.request ∙ is)
  at_yields (Answering k true) at is = absurd (cc (is))
  at_yields (Answering k false) at is =
      let two = and_true (has_no_items held.owed) (is_headed (front_of held.input)) is in
      let now = passed_reply world (input_of acts) k at.before at.passed in
      let followed : is_followed (next_reply world (input_of acts) k) ≡ true = followed_by (next_reply world (input_of acts) k) (ap (λ (r : Reply). r.extent) (sym now) ∙ at.whole) (ap (λ (r : Reply). r.last) (sym now) ∙ at.last_is) in
      let all : at.taken ≡ (next_reply world (input_of acts) k).bytes = all_taken opened world held acts k (next_reply world (input_of acts) k).bytes (answering_begun opened world held acts k false at) two.0 in
      reached_yields (k + 1) (at.before ++ (next_reply world (input_of acts) k).bytes) [] (passed_next world (input_of acts) k at.before at.passed followed)
      (at.output ∙ ap (λ l. at.before ++ l) all ∙ sym (append-nil (at.before ++ (next_reply world (input_of acts) k).bytes))) (omega arith)
      (ap (λ l. has_head (request_of (limit_for world) l)) (sym (at.input refl)) ∙ front_has (limit_for world) held.input two.1)

  -- before the client ended, where no request is to be answered
  at_goes_on : (s : Stage) (input : List ℕ) → IsAt opened world held acts s → IsWaitingAt s input held.owed → has_ended acts ≡ false → MayYield world acts
  at_goes_on (Awaiting k) input at waiting unended = reached_goes_on k (output_of acts) [] at.passed (sym (append-nil (output_of acts))) (omega arith) unended
  at_goes_on (Heading k head) input at waiting unended = absurd waiting
  at_goes_on (Taking k head s content) input at waiting unended = taking_yields k head s content at
  at_goes_on (Asking k r) input at waiting unended = absurd waiting
  at_goes_on (Answering k last) input at waiting unended = owing_yields k last at waiting

  pub matches_yields : Matches opened world held acts → wants_memory held ≡ true → MayYield world acts
  matches_yields m is = at_yields held.stage m.at is

  -- a request that is there, in its own world
  pub asking_yields : (k : ℕ) (r : Request) → IsAsking opened world held acts k r → has_head r ≡ true → MayYield world acts
  asking_yields k r at is = at_yields (Asking k r) at is

-- ---- a read

pub unended_by : (held : Held) → wants_read held ≡ true → held.ended ≡ false
unended_by held is = by held.ended refl
  where
    none : (reads : Bool) (n : ℕ) → nat_lt 0 (if reads && not true then n else 0) ≡ false
    none true n = refl
    none false n = refl

    by : (t : Bool) → held.ended ≡ t → held.ended ≡ false
    by true ended = absurd (cc (none (is_read_at held.stage) (input_limit - length held.input), ap (λ e. nat_lt 0 (if is_read_at held.stage && not e then input_limit - length held.input else 0)) (sym ended) ∙ is))
    by false ended = ended

-- after the end of what a client sends nothing wants memory
pub ended_wants : (held : Held) → IsWaiting held → wants_memory (received_end held) ≡ false
ended_wants held waiting = by held.stage waiting
  where
    by : (s : Stage) → IsWaitingAt s held.input held.owed → wants_memory_at s held.input held.owed ≡ false
    by (Awaiting k) w = ap is_headed w
    by (Heading k head) w = absurd w
    by (Taking k head s content) w = (λ i. not (has_no_bytes (w.0 i)) || w.1 i)
    by (Asking k r) w = absurd w
    by (Answering k last) w = (λ i. not last && w i && is_headed (front_of held.input)) ∙ ap (λ b. b && is_headed (front_of held.input)) (and_false (not last))

module _ (opened : Table) (world : World) (held : Held) (acts : List Act) (asked : ℕ) (bytes : List ℕ) (stands : Stands opened world held acts) (reads : is_read_at held.stage ≡ true) where
  now : Matches opened world (received held bytes) (Read asked bytes ∷ acts)
  now = matches_received opened world held acts asked bytes reads stands

  -- the client hasn't ended, so it isn't finished
  pub received_yields : has_ended acts ≡ false → MayYield world (Read asked bytes ∷ acts)
  received_yields unended = at_goes_on opened world (received held bytes) (Read asked bytes ∷ acts) held.stage held.input now.at stands.waiting unended

  number : (current world acts).number ≡ number_of held.stage
  number = stands_number opened world held acts stands

  whole_by : (s : Stage) → held.stage ≡ s → IsAt opened world held acts s → IsAt opened world (received held bytes) (Read asked bytes ∷ acts) s → IsWaitingAt s held.input held.owed → wants_memory_at s (held.input ++ bytes) held.owed ≡ true
      → (has_head (request_at world (Read asked bytes ∷ acts) (number_of s)) ≡ true) × (is_complete (request_at world acts (number_of s)) ≡ false)
  whole_by (Awaiting k) is was at waiting wants = (
    ap (λ l. has_head (request_of (limit_for world) l)) (sym at.input) ∙ front_has (limit_for world) (held.input ++ bytes) wants,
    ap (λ l. is_complete (request_of (limit_for world) l)) (sym was.input) ∙ ap is_complete (nohead_unfinished (limit_for world) held.input waiting),
  )
  whole_by (Heading k head) is was at waiting wants = absurd waiting
  whole_by (Taking k head s content) is was at waiting wants = (
    ap has_head (taking_request opened world (received held bytes) (Read asked bytes ∷ acts) k head s content at) ∙ headed_has (limit_for world) head (at.read ++ (held.input ++ bytes)),
    ap is_complete (open_now opened world held acts k head s content was waiting),
  )
  whole_by (Asking k r) is was at waiting wants = absurd waiting
  whole_by (Answering k last) is was at waiting wants =
      let none : wants_memory_at (Answering k last) (held.input ++ bytes) held.owed ≡ false = (λ i. not last && waiting i && is_headed (front_of (held.input ++ bytes))) ∙ ap (λ b. b && is_headed (front_of (held.input ++ bytes))) (and_false (not last)) in
      absurd (cc (none, wants))

  -- memory is wanted only for a request that came whole
  pub received_wants : (spare : ℕ) → wants_memory (received held bytes) ≡ true → may_want_after_read spare world acts (Read asked bytes) ≡ true
  received_wants spare wants =
      let w = whole_by held.stage refl stands.matches.at now.at stands.waiting wants in
      let has : has_head (request_at world (Read asked bytes ∷ acts) (current world acts).number) ≡ true = ap (λ n. has_head (request_at world (Read asked bytes ∷ acts) n)) number ∙ w.0 in
      let new : is_complete (current_request world acts) ≡ false = ap (λ n. is_complete (request_at world acts n)) number ∙ w.1 in
      (λ i. nat_le spare 0 || (has i && not (new i))) ∙ or_true (nat_le spare 0)

-- or where no buffer was spare
pub unspared_wants : (spare : ℕ) (world : World) (acts : List Act) (asked : ℕ) (bytes : List ℕ) → spare ≡ 0 → may_want_after_read spare world acts (Read asked bytes) ≡ true
unspared_wants spare world acts asked bytes none =
    ap (λ n. nat_le n 0 || (has_head (request_at world (Read asked bytes ∷ acts) (current world acts).number) && not (is_complete (current_request world acts)))) none

-- what wants memory after a write is looked at
pub wants_looks : (s : Stage) (input : List ℕ) (owed : List Item) → IsWaitingAt s input owed → (rest : List Item) → wants_memory_at s input rest ≡ true → looks_at s input rest ≡ true
wants_looks (Awaiting k) input owed waiting rest is = refl
wants_looks (Heading k head) input owed waiting rest is = absurd waiting
wants_looks (Taking k head s content) input owed waiting rest is = is
wants_looks (Asking k r) input owed waiting rest is = absurd waiting
wants_looks (Answering k last) input owed waiting rest is = (and_true (not last && has_no_items rest) (is_headed (front_of input)) is).0
