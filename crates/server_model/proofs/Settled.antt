-- What a client that is kept is owed and wants, when it is finished, and what it got by then.
use Rattle.std.proofs.Common.{◌≡◌, ℕ, ◌+◌, ◌-◌, ◌<◌, List, [], ◌∷◌, ◌++◌, Bool, true, false, not, ◌&&◌, Option, Some, None, length, drop, nat_lt, nat_le, if◌then◌else◌, refl, sym, ◌∙◌, ap, arith, inl, inr, append_assoc, length-append}
use Rattle.std.proofs.lemmas.List.{append-nil, length-map}
use Rattle.std.proofs.lemmas.Bool.{cases_lt}
use Rattle.std.proofs.lemmas.Bool.Decides.{nat_tests}
use Rattle.std.proofs.Math.Seq.{drop-append_seam}
use Rattle.lt_world.specs.Acts.{input_of, output_of, ending_of}
use Rattle.lt_world.specs.declared.net.Ending.{Ending}
use Rattle.lt_world.specs.declared.net.Ending.TheVariants as ending
use Rattle.lt_world.specs.Disk.{Table}
use Rattle.lt_world.specs.Trace.{Act, Way, Accepted, Readable, Writable, Read, ReadEnd, NotYet, Failed, Wrote, Connect, Close}
use Rattle.lt_http_body.specs.declared.standing.Standing.{Standing}
use Rattle.lt_http_body.specs.Standings.{is_over, answer_from}
use Rattle.lt_http_body.specs.Reading.{data_in}
use Rattle.server_model.specs.Settings.{limit_for}
use Rattle.server_model.specs.Request.{Head, Request, NoHead, Open, front_of, bodied, begin_of, headed, request_of, rest_of, is_complete}
use Rattle.server_model.specs.World.{World}
use Rattle.server_model.specs.Reply.{Whole, Reply, no_reply, continue_of, reply}
use Rattle.server_model.specs.Stream.{IsPrefix, is_whole, is_followed, joined, Place, place, remainder, reply_at, left_after, replies_to}
use Rattle.server_model.specs.Deeds.{Deed, Ours, ours}
use Rattle.server_model.specs.Client.{has_ended, is_open, stream, current, owed, is_last, is_full, unanswered, wants, owes, is_end, input_limit, IsFinished, IsRight, IsServedRight}
use Rattle.chunkqueue.specs.Items.{Item, bytes_of, item_byte}
use Rattle.server_model.specs.Held.{Stage, Awaiting, Heading, Taking, Asking, Answering, Held}
use Rattle.server_model.specs.Steps.{number_of, has_no_items, is_done_at, is_read_at}
use Rattle.server_model.specs.Serves.{IsAwaiting, IsBegun, IsTaking, told_first, IsAnswering, IsAt, IsWaitingAt, IsGone, StandsFor}
use Rattle.server_model.proofs.Requests.{open_more, front_headed, nohead_short, nohead_unfinished}
use Rattle.server_model.proofs.Replying.{next_request, next_reply, left_next, followed_complete, told_begins, headed_begins, passed_reply, passed_stream, passed_last, passed_final, passed_place}
use Rattle.server_model.proofs.Calls.{and_false}
use Rattle.server_model.proofs.Clients.{IsSettledAt}
use Rattle.server_model.proofs.Moves.{no_items, followed_by, turn_same}

-- the owed bytes are as many as the items
pub length-bytes_of : (opened : Table) (items : List Item) → length (bytes_of opened items) ≡ length items
length-bytes_of opened items = length-map items (item_byte opened)

pub and_true : (a b : Bool) → (a && b) ≡ true → (a ≡ true) × (b ≡ true)
and_true true b is = (refl, is)
and_true false b is = absurd (cc (is))

-- the first of replies that are joined
pub joined_first : (r : Reply) (rs : List Reply) → (rest : List ℕ) × (joined (r ∷ rs) ≡ r.bytes ++ rest)
joined_first r rs = by (is_followed r)
  where
    by : (t : Bool) → (rest : List ℕ) × ((if t then r.bytes ++ joined rs else r.bytes) ≡ r.bytes ++ rest)
    by true = (joined rs, refl)
    by false = ([], sym (append-nil r.bytes))

last_unfollowed : (r : Reply) → r.last ≡ true → is_followed r ≡ false
last_unfollowed r last = by (is_whole r.extent) r.last last
  where
    by : (a b : Bool) → b ≡ true → (a && not b) ≡ false
    by true true is = refl
    by false true is = refl
    by a false is = absurd (cc (is))

pub some_items : (items : List Item) → has_no_items items ≡ false → 0 < length items
some_items [] is = absurd (cc (is))
some_items (item ∷ items) is = omega arith

-- some of it is left, so it isn't all
not_all : (part left all : ℕ) → part + left ≡ all → 0 < left → nat_le all part ≡ false
not_all part left all sum some = grind (arith, nat_tests, sum, some)

-- room is left where the limit isn't reached
room_left : (a b : ℕ) → not (nat_le a b) ≡ nat_lt 0 (a - b)
room_left a b = elim (cases_lt b a) [
  | inl less ↦ let no : nat_le a b ≡ false = grind (arith, nat_tests, less) in let yes : nat_lt 0 (a - b) ≡ true = grind (arith, nat_tests, less) in ap not no ∙ sym yes
  | inr past ↦ let yes : nat_le a b ≡ true = grind (arith, nat_tests, past) in let no : nat_lt 0 (a - b) ≡ false = grind (arith, nat_tests, past) in ap not yes ∙ sym no
]

module _ (opened : Table) (world : World) (held : Held) (acts : List Act) where
  -- no request is there, so no reply is
  next_none : (k : ℕ) → IsAwaiting world held acts k → front_of held.input ≡ NoHead → next_reply world (input_of acts) k ≡ no_reply
  next_none k at is = ap (reply world k) (ap (request_of (limit_for world)) (sym at.input) ∙ nohead_unfinished (limit_for world) held.input is)

  -- a body isn't whole, so its request is open
  pub open_now : (k : ℕ) (head : Head) (s : Standing) (content : List ℕ) → IsTaking opened world held acts k head s content → (held.input ≡ []) × (is_over s.state ≡ false) → next_request (limit_for world) (input_of acts) k ≡ Open head
  open_now k head s content at waiting =
      front_headed (limit_for world) (left_after (limit_for world) k (input_of acts)) head (at.read ++ held.input) at.front
      ∙ ap (headed (limit_for world) head) (ap (λ l. at.read ++ l) waiting.0 ∙ append-nil at.read)
      ∙ ap (λ (t : Standing). bodied head (answer_from t.state) (data_in (begin_of (limit_for world) head) at.read)) (sym at.stands)
      ∙ ap (λ a. bodied head a (data_in (begin_of (limit_for world) head) at.read)) (open_more s.state waiting.1)

  -- a reply that was given, as what was told
  abbrev pub answering_begun : (k : ℕ) (last : Bool) → IsAnswering opened world held acts k last → IsBegun opened world held acts k (next_reply world (input_of acts) k).bytes
  answering_begun k last at = record {
    before = at.before;
    taken = at.taken;
    passed = at.passed;
    output = at.output;
    owed = at.owed ∙ ap (λ (r : Reply). r.bytes) (passed_reply world (input_of acts) k at.before at.passed);
    shows = at.shows;
  }

  -- the reply begins with what is told first
  module _ (k : ℕ) (told : List ℕ) (b : IsBegun opened world held acts k told) where
    owed_length : length b.taken + length held.owed ≡ length told
    owed_length = omega (arith, ap length b.owed, length-append b.taken (bytes_of opened held.owed), length-bytes_of opened held.owed)

    output_length : length (output_of acts) ≡ length b.before + length b.taken
    output_length = omega (arith, ap length b.output, length-append b.before b.taken)

    pub all_taken : has_no_items held.owed ≡ true → b.taken ≡ told
    all_taken none = sym (append-nil b.taken) ∙ ap (λ (l : List Item). b.taken ++ bytes_of opened l) (sym (no_items held.owed none)) ∙ b.owed

    begun_prefix : (rest : List ℕ) → (next_reply world (input_of acts) k).bytes ≡ told ++ rest → IsPrefix (output_of acts) (stream world acts)
    begun_prefix rest begins =
        let s = passed_stream world (input_of acts) k b.before b.passed in
        let first = joined_first (next_reply world (input_of acts) k) s.0 in (
          bytes_of opened held.owed ++ (rest ++ first.0),
          ap (λ l. l ++ (bytes_of opened held.owed ++ (rest ++ first.0))) b.output
              ∙ append_assoc b.before b.taken (bytes_of opened held.owed ++ (rest ++ first.0))
              ∙ ap (λ l. b.before ++ l) (sym (append_assoc b.taken (bytes_of opened held.owed) (rest ++ first.0)) ∙ ap (λ l. l ++ (rest ++ first.0)) b.owed ∙ sym (append_assoc told rest first.0) ∙ ap (λ l. l ++ first.0) (sym begins) ∙ sym first.1)
              ∙ sym s.1,
        )

    -- something is owed, so not all was taken
    pub begun_short : (rest : List ℕ) → (next_reply world (input_of acts) k).bytes ≡ told ++ rest → 0 < length held.owed → output_of acts ≡ stream world acts → ⊥
    begun_short rest begins more taken =
        let s = passed_stream world (input_of acts) k b.before b.passed in
        let first = joined_first (next_reply world (input_of acts) k) s.0 in
        let all : output_of acts ≡ b.before ++ ((next_reply world (input_of acts) k).bytes ++ first.0) = taken ∙ s.1 ∙ ap (λ l. b.before ++ l) first.1 in
        omega (arith, more, ap length all, output_length, length-append b.before ((next_reply world (input_of acts) k).bytes ++ first.0), length-append (next_reply world (input_of acts) k).bytes first.0, ap length begins, length-append told rest, owed_length)

    -- where it stands in it
    begun_current : (next_reply world (input_of acts) k).bytes ≡ told → (is_followed (next_reply world (input_of acts) k) && nat_le (length (next_reply world (input_of acts) k).bytes) (length b.taken)) ≡ false
        → (t : ℕ) × (current world acts ≡ record { number = k; reply = next_reply world (input_of acts) k; taken = t }) × (drop t (next_reply world (input_of acts) k).bytes ≡ bytes_of opened held.owed)
    begun_current is within = (
      length b.taken,
      ap (λ (n : ℕ). place 0 n (replies_to world (input_of acts))) output_length ∙ passed_place world (input_of acts) k b.before b.passed (length b.taken) within,
      ap (drop (length b.taken)) (is ∙ sym b.owed) ∙ drop-append_seam b.taken (bytes_of opened held.owed),
    )

  -- what it took begins its stream
  pub at_prefix : (s : Stage) → IsAt opened world held acts s → IsPrefix (output_of acts) (stream world acts)
  at_prefix (Awaiting k) at = let s = passed_stream world (input_of acts) k (output_of acts) at.passed in (joined (next_reply world (input_of acts) k ∷ s.0), sym s.1)
  at_prefix (Heading k head) at = let s = passed_stream world (input_of acts) k (output_of acts) at.passed in (joined (next_reply world (input_of acts) k ∷ s.0), sym s.1)
  at_prefix (Taking k head s content) at =
      let begins = headed_begins world k head (at.read ++ held.input) in
      begun_prefix k (continue_of (limit_for world) head) at.begun begins.0 (ap (λ (r : Request). (reply world k r).bytes) (front_headed (limit_for world) (left_after (limit_for world) k (input_of acts)) head (at.read ++ held.input) at.front) ∙ begins.1)
  at_prefix (Asking k r) at =
      let begins = told_begins world k r in
      begun_prefix k (told_first (limit_for world) r) at.begun begins.0 (ap (λ (q : Request). (reply world k q).bytes) at.request ∙ begins.1)
  at_prefix (Answering k last) at = begun_prefix k (next_reply world (input_of acts) k).bytes (answering_begun k last at) [] (sym (append-nil (next_reply world (input_of acts) k).bytes))

  -- all was taken, and nothing further can come
  pub at_finished : (s : Stage) → IsAt opened world held acts s → IsSettledAt s held.input held.owed → held.ended ≡ has_ended acts → has_no_items held.owed ≡ true → is_done_at s held.ended ≡ true → IsFinished world acts
  at_finished (Awaiting k) at settled ended none done =
      let nothing = next_none k at settled in
      record {
        taken = sym (passed_last world (input_of acts) k (output_of acts) at.passed (ap is_followed nothing) ∙ ap (λ (r : Reply). output_of acts ++ r.bytes) nothing ∙ append-nil (output_of acts));
        over = ap (λ (r : Reply). is_end r.extent r.last (has_ended acts)) (passed_final world (input_of acts) k (output_of acts) at.passed (ap is_followed nothing) ∙ nothing) ∙ sym ended ∙ done;
      }
  at_finished (Heading k head) at settled ended none done = absurd (cc (done))
  at_finished (Taking k head s content) at settled ended none done =
      let now : next_reply world (input_of acts) k ≡ reply world k (Open head) = ap (reply world k) (open_now k head s content at settled) in
      let b = at.begun in
      record {
        taken = b.output ∙ ap (λ l. b.before ++ l) (all_taken k (continue_of (limit_for world) head) b none ∙ ap (λ (r : Reply). r.bytes) (sym now)) ∙ sym (passed_last world (input_of acts) k b.before b.passed (ap is_followed now));
        over = ap (λ (r : Reply). is_end r.extent r.last (has_ended acts)) (passed_final world (input_of acts) k b.before b.passed (ap is_followed now) ∙ now) ∙ sym ended ∙ done;
      }
  at_finished (Asking k r) at settled ended none done = absurd (cc (done))
  at_finished (Answering k last) at settled ended none done =
      let now = passed_reply world (input_of acts) k at.before at.passed in
      let last_is : (next_reply world (input_of acts) k).last ≡ true = ap (λ (r : Reply). r.last) (sym now) ∙ at.last_is ∙ done in
      let whole : (next_reply world (input_of acts) k).extent ≡ Whole = ap (λ (r : Reply). r.extent) (sym now) ∙ at.whole in
      let alone = last_unfollowed (next_reply world (input_of acts) k) last_is in
      let all : at.taken ≡ (next_reply world (input_of acts) k).bytes = all_taken k (next_reply world (input_of acts) k).bytes (answering_begun k last at) none in
      record {
        taken = at.output ∙ ap (λ l. at.before ++ l) all ∙ sym (passed_last world (input_of acts) k at.before at.passed alone);
        over = ap (λ (r : Reply). is_end r.extent r.last (has_ended acts)) (passed_final world (input_of acts) k at.before at.passed alone) ∙ (λ i. is_end (whole i) (last_is i) (has_ended acts));
      }

  -- something can come, or is owed
  pub at_unfinished : (s : Stage) → IsAt opened world held acts s → IsWaitingAt s held.input held.owed → held.ended ≡ has_ended acts → (has_no_items held.owed && is_done_at s held.ended) ≡ false → IsFinished world acts → ⊥
  at_unfinished (Awaiting k) at waiting ended undone f =
      let nothing = next_none k at waiting in
      let over : has_ended acts ≡ true = ap (λ (r : Reply). is_end r.extent r.last (has_ended acts)) (sym (passed_final world (input_of acts) k (output_of acts) at.passed (ap is_followed nothing) ∙ nothing)) ∙ f.over in
      let still : held.ended ≡ false = ap (λ (l : List Item). has_no_items l && held.ended) (sym at.owed) ∙ undone in
      cc (still, ended, over)
  at_unfinished (Heading k head) at waiting ended undone f = absurd waiting
  at_unfinished (Taking k head s content) at waiting ended undone f = by (has_no_items held.owed) refl
    where
      now : next_reply world (input_of acts) k ≡ reply world k (Open head)
      now = ap (reply world k) (open_now k head s content at waiting)

      by : (t : Bool) → has_no_items held.owed ≡ t → ⊥
      by true none =
          let over : has_ended acts ≡ true = ap (λ (r : Reply). is_end r.extent r.last (has_ended acts)) (sym (passed_final world (input_of acts) k at.begun.before at.begun.passed (ap is_followed now) ∙ now)) ∙ f.over in
          let still : held.ended ≡ false = ap (λ b. b && held.ended) (sym none) ∙ undone in
          cc (still, ended, over)
      by false some = begun_short k (continue_of (limit_for world) head) at.begun [] (ap (λ (r : Reply). r.bytes) now ∙ sym (append-nil (continue_of (limit_for world) head))) (some_items held.owed some) f.taken
  at_unfinished (Asking k r) at waiting ended undone f = absurd waiting
  at_unfinished (Answering k last) at waiting ended undone f =
      begun_short k (next_reply world (input_of acts) k).bytes (answering_begun k last at) [] (sym (append-nil (next_reply world (input_of acts) k).bytes)) (some_items held.owed waiting) f.taken

  -- where it stands among its replies
  at_current : (s : Stage) → IsAt opened world held acts s → IsWaitingAt s held.input held.owed → (t : ℕ) × (current world acts ≡ record { number = number_of s; reply = next_reply world (input_of acts) (number_of s); taken = t })
      × (drop t (next_reply world (input_of acts) (number_of s)).bytes ≡ bytes_of opened held.owed)
  at_current (Awaiting k) at waiting =
      let nothing = next_none k at waiting in
      let all : length (output_of acts) ≡ length (output_of acts) + 0 = omega arith in (
        0,
        ap (λ (n : ℕ). place 0 n (replies_to world (input_of acts))) all
            ∙ passed_place world (input_of acts) k (output_of acts) at.passed 0 (ap (λ (r : Reply). is_followed r && nat_le (length r.bytes) 0) nothing),
        ap (λ (r : Reply). r.bytes) nothing ∙ ap (bytes_of opened) (sym at.owed),
      )
  at_current (Heading k head) at waiting = absurd waiting
  at_current (Taking k head s content) at waiting =
      let now : next_reply world (input_of acts) k ≡ reply world k (Open head) = ap (reply world k) (open_now k head s content at waiting) in
      begun_current k (continue_of (limit_for world) head) at.begun (ap (λ (r : Reply). r.bytes) now) (ap (λ (r : Reply). is_followed r && nat_le (length r.bytes) (length at.begun.taken)) now)
  at_current (Asking k r) at waiting = absurd waiting
  at_current (Answering k last) at waiting =
      let more : 0 < length held.owed = some_items held.owed waiting in
      let len = owed_length k (next_reply world (input_of acts) k).bytes (answering_begun k last at) in
      let short : nat_le (length (next_reply world (input_of acts) k).bytes) (length at.taken) ≡ false = not_all (length at.taken) (length held.owed) (length (next_reply world (input_of acts) k).bytes) len more in
      begun_current k (next_reply world (input_of acts) k).bytes (answering_begun k last at) refl (ap (λ b. is_followed (next_reply world (input_of acts) k) && b) short ∙ and_false (is_followed (next_reply world (input_of acts) k)))

  pub at_number : (s : Stage) → IsAt opened world held acts s → IsWaitingAt s held.input held.owed → (current world acts).number ≡ number_of s
  at_number s at waiting = ap (λ (p : Place). p.number) (at_current s at waiting).1

  pub at_owed : (s : Stage) → IsAt opened world held acts s → IsWaitingAt s held.input held.owed → owed world acts ≡ bytes_of opened held.owed
  at_owed s at waiting = let c = at_current s at waiting in ap remainder c.1 ∙ c.2

  -- a read is wanted where what came leaves room
  wants_by : (e l f : Bool) → is_open acts ≡ true → has_ended acts ≡ e → is_last (current world acts).reply ≡ l → is_full (limit_for world) (unanswered world acts) ≡ f → wants world acts ≡ (not e && not l && not f)
  wants_by e l f open_is ended last full = (λ i. open_is i && not (ended i) && not (last i) && not (full i))

  unanswered_at : (k : ℕ) → (current world acts).number ≡ k → unanswered world acts ≡ left_after (limit_for world) k (input_of acts)
  unanswered_at k is = ap (λ (n : ℕ). left_after (limit_for world) n (input_of acts)) is

  pub at_wants : (s : Stage) → IsAt opened world held acts s → IsWaitingAt s held.input held.owed → held.ended ≡ has_ended acts → is_open acts ≡ true
      → wants world acts ≡ nat_lt 0 (if is_read_at s && not held.ended then input_limit - length held.input else 0)
  at_wants (Awaiting k) at waiting ended open_is = by held.ended refl
    where
      c : (t : ℕ) × (current world acts ≡ record { number = k; reply = next_reply world (input_of acts) k; taken = t }) × (drop t (next_reply world (input_of acts) k).bytes ≡ bytes_of opened held.owed)
      c = at_current (Awaiting k) at waiting

      last : is_last (current world acts).reply ≡ false
      last = ap (λ (p : Place). is_last p.reply) c.1 ∙ ap is_last (next_none k at waiting)

      full : is_full (limit_for world) (unanswered world acts) ≡ false
      full = ap (is_full (limit_for world)) (unanswered_at k (ap (λ (p : Place). p.number) c.1) ∙ sym at.input) ∙ ap (λ r. is_complete r && nat_le input_limit (length (rest_of (limit_for world) held.input))) (nohead_unfinished (limit_for world) held.input waiting)

      by : (e : Bool) → held.ended ≡ e → wants world acts ≡ nat_lt 0 (if not held.ended then input_limit - length held.input else 0)
      by true is = wants_by true false false open_is (sym ended ∙ is) last full ∙ sym (ap (λ e. nat_lt 0 (if not e then input_limit - length held.input else 0)) is)
      by false is =
          let short = nohead_short held.input waiting in
          let room : nat_lt 0 (input_limit - length held.input) ≡ true = grind (arith, nat_tests, short) in
          wants_by false false false open_is (sym ended ∙ is) last full ∙ sym (ap (λ e. nat_lt 0 (if not e then input_limit - length held.input else 0)) is ∙ room)
  at_wants (Heading k head) at waiting ended open_is = absurd waiting
  at_wants (Taking k head s content) at waiting ended open_is = by held.ended refl
    where
      now : next_request (limit_for world) (input_of acts) k ≡ Open head
      now = open_now k head s content at waiting

      c : (t : ℕ) × (current world acts ≡ record { number = k; reply = next_reply world (input_of acts) k; taken = t }) × (drop t (next_reply world (input_of acts) k).bytes ≡ bytes_of opened held.owed)
      c = at_current (Taking k head s content) at waiting

      last : is_last (current world acts).reply ≡ false
      last = ap (λ (p : Place). is_last p.reply) c.1 ∙ ap (λ (r : Request). is_last (reply world k r)) now

      full : is_full (limit_for world) (unanswered world acts) ≡ false
      full = ap (is_full (limit_for world)) (unanswered_at k (ap (λ (p : Place). p.number) c.1)) ∙ ap (λ r. is_complete r && nat_le input_limit (length (rest_of (limit_for world) (left_after (limit_for world) k (input_of acts))))) now

      by : (e : Bool) → held.ended ≡ e → wants world acts ≡ nat_lt 0 (if not held.ended then input_limit - length held.input else 0)
      by true is = wants_by true false false open_is (sym ended ∙ is) last full ∙ sym (ap (λ e. nat_lt 0 (if not e then input_limit - length held.input else 0)) is)
      by false is =
          let room : nat_lt 0 (input_limit - length held.input) ≡ true = ap (λ (l : List ℕ). nat_lt 0 (input_limit - length l)) waiting.0 in
          wants_by false false false open_is (sym ended ∙ is) last full ∙ sym (ap (λ e. nat_lt 0 (if not e then input_limit - length held.input else 0)) is ∙ room)
  at_wants (Asking k r) at waiting ended open_is = absurd waiting
  at_wants (Answering k last) at waiting ended open_is = by last refl held.ended refl
    where
      now : reply_at k (replies_to world (input_of acts)) ≡ next_reply world (input_of acts) k
      now = passed_reply world (input_of acts) k at.before at.passed

      c : (t : ℕ) × (current world acts ≡ record { number = k; reply = next_reply world (input_of acts) k; taken = t }) × (drop t (next_reply world (input_of acts) k).bytes ≡ bytes_of opened held.owed)
      c = at_current (Answering k last) at waiting

      whole : (next_reply world (input_of acts) k).extent ≡ Whole
      whole = ap (λ (r : Reply). r.extent) (sym now) ∙ at.whole

      last_is : (next_reply world (input_of acts) k).last ≡ last
      last_is = ap (λ (r : Reply). r.last) (sym now) ∙ at.last_is

      lasts : is_last (current world acts).reply ≡ last
      lasts = ap (λ (p : Place). is_last p.reply) c.1 ∙ (λ i. is_whole (whole i) && last_is i)

      full : last ≡ false → is_full (limit_for world) (unanswered world acts) ≡ nat_le input_limit (length held.input)
      full followed =
          let complete : is_complete (next_request (limit_for world) (input_of acts) k) ≡ true = followed_complete world k (next_request (limit_for world) (input_of acts) k) (followed_by (next_reply world (input_of acts) k) whole (last_is ∙ followed)) in
          ap (is_full (limit_for world)) (unanswered_at k (ap (λ (p : Place). p.number) c.1))
          ∙ ap (λ b. b && nat_le input_limit (length (rest_of (limit_for world) (left_after (limit_for world) k (input_of acts))))) complete
          ∙ ap (λ (l : List ℕ). nat_le input_limit (length l)) (sym (left_next (limit_for world) k (input_of acts)) ∙ sym (at.input followed))

      room_by : (l e : Bool) → last ≡ l → held.ended ≡ e → nat_lt 0 (if not last && not held.ended then input_limit - length held.input else 0) ≡ nat_lt 0 (if not l && not e then input_limit - length held.input else 0)
      room_by l e one two = (λ i. nat_lt 0 (if not (one i) && not (two i) then input_limit - length held.input else 0))

      by : (l : Bool) → last ≡ l → (e : Bool) → held.ended ≡ e → wants world acts ≡ nat_lt 0 (if not last && not held.ended then input_limit - length held.input else 0)
      by true l true e = wants_by true true (is_full (limit_for world) (unanswered world acts)) open_is (sym ended ∙ e) (lasts ∙ l) refl ∙ sym (room_by true true l e)
      by true l false e = wants_by false true (is_full (limit_for world) (unanswered world acts)) open_is (sym ended ∙ e) (lasts ∙ l) refl ∙ sym (room_by true false l e)
      by false l true e = wants_by true false (is_full (limit_for world) (unanswered world acts)) open_is (sym ended ∙ e) (lasts ∙ l) refl ∙ sym (room_by false true l e)
      by false l false e = wants_by false false (nat_le input_limit (length held.input)) open_is (sym ended ∙ e) (lasts ∙ l) (full l) ∙ room_left input_limit (length held.input) ∙ sym (room_by false false l e)

pub owes_by : (world : World) (acts : List Act) (due : List ℕ) → is_open acts ≡ true → owed world acts ≡ due → owes world acts ≡ nat_lt 0 (length due)
owes_by world acts due shows is = (λ i. shows i && nat_lt 0 (length (is i)))

-- right so far: it may be closed at any time
pub closes : (world : World) (deeds : List Deed) (e : Ending) → IsRight world (ours deeds) → (e ≡ ending.Clean → IsFinished world (ours deeds)) → IsGone world (Ours (Close e) ∷ deeds)
closes world deeds e right clean = record {
  shut = refl;
  right = record {
    right = record { prefix = right.prefix; in_turn = turn_same world (ours deeds) (Close e ∷ ours deeds) refl refl right.in_turn };
    clean = λ is. let f = clean (cc (is)) in record { taken = f.taken; over = f.over };
  };
}

-- a read or a write of it failed, and what it got is right
pub fails_right : (world : World) (acts : List Act) (way : Way) → IsRight world acts → IsRight world (Failed way ∷ acts)
fails_right world acts way right = record { prefix = right.prefix; in_turn = turn_same world acts (Failed way ∷ acts) refl refl right.in_turn }

pub open_has_no_ending : (acts : List Act) → is_open acts ≡ true → ending_of acts ≡ None
open_has_no_ending [] is = absurd (cc (is))
open_has_no_ending (Accepted peer local ∷ acts) is = refl
open_has_no_ending (Readable ∷ acts) is = open_has_no_ending acts is
open_has_no_ending (Writable ∷ acts) is = open_has_no_ending acts is
open_has_no_ending (Read asked bytes ∷ acts) is = open_has_no_ending acts is
open_has_no_ending (ReadEnd ∷ acts) is = open_has_no_ending acts is
open_has_no_ending (NotYet way ∷ acts) is = open_has_no_ending acts is
open_has_no_ending (Failed way ∷ acts) is = open_has_no_ending acts is
open_has_no_ending (Wrote offered bytes ∷ acts) is = open_has_no_ending acts is
open_has_no_ending (Connect owner to link ∷ acts) is = open_has_no_ending acts is
open_has_no_ending (Close e ∷ acts) is = absurd (cc (is))

-- nothing is due for a link that isn't open
pub unwanted : (world : World) (acts : List Act) → is_open acts ≡ false → wants world acts ≡ false
unwanted world acts shut = ap (λ b. b && not (has_ended acts) && not (is_last (current world acts).reply) && not (is_full (limit_for world) (unanswered world acts))) shut

pub unowing : (world : World) (acts : List Act) → is_open acts ≡ false → owes world acts ≡ false
unowing world acts shut = ap (λ b. b && nat_lt 0 (length (owed world acts))) shut

-- what is kept stands for a client that was served right
pub stands_right : (opened : Table) (world : World) (kept : Option Held) (deeds : List Deed) → StandsFor opened world kept deeds → IsServedRight world deeds
stands_right opened world None deeds gone = gone.right
stands_right opened world (Some held) deeds stands = record {
  right = record { prefix = at_prefix opened world held (ours deeds) held.stage stands.matches.at; in_turn = stands.matches.in_turn };
  clean = λ is. absurd (cc (open_has_no_ending (ours deeds) stands.matches.is_open, is));
}
