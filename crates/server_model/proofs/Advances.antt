-- What the step that the bytes which came allow, a body that is accepted and the answer to a request make of a client that is kept.
use Rattle.std.proofs.Common.{inl, inr, ◌+◌, ◌<◌, length, length-append, length-take, map, ◌≡◌, ℕ, ◌≤◌, List, [], ◌++◌, Bool, true, false, if◌then◌else◌, Option, None, take, drop, refl, sym, ◌∙◌, ap, subst, arith, append_assoc}
use Rattle.std.specs.Prelude.{Result, Ok, Err}
use Rattle.std.proofs.lemmas.List.{append-nil, map-append, take-append-le}
use Rattle.std.proofs.lemmas.Bool.{cases_eq, cases_lt}
use Rattle.lt_world.specs.Acts.{input_of, output_of}
use Rattle.lt_world.specs.declared.files.FileCall.{FileCall}
use Rattle.lt_world.specs.Disk.{Table}
use Rattle.lt_world.specs.Trace.{Act}
use Rattle.lt_http_body.specs.declared.standing.Standing.{Standing}
use Rattle.lt_http_body.specs.declared.body.BodyState.{BodyState}
use Rattle.lt_http_body.specs.declared.body.BodyState.TheVariants as body
use Rattle.lt_http_body.specs.declared.body.BodyRefusal.{BodyRefusal}
use Rattle.lt_http_body.specs.Standings.{answer_from}
use Rattle.lt_http_body.specs.Reading.{standing_after, data_in, taken_in}
use Rattle.lt_http_body.proofs.ReadingLemmas.{after_append, data_append, taken_append}
use Rattle.server_model.specs.Settings.{limit_for}
use Rattle.server_model.specs.Request.{Head, Request, Unfinished, Refused, Open, Declined, Complete, Front, NoHead, BadHead, HasHead, front_of, body_status, bodied, begin_of, request_of, is_complete, Limits}
use Rattle.server_model.specs.World.{World, call_count}
use Rattle.server_model.specs.Plan.{calls_of}
use Rattle.server_model.specs.Reply.{Whole, Reply, continue_of, reply}
use Rattle.server_model.specs.Stream.{Passed, reply_at, left_after, replies_to}
use Rattle.server_model.specs.Client.{IsPlanned, AskedInTurn, AskedWithin, AskedWhole, request_at}
use Rattle.chunkqueue.specs.Items.{Item, Byte, bytes_of, item_byte, Shows}
use Rattle.server_model.specs.Held.{Stage, Awaiting, Heading, Taking, Asking, Answering, Held}
use Rattle.server_model.specs.Steps.{number_of, has_no_items, looked_at, looked, fed_at, advanced_at, advanced, accepted_at, accepted, answered}
use Rattle.server_model.specs.Serves.{IsAwaiting, IsHeading, IsTaking, told_first, IsAsking, IsAnswering, IsAt, first_unasked, Matches}
use Rattle.server_model.proofs.Requests.{bad_refused, front_headed, front_rest, headed_read, drop_read, open_all}
use Rattle.server_model.proofs.Replying.{next_reply, left_next, followed_complete, passed_reply, passed_next, passed_world}
use Rattle.server_model.proofs.Planned.{memory_bytes}
use Rattle.server_model.proofs.Moves.{nothing_staged, no_items, followed_by, begun_new, begun_kept}
use Rattle.server_model.proofs.Clients.{IsFreedAt, IsFreed, drop_all}

-- what is answered behind the bytes of a body
abbrev BodyAnswer : Type 0
BodyAnswer = Result BodyState BodyRefusal

-- the step that what came allows
module _ (opened : Table) (world : World) (held : Held) (acts : List Act) where
  -- another stage of the same request
  restaged : (s : Stage) (input : List ℕ) → first_unasked s ≡ first_unasked held.stage → IsAt opened world (record held { stage = s; input = input }) acts s → Matches opened world held acts → Matches opened world (record held { stage = s; input = input }) acts
  restaged s input from at m = record {
    is_open = m.is_open;
    sound = m.sound;
    came = m.came;
    ended = m.ended;
    at = at;
    in_turn = m.in_turn;
    unasked = λ j what past. m.unasked j what (omega (arith, past, from));
    asked = m.asked;
  }

  -- a reply that isn't the last was wholly taken
  passed_over : (k : ℕ) → IsAnswering opened world held acts k false → held.owed ≡ [] → held.file ≡ None → IsAwaiting world held acts (k + 1)
  passed_over k at none file =
      let now = passed_reply world (input_of acts) k at.before at.passed in
      let whole : (next_reply world (input_of acts) k).extent ≡ Whole = ap (λ (r : Reply). r.extent) (sym now) ∙ at.whole in
      let last : (next_reply world (input_of acts) k).last ≡ false = ap (λ (r : Reply). r.last) (sym now) ∙ at.last_is in
      let all : at.taken ≡ (next_reply world (input_of acts) k).bytes = sym (append-nil at.taken) ∙ ap (λ (l : List Item). at.taken ++ bytes_of opened l) (sym none) ∙ at.owed ∙ ap (λ (r : Reply). r.bytes) now in
      let output : output_of acts ≡ at.before ++ (next_reply world (input_of acts) k).bytes = at.output ∙ ap (λ l. at.before ++ l) all in
      record {
        passed = subst (Passed (k + 1) (replies_to world (input_of acts))) (sym output) (passed_next world (input_of acts) k at.before at.passed (followed_by (next_reply world (input_of acts) k) whole last));
        input = at.input refl;
        owed = none;
        staged = nothing_staged opened held.owed held.staged none at.shows;
        file = file;
      }

  -- what came is looked at by what stands at its front
  matches_looked_at : (k : ℕ) (f : Front) → front_of held.input ≡ f → first_unasked held.stage ≡ k → IsAwaiting world held acts k → Matches opened world held acts → Matches opened world (looked_at k f held) acts
  matches_looked_at k NoHead is from at m = restaged (Awaiting k) held.input (sym from) (record { passed = at.passed; input = at.input; owed = at.owed; staged = at.staged; file = at.file }) m
  matches_looked_at k (BadHead status) is from at m = restaged (Asking k (Refused status)) held.input (sym from) (record {
    begun = begun_new opened world (record held { stage = Asking k (Refused status); input = held.input }) acts k [] at.passed (ap (bytes_of opened) at.owed) at.staged;
    request = bad_refused (limit_for world) (left_after (limit_for world) k (input_of acts)) status (ap front_of (sym at.input) ∙ is);
    input = λ complete. absurd (cc (complete));
    file = at.file;
  }) m
  matches_looked_at k (HasHead head rest) is from at m = restaged (Heading k head) rest (sym from) (record { passed = at.passed; front = ap front_of (sym at.input) ∙ is; owed = at.owed; staged = at.staged; file = at.file }) m

  matches_looked : (k : ℕ) → first_unasked held.stage ≡ k → IsAwaiting world held acts k → Matches opened world held acts → Matches opened world (looked k held) acts
  matches_looked k from at m = matches_looked_at k (front_of held.input) refl from at m

  -- a body takes up what came
  module _ (k : ℕ) (head : Head) (s : Standing) (content : List ℕ) (at : IsTaking opened world held acts k head s content) where
    abbrev later : BodyAnswer → Held
    later a = record held { stage = fed_at k head a (standing_after s held.input) (content ++ data_in s held.input); input = drop (taken_in s held.input) held.input }

    goes_on : answer_from (standing_after s held.input).state ≡ Ok body.NeedMore → IsTaking opened world (later (Ok body.NeedMore)) acts k head (standing_after s held.input) (content ++ data_in s held.input)
    goes_on is =
        let all : taken_in s held.input ≡ length held.input = open_all s held.input is in
        let none : drop (taken_in s held.input) held.input ≡ [] = drop_all (taken_in s held.input) held.input all in
        record {
          begun = begun_kept opened world held (later (Ok body.NeedMore)) acts refl refl k (continue_of (limit_for world) head) at.begun;
          read = at.read ++ held.input;
          front = at.front ∙ ap (HasHead head) (sym (append-nil (at.read ++ held.input))) ∙ ap (λ l. HasHead head ((at.read ++ held.input) ++ l)) (sym none);
          stands = ap (λ (t : Standing). standing_after t held.input) at.stands ∙ sym (after_append (begin_of (limit_for world) head) at.read held.input);
          content_is = (λ i. at.content_is i ++ data_in (at.stands i) held.input) ∙ sym (data_append (begin_of (limit_for world) head) at.read held.input);
          own = omega (arith, taken_append (begin_of (limit_for world) head) at.read held.input, at.own, ap (λ (t : Standing). taken_in t held.input) at.stands, all, length-append at.read held.input);
          file = at.file;
        }

    request_now : (a : BodyAnswer) → answer_from (standing_after s held.input).state ≡ a → request_of (limit_for world) (left_after (limit_for world) k (input_of acts)) ≡ bodied head a (content ++ data_in s held.input)
    request_now a is =
        front_headed (limit_for world) (left_after (limit_for world) k (input_of acts)) head (at.read ++ held.input) at.front ∙ headed_read (limit_for world) head at.read held.input
        ∙ (λ i. bodied head (answer_from (standing_after (sym at.stands i) held.input).state) (sym at.content_is i ++ data_in (sym at.stands i) held.input))
        ∙ ap (λ (b : BodyAnswer). bodied head b (content ++ data_in s held.input)) is

    input_now : answer_from (standing_after s held.input).state ≡ Ok body.Done → drop (taken_in s held.input) held.input ≡ left_after (limit_for world) (k + 1) (input_of acts)
    input_now is =
        ap (λ (t : Standing). drop (taken_in t held.input) held.input) at.stands ∙ sym (drop_read (limit_for world) head at.read held.input at.own)
        ∙ sym (front_rest (limit_for world) (left_after (limit_for world) k (input_of acts)) head (at.read ++ held.input) at.front (ap is_complete (request_now (Ok body.Done) is)))
        ∙ sym (left_next (limit_for world) k (input_of acts))

    matches_fed : first_unasked held.stage ≡ k → (a : BodyAnswer) → answer_from (standing_after s held.input).state ≡ a → Matches opened world held acts → Matches opened world (later a) acts
    matches_fed from (Ok body.NeedMore) is m = restaged (Taking k head (standing_after s held.input) (content ++ data_in s held.input)) (drop (taken_in s held.input) held.input) (sym from) (goes_on is) m
    matches_fed from (Ok body.Done) is m = restaged (Asking k (Complete head (content ++ data_in s held.input))) (drop (taken_in s held.input) held.input) (sym from) (record {
      begun = begun_kept opened world held (later (Ok body.Done)) acts refl refl k (continue_of (limit_for world) head) at.begun;
      request = request_now (Ok body.Done) is;
      input = λ complete. input_now is;
      file = at.file;
    }) m
    matches_fed from (Err refused) is m = restaged (Asking k (Declined (body_status refused) head)) (drop (taken_in s held.input) held.input) (sym from) (record {
      begun = begun_kept opened world held (later (Err refused)) acts refl refl k (continue_of (limit_for world) head) at.begun;
      request = request_now (Err refused) is;
      input = λ complete. absurd (cc (complete));
      file = at.file;
    }) m

  advanced_by : (s : Stage) → held.stage ≡ s → IsFreedAt s held.owed held.file → Matches opened world held acts → Matches opened world (advanced_at s held) acts
  advanced_by (Awaiting k) is freed m = matches_looked k (ap first_unasked is) (subst (IsAt opened world held acts) is m.at) m
  advanced_by (Heading k head) is freed m = m
  advanced_by (Taking k head s content) is freed m = matches_fed k head s content (subst (IsAt opened world held acts) is m.at) (ap first_unasked is) (answer_from (standing_after s held.input).state) refl m
  advanced_by (Asking k r) is freed m = m
  advanced_by (Answering k true) is freed m = m
  advanced_by (Answering k false) is freed m = by (has_no_items held.owed) refl
    where
      by : (t : Bool) → has_no_items held.owed ≡ t → Matches opened world (if t then looked (k + 1) held else held) acts
      by true none = matches_looked (k + 1) (ap first_unasked is) (passed_over k (subst (IsAt opened world held acts) is m.at) (no_items held.owed none) (freed none)) m
      by false some = m

  pub matches_advanced : IsFreed held → Matches opened world held acts → Matches opened world (advanced held) acts
  matches_advanced freed m = advanced_by held.stage refl freed m

  -- a body is accepted up to the limit, and the client is told so where it waits for that
  accepts : (k : ℕ) (head : Head) → held.stage ≡ Heading k head → Matches opened world held acts → Matches opened world (accepted_at (Heading k head) (limit_for world head) held) acts
  unfolding standing_after data_in taken_in
  accepts k head is m =
      let at : IsHeading world held acts k head = subst (IsAt opened world held acts) is m.at in
      let mid : Held = accepted_at (Heading k head) (limit_for world head) held in
      record {
        is_open = m.is_open;
        sound = m.sound;
        came = m.came;
        ended = m.ended;
        at = record {
          begun = begun_new opened world mid acts k (continue_of (limit_for world) head) at.passed (ap (λ (l : List Item). bytes_of opened (l ++ map Byte (continue_of (limit_for world) head))) at.owed ∙ memory_bytes opened (continue_of (limit_for world) head)) at.staged;
          read = [];
          front = at.front;
          stands = refl;
          content_is = refl;
          own = refl;
          file = at.file;
        };
        in_turn = m.in_turn;
        unasked = λ j what past. m.unasked j what (omega (arith, past, ap first_unasked is));
        asked = m.asked;
      }

  pub matches_accepted : (limit : ℕ) → ((k : ℕ) (head : Head) → held.stage ≡ Heading k head → limit ≡ limit_for world head) → Matches opened world held acts → Matches opened world (accepted held limit) acts
  matches_accepted limit same m = by held.stage refl
    where
      by : (s : Stage) → held.stage ≡ s → Matches opened world (accepted_at s limit held) acts
      by (Awaiting k) is = m
      by (Heading k head) is = subst (λ (l : ℕ). Matches opened world (accepted_at (Heading k head) l held) acts) (sym (same k head is)) (accepts k head is m)
      by (Taking k head s content) is = m
      by (Asking k r) is = m
      by (Answering k last) is = m

-- the head of a request that is complete
abbrev head_or : Head → Request → Head
head_or other Unfinished = other
head_or other (Refused status) = other
head_or other (Open head) = other
head_or other (Declined status head) = other
head_or other (Complete head content) = head

fewer : (a b c d : ℕ) → a ≡ b → c ≡ d → b ≤ d → a ≤ c
fewer a b c d ab cd le = omega (arith, ab, cd, le)

-- a request that is there, in a world in which calls were made for it alone
module _ (opened now : Table) (world other : World) (held : Held) (acts : List Act) (k : ℕ) (r : Request) (asking : held.stage ≡ Asking k r) (limits : limit_for other ≡ limit_for world)
    (others : (j : ℕ) (what : FileCall) → (k ≡ j → ⊥) → call_count other j what ≡ call_count world j what) (same : (j : ℕ) (q : Request) → (k ≡ j → ⊥) → reply other j q ≡ reply world j q)
    (plans : (j : ℕ) (h : Head) (what : FileCall) → (k ≡ j → ⊥) → calls_of other j h what ≡ calls_of world j h what) where
  asks_here : Matches opened world held acts → IsAsking opened world held acts k r
  asks_here m = subst (IsAt opened world held acts) asking m.at

  -- those below are passed in this world too
  passed_other : (n : ℕ) (before : List ℕ) → n ≤ k → Passed n (replies_to world (input_of acts)) before → Passed n (replies_to other (input_of acts)) before
  passed_other n before le passed = passed_world world (input_of acts) n before passed other limits (λ j q below. same j q (λ e. omega (arith, e, below, le)))

  unasked_above : Matches opened world held acts → (j : ℕ) (what : FileCall) → k < j → call_count other j what ≡ 0
  unasked_above m j what past = others j what (λ e. omega (arith, e, past)) ∙ m.unasked j what (omega (arith, past, ap first_unasked asking))

  -- it is there in this world too
  pub asks_other : Matches opened world held acts → IsAsking opened other held acts k r
  asks_other m = let at = asks_here m in record {
    begun = record { before = at.begun.before; taken = at.begun.taken; passed = passed_other k at.begun.before (omega arith) at.begun.passed; output = at.begun.output; owed = at.begun.owed ∙ ap (λ (l : Limits). told_first l r) (sym limits); shows = at.begun.shows };
    request = ap (λ (l : Limits). request_of l (left_after l k (input_of acts))) limits ∙ at.request;
    input = λ complete. at.input complete ∙ ap (λ (l : Limits). left_after l (k + 1) (input_of acts)) (sym limits);
    file = at.file;
  }

  same_at : (j : ℕ) → request_at other acts j ≡ request_at world acts j
  same_at j = ap (λ (l : Limits). request_of l (left_after l j (input_of acts))) limits

  -- what holds by its head holds by the head of the request that is there
  pub by_head : (head : Head) (content : List ℕ) → r ≡ Complete head content → (P : Head → Type 0) → P head → Matches opened world held acts → (h : Head) (c : List ℕ) → request_at other acts k ≡ Complete h c → P h
  by_head head content is P here m h c there = subst P (ap (head_or head) (sym is ∙ sym (asks_other m).request ∙ there)) here

  -- just what its plan names was asked for it
  pub asked_planned : AskedWhole other acts k → Matches opened world held acts → (j : ℕ) (what : FileCall) → 0 < call_count other j what → AskedWhole other acts j
  asked_planned whole m j what some h c is w = elim (cases_eq k j) [
    | inl here ↦ subst (AskedWhole other acts) here whole h c is w
    | inr apart ↦ others j w apart ∙ m.asked j what (omega (arith, some, others j what apart)) h c (sym (same_at j) ∙ is) w ∙ sym (plans j h w apart)
  ]

  -- calls are made for it alone, and it is complete
  pub matches_planned : is_complete r ≡ true → AskedWithin other acts k → Matches opened world held acts → AskedInTurn other acts
  matches_planned complete within m j what some = elim (cases_eq k j) [
    | inl is ↦
        let at = asks_other m in
        let now : IsPlanned other acts k = record {
          before = at.begun.before;
          passed = at.begun.passed;
          taken = (at.begun.taken, sym at.begun.output);
          whole = ap is_complete at.request ∙ complete;
          within = within;
        } in
        subst (IsPlanned other acts) is now
    | inr apart ↦
        let counted : call_count other j what ≡ call_count world j what = others j what apart in
        let p = m.in_turn j what (omega (arith, some, counted)) in
        let below : j < k = elim (cases_lt j k) [ inl less ↦ less | inr past ↦ absurd (omega (arith, some, counted, m.unasked j what (omega (arith, past, ap first_unasked asking)))) ] in
        record { before = p.before; passed = passed_other j p.before (omega (arith, below)) p.passed; taken = p.taken; whole = ap is_complete (same_at j) ∙ p.whole; within = λ h c is w. fewer (call_count other j w) (call_count world j w) (calls_of other j h w) (calls_of world j h w) (others j w apart) (plans j h w apart) (p.within h c (sym (same_at j) ∙ is) w) }
  ]

  -- further items come behind those that are owed
  shows_first : (items : List Item) → bytes_of now held.owed ≡ bytes_of opened held.owed → Shows opened held.owed held.staged → Shows now (held.owed ++ items) held.staged
  shows_first items kept shows =
      let within : length held.staged ≤ length (bytes_of opened held.owed) = omega (arith, ap length shows, length-take (length held.staged) (bytes_of opened held.owed)) in
      shows ∙ sym (take-append-le (length held.staged) (bytes_of opened held.owed) (bytes_of now items) within)
      ∙ (λ i. take (length held.staged) (sym kept i ++ bytes_of now items)) ∙ ap (take (length held.staged)) (sym (map-append (item_byte now) held.owed items))

  -- its reply is given, behind what is owed of what was told before it
  pub matches_answered : (items : List Item) (file : Option ℕ) (last : Bool) → AskedInTurn other acts → ((j : ℕ) (what : FileCall) → 0 < call_count other j what → AskedWhole other acts j) → (reply other k r).extent ≡ Whole → (reply other k r).last ≡ last → bytes_of now held.owed ≡ bytes_of opened held.owed
      → told_first (limit_for other) r ++ bytes_of now items ≡ (reply other k r).bytes → Matches opened world held acts → Matches now other (answered held items file last) acts
  matches_answered items file last turn asked whole last_is kept is m =
      let at = asks_other m in
      let b = at.begun in
      let passed = b.passed in
      let here : reply_at k (replies_to other (input_of acts)) ≡ reply other k r = passed_reply other (input_of acts) k b.before passed ∙ ap (reply other k) at.request in
      let answers : IsAnswering now other (answered held items file last) acts k last = record {
        before = b.before;
        taken = b.taken;
        passed = passed;
        output = b.output;
        owed = ap (λ l. b.taken ++ l) (map-append (item_byte now) held.owed items) ∙ (λ i. b.taken ++ (kept i ++ bytes_of now items))
            ∙ sym (append_assoc b.taken (bytes_of opened held.owed) (bytes_of now items)) ∙ ap (λ l. l ++ bytes_of now items) b.owed ∙ is ∙ sym (ap (λ (q : Reply). q.bytes) here);
        shows = shows_first items kept b.shows;
        whole = ap (λ (q : Reply). q.extent) here ∙ whole;
        last_is = ap (λ (q : Reply). q.last) here ∙ last_is;
        input = λ follows. at.input (followed_complete other k r (followed_by (reply other k r) whole (last_is ∙ follows)));
      } in
      let number : number_of held.stage ≡ k = ap number_of asking in
      record {
        is_open = m.is_open;
        sound = m.sound;
        came = m.came;
        ended = m.ended;
        at = subst (λ (n : ℕ). IsAnswering now other (answered held items file last) acts n last) (sym number) answers;
        in_turn = turn;
        unasked = λ j what past. unasked_above m j what (omega (arith, past, number));
        asked = asked;
      }
