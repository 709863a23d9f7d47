-- What each act makes of a client that is kept.
use Rattle.std.proofs.Common.{inl, inr, ◌+◌, ◌-◌, ◌<◌, length, length-drop, length-take, ◌≡◌, ℕ, List, [], ◌∷◌, ◌++◌, true, false, not, ◌&&◌, None, take, drop, refl, sym, ◌∙◌, ap, subst, arith, append_assoc, take-append-drop}
use Rattle.std.proofs.lemmas.List.{append-nil, drop-map, drop-take, nil_from_length}
use Rattle.std.proofs.lemmas.Bool.{cases_lt}
use Rattle.lt_world.specs.Acts.{input_of, output_of}
use Rattle.lt_world.specs.declared.net.Address.{Address}
use Rattle.lt_world.specs.declared.files.FileCall.{FileCall}
use Rattle.lt_world.specs.Disk.{Table}
use Rattle.lt_world.specs.Trace.{Act, Way, Accepted, Read, ReadEnd, NotYet, Wrote}
use Rattle.server_model.specs.Settings.{limit_for}
use Rattle.server_model.specs.Request.{Head, Request, Unfinished, Refused, Open, Declined, Complete, HasHead, front_of, request_of, is_complete, Limits}
use Rattle.server_model.specs.World.{World, call_count}
use Rattle.server_model.specs.Reply.{Whole, Reply, continue_of, reply}
use Rattle.server_model.specs.Stream.{is_whole, is_followed, Passed, reply_at, left_after, replies_to}
use Rattle.server_model.specs.Client.{IsPlanned, AskedInTurn, AskedWhole, request_at}
use Rattle.chunkqueue.specs.Items.{Item, bytes_of, item_byte, Shows}
use Rattle.server_model.specs.Held.{Stage, Awaiting, Heading, Taking, Asking, Answering, Held}
use Rattle.server_model.specs.Steps.{arrived, received, received_end, has_no_items, took, staged, without_file, is_read_at}
use Rattle.server_model.specs.Serves.{IsBegun, told_first, IsAt, Matches, IsWaitingAt, IsWaiting}
use Rattle.server_model.proofs.Requests.{complete_grows, front_grows}
use Rattle.server_model.proofs.Replying.{next_request, next_reply, followed_complete, passed_reply, passed_next, passed_grows, left_grows}

-- other opened files that give the same bytes
pub shows_over : (before after : Table) (items : List Item) (first : List ℕ) → bytes_of after items ≡ bytes_of before items → Shows before items first → Shows after items first
shows_over before after items first same shows = shows ∙ ap (take (length first)) (sym same)

-- what is staged, after the first of it was taken
pub shows_later : (opened : Table) (n : ℕ) (items : List Item) (first : List ℕ) → Shows opened items first → Shows opened (drop n items) (drop n first)
shows_later opened n items first shows = elim (cases_lt (length first) n) [
  | inl past ↦ (
      let none : drop n first ≡ [] = nil_from_length (drop n first) (omega (arith, length-drop n first)) in
      subst (Shows opened (drop n items)) (sym none) refl)
  | inr within ↦ (
      let count : length (drop n first) ≡ length first - n = length-drop n first in
      let sum : n + (length first - n) ≡ length first = omega (arith, within) in
      let all : first ≡ take (n + (length first - n)) (bytes_of opened items) = shows ∙ ap (λ (k : ℕ). take k (bytes_of opened items)) (sym sum) in
      ap (drop n) all ∙ drop-take n (length first - n) (bytes_of opened items) ∙ (λ i. take (sym count i) (drop-map (item_byte opened) n items i)))
]

-- nothing is owed, so nothing is staged
pub nothing_staged : (opened : Table) (items : List Item) (first : List ℕ) → items ≡ [] → Shows opened items first → first ≡ []
nothing_staged opened items first none shows =
    let all : first ≡ take (length first) [] = shows ∙ ap (λ (l : List Item). take (length first) (bytes_of opened l)) none in
    nil_from_length first (omega (arith, ap length all, length-take {A = ℕ} (length first) []))

pub no_items : (items : List Item) → has_no_items items ≡ true → items ≡ []
no_items [] is = refl
no_items (item ∷ items) is = absurd (cc (is))

-- a whole reply that isn't the last is followed
pub followed_by : (r : Reply) → r.extent ≡ Whole → r.last ≡ false → is_followed r ≡ true
followed_by r whole last = (λ i. is_whole (whole i) && not (last i))

-- a request that came stays as it is
complete_head : (r : Request) → is_complete r ≡ true → (head : Head) × (content : List ℕ) × (r ≡ Complete head content)
complete_head Unfinished is = absurd (cc (is))
complete_head (Refused status) is = absurd (cc (is))
complete_head (Open head) is = absurd (cc (is))
complete_head (Declined status head) is = absurd (cc (is))
complete_head (Complete head content) is = (head, content, refl)

pub complete_stays : (limits : Limits) (bytes more : List ℕ) → is_complete (request_of limits bytes) ≡ true → request_of limits (bytes ++ more) ≡ request_of limits bytes
complete_stays limits bytes more is = let h = complete_head (request_of limits bytes) is in complete_grows limits bytes more h.0 h.1 h.2 ∙ sym h.2

module _ (world : World) (acts others : List Act) where
  same_request : (more : List ℕ) → input_of others ≡ input_of acts ++ more → (k : ℕ) → IsPlanned world acts k → request_at world others k ≡ request_at world acts k
  same_request more input k p =
      ap (λ (l : List ℕ). request_of (limit_for world) (left_after (limit_for world) k l)) input ∙ ap (request_of (limit_for world)) (left_grows world (input_of acts) k p.before p.passed more)
      ∙ complete_stays (limit_for world) (left_after (limit_for world) k (input_of acts)) more p.whole

  -- what was planned still is, after further bytes came or were taken
  planned_grows : (more out : List ℕ) → input_of others ≡ input_of acts ++ more → output_of others ≡ output_of acts ++ out → (k : ℕ) → IsPlanned world acts k → IsPlanned world others k
  planned_grows more out input output k p = record {
    before = p.before;
    passed = subst (λ (l : List ℕ). Passed k (replies_to world l) p.before) (sym input) (passed_grows world (input_of acts) k p.before p.passed more);
    taken = (p.taken.0 ++ out, sym (append_assoc p.before p.taken.0 out) ∙ ap (λ l. l ++ out) p.taken.1 ∙ sym output);
    whole = ap is_complete (same_request more input k p) ∙ p.whole;
    within = λ head content is. p.within head content (sym (same_request more input k p) ∙ is);
  }

  pub turn_grows : (more out : List ℕ) → input_of others ≡ input_of acts ++ more → output_of others ≡ output_of acts ++ out → AskedInTurn world acts → AskedInTurn world others
  turn_grows more out input output h k what some = planned_grows more out input output k (h k what some)

  -- and what was asked for it is still just that
  pub asked_grows : (more : List ℕ) → input_of others ≡ input_of acts ++ more → AskedInTurn world acts → ((k : ℕ) (what : FileCall) → 0 < call_count world k what → AskedWhole world acts k) → (k : ℕ) (what : FileCall) → 0 < call_count world k what → AskedWhole world others k
  asked_grows more input turn asked k what some head content is = asked k what some head content (sym (same_request more input k (turn k what some)) ∙ is)

  pub turn_same : input_of others ≡ input_of acts → output_of others ≡ output_of acts → AskedInTurn world acts → AskedInTurn world others
  turn_same input output = turn_grows [] [] (input ∙ sym (append-nil (input_of acts))) (output ∙ sym (append-nil (output_of acts)))

-- what is owed of what was told before a reply, where nothing was told yet
pub begun_new : (opened : Table) (world : World) (held : Held) (acts : List Act) (k : ℕ) (bytes : List ℕ) → Passed k (replies_to world (input_of acts)) (output_of acts) → bytes_of opened held.owed ≡ bytes → held.staged ≡ [] → IsBegun opened world held acts k bytes
begun_new opened world held acts k bytes passed owed staged = record {
  before = output_of acts;
  taken = [];
  passed = passed;
  output = sym (append-nil (output_of acts));
  owed = owed;
  shows = subst (Shows opened held.owed) (sym staged) refl;
}

-- the same is owed, where other files are open or other acts have the same input and output
module _ (before after : Table) (world : World) (held new : Held) (acts others : List Act) (in_same : input_of others ≡ input_of acts) (out_same : output_of others ≡ output_of acts)
    (owed : new.owed ≡ held.owed) (staged_same : new.staged ≡ held.staged) (bytes : bytes_of after held.owed ≡ bytes_of before held.owed) where
  shows_as : Shows before held.owed held.staged → Shows after new.owed new.staged
  shows_as shows = let here : Shows after held.owed held.staged = shows_over before after held.owed held.staged bytes shows in subst (λ (l : List Item). Shows after l new.staged) (sym owed) (subst (Shows after held.owed) (sym staged_same) here)

  begun_as : (k : ℕ) (told : List ℕ) → IsBegun before world held acts k told → IsBegun after world new others k told
  begun_as k told b = record {
    before = b.before;
    taken = b.taken;
    passed = subst (λ x. Passed k (replies_to world x) b.before) (sym in_same) b.passed;
    output = out_same ∙ b.output;
    owed = ap (λ (l : List Item). b.taken ++ bytes_of after l) owed ∙ ap (λ l. b.taken ++ l) bytes ∙ b.owed;
    shows = shows_as b.shows;
  }

-- what is kept changed elsewhere
module _ (opened : Table) (world : World) (held new : Held) (acts : List Act) (owed : new.owed ≡ held.owed) (staged_same : new.staged ≡ held.staged) where
  pub begun_kept : (k : ℕ) (told : List ℕ) → IsBegun opened world held acts k told → IsBegun opened world new acts k told
  begun_kept k told b = begun_as opened opened world held new acts acts refl refl owed staged_same refl k told b

-- the same input and output, and the same that is kept
module _ (before after : Table) (world : World) (held new : Held) (acts others : List Act) (in_same : input_of others ≡ input_of acts) (out_same : output_of others ≡ output_of acts)
    (input : new.input ≡ held.input) (owed : new.owed ≡ held.owed) (staged_same : new.staged ≡ held.staged) (file : held.file ≡ None → new.file ≡ None) (bytes : bytes_of after held.owed ≡ bytes_of before held.owed) where
  passed_as : (k : ℕ) (l m : List ℕ) → l ≡ m → Passed k (replies_to world (input_of acts)) l → Passed k (replies_to world (input_of others)) m
  passed_as k l m same p = subst (λ x. Passed k (replies_to world x) m) (sym in_same) (subst (Passed k (replies_to world (input_of acts))) same p)

  pub at_as : (s : Stage) → IsAt before world held acts s → IsAt after world new others s
  at_as (Awaiting k) at = record {
    passed = passed_as k (output_of acts) (output_of others) (sym out_same) at.passed;
    input = input ∙ at.input ∙ ap (left_after (limit_for world) k) (sym in_same);
    owed = owed ∙ at.owed;
    staged = staged_same ∙ at.staged;
    file = file at.file;
  }
  at_as (Heading k head) at = record {
    passed = passed_as k (output_of acts) (output_of others) (sym out_same) at.passed;
    front = ap (λ (l : List ℕ). front_of (left_after (limit_for world) k l)) in_same ∙ at.front ∙ ap (HasHead head) (sym input);
    owed = owed ∙ at.owed;
    staged = staged_same ∙ at.staged;
    file = file at.file;
  }
  at_as (Taking k head s content) at = record {
    begun = begun_as before after world held new acts others in_same out_same owed staged_same bytes k (continue_of (limit_for world) head) at.begun;
    read = at.read;
    front = ap (λ (l : List ℕ). front_of (left_after (limit_for world) k l)) in_same ∙ at.front ∙ ap (λ l. HasHead head (at.read ++ l)) (sym input);
    stands = at.stands;
    content_is = at.content_is;
    own = at.own;
    file = file at.file;
  }
  at_as (Asking k r) at = record {
    begun = begun_as before after world held new acts others in_same out_same owed staged_same bytes k (told_first (limit_for world) r) at.begun;
    request = ap (λ (l : List ℕ). request_of (limit_for world) (left_after (limit_for world) k l)) in_same ∙ at.request;
    input = λ complete. input ∙ at.input complete ∙ ap (left_after (limit_for world) (k + 1)) (sym in_same);
    file = file at.file;
  }
  at_as (Answering k last) at = record {
    before = at.before;
    taken = at.taken;
    passed = passed_as k at.before at.before refl at.passed;
    output = out_same ∙ at.output;
    owed = ap (λ (l : List Item). at.taken ++ bytes_of after l) owed ∙ ap (λ l. at.taken ++ l) bytes ∙ at.owed ∙ ap (λ (l : List ℕ). (reply_at k (replies_to world l)).bytes) (sym in_same);
    shows = shows_as before after world held new acts others in_same out_same owed staged_same bytes at.shows;
    whole = ap (λ (l : List ℕ). (reply_at k (replies_to world l)).extent) in_same ∙ at.whole;
    last_is = ap (λ (l : List ℕ). (reply_at k (replies_to world l)).last) in_same ∙ at.last_is;
    input = λ follows. input ∙ at.input follows ∙ ap (left_after (limit_for world) (k + 1)) (sym in_same);
  }

-- a client that arrives, for which nothing was asked
pub arrives : (opened : Table) (world : World) (link : ℕ) (peer local : Address) → ((k : ℕ) (what : FileCall) → call_count world k what ≡ 0) → Matches opened world (arrived link peer local) (Accepted peer local ∷ [])
arrives opened world link peer local unasked = record {
  is_open = refl;
  sound = refl;
  came = (refl, refl);
  ended = refl;
  at = record { passed = refl; input = refl; owed = refl; staged = refl; file = refl };
  in_turn = λ k what some. absurd (omega (arith, some, unasked k what));
  unasked = λ k what past. unasked k what;
  asked = λ k what some. absurd (omega (arith, some, unasked k what));
}

module _ (opened : Table) (world : World) (held : Held) (acts : List Act) (m : Matches opened world held acts) where
  -- a read or a write that did nothing
  pub matches_not_yet : (way : Way) → Matches opened world held (NotYet way ∷ acts)
  matches_not_yet way = record {
    is_open = m.is_open;
    sound = m.sound;
    came = m.came;
    ended = m.ended;
    at = at_as opened opened world held held acts (NotYet way ∷ acts) refl refl refl refl refl (λ e. e) refl held.stage m.at;
    in_turn = turn_same world acts (NotYet way ∷ acts) refl refl m.in_turn;
    unasked = m.unasked;
    asked = m.asked;
  }

  -- the end came
  pub matches_end : Matches opened world (received_end held) (ReadEnd ∷ acts)
  matches_end = record {
    is_open = m.is_open;
    sound = m.sound;
    came = m.came;
    ended = refl;
    at = at_as opened opened world held (received_end held) acts (ReadEnd ∷ acts) refl refl refl refl refl (λ e. e) refl held.stage m.at;
    in_turn = turn_same world acts (ReadEnd ∷ acts) refl refl m.in_turn;
    unasked = m.unasked;
    asked = m.asked;
  }

  -- its file is given back, where other opened files give what is owed too
  pub matches_released : (others : Table) → bytes_of others held.owed ≡ bytes_of opened held.owed → Matches others world (without_file held) acts
  matches_released others same = record {
    is_open = m.is_open;
    sound = m.sound;
    came = m.came;
    ended = m.ended;
    at = at_as opened others world held (without_file held) acts acts refl refl refl refl refl (λ e. refl) same held.stage m.at;
    in_turn = m.in_turn;
    unasked = m.unasked;
    asked = m.asked;
  }

-- bytes came
module _ (opened : Table) (world : World) (held : Held) (acts : List Act) (asked : ℕ) (bytes : List ℕ) where
  at_received : (s : Stage) → is_read_at s ≡ true → IsWaitingAt s held.input held.owed → IsAt opened world held acts s → IsAt opened world (received held bytes) (Read asked bytes ∷ acts) s
  at_received (Awaiting k) is w at = record {
    passed = passed_grows world (input_of acts) k (output_of acts) at.passed bytes;
    input = ap (λ l. l ++ bytes) at.input ∙ sym (left_grows world (input_of acts) k (output_of acts) at.passed bytes);
    owed = at.owed;
    staged = at.staged;
    file = at.file;
  }
  at_received (Heading k head) is w at = absurd w
  at_received (Taking k head s content) is w at = record {
    begun = record {
      before = at.begun.before;
      taken = at.begun.taken;
      passed = passed_grows world (input_of acts) k at.begun.before at.begun.passed bytes;
      output = at.begun.output;
      owed = at.begun.owed;
      shows = at.begun.shows;
    };
    read = at.read;
    front = ap front_of (left_grows world (input_of acts) k at.begun.before at.begun.passed bytes)
        ∙ front_grows (left_after (limit_for world) k (input_of acts)) bytes head (at.read ++ held.input) at.front
        ∙ ap (HasHead head) (append_assoc at.read held.input bytes);
    stands = at.stands;
    content_is = at.content_is;
    own = at.own;
    file = at.file;
  }
  at_received (Asking k r) is w at = absurd w
  at_received (Answering k true) is w at = absurd (cc (is))
  at_received (Answering k false) is w at =
      let now = passed_reply world (input_of acts) k at.before at.passed in
      let whole : (next_reply world (input_of acts) k).extent ≡ Whole = ap (λ (r : Reply). r.extent) (sym now) ∙ at.whole in
      let last : (next_reply world (input_of acts) k).last ≡ false = ap (λ (r : Reply). r.last) (sym now) ∙ at.last_is in
      let followed : is_followed (next_reply world (input_of acts) k) ≡ true = followed_by (next_reply world (input_of acts) k) whole last in
      let complete : is_complete (next_request (limit_for world) (input_of acts) k) ≡ true = followed_complete world k (next_request (limit_for world) (input_of acts) k) followed in
      let passed = passed_grows world (input_of acts) k at.before at.passed bytes in
      let further = passed_next world (input_of acts) k at.before at.passed followed in
      let request : next_request (limit_for world) (input_of acts ++ bytes) k ≡ next_request (limit_for world) (input_of acts) k = ap (request_of (limit_for world)) (left_grows world (input_of acts) k at.before at.passed bytes) ∙ complete_stays (limit_for world) (left_after (limit_for world) k (input_of acts)) bytes complete in
      let same : reply_at k (replies_to world (input_of acts ++ bytes)) ≡ reply_at k (replies_to world (input_of acts)) =
      passed_reply world (input_of acts ++ bytes) k at.before passed ∙ ap (reply world k) request ∙ sym now in
      record {
        before = at.before;
        taken = at.taken;
        passed = passed;
        output = at.output;
        owed = at.owed ∙ sym (ap (λ (r : Reply). r.bytes) same);
        shows = at.shows;
        whole = ap (λ (r : Reply). r.extent) same ∙ at.whole;
        last_is = ap (λ (r : Reply). r.last) same ∙ at.last_is;
        input = λ follows. ap (λ l. l ++ bytes) (at.input follows) ∙ sym (left_grows world (input_of acts) (k + 1) (at.before ++ (next_reply world (input_of acts) k).bytes) further bytes);
      }

  pub matches_received : is_read_at held.stage ≡ true → IsWaiting held → Matches opened world held acts → Matches opened world (received held bytes) (Read asked bytes ∷ acts)
  matches_received is w m = record {
    is_open = m.is_open;
    sound = m.sound;
    came = m.came;
    ended = m.ended;
    at = at_received held.stage is w m.at;
    in_turn = turn_grows world acts (Read asked bytes ∷ acts) bytes [] refl (sym (append-nil (output_of acts))) m.in_turn;
    unasked = m.unasked;
    asked = asked_grows world acts (Read asked bytes ∷ acts) bytes refl m.in_turn m.asked;
  }

module _ (opened : Table) (world : World) (held : Held) (acts : List Act) where
  shows_at : (s : Stage) → 0 < length held.owed → IsAt opened world held acts s → Shows opened held.owed held.staged
  shows_at (Awaiting k) some at = absurd (omega (arith, some, ap length at.owed))
  shows_at (Heading k head) some at = absurd (omega (arith, some, ap length at.owed))
  shows_at (Taking k head s content) some at = at.begun.shows
  shows_at (Asking k r) some at = at.begun.shows
  shows_at (Answering k last) some at = at.shows

  pub matches_shows : Matches opened world held acts → 0 < length held.owed → Shows opened held.owed held.staged
  matches_shows m some = shows_at held.stage some m.at

  -- it took the first bytes of what is owed
  module _ (n offered : ℕ) (bytes : List ℕ) (is : bytes ≡ take n (bytes_of opened held.owed)) where
    begun_took : (k : ℕ) (told : List ℕ) → IsBegun opened world held acts k told → IsBegun opened world (took held n) (Wrote offered bytes ∷ acts) k told
    begun_took k told b = record {
      before = b.before;
      taken = b.taken ++ bytes;
      passed = b.passed;
      output = ap (λ l. l ++ bytes) b.output ∙ append_assoc b.before b.taken bytes;
      owed = append_assoc b.taken bytes (bytes_of opened (drop n held.owed))
          ∙ (λ i. b.taken ++ (is i ++ sym (drop-map (item_byte opened) n held.owed) i))
          ∙ ap (λ l. b.taken ++ l) (take-append-drop n (bytes_of opened held.owed)) ∙ b.owed;
      shows = shows_later opened n held.owed held.staged b.shows;
    }

    at_took : (s : Stage) → 0 < length held.owed → IsAt opened world held acts s → IsAt opened world (took held n) (Wrote offered bytes ∷ acts) s
    at_took (Awaiting k) some at = absurd (omega (arith, some, ap length at.owed))
    at_took (Heading k head) some at = absurd (omega (arith, some, ap length at.owed))
    at_took (Taking k head s content) some at = record { begun = begun_took k (continue_of (limit_for world) head) at.begun; read = at.read; front = at.front; stands = at.stands; content_is = at.content_is; own = at.own; file = at.file }
    at_took (Asking k r) some at = record { begun = begun_took k (told_first (limit_for world) r) at.begun; request = at.request; input = at.input; file = at.file }
    at_took (Answering k last) some at = record {
      before = at.before;
      taken = at.taken ++ bytes;
      passed = at.passed;
      output = ap (λ l. l ++ bytes) at.output ∙ append_assoc at.before at.taken bytes;
      owed = append_assoc at.taken bytes (bytes_of opened (drop n held.owed))
          ∙ (λ i. at.taken ++ (is i ++ sym (drop-map (item_byte opened) n held.owed) i))
          ∙ ap (λ l. at.taken ++ l) (take-append-drop n (bytes_of opened held.owed)) ∙ at.owed;
      shows = shows_later opened n held.owed held.staged at.shows;
      whole = at.whole;
      last_is = at.last_is;
      input = at.input;
    }

    pub matches_took : Matches opened world held acts → 0 < length held.owed → Matches opened world (took held n) (Wrote offered bytes ∷ acts)
    matches_took m some = record {
      is_open = m.is_open;
      sound = m.sound;
      came = m.came;
      ended = m.ended;
      at = at_took held.stage some m.at;
      in_turn = turn_grows world acts (Wrote offered bytes ∷ acts) [] bytes (sym (append-nil (input_of acts))) refl m.in_turn;
      unasked = m.unasked;
      asked = m.asked;
    }

  -- the front is read from its file
  module _ (bytes : List ℕ) (shows : Shows opened held.owed bytes) where
    begun_staged : (k : ℕ) (told : List ℕ) → IsBegun opened world held acts k told → IsBegun opened world (staged held bytes) acts k told
    begun_staged k told b = record { before = b.before; taken = b.taken; passed = b.passed; output = b.output; owed = b.owed; shows = shows }

    at_staged : (s : Stage) → 0 < length held.owed → IsAt opened world held acts s → IsAt opened world (staged held bytes) acts s
    at_staged (Awaiting k) some at = absurd (omega (arith, some, ap length at.owed))
    at_staged (Heading k head) some at = absurd (omega (arith, some, ap length at.owed))
    at_staged (Taking k head s content) some at = record { begun = begun_staged k (continue_of (limit_for world) head) at.begun; read = at.read; front = at.front; stands = at.stands; content_is = at.content_is; own = at.own; file = at.file }
    at_staged (Asking k r) some at = record { begun = begun_staged k (told_first (limit_for world) r) at.begun; request = at.request; input = at.input; file = at.file }
    at_staged (Answering k last) some at = record { before = at.before; taken = at.taken; passed = at.passed; output = at.output; owed = at.owed; shows = shows; whole = at.whole; last_is = at.last_is; input = at.input }

    pub matches_staged : Matches opened world held acts → 0 < length held.owed → Matches opened world (staged held bytes) acts
    matches_staged m some = record { is_open = m.is_open; sound = m.sound; came = m.came; ended = m.ended; at = at_staged held.stage some m.at; in_turn = m.in_turn; unasked = m.unasked; asked = m.asked }
