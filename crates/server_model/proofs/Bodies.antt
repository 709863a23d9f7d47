-- Where the body of a request ends, by the framing of its head, and when its client is told to go on.
use Rattle.std.proofs.Common.{◌≡◌, ℕ, zero, suc, ◌-◌, ◌^◌, ◌<◌, ◌≤◌, ◌==◌, nat_lt, nat_le, List, [], ◌∷◌, ◌++◌, length, take, drop, Bool, true, false, ◌&&◌, if◌then◌else◌, Option, Some, None, refl, sym, ◌∙◌, ap, arith, append-nil, length-take}
use Rattle.std.specs.Prelude.{codes}
use Rattle.std.proofs.lemmas.Bool.Decides.{nat_tests}
use Rattle.std.proofs.Math.Seq.{drop-length}
use Rattle.http_head.specs.declared.framing.Framing.{Framing}
use Rattle.http_head.specs.declared.framing.Framing.TheVariants as framed
use Rattle.http_head.specs.Options.{expects}
use Rattle.http_head.proofs.OptionLemmas.{options_so}
use Rattle.lt_http_body.specs.declared.standing.Standing.{Standing}
use Rattle.lt_http_body.specs.declared.state.State.{State}
use Rattle.lt_http_body.specs.declared.state.State.TheVariants as state
use Rattle.lt_http_body.specs.Lines.{in_stated}
use Rattle.lt_http_body.specs.Standings.{at, begin, is_above, limit_of, answer_from}
use Rattle.lt_http_body.specs.Reading.{standing_after, data_in, taken_in}
use Rattle.lt_http_body.proofs.ReadingLemmas.{data_gives}
use Rattle.server_model.specs.Settings.{limit_for}
use Rattle.server_model.specs.Request.{Head, Request, Open, Declined, Complete, HasHead, front_of, bodied, begin_of, request_of, rest_of, is_complete, Limits}
use Rattle.server_model.specs.World.{World}
use Rattle.server_model.specs.Reply.{is_accepted, continue_of, reply}
use Rattle.server_model.specs.Stream.{IsPrefix}
use Rattle.server_model.proofs.Requests.{front_headed, front_read, complete_front, complete_content, front_rest, over_after, over_data, over_taken}
use Rattle.server_model.proofs.Replying.{headed_begins}
use Rattle.server_model.proofs.Within.{chunks_within}

-- a body of so many bytes, at most
abbrev room : ℕ → Option ℕ
room limit = limit_of limit

-- a limit below 2^64 - 1 is one
limited : (limit : ℕ) → limit < 2 ^ 64 - 1 → room limit ≡ Some limit
limited limit below = ap (λ (t : Bool). if t then None else Some limit) is_one
  where
    is_one : (limit == 2 ^ 64 - 1) ≡ false
    is_one = grind (arith, nat_tests, below)

-- a standing after which all is said
record Ends (limit : ℕ) (s : Standing) (rest : List ℕ) (content : List ℕ) (n : ℕ) : Type 0 where
  stands : standing_after s rest ≡ at (room limit) state.Whole
  reads : data_in s rest ≡ content
  counts : taken_in s rest ≡ n

ends_at_once : (limit : ℕ) (rest : List ℕ) → Ends limit (at (room limit) state.Whole) rest [] 0
ends_at_once limit rest = record {
  stands = over_after (at (room limit) state.Whole) rest refl;
  reads = over_data (at (room limit) state.Whole) rest refl;
  counts = over_taken (at (room limit) state.Whole) rest refl;
}

some_left : (n : ℕ) → 0 < n → in_stated n ≡ state.Stated n
some_left n some = ap (λ (t : Bool). if t then state.Whole else state.Stated n) (is_some)
  where
    is_some : (n == 0) ≡ false
    is_some = grind (arith, nat_tests, some)

none_left : (n : ℕ) → n ≡ 0 → in_stated n ≡ state.Whole
none_left n is = ap in_stated is

ends_stated : (limit : ℕ) (n : ℕ) (rest : List ℕ) → n ≤ length rest → Ends limit (at (room limit) (in_stated n)) rest (take n rest) n
ends_stated limit zero rest le = ends_at_once limit rest
ends_stated limit (suc n) rest le =
    let first = some_left (suc n) (omega arith) in
    let g = data_gives (room limit) (state.Stated (suc n)) rest (suc n) (omega arith) (omega arith) le in
    let behind : in_stated (suc n - suc n) ≡ state.Whole = none_left (suc n - suc n) (omega arith) in
    let e = ends_at_once limit (drop (suc n) rest) in
    record {
      stands = ap (λ (s : State). standing_after (at (room limit) s) rest) first ∙ g.stands ∙ ap (λ (s : State). standing_after (at (room limit) s) (drop (suc n) rest)) behind ∙ e.stands;
      reads = ap (λ (s : State). data_in (at (room limit) s) rest) first ∙ g.reads ∙ ap (λ (s : State). take (suc n) rest ++ data_in (at (room limit) s) (drop (suc n) rest)) behind
          ∙ ap (λ (l : List ℕ). take (suc n) rest ++ l) e.reads ∙ append-nil (take (suc n) rest);
      counts = ap (λ (s : State). taken_in (at (room limit) s) rest) first ∙ g.counts ∙ omega (arith, ap (λ (s : State). taken_in (at (room limit) s) (drop (suc n) rest)) behind, e.counts);
    }

after_nothing : (s : Standing) → standing_after s [] ≡ s
unfolding standing_after
after_nothing s = refl

-- too few bytes came
stated_short : (limit : ℕ) (n : ℕ) (rest : List ℕ) → length rest < n → standing_after (at (room limit) (in_stated n)) rest ≡ at (room limit) (state.Stated (n - length rest))
stated_short limit n rest short =
    let g = data_gives (room limit) (state.Stated n) rest (length rest) (omega (arith, short)) (omega (arith, short)) (omega arith) in
    ap (λ (s : State). standing_after (at (room limit) s) rest) (some_left n (omega (arith, short))) ∙ g.stands
    ∙ (λ i. standing_after (at (room limit) (some_left (n - length rest) (omega (arith, short)) i)) (drop-length rest i))
    ∙ after_nothing (at (room limit) (state.Stated (n - length rest)))

-- a stated length within the limit, and above it
begin_stated : (limit : ℕ) (n : ℕ) → n ≤ limit → begin (framed.Length n) limit ≡ at (room limit) (in_stated n)
begin_stated limit n le = ap (λ (t : Bool). at (room limit) (if t then state.TooLarge else in_stated n)) (by (limit == 2 ^ 64 - 1))
  where
    within : nat_lt limit n ≡ false
    within = grind (arith, nat_tests, le)

    by : (t : Bool) → is_above n (if t then None else Some limit) ≡ false
    by true = refl
    by false = within

begin_large : (limit n : ℕ) → limit < 2 ^ 64 - 1 → limit < n → begin (framed.Length n) limit ≡ at (room limit) state.TooLarge
begin_large limit n below large = ap (λ (o : Option ℕ). at (room limit) (if is_above n o then state.TooLarge else in_stated n)) (limited limit below) ∙ ap (λ (t : Bool). at (room limit) (if t then state.TooLarge else in_stated n)) above
  where
    above : nat_lt limit n ≡ true
    above = grind (arith, nat_tests, large)

module _ (limits : Limits) (bytes rest : List ℕ) (head : Head) (front : front_of bytes ≡ HasHead head rest) where
  by_begin : (s : Standing) → begin_of limits head ≡ s → request_of limits bytes ≡ bodied head (answer_from (standing_after s rest).state) (data_in s rest)
  by_begin s is = front_headed limits bytes head rest front ∙ ap (λ (x : Standing). bodied head (answer_from (standing_after x rest).state) (data_in x rest)) is

  -- a body that ends within the bytes
  by_ends : (s : Standing) (content : List ℕ) (n : ℕ) → begin_of limits head ≡ s → Ends (limits head) s rest content n → (request_of limits bytes ≡ Complete head content) × (rest_of limits bytes ≡ drop n rest)
  by_ends s content n is e =
      let whole : request_of limits bytes ≡ Complete head content = by_begin s is ∙ (λ i. bodied head (answer_from (e.stands i).state) (e.reads i)) in
      (whole, front_rest limits bytes head rest front (ap is_complete whole) ∙ (λ i. drop (taken_in (is i) rest) rest) ∙ ap (λ (m : ℕ). drop m rest) e.counts)

  pub body_none : head.framing ≡ framed.None → (request_of limits bytes ≡ Complete head []) × (rest_of limits bytes ≡ rest)
  body_none is = by_ends (at (room (limits head)) state.Whole) [] 0 (ap (λ (f : Framing). begin f (limits head)) is) (ends_at_once (limits head) rest)

  pub body_stated : (n : ℕ) → head.framing ≡ framed.Length n → n ≤ limits head → n ≤ length rest → (request_of limits bytes ≡ Complete head (take n rest)) × (rest_of limits bytes ≡ drop n rest)
  body_stated n is le enough = by_ends (at (room (limits head)) (in_stated n)) (take n rest) n (ap (λ (f : Framing). begin f (limits head)) is ∙ begin_stated (limits head) n le) (ends_stated (limits head) n rest enough)

  pub body_short : (n : ℕ) → head.framing ≡ framed.Length n → n ≤ limits head → length rest < n → request_of limits bytes ≡ Open head
  body_short n is le short =
      by_begin (at (room (limits head)) (in_stated n)) (ap (λ (f : Framing). begin f (limits head)) is ∙ begin_stated (limits head) n le)
      ∙ ap (λ (s : Standing). bodied head (answer_from s.state) (data_in (at (room (limits head)) (in_stated n)) rest)) (stated_short (limits head) n rest short)

  pub body_large : (n : ℕ) → limits head < 2 ^ 64 - 1 → head.framing ≡ framed.Length n → limits head < n → request_of limits bytes ≡ Declined 413 head
  body_large n below is large =
      by_begin (at (room (limits head)) state.TooLarge) (ap (λ (f : Framing). begin f (limits head)) is ∙ begin_large (limits head) n below large)
      ∙ ap (λ (s : Standing). bodied head (answer_from s.state) (data_in (at (room (limits head)) state.TooLarge) rest)) (over_after (at (room (limits head)) state.TooLarge) rest refl)

  body_within : limits head < 2 ^ 64 - 1 → (content : List ℕ) → request_of limits bytes ≡ Complete head content → length content ≤ limits head
  body_within below content is = by head.framing refl
    where
      large : (n : ℕ) → nat_lt (limits head) n ≡ true → limits head < n
      large n above = grind (arith, nat_tests, above)

      stated : (n : ℕ) (enough : Bool) → nat_le n (length rest) ≡ enough → n ≤ limits head → head.framing ≡ framed.Length n → length content ≤ limits head
      stated n true came le framing =
          let inside : n ≤ length rest = grind (arith, nat_tests, came) in
          let same : take n rest ≡ content = cc ((body_stated n framing le inside).0, is) in
          omega (arith, ap length same, length-take n rest, le)
      stated n false came le framing =
          let short : length rest < n = grind (arith, nat_tests, came) in
          absurd (cc (body_short n framing le short, is))

      by_length : (n : ℕ) (above : Bool) → nat_lt (limits head) n ≡ above → head.framing ≡ framed.Length n → length content ≤ limits head
      by_length n true above framing = absurd (cc (body_large n below framing (large n above), is))
      by_length n false above framing = stated n (nat_le n (length rest)) refl (grind (arith, nat_tests, above)) framing

      by : (f : Framing) → head.framing ≡ f → length content ≤ limits head
      by framed.None framing =
          let none : [] ≡ content = cc ((body_none framing).0, is) in
          omega (arith, ap length none)
      by (framed.Length n) framing = by_length n (nat_lt (limits head) n) refl framing
      by framed.Chunked framing =
          let same : data_in (begin framed.Chunked (limits head)) rest ≡ content = ap (λ (f : Framing). data_in (begin f (limits head)) rest) (sym framing) ∙ complete_content limits bytes head content rest front is in
          omega (arith, ap length same, ap (λ (o : Option ℕ). length (data_in (at o (state.Size 0 0)) rest)) (limited (limits head) below), chunks_within (limits head) rest)

-- the reply begins with what its client is told first
pub continue_first : (world : World) (bytes rest : List ℕ) (head : Head) → front_of bytes ≡ HasHead head rest → (k : ℕ) → IsPrefix (continue_of (limit_for world) head) (reply world k (request_of (limit_for world) bytes)).bytes
continue_first world bytes rest head front k =
    let h = headed_begins world k head rest in
    (h.0, sym (ap (λ (r : Request). (reply world k r).bytes) (front_headed (limit_for world) bytes head rest front) ∙ h.1))

-- no body carries more than its limit
pub content_within : (limits : Limits) (bytes : List ℕ) (head : Head) (content : List ℕ) → limits head < 2 ^ 64 - 1 → request_of limits bytes ≡ Complete head content → length content ≤ limits head
content_within limits bytes head content below is =
    let f = complete_front limits bytes head content is in
    body_within limits bytes f.0 head f.1 below content is

-- ---- when a client is told to go on

abbrev continue_line : List ℕ
continue_line = codes "HTTP/1.1 100 Continue" ++ 13 ∷ 10 ∷ 13 ∷ 10 ∷ []

pub continue_asked : (limits : Limits) (head : Head) → head.expect ≡ true → is_accepted head.framing (limits head) ≡ true → continue_of limits head ≡ continue_line
continue_asked limits head asks takes = (λ i. if asks i && takes i then continue_line else [])

pub continue_unasked : (limits : Limits) (head : Head) → head.expect ≡ false → continue_of limits head ≡ []
continue_unasked limits head asks = ap (λ (t : Bool). if t && is_accepted head.framing (limits head) then continue_line else []) asks

-- HTTP/1.0 has no such reply
pub continue_old : (limits : Limits) (bytes rest : List ℕ) (head : Head) → front_of bytes ≡ HasHead head rest → head.minor ≡ 0 → continue_of limits head ≡ []
continue_old limits bytes rest head front old =
    let read = front_read bytes head rest front in
    continue_unasked limits head ((options_so (take read.0 bytes) head read.1).1 ∙ ap (λ (minor : ℕ). expects minor head.fields) old)

-- for want of a body that is accepted
continue_refused : (limits : Limits) (head : Head) → is_accepted head.framing (limits head) ≡ false → continue_of limits head ≡ []
continue_refused limits head none = ap (λ (t : Bool). if head.expect && t then continue_line else []) none ∙ by head.expect
  where
    by : (t : Bool) → (if t && false then continue_line else []) ≡ []
    by true = refl
    by false = refl

pub continue_bodiless : (limits : Limits) (head : Head) → head.framing ≡ framed.None → continue_of limits head ≡ []
continue_bodiless limits head is = continue_refused limits head (ap (λ (f : Framing). is_accepted f (limits head)) is)

pub continue_large : (limits : Limits) (head : Head) (n : ℕ) → head.framing ≡ framed.Length n → limits head < n → continue_of limits head ≡ []
continue_large limits head n is large = continue_refused limits head (ap (λ (f : Framing). is_accepted f (limits head)) is ∙ none)
  where
    none : (nat_lt 0 n && nat_le n (limits head)) ≡ false
    none = grind (arith, nat_tests, large)
