-- Where k replies were passed: the reply that is next, and what is known of the stream, the place and the bytes from there on.
use Rattle.std.proofs.Common.{◌≡◌, ℕ, zero, suc, ◌+◌, ◌-◌, ◌<◌, ◌≤◌, List, [], ◌∷◌, ◌++◌, length, drop, true, false, ◌&&◌, nat_le, if◌then◌else◌, refl, sym, ◌∙◌, ap, subst, arith, add-one, append_assoc, length-append}
use Rattle.std.specs.Prelude.{Some, None, Result, Ok, Err}
use Rattle.std.proofs.lemmas.Bool.{false≢true}
use Rattle.std.proofs.lemmas.Bool.Decides.{nat_tests}
use Rattle.std.proofs.lemmas.List.{append-nil}
use Rattle.lt_http_body.specs.declared.body.BodyState.{BodyState}
use Rattle.lt_http_body.specs.declared.body.BodyState.TheVariants as body
use Rattle.lt_http_body.specs.declared.body.BodyRefusal.{BodyRefusal}
use Rattle.lt_http_body.specs.Standings.{answer_from}
use Rattle.lt_http_body.specs.Reading.{standing_after, data_in}
use Rattle.server_model.specs.Settings.{settings_of, limit_for, is_last_request}
use Rattle.server_model.specs.Request.{Head, Request, Unfinished, Refused, Open, Declined, Complete, bodied, begin_of, headed, request_of, rest_of, is_complete, Limits, requests_within}
use Rattle.server_model.specs.World.{World}
use Rattle.server_model.specs.Plan.{plan, is_head}
use Rattle.server_model.specs.Reply.{Growing, Reply, refusal_bytes, continue_of, final_bytes, reply, replies}
use Rattle.server_model.specs.Stream.{is_followed, joined, final, place, Passed, reply_at, left_after, replies_to, stream_of}
use Rattle.server_model.specs.Serves.{told_first}
use Rattle.server_model.proofs.Requests.{complete_grows, rest_grows, rest_shorter}

abbrev pub next_request : Limits → List ℕ → ℕ → Request
next_request limits input k = request_of limits (left_after limits k input)

abbrev pub next_reply : World → List ℕ → ℕ → Reply
next_reply world input k = reply world k (next_request (limit_for world) input k)

left_suc : (limits : Limits) (k : ℕ) (bytes : List ℕ) → left_after limits (suc k) bytes ≡ rest_of limits (left_after limits k bytes)
left_suc limits zero bytes = refl
left_suc limits (suc k) bytes = left_suc limits k (rest_of limits bytes)

pub left_next : (limits : Limits) (k : ℕ) (bytes : List ℕ) → left_after limits (k + 1) bytes ≡ rest_of limits (left_after limits k bytes)
left_next limits k bytes = ap (λ (n : ℕ). left_after limits n bytes) (add-one k) ∙ left_suc limits k bytes

-- only a complete request has a reply that is followed
pub followed_complete : (world : World) (k : ℕ) (r : Request) → is_followed (reply world k r) ≡ true → is_complete r ≡ true
followed_complete world k Unfinished is = is
followed_complete world k (Refused status) is = is
followed_complete world k (Open head) is = is
followed_complete world k (Declined status head) is = is
followed_complete world k (Complete head content) is = refl

-- a request whose reply grows isn't complete
pub growing_incomplete : (world : World) (k : ℕ) (r : Request) → (reply world k r).extent ≡ Growing → is_complete r ≡ false
growing_incomplete world k Unfinished is = refl
growing_incomplete world k (Refused status) is = refl
growing_incomplete world k (Open head) is = refl
growing_incomplete world k (Declined status head) is = refl
growing_incomplete world k (Complete head content) is = cc (is)

-- and nothing follows that reply
pub growing_alone : (world : World) (k : ℕ) (r : Request) → (reply world k r).extent ≡ Growing → is_followed (reply world k r) ≡ false
growing_alone world k Unfinished is = refl
growing_alone world k (Refused status) is = refl
growing_alone world k (Open head) is = refl
growing_alone world k (Declined status head) is = refl
growing_alone world k (Complete head content) is = cc (is)

-- it isn't the last
pub growing_goes_on : (world : World) (k : ℕ) (r : Request) → (reply world k r).extent ≡ Growing → (reply world k r).last ≡ false
growing_goes_on world k Unfinished is = refl
growing_goes_on world k (Refused status) is = cc (is)
growing_goes_on world k (Open head) is = refl
growing_goes_on world k (Declined status head) is = cc (is)
growing_goes_on world k (Complete head content) is = cc (is)

-- a reply whose request isn't complete is followed by none
pub incomplete_alone : (world : World) (k : ℕ) (r : Request) → is_complete r ≡ false → is_followed (reply world k r) ≡ false
incomplete_alone world k Unfinished is = refl
incomplete_alone world k (Refused status) is = refl
incomplete_alone world k (Open head) is = refl
incomplete_alone world k (Declined status head) is = refl
incomplete_alone world k (Complete head content) is = absurd (false≢true (sym is))

-- ---- what is told first

-- each reply begins with it
pub told_begins : (world : World) (k : ℕ) (r : Request) → (rest : List ℕ) × ((reply world k r).bytes ≡ told_first (limit_for world) r ++ rest)
told_begins world k Unfinished = ([], refl)
told_begins world k (Refused status) = (refusal_bytes (settings_of world None) 1 status false, refl)
told_begins world k (Open head) = ([], sym (append-nil (continue_of (limit_for world) head)))
told_begins world k (Declined status head) = (refusal_bytes (settings_of world (Some head)) head.minor status (is_head head.method), refl)
told_begins world k (Complete head content) = let o = plan world k head in (final_bytes head (is_last_request o.settings.request_limit k head) o, refl)

pub told_open : (world : World) (k : ℕ) (head : Head) → (reply world k (Open head)).bytes ≡ told_first (limit_for world) (Open head)
told_open world k head = refl

-- whatever is behind the head
pub told_headed : (limits : Limits) (head : Head) (bytes : List ℕ) → told_first limits (headed limits head bytes) ≡ continue_of limits head
told_headed limits head bytes = by (answer_from (standing_after (begin_of limits head) bytes).state) (data_in (begin_of limits head) bytes)
  where
    by : (a : Result BodyState BodyRefusal) (content : List ℕ) → told_first limits (bodied head a content) ≡ continue_of limits head
    by (Ok body.NeedMore) content = refl
    by (Ok body.Done) content = refl
    by (Err e) content = refl

pub headed_begins : (world : World) (k : ℕ) (head : Head) (bytes : List ℕ) → (rest : List ℕ) × ((reply world k (headed (limit_for world) head bytes)).bytes ≡ continue_of (limit_for world) head ++ rest)
headed_begins world k head bytes =
    let t = told_begins world k (headed (limit_for world) head bytes) in
    (t.0, t.1 ∙ ap (λ l. l ++ t.0) (told_headed (limit_for world) head bytes))

-- ---- replies alone

-- the replies from k on
module _ (r : Reply) (rest : List Reply) where
  at_passed : (k : ℕ) (rs : List Reply) → drop k rs ≡ r ∷ rest → reply_at k rs ≡ r
  at_passed zero [] is = absurd (cc (is))
  at_passed zero (s ∷ rs) is = cc (is)
  at_passed (suc k) [] is = absurd (cc (is))
  at_passed (suc k) (s ∷ rs) is = at_passed k rs is

  joined_passed : (k : ℕ) (rs : List Reply) (before : List ℕ) → Passed k rs before → drop k rs ≡ r ∷ rest → joined rs ≡ before ++ joined (r ∷ rest)
  joined_passed zero rs before passed is = ap joined is ∙ ap (λ l. l ++ joined (r ∷ rest)) (sym passed)
  joined_passed (suc k) [] before passed is = absurd passed
  joined_passed (suc k) (s ∷ rs) before passed is =
      ap (λ t. if t then s.bytes ++ joined rs else s.bytes) passed.0
      ∙ ap (λ l. s.bytes ++ l) (joined_passed k rs passed.1.0 passed.1.2 is)
      ∙ sym (append_assoc s.bytes passed.1.0 (joined (r ∷ rest)))
      ∙ ap (λ l. l ++ joined (r ∷ rest)) (sym passed.1.1)

  final_passed : (k : ℕ) (rs : List Reply) (before : List ℕ) → Passed k rs before → drop k rs ≡ r ∷ rest → final rs ≡ final (r ∷ rest)
  final_passed zero rs before passed is = ap final is
  final_passed (suc k) [] before passed is = absurd passed
  final_passed (suc k) (s ∷ rs) before passed is = ap (λ t. if t then final rs else s) passed.0 ∙ final_passed k rs passed.1.0 passed.1.2 is

  place_passed : (k n t m : ℕ) (rs : List Reply) (before : List ℕ) → Passed k rs before → drop k rs ≡ r ∷ rest → n + k ≡ m → place n (length before + t) rs ≡ place m t (r ∷ rest)
  place_passed zero n t m rs before passed is count =
      let none : length before + t ≡ t = omega (arith, ap length passed) in
      let same : n ≡ m = omega (arith, count) in
      (λ i. place (same i) (none i) (is i))
  place_passed (suc k) n t m [] before passed is count = absurd passed
  place_passed (suc k) n t m (s ∷ rs) before passed is count =
      let len : length before ≡ length s.bytes + length passed.1.0 = omega (arith, ap length passed.1.1, length-append s.bytes passed.1.0) in
      let over : nat_le (length s.bytes) (length before + t) ≡ true = grind (arith, nat_tests, len) in
      let left : length before + t - length s.bytes ≡ length passed.1.0 + t = omega (arith, len) in
      (λ i. if passed.0 i && over i then place (n + 1) (left i) rs else record { number = n; reply = s; taken = length before + t })
      ∙ place_passed k (n + 1) t m rs passed.1.0 passed.1.2 is (omega (arith, count))

  next_passed : (k : ℕ) (rs : List Reply) (before : List ℕ) → Passed k rs before → drop k rs ≡ r ∷ rest → is_followed r ≡ true → Passed (suc k) rs (before ++ r.bytes)
  next_passed zero rs before passed is followed =
      subst (λ (l : List Reply). Passed (suc zero) l (before ++ r.bytes)) (sym is) (followed, ([], ap (λ l. l ++ r.bytes) passed ∙ sym (append-nil r.bytes), refl))
  next_passed (suc k) [] before passed is followed = absurd passed
  next_passed (suc k) (s ∷ rs) before passed is followed =
      (passed.0, (passed.1.0 ++ r.bytes, ap (λ l. l ++ r.bytes) passed.1.1 ∙ append_assoc s.bytes passed.1.0 r.bytes, next_passed k rs passed.1.0 passed.1.2 is followed))

unique_passed : (k : ℕ) (rs : List Reply) (a b : List ℕ) → Passed k rs a → Passed k rs b → a ≡ b
unique_passed zero rs a b one two = one ∙ sym two
unique_passed (suc k) [] a b one two = absurd one
unique_passed (suc k) (r ∷ rs) a b one two = one.1.1 ∙ ap (λ l. r.bytes ++ l) (unique_passed k rs one.1.0 two.1.0 one.1.2 two.1.2) ∙ sym two.1.1

-- ---- replies to bytes

-- the first k requests are complete, the first of which has number j, and their replies joined are these bytes
abbrev pub Answered : World → ℕ → ℕ → List ℕ → List ℕ → Type 0
Answered world j zero bytes before = before ≡ []
Answered world j (suc k) bytes before = (is_followed (reply world j (request_of (limit_for world) bytes)) ≡ true) × ((rest : List ℕ) × (before ≡ (reply world j (request_of (limit_for world) bytes)).bytes ++ rest) × Answered world (j + 1) k (rest_of (limit_for world) bytes) rest)

module _ (world : World) where
  -- what comes after a reply that is followed
  pub following : (j : ℕ) (fuel bytes : List ℕ) → is_followed (reply world j (request_of (limit_for world) bytes)) ≡ true
      → replies world (j + 1) (if is_complete (request_of (limit_for world) bytes) then requests_within (limit_for world) fuel (rest_of (limit_for world) bytes) else []) ≡ replies world (j + 1) (requests_within (limit_for world) fuel (rest_of (limit_for world) bytes))
  following j fuel bytes is = ap (λ t. replies world (j + 1) (if t then requests_within (limit_for world) fuel (rest_of (limit_for world) bytes) else [])) (followed_complete world j (request_of (limit_for world) bytes) is)

  -- then the next has less
  pub lasts : (j : ℕ) (bytes : List ℕ) → is_followed (reply world j (request_of (limit_for world) bytes)) ≡ true → length (rest_of (limit_for world) bytes) < length bytes
  lasts j bytes is = rest_shorter (limit_for world) bytes (followed_complete world j (request_of (limit_for world) bytes) is)

  -- the list of requests is long enough, so what stands there is by bytes alone
  answered : (k j : ℕ) (fuel bytes before : List ℕ) → length bytes ≤ length fuel → Passed k (replies world j (requests_within (limit_for world) fuel bytes)) before → Answered world j k bytes before
  answered zero j fuel bytes before enough passed = passed
  answered (suc k) j [] bytes before enough passed = absurd (omega (arith, enough, lasts j bytes passed.0))
  answered (suc k) j (b ∷ fuel) bytes before enough passed =
      (passed.0, (passed.1.0, passed.1.1, answered k (j + 1) fuel (rest_of (limit_for world) bytes) passed.1.0 (omega (arith, enough, lasts j bytes passed.0)) (subst (λ (rs : List Reply). Passed k rs passed.1.0) (following j fuel bytes passed.0) passed.1.2)))

  passes : (k j : ℕ) (fuel bytes before : List ℕ) → length bytes ≤ length fuel → Answered world j k bytes before → Passed k (replies world j (requests_within (limit_for world) fuel bytes)) before
  passes zero j fuel bytes before enough is = is
  passes (suc k) j [] bytes before enough is = absurd (omega (arith, enough, lasts j bytes is.0))
  passes (suc k) j (b ∷ fuel) bytes before enough is =
      (is.0, (is.1.0, is.1.1, subst (λ (rs : List Reply). Passed k rs is.1.0) (sym (following j fuel bytes is.0)) (passes k (j + 1) fuel (rest_of (limit_for world) bytes) is.1.0 (omega (arith, enough, lasts j bytes is.0)) is.1.2)))

  -- the replies from k on
  reached : (k j m : ℕ) (fuel bytes before : List ℕ) → length bytes ≤ length fuel → j + k ≡ m → Answered world j k bytes before
      → (rest : List Reply) × (drop k (replies world j (requests_within (limit_for world) fuel bytes)) ≡ reply world m (request_of (limit_for world) (left_after (limit_for world) k bytes)) ∷ rest)
  reached zero j m [] bytes before enough count is = let same : j ≡ m = omega (arith, count) in ([], ap (λ (n : ℕ). reply world n (request_of (limit_for world) bytes) ∷ []) same)
  reached zero j m (b ∷ fuel) bytes before enough count is =
      let same : j ≡ m = omega (arith, count) in
      (replies world (j + 1) (if is_complete (request_of (limit_for world) bytes) then requests_within (limit_for world) fuel (rest_of (limit_for world) bytes) else []), ap (λ (n : ℕ). reply world n (request_of (limit_for world) bytes) ∷ replies world (j + 1) (if is_complete (request_of (limit_for world) bytes) then requests_within (limit_for world) fuel (rest_of (limit_for world) bytes) else [])) same)
  reached (suc k) j m [] bytes before enough count is = absurd (omega (arith, enough, lasts j bytes is.0))
  reached (suc k) j m (b ∷ fuel) bytes before enough count is =
      let next = reached k (j + 1) m fuel (rest_of (limit_for world) bytes) is.1.0 (omega (arith, enough, lasts j bytes is.0)) (omega (arith, count)) is.1.2 in
      (next.0, ap (drop k) (following j fuel bytes is.0) ∙ next.1)

  complete_at : (k j i : ℕ) (bytes before : List ℕ) → Answered world j k bytes before → i < k → is_complete (request_of (limit_for world) (left_after (limit_for world) i bytes)) ≡ true
  complete_at zero j i bytes before is below = absurd (omega (arith, below))
  complete_at (suc k) j zero bytes before is below = followed_complete world j (request_of (limit_for world) bytes) is.0
  complete_at (suc k) j (suc i) bytes before is below = complete_at k (j + 1) i (rest_of (limit_for world) bytes) is.1.0 is.1.2 (omega (arith, below))

  followed_at : (k j i m : ℕ) (bytes before : List ℕ) → j + i ≡ m → Answered world j k bytes before → i < k → is_followed (reply world m (request_of (limit_for world) (left_after (limit_for world) i bytes))) ≡ true
  followed_at zero j i m bytes before count is below = absurd (omega (arith, below))
  followed_at (suc k) j zero m bytes before count is below =
      let same : j ≡ m = omega (arith, count) in
      ap (λ (n : ℕ). is_followed (reply world n (request_of (limit_for world) bytes))) (sym same) ∙ is.0
  followed_at (suc k) j (suc i) m bytes before count is below = followed_at k (j + 1) i m (rest_of (limit_for world) bytes) is.1.0 (omega (arith, count)) is.1.2 (omega (arith, below))

  -- further bytes
  request_grows : (bytes more : List ℕ) (r : Request) → request_of (limit_for world) bytes ≡ r → is_complete r ≡ true → request_of (limit_for world) (bytes ++ more) ≡ request_of (limit_for world) bytes
  request_grows bytes more Unfinished at is = absurd (false≢true is)
  request_grows bytes more (Refused status) at is = absurd (false≢true is)
  request_grows bytes more (Open head) at is = absurd (false≢true is)
  request_grows bytes more (Declined status head) at is = absurd (false≢true is)
  request_grows bytes more (Complete head content) at is = complete_grows (limit_for world) bytes more head content at ∙ sym at

  answered_grows : (k j : ℕ) (bytes more before : List ℕ) → Answered world j k bytes before → Answered world j k (bytes ++ more) before
  answered_grows zero j bytes more before is = is
  answered_grows (suc k) j bytes more before is =
      let complete : is_complete (request_of (limit_for world) bytes) ≡ true = followed_complete world j (request_of (limit_for world) bytes) is.0 in
      let same : reply world j (request_of (limit_for world) (bytes ++ more)) ≡ reply world j (request_of (limit_for world) bytes) = ap (reply world j) (request_grows bytes more (request_of (limit_for world) bytes) refl complete) in (
        ap is_followed same ∙ is.0,
        (
          is.1.0,
          is.1.1 ∙ ap (λ (r : Reply). r.bytes ++ is.1.0) (sym same),
          subst (λ l. Answered world (j + 1) k l is.1.0) (sym (rest_grows (limit_for world) bytes more complete)) (answered_grows k (j + 1) (rest_of (limit_for world) bytes) more is.1.0 is.1.2),
        ),
      )

  left_more : (k j : ℕ) (bytes more before : List ℕ) → Answered world j k bytes before → left_after (limit_for world) k (bytes ++ more) ≡ left_after (limit_for world) k bytes ++ more
  left_more zero j bytes more before is = refl
  left_more (suc k) j bytes more before is =
      ap (left_after (limit_for world) k) (rest_grows (limit_for world) bytes more (followed_complete world j (request_of (limit_for world) bytes) is.0)) ∙ left_more k (j + 1) (rest_of (limit_for world) bytes) more is.1.0 is.1.2

  answered_world : (other : World) (k j m : ℕ) (bytes before : List ℕ) → j + k ≡ m → limit_for other ≡ limit_for world → ((i : ℕ) (r : Request) → i < m → reply other i r ≡ reply world i r) → Answered world j k bytes before → Answered other j k bytes before
  answered_world other zero j m bytes before count limits same is = is
  answered_world other (suc k) j m bytes before count limits same is =
      let here : reply other j (request_of (limit_for other) bytes) ≡ reply world j (request_of (limit_for world) bytes) =
      ap (λ (l : Limits). reply other j (request_of l bytes)) limits ∙ same j (request_of (limit_for world) bytes) (omega (arith, count)) in
      let later : Answered other (j + 1) k (rest_of (limit_for world) bytes) is.1.0 = answered_world other k (j + 1) m (rest_of (limit_for world) bytes) is.1.0 (omega (arith, count)) limits same is.1.2 in
      (ap is_followed here ∙ is.0, (is.1.0, is.1.1 ∙ ap (λ (r : Reply). r.bytes ++ is.1.0) (sym here), subst (λ (l : Limits). Answered other (j + 1) k (rest_of l bytes) is.1.0) (sym limits) later))

-- ---- a client's replies

module _ (world : World) (input : List ℕ) (k : ℕ) (before : List ℕ) (passed : Passed k (replies_to world input) before) where
  pub by_bytes : Answered world 0 k input before
  by_bytes = answered world k 0 input input before (omega arith) passed

  -- the replies from k on
  from_here : (rest : List Reply) × (drop k (replies_to world input) ≡ next_reply world input k ∷ rest)
  from_here = reached world k 0 k input input before (omega arith) (omega arith) by_bytes

  pub passed_reply : reply_at k (replies_to world input) ≡ next_reply world input k
  passed_reply = at_passed (next_reply world input k) from_here.0 k (replies_to world input) from_here.1

  pub passed_stream : (rest : List Reply) × (stream_of world input ≡ before ++ joined (next_reply world input k ∷ rest))
  passed_stream = (from_here.0, joined_passed (next_reply world input k) from_here.0 k (replies_to world input) before passed from_here.1)

  pub passed_last : is_followed (next_reply world input k) ≡ false → stream_of world input ≡ before ++ (next_reply world input k).bytes
  passed_last alone = passed_stream.1 ∙ ap (λ t. before ++ (if t then (next_reply world input k).bytes ++ joined passed_stream.0 else (next_reply world input k).bytes)) alone

  pub passed_final : is_followed (next_reply world input k) ≡ false → final (replies_to world input) ≡ next_reply world input k
  passed_final alone = final_passed (next_reply world input k) from_here.0 k (replies_to world input) before passed from_here.1 ∙ ap (λ t. if t then final from_here.0 else next_reply world input k) alone

  pub passed_place : (t : ℕ) → (is_followed (next_reply world input k) && nat_le (length (next_reply world input k).bytes) t) ≡ false → place 0 (length before + t) (replies_to world input) ≡ record { number = k; reply = next_reply world input k; taken = t }
  passed_place t within =
      place_passed (next_reply world input k) from_here.0 k 0 t k (replies_to world input) before passed from_here.1 (omega arith)
      ∙ ap (λ b. if b then place (k + 1) (t - length (next_reply world input k).bytes) from_here.0 else record { number = k; reply = next_reply world input k; taken = t }) within

  pub passed_next : is_followed (next_reply world input k) ≡ true → Passed (k + 1) (replies_to world input) (before ++ (next_reply world input k).bytes)
  passed_next followed =
      subst (λ (n : ℕ). Passed n (replies_to world input) (before ++ (next_reply world input k).bytes)) (sym (add-one k))
      (next_passed (next_reply world input k) from_here.0 k (replies_to world input) before passed from_here.1 followed)

  -- further bytes
  pub passed_grows : (more : List ℕ) → Passed k (replies_to world (input ++ more)) before
  passed_grows more = passes world k 0 (input ++ more) (input ++ more) before (omega arith) (answered_grows world k 0 input more before by_bytes)

  pub left_grows : (more : List ℕ) → left_after (limit_for world) k (input ++ more) ≡ left_after (limit_for world) k input ++ more
  left_grows more = left_more world k 0 input more before by_bytes

  -- another world in which the replies before k are the same
  pub passed_world : (other : World) → limit_for other ≡ limit_for world → ((j : ℕ) (r : Request) → j < k → reply other j r ≡ reply world j r) → Passed k (replies_to other input) before
  passed_world other limits same = passes other k 0 input input before (omega arith) (answered_world world other k 0 k input before (omega arith) limits same by_bytes)

  pub passed_followed : (j : ℕ) → j < k → is_followed (next_reply world input j) ≡ true
  passed_followed j below = followed_at world k 0 j j input before (omega arith) by_bytes below

  pub passed_complete : (j : ℕ) → j < k → is_complete (next_request (limit_for world) input j) ≡ true
  passed_complete j below = complete_at world k 0 j input before by_bytes below

pub passed_unique : (world : World) (input : List ℕ) (k : ℕ) (a b : List ℕ) → Passed k (replies_to world input) a → Passed k (replies_to world input) b → a ≡ b
passed_unique world input k a b one two = unique_passed k (replies_to world input) a b one two
