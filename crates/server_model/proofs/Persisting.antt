-- Which reply is the last of its connection, and how many there are at most.
use Rattle.std.proofs.Common.{◌≡◌, ◌⊎◌, inl, inr, ℕ, zero, suc, ◌+◌, ◌<◌, ◌≤◌, List, take, Bool, true, false, ◌||◌, nat_le, refl, sym, ◌∙◌, ap, arith}
use Rattle.std.specs.Prelude.{not, Some, ◌++◌}
use Rattle.std.proofs.lemmas.Bool.{false≢true}
use Rattle.std.proofs.lemmas.Bool.Decides.{nat_tests}
use Rattle.http_head.specs.Options.{closes}
use Rattle.http_head.proofs.OptionLemmas.{options_so}
use Rattle.server_model.specs.Settings.{limit_for, is_reached, is_last_request}
use Rattle.server_model.specs.Request.{Head, Request, Unfinished, Refused, Open, Declined, Complete, Limits, request_of, rest_of}
use Rattle.server_model.specs.World.{World}
use Rattle.server_model.specs.Plan.{plan}
use Rattle.server_model.specs.Reply.{reply}
use Rattle.server_model.specs.Stream.{is_followed, Passed, left_after, replies_to}
use Rattle.server_model.proofs.Requests.{complete_front, front_read}
use Rattle.server_model.proofs.Replying.{Answered, by_bytes, passed_followed}

-- ---- which reply is the last

says_so : (limits : Limits) (bytes : List ℕ) (head : Head) (content : List ℕ) → request_of limits bytes ≡ Complete head content → head.close ≡ closes head.minor head.fields
says_so limits bytes head content is =
    let f = complete_front limits bytes head content is in
    let h = front_read bytes head f.0 f.1 in
    (options_so (take h.0 bytes) head h.1).0

-- the reply to a request is the last exactly where its head says so, or no further request may come
pub last_is : (world : World) (k : ℕ) (bytes : List ℕ) (head : Head) (content : List ℕ) → request_of (limit_for world) bytes ≡ Complete head content → (reply world k (Complete head content)).last ≡ (closes head.minor head.fields || is_reached (plan world k head).settings.request_limit k)
last_is world k bytes head content is = (λ i. says_so (limit_for world) bytes head content is i || is_reached (plan world k head).settings.request_limit k)

-- ---- how many replies

or_false : (a b : Bool) → (a || b) ≡ false → b ≡ false
or_false true b is = absurd (cc (is))
or_false false b is = is

not_last : (last : Bool) → not last ≡ true → last ≡ false
not_last true is = absurd (false≢true is)
not_last false is = refl

-- a reply that is followed isn't that to the last request, by the settings of its plan
followed_unreached : (world : World) (k : ℕ) (head : Head) (content : List ℕ) → is_followed (reply world k (Complete head content)) ≡ true → is_reached (plan world k head).settings.request_limit k ≡ false
followed_unreached world k head content is =
    let limit : ℕ = (plan world k head).settings.request_limit in
    or_false head.close (is_reached limit k) (not_last (is_last_request limit k head) is)

pub passed_unreached : (world : World) (input before : List ℕ) (k j : ℕ) (head : Head) (content : List ℕ) → Passed k (replies_to world input) before → j < k
    → request_of (limit_for world) (left_after (limit_for world) j input) ≡ Complete head content → is_reached (plan world j head).settings.request_limit j ≡ false
passed_unreached world input before k j head content passed below is = followed_unreached world j head content (ap (λ (r : Request). is_followed (reply world j r)) (sym is) ∙ passed_followed world input k before passed j below)

-- so fewer come than a limit which no request's own passes
module _ (world : World) (most : ℕ) (within : (j : ℕ) (head : Head) → (plan world j head).settings.request_limit ≤ most) where
  followed_below : (k : ℕ) (r : Request) → is_followed (reply world k r) ≡ true → k + 1 < most
  followed_below k Unfinished is = absurd (false≢true is)
  followed_below k (Refused status) is = absurd (false≢true is)
  followed_below k (Open head) is = absurd (false≢true is)
  followed_below k (Declined status head) is = absurd (false≢true is)
  followed_below k (Complete head content) is =
      let limit : ℕ = (plan world k head).settings.request_limit in
      let unreached : is_reached limit k ≡ false = followed_unreached world k head content is in
      let below : nat_le limit (k + 1) ≡ false = or_false (nat_le 4294967295 k) (nat_le limit (k + 1)) unreached in
      above limit (within k head) below
    where
      above : (limit : ℕ) → limit ≤ most → nat_le limit (k + 1) ≡ false → k + 1 < most
      above limit at_most below = grind (arith, nat_tests, at_most, below)

  answered_below : (j k : ℕ) (bytes before : List ℕ) → Answered world j k bytes before → (k ≡ 0) ⊎ (j + k < most)
  answered_below j zero bytes before is = inl refl
  answered_below j (suc k) bytes before is = by k (answered_below (j + 1) k (rest_of (limit_for world) bytes) is.1.0 is.1.2)
    where
      here : j + 1 < most
      here = followed_below j (request_of (limit_for world) bytes) is.0

      by : (n : ℕ) → (n ≡ 0) ⊎ (j + 1 + n < most) → (suc n ≡ 0) ⊎ (j + suc n < most)
      by n (inl none) = inr (omega (arith, none, here))
      by n (inr below) = inr (omega (arith, below))

  -- so many replies come at most
  pub passed_below : 0 < most → (input : List ℕ) (k : ℕ) (before : List ℕ) → Passed k (replies_to world input) before → k < most
  passed_below some input k before passed = by (answered_below 0 k input before (by_bytes world input k before passed))
    where
      by : (k ≡ 0) ⊎ (0 + k < most) → k < most
      by (inl none) = omega (arith, none, some)
      by (inr below) = omega (arith, below)
