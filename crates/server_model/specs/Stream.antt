-- All that a client is to get, and how far it got: plain functions of its replies and of how many bytes it took.
use Rattle.std.specs.Prelude.{◌≡◌, ℕ, zero, suc, ◌+◌, ◌-◌, nat_le, List, [], ◌∷◌, ◌++◌, length, drop, Bool, true, false, not, ◌&&◌, if◌then◌else◌}
use Rattle.server_model.specs.Request.{Limits, requests, rest_of}
use Rattle.server_model.specs.World.{World}
use Rattle.server_model.specs.Settings.{limit_for}
use Rattle.server_model.specs.Reply.{Extent, Growing, Whole, Reply, no_reply, replies}

abbrev pub IsPrefix : List ℕ → List ℕ → Type 0
IsPrefix xs ys = (rest : List ℕ) × (xs ++ rest ≡ ys)

abbrev pub is_whole : Extent → Bool
is_whole Growing = false
is_whole Whole = true

-- a further reply follows it
abbrev pub is_followed : Reply → Bool
is_followed r = is_whole r.extent && not r.last

-- the replies, joined up to and with the first that isn't whole or is the last
abbrev pub joined : List Reply → List ℕ
joined [] = []
joined (r ∷ rs) = if is_followed r then r.bytes ++ joined rs else r.bytes

-- that first one
abbrev pub final : List Reply → Reply
final [] = no_reply
final (r ∷ rs) = if is_followed r then final rs else r

-- where a client stands among its replies
pub record Place : Type 0 where
  pub number : ℕ
  pub reply : Reply
  -- how much of it was taken
  pub taken : ℕ

-- where n bytes of replies were taken, the first of which has number k: the first that isn't wholly taken
abbrev pub place : ℕ → ℕ → List Reply → Place
place k n [] = record { number = k; reply = no_reply; taken = n }
place k n (r ∷ rs) = if is_followed r && nat_le (length r.bytes) n then place (k + 1) (n - length r.bytes) rs else record { number = k; reply = r; taken = n }

-- what is still to come of that reply
abbrev pub remainder : Place → List ℕ
remainder p = drop p.taken p.reply.bytes

-- the first k replies are followed, and joined they are these bytes
abbrev pub Passed : ℕ → List Reply → List ℕ → Type 0
Passed zero rs bytes = bytes ≡ []
Passed (suc k) [] bytes = ⊥
Passed (suc k) (r ∷ rs) bytes = (is_followed r ≡ true) × ((rest : List ℕ) × (bytes ≡ r.bytes ++ rest) × Passed k rs rest)

-- reply k
abbrev pub reply_at : ℕ → List Reply → Reply
reply_at k [] = no_reply
reply_at zero (r ∷ rs) = r
reply_at (suc k) (r ∷ rs) = reply_at k rs

-- the bytes after k requests
abbrev pub left_after : Limits → ℕ → List ℕ → List ℕ
left_after limits zero bytes = bytes
left_after limits (suc k) bytes = left_after limits k (rest_of limits bytes)

-- the replies to all that came
abbrev pub replies_to : World → List ℕ → List Reply
replies_to world input = replies world 0 (requests (limit_for world) input)

abbrev pub stream_of : World → List ℕ → List ℕ
stream_of world input = joined (replies_to world input)
