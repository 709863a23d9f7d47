-- What a client was to get begins what it is to get later.
use Rattle.std.proofs.Common.{◌≡◌, ◌≢◌, ℕ, ◌+◌, ◌<◌, ◌≤◌, List, [], ◌∷◌, ◌++◌, length, Bool, true, false, ◌&&◌, if◌then◌else◌, refl, sym, ◌∙◌, ap, subst, arith, append_assoc, length-append, Some}
use Rattle.std.proofs.lemmas.List.{append-nil}
use Rattle.lt_world.specs.Acts.{input_of}
use Rattle.lt_world.specs.declared.files.FileCall.{FileCall}
use Rattle.lt_world.specs.declared.files.FileCall.TheVariants as call
use Rattle.lt_world.specs.Disk.{is_kind}
use Rattle.lt_world.specs.Trace.{Act, Accepted, Readable, Writable, Read, ReadEnd, NotYet, Failed, Wrote, Connect, Close}
use Rattle.server_model.specs.Settings.{settings_of, limit_for}
use Rattle.server_model.specs.Request.{Head, Request, Unfinished, Refused, Open, Declined, Complete, Limits, request_of, rest_of, is_complete, requests_within}
use Rattle.server_model.specs.World.{World, owner_at, has_failed_call, with_call}
use Rattle.server_model.specs.Plan.{Basis, course, basis_of, calls_in, calls_of}
use Rattle.server_model.specs.Reply.{continue_of, planned_reply, reply, replies}
use Rattle.server_model.specs.Stream.{IsPrefix, is_followed, joined, Passed, replies_to, stream_of}
use Rattle.server_model.specs.Client.{stream}
use Rattle.server_model.proofs.Requests.{is_complete_front, open_keeps, complete_grows, refused_grows, declined_grows, rest_grows}
use Rattle.server_model.proofs.Replying.{next_reply, followed_complete, headed_begins, following, lasts, passed_world, passed_stream}
use Rattle.server_model.proofs.Calls.{and_false, other_owner, unlogged}

pub same_prefix : (xs : List ℕ) → IsPrefix xs xs
same_prefix xs = ([], append-nil xs)

prefix_is : (xs ys : List ℕ) → ys ≡ xs → IsPrefix xs ys
prefix_is xs ys is = ([], append-nil xs ∙ sym is)

-- the same bytes in front of both
prefix_after : (front xs ys : List ℕ) → IsPrefix xs ys → IsPrefix (front ++ xs) (front ++ ys)
prefix_after front xs ys p = (p.0, append_assoc front xs p.0 ∙ ap (λ l. front ++ l) p.1)

prefix_then : (xs ys zs : List ℕ) → IsPrefix xs ys → IsPrefix ys zs → IsPrefix xs zs
prefix_then xs ys zs p q = (p.0 ++ q.0, sym (append_assoc xs p.0 q.0) ∙ ap (λ l. l ++ q.0) p.1 ∙ q.1)

abbrev said : World → ℕ → Request → List ℕ
said world k r = (reply world k r).bytes

module _ (limits : Limits) (bytes more : List ℕ) where
  complete_same : is_complete (request_of limits bytes) ≡ true → request_of limits (bytes ++ more) ≡ request_of limits bytes
  complete_same is =
      let c = is_complete_front limits bytes is in
      complete_grows limits bytes more c.0 c.1.0 c.1.1 ∙ sym c.1.1

module _ (bytes more : List ℕ) where
  -- what is said to a request goes on as it goes on
  pub reply_grows : (world : World) (k : ℕ) → IsPrefix (reply world k (request_of (limit_for world) bytes)).bytes (reply world k (request_of (limit_for world) (bytes ++ more))).bytes
  reply_grows world k = by (request_of (limit_for world) bytes) refl
    where
      same : request_of (limit_for world) (bytes ++ more) ≡ request_of (limit_for world) bytes → IsPrefix (said world k (request_of (limit_for world) bytes)) (said world k (request_of (limit_for world) (bytes ++ more)))
      same is = prefix_is (said world k (request_of (limit_for world) bytes)) (said world k (request_of (limit_for world) (bytes ++ more))) (ap (said world k) is)

      by : (r : Request) → request_of (limit_for world) bytes ≡ r → IsPrefix (said world k (request_of (limit_for world) bytes)) (said world k (request_of (limit_for world) (bytes ++ more)))
      by Unfinished is = (said world k (request_of (limit_for world) (bytes ++ more)), ap (λ r. said world k r ++ said world k (request_of (limit_for world) (bytes ++ more))) is)
      by (Refused status) is = same (refused_grows (limit_for world) bytes more status is ∙ sym is)
      by (Open head) is =
          let o = open_keeps (limit_for world) bytes more head is in
          let h = headed_begins world k head (o.0 ++ more) in
          (h.0, ap (λ r. said world k r ++ h.0) is ∙ sym (ap (said world k) o.2 ∙ h.1))
      by (Declined status head) is = same (declined_grows (limit_for world) bytes more status head is ∙ sym is)
      by (Complete head content) is = same (complete_grows (limit_for world) bytes more head content is ∙ sym is)

module _ (world : World) where
  abbrev all_of : ℕ → List ℕ → List ℕ → List ℕ
  all_of j fuel bytes = joined (replies world j (requests_within (limit_for world) fuel bytes))

  -- a reply that isn't followed ends what is joined
  alone : (j : ℕ) (fuel bytes : List ℕ) → is_followed (reply world j (request_of (limit_for world) bytes)) ≡ false → all_of j fuel bytes ≡ (reply world j (request_of (limit_for world) bytes)).bytes
  alone j [] bytes is = ap (λ t. if t then (reply world j (request_of (limit_for world) bytes)).bytes ++ [] else (reply world j (request_of (limit_for world) bytes)).bytes) is
  alone j (b ∷ fuel) bytes is = ap (λ t. if t then (reply world j (request_of (limit_for world) bytes)).bytes ++ joined (replies world (j + 1) (if is_complete (request_of (limit_for world) bytes) then requests_within (limit_for world) fuel (rest_of (limit_for world) bytes) else [])) else (reply world j (request_of (limit_for world) bytes)).bytes) is

  -- and after one that is followed the next come
  follows : (j b : ℕ) (fuel bytes : List ℕ) → is_followed (reply world j (request_of (limit_for world) bytes)) ≡ true → all_of j (b ∷ fuel) bytes ≡ (reply world j (request_of (limit_for world) bytes)).bytes ++ all_of (j + 1) fuel (rest_of (limit_for world) bytes)
  follows j b fuel bytes is =
      ap (λ t. if t then (reply world j (request_of (limit_for world) bytes)).bytes ++ joined (replies world (j + 1) (if is_complete (request_of (limit_for world) bytes) then requests_within (limit_for world) fuel (rest_of (limit_for world) bytes) else [])) else (reply world j (request_of (limit_for world) bytes)).bytes) is
      ∙ ap (λ rs. (reply world j (request_of (limit_for world) bytes)).bytes ++ joined rs) (following world j fuel bytes is)

  -- all begins with the first reply
  begins : (j : ℕ) (fuel bytes : List ℕ) → IsPrefix (reply world j (request_of (limit_for world) bytes)).bytes (all_of j fuel bytes)
  begins j [] bytes = by (is_followed (reply world j (request_of (limit_for world) bytes)))
    where
      by : (t : Bool) → IsPrefix (reply world j (request_of (limit_for world) bytes)).bytes (if t then (reply world j (request_of (limit_for world) bytes)).bytes ++ [] else (reply world j (request_of (limit_for world) bytes)).bytes)
      by true = ([], refl)
      by false = same_prefix (reply world j (request_of (limit_for world) bytes)).bytes
  begins j (b ∷ fuel) bytes = by (joined (replies world (j + 1) (if is_complete (request_of (limit_for world) bytes) then requests_within (limit_for world) fuel (rest_of (limit_for world) bytes) else []))) (is_followed (reply world j (request_of (limit_for world) bytes)))
    where
      by : (later : List ℕ) (t : Bool) → IsPrefix (reply world j (request_of (limit_for world) bytes)).bytes (if t then (reply world j (request_of (limit_for world) bytes)).bytes ++ later else (reply world j (request_of (limit_for world) bytes)).bytes)
      by later true = (later, refl)
      by later false = same_prefix (reply world j (request_of (limit_for world) bytes)).bytes

  ends : (j : ℕ) (fuel long bytes more : List ℕ) → is_followed (reply world j (request_of (limit_for world) bytes)) ≡ false → IsPrefix (all_of j fuel bytes) (all_of j long (bytes ++ more))
  ends j fuel long bytes more is =
      subst (λ l. IsPrefix l (all_of j long (bytes ++ more))) (sym (alone j fuel bytes is))
      (prefix_then (reply world j (request_of (limit_for world) bytes)).bytes (reply world j (request_of (limit_for world) (bytes ++ more))).bytes (all_of j long (bytes ++ more)) (reply_grows bytes more world j) (begins j long (bytes ++ more)))

  grown : (j : ℕ) (fuel long bytes more : List ℕ) → length bytes ≤ length fuel → length (bytes ++ more) ≤ length long → IsPrefix (all_of j fuel bytes) (all_of j long (bytes ++ more))
  grown j [] long bytes more enough more_enough = by (is_followed (reply world j (request_of (limit_for world) bytes))) refl
    where
      by : (t : Bool) → is_followed (reply world j (request_of (limit_for world) bytes)) ≡ t → IsPrefix (all_of j [] bytes) (all_of j long (bytes ++ more))
      by true is = absurd (omega (arith, enough, lasts world j bytes is))
      by false is = ends j [] long bytes more is
  grown j (b ∷ fuel) [] bytes more enough more_enough = by (is_followed (reply world j (request_of (limit_for world) bytes))) refl
    where
      by : (t : Bool) → is_followed (reply world j (request_of (limit_for world) bytes)) ≡ t → IsPrefix (all_of j (b ∷ fuel) bytes) (all_of j [] (bytes ++ more))
      by true is = absurd (omega (arith, more_enough, length-append bytes more, lasts world j bytes is))
      by false is = ends j (b ∷ fuel) [] bytes more is
  grown j (b ∷ fuel) (c ∷ long) bytes more enough more_enough = by (λ one two. grown (j + 1) fuel long (rest_of (limit_for world) bytes) more one two) (is_followed (reply world j (request_of (limit_for world) bytes))) refl
    where
      by : (length (rest_of (limit_for world) bytes) ≤ length fuel → length (rest_of (limit_for world) bytes ++ more) ≤ length long → IsPrefix (all_of (j + 1) fuel (rest_of (limit_for world) bytes)) (all_of (j + 1) long (rest_of (limit_for world) bytes ++ more)))
          → (t : Bool) → is_followed (reply world j (request_of (limit_for world) bytes)) ≡ t → IsPrefix (all_of j (b ∷ fuel) bytes) (all_of j (c ∷ long) (bytes ++ more))
      by next false is = ends j (b ∷ fuel) (c ∷ long) bytes more is
      by next true is =
          let complete : is_complete (request_of (limit_for world) bytes) ≡ true = followed_complete world j (request_of (limit_for world) bytes) is in
          let short : length (rest_of (limit_for world) bytes) < length bytes = lasts world j bytes is in
          let rest : IsPrefix (all_of (j + 1) fuel (rest_of (limit_for world) bytes)) (all_of (j + 1) long (rest_of (limit_for world) bytes ++ more)) =
          next (omega (arith, enough, short)) (omega (arith, more_enough, short, length-append bytes more, length-append (rest_of (limit_for world) bytes) more)) in
          let same : request_of (limit_for world) (bytes ++ more) ≡ request_of (limit_for world) bytes = complete_same (limit_for world) bytes more complete in
          let still : is_followed (reply world j (request_of (limit_for world) (bytes ++ more))) ≡ true = ap (λ (r : Request). is_followed (reply world j r)) same ∙ is in
          let after : all_of j (c ∷ long) (bytes ++ more) ≡ (reply world j (request_of (limit_for world) bytes)).bytes ++ all_of (j + 1) long (rest_of (limit_for world) bytes ++ more) =
          follows j c long (bytes ++ more) still ∙ (λ i. (reply world j (same i)).bytes ++ all_of (j + 1) long (rest_grows (limit_for world) bytes more complete i)) in
          let p = prefix_after (reply world j (request_of (limit_for world) bytes)).bytes (all_of (j + 1) fuel (rest_of (limit_for world) bytes)) (all_of (j + 1) long (rest_of (limit_for world) bytes ++ more)) rest in
          (p.0, ap (λ l. l ++ p.0) (follows j b fuel bytes is) ∙ p.1 ∙ sym after)

-- further bytes
pub stream_more : (world : World) (input bytes : List ℕ) → IsPrefix (stream_of world input) (stream_of world (input ++ bytes))
stream_more world input bytes = grown world 0 input (input ++ bytes) input bytes (omega arith) (omega arith)

-- a further act
pub stream_act : (world : World) (act : Act) (acts : List Act) → IsPrefix (stream world acts) (stream world (act ∷ acts))
stream_act world (Accepted peer local) acts = same_prefix (stream world acts)
stream_act world Readable acts = same_prefix (stream world acts)
stream_act world Writable acts = same_prefix (stream world acts)
stream_act world (Read asked bytes) acts = stream_more world (input_of acts) bytes
stream_act world ReadEnd acts = same_prefix (stream world acts)
stream_act world (NotYet way) acts = same_prefix (stream world acts)
stream_act world (Failed way) acts = same_prefix (stream world acts)
stream_act world (Wrote offered bytes) acts = same_prefix (stream world acts)
stream_act world (Connect owner to link) acts = same_prefix (stream world acts)
stream_act world (Close e) acts = same_prefix (stream world acts)

module _ (world : World) (made : FileCall) (k j : ℕ) (failed : Bool) (apart : k ≢ j) where
  failed_other : (what : FileCall) (nth : ℕ) → has_failed_call (with_call made k failed world) j what nth ≡ has_failed_call world j what nth
  failed_other what nth = unlogged what (owner_at world j) nth (record { kind = made; owner = owner_at world k; failed = failed }) world.calls
      (ap (λ t. is_kind made what && t) (other_owner (owner_at world k) world.client j apart) ∙ and_false (is_kind made what))

  basis_other : (head : Head) → basis_of (with_call made k failed world) j head ≡ basis_of world j head
  basis_other head = (λ i. record { blocks = world.site.blocks; arrival = world.side.arrival; head = head; tree = world.tree; find_fails = λ n. failed_other call.Find n i; open_fails = failed_other call.Open 0 i })

  -- a call for another request
  pub calls_other : (head : Head) (what : FileCall) → calls_of (with_call made k failed world) j head what ≡ calls_of world j head what
  calls_other head what = ap (λ (b : Basis). calls_in (course b) what) (basis_other head)

  pub reply_other : (r : Request) → reply (with_call made k failed world) j r ≡ reply world j r
  reply_other Unfinished = refl
  reply_other (Refused status) = refl
  reply_other (Open head) = refl
  reply_other (Declined status head) = refl
  reply_other (Complete head content) = ap (λ (b : Basis). planned_reply j head (continue_of (limit_for world) head) (course b).outcome) (basis_other head)

-- a call that comes as its request is planned
pub planned_stays : (world : World) (what : FileCall) (k : ℕ) (failed : Bool) (input output : List ℕ) → Passed k (replies_to world input) output → IsPrefix output (stream_of (with_call what k failed world) input)
planned_stays world what k failed input output passed =
    let later : World = with_call what k failed world in
    let still = passed_world world input k output passed later refl (λ j r below. reply_other world what k j failed (λ e. absurd (omega (arith, e, below))) r) in
    let s = passed_stream later input k output still in
    (joined (next_reply later input k ∷ s.0), sym s.1)
