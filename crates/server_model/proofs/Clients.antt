-- What what is kept for a client says by itself: where it rests, where its file is needed, and when what came is looked at.
use Rattle.std.proofs.Common.{◌≡◌, ℕ, ◌+◌, List, [], ◌∷◌, ◌++◌, length, drop, Bool, true, false, not, ◌||◌, Option, None, if◌then◌else◌, refl, sym, ◌∙◌, ap, append-nil}
use Rattle.std.proofs.Math.Seq.{drop-length}
use Rattle.std.specs.Prelude.{Result, Ok, Err}
use Rattle.lt_http_body.specs.declared.standing.Standing.{Standing}
use Rattle.lt_http_body.specs.declared.body.BodyState.{BodyState}
use Rattle.lt_http_body.specs.declared.body.BodyState.TheVariants as body
use Rattle.lt_http_body.specs.declared.body.BodyRefusal.{BodyRefusal}
use Rattle.lt_http_body.specs.Standings.{is_over, answer_from}
use Rattle.lt_http_body.specs.Reading.{standing_after, data_in, taken_in}
use Rattle.server_model.specs.Request.{Head, Request, Front, NoHead, BadHead, HasHead, front_of}
use Rattle.chunkqueue.specs.Items.{Item}
use Rattle.server_model.specs.Held.{Stage, Awaiting, Heading, Taking, Asking, Answering, Held}
use Rattle.server_model.specs.Steps.{number_of, received, received_end, has_no_items, has_no_bytes, looked_at, looked, fed_at, fed, advanced_at, advanced, looks_at, looks, accepted_at, accepted, took, without_file, wrote}
use Rattle.server_model.specs.Serves.{IsWaitingAt, IsWaiting}
use Rattle.server_model.proofs.Requests.{more_open, open_more, open_all}

-- it went as far as what came allows: a head or a request is there, or none is and the reply, where another can follow it, isn't wholly taken
abbrev pub IsSettledAt : Stage → List ℕ → List Item → Type 0
IsSettledAt (Awaiting k) input owed = front_of input ≡ NoHead
IsSettledAt (Heading k head) input owed = Unit {0}
IsSettledAt (Taking k head s content) input owed = (input ≡ []) × (is_over s.state ≡ false)
IsSettledAt (Asking k r) input owed = Unit {0}
IsSettledAt (Answering k last) input owed = last ≡ false → has_no_items owed ≡ false

abbrev pub IsSettled : Held → Type 0
IsSettled held = IsSettledAt held.stage held.input held.owed

-- a reply that is wholly taken keeps no file
abbrev pub IsFreedAt : Stage → List Item → Option ℕ → Type 0
IsFreedAt (Awaiting k) owed file = Unit {0}
IsFreedAt (Heading k head) owed file = Unit {0}
IsFreedAt (Taking k head s content) owed file = Unit {0}
IsFreedAt (Asking k r) owed file = Unit {0}
IsFreedAt (Answering k last) owed file = has_no_items owed ≡ true → file ≡ None

abbrev pub IsFreed : Held → Type 0
IsFreed held = IsFreedAt held.stage held.owed held.file

-- the file that is given back once so many bytes were taken
abbrev pub given_back : Held → ℕ → Option ℕ
given_back held n = if has_no_items (drop n held.owed) then held.file else None

pub waiting_settled_at : (s : Stage) (input : List ℕ) (owed : List Item) → IsWaitingAt s input owed → IsSettledAt s input owed
waiting_settled_at (Awaiting k) input owed w = w
waiting_settled_at (Heading k head) input owed w = tt
waiting_settled_at (Taking k head s content) input owed w = w
waiting_settled_at (Asking k r) input owed w = tt
waiting_settled_at (Answering k last) input owed w = λ e. w

pub waiting_settled : (held : Held) → IsWaiting held → IsSettled held
waiting_settled held w = waiting_settled_at held.stage held.input held.owed w

-- a client that waits is freed, and is so after a read
freed_at : (s : Stage) (input : List ℕ) (owed : List Item) (file : Option ℕ) → IsWaitingAt s input owed → IsFreedAt s owed file
freed_at (Awaiting k) input owed file w = tt
freed_at (Heading k head) input owed file w = tt
freed_at (Taking k head s content) input owed file w = tt
freed_at (Asking k r) input owed file w = tt
freed_at (Answering k last) input owed file w = λ e. absurd (cc (w, e))

pub waiting_freed : (held : Held) → IsWaiting held → IsFreed held
waiting_freed held w = freed_at held.stage held.input held.owed held.file w

pub received_freed : (held : Held) (bytes : List ℕ) → IsWaiting held → IsFreed (received held bytes)
received_freed held bytes w = waiting_freed held w

pub ended_freed : (held : Held) → IsWaiting held → IsFreed (received_end held)
ended_freed held w = waiting_freed held w

-- and after a write
pub wrote_freed : (held : Held) (n : ℕ) → IsFreed (wrote held n)
wrote_freed held n = by (has_no_items (drop n held.owed)) refl
  where
    still : (s : Stage) (owed : List Item) (file : Option ℕ) → has_no_items owed ≡ false → IsFreedAt s owed file
    still (Awaiting k) owed file some = tt
    still (Heading k head) owed file some = tt
    still (Taking k head s content) owed file some = tt
    still (Asking k r) owed file some = tt
    still (Answering k last) owed file some = λ e. absurd (cc (some, e))

    gone : (s : Stage) (owed : List Item) → IsFreedAt s owed None
    gone (Awaiting k) owed = tt
    gone (Heading k head) owed = tt
    gone (Taking k head s content) owed = tt
    gone (Asking k r) owed = tt
    gone (Answering k last) owed = λ e. refl

    by : (t : Bool) → has_no_items (drop n held.owed) ≡ t → IsFreed (if t then without_file (took held n) else took held n)
    by true none = gone held.stage (drop n held.owed)
    by false some = still held.stage (drop n held.owed) held.file some

-- what came is looked at or taken up, or nothing changes
by_stage : (P : Held → Type 0) (s : Stage) (held : Held) → ((k : ℕ) → P (looked k held)) → ((k : ℕ) (head : Head) (s : Standing) (content : List ℕ) → P (fed k head s content held)) → (IsSettledAt s held.input held.owed → P held) → P (advanced_at s held)
by_stage P (Awaiting k) held looks feeds same = looks k
by_stage P (Heading k head) held looks feeds same = same tt
by_stage P (Taking k head s content) held looks feeds same = feeds k head s content
by_stage P (Asking k r) held looks feeds same = same tt
by_stage P (Answering k true) held looks feeds same = same (λ e. absurd (cc (e)))
by_stage P (Answering k false) held looks feeds same = by (has_no_items held.owed) refl
  where
    by : (t : Bool) → has_no_items held.owed ≡ t → P (if t then looked (k + 1) held else held)
    by true none = looks (k + 1)
    by false some = same (λ e. some)

-- the same where what came is looked at by what stands at its front
pub by_front : (P : Held → Type 0) (held : Held) → ((k : ℕ) (f : Front) → P (looked_at k f held)) → ((k : ℕ) (head : Head) (s : Standing) (content : List ℕ) → P (fed k head s content held)) → P held → P (advanced held)
by_front P held looks feeds same = by_stage P held.stage held (λ k. looks k (front_of held.input)) feeds (λ s. same)

-- nothing is left where all was taken up
pub drop_all : (n : ℕ) (bytes : List ℕ) → n ≡ length bytes → drop n bytes ≡ []
drop_all n bytes is = ap (λ (m : ℕ). drop m bytes) is ∙ drop-length bytes

-- the step that what came allows leaves it settled
pub advanced_settled : (held : Held) → IsSettled (advanced held)
advanced_settled held = by_stage IsSettled held.stage held (λ k. at k (front_of held.input) refl) (λ k head s content. takes k head s (content ++ data_in s held.input) (answer_from (standing_after s held.input).state) refl) (λ s. s)
  where
    at : (k : ℕ) (f : Front) → front_of held.input ≡ f → IsSettled (looked_at k f held)
    at k NoHead is = is
    at k (BadHead status) is = tt
    at k (HasHead head rest) is = tt

    takes : (k : ℕ) (head : Head) (s : Standing) (content : List ℕ) (a : Result BodyState BodyRefusal) → answer_from (standing_after s held.input).state ≡ a
        → IsSettledAt (fed_at k head a (standing_after s held.input) content) (drop (taken_in s held.input) held.input) held.owed
    takes k head s content (Ok body.NeedMore) is = (drop_all (taken_in s held.input) held.input (open_all s held.input is), more_open (standing_after s held.input).state is)
    takes k head s content (Ok body.Done) is = tt
    takes k head s content (Err refused) is = tt

pub advanced_link : (held : Held) → (advanced held).link ≡ held.link
advanced_link held = by_front (λ h. h.link ≡ held.link) held (λ k f. at k f) (λ k head s content. refl) refl
  where
    at : (k : ℕ) (f : Front) → (looked_at k f held).link ≡ held.link
    at k NoHead = refl
    at k (BadHead status) = refl
    at k (HasHead head rest) = refl

pub advanced_file : (held : Held) → (advanced held).file ≡ held.file
advanced_file held = by_front (λ h. h.file ≡ held.file) held (λ k f. at k f) (λ k head s content. refl) refl
  where
    at : (k : ℕ) (f : Front) → (looked_at k f held).file ≡ held.file
    at k NoHead = refl
    at k (BadHead status) = refl
    at k (HasHead head rest) = refl

-- what is owed stays, and with it what fits the opened files
pub advanced_owed : (held : Held) → (advanced held).owed ≡ held.owed
advanced_owed held = by_front (λ h. h.owed ≡ held.owed) held (λ k f. at k f) (λ k head s content. refl) refl
  where
    at : (k : ℕ) (f : Front) → (looked_at k f held).owed ≡ held.owed
    at k NoHead = refl
    at k (BadHead status) = refl
    at k (HasHead head rest) = refl

-- it is freed then too
pub advanced_freed : (held : Held) → IsFreed held → IsFreed (advanced held)
advanced_freed held freed = by_front IsFreed held (λ k f. at k f) (λ k head s content. takes k head (answer_from (standing_after s held.input).state) (standing_after s held.input) (content ++ data_in s held.input)) freed
  where
    at : (k : ℕ) (f : Front) → IsFreed (looked_at k f held)
    at k NoHead = tt
    at k (BadHead status) = tt
    at k (HasHead head rest) = tt

    takes : (k : ℕ) (head : Head) (a : Result BodyState BodyRefusal) (s : Standing) (content : List ℕ) → IsFreedAt (fed_at k head a s content) held.owed held.file
    takes k head (Ok body.NeedMore) s content = tt
    takes k head (Ok body.Done) s content = tt
    takes k head (Err refused) s content = tt

-- a body is accepted, or nothing changes
pub accepted_stays : (P : Held → Type 0) (held : Held) (limit : ℕ) → ((k : ℕ) (head : Head) → P (accepted_at (Heading k head) limit held)) → P held → P (accepted held limit)
accepted_stays P held limit accepts same = by held.stage
  where
    by : (s : Stage) → P (accepted_at s limit held)
    by (Awaiting k) = same
    by (Heading k head) = accepts k head
    by (Taking k head s content) = same
    by (Asking k r) = same
    by (Answering k last) = same

pub accepted_link : (held : Held) (limit : ℕ) → (accepted held limit).link ≡ held.link
accepted_link held limit = accepted_stays (λ h. h.link ≡ held.link) held limit (λ k head. refl) refl

pub accepted_file : (held : Held) (limit : ℕ) → (accepted held limit).file ≡ held.file
accepted_file held limit = accepted_stays (λ h. h.file ≡ held.file) held limit (λ k head. refl) refl

pub accepted_freed : (held : Held) (limit : ℕ) → IsFreed held → IsFreed (accepted held limit)
accepted_freed held limit freed = accepted_stays IsFreed held limit (λ k head. tt) freed

-- no byte of a body came
fed_none : (k : ℕ) (head : Head) (s : Standing) (content : List ℕ) (held : Held) → held.stage ≡ Taking k head s content → (held.input ≡ []) × (is_over s.state ≡ false) → fed k head s content held ≡ held
unfolding standing_after data_in taken_in
fed_none k head s content held at none =
    ap (λ (l : List ℕ). record held { stage = fed_at k head (answer_from (standing_after s l).state) (standing_after s l) (content ++ data_in s l); input = drop (taken_in s l) l }) none.0
    ∙ (λ i. record held { stage = fed_at k head (open_more s.state none.1 i) s (append-nil content i); input = sym none.0 i })
    ∙ ap (λ (g : Stage). record held { stage = g }) (sym at)

no_bytes : (bytes : List ℕ) (over : Bool) → (not (has_no_bytes bytes) || over) ≡ false → (bytes ≡ []) × (over ≡ false)
no_bytes [] over is = (refl, is)
no_bytes (b ∷ bytes) over is = absurd (cc (is))

-- where what came isn't looked at, nothing changes
pub looks_advanced : (held : Held) → looks held ≡ false → advanced held ≡ held
looks_advanced held isnt = by held.stage refl isnt
  where
    by : (s : Stage) → held.stage ≡ s → looks_at s held.input held.owed ≡ false → advanced_at s held ≡ held
    by (Awaiting k) at is = absurd (cc (is))
    by (Heading k head) at is = refl
    by (Taking k head s content) at is = fed_none k head s content held at (no_bytes held.input (is_over s.state) is)
    by (Asking k r) at is = refl
    by (Answering k true) at is = refl
    by (Answering k false) at is = ap (λ t. if t then looked (k + 1) held else held) is

-- the number of the request that is there
pub asking_number : (held : Held) (k : ℕ) (r : Request) → held.stage ≡ Asking k r → held.stage ≡ Asking (number_of held.stage) r
asking_number held k r is = is ∙ ap (λ (n : ℕ). Asking n r) (sym (ap number_of is))
