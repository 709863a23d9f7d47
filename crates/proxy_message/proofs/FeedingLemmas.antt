-- What a call makes of an answer and its queues.
use Rattle.std.proofs.Common.{Result, Ok, Err, ◌≡◌, ℕ, ◌+◌, ◌-◌, ◌<◌, ◌≤◌, true, List, [], ◌++◌, length, map, take, drop, refl, ap, sym, ◌∙◌, subst, append_assoc, append-nil, length-append, length-take, length-drop, arith}
use Rattle.std.proofs.lemmas.List.{drop-drop, take-append-drop, length-map, map-append}
use Rattle.chunkqueue.specs.Items.{Item, Byte, Contents, items_of, count_of, memory_front, Leads}
use Rattle.lt_http_body.specs.Feeding.{AllInMemory, bytes_of}
use Rattle.lt_http_body.proofs.FeedingLemmas.{memory_drop, bytes_count, front_drop, front_is, take_of_front, none_left}
use Rattle.proxy_message.specs.declared.progress.Progress.{Progress}
use Rattle.proxy_message.specs.declared.refusal.AnswerState.{AnswerState}
use Rattle.proxy_message.specs.declared.refusal.AnswerRefusal.{AnswerRefusal}
use Rattle.proxy_message.specs.declared.refusal.AnswerRefusal.TheVariants as refused
use Rattle.proxy_message.specs.Progress.{is_over}
use Rattle.proxy_message.specs.Reading.{progress_after, content_in, taken_in, Passes}
use Rattle.proxy_message.specs.Feeding.{Reads, Takes, UnlessNoMemory}
use Rattle.proxy_message.proofs.ReadingLemmas.{after_append, content_append, taken_append, Rests, rests_over}

-- the first n items are gone
pub reads_by : (old new : Progress) (input input' : Contents) (n : ℕ) (moved : List ℕ) → AllInMemory (items_of input) → n ≤ count_of input → length moved ≤ n → items_of input' ≡ drop n (items_of input)
    → progress_after old (bytes_of input) ≡ progress_after new (drop n (bytes_of input)) → content_in old (bytes_of input) ≡ moved ++ content_in new (drop n (bytes_of input))
    → taken_in old (bytes_of input) ≡ n + taken_in new (drop n (bytes_of input)) → Reads old input new input' moved
reads_by old new input input' n moved memory within carries rest stands reads counts =
    let left : bytes_of input' ≡ drop n (bytes_of input) = ap memory_front rest ∙ front_drop n (items_of input) memory in
    record {
      count = n;
      within = within;
      carries = carries;
      rest = rest;
      stands = stands ∙ ap (progress_after new) (sym left);
      reads = reads ∙ ap (λ (l : List ℕ). moved ++ content_in new l) (sym left);
      counts = counts ∙ ap (λ (l : List ℕ). n + taken_in new l) (sym left);
    }

-- bytes of a head
pub head_reads : (old new : Progress) (input input' : Contents) (staged front : List ℕ) (n : ℕ) → AllInMemory (items_of input) → 0 < count_of input → Leads (items_of input) staged front
    → n ≤ length front → Passes old (take n front) new → items_of input' ≡ drop n (items_of input) → Reads old input new input' []
head_reads old new input input' staged front n memory some leads within passes rest =
    let bytes : List ℕ = bytes_of input in
    let is : front ≡ take (length front) bytes = front_is (items_of input) staged front memory some leads in
    let p : Passes old (take n bytes) new = subst (λ (l : List ℕ). Passes old l new) (take_of_front n front bytes within is) passes in
    let whole : bytes ≡ take n bytes ++ drop n bytes = sym (take-append-drop n bytes) in
    let long : length (take n bytes) ≡ n = omega (arith, within, ap length is, length-take (length front) bytes, length-take n bytes) in
    reads_by old new input input' n [] memory (omega (arith, within, ap length is, length-take (length front) bytes, bytes_count (items_of input) memory)) (omega arith) rest
    (ap (progress_after old) whole ∙ after_append old (take n bytes) (drop n bytes) ∙ ap (λ (s : Progress). progress_after s (drop n bytes)) p.stands)
    (ap (content_in old) whole ∙ content_append old (take n bytes) (drop n bytes) ∙ ap (λ (l : List ℕ). l ++ content_in (progress_after old (take n bytes)) (drop n bytes)) p.none ∙ ap (λ (s : Progress). content_in s (drop n bytes)) p.stands)
    (ap (taken_in old) whole ∙ taken_append old (take n bytes) (drop n bytes) ∙ omega (arith, p.all, long, ap (λ (s : Progress). taken_in s (drop n bytes)) p.stands))

-- a call that takes nothing
pub takes_nothing : (old : Progress) (input body : Contents) → Takes old input body old input body
takes_nothing old input body = record {
  moved = [];
  reads = record { count = 0; within = omega arith; carries = omega arith; rest = refl; stands = refl; reads = refl; counts = omega arith };
  gained = sym (append-nil (items_of body));
}

pub takes_same : (old : Progress) (input body input' body' : Contents) → body' ≡ body → input' ≡ input → Takes old input body old input' body'
takes_same old input body input' body' same still =
    subst (λ (c : Contents). Takes old input body old input' c) (sym same) (subst (λ (c : Contents). Takes old input body old c body) (sym still) (takes_nothing old input body))

-- a head leaves the body as it is
pub takes_head : (old new : Progress) (input body input' : Contents) → Reads old input new input' [] → Takes old input body new input' body
takes_head old new input body input' r = record { moved = []; reads = r; gained = sym (append-nil (items_of body)) }

-- one call after another
pub takes_more : (a b c : Progress) (i p j q k r : Contents) → Takes a i p b j q → Takes b j q c k r → Takes a i p c k r
takes_more a b c i p j q k r one two = record {
  moved = one.moved ++ two.moved;
  reads = record {
    count = one.reads.count + two.reads.count;
    within = omega (arith, one.reads.within, two.reads.within, ap length one.reads.rest, length-drop one.reads.count (items_of i));
    carries = omega (arith, one.reads.carries, two.reads.carries, length-append one.moved two.moved);
    rest = two.reads.rest ∙ ap (drop two.reads.count) one.reads.rest ∙ drop-drop two.reads.count one.reads.count (items_of i);
    stands = one.reads.stands ∙ two.reads.stands;
    reads = one.reads.reads ∙ ap (λ (l : List ℕ). one.moved ++ l) two.reads.reads ∙ sym (append_assoc one.moved two.moved (content_in c (bytes_of k)));
    counts = omega (arith, one.reads.counts, two.reads.counts);
  };
  gained = two.gained ∙ ap (λ (l : List Item). l ++ map Byte two.moved) one.gained ∙ append_assoc (items_of p) (map Byte one.moved) (map Byte two.moved)
      ∙ ap (λ (l : List Item). items_of p ++ l) (sym (map-append Byte one.moved two.moved));
}

-- the items that are left, and those of both queues
pub counts_after : (old new : Progress) (input body input' body' : Contents) → Takes old input body new input' body' → (count_of input' ≤ count_of input) × (count_of body' + count_of input' ≤ count_of body + count_of input)
counts_after old new input body input' body' t =
    let left : count_of input' ≡ count_of input - t.reads.count = ap length t.reads.rest ∙ length-drop t.reads.count (items_of input) in
    let more : count_of body' ≡ count_of body + length t.moved = ap length t.gained ∙ length-append (items_of body) (map Byte t.moved) ∙ ap (λ (n : ℕ). count_of body + n) (length-map t.moved Byte) in
    (omega arith, omega (arith, t.reads.within, t.reads.carries))

pub memory_after : (old new : Progress) (input body input' body' : Contents) → Takes old input body new input' body' → AllInMemory (items_of input) → AllInMemory (items_of input')
memory_after old new input body input' body' t memory = subst AllInMemory (sym t.reads.rest) (memory_drop t.reads.count (items_of input) memory)

-- no byte is the answer's own any more, or none is left
pub record Ended (old : Progress) (input body : Contents) (new : Progress) (input' body' : Contents) : Type 0 where
  pub stands : new ≡ progress_after old (bytes_of input)
  pub gained : items_of body' ≡ items_of body ++ map Byte (content_in old (bytes_of input))
  pub rest : items_of input' ≡ drop (taken_in old (bytes_of input)) (items_of input)

ended : (old new : Progress) (input body input' body' : Contents) → Takes old input body new input' body' → Rests new (bytes_of input') → Ended old input body new input' body'
ended old new input body input' body' t r =
    let moved : content_in old (bytes_of input) ≡ t.moved = t.reads.reads ∙ ap (λ (l : List ℕ). t.moved ++ l) r.none ∙ append-nil t.moved in
    let count : t.reads.count ≡ taken_in old (bytes_of input) = omega (arith, t.reads.counts, r.no_own) in
    record {
      stands = sym (t.reads.stands ∙ r.stands);
      gained = t.gained ∙ ap (λ (l : List ℕ). items_of body ++ map Byte l) (sym moved);
      rest = t.reads.rest ∙ ap (λ (n : ℕ). drop n (items_of input)) count;
    }

pub ended_over : (old new : Progress) (input body input' body' : Contents) → Takes old input body new input' body' → is_over new.stage ≡ true → Ended old input body new input' body'
ended_over old new input body input' body' t over = ended old new input body input' body' t (rests_over new (bytes_of input') over)

pub ended_empty : (old new : Progress) (input body input' body' : Contents) → Takes old input body new input' body' → count_of input' ≡ 0 → Ended old input body new input' body'
unfolding progress_after content_in taken_in
ended_empty old new input body input' body' t none =
    let left : bytes_of input' ≡ [] = none_left (items_of input') none in
    ended old new input body input' body' t (record { stands = ap (progress_after new) left; none = ap (content_in new) left; no_own = ap (taken_in new) left })

pub unless : (r : Result AnswerState AnswerRefusal) (P : Type 0) → P → UnlessNoMemory r P
unless (Ok answer) P p = p
unless (Err refused.BadAnswer) P p = p
unless (Err refused.TooLarge) P p = p
unless (Err refused.NoMemory) P p = tt
