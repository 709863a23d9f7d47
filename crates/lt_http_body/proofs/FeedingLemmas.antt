-- What a call makes of a body and its queues.
use Rattle.std.proofs.Common.{Result, Ok, Err, ◌≡◌, zero, suc, ℕ, ◌+◌, ◌-◌, ◌<◌, ◌≤◌, true, false, List, [], ◌∷◌, ◌++◌, length, map, take, drop, refl, ap, sym, ◌∙◌, subst, append_assoc, append-nil, length-append, length-take, length-drop, arith}
use Rattle.std.proofs.lemmas.List.{drop-drop, take-append-drop, take-append-le, length-map, map-append}
use Rattle.std.specs.List.{take-map}
use Rattle.chunkqueue.specs.Items.{Item, Byte, FileByte, Contents, items_of, count_of, memory_front, Leads}
use Rattle.lt_http_body.specs.declared.body.BodyState.{BodyState}
use Rattle.lt_http_body.specs.declared.body.BodyRefusal.{BodyRefusal}
use Rattle.lt_http_body.specs.declared.body.BodyRefusal.TheVariants as refused
use Rattle.lt_http_body.specs.declared.state.State.{State}
use Rattle.lt_http_body.specs.declared.state.State.TheVariants as state
use Rattle.lt_http_body.specs.declared.standing.Standing.{Standing}
use Rattle.lt_http_body.specs.Standings.{at, is_over, is_in_line, left_of, without_from}
use Rattle.lt_http_body.specs.Sound.{IsSoundState}
use Rattle.lt_http_body.specs.Reading.{standing_after, data_in, taken_in, Passes}
use Rattle.lt_http_body.specs.Feeding.{AllInMemory, bytes_of, Reads, Takes, UnlessNoMemory}
use Rattle.lt_http_body.proofs.ReadingLemmas.{after_append, data_append, taken_append, Gives, data_gives, rests}

-- items in memory are their bytes
pub front_of_bytes : (bytes : List ℕ) → memory_front (map Byte bytes) ≡ bytes
front_of_bytes [] = refl
front_of_bytes (b ∷ bytes) = ap (λ (l : List ℕ). b ∷ l) (front_of_bytes bytes)

pub memory_of_bytes : (bytes : List ℕ) → AllInMemory (map Byte bytes)
memory_of_bytes [] = tt
memory_of_bytes (b ∷ bytes) = memory_of_bytes bytes

items_are : (items : List Item) → AllInMemory items → items ≡ map Byte (memory_front items)
items_are [] h = refl
items_are (Byte b ∷ items) h = ap (λ (l : List Item). Byte b ∷ l) (items_are items h)
items_are (FileByte file place ∷ items) h = absurd h

pub memory_drop : (n : ℕ) (items : List Item) → AllInMemory items → AllInMemory (drop n items)
memory_drop zero items h = h
memory_drop (suc n) [] h = tt
memory_drop (suc n) (Byte b ∷ items) h = memory_drop n items h
memory_drop (suc n) (FileByte file place ∷ items) h = absurd h

pub front_drop : (n : ℕ) (items : List Item) → AllInMemory items → memory_front (drop n items) ≡ drop n (memory_front items)
front_drop zero items h = refl
front_drop (suc n) [] h = refl
front_drop (suc n) (Byte b ∷ items) h = front_drop n items h
front_drop (suc n) (FileByte file place ∷ items) h = absurd h

front_take : (n : ℕ) (items : List Item) → AllInMemory items → memory_front (take n items) ≡ take n (memory_front items)
front_take zero items h = refl
front_take (suc n) [] h = refl
front_take (suc n) (Byte b ∷ items) h = ap (λ (l : List ℕ). b ∷ l) (front_take n items h)
front_take (suc n) (FileByte file place ∷ items) h = absurd h

pub bytes_count : (items : List Item) → AllInMemory items → length (memory_front items) ≡ length items
bytes_count [] h = refl
bytes_count (Byte b ∷ items) h = ap suc (bytes_count items h)
bytes_count (FileByte file place ∷ items) h = absurd h

pub take_items : (n : ℕ) (items : List Item) → AllInMemory items → take n items ≡ map Byte (take n (memory_front items))
take_items n items h = ap (take n) (items_are items h) ∙ take-map Byte n (memory_front items)

-- the bytes that can leave are the first ones
pub front_is : (items : List Item) (staged front : List ℕ) → AllInMemory items → 0 < length items → Leads items staged front → front ≡ take (length front) (memory_front items)
front_is [] staged front h some leads = absurd (omega arith)
front_is (FileByte file place ∷ items) staged front h some leads = absurd h
front_is (Byte b ∷ items) staged front h some leads =
    sym (front_of_bytes front) ∙ ap memory_front leads.1 ∙ front_take (length front) (Byte b ∷ items) h

pub take_of_front : (n : ℕ) (front bytes : List ℕ) → n ≤ length front → front ≡ take (length front) bytes → take n front ≡ take n bytes
take_of_front n front bytes within is =
    let k : ℕ = length front in
    let whole : front ++ drop k bytes ≡ bytes = ap (λ (l : List ℕ). l ++ drop k bytes) is ∙ take-append-drop k bytes in
    sym (take-append-le n front (drop k bytes) within) ∙ ap (take n) whole

-- the first n items are gone
reads_by : (old new : Standing) (input input' : Contents) (n : ℕ) (moved : List ℕ) → AllInMemory (items_of input) → n ≤ count_of input → length moved ≤ n → items_of input' ≡ drop n (items_of input)
    → standing_after old (bytes_of input) ≡ standing_after new (drop n (bytes_of input)) → data_in old (bytes_of input) ≡ moved ++ data_in new (drop n (bytes_of input))
    → taken_in old (bytes_of input) ≡ n + taken_in new (drop n (bytes_of input)) → Reads old input new input' moved
reads_by old new input input' n moved memory within carries rest stands reads counts =
    let left : bytes_of input' ≡ drop n (bytes_of input) = ap memory_front rest ∙ front_drop n (items_of input) memory in
    record {
      count = n;
      within = within;
      carries = carries;
      rest = rest;
      stands = stands ∙ ap (standing_after new) (sym left);
      reads = reads ∙ ap (λ (l : List ℕ). moved ++ data_in new l) (sym left);
      counts = counts ∙ ap (λ (l : List ℕ). n + taken_in new l) (sym left);
    }

-- bytes of lines
pub line_reads : (old new : Standing) (input input' : Contents) (staged front : List ℕ) (n : ℕ) → AllInMemory (items_of input) → 0 < count_of input → Leads (items_of input) staged front
    → n ≤ length front → Passes old (take n front) new → items_of input' ≡ drop n (items_of input) → Reads old input new input' []
line_reads old new input input' staged front n memory some leads within passes rest =
    let bytes : List ℕ = bytes_of input in
    let is : front ≡ take (length front) bytes = front_is (items_of input) staged front memory some leads in
    let p : Passes old (take n bytes) new = subst (λ (l : List ℕ). Passes old l new) (take_of_front n front bytes within is) passes in
    let whole : bytes ≡ take n bytes ++ drop n bytes = sym (take-append-drop n bytes) in
    let long : length (take n bytes) ≡ n = omega (arith, within, ap length is, length-take (length front) bytes, length-take n bytes) in
    reads_by old new input input' n [] memory (omega (arith, within, ap length is, length-take (length front) bytes, bytes_count (items_of input) memory)) (omega arith) rest
    (ap (standing_after old) whole ∙ after_append old (take n bytes) (drop n bytes) ∙ ap (λ (s : Standing). standing_after s (drop n bytes)) p.stands)
    (ap (data_in old) whole ∙ data_append old (take n bytes) (drop n bytes) ∙ ap (λ (l : List ℕ). l ++ data_in (standing_after old (take n bytes)) (drop n bytes)) p.none ∙ ap (λ (s : Standing). data_in s (drop n bytes)) p.stands)
    (ap (taken_in old) whole ∙ taken_append old (take n bytes) (drop n bytes) ∙ omega (arith, p.all, long, ap (λ (s : Standing). taken_in s (drop n bytes)) p.stands))

-- neither over nor in a line, so that data comes next
pub data_next : (s : State) → is_over s ≡ false → is_in_line s ≡ false → IsSoundState s → 0 < left_of s
data_next (state.Stated left) over line sound = sound
data_next (state.Data left) over line sound = sound
data_next state.Whole over line sound = cc
data_next state.BadChunk over line sound = cc
data_next state.TooLarge over line sound = cc
data_next other over line sound = cc

-- bytes of data
pub data_takes : (old new : Standing) (input body input' body' : Contents) (n : ℕ) → AllInMemory (items_of input) → 0 < left_of old.state → n ≤ left_of old.state → n ≤ count_of input
    → new ≡ at old.room (without_from n old.state) → items_of body' ≡ items_of body ++ take n (items_of input) → items_of input' ≡ drop n (items_of input) → Takes old input body new input' body'
data_takes old new input body input' body' n memory some within inside is gained rest =
    let bytes : List ℕ = bytes_of input in
    let fits : n ≤ length bytes = omega (arith, inside, bytes_count (items_of input) memory) in
    let g : Gives old bytes n new = subst (λ (s : Standing). Gives old bytes n s) (sym is) (data_gives old.room old.state bytes n some within fits) in
    record {
      moved = take n bytes;
      reads = reads_by old new input input' n (take n bytes) memory inside (omega (arith, length-take n bytes)) rest g.stands g.reads g.counts;
      gained = gained ∙ ap (λ (l : List Item). items_of body ++ l) (take_items n (items_of input) memory);
    }

-- a call that takes nothing
pub takes_nothing : (old : Standing) (input body : Contents) → Takes old input body old input body
takes_nothing old input body = record {
  moved = [];
  reads = record { count = 0; within = omega arith; carries = omega arith; rest = refl; stands = refl; reads = refl; counts = omega arith };
  gained = sym (append-nil (items_of body));
}

pub takes_same : (old : Standing) (input body input' body' : Contents) → body' ≡ body → input' ≡ input → Takes old input body old input' body'
takes_same old input body input' body' same still =
    subst (λ (c : Contents). Takes old input body old input' c) (sym same) (subst (λ (c : Contents). Takes old input body old c body) (sym still) (takes_nothing old input body))

-- lines leave the body as it is
pub takes_lines : (old new : Standing) (input body input' : Contents) → Reads old input new input' [] → Takes old input body new input' body
takes_lines old new input body input' r = record { moved = []; reads = r; gained = sym (append-nil (items_of body)) }

-- one call after another
pub takes_more : (a b c : Standing) (i p j q k r : Contents) → Takes a i p b j q → Takes b j q c k r → Takes a i p c k r
takes_more a b c i p j q k r one two = record {
  moved = one.moved ++ two.moved;
  reads = record {
    count = one.reads.count + two.reads.count;
    within = omega (arith, one.reads.within, two.reads.within, ap length one.reads.rest, length-drop one.reads.count (items_of i));
    carries = omega (arith, one.reads.carries, two.reads.carries, length-append one.moved two.moved);
    rest = two.reads.rest ∙ ap (drop two.reads.count) one.reads.rest ∙ drop-drop two.reads.count one.reads.count (items_of i);
    stands = one.reads.stands ∙ two.reads.stands;
    reads = one.reads.reads ∙ ap (λ (l : List ℕ). one.moved ++ l) two.reads.reads ∙ sym (append_assoc one.moved two.moved (data_in c (bytes_of k)));
    counts = omega (arith, one.reads.counts, two.reads.counts);
  };
  gained = two.gained ∙ ap (λ (l : List Item). l ++ map Byte two.moved) one.gained ∙ append_assoc (items_of p) (map Byte one.moved) (map Byte two.moved)
      ∙ ap (λ (l : List Item). items_of p ++ l) (sym (map-append Byte one.moved two.moved));
}

-- the items that are left, and those of both queues
pub counts_after : (old new : Standing) (input body input' body' : Contents) → Takes old input body new input' body' → (count_of input' ≤ count_of input) × (count_of body' + count_of input' ≤ count_of body + count_of input)
counts_after old new input body input' body' t =
    let left : count_of input' ≡ count_of input - t.reads.count = ap length t.reads.rest ∙ length-drop t.reads.count (items_of input) in
    let more : count_of body' ≡ count_of body + length t.moved = ap length t.gained ∙ length-append (items_of body) (map Byte t.moved) ∙ ap (λ (n : ℕ). count_of body + n) (length-map t.moved Byte) in
    (omega arith, omega (arith, t.reads.within, t.reads.carries))

pub memory_after : (old new : Standing) (input body input' body' : Contents) → Takes old input body new input' body' → AllInMemory (items_of input) → AllInMemory (items_of input')
memory_after old new input body input' body' t memory = subst AllInMemory (sym t.reads.rest) (memory_drop t.reads.count (items_of input) memory)

-- no byte is the body's own any more, or none is left
pub record Ended (old : Standing) (input body : Contents) (new : Standing) (input' body' : Contents) : Type 0 where
  pub stands : new ≡ standing_after old (bytes_of input)
  pub gained : items_of body' ≡ items_of body ++ map Byte (data_in old (bytes_of input))
  pub rest : items_of input' ≡ drop (taken_in old (bytes_of input)) (items_of input)

ended : (old new : Standing) (input body input' body' : Contents) → Takes old input body new input' body'
    → (standing_after new (bytes_of input') ≡ new) × (data_in new (bytes_of input') ≡ []) × (taken_in new (bytes_of input') ≡ 0) → Ended old input body new input' body'
ended old new input body input' body' t r =
    let moved : data_in old (bytes_of input) ≡ t.moved = t.reads.reads ∙ ap (λ (l : List ℕ). t.moved ++ l) r.1 ∙ append-nil t.moved in
    let count : t.reads.count ≡ taken_in old (bytes_of input) = omega (arith, t.reads.counts, r.2) in
    record {
      stands = sym (t.reads.stands ∙ r.0);
      gained = t.gained ∙ ap (λ (l : List ℕ). items_of body ++ map Byte l) (sym moved);
      rest = t.reads.rest ∙ ap (λ (n : ℕ). drop n (items_of input)) count;
    }

pub ended_over : (old new : Standing) (input body input' body' : Contents) → Takes old input body new input' body' → is_over new.state ≡ true → Ended old input body new input' body'
ended_over old new input body input' body' t over = ended old new input body input' body' t (rests new.room new.state (bytes_of input') over)

pub none_left : (items : List Item) → length items ≡ 0 → memory_front items ≡ []
none_left [] h = refl
none_left (item ∷ items) h = absurd (omega arith)

pub ended_empty : (old new : Standing) (input body input' body' : Contents) → Takes old input body new input' body' → count_of input' ≡ 0 → Ended old input body new input' body'
unfolding standing_after data_in taken_in
ended_empty old new input body input' body' t none =
    let left : bytes_of input' ≡ [] = none_left (items_of input') none in
    ended old new input body input' body' t (ap (standing_after new) left, ap (data_in new) left, ap (taken_in new) left)

pub unless : (r : Result BodyState BodyRefusal) (P : Type 0) → P → UnlessNoMemory r P
unless (Ok answer) P p = p
unless (Err refused.BadChunk) P p = p
unless (Err refused.TooLarge) P p = p
unless (Err refused.NoMemory) P p = tt
