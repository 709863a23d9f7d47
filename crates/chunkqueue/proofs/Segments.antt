-- Segments, and the items that wait in them.
use Rattle.std.proofs.Common.{zero, suc, ◌≡◌, ℕ, ◌+◌, ◌-◌, ◌==◌, ◌^◌, ◌≤◌, ◌<◌, List, [], ◌∷◌, ◌++◌, length, take, drop, map, Bool, true, false, if◌then◌else◌, arith, ap, sym, ◌∙◌, refl, append_assoc, lit<}
use Rattle.std.proofs.lemmas.Bool.Decides.{nat_tests}
use Rattle.std.proofs.lemmas.List.{length-take, length-map, length-drop, length-append, drop-map, drop-append-le, append-nil, drop_all, take-append-le, take-map}
use Rattle.buffer_pool.specs.declared.buffer.TheConstants.{BUFFER_SIZE}
use Rattle.chunkqueue.specs.Items.{Item, Byte, Contents, range, chunk_items, items_of, staged_in, Leads, staged_behind}
use Rattle.chunkqueue.specs.Plain.{chunk_of, chunks_of, plain, front_of_segment, front_of_segments, segment_left, segment_after, segments_after, segments_unstaged, segments_joined, IsHeld, AllHeld, segment_staged, segment_items, NoneStaged, FirstStaged, IsPlain}
use Rattle.chunkqueue.specs.declared.segment.Segment.{Segment}
use Rattle.chunkqueue.specs.declared.segment.Segment.TheVariants.{Memory, File}
use Rattle.chunkqueue.proofs.Ranges.{length-range, drop-range}

-- no more leaves memory than there is
pub fits-take : (n most : ℕ) (bytes : List ℕ) → n ≤ length (take most bytes) → n ≤ length bytes
fits-take n most bytes h = omega (arith, length-take most bytes)

pub fits-memory : (s : Segment) (bytes : List ℕ) (n : ℕ) → s ≡ Memory bytes → n ≤ length (front_of_segment s) → n ≤ length bytes
fits-memory s bytes n is h = fits-take n BUFFER_SIZE bytes (rw is at h)

pub length-chunk_items : (s : Segment) → length (chunk_items (chunk_of s)) ≡ segment_left s
length-chunk_items (Memory bytes) = length-map bytes Byte
length-chunk_items (File r) = length-range r.file r.start r.len

-- segments behind others
pub segment_items-append : (a b : List Segment) → segment_items (a ++ b) ≡ segment_items a ++ segment_items b
segment_items-append [] b = refl
segment_items-append (s ∷ ss) b = ap (λ (items : List Item). chunk_items (chunk_of s) ++ items) (segment_items-append ss b) ∙ sym (append_assoc (chunk_items (chunk_of s)) (segment_items ss) (segment_items b))

pub AllHeld-append : (a b : List Segment) → AllHeld a → AllHeld b → AllHeld (a ++ b)
AllHeld-append [] b ha hb = hb
AllHeld-append (s ∷ ss) b ha hb = (ha.0, AllHeld-append ss b ha.1 hb)

pub NoneStaged-append : (a b : List Segment) → NoneStaged a → NoneStaged b → NoneStaged (a ++ b)
NoneStaged-append [] b ha hb = hb
NoneStaged-append (s ∷ ss) b ha hb = (ha.0, NoneStaged-append ss b ha.1 hb)

-- a segment at the end
pub FirstStaged-push : (a : List Segment) (s : Segment) → FirstStaged a → segment_staged s ≡ [] → FirstStaged (a ++ s ∷ [])
FirstStaged-push [] s ha none = tt
FirstStaged-push (x ∷ xs) s ha none = NoneStaged-append xs (s ∷ []) ha (none, tt)

pub segment_items-push : (a : List Segment) (s : Segment) → segment_items (a ++ s ∷ []) ≡ segment_items a ++ chunk_items (chunk_of s)
segment_items-push a s = segment_items-append a (s ∷ []) ∙ ap (λ (items : List Item). segment_items a ++ items) (append-nil (chunk_items (chunk_of s)))

pub pushed_items : (q : Contents) (segments next : List Segment) (s : Segment) → plain segments ≡ q → next ≡ segments ++ s ∷ [] → segment_items next ≡ items_of q ++ chunk_items (chunk_of s)
pushed_items q segments next s view is = ap segment_items is ∙ segment_items-push segments s ∙ ap (λ (c : Contents). items_of c ++ chunk_items (chunk_of s)) view

pub pushed_plain : (segments next : List Segment) (len n : ℕ) (s : Segment) → IsPlain segments len → next ≡ segments ++ s ∷ [] → IsHeld s → segment_staged s ≡ [] → segment_left s ≡ n → len + n < 2 ^ 63 → IsPlain next (len + n)
pushed_plain segments next len n s had is held none left fits = rw is (record {
  held = AllHeld-append segments (s ∷ []) had.held (held, tt);
  first = FirstStaged-push segments s had.first none;
  counts = omega (arith, had.counts, left, ap length (segment_items-push segments s), length-append (segment_items segments) (chunk_items (chunk_of s)), length-chunk_items s);
  fits = fits;
})

-- a segment without its first items
chunk_items-after : (n : ℕ) (s : Segment) → n ≤ segment_left s → chunk_items (chunk_of (segment_after n s)) ≡ drop n (chunk_items (chunk_of s))
chunk_items-after n (Memory bytes) h = sym (drop-map Byte n bytes)
chunk_items-after n (File r) h = sym (drop-range r.file r.start r.len n h)

pub some_left : (s : Segment) → IsHeld s → 0 < segment_left s
some_left (Memory bytes) held = held
some_left (File r) held = held.0

-- what can leave is there
front-within : (n : ℕ) (s : Segment) → IsHeld s → n ≤ length (front_of_segment s) → n ≤ segment_left s
front-within n (Memory bytes) held h = fits-take n BUFFER_SIZE bytes h
front-within n (File r) held h = omega (arith, held.1)

no_items : (s : Segment) → segment_left s ≡ 0 → chunk_items (chunk_of s) ≡ []
no_items (Memory []) h = refl
no_items (Memory (byte ∷ bytes)) h = absurd (omega arith)
no_items (File r) h = ap (range r.file r.start) h

-- a spent segment has no items
items-unless_spent : (b : Bool) (s : Segment) (ss : List Segment) → (b ≡ true → segment_left s ≡ 0) → segment_items (if b then ss else s ∷ ss) ≡ chunk_items (chunk_of s) ++ segment_items ss
items-unless_spent true s ss spent = ap (λ (items : List Item). items ++ segment_items ss) (sym (no_items s (spent refl)))
items-unless_spent false s ss spent = refl

is_spent : (n : ℕ) → (n == 0) ≡ true → n ≡ 0
is_spent n h = grind (arith, nat_tests)

pub segment_items-after : (n : ℕ) (segments : List Segment) → AllHeld segments → n ≤ length (front_of_segments segments) → segment_items (segments_after n segments) ≡ drop n (segment_items segments)
segment_items-after n [] held h = sym (drop_all n [] (omega arith))
segment_items-after n (s ∷ ss) held h =
    let within : n ≤ segment_left s = front-within n s held.0 h in
    let short : n ≤ length (chunk_items (chunk_of s)) = omega (arith, length-chunk_items s) in
    items-unless_spent (segment_left (segment_after n s) == 0) (segment_after n s) ss (is_spent (segment_left (segment_after n s)))
    ∙ ap (λ (items : List Item). items ++ segment_items ss) (chunk_items-after n s within)
    ∙ sym (drop-append-le n (chunk_items (chunk_of s)) (segment_items ss) short)

pub NoneStaged-first : (segments : List Segment) → NoneStaged segments → FirstStaged segments
NoneStaged-first [] none = tt
NoneStaged-first (s ∷ ss) none = none.1

pub NoneStaged-staged : (segments : List Segment) → NoneStaged segments → staged_in (chunks_of segments) ≡ []
NoneStaged-staged [] none = refl
NoneStaged-staged (Memory bytes ∷ ss) none = refl
NoneStaged-staged (File r ∷ ss) none = none.0

staged-unless_spent : (b : Bool) (n : ℕ) (s : Segment) (ss : List Segment) → NoneStaged ss → IsHeld s → n ≤ length (front_of_segment s) → (b ≡ true → segment_left (segment_after n s) ≡ 0)
    → staged_in (chunks_of (if b then ss else segment_after n s ∷ ss)) ≡ drop n (segment_staged s)
staged-unless_spent true n (Memory bytes) ss none held h spent = NoneStaged-staged ss none ∙ sym (drop_all n [] (omega arith))
staged-unless_spent true n (File r) ss none held h spent = NoneStaged-staged ss none ∙ sym (drop_all n r.staged (omega (arith, held.1, spent refl)))
staged-unless_spent false n (Memory bytes) ss none held h spent = sym (drop_all n [] (omega arith))
staged-unless_spent false n (File r) ss none held h spent = refl

staged_in-head : (s : Segment) (ss : List Segment) → staged_in (chunks_of (s ∷ ss)) ≡ segment_staged s
staged_in-head (Memory bytes) ss = refl
staged_in-head (File r) ss = refl

pub staged_in-after : (n : ℕ) (segments : List Segment) → AllHeld segments → FirstStaged segments → n ≤ length (front_of_segments segments) → staged_in (chunks_of (segments_after n segments)) ≡ drop n (staged_in (chunks_of segments))
staged_in-after n [] held first h = sym (drop_all n [] (omega arith))
staged_in-after n (s ∷ ss) held first h =
    staged-unless_spent (segment_left (segment_after n s) == 0) n s ss first held.0 h (is_spent (segment_left (segment_after n s)))
    ∙ ap (drop n) (sym (staged_in-head s ss))

still_held : (n : ℕ) (s : Segment) → IsHeld s → n ≤ length (front_of_segment s) → (segment_left (segment_after n s) ≡ 0 → ⊥) → IsHeld (segment_after n s)
still_held n (Memory bytes) held h left = omega arith
still_held n (File r) held h left = (omega arith, omega (arith, held.1, length-drop n r.staged))

held-unless_spent : (b : Bool) (n : ℕ) (s : Segment) (ss : List Segment) → AllHeld (s ∷ ss) → n ≤ length (front_of_segment s) → (b ≡ false → segment_left (segment_after n s) ≡ 0 → ⊥)
    → AllHeld (if b then ss else segment_after n s ∷ ss)
held-unless_spent true n s ss held h left = held.1
held-unless_spent false n s ss held h left = (still_held n s held.0 h (left refl), held.1)

first-unless_spent : (b : Bool) (s : Segment) (ss : List Segment) → NoneStaged ss → FirstStaged (if b then ss else s ∷ ss)
first-unless_spent true s ss none = NoneStaged-first ss none
first-unless_spent false s ss none = none

is_left : (n : ℕ) → (n == 0) ≡ false → n ≡ 0 → ⊥
is_left n h z = grind (arith, nat_tests)

AllHeld-after : (n : ℕ) (segments : List Segment) → AllHeld segments → n ≤ length (front_of_segments segments) → AllHeld (segments_after n segments)
AllHeld-after n [] held h = tt
AllHeld-after n (s ∷ ss) held h = held-unless_spent (segment_left (segment_after n s) == 0) n s ss held h (is_left (segment_left (segment_after n s)))

FirstStaged-after : (n : ℕ) (segments : List Segment) → FirstStaged segments → FirstStaged (segments_after n segments)
FirstStaged-after n [] first = tt
FirstStaged-after n (s ∷ ss) first = first-unless_spent (segment_left (segment_after n s) == 0) (segment_after n s) ss first

pub after_within : (n : ℕ) (segments : List Segment) (len : ℕ) → IsPlain segments len → n ≤ length (front_of_segments segments) → n ≤ len
after_within n [] len had h = omega arith
after_within n (s ∷ ss) len had h = omega (arith, had.counts, front-within n s had.held.0 h, length-chunk_items s, length-append (chunk_items (chunk_of s)) (segment_items ss))

pub after_plain : (n : ℕ) (segments next : List Segment) (len : ℕ) → IsPlain segments len → n ≤ length (front_of_segments segments) → next ≡ segments_after n segments → IsPlain next (len - n)
after_plain n segments next len had h is = rw is (record {
  held = AllHeld-after n segments had.held h;
  first = FirstStaged-after n segments had.first;
  counts = omega (arith, had.counts, ap length (segment_items-after n segments had.held h), length-drop n (segment_items segments));
  fits = omega (arith, had.fits);
})

take-taken : (n : ℕ) (bytes : List ℕ) → take n bytes ≡ take (length (take n bytes)) bytes
take-taken zero bytes = refl
take-taken (suc n) [] = refl
take-taken (suc n) (byte ∷ bytes) = ap (λ (rest : List ℕ). byte ∷ rest) (take-taken n bytes)

-- what stands first in a segment
leads-memory : (most : ℕ) (byte : ℕ) (bytes : List ℕ) (items : List Item) → 0 < most
    → (1 ≤ length (take most (byte ∷ bytes))) × (map Byte (take most (byte ∷ bytes)) ≡ take (length (take most (byte ∷ bytes))) (map Byte (byte ∷ bytes) ++ items))
leads-memory most byte bytes items some =
    let n = length (take most (byte ∷ bytes)) in
    let size : length (take most (byte ∷ bytes)) ≤ length (map Byte (byte ∷ bytes)) = omega (arith, length-take most (byte ∷ bytes), length-map (byte ∷ bytes) Byte) in (
      omega (arith, length-take most (byte ∷ bytes)),
      ap (map Byte) (take-taken most (byte ∷ bytes)) ∙ sym (take-map Byte (length (take most (byte ∷ bytes))) (byte ∷ bytes)) ∙ sym (take-append-le (length (take most (byte ∷ bytes))) (map Byte (byte ∷ bytes)) items size),
    )

leads-range : (file start len : ℕ) (items : List Item) (staged : List ℕ) → 0 < len → Leads (range file start len ++ items) staged staged
leads-range file start zero items staged h = absurd (omega arith)
leads-range file start (suc len) items staged h = refl

pub front_leads : (segments : List Segment) → AllHeld segments → Leads (segment_items segments) (staged_in (chunks_of segments)) (front_of_segments segments)
front_leads [] held = refl
front_leads (Memory [] ∷ ss) held = absurd (omega arith)
front_leads (Memory (byte ∷ bytes) ∷ ss) held = leads-memory BUFFER_SIZE byte bytes (segment_items ss) (lit< tt)
front_leads (File r ∷ ss) held = leads-range r.file r.start r.len (segment_items ss) r.staged held.0.0

-- segments behind others are not staged
pub AllHeld-unstaged : (segments : List Segment) → AllHeld segments → AllHeld (segments_unstaged segments)
AllHeld-unstaged [] held = tt
AllHeld-unstaged (Memory bytes ∷ ss) held = held
AllHeld-unstaged (File r ∷ ss) held = ((held.0.0, omega arith), held.1)

pub NoneStaged-unstaged : (segments : List Segment) → FirstStaged segments → NoneStaged (segments_unstaged segments)
NoneStaged-unstaged [] first = tt
NoneStaged-unstaged (Memory bytes ∷ ss) first = (refl, first)
NoneStaged-unstaged (File r ∷ ss) first = (refl, first)

pub segment_items-unstaged : (segments : List Segment) → segment_items (segments_unstaged segments) ≡ segment_items segments
segment_items-unstaged [] = refl
segment_items-unstaged (Memory bytes ∷ ss) = refl
segment_items-unstaged (File r ∷ ss) = refl

AllHeld-joined : (a b : List Segment) → AllHeld a → AllHeld b → AllHeld (segments_joined a b)
AllHeld-joined [] b ha hb = hb
AllHeld-joined (s ∷ ss) b ha hb = AllHeld-append (s ∷ ss) (segments_unstaged b) ha (AllHeld-unstaged b hb)

FirstStaged-joined : (a b : List Segment) → FirstStaged a → FirstStaged b → FirstStaged (segments_joined a b)
FirstStaged-joined [] b fa fb = fb
FirstStaged-joined (s ∷ ss) b fa fb = NoneStaged-append ss (segments_unstaged b) fa (NoneStaged-unstaged b fb)

pub segment_items-joined : (a b : List Segment) → segment_items (segments_joined a b) ≡ segment_items a ++ segment_items b
segment_items-joined [] b = refl
segment_items-joined (s ∷ ss) b = segment_items-append (s ∷ ss) (segments_unstaged b) ∙ ap (λ (items : List Item). segment_items (s ∷ ss) ++ items) (segment_items-unstaged b)

behind_some : (items : List Item) (staged behind : List ℕ) → 0 < length items → staged_behind items staged behind ≡ staged
behind_some [] staged behind h = absurd (omega arith)
behind_some (item ∷ items) staged behind h = refl

some_items : (s : Segment) (ss : List Segment) → IsHeld s → 0 < length (segment_items (s ∷ ss))
some_items (Memory bytes) ss held = omega (arith, length-chunk_items (Memory bytes), length-append (chunk_items (chunk_of (Memory bytes))) (segment_items ss))
some_items (File r) ss held = omega (arith, held.0, length-chunk_items (File r), length-append (chunk_items (chunk_of (File r))) (segment_items ss))

pub staged_in-joined : (a b : List Segment) → AllHeld a → staged_in (chunks_of (segments_joined a b)) ≡ staged_behind (segment_items a) (staged_in (chunks_of a)) (staged_in (chunks_of b))
staged_in-joined [] b held = refl
staged_in-joined (s ∷ ss) b held =
    staged_in-head s (ss ++ segments_unstaged b) ∙ sym (staged_in-head s ss)
    ∙ sym (behind_some (segment_items (s ∷ ss)) (staged_in (chunks_of (s ∷ ss))) (staged_in (chunks_of b)) (some_items s ss held.0))

pub joined_plain : (a b next : List Segment) (m n : ℕ) → IsPlain a m → IsPlain b n → m + n < 2 ^ 63 → next ≡ segments_joined a b → IsPlain next (m + n)
joined_plain a b next m n ha hb fits is = rw is (record {
  held = AllHeld-joined a b ha.held hb.held;
  first = FirstStaged-joined a b ha.first hb.first;
  counts = omega (arith, ha.counts, hb.counts, ap length (segment_items-joined a b), length-append (segment_items a) (segment_items b));
  fits = fits;
})

-- each segment has an item
pub segments-within : (segments : List Segment) → AllHeld segments → length segments ≤ length (segment_items segments)
segments-within [] held = omega arith
segments-within (s ∷ ss) held = omega (arith, some_left s held.0, segments-within ss held.1, length-chunk_items s, length-append (chunk_items (chunk_of s)) (segment_items ss))
