-- Segments that are parted after their first items.
use Rattle.std.proofs.Common.{◌≡◌, ℕ, ◌+◌, ◌-◌, ◌^◌, ◌≤◌, ◌<◌, List, [], ◌∷◌, ◌++◌, length, take, drop, arith, ap, sym, ◌∙◌, refl, append_assoc}
use Rattle.std.proofs.Math.Seq.{take-append_seam, drop-append_seam, take-append-add, drop-append-add}
use Rattle.std.proofs.lemmas.List.{length-take, length-drop, length-append, append-nil, take-append-le, drop-append-le, take-map, drop-map}
use Rattle.std.specs.Prelude.{Result, Ok, Err, IfOk}
use Rattle.chunkqueue.specs.Items.{Item, Byte, Contents, chunk_items, items_of, count_of, staged_in, staged_behind}
use Rattle.chunkqueue.specs.Plain.{chunk_of, chunks_of, plain, segment_left, segment_front, segment_rest, first_left, part_of, rest_of, segments_unstaged, segments_joined, IsHeld, AllHeld, segment_staged, segment_items, NoneStaged, FirstStaged, IsPlain, IsPlace, IsPart}
use Rattle.chunkqueue.specs.declared.segment.Segment.{Segment}
use Rattle.chunkqueue.specs.declared.segment.Segment.TheVariants.{Memory, File}
use Rattle.chunkqueue.proofs.Calls.{counted}
use Rattle.chunkqueue.proofs.Ranges.{take-range, drop-range}
use Rattle.chunkqueue.proofs.Segments.{some_left, length-chunk_items, segment_items-append, segment_items-push, AllHeld-append, FirstStaged-push, NoneStaged-first, AllHeld-unstaged, NoneStaged-unstaged, NoneStaged-staged, segment_items-unstaged, segment_items-joined, joined_plain, segments-within}

-- items after those of a
pub take-parts : (a b : List Item) (n k : ℕ) → length a + k ≡ n → take n (a ++ b) ≡ a ++ take k b
take-parts a b n k h = rw (← h) (take-append-add a b k)

pub drop-parts : (a b : List Item) (n k : ℕ) → length a + k ≡ n → drop n (a ++ b) ≡ drop k b
drop-parts a b n k h = rw (← h) (drop-append-add a b k)

-- so far these segments lie in the first n items
pub record Placing (segments left : List Segment) (n count rest : ℕ) : Type 0 where
  pub front : List Segment
  pub parts : segments ≡ front ++ left
  pub size : length front ≡ count
  pub items : length (segment_items front) + rest ≡ n
  pub fits : count + rest ≤ n
  pub held : AllHeld left

pub placing_more : (segments left next : List Segment) (s : Segment) (n count rest len : ℕ) → Placing segments left n count rest → left ≡ s ∷ next → len ≡ segment_left s → len ≤ rest → Placing segments next n (count + 1) (rest - len)
placing_more segments left next s n count rest len had is same fits =
    let held : AllHeld (s ∷ next) = rw is at had.held in
    record {
      front = had.front ++ s ∷ [];
      parts = had.parts ∙ ap (λ (l : List Segment). had.front ++ l) is ∙ sym (append_assoc had.front (s ∷ []) next);
      size = omega (arith, had.size, length-append had.front (s ∷ []));
      items = omega (arith, had.items, ap length (segment_items-push had.front s), length-append (segment_items had.front) (chunk_items (chunk_of s)), length-chunk_items s);
      fits = omega (arith, had.fits, some_left s held.0);
      held = held.1;
    }

-- the first items of a segment, and the others
items-front : (k : ℕ) (s : Segment) → k ≤ segment_left s → chunk_items (chunk_of (segment_front k s)) ≡ take k (chunk_items (chunk_of s))
items-front k (Memory bytes) h = sym (take-map Byte k bytes)
items-front k (File r) h = sym (take-range r.file r.start r.len k h)

items-rest : (k : ℕ) (s : Segment) → k ≤ segment_left s → chunk_items (chunk_of (segment_rest k s)) ≡ drop k (chunk_items (chunk_of s))
items-rest k (Memory bytes) h = sym (drop-map Byte k bytes)
items-rest k (File r) h = sym (drop-range r.file r.start r.len k h)

held-front : (k : ℕ) (s : Segment) → 0 < k → k ≤ segment_left s → IsHeld (segment_front k s)
held-front k (Memory bytes) some h = omega (arith, length-take k bytes)
held-front k (File r) some h = (some, omega arith)

held-rest : (k : ℕ) (s : Segment) → k < segment_left s → IsHeld (segment_rest k s)
held-rest k (Memory bytes) h = omega (arith, length-drop k bytes)
held-rest k (File r) h = (omega arith, omega arith)

staged-front : (k : ℕ) (s : Segment) → segment_staged (segment_front k s) ≡ []
staged-front k (Memory bytes) = refl
staged-front k (File r) = refl

staged-rest : (k : ℕ) (s : Segment) → segment_staged (segment_rest k s) ≡ []
staged-rest k (Memory bytes) = refl
staged-rest k (File r) = refl

-- parts of segments are as the segments were
AllHeld-first : (a b : List Segment) → AllHeld (a ++ b) → AllHeld a
AllHeld-first [] b h = tt
AllHeld-first (s ∷ a) b h = (h.0, AllHeld-first a b h.1)

AllHeld-last : (a b : List Segment) → AllHeld (a ++ b) → AllHeld b
AllHeld-last [] b h = h
AllHeld-last (s ∷ a) b h = AllHeld-last a b h.1

NoneStaged-prefix : (a b : List Segment) → NoneStaged (a ++ b) → NoneStaged a
NoneStaged-prefix [] b h = tt
NoneStaged-prefix (s ∷ a) b h = (h.0, NoneStaged-prefix a b h.1)

NoneStaged-suffix : (a b : List Segment) → NoneStaged (a ++ b) → NoneStaged b
NoneStaged-suffix [] b h = h
NoneStaged-suffix (s ∷ a) b h = NoneStaged-suffix a b h.1

FirstStaged-prefix : (a b : List Segment) → FirstStaged (a ++ b) → FirstStaged a
FirstStaged-prefix [] b h = tt
FirstStaged-prefix (s ∷ a) b h = NoneStaged-prefix a b h

NoneStaged-behind : (a b : List Segment) → 0 < length a → FirstStaged (a ++ b) → NoneStaged b
NoneStaged-behind [] b some h = absurd (omega arith)
NoneStaged-behind (s ∷ a) b some h = NoneStaged-suffix a b h

FirstStaged-behind : (a b : List Segment) → FirstStaged (a ++ b) → FirstStaged b
FirstStaged-behind [] b h = h
FirstStaged-behind (s ∷ a) b h = NoneStaged-first b (NoneStaged-suffix a b h)

some_front : (a : List Segment) (n : ℕ) → length (segment_items a) ≡ n → 0 < n → 0 < length a
some_front [] n h some = absurd (omega arith)
some_front (s ∷ a) n h some = omega arith

whole : (a b : List Segment) (n : ℕ) → AllHeld (a ++ b) → FirstStaged (a ++ b) → 0 < n → length (segment_items a) ≡ n → IsPart (a ++ b) a b n
whole a b n held first some size = record {
  items = sym (ap (take n) (segment_items-append a b) ∙ take-parts (segment_items a) (segment_items b) n 0 (omega arith) ∙ append-nil (segment_items a));
  left = sym (ap (drop n) (segment_items-append a b) ∙ drop-parts (segment_items a) (segment_items b) n 0 (omega arith));
  held = AllHeld-first a b held;
  first = FirstStaged-prefix a b first;
  still = AllHeld-last a b held;
  none = NoneStaged-behind a b (some_front a n size some) first;
}

inside : (a b : List Segment) (n k : ℕ) → AllHeld (a ++ b) → FirstStaged (a ++ b) → 0 < k → k < first_left b → length (segment_items a) + k ≡ n → IsPart (a ++ b) (a ++ part_of k b) (rest_of k b) n
inside a [] n k held first some less size = absurd (omega arith)
inside a (s ∷ ss) n k held first some less size =
    let short : k ≤ length (chunk_items (chunk_of s)) = omega (arith, length-chunk_items s) in
    let ours : AllHeld (s ∷ ss) = AllHeld-last a (s ∷ ss) held in
    record {
      items = segment_items-push a (segment_front k s)
          ∙ ap (λ (i : List Item). segment_items a ++ i) (items-front k s (omega arith) ∙ sym (take-append-le k (chunk_items (chunk_of s)) (segment_items ss) short))
          ∙ sym (ap (take n) (segment_items-append a (s ∷ ss)) ∙ take-parts (segment_items a) (segment_items (s ∷ ss)) n k size);
      left = ap (λ (i : List Item). i ++ segment_items ss) (items-rest k s (omega arith)) ∙ sym (drop-append-le k (chunk_items (chunk_of s)) (segment_items ss) short)
          ∙ sym (ap (drop n) (segment_items-append a (s ∷ ss)) ∙ drop-parts (segment_items a) (segment_items (s ∷ ss)) n k size);
      held = AllHeld-append a (segment_front k s ∷ []) (AllHeld-first a (s ∷ ss) held) (held-front k s some (omega arith), tt);
      first = FirstStaged-push a (segment_front k s) (FirstStaged-prefix a (s ∷ ss) first) (staged-front k s);
      still = (held-rest k s less, ours.1);
      none = (staged-rest k s, FirstStaged-behind a (s ∷ ss) first);
    }

-- as the code finds the parts
place_front : (segments : List Segment) (n count left : ℕ) → (p : IsPlace segments n count left) → take count segments ≡ p.front
place_front segments n count left p = rw (← p.size, p.parts) (take-append_seam p.front p.back)

place_back : (segments : List Segment) (n count left : ℕ) → (p : IsPlace segments n count left) → drop count segments ≡ p.back
place_back segments n count left p = rw (← p.size, p.parts) (drop-append_seam p.front p.back)

pub part_whole : (segments front rest : List Segment) (n count left : ℕ) → IsPlace segments n count left → AllHeld segments → FirstStaged segments → 0 < n → left ≡ 0 → front ≡ take count segments → rest ≡ drop count segments → IsPart segments front rest n
part_whole segments front rest n count left p held first some none is_front is_rest =
    rw (is_front ∙ place_front segments n count left p, is_rest ∙ place_back segments n count left p, p.parts)
    (whole p.front p.back n (rw p.parts at held) (rw p.parts at first) some (omega (arith, p.items)))

pub part_inside : (segments front others result rest : List Segment) (n count left : ℕ) → IsPlace segments n count left → AllHeld segments → FirstStaged segments → 0 < left → front ≡ take count segments → others ≡ drop count segments
    → result ≡ front ++ part_of left others → rest ≡ rest_of left others → IsPart segments result rest n
part_inside segments front others result rest n count left p held first some is_front is_others is_result is_rest =
    let back = is_others ∙ place_back segments n count left p in
    rw (is_result, is_rest, is_front ∙ place_front segments n count left p, back, p.parts)
    (inside p.front p.back n left (rw p.parts at held) (rw p.parts at first) some (p.inside some) p.items)

first_within : (b : List Segment) → first_left b ≤ length (segment_items b)
first_within [] = omega arith
first_within (s ∷ ss) = omega (arith, length-chunk_items s, length-append (chunk_items (chunk_of s)) (segment_items ss))

pub place_whole : (segments : List Segment) (n count left : ℕ) → IsPlace segments n count left → n ≡ length (segment_items segments) → 0 < left → ⊥
place_whole segments n count left p all some =
    omega (arith, p.items, p.inside some, first_within p.back, ap (λ (l : List Segment). length (segment_items l)) p.parts, ap length (segment_items-append p.front p.back), length-append (segment_items p.front) (segment_items p.back))

-- what comes behind, and what is left
taken_items : (b front f rest : List Segment) (n : ℕ) → IsPart b front rest n → f ≡ segments_unstaged front → segment_items f ≡ take n (segment_items b)
taken_items b front f rest n part is = ap segment_items is ∙ segment_items-unstaged front ∙ part.items

pub taken_plain : (b front f rest : List Segment) (len n : ℕ) → IsPlain b len → IsPart b front rest n → n ≤ len → f ≡ segments_unstaged front → IsPlain f n
taken_plain b front f rest len n had part within is =
    let count : n ≡ length (segment_items f) = omega (arith, had.counts, length-take n (segment_items b), ap length (taken_items b front f rest n part is)) in
    record {
      held = rw is (AllHeld-unstaged front part.held);
      first = rw is (NoneStaged-first (segments_unstaged front) (NoneStaged-unstaged front part.first));
      counts = count;
      fits = omega (arith, had.fits);
    }

pub within_plain : (q : Contents) (b : List Segment) (len n : ℕ) → plain b ≡ q → IsPlain b len → n ≤ count_of q → n ≤ len
within_plain q b len n view had h = omega (arith, counted q b len view had)

pub stolen_fits : (q : Contents) (a f : List Segment) (m n : ℕ) → plain a ≡ q → IsPlain a m → IsPlain f n → count_of q + n < 2 ^ 63 → length a + length f < 2 ^ 63
stolen_fits q a f m n view ha hf fits = omega (arith, counted q a m view ha, ha.counts, hf.counts, segments-within a ha.held, segments-within f hf.held)

pub stolen_plain : (q : Contents) (a f next : List Segment) (m n : ℕ) → plain a ≡ q → IsPlain a m → IsPlain f n → count_of q + n < 2 ^ 63 → next ≡ segments_joined a f → IsPlain next (m + n)
stolen_plain q a f next m n view ha hf fits is = joined_plain a f next m n ha hf (omega (arith, counted q a m view ha)) is

pub stolen_items : (q more : Contents) (a b front f rest next : List Segment) (n : ℕ) → plain a ≡ q → plain b ≡ more → IsPart b front rest n → f ≡ segments_unstaged front → next ≡ segments_joined a f
    → segment_items next ≡ items_of q ++ take n (items_of more)
stolen_items q more a b front f rest next n view behind part is joined =
    ap segment_items joined ∙ segment_items-joined a f ∙ ap (λ (c : Contents). items_of c ++ segment_items f) view
    ∙ ap (λ (i : List Item). items_of q ++ i) (taken_items b front f rest n part is ∙ ap (λ (c : Contents). take n (items_of c)) behind)

pub left_staged : (b front rest : List Segment) (n : ℕ) → IsPart b front rest n → staged_in (chunks_of rest) ≡ []
left_staged b front rest n part = NoneStaged-staged rest part.none

none_behind : (segments : List Segment) (items : List Item) → segment_items segments ≡ items → AllHeld segments → staged_behind items (staged_in (chunks_of segments)) [] ≡ staged_in (chunks_of segments)
none_behind [] items is held = rw (← is) refl
none_behind (s ∷ ss) [] is held = absurd (omega (arith, ap length is, some_left s held.0, length-chunk_items s, length-append (chunk_items (chunk_of s)) (segment_items ss)))
none_behind (s ∷ ss) (item ∷ items) is held = refl

pub nothing_behind : (segments : List Segment) → AllHeld segments → staged_behind (segment_items segments) (staged_in (chunks_of segments)) [] ≡ staged_in (chunks_of segments)
nothing_behind segments held = none_behind segments (segment_items segments) refl held

pub IfOk-map : {T E : Type 0} {P Q : T → Type 0} → (r : Result T E) → ((t : T) → P t → Q t) → IfOk r P → IfOk r Q
IfOk-map (Ok value) f h = f value h
IfOk-map (Err error) f h = tt

pub few : (q : Contents) (b : List Segment) (len : ℕ) → plain b ≡ q → IsPlain b len → length b < 2 ^ 63
few q b len view had = omega (arith, had.counts, had.fits, segments-within b had.held)

length-unstaged : (b : List Segment) → length (segments_unstaged b) ≡ length b
length-unstaged [] = refl
length-unstaged (s ∷ ss) = refl

pub stolen_room : (q more : Contents) (a b front rest : List Segment) (m len n : ℕ) → plain a ≡ q → plain b ≡ more → IsPlain a m → IsPlain b len → IsPart b front rest n → n ≤ count_of more → count_of q + n < 2 ^ 63 → length a + length front < 2 ^ 63
stolen_room q more a b front rest m len n view behind ha hb part within fits =
    let f = segments_unstaged front in
    omega (arith, length-unstaged front, stolen_fits q a f m n view ha (taken_plain b front f rest len n hb part (within_plain more b len n behind hb within) refl) fits)

pub stolen_invariant : (q more : Contents) (a b front rest next : List Segment) (m len n : ℕ) → plain a ≡ q → plain b ≡ more → IsPlain a m → IsPlain b len → IsPart b front rest n → n ≤ count_of more → count_of q + n < 2 ^ 63
    → next ≡ segments_joined a (segments_unstaged front) → IsPlain next (m + n)
stolen_invariant q more a b front rest next m len n view behind ha hb part within fits is =
    let f = segments_unstaged front in
    stolen_plain q a f next m n view ha (taken_plain b front f rest len n hb part (within_plain more b len n behind hb within) refl) fits is
