-- What the calls of a plain queue make of its segments.
use Rattle.std.proofs.Common.{zero, suc, ◌≡◌, ℕ, ◌+◌, ◌==◌, ◌^◌, ◌≤◌, ◌<◌, List, [], ◌∷◌, ◌++◌, length, drop, map, Bool, false, arith, ap, sym, ◌∙◌, refl}
use Rattle.std.proofs.lemmas.Bool.Decides.{nat_tests}
use Rattle.chunkqueue.specs.Ranged.{Ranged}
use Rattle.chunkqueue.specs.Items.{Item, Byte, Contents, range, items_of, count_of, staged_of, front_of, staged_in, memory_front, Leads, staged_behind}
use Rattle.chunkqueue.specs.Plain.{chunks_of, plain, front_of_segments, segments_after, segments_joined, segment_items, memory_before, AllHeld, IsPlain}
use Rattle.chunkqueue.specs.declared.segment.Segment.{Segment}
use Rattle.chunkqueue.specs.declared.segment.Segment.TheVariants.{Memory, File}
use Rattle.chunkqueue.proofs.Segments.{pushed_items, pushed_plain, front_leads, segment_items-after, staged_in-after, after_within, segment_items-joined, staged_in-joined, joined_plain, segments-within}

pub counted : (q : Contents) (segments : List Segment) (len : ℕ) → plain segments ≡ q → IsPlain segments len → count_of q ≡ len
counted q segments len view had = ap count_of (sym view) ∙ sym had.counts

not_empty : (n : ℕ) (b : Bool) → b ≡ (n == 0) → b ≡ false → 0 < n
not_empty n b is false_is = grind (arith, nat_tests)

-- bytes at the end
pub pushed_bytes : (q : Contents) (segments next : List Segment) (memory bytes : List ℕ) → plain segments ≡ q → next ≡ segments ++ Memory memory ∷ [] → memory ≡ bytes → segment_items next ≡ items_of q ++ map Byte bytes
pushed_bytes q segments next memory bytes view is same = pushed_items q segments next (Memory memory) view is ∙ ap (λ (b : List ℕ). items_of q ++ map Byte b) same

pub with_bytes : (q : Contents) (segments next : List Segment) (len : ℕ) (memory bytes : List ℕ) (empty : Bool) → plain segments ≡ q → IsPlain segments len → next ≡ segments ++ Memory memory ∷ [] → memory ≡ bytes
    → empty ≡ (length bytes == 0) → empty ≡ false → count_of q + length bytes < 2 ^ 63 → IsPlain next (len + length bytes)
with_bytes q segments next len memory bytes empty view had is same test some fits =
    pushed_plain segments next len (length bytes) (Memory memory) had is (omega (arith, ap length same, not_empty (length bytes) empty test some)) refl (ap length same) (omega (arith, counted q segments len view had))

-- a range at the end
pub pushed_range : (q : Contents) (segments next : List Segment) (made r : Ranged) → plain segments ≡ q → next ≡ segments ++ File made ∷ [] → made ≡ r → segment_items next ≡ items_of q ++ range r.file r.start r.len
pushed_range q segments next made r view is same = pushed_items q segments next (File made) view is ∙ ap (λ (x : Ranged). items_of q ++ range x.file x.start x.len) same

pub with_range : (q : Contents) (segments next : List Segment) (len : ℕ) (made r : Ranged) → plain segments ≡ q → IsPlain segments len → next ≡ segments ++ File made ∷ [] → made ≡ r
    → r.staged ≡ [] → 0 < r.len → count_of q + r.len < 2 ^ 63 → IsPlain next (len + r.len)
with_range q segments next len made r view had is same none some fits =
    let staged : made.staged ≡ [] = ap (λ (x : Ranged). x.staged) same ∙ none in
    let left : made.len ≡ r.len = ap (λ (x : Ranged). x.len) same in
    pushed_plain segments next len r.len (File made) had is (omega arith, omega (arith, ap length staged)) staged left (omega (arith, counted q segments len view had))

-- segments behind others
pub joined_fits : (q more : Contents) (a b : List Segment) (m n : ℕ) → plain a ≡ q → plain b ≡ more → IsPlain a m → IsPlain b n → count_of q + count_of more < 2 ^ 63 → length a + length b < 2 ^ 63
joined_fits q more a b m n view behind ha hb fits = omega (arith, counted q a m view ha, counted more b n behind hb, ha.counts, hb.counts, segments-within a ha.held, segments-within b hb.held)

pub joined_as : (q more : Contents) (a b next : List Segment) (m n : ℕ) → plain a ≡ q → plain b ≡ more → IsPlain a m → IsPlain b n → next ≡ segments_joined a b → count_of q + count_of more < 2 ^ 63 → IsPlain next (m + n)
joined_as q more a b next m n view behind ha hb is fits = joined_plain a b next m n ha hb (omega (arith, counted q a m view ha, counted more b n behind hb)) is

pub joined_items : (q more : Contents) (a b next : List Segment) → plain a ≡ q → plain b ≡ more → next ≡ segments_joined a b → segment_items next ≡ items_of q ++ items_of more
joined_items q more a b next view behind is = ap segment_items is ∙ segment_items-joined a b ∙ ap (λ (c : Contents). items_of c ++ segment_items b) view ∙ ap (λ (c : Contents). items_of q ++ items_of c) behind

pub joined_staged : (q more : Contents) (a b next : List Segment) (m : ℕ) → plain a ≡ q → plain b ≡ more → IsPlain a m → next ≡ segments_joined a b → staged_in (chunks_of next) ≡ staged_behind (items_of q) (staged_of q) (staged_of more)
joined_staged q more a b next m view behind ha is =
    ap (λ (s : List Segment). staged_in (chunks_of s)) is ∙ staged_in-joined a b ha.held
    ∙ ap (λ (c : Contents). staged_behind (items_of c) (staged_of c) (staged_in (chunks_of b))) view ∙ ap (λ (c : Contents). staged_behind (items_of q) (staged_of q) (staged_of c)) behind

-- what can leave
pub leads : (q : Contents) (segments : List Segment) (len : ℕ) (front : List ℕ) → plain segments ≡ q → IsPlain segments len → front ≡ front_of_segments segments → Leads (items_of q) (staged_of q) front
leads q segments len front view had is = rw (← view, is) (front_leads segments had.held)

front_is : (segments : List Segment) → front_of (plain segments) ≡ front_of_segments segments
front_is [] = refl
front_is (Memory bytes ∷ ss) = refl
front_is (File r ∷ ss) = refl

pub front-fits : (q : Contents) (segments : List Segment) (n : ℕ) → plain segments ≡ q → n ≤ length (front_of q) → n ≤ length (front_of_segments segments)
front-fits q segments n view h = omega (arith, ap length (front_is segments), ap (λ (c : Contents). length (front_of c)) view)

-- without the first
pub after_fits : (q : Contents) (segments : List Segment) (len n : ℕ) → plain segments ≡ q → IsPlain segments len → n ≤ length (front_of q) → n ≤ len
after_fits q segments len n view had h = after_within n segments len had (front-fits q segments n view h)

pub after_items : (q : Contents) (segments next : List Segment) (len n : ℕ) → plain segments ≡ q → IsPlain segments len → next ≡ segments_after n segments → n ≤ length (front_of q) → segment_items next ≡ drop n (items_of q)
after_items q segments next len n view had is h =
    ap segment_items is ∙ segment_items-after n segments had.held (front-fits q segments n view h) ∙ ap (λ (c : Contents). drop n (items_of c)) view

pub after_staged : (q : Contents) (segments next : List Segment) (len n : ℕ) → plain segments ≡ q → IsPlain segments len → next ≡ segments_after n segments → n ≤ length (front_of q) → staged_in (chunks_of next) ≡ drop n (staged_of q)
after_staged q segments next len n view had is h =
    ap (λ (s : List Segment). staged_in (chunks_of s)) is ∙ staged_in-after n segments had.held had.first (front-fits q segments n view h) ∙ ap (λ (c : Contents). drop n (staged_of c)) view

-- bytes in memory before any range
front-bytes : (bytes : List ℕ) (items : List Item) → memory_front (map Byte bytes ++ items) ≡ bytes ++ memory_front items
front-bytes [] items = refl
front-bytes (byte ∷ bytes) items = ap (λ (rest : List ℕ). byte ∷ rest) (front-bytes bytes items)

front-range : (file start len : ℕ) (items : List Item) → 0 < len → memory_front (range file start len ++ items) ≡ []
front-range file start zero items some = absurd (omega arith)
front-range file start (suc len) items some = refl

memory-before : (segments : List Segment) → AllHeld segments → memory_front (segment_items segments) ≡ memory_before segments
memory-before [] held = refl
memory-before (Memory bytes ∷ ss) held = front-bytes bytes (segment_items ss) ∙ ap (λ (rest : List ℕ). bytes ++ rest) (memory-before ss held.1)
memory-before (File r ∷ ss) held = front-range r.file r.start r.len (segment_items ss) held.0.0

pub peeked : (q : Contents) (segments : List Segment) (len : ℕ) → plain segments ≡ q → IsPlain segments len → memory_before segments ≡ memory_front (items_of q)
peeked q segments len view had = sym (memory-before segments had.held) ∙ ap (λ (c : Contents). memory_front (items_of c)) view
