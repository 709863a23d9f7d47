-- Chunks of one list that come behind those of another.
use Rattle.std.proofs.Common.{suc, ◌≡◌, ℕ, ◌+◌, ◌≤◌, ◌<◌, List, [], ◌∷◌, ◌++◌, length, take, drop, arith, ap, sym, ◌∙◌, refl, subst, append_assoc}
use Rattle.std.proofs.lemmas.List.{append-nil, length-append, length-map}
use Rattle.buffer_pool.specs.State.{ChunkState, PoolState}
use Rattle.buffer_pool.specs.Edits.{first_of, last_of, packed}
use Rattle.buffer_pool.specs.Kept.{places, Kept}
use Rattle.buffer_pool.specs.declared.buffer.Kind.{Kind}
use Rattle.buffer_pool.specs.declared.buffer.Kind.TheVariants.{Bytes, File}
use Rattle.buffer_pool.proofs.Keeping.{places_append}
use Rattle.chunkqueue.specs.Items.{Item, Byte, chunk_items, staged_behind}
use Rattle.chunkqueue.specs.Plain.{chunk_of, segment_staged, AllHeld, NoneStaged, FirstStaged}
use Rattle.chunkqueue.specs.Pooled.{segment_from, segment_of, segments_of, AllSound, weight_from, weight_of, AllPaired, BehindPaired, IsSound, IsTight, AllTight, BehindTight, AreKept, CanFollow, Gains, FillsOnly, items_of_chunks, staged_of_chunks}
use Rattle.chunkqueue.specs.declared.merging.TheConstants.{MERGE_SIZE}
use Rattle.chunkqueue.proofs.Pooling.{push_gains, last_weight, staged_head, gains_both}
use Rattle.chunkqueue.proofs.Segments.{segments-within}

-- a chunk behind the others
pub follow_gains : (l next : List ChunkState) (c d : ChunkState) → AreKept l → CanFollow (c ∷ []) → d ≡ packed c → next ≡ l ++ d ∷ [] → (1 < length l → MERGE_SIZE < weight_of (last_of l) + weight_of c) → Gains l next (items_of_chunks (c ∷ []))
follow_gains l next c d had can tight is apart = subst (λ (m : List ChunkState). Gains l m (items_of_chunks (c ∷ []))) (sym (is ∙ ap (λ (x : ChunkState). l ++ x ∷ []) tight))
    (push_gains l (packed c) (items_of_chunks (c ∷ [])) had sound can.held.0 can.none.0 (sym (append-nil (chunk_items (chunk_of (segment_of c))))) apart (omega (arith, can.sound.0.within))) where
      sound : IsSound (packed c)
      sound = record { within = omega (arith, can.sound.0.within); roomy = λ none. omega (arith, none); ends = can.sound.0.ends }

-- a chunk that is tight is packed
pub tight_packed : (c : ChunkState) → IsTight c → c ≡ packed c
tight_packed c tight = ap (λ (room : ℕ). record c { room = room }) (omega (arith, tight))

-- a range holds nothing
none_held : (k : Kind) (bytes : List ℕ) (file start len : ℕ) → k ≡ File file start len → segment_staged (segment_from k bytes) ≡ [] → bytes ≡ []
none_held k bytes file start len e none = subst (λ (j : Kind). segment_staged (segment_from j bytes) ≡ []) e none

pub range_packed : (c : ChunkState) (file start len : ℕ) → c.kind ≡ File file start len → CanFollow (c ∷ []) → c ≡ packed c
range_packed c file start len e can =
    let none : length c.bytes ≡ 0 = ap length (none_held c.kind c.bytes file start len e can.none.0) in
    tight_packed c (omega (arith, none, can.sound.0.roomy none))

-- what is copied of a chunk that moves is no more than moves
held_within : (k : Kind) (bytes : List ℕ) → segment_staged (segment_from k bytes) ≡ [] → length bytes ≤ length (chunk_items (chunk_of (segment_from k bytes)))
held_within Bytes bytes none = omega (arith, length-map bytes Byte)
held_within (File file start len) bytes none = omega (arith, ap length none)

pub moves_held : (from rest : List ChunkState) (c : ChunkState) → CanFollow from → from ≡ c ∷ rest → length c.bytes + length (items_of_chunks rest) ≤ length (items_of_chunks from)
moves_held from rest c can is = let all : CanFollow (c ∷ rest) = subst CanFollow is can in
    omega (arith, ap (λ (l : List ChunkState). length (items_of_chunks l)) is, length-append (chunk_items (chunk_of (segment_of c))) (items_of_chunks rest), held_within c.kind c.bytes all.none.0)

file_weight : (k : Kind) (bytes : List ℕ) (file start len : ℕ) → k ≡ File file start len → weight_from k bytes ≡ MERGE_SIZE
file_weight k bytes file start len e = ap (λ (j : Kind). weight_from j bytes) e

-- a range is never merged
pub range_apart : (l : List ChunkState) (c : ChunkState) (file start len : ℕ) → AreKept l → c.kind ≡ File file start len → 1 < length l → MERGE_SIZE < weight_of (last_of l) + weight_of c
range_apart l c file start len had e some = omega (arith, file_weight c.kind c.bytes file start len e, last_weight l (omega (arith, some)) had.held)

pub last_of-push : (l next : List ChunkState) (x : ChunkState) → next ≡ l ++ x ∷ [] → last_of next ≡ x
last_of-push l next x is = ap last_of is ∙ last_push l x where
  last_push : (m : List ChunkState) (y : ChunkState) → last_of (m ++ y ∷ []) ≡ y
  last_push [] y = refl
  last_push (c ∷ []) y = refl
  last_push (c ∷ d ∷ m) y = last_push (d ∷ m) y

-- its weight stays
pub packed_last : (l next : List ChunkState) (c d : ChunkState) → d ≡ packed c → next ≡ l ++ d ∷ [] → weight_of c ≤ weight_of (last_of next)
packed_last l next c d tight is = omega (arith, ap weight_of (last_of-push l next d is), ap weight_of tight)

-- nor is its number another one
pub pushed_kept : (p q : PoolState) (l next : List ℕ) (m n k : ℕ) → FillsOnly p q k → m ≡ n → next ≡ l ++ m ∷ [] → Kept p (l ++ n ∷ []) q next
pushed_kept p q l next m n k only same is = rw (is, same) (record {
  rises = omega (arith, only.made);
  counts = λ j. grind (arith, ap (places j) only.free, only.made);
  total = omega (arith, only.made, ap length only.free);
})

-- a chunk whose bytes were merged is free again
pub merged_kept : (p q r : PoolState) (l next : List ℕ) (n m : ℕ) → FillsOnly p q m → next ≡ l → Kept q (n ∷ []) r [] → Kept p (l ++ n ∷ []) r next
merged_kept p q r l next n m only e given = rw e (record {
  rises = omega (arith, only.made, given.rises);
  counts = λ k. grind (arith, places_append k l (n ∷ []), given.counts k, ap (places k) only.free, only.made);
  total = omega (arith, only.made, ap length only.free, given.total, length-append l (n ∷ []));
})

-- one chunk went from one list to the other
pub moved_kept : (p q : PoolState) (l next from rest : List ℕ) (n : ℕ) → from ≡ n ∷ rest → Kept p (l ++ n ∷ []) q next → Kept p (l ++ from) q (next ++ rest)
moved_kept p q l next from rest n e one = rw e (record {
  rises = one.rises;
  counts = λ k. omega (arith, one.counts k, places_append k l (n ∷ []), places_append k l (n ∷ rest), places_append k next rest);
  total = omega (arith, one.total, length-append l (n ∷ []), length-append l (n ∷ rest), length-append next rest);
})

AllSound-append : (l m : List ChunkState) → AllSound l → AllSound m → AllSound (l ++ m)
AllSound-append [] m hl hm = hm
AllSound-append (c ∷ l) m hl hm = (hl.0, AllSound-append l m hl.1 hm)

AllTight-append : (l m : List ChunkState) → AllTight l → AllTight m → AllTight (l ++ m)
AllTight-append [] m hl hm = hm
AllTight-append (c ∷ l) m hl hm = (hl.0, AllTight-append l m hl.1 hm)

BehindTight-append : (l m : List ChunkState) → 0 < length l → BehindTight l → AllTight m → BehindTight (l ++ m)
BehindTight-append [] m some hl hm = absurd (omega arith)
BehindTight-append (c ∷ l) m some hl hm = AllTight-append l m hl hm

AllHeld-append : (l m : List ChunkState) → AllHeld (segments_of l) → AllHeld (segments_of m) → AllHeld (segments_of (l ++ m))
AllHeld-append [] m hl hm = hm
AllHeld-append (c ∷ l) m hl hm = (hl.0, AllHeld-append l m hl.1 hm)

NoneStaged-append : (l m : List ChunkState) → NoneStaged (segments_of l) → NoneStaged (segments_of m) → NoneStaged (segments_of (l ++ m))
NoneStaged-append [] m hl hm = hm
NoneStaged-append (c ∷ l) m hl hm = (hl.0, NoneStaged-append l m hl.1 hm)

AllPaired-append : (l m : List ChunkState) → AllPaired l → AllPaired m → (0 < length l → 0 < length m → MERGE_SIZE < weight_of (last_of l) + weight_of (first_of m)) → AllPaired (l ++ m)
AllPaired-append [] m hl hm w = hm
AllPaired-append (c ∷ []) [] hl hm w = tt
AllPaired-append (c ∷ []) (d ∷ m) hl hm w = (w (omega arith) (omega arith), hm)
AllPaired-append (c ∷ d ∷ l) m hl hm w = (hl.0, AllPaired-append (d ∷ l) m hl.1 hm (λ some more. w (omega arith) more))

BehindPaired-append : (l m : List ChunkState) → 0 < length l → BehindPaired l → AllPaired m → (0 < length m → MERGE_SIZE < weight_of (last_of l) + weight_of (first_of m)) → BehindPaired (l ++ m)
BehindPaired-append [] m some hl hm w = absurd (omega arith)
BehindPaired-append (c ∷ []) m some hl hm w = hm
BehindPaired-append (c ∷ d ∷ l) m some hl hm w = AllPaired-append (d ∷ l) m hl hm (λ first more. w more)

FirstStaged-append : (l m : List ChunkState) → 0 < length l → FirstStaged (segments_of l) → NoneStaged (segments_of m) → FirstStaged (segments_of (l ++ m))
FirstStaged-append [] m some hl hm = absurd (omega arith)
FirstStaged-append (c ∷ l) m some hl hm = NoneStaged-append l m hl hm

pub items_of_chunks-append : (l m : List ChunkState) → items_of_chunks (l ++ m) ≡ items_of_chunks l ++ items_of_chunks m
items_of_chunks-append [] m = refl
items_of_chunks-append (c ∷ l) m = ap (λ (i : List Item). chunk_items (chunk_of (segment_of c)) ++ i) (items_of_chunks-append l m) ∙ sym (append_assoc (chunk_items (chunk_of (segment_of c))) (items_of_chunks l) (items_of_chunks m))

staged-append : (l m : List ChunkState) → 0 < length l → staged_of_chunks (l ++ m) ≡ staged_of_chunks l
staged-append [] m some = absurd (omega arith)
staged-append (c ∷ l) m some = staged_head (segment_of c) (segments_of (l ++ m)) ∙ sym (staged_head (segment_of c) (segments_of l))

-- the rest behind
pub rest_gains : (l m : List ChunkState) → AreKept l → 0 < length l → AllHeld (segments_of m) → NoneStaged (segments_of m) → AllSound m → AllPaired m → (0 < length m → MERGE_SIZE < weight_of (last_of l) + weight_of (first_of m)) → AllTight m
    → Gains l (l ++ m) (items_of_chunks m)
rest_gains l m had some held none sound paired apart tight = record {
  kept = record {
    held = AllHeld-append l m had.held held;
    first = FirstStaged-append l m some had.first none;
    sound = AllSound-append l m had.sound sound;
    paired = BehindPaired-append l m some had.paired paired apart;
    tight = BehindTight-append l m some had.tight tight;
  };
  items = items_of_chunks-append l m;
  staged = staged-append l m some;
}

-- first, second and rest of the chunks that come behind
pub behind_gains : (l a b n from mid last : List ChunkState) → AreKept l → CanFollow from → Gains l a (items_of_chunks (take 1 from)) → mid ≡ drop 1 from → Gains a b (items_of_chunks (take 1 mid)) → 0 < length b
    → (0 < length mid → weight_of (first_of mid) ≤ weight_of (last_of b)) → last ≡ drop 1 mid → n ≡ b ++ last → Gains l n (items_of_chunks from)
behind_gains l a b n [] mid last had can one e two some w f is =
    subst (λ (m : List ChunkState). Gains l m []) (sym (is ∙ ap (λ (m : List ChunkState). b ++ m) (f ∙ ap (drop 1) e) ∙ append-nil b)) (gains_both l a b [] [] one (subst (λ (m : List ChunkState). Gains a b (items_of_chunks (take 1 m))) e two))
behind_gains l a b n (x ∷ []) mid last had can one e two some w f is =
    subst (λ (m : List ChunkState). Gains l m (items_of_chunks (x ∷ []))) (sym (is ∙ ap (λ (m : List ChunkState). b ++ m) (f ∙ ap (drop 1) e) ∙ append-nil b))
    (subst (λ (i : List Item). Gains l b i) (append-nil (items_of_chunks (x ∷ []))) (gains_both l a b (items_of_chunks (x ∷ [])) [] one (subst (λ (m : List ChunkState). Gains a b (items_of_chunks (take 1 m))) e two)))
behind_gains l a b n (x ∷ y ∷ r) mid last had can one e two some w f is =
    let is_mid : mid ≡ y ∷ r = e in
    let weight : weight_of y ≤ weight_of (last_of b) = omega (arith, (rw is_mid at w) (omega arith)) in
    let now : n ≡ b ++ r = is ∙ ap (λ (m : List ChunkState). b ++ m) (f ∙ ap (drop 1) e) in
    let second : Gains a b (items_of_chunks (y ∷ [])) = subst (λ (m : List ChunkState). Gains a b (items_of_chunks (take 1 m))) e two in
    let both = gains_both l a b (items_of_chunks (x ∷ [])) (items_of_chunks (y ∷ [])) one second in
    let all = gains_both l b (b ++ r) (items_of_chunks (x ∷ []) ++ items_of_chunks (y ∷ [])) (items_of_chunks r) both
    (rest_gains b r second.kept some can.held.1.1 can.none.1.1 can.sound.1.1 (tail_paired y r can.paired) (next_apart y r (weight_of (last_of b)) weight can.paired) can.tight.1) in
    subst (λ (m : List ChunkState). Gains l m (items_of_chunks (x ∷ y ∷ r))) (sym now) (subst (λ (i : List Item). Gains l (b ++ r) i) (three x y r) all) where
      tail_paired : (y : ChunkState) (r : List ChunkState) → AllPaired (y ∷ r) → AllPaired r
      tail_paired y [] h = tt
      tail_paired y (z ∷ r) h = h.1

      next_apart : (y : ChunkState) (r : List ChunkState) (k : ℕ) → weight_of y ≤ k → AllPaired (y ∷ r) → 0 < length r → MERGE_SIZE < k + weight_of (first_of r)
      next_apart y [] k h p some = absurd (omega arith)
      next_apart y (z ∷ r) k h p some = omega (arith, p.0)

      three : (x y : ChunkState) (r : List ChunkState) → (items_of_chunks (x ∷ []) ++ items_of_chunks (y ∷ [])) ++ items_of_chunks r ≡ items_of_chunks (x ∷ y ∷ r)
      three x y r =
          ap (λ (i : List Item). i ++ items_of_chunks r) (λ i. append-nil (chunk_items (chunk_of (segment_of x))) i ++ append-nil (chunk_items (chunk_of (segment_of y))) i)
          ∙ append_assoc (chunk_items (chunk_of (segment_of x))) (chunk_items (chunk_of (segment_of y))) (items_of_chunks r)

front_stays : (items : List Item) (staged behind : List ℕ) → 0 < length items → staged ≡ staged_behind items staged behind
front_stays [] staged behind h = absurd (omega arith)
front_stays (item ∷ items) staged behind h = refl

pub length-segments_of : (l : List ChunkState) → length (segments_of l) ≡ length l
length-segments_of [] = refl
length-segments_of (c ∷ l) = ap suc (length-segments_of l)

-- what is staged in front stays
pub behind_staged : (l : List ChunkState) (behind : List ℕ) → AreKept l → 0 < length l → staged_of_chunks l ≡ staged_behind (items_of_chunks l) (staged_of_chunks l) behind
behind_staged l behind had some = front_stays (items_of_chunks l) (staged_of_chunks l) behind (omega (arith, some, length-segments_of l, segments-within (segments_of l) had.held))
