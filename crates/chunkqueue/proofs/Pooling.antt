-- Lists of chunks: what stands in them, once the last one is changed or one more comes.
use Rattle.std.proofs.Common.{◌≡◌, ℕ, ◌+◌, ◌^◌, ◌≤◌, ◌<◌, List, [], ◌∷◌, ◌++◌, length, map, arith, ap, sym, ◌∙◌, refl, subst, append_assoc}
use Rattle.std.proofs.lemmas.List.{append-nil, length-append}
use Rattle.buffer_pool.specs.State.{ChunkState}
use Rattle.buffer_pool.specs.Edits.{blank, last_of, with_last, put_in, as_file}
use Rattle.buffer_pool.specs.declared.buffer.Kind.{Kind}
use Rattle.buffer_pool.specs.declared.buffer.Kind.TheVariants.{Bytes, File}
use Rattle.buffer_pool.specs.declared.buffer.TheConstants.{BUFFER_SIZE}
use Rattle.chunkqueue.specs.Items.{Item, Byte, range, chunk_items, staged_in}
use Rattle.chunkqueue.specs.Plain.{chunk_of, chunks_of, segment_staged, IsHeld, AllHeld, NoneStaged, FirstStaged}
use Rattle.chunkqueue.specs.Pooled.{segment_from, segment_of, segments_of, Ends, IsSound, AllSound, weight_from, weight_of, AllPaired, BehindPaired, IsTight, AllTight, BehindTight, AreKept, items_of_chunks, staged_of_chunks, Gains}
use Rattle.chunkqueue.specs.declared.merging.TheConstants.{MERGE_SIZE}
use Rattle.chunkqueue.specs.declared.segment.Segment.{Segment}
use Rattle.chunkqueue.specs.declared.segment.Segment.TheVariants as segment

-- a chunk in memory
pub as_memory : (x : ChunkState) → x.kind ≡ Bytes → segment_of x ≡ segment.Memory x.bytes
as_memory x e = ap (λ (k : Kind). segment_from k x.bytes) e

pub memory_weight : (x : ChunkState) → x.kind ≡ Bytes → weight_of x ≡ length x.bytes
memory_weight x e = ap (λ (k : Kind). weight_from k x.bytes) e

memory_ends : (x : ChunkState) → x.kind ≡ Bytes → Ends x.kind
memory_ends x e = subst Ends (sym e) tt

memory_held : (x : ChunkState) → x.kind ≡ Bytes → 0 < length x.bytes → IsHeld (segment_of x)
memory_held x e some = subst IsHeld (sym (as_memory x e)) some

memory_staged : (x : ChunkState) → x.kind ≡ Bytes → segment_staged (segment_of x) ≡ []
memory_staged x e = ap segment_staged (as_memory x e)

memory_items : (x : ChunkState) → x.kind ≡ Bytes → chunk_items (chunk_of (segment_of x)) ≡ map Byte x.bytes
memory_items x e = ap (λ (s : Segment). chunk_items (chunk_of s)) (as_memory x e)

pub staged_head : (s : Segment) (ss : List Segment) → staged_in (chunks_of (s ∷ ss)) ≡ segment_staged s
staged_head (segment.Memory bytes) ss = refl
staged_head (segment.File r) ss = refl

-- the last chunk is another one
AllSound-with_last : (l : List ChunkState) (x : ChunkState) → AllSound l → IsSound x → AllSound (with_last l x)
AllSound-with_last [] x h s = tt
AllSound-with_last (c ∷ []) x h s = (s, tt)
AllSound-with_last (c ∷ d ∷ l) x h s = (h.0, AllSound-with_last (d ∷ l) x h.1 s)

AllHeld-with_last : (l : List ChunkState) (x : ChunkState) → AllHeld (segments_of l) → IsHeld (segment_of x) → AllHeld (segments_of (with_last l x))
AllHeld-with_last [] x h s = tt
AllHeld-with_last (c ∷ []) x h s = (s, tt)
AllHeld-with_last (c ∷ d ∷ l) x h s = (h.0, AllHeld-with_last (d ∷ l) x h.1 s)

NoneStaged-with_last : (l : List ChunkState) (x : ChunkState) → NoneStaged (segments_of l) → segment_staged (segment_of x) ≡ [] → NoneStaged (segments_of (with_last l x))
NoneStaged-with_last [] x h s = tt
NoneStaged-with_last (c ∷ []) x h s = (s, tt)
NoneStaged-with_last (c ∷ d ∷ l) x h s = (h.0, NoneStaged-with_last (d ∷ l) x h.1 s)

FirstStaged-with_last : (l : List ChunkState) (x : ChunkState) → FirstStaged (segments_of l) → segment_staged (segment_of x) ≡ [] → FirstStaged (segments_of (with_last l x))
FirstStaged-with_last [] x h s = tt
FirstStaged-with_last (c ∷ []) x h s = tt
FirstStaged-with_last (c ∷ d ∷ l) x h s = NoneStaged-with_last (d ∷ l) x h s

AllPaired-with_last : (l : List ChunkState) (x : ChunkState) → AllPaired l → weight_of (last_of l) ≤ weight_of x → AllPaired (with_last l x)
AllPaired-with_last [] x h w = tt
AllPaired-with_last (c ∷ []) x h w = tt
AllPaired-with_last (c ∷ d ∷ []) x h w = (omega (arith, h.0, w), tt)
AllPaired-with_last (c ∷ d ∷ e ∷ l) x h w = (h.0, AllPaired-with_last (d ∷ e ∷ l) x h.1 w)

BehindPaired-with_last : (l : List ChunkState) (x : ChunkState) → BehindPaired l → weight_of (last_of l) ≤ weight_of x → BehindPaired (with_last l x)
BehindPaired-with_last [] x h w = tt
BehindPaired-with_last (c ∷ []) x h w = tt
BehindPaired-with_last (c ∷ d ∷ l) x h w = AllPaired-with_last (d ∷ l) x h w

AllTight-with_last : (l : List ChunkState) (x : ChunkState) → AllTight l → IsTight x → AllTight (with_last l x)
AllTight-with_last [] x h t = tt
AllTight-with_last (c ∷ []) x h t = (t, tt)
AllTight-with_last (c ∷ d ∷ l) x h t = (h.0, AllTight-with_last (d ∷ l) x h.1 t)

BehindTight-with_last : (l : List ChunkState) (x : ChunkState) → BehindTight l → (1 < length l → IsTight x) → BehindTight (with_last l x)
BehindTight-with_last [] x h t = tt
BehindTight-with_last (c ∷ []) x h t = tt
BehindTight-with_last (c ∷ d ∷ l) x h t = AllTight-with_last (d ∷ l) x h (t (omega arith))

all_tight : (l : List ChunkState) → 0 < length l → AllTight l → IsTight (last_of l)
all_tight [] some h = absurd (omega arith)
all_tight (c ∷ []) some h = h.0
all_tight (c ∷ d ∷ l) some h = all_tight (d ∷ l) (omega arith) h.1

-- behind the front the last chunk is tight
pub last_tight : (l : List ChunkState) → 1 < length l → BehindTight l → IsTight (last_of l)
last_tight [] some h = absurd (omega arith)
last_tight (c ∷ []) some h = absurd (omega arith)
last_tight (c ∷ d ∷ l) some h = all_tight (d ∷ l) (omega arith) h

items-with_last : (l : List ChunkState) (x : ChunkState) (more : List Item) → 0 < length l → chunk_items (chunk_of (segment_of x)) ≡ chunk_items (chunk_of (segment_of (last_of l))) ++ more
    → items_of_chunks (with_last l x) ≡ items_of_chunks l ++ more
items-with_last [] x more h e = absurd (omega arith)
items-with_last (c ∷ []) x more h e = append-nil (chunk_items (chunk_of (segment_of x))) ∙ e ∙ ap (λ (i : List Item). i ++ more) (sym (append-nil (chunk_items (chunk_of (segment_of c)))))
items-with_last (c ∷ d ∷ l) x more h e =
    ap (λ (i : List Item). chunk_items (chunk_of (segment_of c)) ++ i) (items-with_last (d ∷ l) x more (omega arith) e)
    ∙ sym (append_assoc (chunk_items (chunk_of (segment_of c))) (items_of_chunks (d ∷ l)) more)

staged-with_last : (l : List ChunkState) (x : ChunkState) → segment_staged (segment_of x) ≡ segment_staged (segment_of (last_of l)) → staged_of_chunks (with_last l x) ≡ staged_of_chunks l
staged-with_last [] x e = refl
staged-with_last (c ∷ []) x e = staged_head (segment_of x) [] ∙ e ∙ sym (staged_head (segment_of c) [])
staged-with_last (c ∷ d ∷ l) x e = staged_head (segment_of c) (segments_of (with_last (d ∷ l) x)) ∙ sym (staged_head (segment_of c) (segments_of (d ∷ l)))

pub map-joined : (a b : List ℕ) → map Byte (a ++ b) ≡ map Byte a ++ map Byte b
map-joined [] b = refl
map-joined (x ∷ a) b = ap (λ (i : List Item). Byte x ∷ i) (map-joined a b)

-- bytes come behind those of the last chunk
pub put_gains : (l : List ChunkState) (x : ChunkState) (bytes : List ℕ) → AreKept l → 0 < length l → (last_of l).kind ≡ Bytes → x.kind ≡ Bytes → x.bytes ≡ (last_of l).bytes ++ bytes → 0 < length bytes → IsSound x → (1 < length l → IsTight x)
    → Gains l (with_last l x) (map Byte bytes)
put_gains l x bytes had some last kind is more sound tight =
    let size : length x.bytes ≡ length (last_of l).bytes + length bytes = ap length is ∙ length-append (last_of l).bytes bytes in
    let none : segment_staged (segment_of x) ≡ [] = memory_staged x kind in
    let weight : weight_of (last_of l) ≤ weight_of x = omega (arith, memory_weight x kind, memory_weight (last_of l) last, size) in
    let items : chunk_items (chunk_of (segment_of x)) ≡ chunk_items (chunk_of (segment_of (last_of l))) ++ map Byte bytes
    = memory_items x kind ∙ ap (map Byte) is ∙ map-joined (last_of l).bytes bytes ∙ ap (λ (i : List Item). i ++ map Byte bytes) (sym (memory_items (last_of l) last)) in
    record {
      kept = record {
        held = AllHeld-with_last l x had.held (memory_held x kind (omega (arith, size, more)));
        first = FirstStaged-with_last l x had.first none;
        sound = AllSound-with_last l x had.sound sound;
        paired = BehindPaired-with_last l x had.paired weight;
        tight = BehindTight-with_last l x had.tight tight;
      };
      items = items-with_last l x (map Byte bytes) some items;
      staged = staged-with_last l x (none ∙ sym (memory_staged (last_of l) last));
    }

last_sound : (l : List ChunkState) → 0 < length l → AllSound l → IsSound (last_of l)
last_sound [] h s = absurd (omega arith)
last_sound (c ∷ []) h s = s.0
last_sound (c ∷ d ∷ l) h s = last_sound (d ∷ l) (omega arith) s.1

-- bytes that fit
pub filled_gains : (l : List ChunkState) (bytes : List ℕ) → AreKept l → 0 < length l → (last_of l).kind ≡ Bytes → 0 < length bytes → length bytes ≤ (last_of l).room → Gains l (with_last l (put_in (last_of l) bytes)) (map Byte bytes)
filled_gains l bytes had some last more fits =
    let c = last_of l in
    let size = length-append c.bytes bytes in
    let was = last_sound l some had.sound in
    put_gains l (put_in c bytes) bytes had some last last refl more (record {
      within = omega (arith, was.within, size, fits);
      roomy = λ none. absurd (omega (arith, none, size, more));
      ends = memory_ends c last;
    }) (λ behind. omega (arith, size, fits, last_tight l behind had.tight))

last_of-with_last : (l : List ChunkState) (x : ChunkState) → 0 < length l → last_of (with_last l x) ≡ x
last_of-with_last [] x h = absurd (omega arith)
last_of-with_last (c ∷ []) x h = refl
last_of-with_last (c ∷ d ∷ []) x h = refl
last_of-with_last (c ∷ d ∷ e ∷ l) x h = last_of-with_last (d ∷ e ∷ l) x (omega arith)

-- a chunk behind the others
AllSound-push : (l : List ChunkState) (x : ChunkState) → AllSound l → IsSound x → AllSound (l ++ x ∷ [])
AllSound-push [] x h s = (s, tt)
AllSound-push (c ∷ l) x h s = (h.0, AllSound-push l x h.1 s)

AllHeld-push : (l : List ChunkState) (x : ChunkState) → AllHeld (segments_of l) → IsHeld (segment_of x) → AllHeld (segments_of (l ++ x ∷ []))
AllHeld-push [] x h s = (s, tt)
AllHeld-push (c ∷ l) x h s = (h.0, AllHeld-push l x h.1 s)

NoneStaged-push : (l : List ChunkState) (x : ChunkState) → NoneStaged (segments_of l) → segment_staged (segment_of x) ≡ [] → NoneStaged (segments_of (l ++ x ∷ []))
NoneStaged-push [] x h s = (s, tt)
NoneStaged-push (c ∷ l) x h s = (h.0, NoneStaged-push l x h.1 s)

FirstStaged-push : (l : List ChunkState) (x : ChunkState) → FirstStaged (segments_of l) → segment_staged (segment_of x) ≡ [] → FirstStaged (segments_of (l ++ x ∷ []))
FirstStaged-push [] x h s = tt
FirstStaged-push (c ∷ l) x h s = NoneStaged-push l x h s

AllPaired-push : (l : List ChunkState) (x : ChunkState) → AllPaired l → (0 < length l → MERGE_SIZE < weight_of (last_of l) + weight_of x) → AllPaired (l ++ x ∷ [])
AllPaired-push [] x h w = tt
AllPaired-push (c ∷ []) x h w = (w (omega arith), tt)
AllPaired-push (c ∷ d ∷ l) x h w = (h.0, AllPaired-push (d ∷ l) x h.1 (λ some. w (omega arith)))

BehindPaired-push : (l : List ChunkState) (x : ChunkState) → BehindPaired l → (1 < length l → MERGE_SIZE < weight_of (last_of l) + weight_of x) → BehindPaired (l ++ x ∷ [])
BehindPaired-push [] x h w = tt
BehindPaired-push (c ∷ []) x h w = tt
BehindPaired-push (c ∷ d ∷ l) x h w = AllPaired-push (d ∷ l) x h (λ some. w (omega arith))

AllTight-push : (l : List ChunkState) (x : ChunkState) → AllTight l → IsTight x → AllTight (l ++ x ∷ [])
AllTight-push [] x h t = (t, tt)
AllTight-push (c ∷ l) x h t = (h.0, AllTight-push l x h.1 t)

BehindTight-push : (l : List ChunkState) (x : ChunkState) → BehindTight l → IsTight x → BehindTight (l ++ x ∷ [])
BehindTight-push [] x h t = tt
BehindTight-push (c ∷ l) x h t = AllTight-push l x h t

items-push : (l : List ChunkState) (x : ChunkState) → items_of_chunks (l ++ x ∷ []) ≡ items_of_chunks l ++ chunk_items (chunk_of (segment_of x))
items-push [] x = append-nil (chunk_items (chunk_of (segment_of x)))
items-push (c ∷ l) x =
    ap (λ (i : List Item). chunk_items (chunk_of (segment_of c)) ++ i) (items-push l x)
    ∙ sym (append_assoc (chunk_items (chunk_of (segment_of c))) (items_of_chunks l) (chunk_items (chunk_of (segment_of x))))

staged-push : (l : List ChunkState) (x : ChunkState) → segment_staged (segment_of x) ≡ [] → staged_of_chunks (l ++ x ∷ []) ≡ staged_of_chunks l
staged-push [] x e = staged_head (segment_of x) [] ∙ e
staged-push (c ∷ l) x e = staged_head (segment_of c) (segments_of (l ++ x ∷ [])) ∙ sym (staged_head (segment_of c) (segments_of l))

-- and what it brings
pub push_gains : (l : List ChunkState) (x : ChunkState) (more : List Item) → AreKept l → IsSound x → IsHeld (segment_of x) → segment_staged (segment_of x) ≡ [] → chunk_items (chunk_of (segment_of x)) ≡ more
    → (1 < length l → MERGE_SIZE < weight_of (last_of l) + weight_of x) → IsTight x → Gains l (l ++ x ∷ []) more
push_gains l x more had sound held none is apart tight = record {
  kept = record {
    held = AllHeld-push l x had.held held;
    first = FirstStaged-push l x had.first none;
    sound = AllSound-push l x had.sound sound;
    paired = BehindPaired-push l x had.paired apart;
    tight = BehindTight-push l x had.tight tight;
  };
  items = items-push l x ∙ ap (λ (i : List Item). items_of_chunks l ++ i) is;
  staged = staged-push l x none;
}

-- bytes in a chunk of their own
pub piece_gains : (l : List ChunkState) (n : ℕ) (bytes : List ℕ) → AreKept l → 0 < length bytes → length bytes ≤ BUFFER_SIZE → (1 < length l → MERGE_SIZE < weight_of (last_of l) + length bytes)
    → Gains l (l ++ put_in (blank n) bytes ∷ []) (map Byte bytes)
piece_gains l n bytes had some fits apart =
    push_gains l (put_in (blank n) bytes) (map Byte bytes) had
    (record { within = omega arith; roomy = λ none. absurd (omega (arith, none, some)); ends = tt }) some refl refl apart (omega (arith, fits))

weight_some : (k : Kind) (bytes : List ℕ) → IsHeld (segment_from k bytes) → 0 < weight_from k bytes
weight_some Bytes bytes held = held
weight_some (File file start len) bytes held = omega arith

pub last_weight : (l : List ChunkState) → 0 < length l → AllHeld (segments_of l) → 0 < weight_of (last_of l)
last_weight [] h s = absurd (omega arith)
last_weight (c ∷ []) h s = weight_some c.kind c.bytes s.0
last_weight (c ∷ d ∷ l) h s = last_weight (d ∷ l) (omega arith) s.1

-- a range in a chunk of its own
pub range_gains : (l : List ChunkState) (n file start len : ℕ) → AreKept l → 0 < len → start + len < 2 ^ 63 → Gains l (l ++ as_file (blank n) file start len ∷ []) (range file start len)
range_gains l n file start len had some ends =
    push_gains l (as_file (blank n) file start len) (range file start len) had
    (record { within = omega arith; roomy = λ none. refl; ends = ends }) (some, omega arith) refl refl (λ more. omega (arith, last_weight l (omega (arith, more)) had.held)) refl

-- more after more
pub gains_both : (l m n : List ChunkState) (a b : List Item) → Gains l m a → Gains m n b → Gains l n (a ++ b)
gains_both l m n a b one two = record {
  kept = two.kept;
  items = two.items ∙ ap (λ (i : List Item). i ++ b) one.items ∙ append_assoc (items_of_chunks l) a b;
  staged = two.staged ∙ one.staged;
}

-- bytes in a chunk of their own, as the code finds it
pub piece_as : (l m next : List ChunkState) (c x : ChunkState) (bytes : List ℕ) → AreKept l → 0 < length bytes → length bytes ≤ BUFFER_SIZE → m ≡ l
    → (1 < length l → MERGE_SIZE < weight_of (last_of l) + length bytes) → c ≡ blank c.number → x ≡ put_in c bytes → next ≡ m ++ x ∷ [] → Gains l next (map Byte bytes)
piece_as l m next c x bytes had some fits same apart empty put is =
    let now = is ∙ ap (λ (y : ChunkState). m ++ y ∷ []) (put ∙ ap (λ (y : ChunkState). put_in y bytes) empty) ∙ ap (λ (k : List ChunkState). k ++ put_in (blank c.number) bytes ∷ []) same in
    subst (λ (k : List ChunkState). Gains l k (map Byte bytes)) (sym now) (piece_gains l c.number bytes had some fits apart)

pub put_weight : (l next : List ChunkState) (bytes : List ℕ) → 0 < length l → (last_of l).kind ≡ Bytes → next ≡ with_last l (put_in (last_of l) bytes) → length bytes ≤ weight_of (last_of next)
put_weight l next bytes some last is =
    let x = put_in (last_of l) bytes in
    omega (arith, ap (λ (m : List ChunkState). weight_of (last_of m)) is, ap weight_of (last_of-with_last l x some), memory_weight x last, length-append (last_of l).bytes bytes)
