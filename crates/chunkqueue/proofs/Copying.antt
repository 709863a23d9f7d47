-- A loop that copies bytes from segments into a buffer.
use Rattle.std.proofs.Common.{◌≡◌, ◌≢◌, ℕ, ◌+◌, ◌-◌, ◌≤◌, min, List, [], ◌∷◌, ◌++◌, length, take, drop, arith, ap, sym, ◌∙◌, refl, append_assoc}
use Rattle.std.proofs.lemmas.List.{length-take, length-append, take-append-le, drop-append-le, take_all, drop_all, take-append-drop, drop-drop}
use Rattle.chunkqueue.specs.Ranged.{Ranged}
use Rattle.chunkqueue.specs.Plain.{memory_before}
use Rattle.chunkqueue.specs.declared.segment.Segment.{Segment}
use Rattle.chunkqueue.specs.declared.segment.Segment.TheVariants.{Memory, File}

-- so far count bytes of all were copied, and these are left
pub record Copies (all left : List ℕ) (count : ℕ) (buf first : List ℕ) : Type 0 where
  pub parts : all ≡ take count buf ++ left
  pub rest : drop count buf ≡ drop count first
  pub size : length buf ≡ length first
  pub within : count ≤ length buf

-- all that there is room for was copied
pub record Copied (all : List ℕ) (count : ℕ) (buf first : List ℕ) : Type 0 where
  pub size : count ≡ min (length first) (length all)
  pub bytes : take count buf ≡ take count all
  pub rest : drop count buf ≡ drop count first

pub starts : (all first : List ℕ) → Copies all all 0 first first
starts all first = record { parts = refl; rest = refl; size = refl; within = omega arith }

taken : (count : ℕ) (buf left : List ℕ) → count ≤ length buf → take count (take count buf ++ left) ≡ take count buf
taken count buf left h =
    take-append-le count (take count buf) left (omega (arith, length-take count buf)) ∙ take_all count (take count buf) (omega (arith, length-take count buf))

-- nothing is left
pub copied_all : (all left : List ℕ) (count : ℕ) (buf first : List ℕ) → Copies all left count buf first → left ≡ [] → Copied all count buf first
copied_all all left count buf first had none = record {
  size = omega (arith, had.size, had.within, ap length had.parts, length-append (take count buf) left, length-take count buf, ap length none);
  bytes = sym (ap (take count) had.parts ∙ taken count buf left had.within);
  rest = had.rest;
}

-- the front of the buffer after a copy
front_taken : (count k : ℕ) (buf bytes : List ℕ) → count ≤ length buf → k ≤ length bytes → take (count + k) ((take count buf ++ take k bytes) ++ drop (count + k) buf) ≡ take count buf ++ take k bytes
front_taken count k buf bytes h i =
    let size : length (take count buf ++ take k bytes) ≡ count + k = omega (arith, length-append (take count buf) (take k bytes), length-take count buf, length-take k bytes) in
    take-append-le (count + k) (take count buf ++ take k bytes) (drop (count + k) buf) (omega arith) ∙ take_all (count + k) (take count buf ++ take k bytes) (omega arith)

back_dropped : (n : ℕ) (a b : List ℕ) → length a ≡ n → drop n (a ++ b) ≡ b
back_dropped n a b h = drop-append-le n a b (omega arith) ∙ ap (λ (c : List ℕ). c ++ b) (drop_all n a (omega arith))

drop-later : (count k : ℕ) (buf first : List ℕ) → drop count buf ≡ drop count first → drop (count + k) buf ≡ drop (count + k) first
drop-later count k buf first h = sym (drop-drop k count buf) ∙ ap (drop k) h ∙ drop-drop k count first

rest_kept : (count k : ℕ) (buf bytes first : List ℕ) → count ≤ length buf → k ≤ length bytes → drop count buf ≡ drop count first → drop (count + k) ((take count buf ++ take k bytes) ++ drop (count + k) buf) ≡ drop (count + k) first
rest_kept count k buf bytes first h i rest =
    back_dropped (count + k) (take count buf ++ take k bytes) (drop (count + k) buf) (omega (arith, length-append (take count buf) (take k bytes), length-take count buf, length-take k bytes)) ∙ drop-later count k buf first rest

whole_copied : (count k buf bytes new : ℕ) → k ≡ min (buf - count) bytes → new ≡ buf → count + k ≢ new → count ≤ buf → k ≡ bytes
whole_copied count k buf bytes new some size less within = omega arith

split_at : (count k : ℕ) (buf bytes left : List ℕ) → take count buf ++ (bytes ++ left) ≡ (take count buf ++ take k bytes) ++ (drop k bytes ++ left)
split_at count k buf bytes left =
    ap (λ (x : List ℕ). take count buf ++ (x ++ left)) (sym (take-append-drop k bytes))
    ∙ ap (λ (x : List ℕ). take count buf ++ x) (append_assoc (take k bytes) (drop k bytes) left)
    ∙ sym (append_assoc (take count buf) (take k bytes) (drop k bytes ++ left))

-- all the bytes of a segment were copied
pub copied_more : (all bytes left : List ℕ) (count k : ℕ) (buf new first : List ℕ) → Copies all (bytes ++ left) count buf first → k ≡ min (length buf - count) (length bytes) → new ≡ (take count buf ++ take k bytes) ++ drop (count + k) buf
    → length new ≡ length buf → count + k ≢ length new → Copies all left (count + k) new first
copied_more all bytes left count k buf new first had some is size less =
    let whole : k ≡ length bytes = whole_copied count k (length buf) (length bytes) (length new) some size less had.within in
    let within : k ≤ length bytes = omega arith in
    record {
      parts = had.parts ∙ sym (append_assoc (take count buf) bytes left)
          ∙ ap (λ (x : List ℕ). (take count buf ++ x) ++ left) (sym (take_all k bytes (omega arith)))
          ∙ ap (λ (x : List ℕ). x ++ left) (sym (ap (take (count + k)) is ∙ front_taken count k buf bytes had.within within));
      rest = ap (drop (count + k)) is ∙ rest_kept count k buf bytes first had.within within had.rest;
      size = size ∙ had.size;
      within = omega (arith, had.within);
    }

-- the buffer is full
pub copied_full : (all bytes left : List ℕ) (count k : ℕ) (buf new first : List ℕ) → Copies all (bytes ++ left) count buf first → k ≡ min (length buf - count) (length bytes) → new ≡ (take count buf ++ take k bytes) ++ drop (count + k) buf
    → length new ≡ length buf → count + k ≡ length new → Copied all (count + k) new first
copied_full all bytes left count k buf new first had some is size full =
    let within : k ≤ length bytes = omega arith in
    let parts : all ≡ (take count buf ++ take k bytes) ++ (drop k bytes ++ left) = had.parts ∙ split_at count k buf bytes left in
    let front : length (take count buf ++ take k bytes) ≡ count + k = omega (arith, length-append (take count buf) (take k bytes), length-take count buf, length-take k bytes, had.within) in
    record {
      size = omega (arith, had.size, ap length parts, length-append (take count buf ++ take k bytes) (drop k bytes ++ left));
      bytes = ap (take (count + k)) is ∙ front_taken count k buf bytes had.within within
          ∙ sym (ap (take (count + k)) parts ∙ take-append-le (count + k) (take count buf ++ take k bytes) (drop k bytes ++ left) (omega arith) ∙ take_all (count + k) (take count buf ++ take k bytes) (omega arith));
      rest = ap (drop (count + k)) is ∙ rest_kept count k buf bytes first had.within within had.rest;
    }

pub before-file : (segments rest : List Segment) (s : Segment) (r : Ranged) → segments ≡ s ∷ rest → s ≡ File r → memory_before segments ≡ []
before-file segments rest s r is file = rw (is, file) refl

pub before-memory : (segments rest : List Segment) (s : Segment) (memory bytes : List ℕ) → segments ≡ s ∷ rest → s ≡ Memory memory → bytes ≡ memory → memory_before segments ≡ bytes ++ memory_before rest
before-memory segments rest s memory bytes is memory_is same = rw (is, memory_is, same) refl

pub still_copies : (all left more : List ℕ) (count : ℕ) (buf first : List ℕ) → Copies all left count buf first → left ≡ more → Copies all more count buf first
still_copies all left more count buf first had same = rw (← same) had
