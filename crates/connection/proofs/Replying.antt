-- A body is accepted, taken over, and its request answered.
use Rattle.std.proofs.Common.{◌≡◌, ℕ, ◌+◌, ◌<◌, ◌≤◌, Bool, true, false, ◌&&◌, List, [], ◌∷◌, ◌++◌, length, map, codes, cond, Option, refl, ap, subst, ◌∙◌, length-append, arith}
use Rattle.std.proofs.lemmas.List.{length-map}
use Rattle.lt_world.specs.declared.files.FileId.{FileId}
use Rattle.chunkqueue.specs.Items.{Item, Byte, FileByte, Contents, items_of, count_of, staged_of, staged_behind, memory_front}
use Rattle.lt_http_body.specs.declared.standing.Standing.{Standing}
use Rattle.server_model.specs.Request.{Head}
use Rattle.server_model.specs.Reply.{continue_bytes, is_accepted}
use Rattle.server_model.specs.Steps.{is_in_memory, number_of}
use Rattle.connection.specs.declared.progress.Progress.{Progress}
use Rattle.connection.specs.declared.progress.Progress.TheVariants as progress
use Rattle.connection.specs.Connection.{content_at}
use Rattle.connection.specs.Stages.{is_whole}
use Rattle.connection.specs.Inside.{stage_by, IsAt, continue_size}

-- ---- 100 (Continue)

continue_length : (t : Bool) → length (cond t (codes "HTTP/1.1 100 Continue" ++ 13 ∷ 10 ∷ 13 ∷ 10 ∷ []) []) ≤ continue_size
continue_length true = let all : length (codes "HTTP/1.1 100 Continue" ++ 13 ∷ 10 ∷ 13 ∷ 10 ∷ []) ≡ 25 = refl in omega (arith, all)
continue_length false = omega arith

pub accept_rests : (number : ℕ) (p : Progress) (head : Head) (limit : ℕ) (s : Standing) (before after : Contents) (file : Option FileId) (told : List ℕ) → p ≡ progress.Heading head → IsAt number p before file
    → items_of after ≡ items_of before ++ map Byte told → told ≡ continue_bytes head limit → IsAt number (progress.Taking head s) after file
accept_rests number p head limit s before after file told is rests items says =
    let r : IsAt number (progress.Heading head) before file = subst (λ (q : Progress). IsAt number q before file) is rests in
    let none : count_of before ≡ 0 = ap (λ (l : List Item). length l) r.0 in
    (omega (arith, none, ap (λ (l : List Item). length l) items, length-append (items_of before) (map Byte told), length-map told Byte, ap (λ (l : List ℕ). length l) says, continue_length (head.expect && is_accepted head.framing limit)), r.1)

pub staged_fits : (before after : Contents) (more : List Item) → staged_of after ≡ staged_of before → items_of after ≡ items_of before ++ more → length (staged_of before) ≤ count_of before → length (staged_of after) ≤ count_of after
staged_fits before after more same items within = omega (arith, ap (λ (l : List ℕ). length l) same, ap (λ (l : List Item). length l) items, length-append (items_of before) more, within)

-- ---- content

items_again : (items : List Item) → is_in_memory items ≡ true → items ≡ map Byte (memory_front items)
items_again [] is = refl
items_again (Byte b ∷ items) is = ap (λ (l : List Item). Byte b ∷ l) (items_again items is)
items_again (FileByte file at ∷ items) is = absurd (cc)

pub content_whole : (number : ℕ) (p : Progress) (body : Contents) → is_in_memory (items_of body) ≡ true → is_whole (stage_by number p (memory_front (items_of body))) ≡ true
    → items_of body ≡ map Byte (content_at (stage_by number p (memory_front (items_of body))))
content_whole number (progress.Awaiting scan) body memory whole = absurd (cc)
content_whole number (progress.Heading request) body memory whole = absurd (cc)
content_whole number (progress.Taking request s) body memory whole = absurd (cc)
content_whole number (progress.Whole request) body memory whole = items_again (items_of body) memory
content_whole number (progress.Refused status) body memory whole = absurd (cc)
content_whole number (progress.Declined status request) body memory whole = absurd (cc)
content_whole number (progress.Answering last) body memory whole = absurd (cc)

-- ---- a reply

pub number_by : (number : ℕ) (p : Progress) (content : List ℕ) → number_of (stage_by number p content) ≡ number
number_by number (progress.Awaiting scan) content = refl
number_by number (progress.Heading request) content = refl
number_by number (progress.Taking request s) content = refl
number_by number (progress.Whole request) content = refl
number_by number (progress.Refused status) content = refl
number_by number (progress.Declined status request) content = refl
number_by number (progress.Answering last) content = refl

staged_first : (items : List Item) (staged behind : List ℕ) → 0 < length items → staged_behind items staged behind ≡ staged
staged_first [] staged behind some = absurd (omega (arith, some))
staged_first (item ∷ items) staged behind some = refl

-- a head comes behind what is owed, and then a whole queue
pub record Replied (before after : Contents) : Type 0 where
  pub some : 0 < count_of after
  pub staged : staged_of after ≡ staged_of before
  pub more : count_of before ≤ count_of after

pub replied : (before pushed body after : Contents) (head : List ℕ) → 0 < length head → items_of pushed ≡ items_of before ++ map Byte head → staged_of pushed ≡ staged_of before
    → items_of after ≡ items_of pushed ++ items_of body → staged_of after ≡ staged_behind (items_of pushed) (staged_of pushed) (staged_of body) → Replied before after
replied before pushed body after head some push same join behind =
    let long : count_of pushed ≡ count_of before + length head = ap (λ (l : List Item). length l) push ∙ length-append (items_of before) (map Byte head) ∙ ap (λ (n : ℕ). count_of before + n) (length-map head Byte) in
    let all : count_of after ≡ count_of pushed + count_of body = ap (λ (l : List Item). length l) join ∙ length-append (items_of pushed) (items_of body) in
    record {
      some = omega (arith, long, all, some);
      staged = behind ∙ staged_first (items_of pushed) (staged_of pushed) (staged_of body) (omega (arith, long, some)) ∙ same;
      more = omega (arith, long, all);
    }

pub not_none : (q : Contents) → 0 < count_of q → items_of q ≡ [] → ⊥
not_none q some none = let zero_of : count_of q ≡ 0 = ap (λ (l : List Item). length l) none in absurd (omega (arith, some, zero_of))
