-- Bytes of the content behind the head.
use Rattle.std.proofs.Common.{◌≡◌, ℕ, zero, suc, ◌+◌, ◌-◌, ◌<◌, ◌≤◌, ◌==◌, Bool, false, cond, List, [], ◌∷◌, ◌++◌, length, take, drop, refl, sym, ap, ◌∙◌, subst, arith, length-take, length-drop, append-nil}
use Rattle.std.proofs.lemmas.Bool.Decides.{nat_tests}
use Rattle.std.proofs.lemmas.List.{drop_all, take_all}
use Rattle.chunkqueue.specs.Items.{Item, Byte, FileByte, Contents, items_of, count_of, Leads}
use Rattle.lt_http_body.specs.declared.standing.Standing.{Standing}
use Rattle.lt_http_body.specs.Standings as body
use Rattle.lt_http_body.specs.Reading as within
use Rattle.lt_http_body.specs.Feeding.{AllInMemory, bytes_of}
use Rattle.lt_http_body.specs.Feeding as fed
use Rattle.lt_http_body.proofs.FeedingLemmas.{bytes_count, take_items}
use Rattle.proxy_message.specs.declared.progress.Progress.{Progress}
use Rattle.proxy_message.specs.declared.stage.Stage.TheVariants as stage
use Rattle.proxy_message.specs.Progress.{with_stage, step}
use Rattle.proxy_message.specs.Reading.{progress_after, content_in, taken_in}
use Rattle.proxy_message.specs.Feeding.{Reads, Takes}
use Rattle.proxy_message.proofs.ReadingLemmas.{framed_after, framed_content, framed_taken}
use Rattle.proxy_message.proofs.FeedingLemmas.{reads_by}

-- what is taken of a body of its own definition
pub framed_takes : (p : Progress) (old new : Standing) (input body input' body' : Contents) → fed.Takes old input body new input' body'
    → Takes (with_stage p (stage.Framed old)) input body (with_stage p (stage.Framed new)) input' body'
framed_takes p old new input body input' body' t = record {
  moved = t.moved;
  reads = record {
    count = t.reads.count;
    within = t.reads.within;
    carries = t.reads.carries;
    rest = t.reads.rest;
    stands = framed_after p old (bytes_of input) ∙ ap (λ (s : Standing). with_stage p (stage.Framed s)) t.reads.stands ∙ sym (framed_after p new (bytes_of input'));
    reads = framed_content p old (bytes_of input) ∙ t.reads.reads ∙ ap (λ (l : List ℕ). t.moved ++ l) (sym (framed_content p new (bytes_of input')));
    counts = framed_taken p old (bytes_of input) ∙ t.reads.counts ∙ ap (λ (n : ℕ). t.reads.count + n) (sym (framed_taken p new (bytes_of input')));
  };
  gained = t.gained;
}

taken_some : (s : Standing) (bytes : List ℕ) → body.is_over s.state ≡ false → 0 < length bytes → 0 < within.taken_in s bytes
unfolding within.taken_in
taken_some s [] going some = absurd (omega arith)
taken_some s (b ∷ bytes) going some = omega (arith, ap {B = ℕ} (λ (t : Bool). cond t 0 1) going)

-- a body that goes on takes a byte
pub framed_less : (s : Standing) (input input' : Contents) → AllInMemory (items_of input) → 0 < count_of input → body.is_over s.state ≡ false
    → items_of input' ≡ drop (within.taken_in s (bytes_of input)) (items_of input) → count_of input' < count_of input
framed_less s input input' memory some going rest =
    let long : length (bytes_of input) ≡ count_of input = bytes_count (items_of input) memory in
    omega (arith, ap length rest, length-drop (within.taken_in s (bytes_of input)) (items_of input), taken_some s (bytes_of input) going (omega (arith, long, some)), some)

-- ---- a body that goes on up to the end of the link

-- the first n bytes are of the body, behind which the answer stands there
record Gives (p : Progress) (bytes : List ℕ) (n : ℕ) (behind : Progress) : Type 0 where
  pub stands : progress_after p bytes ≡ progress_after behind (drop n bytes)
  pub reads : content_in p bytes ≡ take n bytes ++ content_in behind (drop n bytes)
  pub counts : taken_in p bytes ≡ n + taken_in behind (drop n bytes)

is_some : (n : ℕ) → (suc n == 0) ≡ false
is_some n = grind (arith, nat_tests)

one_less : (n : ℕ) → suc n - 1 ≡ n
one_less n = omega arith

left_step : (p : Progress) (left b : ℕ) → step (with_stage p (stage.ToEnd (suc left))) b ≡ with_stage p (stage.ToEnd left)
unfolding step
left_step p left b = ap (λ (t : Bool). with_stage p (cond t stage.TooLarge (stage.ToEnd (suc left - 1)))) (is_some left) ∙ ap (λ (n : ℕ). with_stage p (stage.ToEnd n)) (one_less left)

gives : (p : Progress) (bytes : List ℕ) (n left total : ℕ) → n + left ≡ total → n ≤ length bytes → Gives (with_stage p (stage.ToEnd total)) bytes n (with_stage p (stage.ToEnd left))
unfolding progress_after content_in taken_in
gives p bytes zero left total sum inside =
    let same : left ≡ total = omega (arith, sum) in
    subst (λ (m : ℕ). Gives (with_stage p (stage.ToEnd m)) bytes 0 (with_stage p (stage.ToEnd left))) same (record { stands = refl; reads = refl; counts = omega arith })
gives p [] (suc n) left total sum inside = absurd (omega arith)
gives p (b ∷ bytes) (suc n) left zero sum inside = absurd (omega arith)
gives p (b ∷ bytes) (suc n) left (suc total) sum inside =
    let rest : Gives (with_stage p (stage.ToEnd total)) bytes n (with_stage p (stage.ToEnd left)) = gives p bytes n left total (omega (arith, sum)) (omega arith) in
    let next = left_step p total b in
    record {
      stands = ap (λ (q : Progress). progress_after q bytes) next ∙ rest.stands;
      reads = ap (λ (t : Bool). cond t [] (b ∷ []) ++ content_in (step (with_stage p (stage.ToEnd (suc total))) b) bytes) (is_some total)
          ∙ ap (λ (q : Progress). b ∷ content_in q bytes) next ∙ ap (λ (l : List ℕ). b ∷ l) rest.reads;
      counts = omega (arith, ap (λ (q : Progress). taken_in q bytes) next, rest.counts);
    }

-- bytes within the limit
pub to_end_takes : (p : Progress) (left n : ℕ) (input body input' body' : Contents) → AllInMemory (items_of input) → n ≤ left → n ≤ count_of input
    → items_of body' ≡ items_of body ++ take n (items_of input) → items_of input' ≡ drop n (items_of input)
    → Takes (with_stage p (stage.ToEnd left)) input body (with_stage p (stage.ToEnd (left - n))) input' body'
to_end_takes p left n input body input' body' memory within inside gained rest =
    let bytes : List ℕ = bytes_of input in
    let g = gives p bytes n (left - n) left (omega (arith, within)) (omega (arith, inside, bytes_count (items_of input) memory)) in
    record {
      moved = take n bytes;
      reads = reads_by (with_stage p (stage.ToEnd left)) (with_stage p (stage.ToEnd (left - n))) input input' n (take n bytes) memory inside (omega (arith, length-take n bytes)) rest g.stands g.reads g.counts;
      gained = gained ∙ ap (λ (l : List Item). items_of body ++ l) (take_items n (items_of input) memory);
    }

-- the first byte above the limit is none of the body
pub above_takes : (p : Progress) (left : ℕ) (input body input' : Contents) → AllInMemory (items_of input) → left ≡ 0 → 0 < count_of input
    → items_of input' ≡ drop 1 (items_of input) → Takes (with_stage p (stage.ToEnd left)) input body (with_stage p stage.TooLarge) input' body
unfolding progress_after content_in taken_in step
above_takes p left input body input' memory none some rest =
    subst (λ (n : ℕ). Takes (with_stage p (stage.ToEnd n)) input body (with_stage p stage.TooLarge) input' body) (sym none) (record {
      moved = [];
      reads = by (bytes_of input) refl;
      gained = sym (append-nil (items_of body));
    })
  where
    by : (bytes : List ℕ) → bytes_of input ≡ bytes → Reads (with_stage p (stage.ToEnd 0)) input (with_stage p stage.TooLarge) input' []
    by [] is = absurd (omega (arith, ap length is, bytes_count (items_of input) memory, some))
    by (b ∷ bytes) is =
        reads_by (with_stage p (stage.ToEnd 0)) (with_stage p stage.TooLarge) input input' 1 [] memory (omega (arith, some)) (omega arith) rest
        (ap (progress_after (with_stage p (stage.ToEnd 0))) is ∙ ap (λ (l : List ℕ). progress_after (with_stage p stage.TooLarge) (drop 1 l)) (sym is))
        (ap (content_in (with_stage p (stage.ToEnd 0))) is ∙ ap (λ (l : List ℕ). content_in (with_stage p stage.TooLarge) (drop 1 l)) (sym is))
        (ap (taken_in (with_stage p (stage.ToEnd 0))) is ∙ ap (λ (l : List ℕ). 1 + taken_in (with_stage p stage.TooLarge) (drop 1 l)) (sym is))

-- a byte stands at the front
pub front_some : (items : List Item) (staged front : List ℕ) → AllInMemory items → 0 < length items → Leads items staged front → 1 ≤ length front
front_some [] staged front memory some leads = absurd (omega arith)
front_some (Byte b ∷ items) staged front memory some leads = leads.0
front_some (FileByte file at ∷ items) staged front memory some leads = absurd memory

-- all bytes are of the body
pub to_end_stands : (p : Progress) (left : ℕ) (bytes : List ℕ) → length bytes ≤ left → progress_after (with_stage p (stage.ToEnd left)) bytes ≡ with_stage p (stage.ToEnd (left - length bytes))
unfolding progress_after
to_end_stands p left bytes fits =
    let g = gives p bytes (length bytes) (left - length bytes) left (omega (arith, fits)) (omega arith) in
    g.stands ∙ ap (progress_after (with_stage p (stage.ToEnd (left - length bytes)))) (drop_all (length bytes) bytes (omega arith))

pub to_end_content : (p : Progress) (left : ℕ) (bytes : List ℕ) → length bytes ≤ left → content_in (with_stage p (stage.ToEnd left)) bytes ≡ bytes
unfolding content_in
to_end_content p left bytes fits =
    let g = gives p bytes (length bytes) (left - length bytes) left (omega (arith, fits)) (omega arith) in
    g.reads ∙ ap (λ (l : List ℕ). take (length bytes) bytes ++ content_in (with_stage p (stage.ToEnd (left - length bytes))) l) (drop_all (length bytes) bytes (omega arith))
    ∙ append-nil (take (length bytes) bytes) ∙ take_all (length bytes) bytes (omega arith)
