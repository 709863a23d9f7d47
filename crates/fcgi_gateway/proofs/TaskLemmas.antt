-- Attempts that begin, that go on and that are answered.
use Rattle.std.proofs.Common.{◌≡◌, zero, suc, ℕ, ◌<◌, Bool, true, false, ◌||◌, List, [], ◌∷◌, ◌++◌, length, map, drop, refl, ap, sym, ◌∙◌, arith}
use Rattle.chunkqueue.specs.Items.{Item, Byte, FileByte, memory_front}
use Rattle.cgi_text.specs.declared.head.CgiHead.{CgiHead}
use Rattle.cgi_text.specs.Request.{RequestParts}
use Rattle.cgi_text.specs.Params.{params}
use Rattle.cgi_text.specs.Attempts.{Exchange, Heard, Partly, Fully, Breaks, Exceeds, AttemptResult, Answered, silence, with_input, over_with, result_by, result_of}
use Rattle.fcgi_records.specs.declared.state.State.{State}
use Rattle.fcgi_records.specs.declared.state.State.TheVariants.{Version}
use Rattle.fcgi_records.specs.Encoded.{header_of, begin_request}
use Rattle.fcgi_records.specs.Feeding.{AllInMemory}
use Rattle.fcgi_records.specs.Reading.{state_after, stdout_in, said_at}
use Rattle.fcgi_records.proofs.ReadingLemmas.{after_append, stdout_append}
use Rattle.fcgi_gateway.specs.Asked.{stream, asked, lead_of}
use Rattle.fcgi_gateway.specs.Heard.{heard, heard_of}
use Rattle.fcgi_gateway.specs.Progress.{heard_at}
use Rattle.fcgi_gateway.specs.Sending.{behind_header}
use Rattle.fcgi_gateway.specs.Task.{Task, IsAt}
use Rattle.fcgi_gateway.specs.declared.hearing.Progress.{Progress}
use Rattle.fcgi_gateway.specs.declared.hearing.Progress.TheVariants as kept
use Rattle.fcgi_gateway.proofs.AskedLemmas.{asked_splits}
use Rattle.fcgi_gateway.proofs.OverLemmas.{silent, none_read}

pub lead_some : (params lead : List ℕ) (size : ℕ) → lead ≡ lead_of params size → 0 < length lead
unfolding lead_of
lead_some params lead size is = omega (arith, ap (λ (l : List ℕ). length l) is)

-- what comes before the content, and the rest, are all that is asked
pub begins : (r : RequestParts) (body body' lead text : List ℕ) (size : ℕ) → lead ≡ lead_of text size → text ≡ params r → size ≡ length body → body' ≡ body → lead ++ behind_header body' ≡ asked r body
begins r body body' lead text size is of long same =
    ap (λ (l : List ℕ). lead ++ behind_header l) same
    ∙ ap (λ (l : List ℕ). l ++ behind_header body) (is ∙ ap (λ (l : List ℕ). lead_of l size) of ∙ ap (lead_of (params r)) long)
    ∙ sym (asked_splits r body)

pub begins_at : (asks : List ℕ) (t : Task) → t.unsent ≡ asks → t.begun ≡ false → t.over ≡ false → t.stands ≡ Version → t.stdout ≡ [] → t.heard ≡ Partly → IsAt asks silence t
begins_at asks t unsent begun over stands stdout told = record {
  sends = unsent;
  begun = begun;
  over = over;
  stands = stands ∙ none_read.0;
  stdout = stdout ∙ none_read.1;
  heard = told ∙ silent;
}

-- a task of which only what was heard has changed, by these bytes
pub record HasHeard (bytes : List ℕ) (t t' : Task) : Type 0 where
  pub unsent : t'.unsent ≡ t.unsent
  pub begun : t'.begun ≡ t.begun
  pub over : t'.over ≡ t.over
  pub stands : t'.stands ≡ state_after t.stands bytes
  pub stdout : t'.stdout ≡ t.stdout ++ stdout_in t.stands bytes
  pub heard : t'.heard ≡ heard_of (said_at (state_after t.stands bytes) t'.stdout)

heard_is : (input bytes : List ℕ) (ended : Bool) → heard_of (said_at (state_after (state_after Version input) bytes) (stdout_in Version input ++ stdout_in (state_after Version input) bytes)) ≡ heard (input ++ bytes) ended
unfolding heard
heard_is input bytes ended =
    ap (λ (s : State). heard_of (said_at s (stdout_in Version input ++ stdout_in (state_after Version input) bytes))) (sym (after_append Version input bytes))
    ∙ ap (λ (l : List ℕ). heard_of (said_at (state_after Version (input ++ bytes)) l)) (sym (stdout_append Version input bytes))

pub read_at : (asks : List ℕ) (e : Exchange) (t t' : Task) (bytes : List ℕ) → IsAt asks e t → HasHeard bytes t t' → IsAt asks (with_input bytes e) t'
read_at asks e t t' bytes is now =
    let stands_is : state_after t.stands bytes ≡ state_after (state_after Version e.input) bytes = ap (λ (s : State). state_after s bytes) is.stands in
    let stdout_is : t'.stdout ≡ stdout_in Version e.input ++ stdout_in (state_after Version e.input) bytes =
    now.stdout ∙ ap (λ (l : List ℕ). l ++ stdout_in t.stands bytes) is.stdout ∙ ap (λ (s : State). stdout_in Version e.input ++ stdout_in s bytes) is.stands in
    record {
      sends = ap (λ (l : List ℕ). e.output ++ l) now.unsent ∙ is.sends;
      begun = now.begun ∙ is.begun;
      over = now.over ∙ is.over;
      stands = now.stands ∙ stands_is ∙ sym (after_append Version e.input bytes);
      stdout = stdout_is ∙ sym (stdout_append Version e.input bytes);
      heard = now.heard
          ∙ ap (λ (s : State). heard_of (said_at s t'.stdout)) stands_is
          ∙ ap (λ (l : List ℕ). heard_of (said_at (state_after (state_after Version e.input) bytes) l)) stdout_is
          ∙ heard_is e.input bytes e.ended;
    }

-- ---- the answer

over_no_answer : (output : List ℕ) (head : CgiHead) (content : List ℕ) (P : Type 0) → over_with output ≡ Answered head content → P
over_no_answer [] head content P e = cc
over_no_answer (b ∷ output) head content P e = cc

fully_is : (h : Heard) (over : Bool) (output : List ℕ) (head : CgiHead) (content : List ℕ) → result_by h over output ≡ Answered head content → h ≡ Fully head content
fully_is Exceeds over output head content e = cc
fully_is (Fully r body) over output head content e = cc
fully_is Breaks over output head content e = over_no_answer output head content _ e
fully_is Partly true output head content e = over_no_answer output head content _ e
fully_is Partly false output head content e = cc

pub answer_is : (asks : List ℕ) (e : Exchange) (t : Task) (head : CgiHead) (content : List ℕ) → IsAt asks e t → result_of heard e ≡ Answered head content → t.heard ≡ Fully head content
answer_is asks e t head content is result = is.heard ∙ fully_is (heard e.input e.ended) (e.ended || e.failed) e.output head content result

drop_items : (n : ℕ) (items : List Item) → AllInMemory items → drop n items ≡ map Byte (drop n (memory_front items))
drop_items zero [] h = refl
drop_items zero (Byte b ∷ items) h = ap (λ (l : List Item). Byte b ∷ l) (drop_items zero items h)
drop_items n (FileByte file place ∷ items) h = absurd h
drop_items (suc n) [] h = refl
drop_items (suc n) (Byte b ∷ items) h = drop_items n items h

fully_same : (r head : CgiHead) (body content : List ℕ) → Fully r body ≡ Fully head content → (r ≡ head) × (body ≡ content)
fully_same r head body content e = (cc, cc)

pub handed : (items before after : List Item) (p : Progress) (r head : CgiHead) (content : List ℕ) → AllInMemory items → p ≡ kept.Fully r → heard_at (memory_front items) p ≡ Fully head content → after ≡ before ++ drop r.length items
    → (r ≡ head) × (after ≡ before ++ map Byte content)
handed items before after p r head content memory is told gained =
    let same = fully_same r head (drop r.length (memory_front items)) content (sym (ap (heard_at (memory_front items)) is) ∙ told) in
    (same.0, gained ∙ ap (λ (l : List Item). before ++ l) (drop_items r.length items memory ∙ ap (map Byte) same.1))
