-- Which bytes a refused or unfinished body goes on with.
use Rattle.std.proofs.Common.{◌≡◌, ◌≢◌, ◌⊎◌, inl, inr, suc, ℕ, ◌+◌, ◌-◌, ◌≤◌, Bool, true, false, cond, List, [], ◌∷◌, ◌++◌, length, take, drop, Option, None, refl, ap, sym, ◌∙◌, length-append, length-drop, drop_of_length-le, arith}
use Rattle.std.proofs.lemmas.Bool.{false≢true}
use Rattle.lt_http_body.specs.declared.state.State.{State}
use Rattle.lt_http_body.specs.declared.state.State.TheVariants as state
use Rattle.lt_http_body.specs.declared.standing.Standing.{Standing}
use Rattle.lt_http_body.specs.Standings.{at, step, is_over}
use Rattle.lt_http_body.specs.Sound.{IsSoundState}
use Rattle.lt_http_body.specs.Reading.{standing_after, taken_in}
use Rattle.lt_http_body.specs.Grammar.{Chunk, ChunkedBody, IsChunkedBody, print, Fits, room_behind}
use Rattle.lt_http_body.specs.Laws.{Begins}
use Rattle.lt_http_body.proofs.ReadingLemmas.{after_append, taken_append, rests}
use Rattle.lt_http_body.proofs.Printed.{body_then}
use Rattle.lt_http_body.proofs.Stepping.{sound_step, step_agrees, large_step, no_digits}
use Rattle.lt_http_body.proofs.Viable.{Viable, viable}
use Rattle.lt_http_body.proofs.Whole.{over_cases, whole_next}

abbrev first : Option ℕ → Standing
first room = at room (state.Size 0 0)

pub sound_after : (room : Option ℕ) (s : State) (bytes : List ℕ) → IsSoundState s → IsSoundState (standing_after (at room s) bytes).state
unfolding standing_after
sound_after room s [] sound = sound
sound_after room s (b ∷ bytes) sound = sound_after (step (at room s) b).room (step (at room s) b).state bytes (sound_step room s b sound)

over_after : (room : Option ℕ) (s : State) (bytes : List ℕ) → is_over s ≡ true → (standing_after (at room s) bytes).state ≡ s
over_after room s bytes over = ap (λ (x : Standing). x.state) (rests room s bytes over).0

-- a limit changes nothing but that the sum may be too large
agrees : (room : Option ℕ) (s : State) (bytes : List ℕ) → (standing_after (at room s) bytes).state ≢ state.TooLarge → standing_after (at None s) bytes ≡ at None (standing_after (at room s) bytes).state
unfolding standing_after
agrees room s [] fits = refl
agrees room s (b ∷ bytes) fits = by (step_agrees room s b) (agrees (step (at room s) b).room (step (at room s) b).state bytes fits)
  where
    by : ((step (at room s) b).state ≡ state.TooLarge) ⊎ (step (at None s) b ≡ at None (step (at room s) b).state)
        → standing_after (at None (step (at room s) b).state) bytes ≡ at None (standing_after (step (at room s) b) bytes).state
        → standing_after (step (at None s) b) bytes ≡ at None (standing_after (step (at room s) b) bytes).state
    by (inl large) next =
        let over : is_over (step (at room s) b).state ≡ true = ap is_over large in
        absurd (fits (over_after (step (at room s) b).room (step (at room s) b).state bytes over ∙ large))
    by (inr same) next = ap (λ (x : Standing). standing_after x bytes) same ∙ next

-- all bytes are the body's own where it goes on
own_all : (room : Option ℕ) (s : State) (bytes : List ℕ) → is_over (standing_after (at room s) bytes).state ≡ false → taken_in (at room s) bytes ≡ length bytes
unfolding standing_after taken_in
own_all room s [] on = refl
own_all room s (b ∷ bytes) on = over_cases s _
    (λ over. absurd (false≢true (sym on ∙ ap is_over (over_after room s (b ∷ bytes) over) ∙ over)))
    (λ open_is. ap (λ (x : Bool). cond x 0 1 + taken_in (step (at room s) b) bytes) open_is ∙ omega (arith, own_all (step (at room s) b).room (step (at room s) b).state bytes on))

-- the last byte of its own is the one with which it is over
pub record Over (room : Option ℕ) (s : State) (bytes : List ℕ) : Type 0 where
  pub before : ℕ
  pub taken : taken_in (at room s) bytes ≡ suc before
  pub inside : suc before ≤ length bytes
  pub own : taken_in (at room s) (take (suc before) bytes) ≡ suc before
  pub on : is_over (standing_after (at room s) (take before bytes)).state ≡ false
  pub stands : standing_after (at room s) (take (suc before) bytes) ≡ standing_after (at room s) bytes
  pub large : (standing_after (at room s) bytes).state ≡ state.TooLarge → is_over (standing_after (at None s) (take (suc before) bytes)).state ≡ false

pub over_at : (room : Option ℕ) (s : State) (bytes : List ℕ) → IsSoundState s → is_over s ≡ false → is_over (standing_after (at room s) bytes).state ≡ true → Over room s bytes
unfolding standing_after taken_in
over_at room s [] sound open_is over = absurd (false≢true (sym open_is ∙ over))
over_at room s (b ∷ bytes) sound open_is over =
    let t : Standing = step (at room s) b in
    over_cases t.state (Over room s (b ∷ bytes))
    (λ here. let r = rests t.room t.state bytes here in record {
      before = 0;
      inside = omega arith;
      own = ap (λ (x : Bool). cond x 0 1 + 0) open_is;
      taken = ap (λ (x : Bool). cond x 0 1 + taken_in t bytes) open_is ∙ omega (arith, r.2);
      on = open_is;
      stands = sym r.0;
      large = λ e. large_step room s b sound open_is (ap (λ (x : Standing). x.state) (sym r.0) ∙ e);
    })
    (λ later. let o : Over t.room t.state bytes = over_at t.room t.state bytes (sound_step room s b sound) later over in record {
      before = suc o.before;
      inside = omega (arith, o.inside);
      own = ap (λ (x : Bool). cond x 0 1 + taken_in t (take (suc o.before) bytes)) open_is ∙ omega (arith, o.own);
      taken = ap (λ (x : Bool). cond x 0 1 + taken_in t bytes) open_is ∙ omega (arith, o.taken);
      on = o.on;
      stands = o.stands;
      large = λ e. more_large (step_agrees room s b) later o e;
    })
  where
    more_large : ((step (at room s) b).state ≡ state.TooLarge) ⊎ (step (at None s) b ≡ at None (step (at room s) b).state) → is_over (step (at room s) b).state ≡ false → (o : Over (step (at room s) b).room (step (at room s) b).state bytes)
        → (standing_after (step (at room s) b) bytes).state ≡ state.TooLarge → is_over (standing_after (step (at None s) b) (take (suc o.before) bytes)).state ≡ false
    more_large (inl large) later o e = absurd (false≢true (sym later ∙ ap is_over large))
    more_large (inr same) later o e = ap (λ (x : Standing). is_over (standing_after x (take (suc o.before) bytes)).state) same ∙ o.large e

-- bytes behind which the body goes on begin one
pub begins : (bytes : List ℕ) → is_over (standing_after (first None) bytes).state ≡ false → Begins bytes
unfolding standing_after taken_in
begins bytes on =
    let s : State = (standing_after (first None) bytes).state in
    let fits : s ≢ state.TooLarge = λ e. false≢true (sym on ∙ ap is_over e) in
    let good : s ≢ state.BadChunk = λ e. false≢true (sym on ∙ ap is_over e) in
    let here : standing_after (first None) bytes ≡ at None s = agrees None (state.Size 0 0) bytes fits in
    let v : Viable s = viable s (sound_after None (state.Size 0 0) bytes no_digits) good fits in
    let all : List ℕ = bytes ++ v.more in
    let whole : standing_after (first None) all ≡ at None state.Whole = after_append (first None) bytes v.more ∙ ap (λ (x : Standing). standing_after x v.more) here ∙ v.goes.stands in
    let n = whole_next None all (ap (λ (x : Standing). x.state) whole) in
    let few : length v.more - v.goes.count ≡ 0 = sym (length-drop v.goes.count v.more) ∙ ap length v.goes.left in
    let taken : taken_in (first None) all ≡ length bytes + v.goes.count =
    taken_append (first None) bytes v.more ∙ omega (arith, own_all None (state.Size 0 0) bytes on, ap (λ (x : Standing). taken_in x v.more) here, v.goes.counts) in
    let rest : drop (taken_in (first None) all) all ≡ [] = drop_of_length-le all {i = taken_in (first None) all} (omega (arith, taken, few, length-append bytes v.more)) in
    record { body = n.body; more = v.more; is = n.is; spelled = n.spelled ∙ ap (print n.body) rest }

-- a whole body, with a limit that it keeps and without one
pub reads_whole : (room : Option ℕ) (body : ChunkedBody) (rest : List ℕ) → IsChunkedBody body → Fits room body.chunks → (standing_after (first room) (print body rest)).state ≡ state.Whole
reads_whole room body rest is fits =
    let g = body_then room body rest is fits in
    ap (λ (x : Standing). x.state) g.stands ∙ over_after (room_behind room body.chunks) state.Whole rest refl

pub fits_all : (chunks : List Chunk) → Fits None chunks
fits_all [] = tt
fits_all (chunk ∷ chunks) = (refl, fits_all chunks)

-- bytes behind which a body is refused begin no body
pub bad_begins_none : (room : Option ℕ) (bytes more rest : List ℕ) (body : ChunkedBody) → (standing_after (first room) bytes).state ≡ state.BadChunk → IsChunkedBody body → bytes ++ more ≡ print body rest → ⊥
bad_begins_none room bytes more rest body bad is same =
    let here : standing_after (first None) bytes ≡ at None state.BadChunk = agrees room (state.Size 0 0) bytes (λ e. not_large (sym bad ∙ e)) ∙ ap (at None) bad in
    let stays : (standing_after (first None) (bytes ++ more)).state ≡ state.BadChunk =
    ap (λ (x : Standing). x.state) (after_append (first None) bytes more ∙ ap (λ (x : Standing). standing_after x more) here) ∙ over_after None state.BadChunk more refl in
    let whole : (standing_after (first None) (bytes ++ more)).state ≡ state.Whole = ap (λ (l : List ℕ). (standing_after (first None) l).state) same ∙ reads_whole None body rest is (fits_all body.chunks) in
    not_whole (sym stays ∙ whole)
  where
    not_large : state.BadChunk ≡ state.TooLarge → ⊥
    not_large e = cc

    not_whole : state.BadChunk ≡ state.Whole → ⊥
    not_whole e = cc

-- bytes behind which the sum is above the limit begin no body within it
pub large_begins_none : (room : Option ℕ) (bytes more rest : List ℕ) (body : ChunkedBody) → (standing_after (first room) bytes).state ≡ state.TooLarge → IsChunkedBody body → bytes ++ more ≡ print body rest → Fits room body.chunks → ⊥
large_begins_none room bytes more rest body large is same fits =
    let r : Option ℕ = (standing_after (first room) bytes).room in
    let over : is_over (standing_after (first room) bytes).state ≡ true = ap is_over large in
    let stays : (standing_after (first room) (bytes ++ more)).state ≡ state.TooLarge =
    ap (λ (x : Standing). x.state) (after_append (first room) bytes more) ∙ over_after r (standing_after (first room) bytes).state more over ∙ large in
    let whole : (standing_after (first room) (bytes ++ more)).state ≡ state.Whole = ap (λ (l : List ℕ). (standing_after (first room) l).state) same ∙ reads_whole room body rest is fits in
    not_whole (sym stays ∙ whole)
  where
    not_whole : state.TooLarge ≡ state.Whole → ⊥
    not_whole e = cc

-- bytes behind which the body goes on hold none
pub on_holds_none : (room : Option ℕ) (bytes rest : List ℕ) (body : ChunkedBody) → is_over (standing_after (first room) bytes).state ≡ false → IsChunkedBody body → bytes ≡ print body rest → ⊥
on_holds_none room bytes rest body on is same =
    let here = agrees room (state.Size 0 0) bytes (λ e. false≢true (sym on ∙ ap is_over e)) in
    let whole : (standing_after (first None) bytes).state ≡ state.Whole = ap (λ (l : List ℕ). (standing_after (first None) l).state) same ∙ reads_whole None body rest is (fits_all body.chunks) in
    false≢true (sym on ∙ ap is_over (sym (ap (λ (x : Standing). x.state) here) ∙ whole))

-- without a limit it goes on as well
pub on_without : (room : Option ℕ) (bytes : List ℕ) → is_over (standing_after (first room) bytes).state ≡ false → is_over (standing_after (first None) bytes).state ≡ false
on_without room bytes on = ap (λ (x : Standing). is_over x.state) (agrees room (state.Size 0 0) bytes (λ e. false≢true (sym on ∙ ap is_over e))) ∙ on
