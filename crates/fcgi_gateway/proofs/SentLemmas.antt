-- What was taken was said, and is sent no more.
use Rattle.std.proofs.Common.{◌≡◌, zero, suc, ℕ, ◌+◌, ◌-◌, ◌<◌, ◌≤◌, Bool, true, false, ◌||◌, ltb, List, [], ◌∷◌, ◌++◌, length, take, drop, min, refl, ap, sym, ◌∙◌, subst, append_assoc, append-nil, length-drop, length-take, arith}
use Rattle.std.proofs.lemmas.List.{take_at, take-take, take-append-le, take-append-drop, length-take-le}
use Rattle.chunkqueue.specs.Items.{Item, Byte, FileByte, memory_front, Leads}
use Rattle.fcgi_records.specs.Feeding.{AllInMemory}
use Rattle.fcgi_records.proofs.FeedingLemmas.{front_of_bytes}
use Rattle.cgi_text.specs.Attempts.{Exchange, with_output}
use Rattle.std.specs.Prelude.{map}
use Rattle.fcgi_gateway.specs.Asked.{stream}
use Rattle.fcgi_gateway.specs.Sending.{content_and_more, behind_header, unsent_of, offer_of, body_after, sending_after, IsSoundSending, IsContentWithin}
use Rattle.fcgi_gateway.specs.Task.{Task, IsAt, is_some_byte}
use Rattle.fcgi_gateway.specs.declared.sending.Sending.{Sending}
use Rattle.fcgi_gateway.specs.declared.sending.Sending.TheVariants as next
use Rattle.fcgi_gateway.proofs.SendingLemmas.{room_of, sent_unsent, sent_sound}

pub offered_room : (s : Sending) (lead front body : List ℕ) (n : ℕ) → IsSoundSending lead body s → n ≤ length (offer_of lead front s) → n ≤ room_of lead s
offered_room (next.Lead taken) lead front body n sound within = omega (arith, within, length-drop taken lead)
offered_room (next.Content left) lead front body n sound within = omega (arith, within, length-take left front)
offered_room (next.Header header taken) lead front body n sound within = omega (arith, within, sound.0, length-drop taken header)
offered_room next.Done lead front body n sound within = within

pub content_within : (s : Sending) (lead front : List ℕ) (n : ℕ) → n ≤ length (offer_of lead front s) → IsContentWithin n front s
content_within (next.Lead taken) lead front n within = tt
content_within (next.Content left) lead front n within = within
content_within (next.Header header taken) lead front n within = tt
content_within next.Done lead front n within = tt

pub record IsSent (s s' : Sending) (lead body body' : List ℕ) (n : ℕ) : Type 0 where
  pub unsent : unsent_of lead body' s' ≡ drop n (unsent_of lead body s)
  pub sound : IsSoundSending lead body' s'

pub sent_is : (s s' : Sending) (lead body body' : List ℕ) (n before behind : ℕ) → s' ≡ sending_after n before behind s → before ≡ length lead → behind ≡ length body' → body' ≡ body_after n body s
    → IsSoundSending lead body s → n ≤ room_of lead s → IsSent s s' lead body body' n
sent_is s s' lead body body' n before behind is long size rest sound within =
    let next_is : s' ≡ sending_after n (length lead) (length (body_after n body s)) s =
    is ∙ ap (λ (k : ℕ). sending_after n k behind s) long ∙ ap (λ (k : ℕ). sending_after n (length lead) k s) (size ∙ ap (λ (l : List ℕ). length l) rest) in
    record {
      unsent = ap (λ (x : Sending). unsent_of lead body' x) next_is
          ∙ ap (λ (l : List ℕ). unsent_of lead l (sending_after n (length lead) (length (body_after n body s)) s)) rest
          ∙ sent_unsent s lead body n sound within;
      sound = subst (λ (x : Sending). IsSoundSending lead body' x) (sym next_is)
          (subst (λ (l : List ℕ). IsSoundSending lead l (sending_after n (length lead) (length (body_after n body s)) s)) (sym rest) (sent_sound s lead body n sound within));
    }

front_take : (n : ℕ) (items : List Item) → AllInMemory items → memory_front (take n items) ≡ take n (memory_front items)
front_take zero items h = refl
front_take (suc n) [] h = refl
front_take (suc n) (Byte b ∷ items) h = ap (λ (l : List ℕ). b ∷ l) (front_take n items h)
front_take (suc n) (FileByte file place ∷ items) h = absurd h

pub front_drop : (n : ℕ) (items : List Item) → AllInMemory items → memory_front (drop n items) ≡ drop n (memory_front items)
front_drop zero items h = refl
front_drop (suc n) [] h = refl
front_drop (suc n) (Byte b ∷ items) h = front_drop n items h
front_drop (suc n) (FileByte file place ∷ items) h = absurd h

front_is : (items : List Item) (staged front : List ℕ) → AllInMemory items → Leads items staged front → front ≡ take (length front) (memory_front items)
front_is [] staged front h leads = leads ∙ sym (ap (λ (l : List ℕ). take (length l) []) leads)
front_is (FileByte file place ∷ items) staged front h leads = absurd h
front_is (Byte b ∷ items) staged front h leads = sym (front_of_bytes front) ∙ ap memory_front leads.1 ∙ front_take (length front) (Byte b ∷ items) h

-- the first bytes of the content
content_leads : (left : ℕ) (front body more : List ℕ) → left ≤ length body → front ≡ take (length front) body → take left front ≡ take (length (take left front)) (take left body ++ more)
content_leads left front body more inside is =
    let k : ℕ = length (take left front) in
    let size : k ≡ min left (length front) = length-take left front in
    let fits : length front ≤ length body = omega (arith, ap (λ (l : List ℕ). length l) is, length-take (length front) body) in
    let least : take left front ≡ take k body = to_body left front body is in
    least ∙ sym (take-take k left body (omega (arith, size))) ∙ sym (take-append-le k (take left body) more (omega (arith, size, fits, inside, length-take left body)))
  where
    to_body : (left : ℕ) (front body : List ℕ) → front ≡ take (length front) body → take left front ≡ take (length (take left front)) body
    to_body zero front body e = refl
    to_body (suc n) [] body e = refl
    to_body (suc n) (f ∷ front) [] e = cc
    to_body (suc n) (f ∷ front) (b ∷ body) e = cc (to_body n front body cc)

pub offer_leads : (s : Sending) (lead front staged : List ℕ) (items : List Item) → AllInMemory items → Leads items staged front → IsSoundSending lead (memory_front items) s
    → offer_of lead front s ≡ take (length (offer_of lead front s)) (unsent_of lead (memory_front items) s)
offer_leads (next.Lead taken) lead front staged items memory leads sound = sym (take_at (drop taken lead) (behind_header (memory_front items)) (length (drop taken lead)) refl)
offer_leads (next.Content left) lead front staged items memory leads sound =
    content_leads left front (memory_front items) (stream 5 (drop left (memory_front items))) sound.1 (front_is items staged front memory leads)
offer_leads (next.Header header taken) lead front staged items memory leads sound = sym (take_at (drop taken header) (behind_header (memory_front items)) (length (drop taken header)) refl)
offer_leads next.Done lead front staged items memory leads sound = refl

begun_is : (output taken : List ℕ) (n : ℕ) → n ≡ length taken → (is_some_byte output || ltb 0 n) ≡ is_some_byte (output ++ taken)
begun_is (b ∷ output) taken n e = refl
begun_is [] [] n e = ap (ltb 0) e
begun_is [] (t ∷ taken) n e = grind (arith, e)

-- a task of which only what is sent has changed
pub record IsLater (n : ℕ) (t t' : Task) : Type 0 where
  pub unsent : t'.unsent ≡ drop n t.unsent
  pub begun : t'.begun ≡ (t.begun || ltb 0 n)
  pub over : t'.over ≡ t.over
  pub stands : t'.stands ≡ t.stands
  pub stdout : t'.stdout ≡ t.stdout
  pub heard : t'.heard ≡ t.heard

pub sent_at : (asks : List ℕ) (e : Exchange) (t t' : Task) (n : ℕ) → IsAt asks e t → IsLater n t t' → n ≤ length t.offer → t.offer ≡ take (length t.offer) t.unsent → IsAt asks (with_output (take n t.offer) e) t'
sent_at asks e t t' n is later within leads =
    let same : take n t.offer ≡ take n t.unsent = ap (take n) leads ∙ take-take n (length t.offer) t.unsent within in
    record {
      sends = ap (λ (l : List ℕ). (e.output ++ l) ++ t'.unsent) same
          ∙ ap (λ (l : List ℕ). (e.output ++ take n t.unsent) ++ l) later.unsent
          ∙ append_assoc e.output (take n t.unsent) (drop n t.unsent)
          ∙ ap (λ (l : List ℕ). e.output ++ l) (take-append-drop n t.unsent)
          ∙ is.sends;
      begun = later.begun ∙ ap (λ (b : Bool). b || ltb 0 n) is.begun ∙ begun_is e.output (take n t.offer) n (sym (length-take-le n t.offer within));
      over = later.over ∙ is.over;
      stands = later.stands ∙ is.stands;
      stdout = later.stdout ∙ is.stdout;
      heard = later.heard ∙ is.heard;
    }
