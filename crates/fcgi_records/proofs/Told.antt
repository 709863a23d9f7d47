-- What the bytes are that a stream has read: for each state, what stands behind the whole records.
use Rattle.std.proofs.Common.{◌≡◌, ℕ, ◌+◌, ◌-◌, ◌<◌, ◌==◌, true, false, cond, List, [], ◌∷◌, ◌++◌, length, refl, ap, sym, subst, ◌∙◌, append_assoc, append-nil, length-append, arith}
use Rattle.std.proofs.lemmas.Bool.{cond_both, eqb-true, eqb-false}
use Rattle.fcgi_records.specs.declared.header.Header.{Header}
use Rattle.fcgi_records.specs.declared.state.Cause.{Cause}
use Rattle.fcgi_records.specs.declared.state.Cause.TheVariants as cause
use Rattle.fcgi_records.specs.declared.state.State.{State}
use Rattle.fcgi_records.specs.declared.state.State.TheVariants as state
use Rattle.fcgi_records.specs.States.{number, step, judged, by_kind, is_broken, kept_from, in_padding, in_stdout, in_stderr, in_status, in_unused, in_end_padding}
use Rattle.fcgi_records.specs.Sound.{IsSoundState}
use Rattle.fcgi_records.specs.Grammar.{Source, Stdout, Stderr, kind_of, Ending, IsEnding, print_header, print_ending, print_raw, content_of, IsWrong, OneMore, Breaks}
use Rattle.fcgi_records.proofs.Held.{Held, held_more, held_framing, held_piece}

-- content of STDOUT or STDERR with so much to come
pub record InContent (source : Source) (left padding : ℕ) (tail extra : List ℕ) : Type 0 where
  pub high : ℕ
  pub low : ℕ
  pub reserved : ℕ
  pub content : List ℕ
  pub size : number high low ≡ length content + left
  pub spelled : tail ≡ print_header (kind_of source) high low padding reserved content
  pub carries : extra ≡ content_of source content

-- padding behind it with so much to come
pub record InPadding (left : ℕ) (tail extra : List ℕ) : Type 0 where
  pub source : Source
  pub high : ℕ
  pub low : ℕ
  pub reserved : ℕ
  pub content : List ℕ
  pub front : List ℕ
  pub n : ℕ
  pub size : number high low ≡ length content
  pub room : length front + left ≡ n
  pub spelled : tail ≡ print_header (kind_of source) high low n reserved (content ++ front)
  pub carries : extra ≡ content_of source content

-- END_REQUEST: the application's status, the unused bytes and the padding, each with so much to come, and whole
pub record InStatus (left padding : ℕ) (tail : List ℕ) : Type 0 where
  pub reserved : ℕ
  pub status : List ℕ
  pub size : length status + left ≡ 4
  pub spelled : tail ≡ print_header 3 0 8 padding reserved status

pub record InUnused (left padding : ℕ) (tail : List ℕ) : Type 0 where
  pub reserved : ℕ
  pub status : List ℕ
  pub unused : List ℕ
  pub four : length status ≡ 4
  pub size : length unused + left ≡ 3
  pub spelled : tail ≡ print_header 3 0 8 padding reserved (status ++ (0 ∷ unused))

pub record InEndPadding (left : ℕ) (tail : List ℕ) : Type 0 where
  pub reserved : ℕ
  pub status : List ℕ
  pub unused : List ℕ
  pub front : List ℕ
  pub n : ℕ
  pub four : length status ≡ 4
  pub three : length unused ≡ 3
  pub room : length front + left ≡ n
  pub spelled : tail ≡ print_header 3 0 8 n reserved (status ++ (0 ∷ (unused ++ front)))

pub record IsWhole (tail : List ℕ) : Type 0 where
  pub ending : Ending
  pub is : IsEnding ending
  pub spelled : tail ≡ print_ending ending []

abbrev pub Tells : State → List ℕ → List ℕ → Type 0
Tells state.Version tail extra = (tail ≡ []) × (extra ≡ [])
Tells (state.Kind h) tail extra = (tail ≡ h.version ∷ []) × (extra ≡ [])
Tells (state.IdHigh h) tail extra = (tail ≡ h.version ∷ h.kind ∷ []) × (extra ≡ [])
Tells (state.IdLow h) tail extra = (tail ≡ h.version ∷ h.kind ∷ h.id_high ∷ []) × (extra ≡ [])
Tells (state.LengthHigh h) tail extra = (tail ≡ h.version ∷ h.kind ∷ h.id_high ∷ h.id_low ∷ []) × (extra ≡ [])
Tells (state.LengthLow h) tail extra = (tail ≡ h.version ∷ h.kind ∷ h.id_high ∷ h.id_low ∷ h.length_high ∷ []) × (extra ≡ [])
Tells (state.PaddingLength h) tail extra = (tail ≡ h.version ∷ h.kind ∷ h.id_high ∷ h.id_low ∷ h.length_high ∷ h.length_low ∷ []) × (extra ≡ [])
Tells (state.Reserved h) tail extra = (tail ≡ h.version ∷ h.kind ∷ h.id_high ∷ h.id_low ∷ h.length_high ∷ h.length_low ∷ h.padding ∷ []) × (extra ≡ [])
Tells (state.Stdout left padding) tail extra = InContent Stdout left padding tail extra
Tells (state.Stderr left padding) tail extra = InContent Stderr left padding tail extra
Tells (state.Padding left) tail extra = InPadding left tail extra
Tells (state.Status left padding) tail extra = InStatus left padding tail × (extra ≡ [])
Tells (state.ProtocolStatus padding) tail extra = InStatus 0 padding tail × (extra ≡ [])
Tells (state.Unused left padding) tail extra = InUnused left padding tail × (extra ≡ [])
Tells (state.EndPadding left) tail extra = InEndPadding left tail × (extra ≡ [])
Tells state.Whole tail extra = IsWhole tail × (extra ≡ [])
Tells (state.Broken why) tail extra = Breaks why tail × (extra ≡ [])

pub record Told (s : State) (bytes out : List ℕ) : Type 0 where
  pub tail : List ℕ
  pub extra : List ℕ
  pub held : Held bytes out tail extra
  pub tells : Tells s tail extra

-- where so many bytes are to come, or none
arrive_padding : (left : ℕ) (bytes out tail extra : List ℕ) → Held bytes out tail extra → InPadding left tail extra → Told (in_padding left) bytes out
arrive_padding left bytes out tail extra h p =
    cond_both (left == 0) state.Version (state.Padding left) (λ (s : State). Told s bytes out)
    (λ none.
    let zero_left : left ≡ 0 = eqb-true left 0 none in
    let n : p.n ≡ length p.front = omega (arith, p.room, zero_left) in
    record {
      tail = [];
      extra = [];
      held = held_piece bytes out tail extra (record { source = p.source; high = p.high; low = p.low; reserved = p.reserved; content = p.content; padding = p.front }) h p.size
          (p.spelled ∙ ap (λ (m : ℕ). print_header (kind_of p.source) p.high p.low m p.reserved (p.content ++ p.front)) n
          ∙ ap (λ (l : List ℕ). print_header (kind_of p.source) p.high p.low (length p.front) p.reserved (p.content ++ l)) (sym (append-nil p.front)))
          p.carries;
      tells = (refl, refl);
    })
    (λ some. record { tail = tail; extra = extra; held = h; tells = p })

end_of_content : (source : Source) (padding : ℕ) (tail extra : List ℕ) → InContent source 0 padding tail extra → InPadding padding tail extra
end_of_content source padding tail extra c = record {
  source = source;
  high = c.high;
  low = c.low;
  reserved = c.reserved;
  content = c.content;
  front = [];
  n = padding;
  size = omega (arith, c.size);
  room = omega arith;
  spelled = c.spelled ∙ ap (λ (l : List ℕ). print_header (kind_of source) c.high c.low padding c.reserved l) (sym (append-nil c.content));
  carries = c.carries;
}

none_left : (source : Source) (left padding : ℕ) (tail extra : List ℕ) → (left == 0) ≡ true → InContent source left padding tail extra → InPadding padding tail extra
none_left source left padding tail extra none c = end_of_content source padding tail extra (subst (λ (n : ℕ). InContent source n padding tail extra) (eqb-true left 0 none) c)

arrive_stdout : (left padding : ℕ) (bytes out tail extra : List ℕ) → Held bytes out tail extra → InContent Stdout left padding tail extra → Told (in_stdout left padding) bytes out
arrive_stdout left padding bytes out tail extra h c =
    cond_both (left == 0) (in_padding padding) (state.Stdout left padding) (λ (s : State). Told s bytes out)
    (λ none. arrive_padding padding bytes out tail extra h (none_left Stdout left padding tail extra none c))
    (λ some. record { tail = tail; extra = extra; held = h; tells = c })

arrive_stderr : (left padding : ℕ) (bytes out tail extra : List ℕ) → Held bytes out tail extra → InContent Stderr left padding tail extra → Told (in_stderr left padding) bytes out
arrive_stderr left padding bytes out tail extra h c =
    cond_both (left == 0) (in_padding padding) (state.Stderr left padding) (λ (s : State). Told s bytes out)
    (λ none. arrive_padding padding bytes out tail extra h (none_left Stderr left padding tail extra none c))
    (λ some. record { tail = tail; extra = extra; held = h; tells = c })

arrive_end : (left : ℕ) (bytes out tail extra : List ℕ) → Held bytes out tail extra → extra ≡ [] → InEndPadding left tail → Told (in_end_padding left) bytes out
arrive_end left bytes out tail extra h bare p =
    cond_both (left == 0) state.Whole (state.EndPadding left) (λ (s : State). Told s bytes out)
    (λ none.
    let zero_left : left ≡ 0 = eqb-true left 0 none in
    let n : p.n ≡ length p.front = omega (arith, p.room, zero_left) in
    record {
      tail = tail;
      extra = extra;
      held = h;
      tells = (
        record {
          ending = record { reserved = p.reserved; status = p.status; unused = p.unused; padding = p.front };
          is = record { status = p.four; unused = p.three };
          spelled = p.spelled ∙ ap (λ (m : ℕ). print_header 3 0 8 m p.reserved (p.status ++ (0 ∷ (p.unused ++ p.front)))) n
              ∙ ap (λ (l : List ℕ). print_header 3 0 8 (length p.front) p.reserved (p.status ++ (0 ∷ (p.unused ++ l)))) (sym (append-nil p.front));
        },
        bare,
      );
    })
    (λ some. record { tail = tail; extra = extra; held = h; tells = (p, bare) })

arrive_unused : (left padding : ℕ) (bytes out tail extra : List ℕ) → Held bytes out tail extra → extra ≡ [] → InUnused left padding tail → Told (in_unused left padding) bytes out
arrive_unused left padding bytes out tail extra h bare p =
    cond_both (left == 0) (in_end_padding padding) (state.Unused left padding) (λ (s : State). Told s bytes out)
    (λ none.
    let zero_left : left ≡ 0 = eqb-true left 0 none in
    arrive_end padding bytes out tail extra h bare (record {
      reserved = p.reserved;
      status = p.status;
      unused = p.unused;
      front = [];
      n = padding;
      four = p.four;
      three = omega (arith, p.size, zero_left);
      room = omega arith;
      spelled = p.spelled ∙ ap (λ (l : List ℕ). print_header 3 0 8 padding p.reserved (p.status ++ (0 ∷ l))) (sym (append-nil p.unused));
    }))
    (λ some. record { tail = tail; extra = extra; held = h; tells = (p, bare) })

arrive_status : (left padding : ℕ) (bytes out tail extra : List ℕ) → Held bytes out tail extra → extra ≡ [] → InStatus left padding tail → Told (in_status left padding) bytes out
arrive_status left padding bytes out tail extra h bare p =
    cond_both (left == 0) (state.ProtocolStatus padding) (state.Status left padding) (λ (s : State). Told s bytes out)
    (λ none. record { tail = tail; extra = extra; held = h; tells = (subst (λ (n : ℕ). InStatus n padding tail) (eqb-true left 0 none) p, bare) })
    (λ some. record { tail = tail; extra = extra; held = h; tells = (p, bare) })

-- a whole header
header_is : (v k i j : ℕ) (kind : ℕ) (rest : List ℕ) → v ≡ 1 → k ≡ kind → number i j ≡ 1 → v ∷ k ∷ i ∷ j ∷ rest ≡ 1 ∷ kind ∷ 0 ∷ 1 ∷ rest
header_is v k i j kind rest one is id =
    let high : i ≡ 0 = omega (arith, id) in
    let low : j ≡ 1 = omega (arith, id) in
    cc

wrong_told : (why : Cause) (h : Header) (b : ℕ) (bytes out tail extra : List ℕ) → Held bytes out tail extra → extra ≡ [] → tail ≡ print_raw h b → IsWrong why h → Told (state.Broken why) bytes out
wrong_told cause.WrongVersion h b bytes out tail extra held bare raw wrong = record { tail = tail; extra = extra; held = held; tells = (record { header = h; reserved = b; wrong = wrong; spelled = raw }, bare) }
wrong_told cause.WrongId h b bytes out tail extra held bare raw wrong = record { tail = tail; extra = extra; held = held; tells = (record { header = h; reserved = b; wrong = wrong; spelled = raw }, bare) }
wrong_told cause.WrongType h b bytes out tail extra held bare raw wrong = record { tail = tail; extra = extra; held = held; tells = (record { header = h; reserved = b; wrong = wrong; spelled = raw }, bare) }
wrong_told cause.WrongEnd h b bytes out tail extra held bare raw wrong = record { tail = tail; extra = extra; held = held; tells = (record { header = h; reserved = b; wrong = wrong; spelled = raw }, bare) }
wrong_told (cause.Refused protocol) h b bytes out tail extra held bare raw wrong = absurd wrong
wrong_told cause.AfterEnd h b bytes out tail extra held bare raw wrong = absurd wrong

content_begins : (source : Source) (h : Header) (b : ℕ) (tail extra : List ℕ) → extra ≡ [] → tail ≡ print_raw h b → h.version ≡ 1 → number h.id_high h.id_low ≡ 1 → h.kind ≡ kind_of source → [] ≡ content_of source []
    → InContent source (number h.length_high h.length_low) h.padding tail extra
content_begins source h b tail extra bare raw one id kind none = record {
  high = h.length_high;
  low = h.length_low;
  reserved = b;
  content = [];
  size = omega arith;
  spelled = raw ∙ header_is h.version h.kind h.id_high h.id_low (kind_of source) (h.length_high ∷ h.length_low ∷ h.padding ∷ b ∷ []) one kind id;
  carries = bare ∙ none;
}

end_begins : (h : Header) (b : ℕ) (tail : List ℕ) → tail ≡ print_raw h b → h.version ≡ 1 → number h.id_high h.id_low ≡ 1 → h.kind ≡ 3 → number h.length_high h.length_low ≡ 8 → InStatus 4 h.padding tail
end_begins h b tail raw one id kind size =
    let high : h.length_high ≡ 0 = omega (arith, size) in
    let low : h.length_low ≡ 8 = omega (arith, size) in
    record {
      reserved = b;
      status = [];
      size = omega arith;
      spelled = raw ∙ header_is h.version h.kind h.id_high h.id_low 3 (h.length_high ∷ h.length_low ∷ h.padding ∷ b ∷ []) one kind id
          ∙ ap (λ (x : ℕ). 1 ∷ 3 ∷ 0 ∷ 1 ∷ x ∷ h.length_low ∷ h.padding ∷ b ∷ []) high ∙ ap (λ (x : ℕ). 1 ∷ 3 ∷ 0 ∷ 1 ∷ 0 ∷ x ∷ h.padding ∷ b ∷ []) low;
    }

judged_told : (h : Header) (b : ℕ) (bytes out tail extra : List ℕ) → Held bytes out tail extra → extra ≡ [] → tail ≡ print_raw h b → Told (judged h) bytes out
judged_told h b bytes out tail extra held bare raw =
    cond_both (h.version == 1) (cond (number h.id_high h.id_low == 1) (by_kind h) (state.Broken cause.WrongId)) (state.Broken cause.WrongVersion) P
    (λ one. cond_both (number h.id_high h.id_low == 1) (by_kind h) (state.Broken cause.WrongId) P
    (λ id. kinds (eqb-true h.version 1 one) (eqb-true (number h.id_high h.id_low) 1 id))
    (λ other. wrong_told cause.WrongId h b bytes out tail extra held bare raw (eqb-true h.version 1 one, eqb-false (number h.id_high h.id_low) 1 other)))
    (λ other. wrong_told cause.WrongVersion h b bytes out tail extra held bare raw (eqb-false h.version 1 other))
  where
    P : State → Type 0
    P s = Told s bytes out

    kinds : h.version ≡ 1 → number h.id_high h.id_low ≡ 1 → Told (by_kind h) bytes out
    kinds one id =
        cond_both (h.kind == 6) (in_stdout (number h.length_high h.length_low) h.padding) _ (λ (s : State). Told s bytes out)
        (λ is. arrive_stdout (number h.length_high h.length_low) h.padding bytes out tail extra held (content_begins Stdout h b tail extra bare raw one id (eqb-true h.kind 6 is) refl))
        (λ six. cond_both (h.kind == 7) (in_stderr (number h.length_high h.length_low) h.padding) _ (λ (s : State). Told s bytes out)
        (λ is. arrive_stderr (number h.length_high h.length_low) h.padding bytes out tail extra held (content_begins Stderr h b tail extra bare raw one id (eqb-true h.kind 7 is) refl))
        (λ seven. cond_both (h.kind == 3) (cond (number h.length_high h.length_low == 8) (state.Status 4 h.padding) (state.Broken cause.WrongEnd)) (state.Broken cause.WrongType) (λ (s : State). Told s bytes out)
        (λ is. cond_both (number h.length_high h.length_low == 8) (state.Status 4 h.padding) (state.Broken cause.WrongEnd) (λ (s : State). Told s bytes out)
        (λ eight. record { tail = tail; extra = extra; held = held; tells = (end_begins h b tail raw one id (eqb-true h.kind 3 is) (eqb-true (number h.length_high h.length_low) 8 eight), bare) })
        (λ other. wrong_told cause.WrongEnd h b bytes out tail extra held bare raw (one, id, eqb-true h.kind 3 is, eqb-false (number h.length_high h.length_low) 8 other)))
        (λ three. wrong_told cause.WrongType h b bytes out tail extra held bare raw (one, id, eqb-false h.kind 6 six, eqb-false h.kind 7 seven, eqb-false h.kind 3 three))))

-- one byte more
content_append : (source : Source) (content : List ℕ) (b : ℕ) (extra : List ℕ) → extra ≡ content_of source content → extra ++ content_of source (b ∷ []) ≡ content_of source (content ++ b ∷ [])
content_append Stdout content b extra is = ap (λ (l : List ℕ). l ++ b ∷ []) is
content_append Stderr content b extra is = append-nil extra ∙ is

content_more : (source : Source) (left padding b : ℕ) (tail extra : List ℕ) → 0 < left → InContent source left padding tail extra → InContent source (left - 1) padding (tail ++ b ∷ []) (extra ++ content_of source (b ∷ []))
content_more source left padding b tail extra some c = record {
  high = c.high;
  low = c.low;
  reserved = c.reserved;
  content = c.content ++ b ∷ [];
  size = omega (arith, c.size, some, length-append c.content (b ∷ []));
  spelled = ap (λ (l : List ℕ). l ++ b ∷ []) c.spelled;
  carries = content_append source c.content b extra c.carries;
}

padding_more : (left b : ℕ) (tail extra : List ℕ) → 0 < left → InPadding left tail extra → InPadding (left - 1) (tail ++ b ∷ []) extra
padding_more left b tail extra some p = record {
  source = p.source;
  high = p.high;
  low = p.low;
  reserved = p.reserved;
  content = p.content;
  front = p.front ++ b ∷ [];
  n = p.n;
  size = p.size;
  room = omega (arith, p.room, some, length-append p.front (b ∷ []));
  spelled = ap (λ (l : List ℕ). l ++ b ∷ []) p.spelled ∙ ap (λ (l : List ℕ). print_header (kind_of p.source) p.high p.low p.n p.reserved l) (append_assoc p.content p.front (b ∷ []));
  carries = p.carries;
}

status_more : (left padding b : ℕ) (tail : List ℕ) → 0 < left → InStatus left padding tail → InStatus (left - 1) padding (tail ++ b ∷ [])
status_more left padding b tail some p = record {
  reserved = p.reserved;
  status = p.status ++ b ∷ [];
  size = omega (arith, p.size, some, length-append p.status (b ∷ []));
  spelled = ap (λ (l : List ℕ). l ++ b ∷ []) p.spelled;
}

unused_begins : (padding : ℕ) (tail : List ℕ) → InStatus 0 padding tail → InUnused 3 padding (tail ++ 0 ∷ [])
unused_begins padding tail p = record {
  reserved = p.reserved;
  status = p.status;
  unused = [];
  four = omega (arith, p.size);
  size = omega arith;
  spelled = ap (λ (l : List ℕ). l ++ 0 ∷ []) p.spelled;
}

unused_more : (left padding b : ℕ) (tail : List ℕ) → 0 < left → InUnused left padding tail → InUnused (left - 1) padding (tail ++ b ∷ [])
unused_more left padding b tail some p = record {
  reserved = p.reserved;
  status = p.status;
  unused = p.unused ++ b ∷ [];
  four = p.four;
  size = omega (arith, p.size, some, length-append p.unused (b ∷ []));
  spelled = ap (λ (l : List ℕ). l ++ b ∷ []) p.spelled ∙ ap (λ (l : List ℕ). print_header 3 0 8 padding p.reserved l) (append_assoc p.status (0 ∷ p.unused) (b ∷ []));
}

end_more : (left b : ℕ) (tail : List ℕ) → 0 < left → InEndPadding left tail → InEndPadding (left - 1) (tail ++ b ∷ [])
end_more left b tail some p = record {
  reserved = p.reserved;
  status = p.status;
  unused = p.unused;
  front = p.front ++ b ∷ [];
  n = p.n;
  four = p.four;
  three = p.three;
  room = omega (arith, p.room, some, length-append p.front (b ∷ []));
  spelled = ap (λ (l : List ℕ). l ++ b ∷ []) p.spelled ∙ ap (λ (l : List ℕ). print_header 3 0 8 p.n p.reserved l)
      (append_assoc p.status (0 ∷ (p.unused ++ p.front)) (b ∷ []) ∙ ap (λ (l : List ℕ). p.status ++ (0 ∷ l)) (append_assoc p.unused p.front (b ∷ [])));
}

one_more : (b : ℕ) (tail : List ℕ) → IsWhole tail → OneMore (tail ++ b ∷ [])
one_more b tail w =
    let e : Ending = w.ending in
    record {
      ending = e;
      byte = b;
      is = w.is;
      spelled = ap (λ (l : List ℕ). l ++ b ∷ []) w.spelled ∙ ap (λ (l : List ℕ). print_header 3 0 8 (length e.padding) e.reserved l)
          (append_assoc e.status (0 ∷ (e.unused ++ (e.padding ++ []))) (b ∷ []) ∙ ap (λ (l : List ℕ). e.status ++ (0 ∷ l))
          (append_assoc e.unused (e.padding ++ []) (b ∷ []) ∙ ap (λ (l : List ℕ). e.unused ++ l) (append_assoc e.padding [] (b ∷ []))));
    }

protocol_told : (padding b : ℕ) (bytes out tail extra : List ℕ) → Held bytes out (tail ++ b ∷ []) extra → extra ≡ [] → InStatus 0 padding tail → Told (cond (b == 0) (in_unused 3 padding) (state.Broken (cause.Refused b))) bytes out
protocol_told padding b bytes out tail extra h bare p =
    cond_both (b == 0) (in_unused 3 padding) (state.Broken (cause.Refused b)) (λ (s : State). Told s bytes out)
    (λ is. let zero_is : b ≡ 0 = eqb-true b 0 is in
    arrive_unused 3 padding bytes out (tail ++ b ∷ []) extra h bare (subst (λ (x : ℕ). InUnused 3 padding (tail ++ x ∷ [])) (sym zero_is) (unused_begins padding tail p)))
    (λ other. record {
      tail = tail ++ b ∷ [];
      extra = extra;
      held = h;
      tells = (
        record {
          padding = padding;
          reserved = p.reserved;
          status = p.status;
          four = omega (arith, p.size);
          wrong = eqb-false b 0 other;
          spelled = ap (λ (l : List ℕ). l ++ b ∷ []) p.spelled;
        },
        bare,
      );
    })

-- a byte of a header before its last
begun : (s : State) (b : ℕ) (bytes out front : List ℕ) (t : Told s bytes out) → (t.tail ≡ front) × (t.extra ≡ []) → (u : State) → Tells u (front ++ b ∷ []) [] → Told u (bytes ++ b ∷ []) (out ++ [])
begun s b bytes out front t is u tells = record {
  tail = front ++ b ∷ [];
  extra = [];
  held = subst (λ (l : List ℕ). Held (bytes ++ b ∷ []) (out ++ []) (l ++ b ∷ []) []) is.0 (subst (λ (l : List ℕ). Held (bytes ++ b ∷ []) (out ++ []) (t.tail ++ b ∷ []) l) is.1 (held_framing bytes out t.tail t.extra b t.held));
  tells = tells;
}

pub told_step : (s : State) (b : ℕ) (bytes out : List ℕ) → IsSoundState s → is_broken s ≡ false → Told s bytes out → Told (step s b) (bytes ++ b ∷ []) (out ++ kept_from s b)
unfolding step
told_step state.Version b bytes out sound going t = begun state.Version b bytes out [] t t.tells _ (refl, refl)
told_step (state.Kind h) b bytes out sound going t = begun (state.Kind h) b bytes out (h.version ∷ []) t t.tells _ (refl, refl)
told_step (state.IdHigh h) b bytes out sound going t = begun (state.IdHigh h) b bytes out (h.version ∷ h.kind ∷ []) t t.tells _ (refl, refl)
told_step (state.IdLow h) b bytes out sound going t = begun (state.IdLow h) b bytes out (h.version ∷ h.kind ∷ h.id_high ∷ []) t t.tells _ (refl, refl)
told_step (state.LengthHigh h) b bytes out sound going t = begun (state.LengthHigh h) b bytes out (h.version ∷ h.kind ∷ h.id_high ∷ h.id_low ∷ []) t t.tells _ (refl, refl)
told_step (state.LengthLow h) b bytes out sound going t = begun (state.LengthLow h) b bytes out (h.version ∷ h.kind ∷ h.id_high ∷ h.id_low ∷ h.length_high ∷ []) t t.tells _ (refl, refl)
told_step (state.PaddingLength h) b bytes out sound going t = begun (state.PaddingLength h) b bytes out (h.version ∷ h.kind ∷ h.id_high ∷ h.id_low ∷ h.length_high ∷ h.length_low ∷ []) t t.tells _ (refl, refl)
told_step (state.Reserved h) b bytes out sound going t =
    judged_told h b (bytes ++ b ∷ []) (out ++ []) (t.tail ++ b ∷ []) t.extra (held_framing bytes out t.tail t.extra b t.held) t.tells.1 (ap (λ (l : List ℕ). l ++ b ∷ []) t.tells.0)
told_step (state.Stdout left padding) b bytes out sound going t =
    arrive_stdout (left - 1) padding (bytes ++ b ∷ []) (out ++ b ∷ []) (t.tail ++ b ∷ []) (t.extra ++ b ∷ []) (held_more bytes out t.tail t.extra (b ∷ []) b t.held)
    (content_more Stdout left padding b t.tail t.extra sound t.tells)
told_step (state.Stderr left padding) b bytes out sound going t =
    arrive_stderr (left - 1) padding (bytes ++ b ∷ []) (out ++ []) (t.tail ++ b ∷ []) (t.extra ++ []) (held_more bytes out t.tail t.extra [] b t.held)
    (content_more Stderr left padding b t.tail t.extra sound t.tells)
told_step (state.Padding left) b bytes out sound going t =
    arrive_padding (left - 1) (bytes ++ b ∷ []) (out ++ []) (t.tail ++ b ∷ []) t.extra (held_framing bytes out t.tail t.extra b t.held) (padding_more left b t.tail t.extra sound t.tells)
told_step (state.Status left padding) b bytes out sound going t =
    arrive_status (left - 1) padding (bytes ++ b ∷ []) (out ++ []) (t.tail ++ b ∷ []) t.extra (held_framing bytes out t.tail t.extra b t.held) t.tells.1 (status_more left padding b t.tail sound t.tells.0)
told_step (state.ProtocolStatus padding) b bytes out sound going t =
    protocol_told padding b (bytes ++ b ∷ []) (out ++ []) t.tail t.extra (held_framing bytes out t.tail t.extra b t.held) t.tells.1 t.tells.0
told_step (state.Unused left padding) b bytes out sound going t =
    arrive_unused (left - 1) padding (bytes ++ b ∷ []) (out ++ []) (t.tail ++ b ∷ []) t.extra (held_framing bytes out t.tail t.extra b t.held) t.tells.1 (unused_more left padding b t.tail sound t.tells.0)
told_step (state.EndPadding left) b bytes out sound going t =
    arrive_end (left - 1) (bytes ++ b ∷ []) (out ++ []) (t.tail ++ b ∷ []) t.extra (held_framing bytes out t.tail t.extra b t.held) t.tells.1 (end_more left b t.tail sound t.tells.0)
told_step state.Whole b bytes out sound going t = record {
  tail = t.tail ++ b ∷ [];
  extra = t.extra;
  held = held_framing bytes out t.tail t.extra b t.held;
  tells = (one_more b t.tail t.tells.0, t.tells.1);
}
told_step (state.Broken why) b bytes out sound going t = cc
