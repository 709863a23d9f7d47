-- From what the code finds in the head of an answer to what the head says.
use Rattle.std.proofs.Common.{◌≡◌, ℕ, zero, suc, ◌<◌, ◌≤◌, List, [], ◌∷◌, map, length, take, drop, All, Option, Some, None, Result, Err, sym, refl, ap, ◌∙◌, subst, arith, length-take}
use Rattle.std.proofs.lemmas.List.{length-map}
use Rattle.std.proofs.lemmas.Option.{same_Some}
use Rattle.httparse.specs.declared.spans.HeaderSpan.{HeaderSpan}
use Rattle.httparse.specs.Grammar.{Field, LineEnd, ReadsSection}
use Rattle.httparse.specs.Spans.{name_and_value, header_bytes, span_bytes, IsSectionOf}
use Rattle.http_header.specs.FieldValue.{FieldValue, IsFieldValue}
use Rattle.http_header.specs.HeaderMap.{Entries}
use Rattle.http_head.specs.Fields.{Pair, map_of}
use Rattle.http_head.specs.Read.{read_end, read_field, Section, section_by, read_section}
use Rattle.http_head.specs.declared.ends.HeadEnd.TheVariants.{At}
use Rattle.http_head.proofs.ReadLemmas.{section_at, section_sound, map_some}
use Rattle.http_head.proofs.TakenLemmas.{values_pass, parts_pass}
use Rattle.cgi_text.specs.Head.{section_end, head_by, head_read, head_at, cgi_head, Says}
use Rattle.cgi_text.specs.declared.head.CgiHead.{CgiHead}
use Rattle.cgi_text.specs.declared.head.CgiRefusal.{CgiRefusal}
use Rattle.cgi_text.specs.declared.head.CgiRefusal.TheVariants.{BadCgiHead}

-- of n lines one is the empty line
pub few_lines : (n : ℕ) (xs : List ℕ) (p : Section) → read_section n xs ≡ Some p → length p.0.0 < n
unfolding read_section
few_lines zero xs p e = cc
few_lines (suc n) xs p e = by (read_end xs) (read_field xs) (few_lines n) e
  where
    by : (o : Option (LineEnd × List ℕ)) (g : Option (Field × List ℕ)) → ((ys : List ℕ) (q : Section) → read_section n ys ≡ Some q → length q.0.0 < n)
        → section_by o g (read_section n) ≡ Some p → length p.0.0 < suc n
    by (Some d) g next e = subst (λ (q : Section). length q.0.0 < suc n) (same_Some (([], d.0), d.1) p e) (omega arith)
    by None None next e = cc
    by None (Some f) next e =
        let m = map_some (read_section n f.1) (λ s. ((f.0 ∷ s.0.0, s.0.1), s.1)) p e in
        subst (λ (q : Section). length q.0.0 < suc n) m.2 (omega (arith, next f.1 m.0 m.1))

-- nothing is read where a section of the grammar has too many lines
unread : (n : ℕ) (head : List ℕ) → ((fields : List Field) (last : LineEnd) (rest : List ℕ) → ReadsSection head fields last rest → n ≤ length fields)
    → read_section n head ≡ None
unread n head none = by (read_section n head) refl
  where
    by : (o : Option Section) → read_section n head ≡ o → read_section n head ≡ None
    by None e = e
    by (Some p) e =
        let s = section_sound n head p e in
        absurd (omega (arith, few_lines n head p e, none p.0.0 p.0.1 p.1 (s.valid, s.split)))

pub bad_head : (bytes head : List ℕ) (size : ℕ) → At size ≡ section_end bytes → head ≡ take size bytes
    → ((fields : List Field) (last : LineEnd) (rest : List ℕ) → ReadsSection head fields last rest → 64 < length fields) → cgi_head bytes ≡ Err BadCgiHead
bad_head bytes head size end front none =
    let more : (fields : List Field) (last : LineEnd) (rest : List ℕ) → ReadsSection head fields last rest → 65 ≤ length fields =
    λ fields last rest r. omega (arith, none fields last rest r) in
    ap (head_at bytes) (sym end)
    ∙ ap (λ h. head_read size (read_section 65 h)) (sym front)
    ∙ ap (head_read size) (unread 65 head more)

-- the values of the spans are values of fields
pub values_fit : (head : List ℕ) (spans : List HeaderSpan) (len count : ℕ) → IsSectionOf head 0 spans (len, count)
    → All (λ (h : HeaderSpan). IsFieldValue (span_bytes head h.value)) (take count spans)
values_fit head spans len count o =
    parts_pass head (take count spans) (subst (All (λ (p : Pair). IsFieldValue p.1)) (sym o.2.fields_are) (values_pass o.0 o.2.reads.0))

same_length : (head : List ℕ) (spans : List HeaderSpan) (count : ℕ) (fields : List Field) → count ≤ length spans
    → map (header_bytes head) (take count spans) ≡ map name_and_value fields → length fields ≡ count
same_length head spans count fields fits e =
    omega (arith, length-map fields name_and_value, length-map (take count spans) (header_bytes head), ap length e, length-take count spans)

-- what is read is what the spans cover
read_at : (n : ℕ) (head : List ℕ) (spans : List HeaderSpan) (len count : ℕ) → (o : IsSectionOf head 0 spans (len, count)) → count ≤ length spans → count < n
    → read_section n head ≡ Some ((o.0, o.1), drop len head)
read_at n head spans len count o fits few =
    let size = same_length head spans count o.0 fits o.2.fields_are in
    ap (read_section n) o.2.reads.1 ∙ section_at n o.0 o.1 (drop len head) (omega (arith, size)) o.2.reads.0

pub head_says : (bytes head : List ℕ) (size : ℕ) (spans : List HeaderSpan) (len count : ℕ) (fields : Entries FieldValue) (result : Result CgiHead CgiRefusal)
    → At size ≡ section_end bytes → head ≡ take size bytes → IsSectionOf head 0 spans (len, count) → count ≤ length spans → length spans ≡ 64
    → fields ≡ map_of (map (header_bytes head) (take count spans)) → Says (head_by size fields) result → Says (cgi_head bytes) result
head_says bytes head size spans len count fields result end front o fits room is says =
    let e : cgi_head bytes ≡ head_by size fields =
    ap (head_at bytes) (sym end)
    ∙ ap (λ h. head_read size (read_section 65 h)) (sym front)
    ∙ ap (head_read size) (read_at 65 head spans len count o fits (omega arith))
    ∙ ap (λ ps. head_by size (map_of ps)) (sym o.2.fields_are)
    ∙ ap (head_by size) (sym is) in
    subst (λ due. Says due result) (sym e) says
