-- One write after another.
use Rattle.std.proofs.Common.{◌≡◌, ℕ, zero, suc, ◌<◌, ◌≤◌, List, [], ◌++◌, refl, ap, sym, subst, ◌∙◌, arith, append_assoc, append-nil, Result, Ok, Err, Bool, true, false, nat_le}
use Rattle.std.proofs.lemmas.Grind.{flat_map-append}
use Rattle.std.proofs.lemmas.Bool.Decides.{nat_tests}
use Rattle.lt_bytes.specs.Quoting.{quoted, quoted_byte}
use Rattle.lt_world.specs.declared.fault.Fault.{Fault}
use Rattle.lt_world.specs.Trace.{Entry, own, link_bound}
use Rattle.lt_world.specs.Acts.{output_of, ending_of}
use Rattle.lt_world.proofs.ActLaws.{output-deeds, ending-deeds}
use Rattle.script_net.specs.Reports.{Writes, GotFront, lines_below, line_of}
use Rattle.script_net.specs.Laws.{EachHasItsLine}

-- the front of a text is that of a longer one
pub got_more : (old new text rest : List ℕ) → GotFront old new text → GotFront old new (text ++ rest)
got_more old new text rest got =
    record { front = got.front; begins = (got.begins.0 ++ rest, ap (λ t. t ++ rest) got.begins.1 ∙ append_assoc got.front got.begins.0 rest); got = got.got }

-- a text was written, and then the front of another
pub got_then : (old mid new before text : List ℕ) → mid ≡ old ++ before → GotFront mid new text → GotFront old new (before ++ text)
got_then old mid new before text so_far got = record {
  front = before ++ got.front;
  begins = (got.begins.0, ap (λ t. before ++ t) got.begins.1 ∙ sym (append_assoc before got.front got.begins.0));
  got = got.got ∙ ap (λ m. m ++ got.front) so_far ∙ append_assoc old before got.front;
}

pub writes_then : (result : Result (Unit {0}) Fault) (old mid new before text : List ℕ) → mid ≡ old ++ before → Writes result mid new text → Writes result old new (before ++ text)
writes_then (Ok done) old mid new before text so_far w = w ∙ ap (λ m. m ++ text) so_far ∙ append_assoc old before text
writes_then (Err fault) old mid new before text so_far w = got_then old mid new before text so_far w

-- the spelling of bytes, piece by piece

pub quoted_broke : (whole done rest piece next old mid new : List ℕ) → whole ≡ done ++ rest → rest ≡ piece ++ next → mid ≡ old ++ quoted done → GotFront mid new (quoted piece) → GotFront old new (quoted whole)
quoted_broke whole done rest piece next old mid new split cut so_far got =
    let all : quoted whole ≡ (quoted done ++ quoted piece) ++ quoted next =
    ap quoted (split ∙ ap (λ r. done ++ r) cut ∙ sym (append_assoc done piece next)) ∙ flat_map-append quoted_byte (done ++ piece) next ∙ ap (λ t. t ++ quoted next) (flat_map-append quoted_byte done piece) in
    subst (λ (t : List ℕ). GotFront old new t) (sym all) (got_more old new (quoted done ++ quoted piece) (quoted next) (got_then old mid new (quoted done) (quoted piece) so_far got))

pub quoted_went : (whole done rest piece next old mid new : List ℕ) → whole ≡ done ++ rest → rest ≡ piece ++ next → mid ≡ old ++ quoted done → new ≡ mid ++ quoted piece
    → (more : List ℕ) × (whole ≡ more ++ next) × (new ≡ old ++ quoted more)
quoted_went whole done rest piece next old mid new split cut so_far wrote = (
  done ++ piece,
  split ∙ ap (λ r. done ++ r) cut ∙ sym (append_assoc done piece next),
  wrote ∙ ap (λ m. m ++ quoted piece) so_far ∙ append_assoc old (quoted done) (quoted piece) ∙ ap (λ t. old ++ t) (sym (flat_map-append quoted_byte done piece)),
)

-- the lines, one after another

below_by : (i n : ℕ) (trace : List Entry) (t : Bool) → nat_le i n ≡ t → i ≤ suc n → (i ≤ n → (rest : List ℕ) × (lines_below n trace ≡ lines_below i trace ++ rest))
    → (rest : List ℕ) × (lines_below (suc n) trace ≡ lines_below i trace ++ rest)
below_by i n trace true test within go =
    let less : i ≤ n = grind (arith, nat_tests, test) in
    let line : List ℕ = line_of n (ending_of (own n trace)) (output_of (own n trace)) in
    let r = go less in
    (r.0 ++ line, ap (λ t. t ++ line) r.1 ∙ append_assoc (lines_below i trace) r.0 line)
below_by i n trace false test within go =
    let e : i ≡ suc n = grind (arith, nat_tests, test, within) in
    ([], ap (λ k. lines_below k trace) (sym e) ∙ sym (append-nil (lines_below i trace)))

below_more : (i n : ℕ) (trace : List Entry) → i ≤ n → (rest : List ℕ) × (lines_below n trace ≡ lines_below i trace ++ rest)
below_more i zero trace within = let e : i ≡ zero = omega arith in ([], ap (λ k. lines_below k trace) (sym e) ∙ sym (append-nil (lines_below i trace)))
below_more i (suc n) trace within = below_by i n trace (nat_le i n) refl within (below_more i n trace)

pub lines_broke : (link links : ℕ) (trace : List Entry) (old mid new : List ℕ) → link < links → mid ≡ old ++ lines_below link trace → GotFront mid new (line_of link (ending_of (own link trace)) (output_of (own link trace)))
    → GotFront old new (lines_below links trace)
lines_broke link links trace old mid new below so_far got =
    let more = below_more (suc link) links trace below in
    subst (λ (t : List ℕ). GotFront old new t) (sym more.1)
    (got_more old new (lines_below (suc link) trace) more.0 (got_then old mid new (lines_below link trace) (line_of link (ending_of (own link trace)) (output_of (own link trace))) so_far got))

pub has_its_line : EachHasItsLine
has_its_line trace link below =
    let acts = own link trace in
    let line : List ℕ = line_of link (ending_of acts) (output_of acts) in
    let more = below_more (suc link) (link_bound trace) trace below in
    (more.0, more.1 ∙ append_assoc (lines_below link trace) line more.0 ∙ (λ i. lines_below link trace ++ (line_of link (sym (ending-deeds acts) i) (sym (output-deeds acts) i) ++ more.0)))
