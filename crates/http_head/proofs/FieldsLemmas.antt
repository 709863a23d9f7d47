-- Filling the map of a head's fields.
use Rattle.std.proofs.Common.{◌≡◌, ℕ, suc, ◌+◌, ◌<◌, ◌≤◌, Bool, true, false, cond, List, [], ◌∷◌, ◌++◌, map, length, get_or, take, All, sym, refl, ap, ◌∙◌, arith, subst}
use Rattle.std.specs.Prelude.{bytes_eq}
use Rattle.std.proofs.lemmas.List.{get_or-map, take_more, map-append, length-append, length-map}
use Rattle.std.proofs.lemmas.List.Elements.{All-push}
use Rattle.std.proofs.lemmas.List.Sums.{fold_push, sum_by-cons}
use Rattle.http_header.specs.HeaderMap.{Entry, Entries, append, update, value_count}
use Rattle.http_header.specs.FieldValue.{FieldValue, IsFieldValue}
use Rattle.httparse.specs.declared.spans.HeaderSpan.{HeaderSpan}
use Rattle.httparse.specs.Spans.{header_bytes, span_bytes}
use Rattle.http_head.specs.Fields.{IsFilled, Pair, kept, IsTaken, map_of}

pub map_of_push : (ps : List Pair) (p : Pair) → map_of (ps ++ p ∷ []) ≡ append (map_of ps) (kept p).0 (kept p).1
map_of_push ps p = rw (map-append kept ps (p ∷ [])) (fold_push _ [] (map kept ps) (kept p))

pub length-update : {X : Type 0} (m : Entries X) (name : List ℕ) (f : List X → List X) → length (update m name f) ≤ length m + 1
length-update [] name f = omega arith
length-update (e ∷ m) name f = by (bytes_eq e.0 name) (length-update m name f)
  where
    by : (t : Bool) → length (update m name f) ≤ length m + 1 → length (cond t ((e.0, f e.1) ∷ m) (e ∷ update m name f)) ≤ suc (length m) + 1
    by true h = omega arith
    by false h = omega arith

pub count-append : {X : Type 0} (m : Entries X) (name : List ℕ) (x : X) → value_count (append m name x) ≡ value_count m + 1
count-append [] name x = refl
count-append {X} (e ∷ m) name x = by (bytes_eq e.0 name) (count-append m name x)
  where
    by : (t : Bool) → value_count (append m name x) ≡ value_count m + 1 → value_count (cond t ((e.0, e.1 ++ x ∷ []) ∷ m) (e ∷ append m name x)) ≡ value_count (e ∷ m) + 1
    by true h =
        let a = sum_by-cons (λ (e : Entry X). length e.1) (e.0, e.1 ++ x ∷ []) m in
        let b = sum_by-cons (λ (e : Entry X). length e.1) e m in
        omega (arith, a, b, length-append e.1 (x ∷ []))
    by false h =
        let a = sum_by-cons (λ (e : Entry X). length e.1) e (append m name x) in
        let b = sum_by-cons (λ (e : Entry X). length e.1) e m in
        omega (arith, a, b, h)

-- one more pair
pub IsFilled-push : (ps : List Pair) (i : ℕ) (p : Pair) (m : Entries FieldValue) → i < length ps → get_or ps i p ≡ p → IsFilled ps i m → IsTaken p
    → IsFilled ps (i + 1) (append m (kept p).0 (kept p).1)
IsFilled-push ps i p m h at filled taken =
    let e : take (i + 1) ps ≡ take i ps ++ p ∷ [] = take_more ps i p h ∙ ap (λ q. take i ps ++ q ∷ []) at in
    record {
      taken = rw e (All-push IsTaken _ _ filled.taken taken);
      is = rw e (ap (λ n. append n (kept p).0 (kept p).1) filled.is ∙ sym (map_of_push (take i ps) p));
      names = omega (arith, length-update m (kept p).0 (λ vs. vs ++ (kept p).1 ∷ []), filled.names);
      values = omega (arith, count-append m (kept p).0 (kept p).1, filled.values);
    }

-- the pair that the spans of a header cover
pub pair_at : (buf : List ℕ) (hs : List HeaderSpan) (i : ℕ) (d : HeaderSpan) (q : Pair) → i < length hs → get_or (map (header_bytes buf) hs) i q ≡ header_bytes buf (get_or hs i d)
pair_at buf hs i d q h = get_or-map (header_bytes buf) hs i d q h

-- one more header
pub IsFilled-step : (buf : List ℕ) (hs : List HeaderSpan) (i : ℕ) (d : HeaderSpan) (m m' : Entries FieldValue) (found : List ℕ × FieldValue) (name value : List ℕ)
    → i < length hs → name ≡ span_bytes buf (get_or hs i d).name → value ≡ span_bytes buf (get_or hs i d).value
    → IsFilled (map (header_bytes buf) hs) i m → IsTaken (name, value) → found ≡ kept (name, value) → m' ≡ append m found.0 found.1
    → IsFilled (map (header_bytes buf) hs) (i + 1) m'
IsFilled-step buf hs i d m m' found name value h en ev filled taken ef em =
    let p : Pair = (name, value) in
    let at : get_or (map (header_bytes buf) hs) i p ≡ p = pair_at buf hs i d p h ∙ cc in
    let inside : i < length (map (header_bytes buf) hs) = rw length-map h in
    let e : m' ≡ append m (kept p).0 (kept p).1 = em ∙ ap (λ f. append m f.0 f.1) ef in
    rw e (IsFilled-push (map (header_bytes buf) hs) i p m inside at filled taken)

-- a pair that is not taken is one of them
pub refused : (buf : List ℕ) (hs : List HeaderSpan) (i : ℕ) (d : HeaderSpan) (name value : List ℕ)
    → i < length hs → name ≡ span_bytes buf (get_or hs i d).name → value ≡ span_bytes buf (get_or hs i d).value
    → ¬ (IsTaken (name, value)) → ¬ (All IsTaken (map (header_bytes buf) hs))
refused buf hs i d name value h en ev never all =
    let p : Pair = (name, value) in
    let inside : i < length (map (header_bytes buf) hs) = rw length-map h in
    let at : get_or (map (header_bytes buf) hs) i p ≡ p = pair_at buf hs i d p h ∙ cc in
    never (subst IsTaken at (all i p inside))

-- one more header, of which the map has the parts of a copy of the bytes
pub IsFilled-next : (values buf : List ℕ) (hs : List HeaderSpan) (i : ℕ) (d : HeaderSpan) (m m' : Entries FieldValue) (found : List ℕ × FieldValue)
    → i < length hs → values ≡ buf → IsFilled (map (header_bytes buf) hs) i m → IsTaken (header_bytes values (get_or hs i d))
    → found ≡ kept (header_bytes values (get_or hs i d)) → m' ≡ append m found.0 found.1 → IsFilled (map (header_bytes buf) hs) (i + 1) m'
IsFilled-next values buf hs i d m m' found h same filled taken ef em =
    let s = get_or hs i d in
    IsFilled-step buf hs i d m m' found (span_bytes values s.name) (span_bytes values s.value) h
    (ap (λ b. span_bytes b s.name) same) (ap (λ b. span_bytes b s.value) same) filled taken ef em

-- a header of such a copy that is not taken is one of them
pub refused_part : (values buf : List ℕ) (hs : List HeaderSpan) (i : ℕ) (d : HeaderSpan) → i < length hs → values ≡ buf
    → ¬ (IsTaken (header_bytes values (get_or hs i d))) → ¬ (All IsTaken (map (header_bytes buf) hs))
refused_part values buf hs i d h same never =
    let s = get_or hs i d in
    refused buf hs i d (span_bytes values s.name) (span_bytes values s.value) h (ap (λ b. span_bytes b s.name) same) (ap (λ b. span_bytes b s.value) same) never

-- the value of a header of such a copy
pub value_at : (values buf : List ℕ) (hs : List HeaderSpan) (i : ℕ) (d : HeaderSpan) → values ≡ buf → i < length hs
    → All (λ (h : HeaderSpan). IsFieldValue (span_bytes buf h.value)) hs → IsFieldValue (span_bytes values (get_or hs i d).value)
value_at values buf hs i d same h valid = subst (λ (b : List ℕ). IsFieldValue (span_bytes b (get_or hs i d).value)) (sym same) (valid i d h)
