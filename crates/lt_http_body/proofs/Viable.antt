-- Where no refusal came, some bytes make the body whole.
use Rattle.std.proofs.Common.{◌≡◌, ◌≢◌, zero, suc, ℕ, ◌+◌, ◌-◌, ◌*◌, ◌<◌, ◌≤◌, ◌==◌, List, [], ◌∷◌, ◌++◌, length, take, drop, replicate, None, refl, ap, subst, drop_of_length-le, arith}
use Rattle.std.proofs.lemmas.Bool.{cond_both, eqb-false}
use Rattle.std.proofs.lemmas.List.{length-replicate}
use Rattle.lt_http_body.specs.declared.state.State.{State}
use Rattle.lt_http_body.specs.declared.state.State.TheVariants as state
use Rattle.lt_http_body.specs.declared.standing.Standing.{Standing}
use Rattle.lt_http_body.specs.declared.limits.TheConstants.{TRAILER_LIMIT}
use Rattle.lt_http_body.specs.Lines.{in_stated}
use Rattle.lt_http_body.specs.Standings.{at, after_size_line}
use Rattle.lt_http_body.specs.Sound.{IsSoundState}
use Rattle.lt_http_body.specs.Grammar.{ChunkedBody, Lf, IsChunkedBody, print_end, print}
use Rattle.lt_http_body.proofs.ReadingLemmas.{Gives, data_gives}
use Rattle.lt_http_body.proofs.Moving.{Goes, goes_nowhere, goes_on, line_then}
use Rattle.lt_http_body.proofs.Printed.{gives_goes, digit_step, size_return, extension_return, size_feed, data_then, line_end_then, data_feed, end_then, last_then, trailer_feed_step, last_feed, body_then}

-- these bytes end the body
pub record Viable (s : State) : Type 0 where
  pub more : List ℕ
  pub held : List ℕ
  pub goes : Goes (at None s) more held (at None state.Whole) []

viable_line : (s t : State) (b : ℕ) (h : Viable t) → Goes (at None s) (b ∷ h.more) h.held (at None state.Whole) [] → Viable s
viable_line s t b h g = record { more = b ∷ h.more; held = h.held; goes = g }

viable_trailer : (left : ℕ) → 1 ≤ left → Viable (state.Trailer left)
viable_trailer left some = record { more = print_end Lf []; held = []; goes = last_then None Lf left [] some }

viable_trailer_line : (left : ℕ) → 2 ≤ left → Viable (state.TrailerLine left)
viable_trailer_line left some =
    let n : ℕ = left - 1 in
    record {
      more = print_end Lf (print_end Lf []);
      held = [];
      goes = goes_on (at None (state.TrailerLine left)) (at None (state.Trailer n)) (at None state.Whole) (print_end Lf (print_end Lf [])) (print_end Lf []) [] [] []
          (end_then None Lf left n (print_end Lf []) (omega (arith, some)) (omega (arith, some))) (last_then None Lf n [] (omega (arith, some)));
    }

viable_trailer_feed : (left : ℕ) → 2 ≤ left → Viable (state.TrailerFeed left)
viable_trailer_feed left some =
    let n : ℕ = left - 1 in
    let h : Viable (state.Trailer n) = viable_trailer n (omega (arith, some)) in
    viable_line (state.TrailerFeed left) (state.Trailer n) 10 h
    (line_then (at None (state.TrailerFeed left)) (at None (state.Trailer n)) (at None state.Whole) 10 h.more h.held [] refl (trailer_feed_step None left n (omega (arith, some))) h.goes)

viable_whole : Viable state.Whole
viable_whole = record { more = []; held = []; goes = goes_nowhere (at None state.Whole) [] }

viable_last : Viable state.LastFeed
unfolding viable_whole
viable_last = viable_line state.LastFeed state.Whole 10 viable_whole (line_then (at None state.LastFeed) (at None state.Whole) (at None state.Whole) 10 [] [] [] refl (last_feed None) viable_whole.goes)

-- a last chunk and an empty line
abbrev shortest : ChunkedBody
shortest = record { chunks = []; last = record { digits = 48 ∷ []; extension = None }; lines = []; ending = Lf }

shortest_is : IsChunkedBody shortest
shortest_is = record {
  chunks = tt;
  last = record { some = omega arith; few = omega arith; digits = (omega arith, tt); extension = tt };
  zero_size = refl;
  lines = tt;
  room = omega arith;
}

viable_size : Viable (state.Size 0 0)
viable_size = record { more = print shortest []; held = []; goes = body_then None shortest [] shortest_is tt }

viable_data_return : Viable state.DataReturn
viable_data_return = record {
  more = 13 ∷ 10 ∷ viable_size.more;
  held = viable_size.held;
  goes = goes_on (at None state.DataReturn) (at None (state.Size 0 0)) (at None state.Whole) (13 ∷ 10 ∷ viable_size.more) viable_size.more [] [] viable_size.held (line_end_then None viable_size.more) viable_size.goes;
}

viable_data_feed : Viable state.DataFeed
viable_data_feed = viable_line state.DataFeed (state.Size 0 0) 10 viable_size
    (line_then (at None state.DataFeed) (at None (state.Size 0 0)) (at None state.Whole) 10 viable_size.more viable_size.held [] refl (data_feed None) viable_size.goes)

viable_data : (n : ℕ) → 0 < n → Viable (state.Data n)
viable_data n some =
    let front : List ℕ = replicate n 0 in
    let long : length front ≡ n = length-replicate n 0 in
    let h : Viable state.DataReturn = viable_data_return in
    subst (λ (m : ℕ). Viable (state.Data m)) long (record {
      more = front ++ h.more;
      held = front ++ h.held;
      goes = goes_on (at None (state.Data (length front))) (at None state.DataReturn) (at None state.Whole) (front ++ h.more) h.more [] front h.held (data_then None front h.more (omega (arith, long, some))) h.goes;
    })

viable_stated : (n : ℕ) → 0 < n → Viable (state.Stated n)
viable_stated n some =
    let bytes : List ℕ = replicate n 0 in
    let long : length bytes ≡ n = length-replicate n 0 in
    let none : n - n ≡ 0 = omega arith in
    let g : Gives (at None (state.Stated n)) bytes n (at None (in_stated (n - n))) = data_gives None (state.Stated n) bytes n some (omega arith) (omega (arith, long)) in
    let behind : in_stated (n - n) ≡ state.Whole = ap in_stated none in
    let left : drop n bytes ≡ [] = drop_of_length-le bytes {i = n} (omega (arith, long)) in
    record {
      more = bytes;
      held = take n bytes;
      goes = subst (λ (l : List ℕ). Goes (at None (state.Stated n)) bytes (take n bytes) (at None state.Whole) l) left
          (subst (λ (t : State). Goes (at None (state.Stated n)) bytes (take n bytes) (at None t) (drop n bytes)) behind (gives_goes (at None (state.Stated n)) (at None (in_stated (n - n))) bytes n g));
    }

record ViableAt (s : Standing) : Type 0 where
  more : List ℕ
  held : List ℕ
  goes : Goes s more held (at None state.Whole) []

viable_size_line : (size : ℕ) → ViableAt (after_size_line None size)
viable_size_line size =
    cond_both (size == 0) (at None (state.Trailer TRAILER_LIMIT)) _ ViableAt
    (λ none. let h : Viable (state.Trailer TRAILER_LIMIT) = viable_trailer TRAILER_LIMIT (omega arith) in record { more = h.more; held = h.held; goes = h.goes })
    (λ some. let other = eqb-false size 0 some in let h : Viable (state.Data size) = viable_data size (omega (arith, other)) in record { more = h.more; held = h.held; goes = h.goes })

viable_feed : (size : ℕ) → Viable (state.SizeFeed size)
viable_feed size =
    let h : ViableAt (after_size_line None size) = viable_size_line size in
    record {
      more = 10 ∷ h.more;
      held = h.held;
      goes = line_then (at None (state.SizeFeed size)) (after_size_line None size) (at None state.Whole) 10 h.more h.held [] refl (size_feed None size) h.goes;
    }

viable_extension : (left v : ℕ) → Viable (state.Extension left v)
viable_extension left v =
    let h : Viable (state.SizeFeed v) = viable_feed v in
    viable_line (state.Extension left v) (state.SizeFeed v) 13 h
    (line_then (at None (state.Extension left v)) (at None (state.SizeFeed v)) (at None state.Whole) 13 h.more h.held [] refl (extension_return None left v) h.goes)

viable_digits : (d v : ℕ) → 0 < d → Viable (state.Size d v)
viable_digits d v some =
    let h : Viable (state.SizeFeed v) = viable_feed v in
    viable_line (state.Size d v) (state.SizeFeed v) 13 h (line_then (at None (state.Size d v)) (at None (state.SizeFeed v)) (at None state.Whole) 13 h.more h.held [] refl (size_return None d v some) h.goes)

viable_first : (v : ℕ) → Viable (state.Size 0 v)
viable_first v =
    let h : Viable (state.Size 1 (v * 16 + 0)) = viable_digits 1 (v * 16 + 0) (omega arith) in
    viable_line (state.Size 0 v) (state.Size 1 (v * 16 + 0)) 48 h
    (line_then (at None (state.Size 0 v)) (at None (state.Size 1 (v * 16 + 0))) (at None state.Whole) 48 h.more h.held [] refl (digit_step None 0 v 48 (omega arith) (omega arith)) h.goes)

pub viable : (s : State) → IsSoundState s → s ≢ state.BadChunk → s ≢ state.TooLarge → Viable s
viable (state.Stated left) sound one two = viable_stated left sound
viable (state.Size zero v) sound one two = viable_first v
viable (state.Size (suc d) v) sound one two = viable_digits (suc d) v (omega arith)
viable (state.Extension left v) sound one two = viable_extension left v
viable (state.SizeFeed v) sound one two = viable_feed v
viable (state.Data left) sound one two = viable_data left sound
viable state.DataReturn sound one two = viable_data_return
viable state.DataFeed sound one two = viable_data_feed
viable (state.Trailer left) sound one two = viable_trailer left sound
viable (state.TrailerLine left) sound one two = viable_trailer_line left sound
viable (state.TrailerFeed left) sound one two = viable_trailer_feed left sound
viable state.LastFeed sound one two = viable_last
viable state.Whole sound one two = viable_whole
viable state.BadChunk sound one two = absurd (one refl)
viable state.TooLarge sound one two = absurd (two refl)
