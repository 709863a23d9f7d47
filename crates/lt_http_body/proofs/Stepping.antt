-- What holds of each state still holds one byte further.
use Rattle.std.proofs.Common.{◌≡◌, ◌⊎◌, inl, inr, ◌∙◌, ℕ, ◌+◌, ◌-◌, ◌*◌, ◌^◌, ◌<◌, ◌≤◌, ◌==◌, nat_lt, Bool, true, false, cond, Option, None, refl, ap, sym, subst, arith}
use Rattle.std.proofs.lemmas.Bool.{cond_both, cond-true, cond-false, false≢true, ltb-true, ltb-false, eqb-false}
use Rattle.std.proofs.lemmas.Nat.{pow-add}
use Rattle.std.specs.Char.{digit_value}
use Rattle.lt_http_body.specs.declared.state.State.{State}
use Rattle.lt_http_body.specs.declared.state.State.TheVariants as state
use Rattle.lt_http_body.specs.declared.standing.Standing.{Standing}
use Rattle.lt_http_body.specs.declared.limits.TheConstants.{SIZE_DIGITS, EXTENSION_LIMIT, TRAILER_LIMIT}
use Rattle.lt_http_body.specs.Lines.{after_size, after_extension, after_trailer, after_trailer_line, line_byte, line_return}
use Rattle.lt_http_body.specs.Standings.{at, step, is_above, less, after_size_line, is_over, only}
use Rattle.lt_http_body.specs.Sound.{IsSoundState}

some_left : (n : ℕ) → (n == 0) ≡ false → 0 < n
some_left n some = let other = eqb-false n 0 some in omega (arith, other)

more_digits : (d v c : ℕ) → c < 16 → v < 16 ^ d → v * 16 + c < 16 ^ (d + 1)
more_digits d v c hex fits =
    let top : 16 ^ (d + 1) ≡ 16 ^ d * 16 = pow-add 16 d 1 in
    omega (arith, top)

abbrev is_large : State → Bool
is_large state.TooLarge = true
is_large other = false

-- a state that only a size line does not lead to
abbrev Plain : State → Type 0
Plain s = IsSoundState s × (is_large s ≡ false)

sound_size : (d v b : ℕ) → d ≤ SIZE_DIGITS → v < 16 ^ d → Plain (after_size d v b)
sound_size d v b few fits =
    cond_both (nat_lt (digit_value b) 16) _ _ Plain
    (λ hex. cond_both (nat_lt d SIZE_DIGITS) (state.Size (d + 1) (v * 16 + digit_value b)) state.BadChunk Plain
    (λ room. let low = ltb-true d SIZE_DIGITS room in ((omega (arith, low), more_digits d v (digit_value b) (ltb-true (digit_value b) 16 hex) fits), refl)) (λ no. (tt, refl)))
    (λ other. cond_both (d == 0) state.BadChunk _ Plain (λ none. (tt, refl))
    (λ some. cond_both (b == 13) (state.SizeFeed v) _ Plain (λ is. (tt, refl))
    (λ no. cond_both (b == 59) (state.Extension EXTENSION_LIMIT v) state.BadChunk Plain (λ is. (tt, refl)) (λ bad. (tt, refl)))))

sound_extension : (left v b : ℕ) → Plain (after_extension left v b)
sound_extension left v b =
    cond_both (b == 13) (state.SizeFeed v) _ Plain (λ is. (tt, refl))
    (λ no. cond_both (b == 10) state.BadChunk _ Plain (λ is. (tt, refl))
    (λ none. cond_both (left == 0) state.BadChunk (state.Extension (left - 1) v) Plain (λ is. (tt, refl)) (λ some. (tt, refl))))

sound_size_line : (room : Option ℕ) (size : ℕ) → IsSoundState (after_size_line room size).state
sound_size_line room size =
    cond_both (size == 0) (at room (state.Trailer TRAILER_LIMIT)) _ P (λ none. omega arith)
    (λ some. cond_both (is_above size room) (at room state.TooLarge) (at (less room size) (state.Data size)) P (λ above. tt) (λ fits. some_left size some))
  where
    P : Standing → Type 0
    P s = IsSoundState s.state

sound_line_byte : (left : ℕ) → Plain (line_byte left)
sound_line_byte left = cond_both (nat_lt left 3) state.BadChunk (state.TrailerLine (left - 1)) Plain (λ few. (tt, refl)) (λ enough. let low = ltb-false left 3 enough in (omega (arith, low), refl))

sound_line_return : (left : ℕ) → Plain (line_return left)
sound_line_return left = cond_both (nat_lt left 3) state.BadChunk (state.TrailerFeed (left - 1)) Plain (λ few. (tt, refl)) (λ enough. let low = ltb-false left 3 enough in (omega (arith, low), refl))

sound_trailer : (left b : ℕ) → Plain (after_trailer left b)
sound_trailer left b =
    cond_both (b == 10) state.Whole _ Plain (λ is. (tt, refl))
    (λ two. cond_both (b == 13) (cond (nat_lt left 2) state.BadChunk state.LastFeed) (line_byte left) Plain
    (λ is. cond_both (nat_lt left 2) state.BadChunk state.LastFeed Plain (λ few. (tt, refl)) (λ enough. (tt, refl)))
    (λ one. sound_line_byte left))

sound_trailer_line : (left b : ℕ) → 2 ≤ left → Plain (after_trailer_line left b)
sound_trailer_line left b some =
    cond_both (b == 10) (state.Trailer (left - 1)) _ Plain (λ is. (omega (arith, some), refl))
    (λ two. cond_both (b == 13) (line_return left) (line_byte left) Plain (λ is. sound_line_return left) (λ one. sound_line_byte left))

sound_only : (wanted b : ℕ) (s : State) → Plain s → Plain (only wanted b s)
sound_only wanted b s sound = cond_both (b == wanted) s state.BadChunk Plain (λ is. sound) (λ no. (tt, refl))

pub no_digits : IsSoundState (state.Size 0 0)
no_digits = (omega arith, omega arith)

stepped : (room : Option ℕ) (s : State) (b : ℕ) → IsSoundState s → Plain (step (at room s) b).state ⊎ ((is_over s ≡ true) ⊎ ((v : ℕ) × (s ≡ state.SizeFeed v)))
unfolding step
stepped room (state.Stated left) b sound = inl (cond_both (left - 1 == 0) state.Whole (state.Stated (left - 1)) Plain (λ is. (tt, refl)) (λ more. (some_left (left - 1) more, refl)))
stepped room (state.Size d v) b sound = inl (sound_size d v b sound.0 sound.1)
stepped room (state.Extension left v) b sound = inl (sound_extension left v b)
stepped room (state.SizeFeed v) b sound = inr (inr (v, refl))
stepped room (state.Data left) b sound = inl (cond_both (left - 1 == 0) state.DataReturn (state.Data (left - 1)) Plain (λ is. (tt, refl)) (λ more. (some_left (left - 1) more, refl)))
stepped room state.DataReturn b sound = inl (sound_only 13 b state.DataFeed (tt, refl))
stepped room state.DataFeed b sound = inl (sound_only 10 b (state.Size 0 0) (no_digits, refl))
stepped room (state.Trailer left) b sound = inl (sound_trailer left b)
stepped room (state.TrailerLine left) b sound = inl (sound_trailer_line left b sound)
stepped room (state.TrailerFeed left) b sound = inl (sound_only 10 b (state.Trailer (left - 1)) (let some : 2 ≤ left = sound in let next : 1 ≤ left - 1 = omega (arith, some) in next, refl))
stepped room state.LastFeed b sound = inl (sound_only 10 b state.Whole (tt, refl))
stepped room state.Whole b sound = inr (inl refl)
stepped room state.BadChunk b sound = inr (inl refl)
stepped room state.TooLarge b sound = inr (inl refl)

over_stays : (room : Option ℕ) (s : State) (b : ℕ) → is_over s ≡ true → step (at room s) b ≡ at room s
unfolding step
over_stays room state.Whole b over = refl
over_stays room state.BadChunk b over = refl
over_stays room state.TooLarge b over = refl
over_stays room other b over = cc

sound_feed : (room : Option ℕ) (v b : ℕ) → IsSoundState (step (at room (state.SizeFeed v)) b).state
unfolding step
sound_feed room v b = cond_both (b == 10) (after_size_line room v) (at room state.BadChunk) (λ (s : Standing). IsSoundState s.state) (λ is. sound_size_line room v) (λ other. tt)

pub sound_step : (room : Option ℕ) (s : State) (b : ℕ) → IsSoundState s → IsSoundState (step (at room s) b).state
sound_step room s b sound = by (stepped room s b sound)
  where
    by : Plain (step (at room s) b).state ⊎ ((is_over s ≡ true) ⊎ ((v : ℕ) × (s ≡ state.SizeFeed v))) → IsSoundState (step (at room s) b).state
    by (inl plain) = plain.0
    by (inr (inl over)) = subst (λ (t : Standing). IsSoundState t.state) (sym (over_stays room s b over)) sound
    by (inr (inr feed)) = subst (λ (t : State). IsSoundState (step (at room t) b).state) (sym feed.1) (sound_feed room feed.0 b)

feed_large : (room : Option ℕ) (v b : ℕ) → (step (at room (state.SizeFeed v)) b).state ≡ state.TooLarge → is_over (step (at None (state.SizeFeed v)) b).state ≡ false
unfolding step
feed_large room v b =
    cond_both (b == 10) (after_size_line room v) (at room state.BadChunk) (λ (s : Standing). s.state ≡ state.TooLarge → is_over (cond (b == 10) (after_size_line None v) (at None state.BadChunk)).state ≡ false)
    (λ is. cond_both (v == 0) (at room (state.Trailer TRAILER_LIMIT)) (cond (is_above v room) (at room state.TooLarge) (at (less room v) (state.Data v)))
    (λ (s : Standing). s.state ≡ state.TooLarge → is_over (cond (b == 10) (after_size_line None v) (at None state.BadChunk)).state ≡ false)
    (λ none e. cc)
    (λ some e. ap (λ (s : Standing). is_over s.state) (cond-true (b == 10) (after_size_line None v) (at None state.BadChunk) is ∙ cond-false (v == 0) (at None (state.Trailer TRAILER_LIMIT)) (at None (state.Data v)) some)))
    (λ other e. cc)

-- where the sum becomes too large, the body would go on without a limit
pub large_step : (room : Option ℕ) (s : State) (b : ℕ) → IsSoundState s → is_over s ≡ false → (step (at room s) b).state ≡ state.TooLarge → is_over (step (at None s) b).state ≡ false
large_step room s b sound open_is large = by (stepped room s b sound)
  where
    by : Plain (step (at room s) b).state ⊎ ((is_over s ≡ true) ⊎ ((v : ℕ) × (s ≡ state.SizeFeed v))) → is_over (step (at None s) b).state ≡ false
    by (inl plain) = absurd (false≢true (sym plain.1 ∙ ap is_large large))
    by (inr (inl over)) = absurd (false≢true (sym open_is ∙ over))
    by (inr (inr feed)) = subst (λ (t : State). is_over (step (at None t) b).state ≡ false) (sym feed.1)
        (feed_large room feed.0 b (subst (λ (t : State). (step (at room t) b).state ≡ state.TooLarge) feed.1 large))

-- with a limit the state is that without one, or too large
pub step_agrees : (room : Option ℕ) (s : State) (b : ℕ) → ((step (at room s) b).state ≡ state.TooLarge) ⊎ (step (at None s) b ≡ at None (step (at room s) b).state)
unfolding step
step_agrees room (state.SizeFeed v) b =
    cond_both (b == 10) (after_size_line room v) (at room state.BadChunk) (λ (s : Standing). (s.state ≡ state.TooLarge) ⊎ (cond (b == 10) (after_size_line None v) (at None state.BadChunk) ≡ at None s.state))
    (λ is. with_feed is) (λ no. inr (cond-false (b == 10) _ _ no))
  where
    sized : ((after_size_line room v).state ≡ state.TooLarge) ⊎ (after_size_line None v ≡ at None (after_size_line room v).state)
    sized = cond_both (v == 0) (at room (state.Trailer TRAILER_LIMIT)) _ (λ (s : Standing). (s.state ≡ state.TooLarge) ⊎ (after_size_line None v ≡ at None s.state))
        (λ none. inr (cond-true (v == 0) _ _ none))
        (λ some. cond_both (is_above v room) (at room state.TooLarge) (at (less room v) (state.Data v)) (λ (s : Standing). (s.state ≡ state.TooLarge) ⊎ (after_size_line None v ≡ at None s.state))
        (λ above. inl refl) (λ fits. inr (cond-false (v == 0) _ _ some)))

    with_feed : (b == 10) ≡ true → ((after_size_line room v).state ≡ state.TooLarge) ⊎ (cond (b == 10) (after_size_line None v) (at None state.BadChunk) ≡ at None (after_size_line room v).state)
    with_feed is = by sized
      where
        by : ((after_size_line room v).state ≡ state.TooLarge) ⊎ (after_size_line None v ≡ at None (after_size_line room v).state) → ((after_size_line room v).state ≡ state.TooLarge) ⊎ (cond (b == 10) (after_size_line None v) (at None state.BadChunk) ≡ at None (after_size_line room v).state)
        by (inl large) = inl large
        by (inr same) = inr (cond-true (b == 10) _ _ is ∙ same)
step_agrees room other b = inr refl
