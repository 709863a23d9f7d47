-- A slash in front changes nothing in whether a target is bad.
use Rattle.std.proofs.Common.{◌≡◌, ℕ, suc, ◌+◌, Bool, true, false, cond, eqb, List, [], ◌∷◌, take, drop, refl, ap, ◌∙◌, sym, arith}
use Rattle.std.specs.Prelude.{not, ◌||◌}
use Rattle.std.specs.List.{list_any, position_or_len, before_first}
use Rattle.percent_encoding.specs.Percent.{percent_decode}
use Rattle.http_target.specs.Target.{has_scheme, ends_authority, after_authority, begins_with_slash, with_slash, raw_of, decoded_path_of, is_control, is_bad}

take_one : (n b : ℕ) (bytes : List ℕ) → take (1 + n) (b ∷ bytes) ≡ b ∷ take n bytes
take_one n b bytes = ap (λ k. take k (b ∷ bytes)) (let e : 1 + n ≡ suc n = omega arith in e)

before_other : (test : ℕ → Bool) (b : ℕ) (bytes : List ℕ) → test b ≡ false → before_first test (b ∷ bytes) ≡ b ∷ before_first test bytes
before_other test b bytes e = rw e (take_one (position_or_len test bytes) b bytes)

decode_slash : (bytes : List ℕ) → percent_decode (47 ∷ bytes) ≡ 47 ∷ percent_decode bytes
unfolding percent_decode
decode_slash [] = refl
decode_slash (c ∷ []) = refl
decode_slash (c ∷ d ∷ rest) = refl

decoded_slash : (rest : List ℕ) → decoded_path_of (47 ∷ rest) ≡ 47 ∷ decoded_path_of rest
decoded_slash rest =
    ap (λ r. percent_decode (before_first (λ b. eqb b 63) r)) (before_other (λ b. eqb b 35) 47 rest refl)
    ∙ ap percent_decode (before_other (λ b. eqb b 63) 47 (before_first (λ b. eqb b 35) rest) refl)
    ∙ decode_slash (before_first (λ b. eqb b 63) (before_first (λ b. eqb b 35) rest))

slash_is_good : (rest : List ℕ) → is_bad (with_slash rest) ≡ list_any is_control (decoded_path_of rest)
slash_is_good [] = ap (list_any is_control) (decoded_slash [])
slash_is_good (b ∷ bytes) = by (eqb b 47) refl
  where
    by : (t : Bool) → eqb b 47 ≡ t → is_bad (cond t (b ∷ bytes) (47 ∷ b ∷ bytes)) ≡ list_any is_control (decoded_path_of (b ∷ bytes))
    by true e = rw e refl
    by false e = ap (list_any is_control) (decoded_slash (b ∷ bytes))

-- what is tested before any memory is taken
pub bad_without_memory : (sent : List ℕ) → is_bad (raw_of sent) ≡ (not (has_scheme sent || begins_with_slash (after_authority sent)) || list_any is_control (decoded_path_of (after_authority sent)))
bad_without_memory sent = by (has_scheme sent) (drop (position_or_len ends_authority (drop 7 sent)) (drop 7 sent))
  where
    by : (t : Bool) (rest : List ℕ) → is_bad (cond t (with_slash (cond t rest sent)) sent)
        ≡ (not (t || begins_with_slash (cond t rest sent)) || list_any is_control (decoded_path_of (cond t rest sent)))
    by true rest = slash_is_good rest
    by false rest = refl

-- what stands behind scheme and authority decides, once a slash stands there or may stand there
pub bad_bytes : (sent : List ℕ) (origin found : Bool) → origin ≡ (has_scheme sent || begins_with_slash (after_authority sent)) → origin ≡ true
    → found ≡ list_any is_control (decoded_path_of (after_authority sent)) → found ≡ is_bad (raw_of sent)
bad_bytes sent origin found e holds is =
    is ∙ sym (bad_without_memory sent ∙ ap (λ t. not t || list_any is_control (decoded_path_of (after_authority sent))) (sym e ∙ holds))
