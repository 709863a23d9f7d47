-- What follows a front.
use denote.Bor.{Bor}
use Rattle.std.proofs.Common.{◌≡◌, ℕ, suc, ◌-◌, ◌<◌, not, get_or, ◌+◌, ◌&&◌, Bool, true, false, List, [], ◌∷◌, ◌++◌, ◌∙◌, length, drop, take, refl, ap, sym, arith, MatchOption, Option, Some, None, ◌==◌, if◌then◌else◌, bytes_eq}
use Rattle.std.proofs.lemmas.Bool.Decides.{nat_tests}
use Rattle.std.specs.Option.{option_copied}
use Rattle.lt_world.specs.Disk.{ends_in_slash}
use Rattle.lt_world.specs.Memory.{is_path}
use Rattle.lt_script.specs.Fields.{after}

-- what is left where the front is there
abbrev behind : List ℕ → List ℕ → Bool → Option (List ℕ)
behind front bytes true = Some (drop (length front) bytes)
behind front bytes false = None

behind_more : (t u : Bool) (c b : ℕ) (front bytes : List ℕ) → after front bytes ≡ behind front bytes u
    → (if t then after front bytes else None) ≡ behind (c ∷ front) (b ∷ bytes) (t && u)
behind_more true true c b front bytes before = before
behind_more true false c b front bytes before = before
behind_more false u c b front bytes before = refl

pub after_is : (front bytes : List ℕ) → after front bytes ≡ behind front bytes (bytes_eq (take (length front) bytes) front)
after_is [] [] = refl
after_is [] (b ∷ bytes) = refl
after_is (c ∷ front) [] = refl
after_is (c ∷ front) (b ∷ bytes) = behind_more (b == c) (bytes_eq (take (length front) bytes) front) c b front bytes (after_is front bytes)

-- a front that is there
pub after_here : (front rest : List ℕ) → after front (front ++ rest) ≡ Some rest
after_here [] rest = refl
after_here (c ∷ front) rest = grind (arith, nat_tests, after_here front rest)

after_by : (t : Bool) (c b : ℕ) (front bytes rest : List ℕ) → (b == c) ≡ t → (if t then after front bytes else None) ≡ Some rest → (after front bytes ≡ Some rest → bytes ≡ front ++ rest) → b ∷ bytes ≡ c ∷ (front ++ rest)
after_by true c b front bytes rest test some go =
    let same : b ≡ c = grind (arith, nat_tests) in
    rw same (ap (λ r. c ∷ r) (go some))
after_by false c b front bytes rest test some go = absurd (cc some)

pub after_takes : (front bytes rest : List ℕ) → after front bytes ≡ Some rest → bytes ≡ front ++ rest
after_takes [] bytes rest some = cc some
after_takes (c ∷ front) [] rest some = absurd (cc some)
after_takes (c ∷ front) (b ∷ bytes) rest some = after_by (b == c) c b front bytes rest refl some (after_takes front bytes rest)

pub stripped : (front bytes : List ℕ) (result : Option (Bor (List ℕ))) → MatchOption result (bytes_eq (take (length front) bytes) front ≡ false) (λ x. (bytes_eq (take (length front) bytes) front ≡ true) × (x.now ≡ drop (length front) bytes) × (length x.now + length front ≡ length bytes))
    → option_copied result ≡ after front bytes
stripped front bytes None strip = sym (after_is front bytes ∙ ap (behind front bytes) strip)
stripped front bytes (Some x) strip = let r : x.now ≡ drop (length front) bytes = strip.1 in rw r (sym (after_is front bytes ∙ ap (behind front bytes) strip.0))

-- a path by its test

last_slash : (path : List ℕ) → 0 < length path → ends_in_slash path ≡ (get_or path (length path - 1) 0 == 47)
last_slash [] some = absurd (omega arith)
last_slash (byte ∷ []) some = refl
last_slash (byte ∷ next ∷ path) some =
    let at : length (byte ∷ next ∷ path) - 1 ≡ suc (length (next ∷ path) - 1) = omega arith in
    rw at (last_slash (next ∷ path) (omega arith))

pub is_path_is : (path : List ℕ) → 0 < length path → get_or path 0 0 ≡ 47 → not (get_or path (length path - 1) 0 == 47) ≡ is_path path
is_path_is [] some first = absurd (omega arith)
is_path_is (byte ∷ path) some first =
    let begins : (byte == 47) ≡ true = grind (arith, nat_tests, first) in
    ap not (sym (last_slash (byte ∷ path) some)) ∙ sym (ap (λ t. t && not (ends_in_slash (byte ∷ path))) begins)
