-- Where the port of a host begins.
use Rattle.std.proofs.Common.{◌≡◌, ◌≢◌, ℕ, zero, suc, ◌-◌, ◌<◌, ◌≤◌, Bool, true, false, ◌&&◌, ◌⊎◌, inl, inr, eqb, List, [], ◌∷◌, length, get_or, take, drop, refl, ap, ◌∙◌, arith, sym}
use Rattle.std.specs.List.{list_all}
use Rattle.std.specs.Char.{is_ascii_digit}
use Rattle.std.proofs.lemmas.Bool.{eq-eqb, ne_eqb, false≢true}
use Rattle.http_head.specs.Host.{without_port}

and_true : (x y : Bool) → (x && y) ≡ true → (x ≡ true) × (y ≡ true)
and_true true y e = (refl, e)
and_true false y e = cc

and_false : (x y : Bool) → y ≡ false → (x && y) ≡ false
and_false true y e = e
and_false false y e = refl

-- a byte that is no digit
not_all : (bytes : List ℕ) (at : ℕ) → at < length bytes → is_ascii_digit (get_or bytes at 0) ≡ false → list_all is_ascii_digit bytes ≡ false
not_all [] at h n = absurd (omega arith)
not_all (b ∷ bytes) zero h n = rw n refl
not_all (b ∷ bytes) (suc at) h n = and_false (is_ascii_digit b) (list_all is_ascii_digit bytes) (not_all bytes at (omega arith) n)

digit_no_colon : (b : ℕ) → is_ascii_digit b ≡ true → eqb b 58 ≡ false
digit_no_colon b h = ne_eqb b 58 (λ e. absurd (false≢true (sym (ap is_ascii_digit e) ∙ h)))

pub digits_stay : (bytes : List ℕ) → list_all is_ascii_digit bytes ≡ true → bytes ≡ without_port bytes
digits_stay [] h = refl
digits_stay (b ∷ bytes) h =
    let p = and_true (is_ascii_digit b) (list_all is_ascii_digit bytes) h in
    rw (digit_no_colon b p.0) (ap (λ r. b ∷ r) (digits_stay bytes p.1))

later : (b : ℕ) (bytes : List ℕ) → list_all is_ascii_digit bytes ≡ false → without_port (b ∷ bytes) ≡ b ∷ without_port bytes
later b bytes h = rw (and_false (eqb b 58) (list_all is_ascii_digit bytes) h) refl

-- digits alone follow a colon
pub port_at : (field : List ℕ) (at : ℕ) → at < length field → list_all is_ascii_digit (drop (suc at) field) ≡ true → get_or field at 0 ≡ 58 → take at field ≡ without_port field
port_at [] at h digits colon = absurd (omega arith)
port_at (b ∷ rest) zero h digits colon = rw (eq-eqb b 58 colon, digits) refl
port_at (b ∷ rest) (suc at) h digits colon =
    ap (λ r. b ∷ r) (port_at rest at (omega arith) digits colon)
    ∙ sym (later b rest (not_all rest at (omega arith) (ap is_ascii_digit colon)))

-- digits alone follow another byte
pub no_port_at : (field : List ℕ) (at : ℕ) → at < length field → list_all is_ascii_digit (drop (suc at) field) ≡ true
    → is_ascii_digit (get_or field at 0) ≡ false → get_or field at 0 ≢ 58 → field ≡ without_port field
no_port_at [] at h digits other colon = absurd (omega arith)
no_port_at (b ∷ rest) zero h digits other colon = rw (ne_eqb b 58 colon) (ap (λ r. b ∷ r) (digits_stay rest digits))
no_port_at (b ∷ rest) (suc at) h digits other colon =
    ap (λ r. b ∷ r) (no_port_at rest at (omega arith) digits other colon)
    ∙ sym (later b rest (not_all rest at (omega arith) other))

last_of : (field : List ℕ) (end : ℕ) → 0 < end → list_all is_ascii_digit (drop end field) ≡ true → list_all is_ascii_digit (drop (suc (end - 1)) field) ≡ true
last_of field end h digits = let e : suc (end - 1) ≡ end = omega arith in ap (λ n. list_all is_ascii_digit (drop n field)) e ∙ digits

-- the same from the place where the digits at the end begin
pub port_before : (field : List ℕ) (end : ℕ) → 0 < end → end ≤ length field → list_all is_ascii_digit (drop end field) ≡ true
    → get_or field (end - 1) 0 ≡ 58 → take (end - 1) field ≡ without_port field
port_before field end h within digits colon = port_at field (end - 1) (omega arith) (last_of field end h digits) colon

pub no_port_before : (field : List ℕ) (end : ℕ) → end ≤ length field → list_all is_ascii_digit (drop end field) ≡ true
    → (end ≡ 0) ⊎ (is_ascii_digit (get_or field (end - 1) 0) ≡ false) → (end ≡ 0) ⊎ (get_or field (end - 1) 0 ≢ 58) → field ≡ without_port field
no_port_before field zero within digits other colon = digits_stay field digits
no_port_before field (suc end) within digits (inl e) colon = absurd (omega arith)
no_port_before field (suc end) within digits (inr other) (inl e) = absurd (omega arith)
no_port_before field (suc end) within digits (inr other) (inr colon) =
    no_port_at field (suc end - 1) (omega arith) (last_of field (suc end) (omega arith) digits) other colon
