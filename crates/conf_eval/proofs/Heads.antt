-- Where blocks stand, and what stays of that.
use Rattle.std.proofs.Common.{◌≡◌, ◌≢◌, ◌⊎◌, inl, inr, ℕ, zero, suc, ◌+◌, ◌<◌, ◌≤◌, List, [], ◌∷◌, ◌++◌, length, map, slice_get, Option, Some, None, is_some, option_map, Bool, true, false, if◌then◌else◌, refl, sym, ◌∙◌, ap, subst, append_assoc, append-nil, length-append, arith}
use Rattle.std.specs.Option.{IsSome}
use Rattle.std.specs.Str.{bytes_eq}
use Rattle.std.proofs.lemmas.List.{length-map, map-append}
use Rattle.std.proofs.lemmas.Option.{same_Some, slice_get-map, slice_get_within}
use Rattle.conf_parse.specs.declared.tree.RawCondition.{RawCondition}
use Rattle.conf_value.specs.declared.block.Block.{Block}
use Rattle.conf_value.specs.declared.block.Setting.{Setting}
use Rattle.conf_value.specs.declared.condition.Condition.{Condition}
use Rattle.conf_eval.specs.Settings.{with_key, innermost}
use Rattle.conf_eval.specs.Opening.{block, behind_it}
use Rattle.conf_eval.specs.Sound.{Head, head, heads, IsBranch, IsBehind, Fits, IsTop, AreFit, Grows, AreOpen, StandsBehind}
use Rattle.conf_eval.proofs.Placed.{no}

-- ---- items of longer lists

pub get_more : {A : Type 0} (xs ys : List A) (n : ℕ) (x : A) → slice_get xs n ≡ Some x → slice_get (xs ++ ys) n ≡ Some x
get_more [] ys n x p = no (ap is_some p)
get_more (y ∷ xs) ys zero x p = p
get_more (y ∷ xs) ys (suc n) x p = get_more xs ys n x p

pub get_last : {A : Type 0} (xs : List A) (y : A) → slice_get (xs ++ y ∷ []) (length xs) ≡ Some y
get_last [] y = refl
get_last (x ∷ xs) y = get_last xs y

pub get_middle : {A : Type 0} (xs ys : List A) (y : A) → slice_get (xs ++ y ∷ ys) (length xs) ≡ Some y
get_middle [] ys y = refl
get_middle (x ∷ xs) ys y = get_middle xs ys y

-- an item of a list with one more is one of the list, or that one
pub get_split : {A : Type 0} (xs : List A) (y : A) (n : ℕ) (x : A) → slice_get (xs ++ y ∷ []) n ≡ Some x → (slice_get xs n ≡ Some x) ⊎ ((n ≡ length xs) × (y ≡ x))
get_split [] y zero x p = inr (refl, same_Some y x p)
get_split [] y (suc n) x p = no (ap is_some p)
get_split (z ∷ xs) y zero x p = inl p
get_split (z ∷ xs) y (suc n) x p = by (get_split xs y n x p)
  where
    by : (slice_get xs n ≡ Some x) ⊎ ((n ≡ length xs) × (y ≡ x)) → (slice_get xs n ≡ Some x) ⊎ ((suc n ≡ suc (length xs)) × (y ≡ x))
    by (inl q) = inl q
    by (inr q) = inr (ap suc q.0, q.1)

-- ---- heads

pub length_heads : (blocks : List Block) → length (heads blocks) ≡ length blocks
length_heads blocks = length-map blocks head

pub head_at : (blocks : List Block) (n : ℕ) (b : Block) → slice_get blocks n ≡ Some b → slice_get (heads blocks) n ≡ Some (head b)
head_at blocks n b p = slice_get-map head blocks n ∙ ap (option_map head) p

-- a block that sets a key stands where it stood
pub heads_set : (at : ℕ) (new : Setting) (blocks : List Block) → heads (with_key at new blocks) ≡ heads blocks
heads_set at new [] = refl
heads_set zero new (b ∷ blocks) = refl
heads_set (suc at) new (b ∷ blocks) = ap (λ (l : List Head). head b ∷ l) (heads_set at new blocks)

pub heads_push : (blocks : List Block) (b : Block) → heads (blocks ++ b ∷ []) ≡ heads blocks ++ head b ∷ []
heads_push blocks b = map-append head blocks (b ∷ [])

-- ---- a block opens

pub branch_more : (hs ys : List Head) (parent n : ℕ) → IsBranch hs parent n → IsBranch (hs ++ ys) parent n
branch_more hs ys parent n h = (h.0, get_more hs ys n h.0 h.1, h.2, h.3)

behind_more : (hs ys : List Head) (number parent : ℕ) (o : Option ℕ) → IsBehind hs number parent o → IsBehind (hs ++ ys) number parent o
behind_more hs ys number parent None h = tt
behind_more hs ys number parent (Some n) h = (h.0, branch_more hs ys parent n h.1)

fits_more : (hs ys : List Head) (number : ℕ) (h : Head) → Fits hs number h → Fits (hs ++ ys) number h
fits_more hs ys number h f = record { parent = f.parent; behind = behind_more hs ys number h.parent h.chain f.behind; bare = f.bare }

fit_push : (hs : List Head) (h : Head) → AreFit hs → Fits hs (length hs) h → AreFit (hs ++ h ∷ [])
fit_push hs h fit f = record {
  some = let l : length (hs ++ h ∷ []) ≡ length hs + 1 = length-append hs (h ∷ []) in omega (arith, l);
  top = λ x p. top x (get_split hs h 0 x p);
  each = λ n x p other. each n x other (get_split hs h n x p);
}
  where
    top : (x : Head) → (slice_get hs 0 ≡ Some x) ⊎ ((0 ≡ length hs) × (h ≡ x)) → IsTop x
    top x (inl p) = fit.top x p
    top x (inr p) = absurd (let e : 0 ≡ length hs = p.0 in omega (arith, e, fit.some))

    each : (n : ℕ) (x : Head) → n ≢ 0 → (slice_get hs n ≡ Some x) ⊎ ((n ≡ length hs) × (h ≡ x)) → Fits (hs ++ h ∷ []) n x
    each n x other (inl p) = fits_more hs (h ∷ []) n x (fit.each n x p other)
    each n x other (inr p) = subst (λ (m : ℕ). Fits (hs ++ h ∷ []) m x) (sym p.0) (subst (Fits (hs ++ h ∷ []) (length hs)) p.1 (fits_more hs (h ∷ []) (length hs) h f))

-- the innermost block is there
pub innermost_there : (scopes : List ℕ) (blocks : List Block) → AreOpen scopes blocks → 0 < length blocks → innermost scopes < length blocks
innermost_there [] blocks open_ some = some
innermost_there (n ∷ scopes) blocks open_ some = open_.0

new_behind : (behind : Option ℕ) (scopes : List ℕ) (blocks : List Block) → StandsBehind behind scopes blocks → IsBehind (heads blocks) (length (heads blocks)) (innermost scopes) behind
new_behind None scopes blocks h = tt
new_behind (Some n) scopes blocks h = (slice_get_within (heads blocks) n h.0 h.1, h)

pub fit_open : (blocks : List Block) (scopes : List ℕ) (behind : Option ℕ) (condition : Option Condition) → AreFit (heads blocks) → AreOpen scopes blocks → StandsBehind behind scopes blocks
    → (condition ≡ None → IsSome behind) → AreFit (heads (blocks ++ block scopes behind condition ∷ []))
fit_open blocks scopes behind condition fit open_ stands bare =
    subst AreFit (sym (heads_push blocks (block scopes behind condition))) (fit_push (heads blocks) (head (block scopes behind condition)) fit (record {
      parent = subst (λ (n : ℕ). innermost scopes < n) (sym (length_heads blocks)) (innermost_there scopes blocks open_ (subst (λ (n : ℕ). 0 < n) (length_heads blocks) fit.some));
      behind = new_behind behind scopes blocks stands;
      bare = bare;
    }))

-- ---- blocks grow

pub grows_same : (old new : List Block) → new ≡ old → Grows old new
grows_same old new p = record { more = []; is = ap heads p ∙ sym (append-nil (heads old)) }

pub grows_on : (old mid new : List Block) → Grows old mid → Grows mid new → Grows old new
grows_on old mid new h k = record { more = h.more ++ k.more; is = k.is ∙ ap (λ (l : List Head). l ++ k.more) h.is ∙ append_assoc (heads old) h.more k.more }

pub grows_open : (old new : List Block) (b : Block) → new ≡ old ++ b ∷ [] → Grows old new
grows_open old new b p = record { more = head b ∷ []; is = ap heads p ∙ heads_push old b }

pub grows_set : (old new : List Block) (at : ℕ) (s : Setting) → new ≡ with_key at s old → Grows old new
grows_set old new at s p = grows_heads (ap heads p ∙ heads_set at s old)
  where
    grows_heads : heads new ≡ heads old → Grows old new
    grows_heads q = record { more = []; is = q ∙ sym (append-nil (heads old)) }

pub grows_length : (old new : List Block) → Grows old new → length old ≤ length new
grows_length old new h =
    let a : length (heads new) ≡ length new = length_heads new in
    let b : length (heads old) ≡ length old = length_heads old in
    let c : length (heads new) ≡ length (heads old) + length h.more = ap (λ (l : List Head). length l) h.is ∙ length-append (heads old) h.more in
    omega (arith, a, b, c)

pub open_on : (scopes : List ℕ) (old new : List Block) → Grows old new → AreOpen scopes old → AreOpen scopes new
open_on [] old new h k = tt
open_on (n ∷ scopes) old new h k = (let a : n < length old = k.0 in omega (arith, a, grows_length old new h), open_on scopes old new h k.1)

pub stands_on : (behind : Option ℕ) (scopes : List ℕ) (old new : List Block) → Grows old new → StandsBehind behind scopes old → StandsBehind behind scopes new
stands_on None scopes old new h k = tt
stands_on (Some n) scopes old new h k = subst (λ (l : List Head). IsBranch l (innermost scopes) n) (sym h.is) (branch_more (heads old) h.more (innermost scopes) n k)

-- ---- the block that was opened

pub opened_there : (scopes : List ℕ) (old new : List Block) (b : Block) → new ≡ old ++ b ∷ [] → AreOpen scopes old → AreOpen (length old ∷ scopes) new
opened_there scopes old new b p h =
    (let l : length new ≡ length old + 1 = ap (λ (x : List Block). length x) p ∙ length-append old (b ∷ []) in omega (arith, l), open_on scopes old new (grows_open old new b p) h)

pub opened_behind : (raw : Option RawCondition) (scopes : List ℕ) (old new : List Block) (behind : Option ℕ) (condition : Condition) → new ≡ old ++ block scopes behind (Some condition) ∷ []
    → StandsBehind (behind_it raw (length old)) scopes new
opened_behind None scopes old new behind condition p = tt
opened_behind (Some raw) scopes old new behind condition p = (
  head (block scopes behind (Some condition)),
  ap (λ (l : List Block). slice_get (heads l) (length old)) p ∙ ap (λ (l : List Head). slice_get l (length old)) (heads_push old (block scopes behind (Some condition)))
      ∙ ap (slice_get (heads old ++ head (block scopes behind (Some condition)) ∷ [])) (sym (length_heads old)) ∙ get_last (heads old) (head (block scopes behind (Some condition))),
  refl,
  refl,
)
