-- Keys whose places were found one after another.
use Rattle.std.proofs.Common.{◌≡◌, ◌≢◌, ℕ, ◌+◌, ◌<◌, suc, zero, ◌⊎◌, inl, inr, List, [], ◌∷◌, ◌++◌, length, take, Option, None, Some, refl, sym, ◌∙◌, ap, subst, arith}
use Rattle.std.specs.Prelude.{get_or, slice_get}
use Rattle.std.proofs.Math.Seq.{take-suc}
use Rattle.std.proofs.lemmas.Bool.{cases_eq}
use Rattle.settings.specs.declared.counting.Counting.{Counting}
use Rattle.settings.specs.declared.key.Key.{Key}
use Rattle.settings.specs.declared.key.Key.TheVariants.{DocumentRoot, Port, Bind, Modules, Tag, MaxRequestSize, MaxKeepAliveRequests, IndexFileNames, MimetypeAssign, ExcludeExtensions, RewriteOnce, RewriteRepeat, FastcgiServer, FastcgiBalance, ProxyServer, ProxyBalance}
use Rattle.settings.specs.declared.key.TheConstants.{KEYS}
use Rattle.settings.specs.declared.places.Place.{Place}
use Rattle.settings.specs.Keys.{key_among, key_of, row}
use Rattle.settings.specs.Indexed.{AreDue, place_in}

-- each key's row has what was made for it
pub key_at : (key : Key) → slice_get KEYS (row key) ≡ Some key
key_at DocumentRoot = refl
key_at Port = refl
key_at Bind = refl
key_at Modules = refl
key_at Tag = refl
key_at MaxRequestSize = refl
key_at MaxKeepAliveRequests = refl
key_at IndexFileNames = refl
key_at MimetypeAssign = refl
key_at ExcludeExtensions = refl
key_at RewriteOnce = refl
key_at RewriteRepeat = refl
key_at FastcgiServer = refl
key_at FastcgiBalance = refl
key_at ProxyServer = refl
key_at ProxyBalance = refl

pub same_row : (a b : Key) → row a ≡ row b → a ≡ b
same_row a b e = let f : Some a ≡ Some b = sym (key_at a) ∙ ap (slice_get KEYS) e ∙ key_at b in cc

pub same_or_other : (a b : Key) → (a ≡ b) ⊎ (a ≢ b)
same_or_other a b = by (cases_eq (row a) (row b))
  where
    by : (row a ≡ row b) ⊎ (row a ≢ row b) → (a ≡ b) ⊎ (a ≢ b)
    by (inl e) = inl (same_row a b e)
    by (inr n) = inr (λ e. n (ap row e))

-- a key gets its place, and the others keep theirs
one_more : (due : Key → Option Place) (keys : List Key) (key : Key) (old new : Counting) → place_in new key ≡ due key → ((other : Key) → other ≢ key → place_in new other ≡ place_in old other)
    → AreDue due keys old → AreDue due (keys ++ key ∷ []) new
one_more due [] key old new here there h = (here, tt)
one_more due (k ∷ keys) key old new here there (h, rest) = (by (same_or_other k key), one_more due keys key old new here there rest)
  where
    by : (k ≡ key) ⊎ (k ≢ key) → place_in new k ≡ due k
    by (inl e) = subst (λ x. place_in new x ≡ due x) (sym e) here
    by (inr n) = there k n ∙ h

-- the next of these keys gets its place
pub next_due : (due : Key → Option Place) (keys : List Key) (i : ℕ) (d : Key) (old new : Counting) → i < length keys → place_in new (get_or keys i d) ≡ due (get_or keys i d)
    → ((other : Key) → other ≢ get_or keys i d → place_in new other ≡ place_in old other) → AreDue due (take i keys) old → AreDue due (take (i + 1) keys) new
next_due due keys i d old new low here there h =
    let e : i + 1 ≡ suc i = omega arith in
    subst (λ ks. AreDue due ks new) (sym (ap (λ (n : ℕ). take n keys) e ∙ take-suc keys i d low)) (one_more due (take i keys) (get_or keys i d) old new here there h)

is_due : (due : Key → Option Place) (keys : List Key) (counting : Counting) (i : ℕ) (key : Key) → slice_get keys i ≡ Some key → AreDue due keys counting → place_in counting key ≡ due key
is_due due [] counting i key is h = let e : None ≡ Some key = is in cc
is_due due (k ∷ keys) counting zero key is (h, rest) = let e : Some k ≡ Some key = is in let f : k ≡ key = cc in subst (λ x. place_in counting x ≡ due x) f h
is_due due (k ∷ keys) counting (suc i) key is (h, rest) = is_due due keys counting i key is rest

-- all keys were found
pub all_due : (due : Key → Option Place) (counting : Counting) → AreDue due KEYS counting → (key : Key) → place_in counting key ≡ due key
all_due due counting h key = is_due due KEYS counting (row key) key (key_at key) h

-- ---- the key of a name

pub key_of_is : (text : List ℕ) → key_of text ≡ key_among KEYS text
unfolding key_of
key_of_is text = refl
