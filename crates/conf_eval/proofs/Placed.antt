-- A list of items that have keys, and where each key stands in it.
use Rattle.std.proofs.Common.{◌≡◌, ℕ, suc, ◌<◌, List, [], ◌∷◌, ◌++◌, length, slice_get, slice_set, Option, Some, None, is_some, unwrap_or, Bool, true, false, if◌then◌else◌, refl, sym, ◌∙◌, ap, subst, arith, Vec}
use Rattle.std.specs.Str.{bytes_eq}
use Rattle.std.specs.Map.{lookup, IsKeyTest, AreApart, KeepsOthers}
use Rattle.std.specs.Cmp.Lexicographic.{nat_list_eq_equiv}
use Rattle.std.specs.declared.alloc.Global.{Global}
use Rattle.std.proofs.lemmas.Bool.{false≢true}
use Rattle.std.proofs.lemmas.Slice.Eq.{bytes_eq-Decides}
use Rattle.conf_eval.specs.Places.{place, further}

pub no : {P : Type 0} → false ≡ true → P
no e = absurd (false≢true e)

-- ---- a map by the bytes of its keys

pub bytes_same : (xs : List ℕ) → bytes_eq xs xs ≡ true
bytes_same xs = (bytes_eq-Decides xs xs).1 refl

apart : (bs cs ks : List ℕ) → bytes_eq bs cs ≡ false → bytes_eq bs ks ≡ true → bytes_eq cs ks ≡ false
apart bs cs ks n y = nat_list_eq_equiv.symm cs ks ∙ sym (nat_list_eq_equiv.congr bs ks cs y) ∙ n

-- the test of a key's bytes
abbrev has_bytes : List ℕ → Vec ℕ Global → Bool
has_bytes bs k = bytes_eq bs k.items

others : (eq : Vec ℕ Global → Vec ℕ Global → Bool) (test : Vec ℕ Global → Bool) (old new : List (Vec ℕ Global × ℕ)) → KeepsOthers eq test old new
    → (other : Vec ℕ Global → Bool) → IsKeyTest eq other → AreApart test other → lookup other new ≡ lookup other old
unfolding KeepsOthers
others eq test old new h = h

-- after a change at a key, each key has what it had, but this one
pub updates : (bs : List ℕ) (at : ℕ) (old new : List (Vec ℕ Global × ℕ)) → KeepsOthers (λ x y. bytes_eq x.items y.items) (has_bytes bs) old new
    → lookup (has_bytes bs) new ≡ Some at → (cs : List ℕ) → lookup (has_bytes cs) new ≡ (if bytes_eq bs cs then Some at else lookup (has_bytes cs) old)
updates bs at old new keeps here cs = by (bytes_eq bs cs) refl
  where
    by : (b : Bool) → bytes_eq bs cs ≡ b → lookup (has_bytes cs) new ≡ (if b then Some at else lookup (has_bytes cs) old)
    by true e = subst (λ (l : List ℕ). lookup (has_bytes l) new ≡ Some at) ((bytes_eq-Decides bs cs).0 e) here
    by false e = others (λ x y. bytes_eq x.items y.items) (has_bytes bs) old new keeps (has_bytes cs) (λ x y. nat_list_eq_equiv.congr cs x.items y.items) (λ k. apart bs cs k.items e)

-- ---- lists

module _ {A : Type 0} (has : A → List ℕ → Bool) where
  -- an item is put in the place of the first with a key, else behind the others
  abbrev pub puts : List A → List ℕ → A → List A
  puts [] key y = y ∷ []
  puts (x ∷ xs) key y = if has x key then y ∷ xs else x ∷ puts xs key y

  -- an item that has the key stands there
  pub record Found (xs : List A) (key : List ℕ) (at : ℕ) : Type 0 where
    pub item : A
    pub is : slice_get xs at ≡ Some item
    pub keyed : has item key ≡ true
    pub below : at < length xs
    pub put : (y : A) → puts xs key y ≡ slice_set xs at y

  pub found : (xs : List A) (key : List ℕ) (at : ℕ) → place has xs key ≡ Some at → Found xs key at
  found [] key at p = no (ap is_some p)
  found (x ∷ xs) key at p = by (λ n q. found xs key n q) (has x key) refl p
    where
      deeper : ((n : ℕ) → place has xs key ≡ Some n → Found xs key n) → (o : Option ℕ) → has x key ≡ false → place has xs key ≡ o → further o ≡ Some at → Found (x ∷ xs) key at
      deeper rest None e q r = no (ap is_some r)
      deeper rest (Some n) e q r = let h = rest n q in subst (λ (m : ℕ). Found (x ∷ xs) key m) (ap (λ (o : Option ℕ). unwrap_or o 0) r) (record {
        item = h.item;
        is = h.is;
        keyed = h.keyed;
        below = omega (arith, h.below);
        put = λ y. ap (λ (b : Bool). if b then y ∷ xs else x ∷ puts xs key y) e ∙ ap (λ (l : List A). x ∷ l) (h.put y);
      })

      by : ((n : ℕ) → place has xs key ≡ Some n → Found xs key n) → (b : Bool) → has x key ≡ b → (if b then Some 0 else further (place has xs key)) ≡ Some at → Found (x ∷ xs) key at
      by rest true e r = subst (λ (m : ℕ). Found (x ∷ xs) key m) (ap (λ (o : Option ℕ). unwrap_or o 0) r) (record {
        item = x;
        is = refl;
        keyed = e;
        below = omega arith;
        put = λ y. ap (λ (b : Bool). if b then y ∷ xs else x ∷ puts xs key y) e;
      })
      by rest false e r = deeper rest (place has xs key) e refl r

  -- no item has the key
  pub record Lacks (xs : List A) (key : List ℕ) : Type 0 where
    pub put : (y : A) → puts xs key y ≡ xs ++ y ∷ []
    pub placed : (y : A) → ((k : List ℕ) → has y k ≡ bytes_eq key k) → (q : List ℕ) → place has (puts xs key y) q ≡ (if bytes_eq key q then Some (length xs) else place has xs q)

  pub lacks : (xs : List A) (key : List ℕ) → place has xs key ≡ None → Lacks xs key
  lacks [] key p = record { put = λ y. refl; placed = λ y h q. ap (λ (b : Bool). if b then Some 0 else None) (h q) }
  lacks (x ∷ xs) key p = by (λ n. lacks xs key n) (has x key) refl p
    where
      at : has x key ≡ false → (q : List ℕ) (b : Bool) → bytes_eq key q ≡ b → (if has x q then Some 0 else further (if b then Some (length xs) else place has xs q)) ≡ (if b then Some (suc (length xs)) else (if has x q then Some 0 else further (place has xs q)))
      at e q true same = ap (λ (b : Bool). if b then Some 0 else Some (suc (length xs))) (ap (has x) (sym ((bytes_eq-Decides key q).0 same)) ∙ e)
      at e q false same = refl

      behind : Lacks xs key → has x key ≡ false → Lacks (x ∷ xs) key
      behind h e = record {
        put = λ y. ap (λ (b : Bool). if b then y ∷ xs else x ∷ puts xs key y) e ∙ ap (λ (l : List A). x ∷ l) (h.put y);
        placed = λ y own q. ap (λ (b : Bool). place has (if b then y ∷ xs else x ∷ puts xs key y) q) e ∙ ap (λ (o : Option ℕ). if has x q then Some 0 else further o) (h.placed y own q) ∙ at e q (bytes_eq key q) refl;
      }

      deeper : (place has xs key ≡ None → Lacks xs key) → (o : Option ℕ) → has x key ≡ false → place has xs key ≡ o → further o ≡ None → Lacks (x ∷ xs) key
      deeper rest None e q r = behind (rest q) e
      deeper rest (Some n) e q r = no (sym (ap is_some r))

      by : (place has xs key ≡ None → Lacks xs key) → (b : Bool) → has x key ≡ b → (if b then Some 0 else further (place has xs key)) ≡ None → Lacks (x ∷ xs) key
      by rest true e r = no (sym (ap is_some r))
      by rest false e r = deeper rest (place has xs key) e refl r

  -- an item in the place of one with its key moves none
  pub stays : (xs : List A) (key : List ℕ) (y : A) → ((k : List ℕ) → has y k ≡ bytes_eq key k) → ((x : A) → has x key ≡ true → (k : List ℕ) → has x k ≡ bytes_eq key k)
      → (at : ℕ) → place has xs key ≡ Some at → (q : List ℕ) → place has (puts xs key y) q ≡ place has xs q
  stays [] key y own each at p q = no (ap is_some p)
  stays (x ∷ xs) key y own each at p q = by (λ n i. stays xs key y own each n i q) (has x key) refl p
    where
      deeper : ((n : ℕ) → place has xs key ≡ Some n → place has (puts xs key y) q ≡ place has xs q) → (o : Option ℕ) → has x key ≡ false → place has xs key ≡ o → further o ≡ Some at → place has (puts (x ∷ xs) key y) q ≡ place has (x ∷ xs) q
      deeper rest None e i r = no (ap is_some r)
      deeper rest (Some n) e i r = ap (λ (b : Bool). place has (if b then y ∷ xs else x ∷ puts xs key y) q) e ∙ ap (λ (o : Option ℕ). if has x q then Some 0 else further o) (rest n i)

      by : ((n : ℕ) → place has xs key ≡ Some n → place has (puts xs key y) q ≡ place has xs q) → (b : Bool) → has x key ≡ b → (if b then Some 0 else further (place has xs key)) ≡ Some at → place has (puts (x ∷ xs) key y) q ≡ place has (x ∷ xs) q
      by rest true e r = ap (λ (b : Bool). place has (if b then y ∷ xs else x ∷ puts xs key y) q) e ∙ ap (λ (b : Bool). if b then Some 0 else further (place has xs q)) (own q ∙ sym (each x e q))
      by rest false e r = deeper rest (place has xs key) e refl r
