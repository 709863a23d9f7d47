-- Pieces whose terminals spell something that depends on the line.
use Rattle.std.proofs.Common.{◌≡◌, ℕ, ◌++◌, List, sym, subst, append_assoc}
use Rattle.std.specs.Str.{IsUtf8}
use Rattle.std.proofs.lemmas.Str.{IsUtf8-append}
use Rattle.conf_lex.specs.declared.token.Token.{Token}
use Rattle.conf_lex.specs.Tokens.{Reads}
use Rattle.conf_parse.specs.Symbols.{Text, Mark, marks}
use Rattle.conf_parse.proofs.Pieces.{Again, again}

-- The piece is read as terminals that spell one of these, such that.
pub data AgainAs {A : Type 0} (follows : List ℕ → Type 0) (P : A → List Mark → List Mark → Type 0) (S : A → Type 0) (piece : Text) (n : ℕ) : Type 0 where
  again_as : (x : A) → S x → Again follows (P x) piece n → AgainAs follows P S piece n

module _ {A B C : Type 0} {F G : List ℕ → Type 0} {P : A → List Mark → List Mark → Type 0} {Q : B → List Mark → List Mark → Type 0} {R : C → List Mark → List Mark → Type 0}
    {S : A → Type 0} {T : B → Type 0} {U : C → Type 0} {a b : Text} where
  two_by : {n m : ℕ} (x : A) → S x → (us : List Token → List Token)
      → ((bs : List ℕ) (vs : List Token) (o : ℕ) (r : List ℕ) → F bs → Reads m bs vs o r → Reads n (a ++ bs) (us vs) o r)
      → ((vs : List Token) → P x (marks (us vs)) (marks vs)) → IsUtf8 a
      → AgainAs G Q T b m → ((bs : List ℕ) → G bs → F (b ++ bs)) → (conv : A → B → C) → ((x : A) (y : B) → S x → T y → U (conv x y))
      → ((x : A) (y : B) (ts mid r : List Mark) → P x ts mid → Q y mid r → R (conv x y) ts r) → AgainAs G R U (a ++ b) n
  two_by {n = n} x sx us f p u (again_as y ty (again vs o h q v)) fits conv sound both = again_as (conv x y) (sound x y sx ty) (again (λ ws. us (vs ws)) o
      (λ bs ws k r gb hb. subst (λ (z : List ℕ). Reads n z (us (vs ws)) k r) (sym (append_assoc a b bs)) (f (b ++ bs) (vs ws) k r (fits bs gb) (h bs ws k r gb hb)))
      (λ ws. both x y _ _ _ (p (vs ws)) (q ws)) (IsUtf8-append a b u v))

  -- one piece behind another
  pub two : {n : ℕ} → AgainAs F P S a n → ((m : ℕ) → AgainAs G Q T b m) → ((bs : List ℕ) → G bs → F (b ++ bs)) → (conv : A → B → C) → ((x : A) (y : B) → S x → T y → U (conv x y))
      → ((x : A) (y : B) (ts mid r : List Mark) → P x ts mid → Q y mid r → R (conv x y) ts r) → AgainAs G R U (a ++ b) n
  two (again_as x sx (again us m f p u)) k fits conv sound both = two_by x sx us f p u (k m) fits conv sound both

-- a piece that spells one thing
pub alone : {A : Type 0} {F : List ℕ → Type 0} {P : A → List Mark → List Mark → Type 0} {S : A → Type 0} {a : Text} {n : ℕ} (x : A) → S x → Again F (P x) a n → AgainAs F P S a n
alone x sx h = again_as x sx h

pub rename : {A B : Type 0} {F : List ℕ → Type 0} {P : A → List Mark → List Mark → Type 0} {Q : B → List Mark → List Mark → Type 0} {S : A → Type 0} {T : B → Type 0} {a : Text} {n : ℕ}
    → (conv : A → B) → ((x : A) → S x → T (conv x)) → ((x : A) (ts r : List Mark) → P x ts r → Q (conv x) ts r) → AgainAs F P S a n → AgainAs F Q T a n
rename conv sound both (again_as x sx (again us m f p u)) = again_as (conv x) (sound x sx) (again us m f (λ vs. both x _ _ (p vs)) u)

pub respelled : {A : Type 0} {F : List ℕ → Type 0} {P : A → List Mark → List Mark → Type 0} {S : A → Type 0} {a b : Text} {n : ℕ} → a ≡ b → AgainAs F P S a n → AgainAs F P S b n
respelled {F = F} {P = P} {S = S} {n = n} e h = subst (λ (y : Text). AgainAs F P S y n) e h

module _ {A : Type 0} {F G : List ℕ → Type 0} {P R : A → List Mark → List Mark → Type 0} {Q : List Mark → List Mark → Type 0} {S : A → Type 0} {a b : Text} where
  then_by : {n m : ℕ} (x : A) → S x → (us : List Token → List Token)
      → ((bs : List ℕ) (vs : List Token) (o : ℕ) (r : List ℕ) → F bs → Reads m bs vs o r → Reads n (a ++ bs) (us vs) o r)
      → ((vs : List Token) → P x (marks (us vs)) (marks vs)) → IsUtf8 a
      → Again G Q b m → ((bs : List ℕ) → G bs → F (b ++ bs)) → ((x : A) (ts mid r : List Mark) → P x ts mid → Q mid r → R x ts r) → AgainAs G R S (a ++ b) n
  then_by {n = n} x sx us f p u (again vs o h q v) fits both = again_as x sx (again (λ ws. us (vs ws)) o
      (λ bs ws k r gb hb. subst (λ (z : List ℕ). Reads n z (us (vs ws)) k r) (sym (append_assoc a b bs)) (f (b ++ bs) (vs ws) k r (fits bs gb) (h bs ws k r gb hb)))
      (λ ws. both x _ _ _ (p (vs ws)) (q ws)) (IsUtf8-append a b u v))

  -- a piece behind one that depends on the line
  pub then : {n : ℕ} → AgainAs F P S a n → ((m : ℕ) → Again G Q b m) → ((bs : List ℕ) → G bs → F (b ++ bs)) → ((x : A) (ts mid r : List Mark) → P x ts mid → Q mid r → R x ts r) → AgainAs G R S (a ++ b) n
  then (again_as x sx (again us m f p u)) k fits both = then_by x sx us f p u (k m) fits both

module _ {A : Type 0} {F G : List ℕ → Type 0} {P : List Mark → List Mark → Type 0} {Q R : A → List Mark → List Mark → Type 0} {S : A → Type 0} {a b : Text} where
  before_by : {n m : ℕ} (us : List Token → List Token)
      → ((bs : List ℕ) (vs : List Token) (o : ℕ) (r : List ℕ) → F bs → Reads m bs vs o r → Reads n (a ++ bs) (us vs) o r)
      → ((vs : List Token) → P (marks (us vs)) (marks vs)) → IsUtf8 a
      → AgainAs G Q S b m → ((bs : List ℕ) → G bs → F (b ++ bs)) → ((y : A) (ts mid r : List Mark) → P ts mid → Q y mid r → R y ts r) → AgainAs G R S (a ++ b) n
  before_by {n = n} us f p u (again_as y ty (again vs o h q v)) fits both = again_as y ty (again (λ ws. us (vs ws)) o
      (λ bs ws k r gb hb. subst (λ (z : List ℕ). Reads n z (us (vs ws)) k r) (sym (append_assoc a b bs)) (f (b ++ bs) (vs ws) k r (fits bs gb) (h bs ws k r gb hb)))
      (λ ws. both y _ _ _ (p (vs ws)) (q ws)) (IsUtf8-append a b u v))

  -- a piece that depends on the line behind one that does not
  pub before : {n : ℕ} → Again F P a n → ((m : ℕ) → AgainAs G Q S b m) → ((bs : List ℕ) → G bs → F (b ++ bs)) → ((y : A) (ts mid r : List Mark) → P ts mid → Q y mid r → R y ts r) → AgainAs G R S (a ++ b) n
  before (again us m f p u) k fits both = before_by us f p u (k m) fits both
