-- What a list of named texts has under a name.
use Rattle.std.proofs.Common.{◌≡◌, ℕ, ◌-◌, ◌<◌, ◌≤◌, List, [], ◌∷◌, ◌++◌, length, take, get_or, Option, Some, None, true, false, if◌then◌else◌, refl, ◌∙◌, ap}
use Rattle.std.specs.Str.{bytes_eq}
use Rattle.lt_world.specs.declared.mem_texts.NamedText.{NamedText}
use Rattle.lt_world.specs.TextRuns.{last_named, library_by, with_text}
use Rattle.lt_world.proofs.Ends.{one_more}

last_named-push : (name : List ℕ) (texts : List NamedText) (text : NamedText) (found : Option (List ℕ)) → last_named name (texts ++ text ∷ []) found ≡ (if bytes_eq text.name name then Some text.bytes else last_named name texts found)
last_named-push name [] text found = refl
last_named-push name (first ∷ texts) text found = last_named-push name texts text (if bytes_eq first.name name then Some first.bytes else found)

-- a text more
pub library-push : (texts : List NamedText) (text : NamedText) → library_by (texts ++ text ∷ []) ≡ with_text text.name text.bytes (library_by texts)
library-push texts text = λ i name. last_named-push name texts text None i

-- going down a list of texts: one of another name is skipped
pub skips : (name : List ℕ) (texts : List NamedText) (i : ℕ) (text : NamedText) (held : Option (List ℕ)) → 0 < i → i ≤ length texts → text ≡ get_or texts (i - 1) text → bytes_eq text.name name ≡ false
    → held ≡ library_by (take i texts) name → held ≡ library_by (take (i - 1) texts) name
skips name texts i text held some below is isnt so_far =
    so_far ∙ ap (λ l. library_by l name) (one_more texts i text some below is) ∙ last_named-push name (take (i - 1) texts) text None
    ∙ ap (λ b. if b then Some text.bytes else library_by (take (i - 1) texts) name) isnt

-- one of this name is what the name has
pub finds : (name : List ℕ) (texts : List NamedText) (i : ℕ) (text : NamedText) (held : Option (List ℕ)) → 0 < i → i ≤ length texts → text ≡ get_or texts (i - 1) text → bytes_eq text.name name ≡ true
    → held ≡ library_by (take i texts) name → held ≡ Some text.bytes
finds name texts i text held some below is same so_far =
    so_far ∙ ap (λ l. library_by l name) (one_more texts i text some below is) ∙ last_named-push name (take (i - 1) texts) text None
    ∙ ap (λ b. if b then Some text.bytes else library_by (take (i - 1) texts) name) same
