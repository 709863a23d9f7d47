-- What a request is answered without the bytes of a file (RFC 9110, sections 9.1, 10.2.1, 10.2.2 and 15).
use Rattle.std.specs.Prelude.{ℕ, Bool, ◌||◌, List, [], ◌∷◌, Option, Some, None, if◌then◌else◌, bytes_eq, codes}
use Rattle.conf_value.specs.declared.value.Pair.{Pair}
use Rattle.static_files.specs.Locations.{is_excluded, location}
use Rattle.static_files.specs.Texts.{texts_of}
use Rattle.file_reply.specs.declared.answers.Answer.{Answer}
use Rattle.file_reply.specs.declared.answers.Content.TheVariants as content

-- a status in words, with no field of its own
abbrev pub plain : ℕ → Answer
plain status = record { status = status; fields = []; content = content.Phrase }

-- 301: a directory's path has a final slash (section 15.4.2)
abbrev pub moved : List ℕ → List ℕ → Answer
moved path query = record { status = 301; fields = (codes "Location", location path query) ∷ []; content = content.Phrase }

-- 405 names the methods that a file answers (sections 10.2.1 and 15.5.6)
abbrev pub not_allowed : Answer
not_allowed = record { status = 405; fields = (codes "Allow", codes "GET, HEAD") ∷ []; content = content.Phrase }

-- the methods that a file answers (sections 9.3.1 and 9.3.2)
abbrev pub is_served : List ℕ → Bool
is_served method = bytes_eq method (codes "GET") || bytes_eq method (codes "HEAD")

-- Why a file isn't opened that stands at this path, if it isn't: the path ends in an excluded extension
-- (lighttpd's `static-file.exclude-extensions`), or another method is asked for.
abbrev pub refusal : List Pair → List ℕ → List ℕ → Option Answer
refusal extensions path method =
    if is_excluded (texts_of extensions) path then Some (plain 403) else (if is_served method then None else Some not_allowed)
