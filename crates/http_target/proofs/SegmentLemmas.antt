-- The segments of a path in normal form.
use Rattle.std.proofs.Common.{◌≡◌, ℕ, ◌-◌, ◌<◌, Bool, true, false, cond, List, [], ◌∷◌, ◌++◌, length, fold, All, ◌⊎◌, inl, inr, sym, refl, ap, ◌∙◌, arith}
use Rattle.std.specs.List.{onto_first, flat_map}
use Rattle.std.proofs.lemmas.List.{append-nil, append_assoc}
use Rattle.std.proofs.lemmas.List.Elements.{All-nil, All-cons, All-head, All-tail, All-push, All-take, All-weaker}
use Rattle.std.proofs.lemmas.List.Splits.{slice_split_none, slice_split_at, length-slice_split}
use Rattle.std.proofs.lemmas.List.Sums.{fold-append}
use Rattle.http_target.specs.Path.{is_slash, segments, is_up, is_dropped, without_last, keep, kept_of, last_of, is_open, spell, normal}

abbrev pub NoSlash : List ℕ → Type 0
NoSlash segment = All (λ b. is_slash b ≡ false) segment

-- a segment that is kept
pub record IsName (segment : List ℕ) : Type 0 where
  pub stays : is_dropped segment ≡ false
  pub down : is_up segment ≡ false
  pub clean : NoSlash segment

clean_first : (b : ℕ) (rest : List (List ℕ)) → is_slash b ≡ false → All NoSlash rest → All NoSlash (onto_first b rest)
clean_first b [] n h = All-cons NoSlash (b ∷ []) [] (All-cons (λ b. is_slash b ≡ false) b [] n (All-nil (λ b. is_slash b ≡ false))) (All-nil NoSlash)
clean_first b (p ∷ ps) n h = All-cons NoSlash (b ∷ p) ps (All-cons (λ b. is_slash b ≡ false) b p n (All-head NoSlash p ps h)) (All-tail NoSlash p ps h)

-- no slash stands within a segment
segments_clean : (path : List ℕ) → All NoSlash (segments path)
segments_clean [] = All-cons NoSlash [] [] (All-nil (λ b. is_slash b ≡ false)) (All-nil NoSlash)
segments_clean (b ∷ path) = by (is_slash b) refl (segments_clean path)
  where
    by : (t : Bool) → is_slash b ≡ t → All NoSlash (segments path) → All NoSlash (cond t ([] ∷ segments path) (onto_first b (segments path)))
    by true e h = All-cons NoSlash [] (segments path) (All-nil (λ b. is_slash b ≡ false)) h
    by false e h = clean_first b (segments path) e h

keep_names : (kept : List (List ℕ)) (segment : List ℕ) → All IsName kept → NoSlash segment → All IsName (keep kept segment)
keep_names kept segment h clean = by (is_dropped segment) (is_up segment) refl refl
  where
    by : (d u : Bool) → is_dropped segment ≡ d → is_up segment ≡ u → All IsName (cond d kept (cond u (without_last kept) (kept ++ segment ∷ [])))
    by true u e f = h
    by false true e f = All-take IsName (length kept - 1) kept h
    by false false e f = All-push IsName kept segment h (record { stays = e; down = f; clean = clean })

fold_names : (kept pieces : List (List ℕ)) → All IsName kept → All NoSlash pieces → All IsName (fold keep kept pieces)
fold_names kept [] h clean = h
fold_names kept (s ∷ pieces) h clean = fold_names (keep kept s) pieces (keep_names kept s h (All-head NoSlash s pieces clean)) (All-tail NoSlash s pieces clean)

kept_names : (path : List ℕ) → All IsName (kept_of path)
kept_names path = fold_names [] (segments path) (All-nil IsName) (segments_clean path)

-- names are kept
fold_kept : (kept names : List (List ℕ)) → All IsName names → fold keep kept names ≡ kept ++ names
fold_kept kept [] h = sym (append-nil kept)
fold_kept kept (s ∷ names) h =
    let p = All-head IsName s names h in
    let e : keep kept s ≡ kept ++ s ∷ [] = rw p.stays (rw p.down refl) in
    ap (λ k. fold keep k names) e ∙ fold_kept (kept ++ s ∷ []) names (All-tail IsName s names h) ∙ append_assoc kept (s ∷ []) names

-- the empty segment behind a final slash
abbrev tail : Bool → List (List ℕ)
tail true = [] ∷ []
tail false = []

abbrev body : List (List ℕ) → Bool → List ℕ
body names directory = flat_map (λ t. 47 ∷ t) names ++ cond directory (47 ∷ []) []

body_cons : (t : List ℕ) (more : List (List ℕ)) (directory : Bool) → body (t ∷ more) directory ≡ 47 ∷ (t ++ body more directory)
body_cons t more directory = ap (λ r. 47 ∷ r) (append_assoc t (flat_map (λ t. 47 ∷ t) more) (cond directory (47 ∷ []) []))

segments_slash : (s rest : List ℕ) → NoSlash s → segments (s ++ 47 ∷ rest) ≡ s ∷ segments rest
segments_slash s rest h = slice_split_at is_slash s 47 rest h refl

segments_body : (s : List ℕ) (rest : List (List ℕ)) (directory : Bool) → NoSlash s → All NoSlash rest → segments (s ++ body rest directory) ≡ s ∷ (rest ++ tail directory)
segments_body s [] true h hs = segments_slash s [] h
segments_body s [] false h hs = ap segments (append-nil s) ∙ slice_split_none is_slash s h
segments_body s (t ∷ more) directory h hs =
    ap (λ r. segments (s ++ r)) (body_cons t more directory) ∙ segments_slash s (t ++ body more directory) h
    ∙ ap (λ r. s ∷ r) (segments_body t more directory (All-head NoSlash t more hs) (All-tail NoSlash t more hs))

clean_names : (names : List (List ℕ)) → All IsName names → All NoSlash names
clean_names names h = All-weaker IsName NoSlash (λ _ q. q.clean) names h

-- whether an empty segment ends what is spelled
abbrev ending : List (List ℕ) → Bool → Bool
ending [] directory = true
ending (s ∷ rest) directory = directory

-- what is spelled behind the first slash
abbrev behind_slash : List (List ℕ) → Bool → List ℕ
behind_slash [] directory = []
behind_slash (s ∷ rest) directory = s ++ body rest directory

spell_slash : (names : List (List ℕ)) (directory : Bool) → spell names directory ≡ 47 ∷ behind_slash names directory
spell_slash [] directory = refl
spell_slash (s ∷ rest) directory = body_cons s rest directory

segments_behind : (names : List (List ℕ)) (directory : Bool) → All IsName names → segments (behind_slash names directory) ≡ names ++ tail (ending names directory)
segments_behind [] directory h = refl
segments_behind (s ∷ rest) directory h =
    let clean = clean_names (s ∷ rest) h in
    segments_body s rest directory (All-head NoSlash s rest clean) (All-tail NoSlash s rest clean)

segments_spell : (names : List (List ℕ)) (directory : Bool) → All IsName names → segments (spell names directory) ≡ [] ∷ (names ++ tail (ending names directory))
segments_spell names directory h = ap segments (spell_slash names directory) ∙ ap (λ r. [] ∷ r) (segments_behind names directory h)

-- the normal form's segments are the names, and an empty one behind a final slash
pub segments_normal : (path : List ℕ) → (segments (normal path) ≡ [] ∷ kept_of path) ⊎ (segments (normal path) ≡ [] ∷ (kept_of path ++ [] ∷ []))
segments_normal path = by (kept_of path) (is_open (last_of (segments path))) (kept_names path)
  where
    by : (names : List (List ℕ)) (directory : Bool) → All IsName names
        → (segments (spell names directory) ≡ [] ∷ names) ⊎ (segments (spell names directory) ≡ [] ∷ (names ++ [] ∷ []))
    by [] directory h = inr (segments_spell [] directory h)
    by (s ∷ rest) true h = inr (segments_spell (s ∷ rest) true h)
    by (s ∷ rest) false h = inl (segments_spell (s ∷ rest) false h ∙ ap (λ r. [] ∷ r) (append-nil (s ∷ rest)))

-- the names are neither empty nor dots
pub names_closed : (path : List ℕ) → All (λ name. is_open name ≡ false) (kept_of path)
names_closed path = All-weaker IsName (λ name. is_open name ≡ false) (λ name h. rw (h.stays, h.down) refl) (kept_of path) (kept_names path)

-- ---- behind a root

onto_first_more : (b : ℕ) (pieces more : List (List ℕ)) → 0 < length pieces → onto_first b (pieces ++ more) ≡ onto_first b pieces ++ more
onto_first_more b [] more h = absurd (omega arith)
onto_first_more b (p ∷ ps) more h = refl

segments_root : (root rest : List ℕ) → segments (root ++ 47 ∷ rest) ≡ segments root ++ segments rest
segments_root [] rest = refl
segments_root (b ∷ root) rest = by (is_slash b) (segments_root root rest)
  where
    by : (t : Bool) → segments (root ++ 47 ∷ rest) ≡ segments root ++ segments rest
        → cond t ([] ∷ segments (root ++ 47 ∷ rest)) (onto_first b (segments (root ++ 47 ∷ rest)))
        ≡ cond t ([] ∷ segments root) (onto_first b (segments root)) ++ segments rest
    by true e = ap (λ r. [] ∷ r) e
    by false e = ap (onto_first b) e ∙ onto_first_more b (segments root) (segments rest) (omega (arith, length-slice_split is_slash root))

fold_tail : (kept : List (List ℕ)) (t : Bool) → fold keep kept (tail t) ≡ kept
fold_tail kept true = refl
fold_tail kept false = refl

kept_spell : (root : List ℕ) (names : List (List ℕ)) (directory : Bool) → All IsName names → kept_of (root ++ spell names directory) ≡ kept_of root ++ names
kept_spell root names directory h =
    let t = ending names directory in
    ap (λ r. kept_of (root ++ r)) (spell_slash names directory)
    ∙ ap (fold keep []) (segments_root root (behind_slash names directory))
    ∙ fold-append keep [] (segments root) (segments (behind_slash names directory))
    ∙ ap (fold keep (kept_of root)) (segments_behind names directory h)
    ∙ fold-append keep (kept_of root) names (tail t)
    ∙ fold_tail (fold keep (kept_of root) names) t
    ∙ fold_kept (kept_of root) names h

pub kept_below : (root path : List ℕ) → kept_of (root ++ normal path) ≡ kept_of root ++ kept_of path
kept_below root path = kept_spell root (kept_of path) (is_open (last_of (segments path))) (kept_names path)

-- ---- a normal form is its own

last_name : (before s : List ℕ) (rest : List (List ℕ)) → All IsName (s ∷ rest) → is_open (fold (λ _ segment. segment) before (s ∷ rest)) ≡ false
last_name before s [] h = let p = All-head IsName s [] h in rw (p.stays, p.down) refl
last_name before s (t ∷ more) h = last_name s t more (All-tail IsName s (t ∷ more) h)

open_spell : (s : List ℕ) (rest : List (List ℕ)) (directory : Bool) → All IsName (s ∷ rest) → is_open (last_of (segments (spell (s ∷ rest) directory))) ≡ directory
open_spell s rest true h =
    ap (λ p. is_open (last_of p)) (segments_spell (s ∷ rest) true h)
    ∙ ap is_open (fold-append (λ _ segment. segment) [] (s ∷ rest) ([] ∷ []))
open_spell s rest false h =
    ap (λ p. is_open (last_of p)) (segments_spell (s ∷ rest) false h ∙ ap (λ r. [] ∷ r) (append-nil (s ∷ rest)))
    ∙ last_name [] s rest h

spell_again : (names : List (List ℕ)) (directory : Bool) → All IsName names → normal (spell names directory) ≡ spell names directory
spell_again [] directory h = refl
spell_again (s ∷ rest) directory h =
    ap (λ k. spell k (is_open (last_of (segments (spell (s ∷ rest) directory))))) (kept_spell [] (s ∷ rest) directory h)
    ∙ ap (spell (s ∷ rest)) (open_spell s rest directory h)

pub normal_again : (path : List ℕ) → normal (normal path) ≡ normal path
normal_again path = spell_again (kept_of path) (is_open (last_of (segments path))) (kept_names path)
