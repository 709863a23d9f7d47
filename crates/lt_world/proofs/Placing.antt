-- What a list of places makes of the tree.
use Rattle.std.proofs.Common.{◌≡◌, ◌≢◌, ℕ, zero, suc, ◌-◌, ◌<◌, ◌≤◌, List, [], ◌∷◌, ◌++◌, length, take, get_or, Bool, true, false, if◌then◌else◌, ◌==◌, refl, sym, ◌∙◌, ap, arith, append_assoc}
use Rattle.std.proofs.lemmas.Bool.Decides.{nat_tests}
use Rattle.std.proofs.Math.Seq.{take-append_seam}
use Rattle.std.proofs.lemmas.Slice.Eq.{bytes_eq-Decides}
use Rattle.std.specs.Str.{bytes_eq}
use Rattle.lt_world.specs.declared.places.Place.{Place}
use Rattle.lt_world.specs.Disk.{Node, Missing, ends_in_slash}
use Rattle.lt_world.specs.Memory.{Placed, last_at, seen_at, as_directory, without_slash, tree_by, with_node}
use Rattle.lt_world.specs.PlaceView.{placed_by}
use Rattle.lt_world.proofs.Ends.{one_more}
use Rattle.lt_world.specs.Standing.{node_of, AddsPlaces}

-- the places of `PlaceView` follow the list's own operations
pub placed-push : (places : List Place) (place : Place) → placed_by (places ++ place ∷ []) ≡ placed_by places ++ record { path = place.path; node = node_of place.standing } ∷ []
placed-push [] place = refl
placed-push (first ∷ places) place = ap (λ l. record { path = first.path; node = node_of first.standing } ∷ l) (placed-push places place)

pub length-placed : (places : List Place) → length (placed_by places) ≡ length places
length-placed [] = refl
length-placed (place ∷ places) = omega (arith, length-placed places)

pub placed-take : (n : ℕ) (places : List Place) → placed_by (take n places) ≡ take n (placed_by places)
placed-take zero places = refl
placed-take (suc n) [] = refl
placed-take (suc n) (place ∷ places) = ap (λ l. record { path = place.path; node = node_of place.standing } ∷ l) (placed-take n places)

pub last_at-push : (path : List ℕ) (places : List Placed) (placed : Placed) (node : Node) → last_at path (places ++ placed ∷ []) node ≡ (if bytes_eq placed.path path then placed.node else last_at path places node)
last_at-push path [] placed node = refl
last_at-push path (first ∷ places) placed node = last_at-push path places placed (if bytes_eq first.path path then first.node else node)

seen_if : (path : List ℕ) (b : Bool) (x y : Node) → seen_at path (if b then x else y) ≡ (if b then seen_at path x else seen_at path y)
seen_if path true x y = refl
seen_if path false x y = refl

-- a place more is a node more
pub tree-push : (places : List Placed) (path : List ℕ) (node : Node) → tree_by (places ++ record { path = path; node = node } ∷ []) ≡ with_node path node (tree_by places)
tree-push places path node = λ i other. at other i
  where
    at : (other : List ℕ) → tree_by (places ++ record { path = path; node = node } ∷ []) other ≡ with_node path node (tree_by places) other
    at other = ap (seen_at other) (last_at-push (without_slash other) places (record { path = path; node = node }) Missing) ∙ seen_if other (bytes_eq path (without_slash other)) node (last_at (without_slash other) places Missing)

same_if : (b : Bool) (x y : Node) → (b ≡ true → x ≡ y) → (if b then x else y) ≡ y
same_if true x y h = h refl
same_if false x y h = refl

-- what stands at a path already may be placed there again
pub tree-again : (places : List Placed) (path : List ℕ) (node : Node) → last_at path places Missing ≡ node → with_node path node (tree_by places) ≡ tree_by places
tree-again places path node is = λ i other. at other i
  where
    at : (other : List ℕ) → with_node path node (tree_by places) other ≡ tree_by places other
    at other = same_if (bytes_eq path (without_slash other)) (seen_at other node) (tree_by places other) (λ same. ap (seen_at other) (sym is ∙ ap (λ p. last_at p places Missing) ((bytes_eq-Decides path (without_slash other)).0 same)))

pub ends-push : (path : List ℕ) (byte : ℕ) → ends_in_slash (path ++ byte ∷ []) ≡ (byte == 47)
ends-push [] byte = refl
ends-push (first ∷ []) byte = refl
ends-push (first ∷ second ∷ path) byte = ends-push (second ∷ path) byte

pub without-push : (path : List ℕ) (byte : ℕ) → without_slash (path ++ byte ∷ []) ≡ (if byte == 47 then path else path ++ byte ∷ [])
without-push [] byte = refl
without-push (first ∷ []) byte = first_of (byte == 47)
  where
    first_of : (b : Bool) → first ∷ (if b then [] else byte ∷ []) ≡ (if b then first ∷ [] else first ∷ byte ∷ [])
    first_of true = refl
    first_of false = refl
without-push (first ∷ second ∷ path) byte = ap (λ l. first ∷ l) (without-push (second ∷ path) byte) ∙ front (byte == 47)
  where
    front : (b : Bool) → first ∷ (if b then second ∷ path else (second ∷ path) ++ byte ∷ []) ≡ (if b then first ∷ second ∷ path else (first ∷ second ∷ path) ++ byte ∷ [])
    front true = refl
    front false = refl

seen_push : (path : List ℕ) (byte : ℕ) (node : Node) → seen_at (path ++ byte ∷ []) node ≡ (if ends_in_slash (path ++ byte ∷ []) then as_directory node else node)
seen_push [] byte node = refl
seen_push (first ∷ path) byte node = refl

-- a path with a final slash names the directory before it
pub tree_slash : (places : List Placed) (path : List ℕ) (byte : ℕ) → byte ≡ 47 → tree_by places (path ++ byte ∷ []) ≡ as_directory (last_at path places Missing)
tree_slash places path byte is =
    let yes : (byte == 47) ≡ true = grind (arith, nat_tests, is) in
    ap (λ p. seen_at (path ++ byte ∷ []) (last_at p places Missing)) (without-push path byte ∙ ap (λ b. if b then path else path ++ byte ∷ []) yes)
    ∙ seen_push path byte (last_at path places Missing) ∙ ap (λ b. if b then as_directory (last_at path places Missing) else last_at path places Missing) (ends-push path byte ∙ yes)

pub tree_plain : (places : List Placed) (path : List ℕ) (byte : ℕ) → byte ≢ 47 → tree_by places (path ++ byte ∷ []) ≡ last_at (path ++ byte ∷ []) places Missing
tree_plain places path byte isnt =
    let no : (byte == 47) ≡ false = grind (arith, nat_tests, isnt) in
    ap (λ p. seen_at (path ++ byte ∷ []) (last_at p places Missing)) (without-push path byte ∙ ap (λ b. if b then path else path ++ byte ∷ []) no)
    ∙ seen_push path byte (last_at (path ++ byte ∷ []) places Missing) ∙ ap (λ b. if b then as_directory (last_at (path ++ byte ∷ []) places Missing) else last_at (path ++ byte ∷ []) places Missing) (ends-push path byte ∙ no)

-- going down a list of places: one that is not at the path is skipped
pub skips : (path : List ℕ) (places : List Place) (i : ℕ) (place : Place) (node : Node) → 0 < i → i ≤ length places → place ≡ get_or places (i - 1) place → bytes_eq place.path path ≡ false
    → node ≡ last_at path (placed_by (take i places)) Missing → node ≡ last_at path (placed_by (take (i - 1) places)) Missing
skips path places i place node some below is isnt so_far =
    so_far ∙ ap (λ l. last_at path (placed_by l) Missing) (one_more places i place some below is)
    ∙ ap (λ l. last_at path l Missing) (placed-push (take (i - 1) places) place) ∙ last_at-push path (placed_by (take (i - 1) places)) _ Missing
    ∙ ap (λ b. if b then node_of place.standing else last_at path (placed_by (take (i - 1) places)) Missing) isnt

-- one that is at the path is what the path names
pub finds : (path : List ℕ) (places : List Place) (i : ℕ) (place : Place) (node : Node) → 0 < i → i ≤ length places → place ≡ get_or places (i - 1) place → bytes_eq place.path path ≡ true
    → node ≡ last_at path (placed_by (take i places)) Missing → node ≡ node_of place.standing
finds path places i place node some below is same so_far =
    so_far ∙ ap (λ l. last_at path (placed_by l) Missing) (one_more places i place some below is)
    ∙ ap (λ l. last_at path l Missing) (placed-push (take (i - 1) places) place) ∙ last_at-push path (placed_by (take (i - 1) places)) _ Missing
    ∙ ap (λ b. if b then node_of place.standing else last_at path (placed_by (take (i - 1) places)) Missing) same

-- what was added is taken off again
pub grown_back : (before after : List Placed) → AddsPlaces before after → take (length before) after ≡ before
grown_back before after grows = ap (λ l. take (length before) l) grows.1 ∙ take-append_seam before grows.0

pub grows_more : (a b c : List Placed) → AddsPlaces a b → AddsPlaces b c → AddsPlaces a c
grows_more a b c ab bc = (ab.0 ++ bc.0, bc.1 ∙ ap (λ l. l ++ bc.0) ab.1 ∙ append_assoc a ab.0 bc.0)

pub slash_names : (places : List Placed) (path before : List ℕ) (byte : ℕ) (node : Node) → path ≡ before ++ byte ∷ [] → byte ≡ 47 → last_at before places Missing ≡ node → tree_by places path ≡ as_directory node
slash_names places path before byte node is slash at = ap (tree_by places) is ∙ tree_slash places before byte slash ∙ ap as_directory at

pub plain_names : (places : List Placed) (path before : List ℕ) (byte : ℕ) (node : Node) → path ≡ before ++ byte ∷ [] → byte ≢ 47 → last_at path places Missing ≡ node → tree_by places path ≡ node
plain_names places path before byte node is plain at = ap (tree_by places) is ∙ tree_plain places before byte plain ∙ ap (λ p. last_at p places Missing) (sym is) ∙ at
