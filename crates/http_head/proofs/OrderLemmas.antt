-- The order of the names.
use Rattle.std.proofs.Common.{◌≡◌, ℕ, Bool, true, false, cond, List, [], ◌∷◌, ◌++◌, map, fold, refl, ap, ◌∙◌}
use Rattle.std.specs.Prelude.{bytes_eq}
use Rattle.http_header.specs.Token.{lowercase}
use Rattle.http_header.specs.FieldValue.{FieldValue, plain_value}
use Rattle.http_header.specs.HeaderMap.{Entries, keys, append, append_all}
use Rattle.http_head.specs.Fields.{Pair, kept, map_of, names_with, names_of}

keys-append : (m : Entries FieldValue) (name : List ℕ) (v : FieldValue) → keys (append m name v) ≡ names_with (keys m) name
keys-append [] name v = refl
keys-append (e ∷ m) name v = by (bytes_eq e.0 name) (keys-append m name v)
  where
    by : (t : Bool) → keys (append m name v) ≡ names_with (keys m) name
        → keys (cond t ((e.0, e.1 ++ v ∷ []) ∷ m) (e ∷ append m name v)) ≡ cond t (e.0 ∷ keys m) (e.0 ∷ names_with (keys m) name)
    by true h = refl
    by false h = ap (λ ks. e.0 ∷ ks) h

keys_from : (m : Entries FieldValue) (ps : List Pair) → keys (append_all m (map kept ps)) ≡ fold (λ names p. names_with names (lowercase p.0)) (keys m) ps
keys_from m [] = refl
keys_from m (p ∷ ps) =
    keys_from (append m (lowercase p.0) (plain_value p.1)) ps
    ∙ ap (λ ks. fold (λ names p. names_with names (lowercase p.0)) ks ps) (keys-append m (lowercase p.0) (plain_value p.1))

pub keys_are : (ps : List Pair) → keys (map_of ps) ≡ names_of ps
keys_are ps = keys_from [] ps
