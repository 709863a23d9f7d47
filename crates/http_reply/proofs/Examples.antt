-- The definitions compute: the head of a reply with a file of five bytes, and an error reply.
use Rattle.std.proofs.Common.{◌≡◌, [], ◌∷◌, ◌++◌, length, codes, true, false, Some, None, refl}
use Rattle.std.specs.Fmt.{digits}
use Rattle.http_reply.specs.Phrases.{phrase}
use Rattle.http_reply.specs.Replies.{reply_head, error_reply}

file_reply : length (reply_head (record { minor = 1; status = 200; length = Some 5; last = true; keep = false; tag = codes "lighttpd" })
    ((codes "Content-Type", codes "application/octet-stream") ∷ []) ++ codes "hello") ≡ 120
unfolding phrase digits
file_reply = refl

not_found : length (error_reply (record { minor = 1; status = 404; length = None; last = true; keep = false; tag = codes "lighttpd" }) [] false) ≡ 123
unfolding phrase digits
not_found = refl

not_implemented : length (error_reply (record { minor = 1; status = 501; length = None; last = true; keep = false; tag = codes "lighttpd" }) [] false) ≡ 135
unfolding phrase digits
not_implemented = refl
