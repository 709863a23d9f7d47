-- What a `Spelling` says, over plain lists.
use Rattle.http_reply.specs.declared.reply.Spelling.{Spelling}
use Rattle.http_reply.specs.Replies.{HeadParts}

abbrev pub parts_of : Spelling → HeadParts
parts_of s = record { minor = s.minor; status = s.status; length = s.length; last = s.last; keep = s.keep; tag = s.tag.now }
