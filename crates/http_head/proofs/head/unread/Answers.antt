use Rattle.std.proofs.Common.{rules}
use Rattle.http_head.proofs.HeadLemmas.{too_many_lines, other_version, nothing_read}
use Rattle.http_head.proofs.head.unread.Goals as goal

pub returns-then-field_lines-gt-FIELD_LINE_LIMIT : goal.returns-then-field_lines-gt-FIELD_LINE_LIMIT
returns-then-field_lines-gt-FIELD_LINE_LIMIT c = too_many_lines c.args.head.now (search rules)

pub returns-then-ends_in_other_version : goal.returns-then-ends_in_other_version
returns-then-ends_in_other_version c = other_version c.args.head.now (search rules) (search rules)

pub returns-else-ends_in_other_version : goal.returns-else-ends_in_other_version
returns-else-ends_in_other_version c =
    nothing_read c.args.head.now (record { few = search rules; version = search rules }) (c.requires.none (search rules))
