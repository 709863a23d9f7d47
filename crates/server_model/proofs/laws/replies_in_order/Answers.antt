use Rattle.server_model.proofs.Replying.{passed_stream, passed_last, passed_complete, passed_unique}
use Rattle.server_model.proofs.laws.replies_in_order.Goals as goal

pub returns-clause-next : goal.returns-clause-next
returns-clause-next c world input before k passed = passed_stream world input k before passed

pub returns-clause-last : goal.returns-clause-last
returns-clause-last c world input before k passed = passed_last world input k before passed

pub returns-clause-whole : goal.returns-clause-whole
returns-clause-whole c world input before k j passed = passed_complete world input k before passed j

pub returns-clause-only : goal.returns-clause-only
returns-clause-only c world input a b k = passed_unique world input k a b
