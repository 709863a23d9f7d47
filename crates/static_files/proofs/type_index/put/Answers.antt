use Rattle.static_files.proofs.TypeSlots.{put_here, put_others}
use Rattle.static_files.proofs.type_index.put.Goals as goal

pub returns-in-Ok-clause-here : goal.returns-in-Ok-clause-here
returns-in-Ok-clause-here c =
    put_here c.args.slots.now.items c.args.at c.index_mut-slot.result.now (record { entries = c.push.new.self }) c.args.added c.requires c.index_mut-slot.ensures.value c.in-Ok.ensures.items

pub returns-in-Ok-clause-others : goal.returns-in-Ok-clause-others
returns-in-Ok-clause-others c = put_others c.args.slots.now.items c.args.at (record { entries = c.push.new.self })
