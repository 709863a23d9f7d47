use Rattle.file_reply.proofs.file.add_date.Goals as goal

pub returns : goal.returns
returns c = rw c.in_ok-date.ensures at c.add_text.ensures.ok
