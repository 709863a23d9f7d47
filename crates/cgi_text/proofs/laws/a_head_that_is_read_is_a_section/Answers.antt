use Rattle.cgi_text.proofs.SectionLemmas.{head_is_section}
use Rattle.cgi_text.proofs.laws.a_head_that_is_read_is_a_section.Goals as goal

pub returns : goal.returns
returns c = head_is_section
