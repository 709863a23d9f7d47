use Rattle.cgi_text.proofs.SectionLemmas.{section_is_read}
use Rattle.cgi_text.proofs.laws.a_section_is_read.Goals as goal

pub returns : goal.returns
returns c = section_is_read
