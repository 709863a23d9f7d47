use Rattle.server_model.proofs.Rarely.{kept_alone, end_keeps, clean_kept}
use Rattle.server_model.proofs.laws.memory_is_wanted_rarely.Goals as goal

pub returns-clause-reads : goal.returns-clause-reads
returns-clause-reads c site spare before after old now turn some client asked bytes is alone = kept_alone site spare before after old now turn client some asked bytes is alone

pub returns-clause-ends : goal.returns-clause-ends
returns-clause-ends c site spare before after old now turn client is = end_keeps site spare before after old now turn client is

pub returns-clause-clean : goal.returns-clause-clean
returns-clause-clean c site spare before after old now turn client deeds is = clean_kept site spare before after old now turn client deeds is
