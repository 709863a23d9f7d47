use Rattle.static_files.proofs.Calendar.{at_is_day}
use Rattle.static_files.proofs.laws.each_day_is_of_the_calendar.Goals as goal

pub returns : goal.returns
returns c = at_is_day
