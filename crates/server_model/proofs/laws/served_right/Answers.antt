use Rattle.server_model.specs.World.{world_of}
use Rattle.server_model.specs.Deeds.{own}
use Rattle.server_model.specs.Held.{kept_at}
use Rattle.server_model.proofs.Settled.{stands_right}
use Rattle.server_model.proofs.laws.served_right.Goals as goal

pub returns : goal.returns
returns c = record { right = λ disk server trace serves link. stands_right disk.table (world_of server.site disk link (own link trace)) (kept_at link server.table) (own link trace) (serves.each link) }
