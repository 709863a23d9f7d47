-- How many conditions are compared for one client in a turn, at most: each of them once for the attributes of the request's head, for each new target that it gets, for the directory that it leads to and for its file.
use Rattle.std.specs.Prelude.{ℕ, ◌+◌, ◌*◌, nat_lt, List, if◌then◌else◌}
use Rattle.cond_cache.specs.Kept.{conditions_in}
use Rattle.lt_world.specs.Trace.{Act, Entry}
use Rattle.server_model.specs.Site.{Site}
use Rattle.server_model.specs.Request.{Request, Unfinished, Refused, Open, Declined, Complete, is_complete}
use Rattle.server_model.specs.World.{World, world_of}
use Rattle.server_model.specs.Rewrites.{rewriting}
use Rattle.server_model.specs.Deeds.{own, ours}
use Rattle.server_model.specs.Client.{current, current_request}
use Rattle.server_model.specs.Turns.{Seen}

-- at most so many comparisons where a request takes so many new targets
abbrev pub comparisons : Site → ℕ → ℕ
comparisons site passes = (3 + passes) * conditions_in site.blocks

-- whatever is planned
abbrev pub comparison_limit : Site → ℕ
comparison_limit site = 103 * conditions_in site.blocks

-- new targets of a request that is there
abbrev pub passes_of : World → Request → ℕ
passes_of world Unfinished = 0
passes_of world (Refused status) = 0
passes_of world (Open head) = 0
passes_of world (Declined status head) = 0
passes_of world (Complete head content) = (rewriting world.site.blocks world.side.arrival head).passes

-- how many requests of a client were there to be planned: all before the current one, and that one where it is whole
abbrev pub planned_count : World → List Act → ℕ
planned_count world acts = if is_complete (current_request world acts) then (current world acts).number + 1 else (current world acts).number

-- new targets of the request that is planned between two times: by the client's world and acts at the one, and at the other; none where none is
abbrev pub passes_between : World → List Act → World → List Act → ℕ
passes_between was past is now = if nat_lt (planned_count was past) (planned_count is now) then passes_of is (current_request is now) else 0

-- the same for a client of a trace
abbrev pub passes_in_turn : Site → ℕ → Seen → Seen → List Entry → List Entry → ℕ
passes_in_turn site client before after old now =
    passes_between (world_of site before.disk client (own client old)) (ours (own client old)) (world_of site after.disk client (own client now)) (ours (own client now))
