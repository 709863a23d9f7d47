-- What is known of a client that is kept, whichever its stage is.
use Rattle.std.proofs.Common.{◌≡◌, ℕ, ◌-◌, ◌<◌, if◌then◌else◌, List, ◌∷◌, Bool, true, false, not, ◌&&◌, nat_lt, length, refl, sym, ◌∙◌, ap}
use Rattle.lt_world.specs.Disk.{Table}
use Rattle.lt_world.specs.Trace.{Act, Way, Read, ReadEnd, NotYet}
use Rattle.server_model.specs.World.{World}
use Rattle.server_model.specs.Client.{input_limit, current, owed, wants, owes, IsFinished, IsRight}
use Rattle.server_model.specs.Deeds.{Deed, ours}
use Rattle.chunkqueue.specs.Items.{bytes_of, Shows}
use Rattle.server_model.specs.Held.{Held}
use Rattle.server_model.specs.Steps.{number_of, received, received_end, staged, has_no_items, is_done_at, is_done, is_read_at, wants_read}
use Rattle.server_model.specs.Serves.{IsWaiting, Matches, Stands}
use Rattle.server_model.specs.Due.{Rests}
use Rattle.server_model.proofs.Clients.{IsSettled}
use Rattle.server_model.proofs.Moves as moves
use Rattle.server_model.proofs.Settled.{and_true, at_prefix, at_finished, at_unfinished, at_number, at_owed, at_wants, owes_by}

-- where a read is wanted, it is in a stage in which one may be
pub wants_reads : (held : Held) → wants_read held ≡ true → is_read_at held.stage ≡ true
wants_reads held is = by (is_read_at held.stage) refl
  where
    by : (t : Bool) → is_read_at held.stage ≡ t → is_read_at held.stage ≡ true
    by true reads = reads
    by false reads = let none : nat_lt 0 (if false && not held.ended then input_limit - length held.input else 0) ≡ true = ap (λ t. nat_lt 0 (if t && not held.ended then input_limit - length held.input else 0)) (sym reads) ∙ is in absurd (cc (none))

module _ (opened : Table) (world : World) (held : Held) (acts : List Act) where
  pub matches_right : Matches opened world held acts → IsRight world acts
  matches_right m = record { prefix = at_prefix opened world held acts held.stage m.at; in_turn = m.in_turn }

  pub matches_finished : Matches opened world held acts → IsSettled held → is_done held ≡ true → IsFinished world acts
  matches_finished m settled done =
      let both = and_true (has_no_items held.owed) (is_done_at held.stage held.ended) done in
      at_finished opened world held acts held.stage m.at settled m.ended both.0 both.1

  pub matches_unfinished : Matches opened world held acts → IsWaiting held → is_done held ≡ false → IsFinished world acts → ⊥
  matches_unfinished m waiting undone = at_unfinished opened world held acts held.stage m.at waiting m.ended undone

  -- nothing is left to do for it
  pub matches_stands : Matches opened world held acts → IsWaiting held → is_done held ≡ false → Stands opened world held acts
  matches_stands m waiting undone = record { matches = m; waiting = waiting; unfinished = matches_unfinished m waiting undone }

  pub stands_wants : Stands opened world held acts → wants world acts ≡ wants_read held
  stands_wants s = at_wants opened world held acts held.stage s.matches.at s.waiting s.matches.ended s.matches.is_open

  pub stands_number : Stands opened world held acts → (current world acts).number ≡ number_of held.stage
  stands_number s = at_number opened world held acts held.stage s.matches.at s.waiting

  pub stands_owed : Stands opened world held acts → owed world acts ≡ bytes_of opened held.owed
  stands_owed s = at_owed opened world held acts held.stage s.matches.at s.waiting

  pub stands_owes : Stands opened world held acts → owes world acts ≡ nat_lt 0 (length (bytes_of opened held.owed))
  stands_owes s = owes_by world acts (bytes_of opened held.owed) s.matches.is_open (stands_owed s)

  pub stands_not_yet : (way : Way) → Stands opened world held acts → Stands opened world held (NotYet way ∷ acts)
  stands_not_yet way s = record { matches = moves.matches_not_yet opened world held acts s.matches way; waiting = s.waiting; unfinished = λ f. s.unfinished (record { taken = f.taken; over = f.over }) }

  pub stands_staged : (bytes : List ℕ) → Shows opened held.owed bytes → 0 < length held.owed → Stands opened world held acts → Stands opened world (staged held bytes) acts
  stands_staged bytes shows some s = record { matches = moves.matches_staged opened world held acts bytes shows s.matches some; waiting = s.waiting; unfinished = s.unfinished }

  -- bytes came, or their end
  pub matches_received : (asked : ℕ) (bytes : List ℕ) → is_read_at held.stage ≡ true → Stands opened world held acts → Matches opened world (received held bytes) (Read asked bytes ∷ acts)
  matches_received asked bytes is s = moves.matches_received opened world held acts asked bytes is s.waiting s.matches

  pub matches_end : is_read_at held.stage ≡ true → Stands opened world held acts → Matches opened world (received_end held) (ReadEnd ∷ acts)
  matches_end is s = moves.matches_end opened world held acts s.matches

pub stands_rests : (opened : Table) (world : World) (held : Held) (deeds : List Deed) → Stands opened world held (ours deeds) → Rests world deeds
stands_rests opened world held deeds s = record { is_open = s.matches.is_open; sound = s.matches.sound; unfinished = s.unfinished }
