-- For proofs alone: the trace that short notes stand for, where the bytes are kept with the links.
use Rattle.std.specs.Prelude.{◌≡◌, ℕ, ◌+◌, ◌-◌, ◌<◌, ◌≤◌, true, List, [], ◌∷◌, length, take, drop, reverse, map, None, vec_len, vec_capacity}
use Rattle.lt_world.specs.Trace.{Act, Entry, Accepted, Readable, Writable, Read, ReadEnd, NotYet, Failed, Reading, Writing, Wrote, Connect, Close, own, link_bound}
use Rattle.script_net.specs.declared.notes.Done.{Done}
use Rattle.script_net.specs.declared.notes.Done.TheVariants as done
use Rattle.script_net.specs.declared.notes.Note.{Note}
use Rattle.script_net.specs.declared.links.Links.TheInside.{Inside}
use Rattle.script_net.specs.PortView.{PortView, kept_at}
use Rattle.lt_world.specs.Acts.{output_of, ending_of}
use Rattle.script_net.specs.Arrivals.{has_arrived}
use Rattle.script_net.specs.LinksView.{LinksView}

-- what a note says, of a link for which this is kept
abbrev pub act_of : Done → PortView → Act
act_of (done.Accepted peer local) kept = Accepted peer local
act_of done.Readable kept = Readable
act_of done.Writable kept = Writable
act_of (done.Read asked at len) kept = Read asked (take len (drop at kept.side.given))
act_of done.ReadEnd kept = ReadEnd
act_of done.ReadNotYet kept = NotYet Reading
act_of done.ReadFailed kept = Failed Reading
act_of (done.Wrote offered at len) kept = Wrote offered (take len (drop at kept.taken))
act_of done.WriteNotYet kept = NotYet Writing
act_of done.WriteFailed kept = Failed Writing
act_of (done.Connect owner to) kept = Connect owner to None
act_of (done.Close ending) kept = Close ending

-- what a note tells of its link
abbrev pub entry_of : List PortView → Note → Entry
entry_of ports note = record { link = note.link; act = act_of note.done (kept_at note.link ports) }

-- the trace that notes stand for; the newest note stands last
abbrev pub trace_of : List PortView → List Note → List Entry
trace_of ports notes = reverse (map (entry_of ports) notes)

-- the fields as what they tell
abbrev pub told_of : Inside → LinksView
told_of a = record {
  sides = map (λ kept. kept.side) a.ports.items;
  trace = trace_of a.ports.items a.notes.items;
  rooms = map (λ kept. kept.room) a.ports.items;
  calls = vec_capacity a.notes - vec_len a.notes;
}

-- the bytes of a note are kept
abbrev pub fits : Done → PortView → Type 0
fits (done.Read asked at len) kept = at + len ≤ length kept.side.given
fits (done.Wrote offered at len) kept = at + len ≤ length kept.taken
fits other kept = Unit {0}

-- each note is of a link that is kept, with its bytes
abbrev pub AreWithin : List PortView → List Note → Type 0
AreWithin ports [] = Unit {0}
AreWithin ports (note ∷ notes) = ((note.link < length ports) × fits note.done (kept_at note.link ports)) × AreWithin ports notes

-- what holds of links and notes between calls
pub record IsTold (ports : List PortView) (notes : List Note) : Type 0 where
  pub within : AreWithin ports notes
  -- each link keeps what it took, and how it was closed
  pub taken : (link : ℕ) → (kept_at link ports).taken ≡ output_of (own link (trace_of ports notes))
  pub ending : (link : ℕ) → (kept_at link ports).ending ≡ ending_of (own link (trace_of ports notes))
  -- each link is told of, and arrived
  pub named : link_bound (trace_of ports notes) ≡ length ports
  pub arrived : (link : ℕ) → link < length ports → has_arrived (own link (trace_of ports notes)) ≡ true
  pub few : length ports ≤ 4294967295
