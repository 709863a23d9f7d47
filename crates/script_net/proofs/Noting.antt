-- Notes of a net: what they stand for stays as the links' bytes grow.
use Rattle.std.proofs.Common.{◌≡◌, ℕ, zero, suc, Some, None, ◌+◌, ◌<◌, ◌≤◌, max, Bool, true, false, List, [], ◌∷◌, ◌++◌, length, take, drop, set, map, reverse, refl, ap, sym, subst, ◌∙◌, arith, append-nil, if◌then◌else◌, ◌==◌, nat_lt, length-append, length-drop}
use Rattle.std.proofs.lemmas.Bool.Decides.{nat_tests}
use Rattle.std.proofs.lemmas.List.{take-append-le, drop-append-le, map-append, reverse-append, get_or-set_same, get_or-set_other, get_or_past}
use Rattle.std.proofs.Math.ListN.{length-set}
use Rattle.lt_world.specs.declared.net.Address.{Address}
use Rattle.lt_world.specs.Trace.{Act, Entry, Accepted, Readable, Writable, Read, ReadEnd, NotYet, Failed, Wrote, Connect, Close, own, names, dials, link_bound, dial_bound, said}
use Rattle.script_net.specs.declared.notes.Done.{Done}
use Rattle.script_net.specs.declared.notes.Done.TheVariants as done
use Rattle.script_net.specs.declared.notes.Note.{Note}
use Rattle.script_net.specs.PortView.{PortView, kept_at, fresh_kept, no_kept}
use Rattle.script_net.specs.Notes.{act_of, entry_of, trace_of, fits, AreWithin, IsTold}
use Rattle.lt_world.specs.Acts.{output_of, ending_of}
use Rattle.script_net.specs.Arrivals.{has_arrived}

abbrev pub Begins : List ℕ → List ℕ → Type 0
Begins front whole = (more : List ℕ) × (whole ≡ front ++ more)

pub begins_all : (bytes : List ℕ) → Begins bytes bytes
begins_all bytes = ([], sym (append-nil bytes))

-- what a link keeps only grows
pub record PortGrows (before after : PortView) : Type 0 where
  pub given : Begins before.side.given after.side.given
  pub taken : Begins before.taken after.taken

pub record AllGrow (before after : List PortView) : Type 0 where
  pub len : length before ≤ length after
  pub each : (link : ℕ) → link < length before → PortGrows (kept_at link before) (kept_at link after)

piece_kept : (at len : ℕ) (bytes more : List ℕ) → at + len ≤ length bytes → take len (drop at (bytes ++ more)) ≡ take len (drop at bytes)
piece_kept at len bytes more within =
    ap (take len) (drop-append-le at bytes more (omega arith)) ∙ take-append-le len (drop at bytes) more (omega (arith, length-drop at bytes))

-- what a note says stays
note_kept : (what : Done) (before after : PortView) → PortGrows before after → fits what before → (act_of what after ≡ act_of what before) × fits what after
note_kept (done.Accepted peer local) before after grows within = (refl, tt)
note_kept done.Readable before after grows within = (refl, tt)
note_kept done.Writable before after grows within = (refl, tt)
note_kept (done.Read asked at len) before after grows within =
    (rw (grows.given.1, piece_kept at len before.side.given grows.given.0 within) refl, omega (arith, ap length grows.given.1, length-append before.side.given grows.given.0))
note_kept done.ReadEnd before after grows within = (refl, tt)
note_kept done.ReadNotYet before after grows within = (refl, tt)
note_kept done.ReadFailed before after grows within = (refl, tt)
note_kept (done.Wrote offered at len) before after grows within =
    (rw (grows.taken.1, piece_kept at len before.taken grows.taken.0 within) refl, omega (arith, ap length grows.taken.1, length-append before.taken grows.taken.0))
note_kept done.WriteNotYet before after grows within = (refl, tt)
note_kept done.WriteFailed before after grows within = (refl, tt)
note_kept (done.Connect owner to) before after grows within = (refl, tt)
note_kept (done.Close ending) before after grows within = (refl, tt)

notes_kept : (before after : List PortView) (notes : List Note) → AllGrow before after → AreWithin before notes → (map (entry_of after) notes ≡ map (entry_of before) notes) × AreWithin after notes
notes_kept before after [] grow within = (refl, tt)
notes_kept before after (note ∷ notes) grow within =
    let here = note_kept note.done (kept_at note.link before) (kept_at note.link after) (grow.each note.link within.0.0) within.0.1 in
    let rest = notes_kept before after notes grow within.1 in
    let first : entry_of after note ≡ entry_of before note = ap (λ (act : Act). let entry : Entry = record { link = note.link; act = act } in entry) here.0 in
    (ap (λ (e : Entry). e ∷ map (entry_of after) notes) first ∙ ap (λ (es : List Entry). entry_of before note ∷ es) rest.0, ((omega (arith, within.0.0, grow.len), here.1), rest.1))

within_more : (ports : List PortView) (notes : List Note) (note : Note) → AreWithin ports notes → note.link < length ports → fits note.done (kept_at note.link ports) → AreWithin ports (notes ++ note ∷ [])
within_more ports [] note within below fit = ((below, fit), tt)
within_more ports (first ∷ notes) note within below fit = (within.0, within_more ports notes note within.1 below fit)

-- a note more is an entry more
pub trace_next : (before after : List PortView) (notes : List Note) (note : Note) → AllGrow before after → AreWithin before notes
    → trace_of after (notes ++ note ∷ []) ≡ entry_of after note ∷ trace_of before notes
trace_next before after notes note grow within =
    ap reverse (map-append (entry_of after) notes (note ∷ [])) ∙ reverse-append (map (entry_of after) notes) (entry_of after note ∷ [])
    ∙ ap (λ (es : List Entry). entry_of after note ∷ reverse es) (notes_kept before after notes grow within).0

-- a link that arrived has arrived, whatever comes after

arrived_by : (act : Act) (acts : List Act) → has_arrived acts ≡ true → has_arrived (act ∷ acts) ≡ true
arrived_by (Accepted peer local) acts arrived = refl
arrived_by Readable acts arrived = arrived
arrived_by Writable acts arrived = arrived
arrived_by (Read asked bytes) acts arrived = arrived
arrived_by ReadEnd acts arrived = arrived
arrived_by (NotYet way) acts arrived = arrived
arrived_by (Failed way) acts arrived = arrived
arrived_by (Wrote offered bytes) acts arrived = arrived
arrived_by (Connect owner to link) acts arrived = arrived
arrived_by (Close ending) acts arrived = arrived

arrived_still : (t : Bool) (act : Act) (acts : List Act) → has_arrived acts ≡ true → has_arrived (if t then act ∷ acts else acts) ≡ true
arrived_still true act acts arrived = arrived_by act acts arrived
arrived_still false act acts arrived = arrived

-- and one that no entry is of has not
pub unarrived : (link : ℕ) (trace : List Entry) → link_bound trace ≤ link → has_arrived (own link trace) ≡ false
unarrived link [] above = refl
unarrived link (entry ∷ trace) above =
    let other : (entry.link == link) ≡ false = grind (arith, nat_tests, above) in
    ap (λ (t : Bool). has_arrived (if t then entry.act ∷ own link trace else own link trace)) other ∙ unarrived link trace (omega (arith, above))

-- so just the links that are kept arrived
pub arrived_below : (ports : List PortView) (notes : List Note) (link : ℕ) → link_bound (trace_of ports notes) ≡ length ports
    → (link < length ports → has_arrived (own link (trace_of ports notes)) ≡ true) → nat_lt link (length ports) ≡ has_arrived (own link (trace_of ports notes))
arrived_below ports notes link named arrived = by (nat_lt link (length ports)) refl
  where
    by : (t : Bool) → nat_lt link (length ports) ≡ t → t ≡ has_arrived (own link (trace_of ports notes))
    by true is = sym (arrived (grind (arith, nat_tests, is)))
    by false is = sym (unarrived link (trace_of ports notes) (grind (arith, nat_tests, is, named)))

told_next : (before after : List PortView) (notes : List Note) (note : Note) → IsTold before notes → AllGrow before after → note.link < length after → fits note.done (kept_at note.link after)
    → length after ≤ 4294967295 → link_bound (entry_of after note ∷ trace_of before notes) ≡ length after
    → ((link : ℕ) → (kept_at link after).taken ≡ output_of (own link (entry_of after note ∷ trace_of before notes)))
    → ((link : ℕ) → (kept_at link after).ending ≡ ending_of (own link (entry_of after note ∷ trace_of before notes)))
    → ((link : ℕ) → link < length after → has_arrived (own link (entry_of after note ∷ trace_of before notes)) ≡ true)
    → IsTold after (notes ++ note ∷ [])
told_next before after notes note told grow below fit few named taken ending arrived =
    let next : trace_of after (notes ++ note ∷ []) ≡ entry_of after note ∷ trace_of before notes = trace_next before after notes note grow told.within in
    record {
      within = within_more after notes note (notes_kept before after notes grow told.within).1 below fit;
      taken = λ link. taken link ∙ ap (λ (t : List Entry). output_of (own link t)) (sym next);
      ending = λ link. ending link ∙ ap (λ (t : List Entry). ending_of (own link t)) (sym next);
      named = ap link_bound next ∙ named;
      arrived = λ link there. ap (λ (t : List Entry). has_arrived (own link t)) next ∙ arrived link there;
      few = few;
    }

-- one link changes

grows_by : (t : Bool) (before : List PortView) (link other : ℕ) (now : PortView) → (other == link) ≡ t → link < length before → PortGrows (kept_at link before) now → PortGrows (kept_at other before) (kept_at other (set before link now))
grows_by true before link other now test below grows =
    let same : link ≡ other = grind (arith, nat_tests, test) in
    subst (λ (k : ℕ). PortGrows (kept_at k before) (kept_at k (set before link now))) same
    (subst (λ (q : PortView). PortGrows (kept_at link before) q) (sym (get_or-set_same before link now no_kept below)) grows)
grows_by false before link other now test below grows =
    subst (λ (q : PortView). PortGrows (kept_at other before) q) (sym (get_or-set_other before link other now no_kept (grind (arith, nat_tests, test))))
    (record { given = begins_all (kept_at other before).side.given; taken = begins_all (kept_at other before).taken })

pub set_grows : (before : List PortView) (link : ℕ) (now : PortView) → link < length before → PortGrows (kept_at link before) now → AllGrow before (set before link now)
set_grows before link now below grows = record {
  len = omega (arith, length-set {A = PortView} before link now);
  each = λ other h. grows_by (other == link) before link other now refl below grows;
}

-- a fact of each link by its own acts stays, where the changed link has it
set_field : {A : Type 0} (f : PortView → A) (v : List Act → A) (t : Bool) (before : List PortView) (link other : ℕ) (now : PortView) (act : Act) (trace : List Entry) → (link == other) ≡ t → link < length before
    → ((k : ℕ) → f (kept_at k before) ≡ v (own k trace)) → f now ≡ v (act ∷ own link trace)
    → f (kept_at other (set before link now)) ≡ v (if t then act ∷ own other trace else own other trace)
set_field f v true before link other now act trace test below each here =
    let same : link ≡ other = grind (arith, nat_tests, test) in
    subst (λ (k : ℕ). f (kept_at k (set before link now)) ≡ v (act ∷ own k trace)) same
    (ap f (get_or-set_same before link now no_kept below) ∙ here)
set_field f v false before link other now act trace test below each here =
    ap f (get_or-set_other before link other now no_kept (grind (arith, nat_tests, test))) ∙ each other

no_dial : (what : Done) (kept : PortView) → dial_bound (act_of what kept) ≡ 0
no_dial (done.Accepted peer local) kept = refl
no_dial done.Readable kept = refl
no_dial done.Writable kept = refl
no_dial (done.Read asked at len) kept = refl
no_dial done.ReadEnd kept = refl
no_dial done.ReadNotYet kept = refl
no_dial done.ReadFailed kept = refl
no_dial (done.Wrote offered at len) kept = refl
no_dial done.WriteNotYet kept = refl
no_dial done.WriteFailed kept = refl
no_dial (done.Connect owner to) kept = refl
no_dial (done.Close ending) kept = refl

bound_same : (link dialled bound : ℕ) → dialled ≡ 0 → link < bound → max (max (link + 1) dialled) bound ≡ bound
bound_same link dialled bound none below = omega arith

-- what a link becomes by an act that is noted
pub record Becomes (before : PortView) (what : Done) (now : PortView) (acts : List Act) : Type 0 where
  pub grows : PortGrows before now
  pub fit : fits what now
  pub taken : now.taken ≡ output_of (act_of what now ∷ acts)
  pub ending : now.ending ≡ ending_of (act_of what now ∷ acts)

pub told_set : (before : List PortView) (notes : List Note) (link : ℕ) (what : Done) (now : PortView) → IsTold before notes → link < length before → Becomes (kept_at link before) what now (own link (trace_of before notes))
    → IsTold (set before link now) (notes ++ record { link = link; done = what } ∷ [])
told_set before notes link what now told below becomes =
    let note : Note = record { link = link; done = what } in
    let after = set before link now in
    let trace = trace_of before notes in
    let at : kept_at link after ≡ now = get_or-set_same before link now no_kept below in
    let act : act_of what (kept_at link after) ≡ act_of what now = ap (act_of what) at in
    told_next before after notes note told (set_grows before link now below becomes.grows) (omega (arith, length-set {A = PortView} before link now))
    (subst (λ (q : PortView). fits what q) (sym at) becomes.fit)
    (omega (arith, told.few, length-set {A = PortView} before link now))
    (bound_same link (dial_bound (act_of what (kept_at link after))) (link_bound trace) (no_dial what (kept_at link after)) (omega (arith, told.named)) ∙ told.named ∙ sym (length-set {A = PortView} before link now))
    (λ other. set_field (λ q. q.taken) output_of (link == other) before link other now (act_of what (kept_at link after)) trace refl below told.taken (becomes.taken ∙ ap (λ (a : Act). output_of (a ∷ own link trace)) (sym act)))
    (λ other. set_field (λ q. q.ending) ending_of (link == other) before link other now (act_of what (kept_at link after)) trace refl below told.ending (becomes.ending ∙ ap (λ (a : Act). ending_of (a ∷ own link trace)) (sym act)))
    (λ other there. arrived_still (link == other) (act_of what (kept_at link after)) (own other trace) (told.arrived other (omega (arith, there, length-set {A = PortView} before link now))))

pub trace_set : (before : List PortView) (notes : List Note) (link : ℕ) (what : Done) (now : PortView) → IsTold before notes → link < length before → PortGrows (kept_at link before) now
    → trace_of (set before link now) (notes ++ record { link = link; done = what } ∷ []) ≡ said link (act_of what now ∷ []) (trace_of before notes)
trace_set before notes link what now told below grows =
    let note : Note = record { link = link; done = what } in
    trace_next before (set before link now) notes note (set_grows before link now below grows) told.within
    ∙ ap (λ (q : PortView). said link (act_of what q ∷ []) (trace_of before notes)) (get_or-set_same before link now no_kept below)

-- a link is not named before it is there

undialled : (act : Act) (link : ℕ) → dial_bound act ≤ link → dials act link ≡ false
undialled (Connect owner to (Some dialled)) link above = grind (arith, nat_tests, above)
undialled (Connect owner to None) link above = refl
undialled (Accepted peer local) link above = refl
undialled Readable link above = refl
undialled Writable link above = refl
undialled (Read asked bytes) link above = refl
undialled ReadEnd link above = refl
undialled (NotYet way) link above = refl
undialled (Failed way) link above = refl
undialled (Wrote offered bytes) link above = refl
undialled (Close ending) link above = refl

pub unnamed : (link : ℕ) (trace : List Entry) → link_bound trace ≤ link → names link trace ≡ false
unnamed link [] above = refl
unnamed link (entry ∷ trace) above =
    let other : (entry.link == link) ≡ false = grind (arith, nat_tests, above) in
    rw (other, undialled entry.act link (omega arith), unnamed link trace (omega arith)) refl

-- a link arrives

kept_push : (before : List PortView) (link : ℕ) → link < length before → kept_at link (before ++ fresh_kept ∷ []) ≡ kept_at link before
kept_push [] link below = absurd (omega arith)
kept_push (first ∷ before) zero below = refl
kept_push (first ∷ before) (suc link) below = kept_push before link (omega arith)

field_push : {A : Type 0} (f : PortView → A) (before : List PortView) (link : ℕ) → f fresh_kept ≡ f no_kept → f (kept_at link (before ++ fresh_kept ∷ [])) ≡ f (kept_at link before)
field_push f [] zero same = same
field_push f [] (suc link) same = refl
field_push f (first ∷ before) zero same = refl
field_push f (first ∷ before) (suc link) same = field_push f before link same

push_grows : (before : List PortView) → AllGrow before (before ++ fresh_kept ∷ [])
push_grows before = record {
  len = omega (arith, length-append before (fresh_kept ∷ []));
  each = λ link below. subst (λ (q : PortView). PortGrows (kept_at link before) q) (sym (kept_push before link below))
      (record { given = begins_all (kept_at link before).side.given; taken = begins_all (kept_at link before).taken });
}

nothing_taken : (t : Bool) (peer local : Address) (acts : List Act) → output_of (if t then Accepted peer local ∷ acts else acts) ≡ output_of acts
nothing_taken true peer local acts = refl
nothing_taken false peer local acts = refl

nothing_closed : (t : Bool) (peer local : Address) (acts : List Act) → (t ≡ true → ending_of acts ≡ None) → ending_of (if t then Accepted peer local ∷ acts else acts) ≡ ending_of acts
nothing_closed true peer local acts unclosed = sym (unclosed refl)
nothing_closed false peer local acts unclosed = refl

-- the one that comes has arrived, and so have those before it
arrived_push : (t : Bool) (before : List PortView) (link : ℕ) (peer local : Address) (acts : List Act) → (length before == link) ≡ t → link < length before + 1
    → (link < length before → has_arrived acts ≡ true) → has_arrived (if t then Accepted peer local ∷ acts else acts) ≡ true
arrived_push true before link peer local acts test there arrived = refl
arrived_push false before link peer local acts test there arrived = arrived (grind (arith, nat_tests, test, there))

-- a link that is still to come has no ending
unkept : (before : List PortView) (link : ℕ) → (length before == link) ≡ true → (kept_at link before).ending ≡ None
unkept before link next =
    let is : length before ≡ link = grind (arith, nat_tests, next) in
    ap (λ (q : PortView). q.ending) (get_or_past before link no_kept (omega (arith, is)))

abbrev arrival : ℕ → Address → Address → Note
arrival link peer local = record { link = link; done = done.Accepted peer local }

pub told_push : (before : List PortView) (notes : List Note) (peer local : Address) → IsTold before notes → length before < 4294967295
    → IsTold (before ++ fresh_kept ∷ []) (notes ++ arrival (length before) peer local ∷ [])
told_push before notes peer local told few =
    let len : length (before ++ fresh_kept ∷ []) ≡ length before + 1 = length-append before (fresh_kept ∷ []) in
    told_next before (before ++ fresh_kept ∷ []) notes (arrival (length before) peer local) told (push_grows before) (omega (arith, len)) tt (omega (arith, len))
    (omega (arith, len, told.named))
    (λ link. field_push (λ q. q.taken) before link refl ∙ told.taken link ∙ sym (nothing_taken (length before == link) peer local (own link (trace_of before notes))))
    (λ link. field_push (λ q. q.ending) before link refl ∙ told.ending link ∙ sym (nothing_closed (length before == link) peer local (own link (trace_of before notes)) (λ next. sym (told.ending link) ∙ unkept before link next)))
    (λ link there. arrived_push (length before == link) before link peer local (own link (trace_of before notes)) refl (omega (arith, there, len)) (told.arrived link))

pub trace_push : (before : List PortView) (notes : List Note) (peer local : Address) → IsTold before notes
    → trace_of (before ++ fresh_kept ∷ []) (notes ++ arrival (length before) peer local ∷ []) ≡ said (length before) (Accepted peer local ∷ []) (trace_of before notes)
trace_push before notes peer local told = trace_next before (before ++ fresh_kept ∷ []) notes (arrival (length before) peer local) (push_grows before) told.within
