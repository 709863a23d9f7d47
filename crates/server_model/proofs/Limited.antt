-- No more clients are open at once than the limit.
use Rattle.std.proofs.Common.{◌≡◌, ℕ, ◌+◌, ◌≤◌, List, [], ◌∷◌, ◌++◌, refl, sym, ◌∙◌, ap, arith, append_assoc, Bool}
use Rattle.std.proofs.lemmas.List.{append_cancel_right}
use Rattle.lt_world.specs.declared.net.Address.{Address}
use Rattle.lt_world.specs.declared.net.Ending.TheVariants as ending
use Rattle.lt_world.specs.Trace.{Act, Entry, Accepted, Readable, Writable, Read, ReadEnd, NotYet, Failed, Wrote, Connect, Close}
use Rattle.server_model.specs.Site.{Site}
use Rattle.server_model.specs.World.{World}
use Rattle.server_model.specs.Deeds.{Deed, Ours, own, told, AreDeeds}
use Rattle.server_model.specs.Open.{counted, open_clients}
use Rattle.server_model.specs.Due.{Settles, rests, finishes, fails, yields, IsReadAct, IsWriteAct, connection_limit, DueArrival, comes, full, DueRead, DueWrite, Due}
use Rattle.server_model.specs.Turns.{Seen, Part, all_told, DueParts}
use Rattle.server_model.specs.Runs.{Told, IsRun, none, more}
use Rattle.server_model.proofs.Owned.{own_entry, own-told}

-- so many are open after these deeds
abbrev count_after : List Deed → ℕ → ℕ
count_after [] n = n
count_after (Ours act ∷ deeds) n = counted act (count_after deeds n)

count_told : (client : ℕ) (deeds : List Deed) (trace : List Entry) → open_clients (told client deeds trace) ≡ count_after deeds (open_clients trace)
count_told client [] trace = refl
count_told client (Ours act ∷ deeds) trace = ap (counted act) (count_told client deeds trace)

-- what came on top of a past, after which no more are open
abbrev AddsNone : List Deed → List Deed → Type 0
AddsNone past now = (front : List Deed) × (now ≡ front ++ past) × ((n : ℕ) → count_after front n ≤ n)

settles_none : (world : World) (may : Bool) (past now : List Deed) → Settles world may past now → AddsNone past now
settles_none world may past now (rests r) = ([], refl, λ n. omega arith)
settles_none world may past now (finishes f s) = (Ours (Close ending.Clean) ∷ [], refl, λ n. omega arith)
settles_none world may past now (fails f) = (Ours (Close ending.ClientFault) ∷ [], refl, λ n. omega arith)
settles_none world may past now (yields m u) = (Ours (Close ending.NoMemory) ∷ [], refl, λ n. omega arith)

count_append : (xs ys : List Deed) (n : ℕ) → count_after (xs ++ ys) n ≡ count_after xs (count_after ys n)
count_append [] ys n = refl
count_append (Ours act ∷ xs) ys n = ap (counted act) (count_append xs ys n)

after_act : (act : Act) (past now : List Deed) → ((n : ℕ) → counted act n ≡ n) → AddsNone (Ours act ∷ past) now → AddsNone past now
after_act act past now same adds =
    let front : List Deed = adds.0 ++ Ours act ∷ [] in
    (front, adds.1 ∙ sym (append_assoc adds.0 (Ours act ∷ []) past), λ n. omega (arith, count_append adds.0 (Ours act ∷ []) n, ap (count_after adds.0) (same n), adds.2 n))

reads_same : (act : Act) → IsReadAct act → (n : ℕ) → counted act n ≡ n
reads_same (Accepted peer local) is n = absurd is
reads_same Readable is n = absurd is
reads_same Writable is n = absurd is
reads_same (Read asked bytes) is n = refl
reads_same ReadEnd is n = refl
reads_same (NotYet way) is n = refl
reads_same (Failed way) is n = refl
reads_same (Wrote offered bytes) is n = absurd is
reads_same (Connect owner to link) is n = absurd is
reads_same (Close e) is n = absurd is

writes_same : (owed : List ℕ) (act : Act) → IsWriteAct owed act → (n : ℕ) → counted act n ≡ n
writes_same owed (Accepted peer local) is n = absurd is
writes_same owed Readable is n = absurd is
writes_same owed Writable is n = absurd is
writes_same owed (Read asked bytes) is n = absurd is
writes_same owed ReadEnd is n = absurd is
writes_same owed (NotYet way) is n = refl
writes_same owed (Failed way) is n = refl
writes_same owed (Wrote offered bytes) is n = refl
writes_same owed (Connect owner to link) is n = absurd is
writes_same owed (Close e) is n = absurd is

read_none : (spare : ℕ) (before after : World) (past now : List Deed) → DueRead spare before after past now → AddsNone past now
read_none spare before after past now (DueRead.idle w) = ([], refl, λ n. omega arith)
read_none spare before after past now (DueRead.reads act w a s) = after_act act past now (reads_same act a) (settles_none _ _ _ _ s)

write_none : (sound : Type 0) (failed : ℕ → Type 0) (before after : World) (past now : List Deed) → DueWrite sound failed before after past now → AddsNone past now
write_none sound failed before after past now (DueWrite.idle w o) = ([], refl, λ n. omega arith)
write_none sound failed before after past now (DueWrite.writes act w a o s) = after_act act past now (writes_same _ act a) (settles_none _ _ _ _ s)
write_none sound failed before after past now (DueWrite.faults w f) = (Ours (Close ending.FileFault) ∷ [], refl, λ n. omega arith)

-- a client that arrives stays only where there is room
arrival : (open_now : ℕ) (peer local : Address) (past now : List Deed) → DueArrival open_now peer local past now
    → (front : List Deed) × (now ≡ front ++ Ours (Accepted peer local) ∷ past) × (open_now ≤ connection_limit → count_after front (open_now + 1) ≤ connection_limit)
arrival open_now peer local past now (comes room) = ([], refl, λ le. omega (arith, room))
arrival open_now peer local past now (full limit) = (Ours (Close ending.Full) ∷ [], refl, λ le. omega (arith, le))

-- the deeds of a turn are those that came on top
module _ (client : ℕ) (deeds : List Deed) (old now : List Entry) (are : AreDeeds deeds) (within : open_clients old ≤ connection_limit) where
  stays_within : (event : Act) (past : List Deed) → own client (record { link = client; act = event } ∷ old) ≡ past → counted event (open_clients old) ≡ open_clients old → AddsNone past (own client now)
      → now ≡ told client deeds (record { link = client; act = event } ∷ old) → open_clients now ≤ connection_limit
  stays_within event past own_past same adds gains =
      let all : deeds ++ past ≡ adds.0 ++ past = sym (ap (own client) gains ∙ own-told client deeds (record { link = client; act = event } ∷ old) are ∙ ap (λ l. deeds ++ l) own_past) ∙ adds.1 in
      let front : deeds ≡ adds.0 = append_cancel_right deeds adds.0 past all in
      let count : open_clients now ≡ count_after adds.0 (open_clients old) =
      ap open_clients gains ∙ count_told client deeds (record { link = client; act = event } ∷ old) ∙ (λ i. count_after (front i) (same i)) in
      omega (arith, count, adds.2 (open_clients old), within)

  arrives_within : (peer local : Address) → DueArrival (open_clients old) peer local (own client old) (own client now)
      → now ≡ told client deeds (record { link = client; act = Accepted peer local } ∷ old) → open_clients now ≤ connection_limit
  arrives_within peer local due gains =
      let a = arrival (open_clients old) peer local (own client old) (own client now) due in
      let past : own client (record { link = client; act = Accepted peer local } ∷ old) ≡ Ours (Accepted peer local) ∷ own client old = own_entry client (Accepted peer local) old refl in
      let all : deeds ++ Ours (Accepted peer local) ∷ own client old ≡ a.0 ++ Ours (Accepted peer local) ∷ own client old =
      sym (ap (own client) gains ∙ own-told client deeds (record { link = client; act = Accepted peer local } ∷ old) are ∙ ap (λ l. deeds ++ l) past) ∙ a.1 in
      let front : deeds ≡ a.0 = append_cancel_right deeds a.0 (Ours (Accepted peer local) ∷ own client old) all in
      let count : open_clients now ≡ count_after a.0 (open_clients old + 1) =
      ap open_clients gains ∙ count_told client deeds (record { link = client; act = Accepted peer local } ∷ old) ∙ ap (λ d. count_after d (open_clients old + 1)) front in
      omega (arith, count, a.2 within)

  due_within : (event : Act) (spare : ℕ) (unread sound : Type 0) (failed : ℕ → Type 0) (before after : World) → Due (open_clients old) event spare unread sound failed before after (own client old) (own client now)
      → now ≡ told client deeds (record { link = client; act = event } ∷ old) → open_clients now ≤ connection_limit
  due_within (Accepted peer local) spare unread sound failed before after due gains = arrives_within peer local due.1 gains
  due_within Readable spare unread sound failed before after due gains = stays_within Readable (own client old) refl refl (read_none spare before after (own client old) (own client now) due.1) gains
  due_within Writable spare unread sound failed before after due gains = stays_within Writable (own client old) refl refl (write_none sound failed before after (own client old) (own client now) due) gains
  due_within (Read asked bytes) spare unread sound failed before after due gains = absurd due
  due_within ReadEnd spare unread sound failed before after due gains = absurd due
  due_within (NotYet way) spare unread sound failed before after due gains = absurd due
  due_within (Failed way) spare unread sound failed before after due gains = absurd due
  due_within (Wrote offered bytes) spare unread sound failed before after due gains = absurd due
  due_within (Connect owner to link) spare unread sound failed before after due gains = absurd due
  due_within (Close e) spare unread sound failed before after due gains = absurd due

turn_within : (site : Site) (event : Act) (link : ℕ) (parts : List Part) (spare : ℕ) (before after : Seen) (old now : List Entry) → now ≡ all_told parts (record { link = link; act = event } ∷ old) → DueParts site event link parts spare before after old now
    → open_clients old ≤ connection_limit → open_clients now ≤ connection_limit
turn_within site event link [] spare before after old now gains due within = absurd due
turn_within site event link (p ∷ []) spare before after old now gains due within =
    due_within p.client p.deeds old now due.1 within event spare _ _ _ _ _ due.2 (gains ∙ ap (λ (l : ℕ). told p.client p.deeds (record { link = l; act = event } ∷ old)) (sym due.0))
turn_within site event link (p ∷ q ∷ parts) spare before after old now gains due within = absurd due

-- a run never opens more clients than the limit
pub run_within : (site : Site) (before after : Told) → IsRun site before after → open_clients before.trace ≤ connection_limit → open_clients after.trace ≤ connection_limit
run_within site before after none within = within
run_within site before after (more {now = mid} {spare = spare} run turn) within =
    turn_within site turn.event turn.link turn.parts spare mid.seen after.seen mid.trace after.trace turn.gains turn.due (run_within site before mid run within)
