-- Where memory ran out for a client in a turn.
use Rattle.std.proofs.Common.{◌≡◌, ◌⊎◌, ℕ, ◌<◌, List, [], ◌∷◌, length, Bool, true, false, not, ◌&&◌, ◌||◌, nat_le, refl, sym, ◌∙◌, ap, subst, arith, inl, inr}
use Rattle.std.proofs.lemmas.Bool.{cases_eq}
use Rattle.std.proofs.lemmas.Bool.Decides.{nat_tests}
use Rattle.lt_world.specs.declared.net.Address.{Address}
use Rattle.lt_world.specs.declared.net.Ending.TheVariants as ending
use Rattle.lt_world.specs.Trace.{Act, Entry, Accepted, Readable, Writable, Read, ReadEnd, NotYet, Failed, Wrote, Connect, Close}
use Rattle.server_model.specs.Site.{Site}
use Rattle.server_model.specs.Request.{has_head, is_complete}
use Rattle.server_model.specs.World.{World, world_of}
use Rattle.server_model.specs.Deeds.{Deed, Ours, own, ours}
use Rattle.server_model.specs.Open.{open_clients}
use Rattle.server_model.specs.Client.{is_open, current, current_request, request_at, owed}
use Rattle.server_model.specs.Due.{MayYield, Settles, rests, finishes, fails, yields, IsWriteAct, IsKeptAlone, may_want_after_read, may_want_after_write, DueArrival, comes, full, DueRead, DueWrite, Due}
use Rattle.server_model.specs.Turns.{Seen, ReadsNone, ReadsOne, ReadFailed, Part, all_told, DueParts, IsTurn}
use Rattle.server_model.proofs.Owned.{own_entry_other, own-told_other}

-- a client was closed for want of memory behind these deeds
abbrev IsOut : List Deed → List Deed → Type 0
IsOut now deeds = now ≡ Ours (Close ending.NoMemory) ∷ deeds

-- behind a read or a write
data Wanted (spare : ℕ) (before after : World) (past deeds : List Deed) : Type 0 where
  reading : (act : Act) → deeds ≡ Ours act ∷ past → may_want_after_read spare before (ours past) act ≡ true → MayYield after (ours deeds) → Wanted spare before after past deeds
  writing : (act : Act) → deeds ≡ Ours act ∷ past → IsWriteAct (owed before (ours past)) act → MayYield after (ours deeds) → Wanted spare before after past deeds

settles_wanted : (world : World) (may : Bool) (past now deeds : List Deed) → Settles world may past now → IsOut now deeds → (may ≡ true) × (deeds ≡ past) × MayYield world (ours deeds)
settles_wanted world may past now deeds (rests r) is = let shut : is_open (ours now) ≡ false = ap (λ (d : List Deed). is_open (ours d)) is in absurd (cc (shut, r.is_open))
settles_wanted world may past now deeds (finishes f s) is = absurd (cc (is))
settles_wanted world may past now deeds (fails f) is = absurd (cc (is))
settles_wanted world may past now deeds (yields m u) is = let same : past ≡ deeds = cc (is) in (m, sym same, subst (λ (d : List Deed). MayYield world (ours d)) same u)

arrival_keeps : (open_now : ℕ) (peer local : Address) (past now deeds : List Deed) → DueArrival open_now peer local past now → IsOut now deeds → ⊥
arrival_keeps open_now peer local past now deeds (comes room) is = cc (is)
arrival_keeps open_now peer local past now deeds (full limit) is = cc (is)

read_wanted : (spare : ℕ) (before after : World) (past now deeds : List Deed) → DueRead spare before after past now → IsOut now deeds → (now ≡ past) ⊎ Wanted spare before after past deeds
read_wanted spare before after past now deeds (DueRead.idle w) is = inl refl
read_wanted spare before after past now deeds (DueRead.reads act w a s) is =
    let m = settles_wanted after (may_want_after_read spare before (ours past) act) (Ours act ∷ past) now deeds s is in inr (Wanted.reading act m.1 m.0 m.2)

write_wanted : (spare : ℕ) (sound : Type 0) (failed : ℕ → Type 0) (before after : World) (past now deeds : List Deed) → DueWrite sound failed before after past now → IsOut now deeds → (now ≡ past) ⊎ Wanted spare before after past deeds
write_wanted spare sound failed before after past now deeds (DueWrite.idle w o) is = inl refl
write_wanted spare sound failed before after past now deeds (DueWrite.writes act w a o s) is =
    let m = settles_wanted after (may_want_after_write (owed before (ours past)) act) (Ours act ∷ past) now deeds s is in inr (Wanted.writing act m.1 a m.2)
write_wanted spare sound failed before after past now deeds (DueWrite.faults w f) is = absurd (cc (is))

due_wanted : (open_now : ℕ) (event : Act) (spare : ℕ) (unread sound : Type 0) (failed : ℕ → Type 0) (before after : World) (past now deeds : List Deed) → Due open_now event spare unread sound failed before after past now → IsOut now deeds
    → (now ≡ past) ⊎ Wanted spare before after past deeds
due_wanted open_now (Accepted peer local) spare unread sound failed before after past now deeds d is = absurd (arrival_keeps open_now peer local past now deeds d.1 is)
due_wanted open_now Readable spare unread sound failed before after past now deeds d is = read_wanted spare before after past now deeds d.1 is
due_wanted open_now Writable spare unread sound failed before after past now deeds d is = write_wanted spare sound failed before after past now deeds d is
due_wanted open_now (Read asked bytes) spare unread sound failed before after past now deeds d is = absurd d
due_wanted open_now ReadEnd spare unread sound failed before after past now deeds d is = absurd d
due_wanted open_now (NotYet way) spare unread sound failed before after past now deeds d is = absurd d
due_wanted open_now (Failed way) spare unread sound failed before after past now deeds d is = absurd d
due_wanted open_now (Wrote offered bytes) spare unread sound failed before after past now deeds d is = absurd d
due_wanted open_now (Connect owner to link) spare unread sound failed before after past now deeds d is = absurd d
due_wanted open_now (Close ending) spare unread sound failed before after past now deeds d is = absurd d

-- of a client by what was done for it
abbrev WantedFor : Site → ℕ → Seen → Seen → List Entry → List Entry → List Deed → ℕ → Type 0
WantedFor site spare before after old now deeds client = (own client now ≡ own client old) ⊎ Wanted spare (world_of site before.disk client (own client old)) (world_of site after.disk client (own client now)) (own client old) deeds

-- an event changes what was done for its client alone
part_wanted : (site : Site) (event : Act) (link : ℕ) (parts : List Part) (spare : ℕ) (before after : Seen) (old now : List Entry) → now ≡ all_told parts (record { link = link; act = event } ∷ old) → DueParts site event link parts spare before after old now
    → (client : ℕ) (deeds : List Deed) → IsOut (own client now) deeds → WantedFor site spare before after old now deeds client
part_wanted site event link [] spare before after old now gains d client deeds is = absurd d
part_wanted site event link (p ∷ []) spare before after old now gains d client deeds is = elim (cases_eq client p.client) [
  | inl here ↦ subst (WantedFor site spare before after old now deeds) (sym here)
      (due_wanted (open_clients old) event spare (ReadsNone before after) (ReadsOne before after) (λ k. ReadFailed p.client k before after) _ _ (own p.client old) (own p.client now) deeds d.2 (subst (λ (c : ℕ). IsOut (own c now) deeds) here is))
  | inr apart ↦
      let event_apart : own client (record { link = link; act = event } ∷ old) ≡ own client old = own_entry_other client link event old (λ same. apart (sym (d.0 ∙ same))) in
      inl (ap (own client) gains ∙ own-told_other client p.client p.deeds (record { link = link; act = event } ∷ old) apart ∙ event_apart)
]
part_wanted site event link (p ∷ q ∷ parts) spare before after old now gains d client deeds is = absurd d

module _ (site : Site) (spare : ℕ) (before after : Seen) (old now : List Entry) (turn : IsTurn site spare before after old now) (client : ℕ) where
  turn_wanted : (deeds : List Deed) → IsOut (own client now) deeds → WantedFor site spare before after old now deeds client
  turn_wanted deeds is = part_wanted site turn.event turn.link turn.parts spare before after old now turn.gains turn.due client deeds is

  -- what was done before isn't longer than itself
  grown : (act : Act) → own client now ≡ Ours (Close ending.NoMemory) ∷ Ours act ∷ own client old → own client now ≡ own client old → ⊥
  grown act is same = omega (arith, ap length is, ap length same)

  pub kept_alone : 0 < spare → (asked : ℕ) (bytes : List ℕ) → IsOut (own client now) (Ours (Read asked bytes) ∷ own client old) → IsKeptAlone (world_of site before.disk client (own client old)) (ours (own client old)) asked bytes → ⊥
  kept_alone some asked bytes is alone = elim (turn_wanted (Ours (Read asked bytes) ∷ own client old) is) [
    | inl same ↦ grown (Read asked bytes) is same
    | inr wanted ↦ by wanted
  ]
    where
      world : World
      world = world_of site before.disk client (own client old)

      has : Bool
      has = has_head (request_at world (Read asked bytes ∷ ours (own client old)) (current world (ours (own client old))).number)

      whole : Bool
      whole = is_complete (current_request world (ours (own client old)))

      neither : (h w : Bool) → (h ≡ false) ⊎ (w ≡ true) → (h && not w) ≡ false
      neither true true a = refl
      neither true false (inl a) = absurd (cc (a))
      neither true false (inr a) = absurd (cc (a))
      neither false w a = refl

      by : Wanted spare world (world_of site after.disk client (own client now)) (own client old) (Ours (Read asked bytes) ∷ own client old) → ⊥
      by (Wanted.reading act same may u) =
          let read : act ≡ Read asked bytes = cc (same) in
          let may_read : (nat_le spare 0 || (has && not whole)) ≡ true = ap (may_want_after_read spare world (ours (own client old))) (sym read) ∙ may in
          let unspared : nat_le spare 0 ≡ false = grind (arith, nat_tests, some) in
          let none : (nat_le spare 0 || (has && not whole)) ≡ false = (λ i. unspared i || neither has whole alone i) in
          cc (may_read, none)
      by (Wanted.writing act same writes u) =
          let read : act ≡ Read asked bytes = cc (same) in
          subst (IsWriteAct (owed world (ours (own client old)))) read writes

  pub end_keeps : IsOut (own client now) (Ours ReadEnd ∷ own client old) → ⊥
  end_keeps is = elim (turn_wanted (Ours ReadEnd ∷ own client old) is) [
    | inl same ↦ grown ReadEnd is same
    | inr wanted ↦ by wanted
  ]
    where
      world : World
      world = world_of site before.disk client (own client old)

      by : Wanted spare world (world_of site after.disk client (own client now)) (own client old) (Ours ReadEnd ∷ own client old) → ⊥
      by (Wanted.reading act same may u) =
          let read : act ≡ ReadEnd = cc (same) in
          let may_end : false ≡ true = ap (may_want_after_read spare world (ours (own client old))) (sym read) ∙ may in
          cc (may_end)
      by (Wanted.writing act same writes u) =
          let read : act ≡ ReadEnd = cc (same) in
          subst (IsWriteAct (owed world (ours (own client old)))) read writes

  pub clean_kept : (deeds : List Deed) → IsOut (own client now) deeds → (own client now ≡ own client old) ⊎ MayYield (world_of site after.disk client (own client now)) (ours deeds)
  clean_kept deeds is = elim (turn_wanted deeds is) [
    | inl same ↦ inl same
    | inr wanted ↦ inr (by wanted)
  ]
    where
      by : Wanted spare (world_of site before.disk client (own client old)) (world_of site after.disk client (own client now)) (own client old) deeds → MayYield (world_of site after.disk client (own client now)) (ours deeds)
      by (Wanted.reading act same may u) = u
      by (Wanted.writing act same writes u) = u
