-- How a client was closed in a run, and why.
use Rattle.std.proofs.Common.{◌≡◌, ◌⊎◌, ℕ, ◌≤◌, List, [], ◌∷◌, Bool, true, Option, Some, None, refl, sym, ◌∙◌, ap, subst, arith, inl, inr}
use Rattle.std.proofs.lemmas.Bool.{cases_eq}
use Rattle.std.proofs.lemmas.Option.{same_Some}
use Rattle.lt_world.specs.Acts.{ending_of}
use Rattle.lt_world.specs.Causes.{Rose}
use Rattle.lt_world.specs.declared.net.Address.{Address}
use Rattle.lt_world.specs.declared.net.Ending.{Ending}
use Rattle.lt_world.specs.declared.net.Ending.TheVariants as ending
use Rattle.lt_world.specs.Trace.{Act, Entry, Accepted, Readable, Writable, Read, ReadEnd, NotYet, Failed, Wrote, Connect, Close}
use Rattle.server_model.specs.Site.{Site}
use Rattle.server_model.specs.World.{World}
use Rattle.server_model.specs.Deeds.{Deed, Ours, own, ours}
use Rattle.server_model.specs.Open.{open_clients}
use Rattle.server_model.specs.Client.{owed}
use Rattle.server_model.specs.Causes.{is_behind_want, IsCause}
use Rattle.server_model.specs.Due.{Settles, rests, finishes, fails, yields, may_want_after_read, may_want_after_write, DueArrival, comes, full, DueRead, DueWrite, Due}
use Rattle.server_model.specs.Turns.{Seen, ReadsNone, ReadsOne, ReadFailed, Part, all_told, DueParts}
use Rattle.server_model.specs.Runs.{Told, IsRun, none, more}
use Rattle.server_model.proofs.Owned.{own_entry_other, own-told_other}
use Rattle.server_model.proofs.Settled.{open_has_no_ending}
use Rattle.server_model.proofs.Running.{run_grows}

-- it was closed so
abbrev EndsSo : Ending → List Deed → Type 0
EndsSo e deeds = ending_of (ours deeds) ≡ Some e

abbrev HasCause : Ending → List Deed → Type 0 → Type 0
HasCause e deeds faulted = IsCause e (ours deeds) faulted

none_is : (o : Option Ending) (e : Ending) → o ≡ None → o ≡ Some e → ⊥
none_is o e is some = cc (is, some)

-- a cause stays one where more failed
pub cause_stays : (e : Ending) (deeds : List Deed) (old now : Type 0) → (old → now) → HasCause e deeds old → HasCause e deeds now
cause_stays ending.Clean deeds old now wider cause = cause
cause_stays ending.Full deeds old now wider cause = cause
cause_stays ending.NoMemory deeds old now wider cause = cause
cause_stays ending.ClientFault deeds old now wider cause = cause
cause_stays ending.FileFault deeds old now wider cause = wider cause
cause_stays ending.GatewayCut deeds old now wider cause = absurd cause
cause_stays ending.Gate deeds old now wider cause = absurd cause

-- that it was just closed so
closed : (last e : Ending) (deeds : List Deed) (faulted : Type 0) → EndsSo e (Ours (Close last) ∷ deeds) → HasCause last (Ours (Close last) ∷ deeds) faulted → HasCause e (Ours (Close last) ∷ deeds) faulted
closed last e deeds faulted is cause = subst (λ (x : Ending). HasCause x (Ours (Close last) ∷ deeds) faulted) (same_Some last e is) cause

-- behind an act after which memory may be wanted, where it may
settled : (world : World) (may : Bool) (act : Act) (past now : List Deed) (faulted : Type 0) (e : Ending) → (may ≡ true → is_behind_want (Close ending.NoMemory ∷ act ∷ ours past) ≡ true) → Settles world may (Ours act ∷ past) now → EndsSo e now → HasCause e now faulted
settled world may act past now faulted e wants (rests r) is = absurd (none_is (ending_of (ours now)) e (open_has_no_ending (ours now) r.is_open) is)
settled world may act past now faulted e wants (finishes f s) is = closed ending.Clean e (Ours act ∷ past) faulted is s
settled world may act past now faulted e wants (fails f) is = closed ending.ClientFault e (Ours act ∷ past) faulted is f
settled world may act past now faulted e wants (yields m u) is = closed ending.NoMemory e (Ours act ∷ past) faulted is (wants m)

wants_read : (spare : ℕ) (world : World) (act : Act) (acts : List Act) → may_want_after_read spare world acts act ≡ true → is_behind_want (Close ending.NoMemory ∷ act ∷ acts) ≡ true
wants_read spare world (Accepted peer local) acts may = absurd (cc (may))
wants_read spare world Readable acts may = absurd (cc (may))
wants_read spare world Writable acts may = absurd (cc (may))
wants_read spare world (Read asked bytes) acts may = refl
wants_read spare world ReadEnd acts may = absurd (cc (may))
wants_read spare world (NotYet way) acts may = absurd (cc (may))
wants_read spare world (Failed way) acts may = absurd (cc (may))
wants_read spare world (Wrote offered bytes) acts may = refl
wants_read spare world (Connect owner to link) acts may = absurd (cc (may))
wants_read spare world (Close e) acts may = absurd (cc (may))

wants_write : (due : List ℕ) (act : Act) (acts : List Act) → may_want_after_write due act ≡ true → is_behind_want (Close ending.NoMemory ∷ act ∷ acts) ≡ true
wants_write due (Accepted peer local) acts may = absurd (cc (may))
wants_write due Readable acts may = absurd (cc (may))
wants_write due Writable acts may = absurd (cc (may))
wants_write due (Read asked bytes) acts may = refl
wants_write due ReadEnd acts may = absurd (cc (may))
wants_write due (NotYet way) acts may = absurd (cc (may))
wants_write due (Failed way) acts may = absurd (cc (may))
wants_write due (Wrote offered bytes) acts may = refl
wants_write due (Connect owner to link) acts may = absurd (cc (may))
wants_write due (Close e) acts may = absurd (cc (may))

arrived : (open_now : ℕ) (peer local : Address) (past now : List Deed) (faulted : Type 0) (e : Ending) → DueArrival open_now peer local past now → EndsSo e now → HasCause e now faulted
arrived open_now peer local past now faulted e (comes room) is = absurd (cc (is))
arrived open_now peer local past now faulted e (full limit) is = closed ending.Full e (Ours (Accepted peer local) ∷ past) faulted is refl

read_due : (spare : ℕ) (before after : World) (past now : List Deed) (faulted : Type 0) (e : Ending) → DueRead spare before after past now → EndsSo e now → (now ≡ past) ⊎ HasCause e now faulted
read_due spare before after past now faulted e (DueRead.idle w) is = inl refl
read_due spare before after past now faulted e (DueRead.reads act w a s) is = inr (settled after (may_want_after_read spare before (ours past) act) act past now faulted e (wants_read spare before act (ours past)) s is)

write_due : (sound : Type 0) (failed : ℕ → Type 0) (before after : World) (past now : List Deed) (e : Ending) → DueWrite sound failed before after past now → EndsSo e now → (now ≡ past) ⊎ HasCause e now ((k : ℕ) × failed k)
write_due sound failed before after past now e (DueWrite.idle w o) is = inl refl
write_due sound failed before after past now e (DueWrite.writes act w a o s) is = inr (settled after (may_want_after_write (owed before (ours past)) act) act past now ((k : ℕ) × failed k) e (wants_write (owed before (ours past)) act (ours past)) s is)
write_due sound failed before after past now e (DueWrite.faults w f) is = inr (closed ending.FileFault e past ((k : ℕ) × failed k) is (_, f))

due : (open_now : ℕ) (event : Act) (spare : ℕ) (unread sound : Type 0) (failed : ℕ → Type 0) (before after : World) (past now : List Deed) (e : Ending) → Due open_now event spare unread sound failed before after past now → EndsSo e now
    → (now ≡ past) ⊎ HasCause e now ((k : ℕ) × failed k)
due open_now (Accepted peer local) spare unread sound failed before after past now e d is = inr (arrived open_now peer local past now ((k : ℕ) × failed k) e d.1 is)
due open_now Readable spare unread sound failed before after past now e d is = read_due spare before after past now ((k : ℕ) × failed k) e d.1 is
due open_now Writable spare unread sound failed before after past now e d is = write_due sound failed before after past now e d is
due open_now (Read asked bytes) spare unread sound failed before after past now e d is = absurd d
due open_now ReadEnd spare unread sound failed before after past now e d is = absurd d
due open_now (NotYet way) spare unread sound failed before after past now e d is = absurd d
due open_now (Failed way) spare unread sound failed before after past now e d is = absurd d
due open_now (Wrote offered bytes) spare unread sound failed before after past now e d is = absurd d
due open_now (Connect owner to link) spare unread sound failed before after past now e d is = absurd d
due open_now (Close ending) spare unread sound failed before after past now e d is = absurd d

-- an event changes what was done for its client alone
in_part : (site : Site) (event : Act) (link : ℕ) (parts : List Part) (spare : ℕ) (before after : Seen) (old now : List Entry) → now ≡ all_told parts (record { link = link; act = event } ∷ old) → DueParts site event link parts spare before after old now
    → (client : ℕ) (e : Ending) → EndsSo e (own client now) → (own client now ≡ own client old) ⊎ HasCause e (own client now) (Rose before.faults after.faults)
in_part site event link [] spare before after old now gains d client e is = absurd d
in_part site event link (p ∷ []) spare before after old now gains d client e is = elim (cases_eq client p.client) [
  | inl here ↦ elim (due (open_clients old) event spare (ReadsNone before after) (ReadsOne before after) (λ k. ReadFailed p.client k before after) _ _ (own p.client old) (own p.client now) e d.2 (subst (λ (c : ℕ). EndsSo e (own c now)) here is)) [
    | inl same ↦ inl (subst (λ (c : ℕ). own c now ≡ own c old) (sym here) same)
    | inr cause ↦ inr (subst (λ (c : ℕ). HasCause e (own c now) (Rose before.faults after.faults)) (sym here)
        (cause_stays e (own p.client now) ((k : ℕ) × ReadFailed p.client k before after) (Rose before.faults after.faults) (λ f. f.1.rose) cause))
  ]
  | inr apart ↦
      let event_apart : own client (record { link = link; act = event } ∷ old) ≡ own client old = own_entry_other client link event old (λ same. apart (sym (d.0 ∙ same))) in
      let same : own client now ≡ own client old = ap (own client) gains ∙ own-told_other client p.client p.deeds (record { link = link; act = event } ∷ old) apart ∙ event_apart in
      inl same
]
in_part site event link (p ∷ q ∷ parts) spare before after old now gains d client e is = absurd d

rose_wider : (a b c d : ℕ) → a ≤ b → c ≤ d → Rose b c → Rose a d
rose_wider a b c d low high rose = grind (arith, low, high, rose)

pub run_ends : (site : Site) (before after : Told) → IsRun site before after → (client : ℕ) (e : Ending) → EndsSo e (own client after.trace)
    → EndsSo e (own client before.trace) ⊎ HasCause e (own client after.trace) (Rose before.seen.faults after.seen.faults)
run_ends site before after none client e is = inl is
run_ends site before after (more {now = mid} {spare = spare} run turn) client e is = elim (in_part site turn.event turn.link turn.parts spare mid.seen after.seen mid.trace after.trace turn.gains turn.due client e is) [
  | inl same ↦ elim (run_ends site before mid run client e (subst (EndsSo e) same is)) [
    | inl first ↦ inl first
    | inr cause ↦ inr (subst (λ (d : List Deed). HasCause e d (Rose before.seen.faults after.seen.faults)) (sym same)
        (cause_stays e (own client mid.trace) (Rose before.seen.faults mid.seen.faults) (Rose before.seen.faults after.seen.faults)
        (rose_wider before.seen.faults before.seen.faults mid.seen.faults after.seen.faults (omega arith) turn.grows.faults) cause))
  ]
  | inr cause ↦ inr (cause_stays e (own client after.trace) (Rose mid.seen.faults after.seen.faults) (Rose before.seen.faults after.seen.faults)
      (rose_wider before.seen.faults mid.seen.faults after.seen.faults after.seen.faults (run_grows site before mid run).faults (omega arith)) cause)
]
