-- What acts of one link, on top of a trace, make of it.
use Rattle.std.proofs.Common.{◌≡◌, ◌≢◌, ℕ, ◌+◌, ◌<◌, ◌≤◌, List, [], ◌∷◌, ◌++◌, Bool, true, false, Some, None, if◌then◌else◌, ◌==◌, refl, sym, ◌∙◌, ap, arith, append_assoc}
use Rattle.std.proofs.lemmas.Bool.Decides.{nat_tests}
use Rattle.lt_world.specs.declared.net.Event.{Event}
use Rattle.lt_world.specs.declared.net.Event.TheVariants as event
use Rattle.lt_world.specs.declared.net.Got.{Got}
use Rattle.lt_world.specs.declared.net.Got.TheVariants as got
use Rattle.lt_world.specs.declared.net.Took.{Took}
use Rattle.lt_world.specs.declared.net.Took.TheVariants as took
use Rattle.lt_world.specs.declared.net.Dialled.{Dialled}
use Rattle.lt_world.specs.declared.net.Dialled.TheVariants as dialled
use Rattle.lt_world.specs.declared.net.Owner.{Owner}
use Rattle.lt_world.specs.declared.net.Address.{Address}
use Rattle.lt_world.specs.Trace.{Act, Entry, Accepted, Readable, Writable, Read, ReadEnd, NotYet, Failed, Wrote, Connect, Close, said, own, dials, names, client_of, dial_bound, link_bound, Extends}
use Rattle.lt_world.specs.Answers.{event_tells, IsNumbered, IsNumberedDial, read_act, write_act, dial_act}

-- acts on acts
pub said-append : (link : ℕ) (xs ys : List Act) (trace : List Entry) → said link (xs ++ ys) trace ≡ said link xs (said link ys trace)
said-append link [] ys trace = refl
said-append link (x ∷ xs) ys trace = ap (λ t. record { link = link; act = x } ∷ t) (said-append link xs ys trace)

pub own_same : (link : ℕ) (act : Act) (trace : List Entry) → own link (record { link = link; act = act } ∷ trace) ≡ act ∷ own link trace
own_same link act trace = grind (arith, nat_tests)

pub own_other : (link at : ℕ) (act : Act) (trace : List Entry) → link ≢ at → own link (record { link = at; act = act } ∷ trace) ≡ own link trace
own_other link at act trace apart = grind (arith, nat_tests)

pub own-said : (link : ℕ) (acts : List Act) (trace : List Entry) → own link (said link acts trace) ≡ acts ++ own link trace
own-said link [] trace = refl
own-said link (act ∷ acts) trace = own_same link act (said link acts trace) ∙ ap (λ l. act ∷ l) (own-said link acts trace)

pub own-said_other : (link at : ℕ) (acts : List Act) (trace : List Entry) → link ≢ at → own link (said at acts trace) ≡ own link trace
own-said_other link at [] trace apart = refl
own-said_other link at (act ∷ acts) trace apart = own_other link at act (said at acts trace) apart ∙ own-said_other link at acts trace apart

own_if : (b : Bool) (act : Act) (xs ys : List Act) → (if b then act ∷ (xs ++ ys) else xs ++ ys) ≡ (if b then act ∷ xs else xs) ++ ys
own_if true act xs ys = refl
own_if false act xs ys = refl

pub own-append : (link : ℕ) (more trace : List Entry) → own link (more ++ trace) ≡ own link more ++ own link trace
own-append link [] trace = refl
own-append link (entry ∷ more) trace = ap (λ l. if entry.link == link then entry.act ∷ l else l) (own-append link more trace) ∙ own_if (entry.link == link) entry.act (own link more) (own link trace)

-- a link that no entry names has no acts
pub own_unnamed : (link : ℕ) (trace : List Entry) → names link trace ≡ false → own link trace ≡ []
own_unnamed link [] none = refl
own_unnamed link (entry ∷ trace) none = grind (arith, nat_tests, own_unnamed link trace, none)

-- a link that no entry names is its own client's
pub client_of_unnamed : (link : ℕ) (trace : List Entry) → names link trace ≡ false → client_of link trace ≡ link
client_of_unnamed link [] none = refl
client_of_unnamed link (entry ∷ trace) none = grind (arith, nat_tests, client_of_unnamed link trace, none)

-- an act that gives no link leaves each link's client
pub client_of_undialled : (link at : ℕ) (act : Act) (trace : List Entry) → dials act link ≡ false → client_of link (record { link = at; act = act } ∷ trace) ≡ client_of link trace
client_of_undialled link at act trace none = ap (λ b. if b then at else client_of link trace) none

pub client_of_dialled : (link at : ℕ) (act : Act) (trace : List Entry) → dials act link ≡ true → client_of link (record { link = at; act = act } ∷ trace) ≡ at
client_of_dialled link at act trace is = ap (λ b. if b then at else client_of link trace) is

undialled : (act : Act) (link : ℕ) → dial_bound act ≤ link → dials act link ≡ false
undialled (Accepted peer local) link above = refl
undialled Readable link above = refl
undialled Writable link above = refl
undialled (Read asked bytes) link above = refl
undialled ReadEnd link above = refl
undialled (NotYet way) link above = refl
undialled (Failed way) link above = refl
undialled (Wrote offered bytes) link above = refl
undialled (Connect owner to None) link above = refl
undialled (Connect owner to (Some at)) link above = grind (arith, nat_tests)
undialled (Close ending) link above = refl

unnamed : (link at : ℕ) (act : Act) (trace : List Entry) → at + 1 ≤ link → dials act link ≡ false → names link trace ≡ false → names link (record { link = at; act = act } ∷ trace) ≡ false
unnamed link at act trace above un none = grind (arith, nat_tests, un, none)

-- a link at or above the bound is not named
pub names_above : (link : ℕ) (trace : List Entry) → link_bound trace ≤ link → names link trace ≡ false
names_above link [] above = refl
names_above link (entry ∷ trace) above = unnamed link entry.link entry.act trace (omega arith) (undialled entry.act link (omega arith)) (names_above link trace (omega arith))

-- one act more
pub link_bound-said : (link links : ℕ) (act : Act) (trace : List Entry) → link < links → dial_bound act ≤ links → link_bound trace ≤ links → link_bound (said link (act ∷ []) trace) ≤ links
link_bound-said link links act trace below dialled bound = omega arith

-- the bound stays below the number of the next link, over each call of a net
pub link_bound-event : (e : Event) (before after : ℕ) (trace : List Entry) → IsNumbered e before after → link_bound trace ≤ before → link_bound (event_tells e trace) ≤ after
link_bound-event (event.Arrived link peer local) before after trace is bound = omega (arith, is.0, is.1)
link_bound-event (event.Readable link) before after trace is bound = omega (arith, is.0, is.1)
link_bound-event (event.Writable link) before after trace is bound = omega (arith, is.0, is.1)
link_bound-event event.Idle before after trace is bound = omega (arith, is)
link_bound-event event.Over before after trace is bound = omega (arith, is)
link_bound-event event.NoMemory before after trace is bound = omega (arith, is)

pub link_bound-read : (g : Got) (buf : List ℕ) (link links : ℕ) (trace : List Entry) → link < links → link_bound trace ≤ links → link_bound (said link (read_act g buf ∷ []) trace) ≤ links
link_bound-read (got.Bytes n) buf link links trace below bound = omega arith
link_bound-read got.End buf link links trace below bound = omega arith
link_bound-read got.NotYet buf link links trace below bound = omega arith
link_bound-read got.Failed buf link links trace below bound = omega arith

pub link_bound-write : (t : Took) (bytes : List ℕ) (link links : ℕ) (trace : List Entry) → link < links → link_bound trace ≤ links → link_bound (said link (write_act t bytes ∷ []) trace) ≤ links
link_bound-write (took.Bytes n) bytes link links trace below bound = omega arith
link_bound-write took.NotYet bytes link links trace below bound = omega arith
link_bound-write took.Failed bytes link links trace below bound = omega arith

pub link_bound-dial : (d : Dialled) (owner : Owner) (to : Address) (before after : ℕ) (trace : List Entry) → owner.conn < before → IsNumberedDial d before after → link_bound trace ≤ before
    → link_bound (said owner.conn (dial_act d owner to ∷ []) trace) ≤ after
link_bound-dial (dialled.Link link) owner to before after trace below is bound = omega (arith, is.0, is.1)
link_bound-dial dialled.Failed owner to before after trace below is bound = omega (arith, is)

-- what was told stays told
pub extends_same : (trace : List Entry) → Extends trace trace
extends_same trace = ([], refl)

pub extends_more : (a b c : List Entry) → Extends a b → Extends b c → Extends a c
extends_more a b c ab bc = (bc.0 ++ ab.0, bc.1 ∙ ap (λ t. bc.0 ++ t) ab.1 ∙ sym (append_assoc bc.0 ab.0 a))

pub extends-said : (link : ℕ) (acts : List Act) (trace : List Entry) → Extends trace (said link acts trace)
extends-said link [] trace = ([], refl)
extends-said link (act ∷ acts) trace = (record { link = link; act = act } ∷ (extends-said link acts trace).0, ap (λ t. record { link = link; act = act } ∷ t) (extends-said link acts trace).1)
