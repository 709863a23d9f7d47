-- What deeds of one client, on top of a trace, make of each client's own list.
use Rattle.std.proofs.Common.{◌≡◌, ◌≢◌, ℕ, List, [], ◌∷◌, ◌++◌, Bool, true, false, ◌&&◌, ◌==◌, if◌then◌else◌, refl, sym, ◌∙◌, ap, arith}
use Rattle.std.proofs.lemmas.Bool.Decides.{nat_tests}
use Rattle.lt_world.specs.Acts.{is_deed, deeds_of}
use Rattle.lt_world.specs.Trace.{Act, Entry, own as link_acts, names}
use Rattle.server_model.specs.Deeds.{Deed, Ours, own, ours, told, AreDeeds, deeds_in}

pub own_entry : (client : ℕ) (act : Act) (trace : List Entry) → is_deed act ≡ true → own client (record { link = client; act = act } ∷ trace) ≡ Ours act ∷ own client trace
own_entry client act trace is = grind (arith, nat_tests, is)

and_apart : (b : Bool) (link client : ℕ) → link ≢ client → (b && link == client) ≡ false
and_apart true link client apart = grind (arith, nat_tests, apart)
and_apart false link client apart = refl

pub own_entry_other : (client link : ℕ) (act : Act) (trace : List Entry) → link ≢ client → own client (record { link = link; act = act } ∷ trace) ≡ own client trace
own_entry_other client link act trace apart = ap (λ b. if b then Ours act ∷ own client trace else own client trace) (and_apart (is_deed act) link client apart)

-- its own list gains them
pub own-told : (client : ℕ) (deeds : List Deed) (trace : List Entry) → AreDeeds deeds → own client (told client deeds trace) ≡ deeds ++ own client trace
own-told client [] trace are = refl
own-told client (Ours act ∷ deeds) trace are = own_entry client act (told client deeds trace) are.0 ∙ ap (λ d. Ours act ∷ d) (own-told client deeds trace are.1)

-- every other list stays
pub own-told_other : (other client : ℕ) (deeds : List Deed) (trace : List Entry) → other ≢ client → own other (told client deeds trace) ≡ own other trace
own-told_other other client [] trace apart = refl
own-told_other other client (Ours act ∷ deeds) trace apart = own_entry_other other client act (told client deeds trace) (λ e. apart (sym e)) ∙ own-told_other other client deeds trace apart

-- a link that was never named has no deeds
pub own_unnamed : (link : ℕ) (trace : List Entry) → names link trace ≡ false → own link trace ≡ []
own_unnamed link [] is = refl
own_unnamed link (entry ∷ trace) is =
    let apart : entry.link ≢ link = grind (arith, nat_tests, is) in
    let rest : names link trace ≡ false = grind (arith, nat_tests, is) in
    own_entry_other link entry.link entry.act trace apart ∙ own_unnamed link trace rest

pub told-append : (client : ℕ) (xs ys : List Deed) (trace : List Entry) → told client (xs ++ ys) trace ≡ told client xs (told client ys trace)
told-append client [] ys trace = refl
told-append client (Ours act ∷ xs) ys trace = ap (λ t. record { link = client; act = act } ∷ t) (told-append client xs ys trace)

pub AreDeeds-append : (xs ys : List Deed) → AreDeeds xs → AreDeeds ys → AreDeeds (xs ++ ys)
AreDeeds-append [] ys one two = two
AreDeeds-append (Ours act ∷ xs) ys one two = (one.0, AreDeeds-append xs ys one.1 two)

pub ours-append : (xs ys : List Deed) → ours (xs ++ ys) ≡ ours xs ++ ours ys
ours-append [] ys = refl
ours-append (Ours act ∷ xs) ys = ap (λ a. act ∷ a) (ours-append xs ys)

own_by : (act : Act) (d here : Bool) (deeds : List Deed) (acts : List Act) → is_deed act ≡ d → deeds ≡ deeds_in acts → (if d && here then Ours act ∷ deeds else deeds) ≡ deeds_in (if here then act ∷ acts else acts)
own_by act true true deeds acts is rest = ap (λ l. Ours act ∷ l) rest ∙ ap (λ b. if b then Ours act ∷ deeds_in acts else deeds_in acts) (sym is)
own_by act true false deeds acts is rest = rest
own_by act false true deeds acts is rest = rest ∙ ap (λ b. if b then Ours act ∷ deeds_in acts else deeds_in acts) (sym is)
own_by act false false deeds acts is rest = rest

-- its deeds are those among the acts of its link: nothing else of a trace counts
pub own_is : (client : ℕ) (trace : List Entry) → own client trace ≡ deeds_in (link_acts client trace)
own_is client [] = refl
own_is client (entry ∷ trace) = own_by entry.act (is_deed entry.act) (entry.link == client) (own client trace) (link_acts client trace) refl (own_is client trace)

ours_if : (d : Bool) (act : Act) (rest : List Deed) → ours (if d then Ours act ∷ rest else rest) ≡ (if d then act ∷ ours rest else ours rest)
ours_if true act rest = refl
ours_if false act rest = refl

ours_in : (acts : List Act) → ours (deeds_in acts) ≡ deeds_of acts
ours_in [] = refl
ours_in (act ∷ acts) = ours_if (is_deed act) act (deeds_in acts) ∙ ap (λ l. if is_deed act then act ∷ l else l) (ours_in acts)

-- as acts they are the deeds of its link
pub ours_are : (client : ℕ) (trace : List Entry) → ours (own client trace) ≡ deeds_of (link_acts client trace)
ours_are client trace = ap ours (own_is client trace) ∙ ours_in (link_acts client trace)
