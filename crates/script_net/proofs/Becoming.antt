-- What a link becomes by each act.
use Rattle.std.proofs.Common.{if◌then◌else◌, ◌≡◌, ℕ, zero, suc, ◌-◌, ◌<◌, ◌≤◌, min, Bool, true, false, List, [], ◌∷◌, ◌++◌, length, take, drop, get_or, set, refl, ap, sym, ◌∙◌, arith, append-nil, length-append, length-take, length-drop, Some}
use Rattle.std.proofs.lemmas.List.{take_min, take_all, length-map}
use Rattle.std.proofs.Math.Seq.{drop-append_seam}
use Rattle.lt_world.specs.declared.net.Ending.{Ending}
use Rattle.lt_world.specs.declared.net.Got.{Got}
use Rattle.lt_world.specs.declared.net.Got.TheVariants as got
use Rattle.lt_world.specs.Trace.{Act, Read, Failed, Reading, own}
use Rattle.lt_world.specs.Answers.{read_act, GotWithin}
use Rattle.script_net.specs.declared.notes.Done.{Done}
use Rattle.script_net.specs.declared.notes.Done.TheVariants as done
use Rattle.script_net.specs.declared.links.Links.TheInside.{Inside}
use Rattle.script_net.specs.Sides.{Side, some_read, gives, with_bytes, with_close, with_read}
use Rattle.script_net.specs.Calls.{some_taken}
use Rattle.script_net.specs.PortView.{PortView, kept_at, no_kept}
use Rattle.script_net.specs.Noted.{read_done, write_done}
use Rattle.script_net.specs.Notes.{act_of, trace_of, told_of, fits, IsTold}
use Rattle.lt_world.specs.Acts.{output_of, ending_of}
use Rattle.script_net.specs.LinksView.{LinksView}
use Rattle.script_net.proofs.Noting.{Becomes, PortGrows, begins_all, told_set}

-- a link that is told of is kept
pub kept_there : (a : Inside) (old : LinksView) (link : ℕ) → told_of a ≡ old → link < length old.sides → link < length a.ports.items
kept_there a old link view below = omega (arith, ap (λ (t : LinksView). length t.sides) view, length-map a.ports.items (λ (kept : PortView). kept.side))

-- what is told of the links after one of them became this
pub keeps_set : (a b : Inside) (link : ℕ) (what : Done) (now : PortView) → IsTold a.ports.items a.notes.items → link < length a.ports.items
    → b.ports.items ≡ set a.ports.items link now → b.notes.items ≡ a.notes.items ++ record { link = link; done = what } ∷ []
    → Becomes (kept_at link a.ports.items) what now (own link (trace_of a.ports.items a.notes.items)) → IsTold b.ports.items b.notes.items
keeps_set a b link what now told below ports notes becomes = rw (ports, notes) (told_set a.ports.items a.notes.items link what now told below becomes)

-- the same bytes are kept
pub stays : (kept : PortView) (side : Side) → side.given ≡ kept.side.given → PortGrows kept (record kept { side = side })
stays kept side same = record { given = ([], same ∙ sym (append-nil kept.side.given)); taken = begins_all kept.taken }

pub given_more : (kept : PortView) (bytes : List ℕ) (acts : List Act) → kept.taken ≡ output_of acts → kept.ending ≡ ending_of acts → Becomes kept done.Readable (record kept { side = with_bytes bytes kept.side }) acts
given_more kept bytes acts taken ending = record { grows = record { given = (bytes, refl); taken = begins_all kept.taken }; fit = tt; taken = taken; ending = ending }

-- a link is readable, and its side is another one, to which the same bytes were given
pub side_readable : (kept : PortView) (side : Side) (acts : List Act) → side.given ≡ kept.side.given → kept.taken ≡ output_of acts → kept.ending ≡ ending_of acts
    → Becomes kept done.Readable (record kept { side = side }) acts
side_readable kept side acts same taken ending = record { grows = stays kept side same; fit = tt; taken = taken; ending = ending }

pub side_writable : (kept : PortView) (side : Side) (acts : List Act) → side.given ≡ kept.side.given → kept.taken ≡ output_of acts → kept.ending ≡ ending_of acts
    → Becomes kept done.Writable (record kept { side = side }) acts
side_writable kept side acts same taken ending = record { grows = stays kept side same; fit = tt; taken = taken; ending = ending }

pub given_room : (kept : PortView) (room : ℕ) (acts : List Act) → kept.taken ≡ output_of acts → kept.ending ≡ ending_of acts → Becomes kept done.Writable (record kept { room = room }) acts
given_room kept room acts taken ending =
    record { grows = record { given = begins_all kept.side.given; taken = begins_all kept.taken }; fit = tt; taken = taken; ending = ending }

pub is_closed : (kept : PortView) (ending : Ending) (acts : List Act) → kept.taken ≡ output_of acts
    → Becomes kept (done.Close ending) (record kept { side = with_close kept.side; ending = Some ending }) acts
is_closed kept ending acts taken =
    record { grows = record { given = begins_all kept.side.given; taken = begins_all kept.taken }; fit = tt; taken = taken; ending = refl }

-- a read

record WasRead (asked size : ℕ) (read bytes : List ℕ) : Type 0 where
  asked_is : asked ≡ size
  read_is : read ≡ bytes

read_by : (fails ended : Bool) (asked size : ℕ) (bytes read : List ℕ) → Read asked read ≡ (if fails then Failed Reading else some_read size bytes ended) → WasRead asked size read bytes
read_by true ended asked size bytes read is = absurd (cc is)
read_by false true asked size [] read is = absurd (cc is)
read_by false false asked size [] read is = absurd (cc is)
read_by false ended asked size (byte ∷ bytes) read is = record { asked_is = cc is; read_is = cc is }

record IsNoted (answer : Got) (kept : PortView) (buf : List ℕ) (size at : ℕ) : Type 0 where
  act : act_of (read_done answer size at) kept ≡ read_act answer buf
  fit : fits (read_done answer size at) kept

read_noted : (answer : Got) (kept : PortView) (buf : List ℕ) (size at : ℕ) → length buf ≡ size → at ≡ kept.side.seen → at ≤ length kept.side.given → GotWithin answer size → read_act answer buf ≡ gives size kept.side
    → IsNoted answer kept buf size at
read_noted (got.Bytes n) kept buf size at whole is_seen within some act =
    let rest : List ℕ = drop kept.side.seen kept.side.given in
    let read : take n buf ≡ take size rest = (read_by kept.side.reads_fail kept.side.ended (length buf) size (take size rest) (take n buf) act).read_is in
    let count : n ≡ min size (length rest) = omega (arith, length-take n buf, length-take size rest, ap length read, some.1, whole) in
    let left : length rest ≡ length kept.side.given - kept.side.seen = length-drop kept.side.seen kept.side.given in
    record {
      act = ap (λ (k : ℕ). Read k (take n (drop at kept.side.given))) (sym whole) ∙ ap (λ t. Read (length buf) t) (rw is_seen (ap (λ k. take k rest) count ∙ take_min size rest ∙ sym read));
      fit = omega (arith, count, left, is_seen, within);
    }
read_noted got.End kept buf size at whole is_seen within some act = record { act = refl; fit = tt }
read_noted got.NotYet kept buf size at whole is_seen within some act = record { act = refl; fit = tt }
read_noted got.Failed kept buf size at whole is_seen within some act = record { act = refl; fit = tt }

nothing_taken : (answer : Got) (size at : ℕ) (kept : PortView) (acts : List Act) → output_of (act_of (read_done answer size at) kept ∷ acts) ≡ output_of acts
nothing_taken (got.Bytes n) size at kept acts = refl
nothing_taken got.End size at kept acts = refl
nothing_taken got.NotYet size at kept acts = refl
nothing_taken got.Failed size at kept acts = refl

nothing_closed : (answer : Got) (size at : ℕ) (kept : PortView) (acts : List Act) → ending_of (act_of (read_done answer size at) kept ∷ acts) ≡ ending_of acts
nothing_closed (got.Bytes n) size at kept acts = refl
nothing_closed got.End size at kept acts = refl
nothing_closed got.NotYet size at kept acts = refl
nothing_closed got.Failed size at kept acts = refl

pub read_act_of : (answer : Got) (kept : PortView) (buf : List ℕ) (size at : ℕ) → length buf ≡ size → at ≡ kept.side.seen → at ≤ length kept.side.given → GotWithin answer size → read_act answer buf ≡ gives size kept.side
    → act_of (read_done answer size at) (record kept { side = with_read size kept.side }) ≡ read_act answer buf
read_act_of answer kept buf size at whole is_seen within some act = same answer (read_noted answer kept buf size at whole is_seen within some act).act
  where
    same : (answer : Got) → act_of (read_done answer size at) kept ≡ read_act answer buf → act_of (read_done answer size at) (record kept { side = with_read size kept.side }) ≡ read_act answer buf
    same (got.Bytes n) is = is
    same got.End is = is
    same got.NotYet is = is
    same got.Failed is = is

pub is_read : (answer : Got) (kept : PortView) (buf : List ℕ) (size at : ℕ) (acts : List Act) → length buf ≡ size → at ≡ kept.side.seen → at ≤ length kept.side.given → GotWithin answer size → read_act answer buf ≡ gives size kept.side
    → kept.taken ≡ output_of acts → kept.ending ≡ ending_of acts → Becomes kept (read_done answer size at) (record kept { side = with_read size kept.side }) acts
is_read answer kept buf size at acts whole is_seen within some act taken ending = record {
  grows = stays kept (with_read size kept.side) refl;
  fit = same answer (read_noted answer kept buf size at whole is_seen within some act).fit;
  taken = taken ∙ sym (nothing_taken answer size at (record kept { side = with_read size kept.side }) acts);
  ending = ending ∙ sym (nothing_closed answer size at (record kept { side = with_read size kept.side }) acts);
}
  where
    same : (answer : Got) → fits (read_done answer size at) kept → fits (read_done answer size at) (record kept { side = with_read size kept.side })
    same (got.Bytes n) is = is
    same got.End is = is
    same got.NotYet is = is
    same got.Failed is = is

-- a write

pub write_act_of : (n at : ℕ) (kept : PortView) (bytes : List ℕ) (room : ℕ) → at ≡ length kept.taken
    → act_of (write_done (length bytes) at n) (record kept { taken = kept.taken ++ take n bytes; room = room }) ≡ some_taken n bytes
write_act_of zero at kept bytes room is_at = refl
write_act_of (suc n) at kept bytes room is_at =
    rw (is_at, drop-append_seam kept.taken (take (suc n) bytes), take_all (suc n) (take (suc n) bytes) (omega (arith, length-take (suc n) bytes))) refl

pub is_written : (n at : ℕ) (kept : PortView) (bytes : List ℕ) (room : ℕ) (acts : List Act) → n ≤ length bytes → at ≡ length kept.taken → kept.taken ≡ output_of acts → kept.ending ≡ ending_of acts
    → Becomes kept (write_done (length bytes) at n) (record kept { taken = kept.taken ++ take n bytes; room = room }) acts
is_written zero at kept bytes room acts within is_at taken ending =
    record { grows = record { given = begins_all kept.side.given; taken = ([], refl) }; fit = tt; taken = append-nil kept.taken ∙ taken; ending = ending }
is_written (suc n) at kept bytes room acts within is_at taken ending =
    let piece : take (suc n) (drop at (kept.taken ++ take (suc n) bytes)) ≡ take (suc n) bytes =
    rw (is_at, drop-append_seam kept.taken (take (suc n) bytes), take_all (suc n) (take (suc n) bytes) (omega (arith, length-take (suc n) bytes))) refl in
    record {
      grows = record { given = begins_all kept.side.given; taken = (take (suc n) bytes, refl) };
      fit = omega (arith, is_at, length-append kept.taken (take (suc n) bytes), length-take (suc n) bytes);
      taken = ap (λ t. t ++ take (suc n) bytes) taken ∙ ap (λ t. output_of acts ++ t) (sym piece);
      ending = ending;
    }

-- the link that was read from the list
pub is_kept_at : (ports : List PortView) (link : ℕ) (kept : PortView) → link < length ports → kept ≡ get_or ports link kept → kept ≡ kept_at link ports
is_kept_at ports link kept below is = is ∙ any_default ports link kept no_kept below
  where
    any_default : (ports : List PortView) (link : ℕ) (a b : PortView) → link < length ports → get_or ports link a ≡ get_or ports link b
    any_default [] link a b below = absurd (omega arith)
    any_default (first ∷ ports) zero a b below = refl
    any_default (first ∷ ports) (suc link) a b below = any_default ports link a b (omega arith)

-- what is noted of a link that stays as it was
pub only_noted : (what : Done) (kept : PortView) (acts : List Act) → fits what kept → output_of (act_of what kept ∷ acts) ≡ output_of acts → ending_of (act_of what kept ∷ acts) ≡ ending_of acts
    → kept.taken ≡ output_of acts → kept.ending ≡ ending_of acts → Becomes kept what kept acts
only_noted what kept acts fit takes closes taken ending =
    record { grows = record { given = begins_all kept.side.given; taken = begins_all kept.taken }; fit = fit; taken = taken ∙ sym takes; ending = ending ∙ sym closes }
