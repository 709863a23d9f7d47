-- A generated script is spelled by a text, and lets nothing fail.
use Rattle.std.proofs.Common.{◌≡◌, ℕ, zero, suc, ◌+◌, ◌^◌, ◌<◌, ◌≤◌, true, false, List, [], ◌∷◌, ◌++◌, flat_map, codes, get_or, refl, ap, sym, arith, ◌==◌, Some}
use Rattle.std.specs.List.{range_with_len, list_any}
use Rattle.std.specs.Fmt.{decimal, digits}
use Rattle.std.specs.Str.Parse.{AllDigits}
use Rattle.std.proofs.lemmas.Bool.Decides.{nat_tests}
use Rattle.std.proofs.lemmas.Fmt.{decimal_is_IsNumeral}
use Rattle.lt_bytes.specs.Quoting.{quoted}
use Rattle.lt_world.specs.Memory.{is_path}
use Rattle.lt_script.specs.declared.quoting.State.TheVariants.{Plain}
use Rattle.lt_script.specs.declared.script.Step.{Step as StepOf}
use Rattle.lt_script.specs.declared.script.Step.TheVariants as step
use Rattle.lt_script.specs.declared.script.ScriptFile.TheVariants as file
use Rattle.lt_script.specs.declared.lines.Line.{Line}
use Rattle.lt_script.specs.declared.lines.Line.TheVariants.{File, Step}
use Rattle.lt_script.specs.Grammar.{IsQuoted, IsName, IsAccept, IsFill, name_text}
use Rattle.lt_script.specs.Quoting.{unquote}
use Rattle.lt_script.specs.Texts.{AreLines, first, gathered, Spells}
use Rattle.lt_script.specs.Printing.{file_text, with_feed}
use Rattle.lt_script.proofs.Feeds.{feedless, both_feedless, AreFeedless, lines_again}
use Rattle.lt_script.proofs.Quoted.{quoted_takes}
use Rattle.lt_script.proofs.Requoted.{requoted}
use Rattle.script_net.specs.Failing.{makes_fail, IsCalm}
use Rattle.script_gen.specs.Draws.{after, drawn, file_of, piece_of}
use Rattle.script_gen.proofs.Ranges.{drawn_more}
use Rattle.script_gen.specs.Generated.{peer, local, named, request, client, generated}

-- no number is written with a line feed

digits_clean : (digits : List ℕ) → AllDigits 10 digits → feedless digits ≡ true
digits_clean [] each = refl
digits_clean (b ∷ digits) each =
    let other : (b == 10) ≡ false = grind (arith, nat_tests, each.0) in
    rw other (digits_clean digits each.1)

number_clean : (n : ℕ) → n < 2 ^ 64 → feedless (decimal n) ≡ true
number_clean n small = digits_clean (decimal n) (decimal_is_IsNumeral n small).0.1

-- a text that is read back from its quoted form may be quoted so

record Quotes (text : List ℕ) : Type 0 where
  is_quoted : IsQuoted text (quoted text)
  clean : feedless (quoted text) ≡ true

quotes : (text : List ℕ) → unquote (quoted text ++ 34 ∷ []) Plain ≡ Some (text, []) → Quotes text
quotes text read =
    let written = quoted_takes (quoted text ++ 34 ∷ []) (text, []) read in
    let again = requoted text written.0 written.1 in
    record { is_quoted = again.is_quoted; clean = again.clean }

request_quotes : (file : ℕ) → file ≤ 3 → Quotes (request file)
unfolding digits
request_quotes zero few = quotes (request 0) refl
request_quotes (suc zero) few = quotes (request 1) refl
request_quotes (suc (suc zero)) few = quotes (request 2) refl
request_quotes (suc (suc (suc zero))) few = quotes (request 3) refl
request_quotes (suc (suc (suc (suc n)))) few = absurd (omega arith)

-- the lines of a client

name_is : (number : ℕ) → number < 10000 → IsName (named number)
name_is number few = record { client = refl; most = omega (arith, few) }

peer_small : (k : ℕ) → get_or peer.ip k 0 ≤ 255
peer_small zero = omega arith
peer_small (suc zero) = omega arith
peer_small (suc (suc zero)) = omega arith
peer_small (suc (suc (suc zero))) = omega arith
peer_small (suc (suc (suc (suc k)))) = omega arith

local_small : (k : ℕ) → get_or local.ip k 0 ≤ 255
local_small zero = omega arith
local_small (suc zero) = omega arith
local_small (suc (suc zero)) = omega arith
local_small (suc (suc (suc zero))) = omega arith
local_small (suc (suc (suc (suc k)))) = omega arith

accept_is : IsAccept peer local (codes "accept 10.0.0.5:40000 127.0.0.1:80")
unfolding digits
accept_is = record {
  is_peer = record { four = refl; small = peer_small; port = omega arith };
  is_local = record { four = refl; small = local_small; port = omega arith };
  spelled = refl;
}

abbrev data_line : ℕ → ℕ → List ℕ
data_line number draw = codes "data " ++ (name_text (named number) ++ (codes " \"" ++ (quoted (request (file_of draw)) ++ codes "\"")))

abbrev take_line : ℕ → ℕ → List ℕ
take_line number draw = codes "take " ++ (name_text (named number) ++ (codes " " ++ (decimal (piece_of draw) ++ (codes " " ++ decimal 1200))))

abbrev client_lines : ℕ → ℕ → List (List ℕ)
client_lines number draw = codes "accept 10.0.0.5:40000 127.0.0.1:80" ∷ data_line number draw ∷ take_line number draw ∷ []

-- these lines say these steps, and have no line feeds
record Say (lines : List (List ℕ)) (steps : List StepOf) : Type 0 where
  items : List Line
  each : AreLines lines items
  clean : AreFeedless lines
  gives : gathered items ≡ record { files = []; faults = []; steps = steps }

client_say : (number draw : ℕ) (lines : List (List ℕ)) (steps : List StepOf) → number < 10000 → file_of draw ≤ 3 → Say lines steps → Say (client_lines number draw ++ lines) (client number draw ++ steps)
client_say number draw lines steps few file rest =
    let q = request_quotes (file_of draw) file in
    let n = number_clean number (omega (arith, few)) in
    let size : piece_of draw ≤ 4096 = omega arith in
    let one : Line = Step (step.Accept peer local) in
    let two : Line = Step (step.Bytes (named number) (request (file_of draw))) in
    let three : Line = Step (step.Take (named number) (piece_of draw) 1200) in
    record {
      items = one ∷ two ∷ three ∷ rest.items;
      each = (
        accept_is,
        (
          record { quoted = quoted (request (file_of draw)); is_name = name_is number few; is_quoted = q.is_quoted; spelled = refl },
          (
            record { is_name = name_is number few; sized = omega (arith, size); some = omega arith; counted = omega arith; spelled = refl },
            rest.each,
          ),
        ),
      );
      clean = (
        refl,
        (
          both_feedless (name_text (named number)) _ n (both_feedless (quoted (request (file_of draw))) (codes "\"") q.clean refl),
          (
            both_feedless (name_text (named number)) _ n (both_feedless (decimal (piece_of draw)) _ (number_clean (piece_of draw) (omega (arith, size))) (number_clean 1200 (omega arith))),
            rest.clean,
          ),
        ),
      );
      gives = ap (λ s. first one (first two (first three s))) rest.gives;
    }

-- the clients from this number on

abbrev steps_from : ℕ → ℕ → ℕ → List StepOf
steps_from clients at n = flat_map (λ number. client number (drawn clients (number + 1))) (range_with_len at n)

abbrev lines_from : ℕ → ℕ → ℕ → List (List ℕ)
lines_from clients at n = flat_map (λ number. client_lines number (drawn clients (number + 1))) (range_with_len at n)

after_within : (draw : ℕ) → file_of (after draw) ≤ 3
after_within draw = omega arith

file_within : (clients number : ℕ) → file_of (drawn clients (number + 1)) ≤ 3
file_within clients number = omega (arith, ap file_of (drawn_more clients number), after_within (drawn clients number))

clients_say : (clients at n : ℕ) → at + n ≤ 10000 → Say (lines_from clients at n) (steps_from clients at n)
clients_say clients at zero few = record { items = []; each = tt; clean = tt; gives = refl }
clients_say clients at (suc n) few =
    client_say at (drawn clients (at + 1)) (lines_from clients (at + 1) n) (steps_from clients (at + 1) n) (omega (arith, few)) (file_within clients at) (clients_say clients (at + 1) n (omega (arith, few)))

-- the whole text

abbrev all_lines : ℕ → List (List ℕ)
all_lines clients = codes "lighttpd-script 1" ∷ codes "fill \"/srv/f0\" 0 0" ∷ codes "fill \"/srv/f1\" 0 300" ∷ codes "fill \"/srv/f2\" 0 5000" ∷ codes "fill \"/srv/f3\" 0 70000" ∷ lines_from clients 0 clients

fill_is : (path : List ℕ) (size : ℕ) → Quotes path → is_path path ≡ true → size ≤ 70000 → IsFill path 0 size (file_text (file.Fill path 0 size))
fill_is path size q rooted most = record { named = quoted path; rooted = rooted; is_named = q.is_quoted; dated = omega arith; sized = omega (arith, most); spelled = refl }

fills_are : IsFill (codes "/srv/f0") 0 0 (codes "fill \"/srv/f0\" 0 0") × IsFill (codes "/srv/f1") 0 300 (codes "fill \"/srv/f1\" 0 300")
    × IsFill (codes "/srv/f2") 0 5000 (codes "fill \"/srv/f2\" 0 5000") × IsFill (codes "/srv/f3") 0 70000 (codes "fill \"/srv/f3\" 0 70000")
unfolding digits
fills_are = (
  fill_is (codes "/srv/f0") 0 (quotes (codes "/srv/f0") refl) refl (omega arith),
  fill_is (codes "/srv/f1") 300 (quotes (codes "/srv/f1") refl) refl (omega arith),
  fill_is (codes "/srv/f2") 5000 (quotes (codes "/srv/f2") refl) refl (omega arith),
  fill_is (codes "/srv/f3") 70000 (quotes (codes "/srv/f3") refl) refl (omega arith),
)

pub is_spelled : (clients : ℕ) → clients ≤ 10000 → (bytes : List ℕ) × Spells bytes (generated clients)
is_spelled clients few =
    let said = clients_say clients 0 clients (omega (arith, few)) in
    let zeroth : Line = File (file.Fill (codes "/srv/f0") 0 0) in
    let first_one : Line = File (file.Fill (codes "/srv/f1") 0 300) in
    let second : Line = File (file.Fill (codes "/srv/f2") 0 5000) in
    let third : Line = File (file.Fill (codes "/srv/f3") 0 70000) in (
      flat_map with_feed (all_lines clients),
      record {
        lines = _;
        items = zeroth ∷ first_one ∷ second ∷ third ∷ said.items;
        cut = lines_again (all_lines clients) (refl, (refl, (refl, (refl, (refl, said.clean)))));
        each = (fills_are.0, (fills_are.1, (fills_are.2, (fills_are.3, said.each))));
        gives = sym (ap (λ s. first zeroth (first first_one (first second (first third s)))) said.gives);
      },
    )

-- no line makes a read or a write fail

calm_from : (clients at n : ℕ) → list_any makes_fail (steps_from clients at n) ≡ false
calm_from clients at zero = refl
calm_from clients at (suc n) = calm_from clients (at + 1) n

pub is_calm : (clients : ℕ) → IsCalm (generated clients).steps
is_calm clients = calm_from clients 0 clients
