-- A line of the grammar is read.
use Rattle.std.proofs.Common.{◌≡◌, ℕ, ◌≤◌, Bool, false, List, [], ◌∷◌, ◌++◌, length, get_or, refl, ap, sym, ◌∙◌, Some, codes, inl, inr, arith, append-nil, append_assoc}
use Rattle.std.specs.Fmt.{decimal}
use Rattle.lt_world.specs.declared.net.Address.{Address}
use Rattle.lt_script.specs.declared.script.Name.{Name}
use Rattle.lt_script.specs.declared.script.Step.TheVariants as step
use Rattle.lt_script.specs.declared.script.ScriptFile.TheVariants as file
use Rattle.lt_script.specs.declared.script.ScriptFault.{ScriptFault}
use Rattle.lt_script.specs.declared.script.FaultCall.{FaultCall}
use Rattle.lt_script.specs.declared.script.FaultCall.TheVariants as call
use Rattle.lt_script.specs.declared.limits.TheConstants.{NAME_LIMIT, TIME_LIMIT, FILL_LIMIT, POUR_LIMIT, TAKE_LIMIT, COUNT_LIMIT, FAULT_LIMIT}
use Rattle.lt_script.specs.declared.lines.Line.{Line}
use Rattle.lt_script.specs.declared.lines.Line.TheVariants.{Skip, File, Fault, Step}
use Rattle.lt_script.specs.Fields.{digits_len, number_at, name_at, address_at, octet_at, end_at}
use Rattle.lt_script.specs.Lines.{line_of, plain_of, accept_of, data_of, pour_of, end_of, ready_of, read_fail_of, take_of, write_fail_of, nth_of, fault_of, file_of, fill_of, dir_of}
use Rattle.lt_script.specs.Grammar.{name_text, IsName, address_text, IsAddress, IsLine, IsAccept, IsData, IsPour, IsEnd, IsReady, IsReadFail, IsTake, IsWriteFail, IsFault, call_text, IsFile, IsFill, IsDir}
use Rattle.lt_script.proofs.Numbers.{number_again, last_number}
use Rattle.lt_script.proofs.Quoted.{quoted_again}

named_by : (gate : Bool) (number : ℕ) → gate ≡ false → let name : Name = record { gate = false; number = number } in name ≡ record { gate = gate; number = number }
named_by gate number client = ap (λ g. let name : Name = record { gate = g; number = number } in name) (sym client)

name_again : (name : Name) (rest : List ℕ) → IsName name → digits_len rest ≡ 0 → name_at (name_text name ++ rest) ≡ Some (name, rest)
unfolding name_at
name_again name rest is stops =
    rw (number_again 0 NAME_LIMIT name.number rest (omega arith) is.most (omega arith) stops)
    (ap (λ (n : Name). Some (n, rest)) (named_by name.gate name.number is.client))

last_name : (name : Name) → IsName name → name_at (name_text name) ≡ Some (name, [])
last_name name is = ap name_at (sym (append-nil (name_text name))) ∙ name_again name [] is refl

four_is : (ip : List ℕ) → length ip ≡ 4 → get_or ip 0 0 ∷ get_or ip 1 0 ∷ get_or ip 2 0 ∷ get_or ip 3 0 ∷ [] ≡ ip
four_is (a ∷ b ∷ c ∷ d ∷ []) four = refl
four_is [] four = absurd (omega arith)
four_is (a ∷ []) four = absurd (omega arith)
four_is (a ∷ b ∷ []) four = absurd (omega arith)
four_is (a ∷ b ∷ c ∷ []) four = absurd (omega arith)
four_is (a ∷ b ∷ c ∷ d ∷ e ∷ ip) four = absurd (omega arith)

octet_again : (address : Address) (k : ℕ) (rest : List ℕ) → IsAddress address → digits_len rest ≡ 0 → number_at 0 255 (decimal (get_or address.ip k 0) ++ rest) ≡ Some (get_or address.ip k 0, rest)
octet_again address k rest is stops = number_again 0 255 (get_or address.ip k 0) rest (omega arith) (is.small k) (omega arith) stops

address_again : (address : Address) (rest : List ℕ) → IsAddress address → digits_len rest ≡ 0 → address_at (address_text address ++ rest) ≡ Some (address, rest)
unfolding address_at octet_at end_at
address_again address rest is stops =
    let d = codes ":" ++ (decimal address.port ++ rest) in
    let c = codes "." ++ (decimal (get_or address.ip 3 0) ++ d) in
    let b = codes "." ++ (decimal (get_or address.ip 2 0) ++ c) in
    let a = codes "." ++ (decimal (get_or address.ip 1 0) ++ b) in
    simp append_assoc (rw (octet_again address 0 a is refl)
    (rw (octet_again address 1 b is refl)
    (rw (octet_again address 2 c is refl)
    (rw (octet_again address 3 d is refl)
    (rw (number_again 0 65535 address.port rest (omega arith) is.port (omega arith) stops)
    (rw (four_is address.ip is.four) refl))))))

last_address : (address : Address) → IsAddress address → address_at (address_text address) ≡ Some (address, [])
last_address address is = ap address_at (sym (append-nil (address_text address))) ∙ address_again address [] is refl

accept_again : (peer local : Address) (bytes : List ℕ) → IsAccept peer local bytes → line_of bytes ≡ Some (Step (step.Accept peer local))
unfolding line_of plain_of accept_of
accept_again peer local bytes line = rw line.spelled (rw (address_again peer (codes " " ++ address_text local) line.is_peer refl) (rw (last_address local line.is_local) refl))

data_again : (link : Name) (text bytes : List ℕ) → IsData link text bytes → line_of bytes ≡ Some (Step (step.Bytes link text))
unfolding line_of data_of
data_again link text bytes line = rw line.spelled (rw (name_again link (codes " \"" ++ (line.quoted ++ codes "\"")) line.is_name refl) (rw (quoted_again text line.quoted [] line.is_quoted) refl))

pour_again : (link : Name) (size : ℕ) (bytes : List ℕ) → IsPour link size bytes → line_of bytes ≡ Some (Step (step.Pour link size))
unfolding line_of plain_of pour_of
pour_again link size bytes line =
    rw line.spelled (rw (name_again link (codes " " ++ decimal size) line.is_name refl) (rw (last_number 1 POUR_LIMIT size line.some line.sized (omega arith)) refl))

end_again : (link : Name) (bytes : List ℕ) → IsEnd link bytes → line_of bytes ≡ Some (Step (step.End link))
unfolding line_of plain_of end_of
end_again link bytes line = rw line.spelled (rw (last_name link line.is_name) refl)

ready_again : (link : Name) (count : ℕ) (bytes : List ℕ) → IsReady link count bytes → line_of bytes ≡ Some (Step (step.Ready link count))
unfolding line_of plain_of ready_of
ready_again link count bytes line =
    rw line.spelled (rw (name_again link (codes " " ++ decimal count) line.is_name refl) (rw (last_number 1 COUNT_LIMIT count line.some line.counted (omega arith)) refl))

read_fail_again : (link : Name) (bytes : List ℕ) → IsReadFail link bytes → line_of bytes ≡ Some (Step (step.ReadFail link))
unfolding line_of plain_of read_fail_of
read_fail_again link bytes line = rw line.spelled (rw (last_name link line.is_name) refl)

write_fail_again : (link : Name) (bytes : List ℕ) → IsWriteFail link bytes → line_of bytes ≡ Some (Step (step.WriteFail link))
unfolding line_of plain_of write_fail_of
write_fail_again link bytes line = rw line.spelled (rw (last_name link line.is_name) refl)

idle_again : (bytes : List ℕ) → bytes ≡ codes "idle" → line_of bytes ≡ Some (Step step.Idle)
unfolding line_of plain_of
idle_again bytes is = rw is refl

take_again : (link : Name) (size count : ℕ) (bytes : List ℕ) → IsTake link size count bytes → line_of bytes ≡ Some (Step (step.Take link size count))
unfolding line_of plain_of take_of
take_again link size count bytes line =
    rw line.spelled (rw (name_again link (codes " " ++ (decimal size ++ (codes " " ++ decimal count))) line.is_name refl)
    (rw (number_again 0 TAKE_LIMIT size (codes " " ++ decimal count) (omega arith) line.sized (omega arith) refl)
    (rw (last_number 1 COUNT_LIMIT count line.some line.counted (omega arith)) refl)))

file_again : (path : List ℕ) (time : ℕ) (text bytes : List ℕ) → IsFile path time text bytes → line_of bytes ≡ Some (File (file.Bytes path time text))
unfolding line_of file_of
file_again path time text bytes line =
    rw line.spelled (rw (quoted_again path line.named (codes " " ++ (decimal time ++ (codes " \"" ++ (line.quoted ++ codes "\"")))) line.is_named)
    (rw (number_again 0 TIME_LIMIT time (codes " \"" ++ (line.quoted ++ codes "\"")) (omega arith) line.dated (omega arith) refl)
    (rw (quoted_again text line.quoted [] line.is_quoted) (rw line.rooted refl))))

fill_again : (path : List ℕ) (time size : ℕ) (bytes : List ℕ) → IsFill path time size bytes → line_of bytes ≡ Some (File (file.Fill path time size))
unfolding line_of fill_of
fill_again path time size bytes line =
    rw line.spelled (rw (quoted_again path line.named (codes " " ++ (decimal time ++ (codes " " ++ decimal size))) line.is_named)
    (rw (number_again 0 TIME_LIMIT time (codes " " ++ decimal size) (omega arith) line.dated (omega arith) refl)
    (rw (last_number 0 FILL_LIMIT size (omega arith) line.sized (omega arith)) (rw line.rooted refl))))

dir_again : (path bytes : List ℕ) → IsDir path bytes → line_of bytes ≡ Some (File (file.Dir path))
unfolding line_of dir_of
dir_again path bytes line = rw line.spelled (rw (quoted_again path line.named [] line.is_named) (rw line.rooted refl))

nth_again : (which : FaultCall) (nth : ℕ) → nth ≤ FAULT_LIMIT → nth_of which (decimal nth) ≡ Some (Fault (record { call = which; nth = nth }))
unfolding nth_of
nth_again which nth most = rw (last_number 0 FAULT_LIMIT nth (omega arith) most (omega arith)) refl

-- each kind is told from those before it
call_again : (which : FaultCall) (nth : ℕ) → nth ≤ FAULT_LIMIT → fault_of (call_text which ++ (codes " " ++ decimal nth)) ≡ Some (Fault (record { call = which; nth = nth }))
unfolding fault_of
call_again call.Connect nth most = nth_again call.Connect nth most
call_again call.Find nth most = nth_again call.Find nth most
call_again call.Open nth most = nth_again call.Open nth most
call_again call.File nth most = nth_again call.File nth most
call_again call.Listen nth most = nth_again call.Listen nth most
call_again call.Wait nth most = nth_again call.Wait nth most

fault_again : (fault : ScriptFault) (bytes : List ℕ) → IsFault fault bytes → line_of bytes ≡ Some (Fault fault)
unfolding line_of plain_of
fault_again fault bytes line = rw line.spelled (call_again fault.call fault.nth line.most)

pub line_again : (line : Line) (bytes : List ℕ) → IsLine line bytes → line_of bytes ≡ Some line
unfolding line_of plain_of
line_again (Step (step.Accept peer local)) bytes is = accept_again peer local bytes is
line_again (Step (step.Bytes link text)) bytes is = data_again link text bytes is
line_again (Step (step.Pour link size)) bytes is = pour_again link size bytes is
line_again (Step (step.End link)) bytes is = end_again link bytes is
line_again (Step (step.Ready link count)) bytes is = ready_again link count bytes is
line_again (Step (step.ReadFail link)) bytes is = read_fail_again link bytes is
line_again (Step (step.WriteFail link)) bytes is = write_fail_again link bytes is
line_again (Step step.Idle) bytes is = idle_again bytes is
line_again (Step (step.Take link size count)) bytes is = take_again link size count bytes is
line_again (Fault fault) bytes is = fault_again fault bytes is
line_again (File (file.Bytes path time text)) bytes is = file_again path time text bytes is
line_again (File (file.Fill path time size)) bytes is = fill_again path time size bytes is
line_again (File (file.Dir path)) bytes is = dir_again path bytes is
line_again Skip bytes (inl is) = rw is refl
line_again Skip bytes (inr is) = rw is.1 refl
