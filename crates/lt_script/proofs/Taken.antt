-- A line that is read is in the grammar.
use Rattle.std.proofs.Common.{◌≡◌, ℕ, suc, zero, ◌≤◌, Bool, true, false, List, [], ◌∷◌, ◌++◌, get_or, refl, ap, sym, subst, ◌∙◌, arith, append-nil, append_assoc, Option, Some, None, option_and_then, codes, inl, inr, if◌then◌else◌}
use Rattle.std.specs.Fmt.{decimal}
use Rattle.std.proofs.lemmas.Option.{same_Some}
use Rattle.lt_world.specs.declared.net.Address.{Address}
use Rattle.lt_world.specs.Memory.{is_path}
use Rattle.lt_script.specs.declared.script.Name.{Name}
use Rattle.lt_script.specs.declared.script.Step.TheVariants as step
use Rattle.lt_script.specs.declared.script.ScriptFile.TheVariants as file
use Rattle.lt_script.specs.declared.script.FaultCall.{FaultCall}
use Rattle.lt_script.specs.declared.script.FaultCall.TheVariants as call
use Rattle.lt_script.specs.declared.limits.TheConstants.{NAME_LIMIT, TIME_LIMIT, FILL_LIMIT, POUR_LIMIT, TAKE_LIMIT, COUNT_LIMIT, FAULT_LIMIT}
use Rattle.lt_script.specs.declared.lines.Line.{Line}
use Rattle.lt_script.specs.declared.lines.Line.TheVariants.{Skip, File, Fault, Step}
use Rattle.lt_script.specs.declared.quoting.State.TheVariants.{Plain}
use Rattle.lt_script.specs.Quoting.{unquote}
use Rattle.lt_script.specs.Fields.{number_at, name_at, address_at, octet_at, end_at, after}
use Rattle.lt_script.specs.Lines.{line_of, plain_of, ended, on, accept_of, data_of, pour_of, end_of, ready_of, read_fail_of, take_of, write_fail_of, nth_of, fault_of, file_of, fill_of, dir_of}
use Rattle.lt_script.specs.Grammar.{name_text, IsName, address_text, IsAddress, call_text, IsLine}
use Rattle.lt_script.proofs.Fronts.{after_takes}
use Rattle.lt_script.proofs.Numbers.{number_takes}
use Rattle.lt_script.proofs.Quoted.{quoted_takes}

bound : {A B : Type 0} (o : Option A) (f : A → Option B) (y : B) → option_and_then f o ≡ Some y → (x : A) × (o ≡ Some x) × (f x ≡ Some y)
bound None f y some = absurd (cc some)
bound (Some x) f y some = (x, refl, some)

ended_takes : (rest : List ℕ) (line said : Line) → ended rest line ≡ Some said → (rest ≡ []) × (line ≡ said)
ended_takes [] line said some = (refl, cc some)
ended_takes (b ∷ rest) line said some = absurd (cc some)

path_by : (t : Bool) (o : Option Line) (said : Line) → (if t then o else None) ≡ Some said → (t ≡ true) × (o ≡ Some said)
path_by true o said some = (refl, some)
path_by false o said some = absurd (cc some)

-- names

record ReadsName (bytes : List ℕ) (x : Name × List ℕ) : Type 0 where
  is : IsName x.0
  spelled : bytes ≡ name_text x.0 ++ x.1

name_takes : (bytes : List ℕ) (x : Name × List ℕ) → name_at bytes ≡ Some x → ReadsName bytes x
unfolding name_at
name_takes bytes x some =
    let r = bound (after (codes "c") bytes) _ x some in
    let n = bound (number_at 0 NAME_LIMIT r.0) _ x r.2 in
    let w = number_takes 0 NAME_LIMIT r.0 n.0 n.1 in
    let same : (record { gate = false; number = n.0.0 }, n.0.1) ≡ x = same_Some _ _ n.2 in
    subst (λ (y : Name × List ℕ). ReadsName bytes y) same
    (record { is = record { client = refl; most = w.high }; spelled = after_takes (codes "c") bytes r.0 r.1 ∙ ap (λ t. codes "c" ++ t) w.spelled })

-- addresses

regroup : (a b c d e r : List ℕ) → (a ++ (codes "." ++ (b ++ (codes "." ++ (c ++ (codes "." ++ (d ++ (codes ":" ++ e)))))))) ++ r
    ≡ a ++ (codes "." ++ (b ++ (codes "." ++ (c ++ (codes "." ++ (d ++ (codes ":" ++ (e ++ r))))))))
regroup a b c d e r = simp append_assoc

record ReadsOctet (bytes : List ℕ) (x : ℕ × List ℕ) : Type 0 where
  spelled : bytes ≡ decimal x.0 ++ (codes "." ++ x.1)
  small : x.0 ≤ 255

octet_takes : (bytes : List ℕ) (x : ℕ × List ℕ) → octet_at bytes ≡ Some x → ReadsOctet bytes x
unfolding octet_at
octet_takes bytes x some =
    let a = bound (number_at 0 255 bytes) _ x some in
    let w = number_takes 0 255 bytes a.0 a.1 in
    let r = bound (after (codes ".") a.0.1) _ x a.2 in
    let same : (a.0.0, r.0) ≡ x = same_Some _ _ r.2 in
    subst (λ (z : ℕ × List ℕ). ReadsOctet bytes z) same
    (record { spelled = w.spelled ∙ ap (λ r. decimal a.0.0 ++ r) (after_takes (codes ".") a.0.1 r.0 r.1); small = w.high })

record ReadsEnd (bytes : List ℕ) (x : (ℕ × ℕ) × List ℕ) : Type 0 where
  spelled : bytes ≡ decimal x.0.0 ++ (codes ":" ++ (decimal x.0.1 ++ x.1))
  small : x.0.0 ≤ 255
  port : x.0.1 ≤ 65535

end_takes_of : (bytes : List ℕ) (x : (ℕ × ℕ) × List ℕ) → end_at bytes ≡ Some x → ReadsEnd bytes x
unfolding end_at
end_takes_of bytes x some =
    let a = bound (number_at 0 255 bytes) _ x some in
    let w = number_takes 0 255 bytes a.0 a.1 in
    let r = bound (after (codes ":") a.0.1) _ x a.2 in
    let p = bound (number_at 0 65535 r.0) _ x r.2 in
    let v = number_takes 0 65535 r.0 p.0 p.1 in
    let same : ((a.0.0, p.0.0), p.0.1) ≡ x = same_Some _ _ p.2 in
    subst (λ (z : (ℕ × ℕ) × List ℕ). ReadsEnd bytes z) same
    (record { spelled = w.spelled ∙ ap (λ r. decimal a.0.0 ++ r) (after_takes (codes ":") a.0.1 r.0 r.1 ∙ ap (λ r. codes ":" ++ r) v.spelled); small = w.high; port = v.high })

small_parts : (a b c d : ℕ) → a ≤ 255 → b ≤ 255 → c ≤ 255 → d ≤ 255 → (k : ℕ) → get_or (a ∷ b ∷ c ∷ d ∷ []) k 0 ≤ 255
small_parts a b c d ha hb hc hd zero = ha
small_parts a b c d ha hb hc hd (suc zero) = hb
small_parts a b c d ha hb hc hd (suc (suc zero)) = hc
small_parts a b c d ha hb hc hd (suc (suc (suc zero))) = hd
small_parts a b c d ha hb hc hd (suc (suc (suc (suc k)))) = omega arith

record ReadsAddress (bytes : List ℕ) (x : Address × List ℕ) : Type 0 where
  is : IsAddress x.0
  spelled : bytes ≡ address_text x.0 ++ x.1

address_made : (bytes ra rb rc rest : List ℕ) (a b c d port : ℕ) → ReadsOctet bytes (a, ra) → ReadsOctet ra (b, rb) → ReadsOctet rb (c, rc) → ReadsEnd rc ((d, port), rest)
    → ReadsAddress bytes (record { ip = a ∷ b ∷ c ∷ d ∷ []; port = port }, rest)
address_made bytes ra rb rc rest a b c d port wa wb wc wd = record {
  is = record { four = refl; small = small_parts a b c d wa.small wb.small wc.small wd.small; port = wd.port };
  spelled = rw (regroup (decimal a) (decimal b) (decimal c) (decimal d) (decimal port) rest)
      (wa.spelled ∙ ap (λ r. decimal a ++ (codes "." ++ r)) (wb.spelled ∙ ap (λ r. decimal b ++ (codes "." ++ r)) (wc.spelled ∙ ap (λ r. decimal c ++ (codes "." ++ r)) wd.spelled)));
}

address_takes : (bytes : List ℕ) (x : Address × List ℕ) → address_at bytes ≡ Some x → ReadsAddress bytes x
unfolding address_at
address_takes bytes x some =
    let a = bound (octet_at bytes) _ x some in
    let b = bound (octet_at a.0.1) _ x a.2 in
    let c = bound (octet_at b.0.1) _ x b.2 in
    let d = bound (end_at c.0.1) _ x c.2 in
    let same : (record { ip = a.0.0 ∷ b.0.0 ∷ c.0.0 ∷ d.0.0.0 ∷ []; port = d.0.0.1 }, d.0.1) ≡ x = same_Some _ _ d.2 in
    subst (λ (z : Address × List ℕ). ReadsAddress bytes z) same
    (address_made bytes a.0.1 b.0.1 c.0.1 d.0.1 a.0.0 b.0.0 c.0.0 d.0.0.0 d.0.0.1 (octet_takes bytes a.0 a.1) (octet_takes a.0.1 b.0 b.1) (octet_takes b.0.1 c.0 c.1) (end_takes_of c.0.1 d.0 d.1))

-- lines

accept_takes : (bytes : List ℕ) (said : Line) → accept_of bytes ≡ Some said → IsLine said (codes "accept " ++ bytes)
unfolding accept_of
accept_takes bytes said some =
    let v0 = bound (address_at bytes) _ said some in
    let w0 = address_takes bytes v0.0 v0.1 in
    let v1 = bound (after (codes " ") v0.0.1) _ said v0.2 in
    let v2 = bound (address_at v1.0) _ said v1.2 in
    let w2 = address_takes v1.0 v2.0 v2.1 in
    let e = ended_takes v2.0.1 (Step (step.Accept v0.0.0 v2.0.0)) said v2.2 in
    subst (λ (l : Line). IsLine l (codes "accept " ++ bytes)) e.1 (record {
      is_peer = w0.is;
      is_local = w2.is;
      spelled = ap (λ r. codes "accept " ++ r) (w0.spelled ∙ ap (λ r. address_text v0.0.0 ++ r) (after_takes (codes " ") v0.0.1 v1.0 v1.1
          ∙ ap (λ r. codes " " ++ r) (w2.spelled ∙ ap (λ r. address_text v2.0.0 ++ r) e.0 ∙ append-nil (address_text v2.0.0))));
    })

data_takes : (bytes : List ℕ) (said : Line) → data_of bytes ≡ Some said → IsLine said (codes "data " ++ bytes)
unfolding data_of
data_takes bytes said some =
    let v0 = bound (name_at bytes) _ said some in
    let w0 = name_takes bytes v0.0 v0.1 in
    let v1 = bound (after (codes " \"") v0.0.1) _ said v0.2 in
    let v2 = bound (unquote v1.0 Plain) _ said v1.2 in
    let w2 = quoted_takes v1.0 v2.0 v2.1 in
    let e = ended_takes v2.0.1 (Step (step.Bytes v0.0.0 v2.0.0)) said v2.2 in
    subst (λ (l : Line). IsLine l (codes "data " ++ bytes)) e.1 (record {
      quoted = w2.0;
      is_name = w0.is;
      is_quoted = w2.1;
      spelled = ap (λ r. codes "data " ++ r) (w0.spelled ∙ ap (λ r. name_text v0.0.0 ++ r) (after_takes (codes " \"") v0.0.1 v1.0 v1.1
          ∙ ap (λ r. codes " \"" ++ r) (w2.2 ∙ ap (λ r. w2.0 ++ r) (ap (λ r. codes "\"" ++ r) e.0))));
    })

-- a link, and nothing more
record NamesOne (make : Name → Line) (bytes : List ℕ) (said : Line) : Type 0 where
  link : Name
  is_name : IsName link
  says : make link ≡ said
  spelled : bytes ≡ name_text link

one_name : (make : Name → Line) (bytes : List ℕ) (said : Line) → option_and_then (λ x. ended x.1 (make x.0)) (name_at bytes) ≡ Some said → NamesOne make bytes said
one_name make bytes said some =
    let v = bound (name_at bytes) (λ x. ended x.1 (make x.0)) said some in
    let w = name_takes bytes v.0 v.1 in
    let e = ended_takes v.0.1 (make v.0.0) said v.2 in
    record { link = v.0.0; is_name = w.is; says = e.1; spelled = w.spelled ∙ ap (λ r. name_text v.0.0 ++ r) e.0 ∙ append-nil (name_text v.0.0) }

-- a link and a number, and nothing more
record NamesCount (least most : ℕ) (make : Name → ℕ → Line) (bytes : List ℕ) (said : Line) : Type 0 where
  link : Name
  count : ℕ
  is_name : IsName link
  low : least ≤ count
  high : count ≤ most
  says : make link count ≡ said
  spelled : bytes ≡ name_text link ++ (codes " " ++ decimal count)

one_count : (least most : ℕ) (make : Name → ℕ → Line) (bytes : List ℕ) (said : Line)
    → option_and_then (λ x. option_and_then (λ gap. option_and_then (λ n. ended n.1 (make x.0 n.0)) (number_at least most gap)) (after (codes " ") x.1)) (name_at bytes) ≡ Some said
    → NamesCount least most make bytes said
one_count least most make bytes said some =
    let v0 = bound (name_at bytes) _ said some in
    let w0 = name_takes bytes v0.0 v0.1 in
    let v1 = bound (after (codes " ") v0.0.1) _ said v0.2 in
    let v2 = bound (number_at least most v1.0) _ said v1.2 in
    let w2 = number_takes least most v1.0 v2.0 v2.1 in
    let e = ended_takes v2.0.1 (make v0.0.0 v2.0.0) said v2.2 in
    record {
      link = v0.0.0;
      count = v2.0.0;
      is_name = w0.is;
      low = w2.low;
      high = w2.high;
      says = e.1;
      spelled = w0.spelled ∙ ap (λ r. name_text v0.0.0 ++ r) (after_takes (codes " ") v0.0.1 v1.0 v1.1
          ∙ ap (λ r. codes " " ++ r) (w2.spelled ∙ ap (λ r. decimal v2.0.0 ++ r) e.0 ∙ append-nil (decimal v2.0.0)));
    }

end_takes : (bytes : List ℕ) (said : Line) → end_of bytes ≡ Some said → IsLine said (codes "end " ++ bytes)
unfolding end_of
end_takes bytes said some =
    let n = one_name (λ link. Step (step.End link)) bytes said some in
    subst (λ (l : Line). IsLine l (codes "end " ++ bytes)) n.says (record { is_name = n.is_name; spelled = ap (λ r. codes "end " ++ r) n.spelled })

read_fail_takes : (bytes : List ℕ) (said : Line) → read_fail_of bytes ≡ Some said → IsLine said (codes "rfail " ++ bytes)
unfolding read_fail_of
read_fail_takes bytes said some =
    let n = one_name (λ link. Step (step.ReadFail link)) bytes said some in
    subst (λ (l : Line). IsLine l (codes "rfail " ++ bytes)) n.says (record { is_name = n.is_name; spelled = ap (λ r. codes "rfail " ++ r) n.spelled })

write_fail_takes : (bytes : List ℕ) (said : Line) → write_fail_of bytes ≡ Some said → IsLine said (codes "wfail " ++ bytes)
unfolding write_fail_of
write_fail_takes bytes said some =
    let n = one_name (λ link. Step (step.WriteFail link)) bytes said some in
    subst (λ (l : Line). IsLine l (codes "wfail " ++ bytes)) n.says (record { is_name = n.is_name; spelled = ap (λ r. codes "wfail " ++ r) n.spelled })

pour_takes : (bytes : List ℕ) (said : Line) → pour_of bytes ≡ Some said → IsLine said (codes "pour " ++ bytes)
unfolding pour_of
pour_takes bytes said some =
    let n = one_count 1 POUR_LIMIT (λ link size. Step (step.Pour link size)) bytes said some in
    subst (λ (l : Line). IsLine l (codes "pour " ++ bytes)) n.says (record { is_name = n.is_name; some = n.low; sized = n.high; spelled = ap (λ r. codes "pour " ++ r) n.spelled })

ready_takes : (bytes : List ℕ) (said : Line) → ready_of bytes ≡ Some said → IsLine said (codes "ready " ++ bytes)
unfolding ready_of
ready_takes bytes said some =
    let n = one_count 1 COUNT_LIMIT (λ link count. Step (step.Ready link count)) bytes said some in
    subst (λ (l : Line). IsLine l (codes "ready " ++ bytes)) n.says (record { is_name = n.is_name; some = n.low; counted = n.high; spelled = ap (λ r. codes "ready " ++ r) n.spelled })

idle_takes : (bytes : List ℕ) (said : Line) → ended bytes (Step step.Idle) ≡ Some said → IsLine said (codes "idle" ++ bytes)
idle_takes bytes said some =
    let e = ended_takes bytes (Step step.Idle) said some in
    subst (λ (l : Line). IsLine l (codes "idle" ++ bytes)) e.1 (ap (λ r. codes "idle" ++ r) e.0)

take_takes : (bytes : List ℕ) (said : Line) → take_of bytes ≡ Some said → IsLine said (codes "take " ++ bytes)
unfolding take_of
take_takes bytes said some =
    let v0 = bound (name_at bytes) _ said some in
    let w0 = name_takes bytes v0.0 v0.1 in
    let v1 = bound (after (codes " ") v0.0.1) _ said v0.2 in
    let v2 = bound (number_at 0 TAKE_LIMIT v1.0) _ said v1.2 in
    let w2 = number_takes 0 TAKE_LIMIT v1.0 v2.0 v2.1 in
    let v3 = bound (after (codes " ") v2.0.1) _ said v2.2 in
    let v4 = bound (number_at 1 COUNT_LIMIT v3.0) _ said v3.2 in
    let w4 = number_takes 1 COUNT_LIMIT v3.0 v4.0 v4.1 in
    let e = ended_takes v4.0.1 (Step (step.Take v0.0.0 v2.0.0 v4.0.0)) said v4.2 in
    subst (λ (l : Line). IsLine l (codes "take " ++ bytes)) e.1 (record {
      is_name = w0.is;
      sized = w2.high;
      some = w4.low;
      counted = w4.high;
      spelled = ap (λ r. codes "take " ++ r) (w0.spelled ∙ ap (λ r. name_text v0.0.0 ++ r) (after_takes (codes " ") v0.0.1 v1.0 v1.1
          ∙ ap (λ r. codes " " ++ r) (w2.spelled ∙ ap (λ r. decimal v2.0.0 ++ r) (after_takes (codes " ") v2.0.1 v3.0 v3.1
          ∙ ap (λ r. codes " " ++ r) (w4.spelled ∙ ap (λ r. decimal v4.0.0 ++ r) e.0 ∙ append-nil (decimal v4.0.0))))));
    })

-- the number of a call, and nothing more
record NamesCall (which : FaultCall) (bytes : List ℕ) (said : Line) : Type 0 where
  nth : ℕ
  most : nth ≤ FAULT_LIMIT
  says : Fault (record { call = which; nth = nth }) ≡ said
  spelled : bytes ≡ decimal nth

nth_takes : (which : FaultCall) (bytes : List ℕ) (said : Line) → nth_of which bytes ≡ Some said → NamesCall which bytes said
unfolding nth_of
nth_takes which bytes said some =
    let v = bound (number_at 0 FAULT_LIMIT bytes) _ said some in
    let w = number_takes 0 FAULT_LIMIT bytes v.0 v.1 in
    let e = ended_takes v.0.1 (Fault (record { call = which; nth = v.0.0 })) said v.2 in
    record { nth = v.0.0; most = w.high; says = e.1; spelled = w.spelled ∙ ap (λ r. decimal v.0.0 ++ r) e.0 ∙ append-nil (decimal v.0.0) }

call_takes : (o : Option (List ℕ)) (which : FaultCall) (other : Option Line) (front bytes : List ℕ) (said : Line) → after front bytes ≡ o → front ≡ call_text which ++ codes " "
    → on o (nth_of which) other ≡ Some said → (other ≡ Some said → IsLine said (codes "fault " ++ bytes)) → IsLine said (codes "fault " ++ bytes)
call_takes None which other front bytes said has is some there = there some
call_takes (Some rest) which other front bytes said has is some there =
    let n = nth_takes which rest said some in
    subst (λ (l : Line). IsLine l (codes "fault " ++ bytes)) n.says (record {
      most = n.most;
      spelled = ap (λ r. codes "fault " ++ r) (after_takes front bytes rest has ∙ ap (λ f. f ++ rest) is ∙ append_assoc (call_text which) (codes " ") rest
          ∙ ap (λ r. call_text which ++ (codes " " ++ r)) n.spelled);
    })

fault_takes : (bytes : List ℕ) (said : Line) → fault_of bytes ≡ Some said → IsLine said (codes "fault " ++ bytes)
unfolding fault_of
fault_takes bytes said some =
    call_takes (after (codes "connect ") bytes) call.Connect _ (codes "connect ") bytes said refl refl some (λ some.
    call_takes (after (codes "find ") bytes) call.Find _ (codes "find ") bytes said refl refl some (λ some.
    call_takes (after (codes "open ") bytes) call.Open _ (codes "open ") bytes said refl refl some (λ some.
    call_takes (after (codes "file ") bytes) call.File _ (codes "file ") bytes said refl refl some (λ some.
    call_takes (after (codes "listen ") bytes) call.Listen _ (codes "listen ") bytes said refl refl some (λ some.
    call_takes (after (codes "wait ") bytes) call.Wait _ (codes "wait ") bytes said refl refl some (λ some. absurd (cc some)))))))

file_takes : (bytes : List ℕ) (said : Line) → file_of bytes ≡ Some said → IsLine said (codes "file \"" ++ bytes)
unfolding file_of
file_takes bytes said some =
    let v0 = bound (unquote bytes Plain) _ said some in
    let w0 = quoted_takes bytes v0.0 v0.1 in
    let v1 = bound (after (codes " ") v0.0.1) _ said v0.2 in
    let v2 = bound (number_at 0 TIME_LIMIT v1.0) _ said v1.2 in
    let w2 = number_takes 0 TIME_LIMIT v1.0 v2.0 v2.1 in
    let v3 = bound (after (codes " \"") v2.0.1) _ said v2.2 in
    let v4 = bound (unquote v3.0 Plain) _ said v3.2 in
    let w4 = quoted_takes v3.0 v4.0 v4.1 in
    let path = path_by (is_path v0.0.0) (ended v4.0.1 (File (file.Bytes v0.0.0 v2.0.0 v4.0.0))) said v4.2 in
    let e = ended_takes v4.0.1 (File (file.Bytes v0.0.0 v2.0.0 v4.0.0)) said path.1 in
    subst (λ (l : Line). IsLine l (codes "file \"" ++ bytes)) e.1 (record {
      named = w0.0;
      quoted = w4.0;
      rooted = path.0;
      is_named = w0.1;
      dated = w2.high;
      is_quoted = w4.1;
      spelled = ap (λ r. codes "file \"" ++ r) (w0.2 ∙ ap (λ r. w0.0 ++ r) (ap (λ r. 34 ∷ r) (after_takes (codes " ") v0.0.1 v1.0 v1.1)
          ∙ ap (λ r. codes "\" " ++ r) (w2.spelled ∙ ap (λ r. decimal v2.0.0 ++ r) (after_takes (codes " \"") v2.0.1 v3.0 v3.1
          ∙ ap (λ r. codes " \"" ++ r) (w4.2 ∙ ap (λ r. w4.0 ++ r) (ap (λ r. codes "\"" ++ r) e.0))))));
    })

fill_takes : (bytes : List ℕ) (said : Line) → fill_of bytes ≡ Some said → IsLine said (codes "fill \"" ++ bytes)
unfolding fill_of
fill_takes bytes said some =
    let v0 = bound (unquote bytes Plain) _ said some in
    let w0 = quoted_takes bytes v0.0 v0.1 in
    let v1 = bound (after (codes " ") v0.0.1) _ said v0.2 in
    let v2 = bound (number_at 0 TIME_LIMIT v1.0) _ said v1.2 in
    let w2 = number_takes 0 TIME_LIMIT v1.0 v2.0 v2.1 in
    let v3 = bound (after (codes " ") v2.0.1) _ said v2.2 in
    let v4 = bound (number_at 0 FILL_LIMIT v3.0) _ said v3.2 in
    let w4 = number_takes 0 FILL_LIMIT v3.0 v4.0 v4.1 in
    let path = path_by (is_path v0.0.0) (ended v4.0.1 (File (file.Fill v0.0.0 v2.0.0 v4.0.0))) said v4.2 in
    let e = ended_takes v4.0.1 (File (file.Fill v0.0.0 v2.0.0 v4.0.0)) said path.1 in
    subst (λ (l : Line). IsLine l (codes "fill \"" ++ bytes)) e.1 (record {
      named = w0.0;
      rooted = path.0;
      is_named = w0.1;
      dated = w2.high;
      sized = w4.high;
      spelled = ap (λ r. codes "fill \"" ++ r) (w0.2 ∙ ap (λ r. w0.0 ++ r) (ap (λ r. 34 ∷ r) (after_takes (codes " ") v0.0.1 v1.0 v1.1)
          ∙ ap (λ r. codes "\" " ++ r) (w2.spelled ∙ ap (λ r. decimal v2.0.0 ++ r) (after_takes (codes " ") v2.0.1 v3.0 v3.1
          ∙ ap (λ r. codes " " ++ r) (w4.spelled ∙ ap (λ r. decimal v4.0.0 ++ r) e.0 ∙ append-nil (decimal v4.0.0))))));
    })

dir_takes : (bytes : List ℕ) (said : Line) → dir_of bytes ≡ Some said → IsLine said (codes "dir \"" ++ bytes)
unfolding dir_of
dir_takes bytes said some =
    let v0 = bound (unquote bytes Plain) _ said some in
    let w0 = quoted_takes bytes v0.0 v0.1 in
    let path = path_by (is_path v0.0.0) (ended v0.0.1 (File (file.Dir v0.0.0))) said v0.2 in
    let e = ended_takes v0.0.1 (File (file.Dir v0.0.0)) said path.1 in
    subst (λ (l : Line). IsLine l (codes "dir \"" ++ bytes)) e.1 (record {
      named = w0.0;
      rooted = path.0;
      is_named = w0.1;
      spelled = ap (λ r. codes "dir \"" ++ r) (w0.2 ∙ ap (λ r. w0.0 ++ r) (ap (λ r. codes "\"" ++ r) e.0));
    })

comment_takes : (bytes : List ℕ) (said : Line) → Some Skip ≡ Some said → IsLine said (codes "#" ++ bytes)
comment_takes bytes said some =
    let e : Skip ≡ said = cc some in
    subst (λ (l : Line). IsLine l (codes "#" ++ bytes)) e (inr (bytes, refl))

empty_takes : (bytes : List ℕ) (said : Line) → ended bytes Skip ≡ Some said → IsLine said bytes
empty_takes bytes said some =
    let e = ended_takes bytes Skip said some in
    subst (λ (l : Line). IsLine l bytes) e.1 (inl e.0)

-- a line that has this front, or goes on to the next
on_takes : (o : Option (List ℕ)) (f : List ℕ → Option Line) (other : Option Line) (front line : List ℕ) (said : Line) → after front line ≡ o → on o f other ≡ Some said
    → ((rest : List ℕ) → f rest ≡ Some said → IsLine said (front ++ rest)) → (other ≡ Some said → IsLine said line) → IsLine said line
on_takes None f other front line said has some here there = there some
on_takes (Some rest) f other front line said has some here there = subst (λ (l : List ℕ). IsLine said l) (sym (after_takes front line rest has)) (here rest some)

plain_takes : (line : List ℕ) (said : Line) → plain_of line ≡ Some said → IsLine said line
unfolding plain_of
plain_takes line said some =
    on_takes (after (codes "accept ") line) _ _ (codes "accept ") line said refl some (λ r h. accept_takes r said h) (λ some.
    on_takes (after (codes "pour ") line) _ _ (codes "pour ") line said refl some (λ r h. pour_takes r said h) (λ some.
    on_takes (after (codes "end ") line) _ _ (codes "end ") line said refl some (λ r h. end_takes r said h) (λ some.
    on_takes (after (codes "ready ") line) _ _ (codes "ready ") line said refl some (λ r h. ready_takes r said h) (λ some.
    on_takes (after (codes "rfail ") line) _ _ (codes "rfail ") line said refl some (λ r h. read_fail_takes r said h) (λ some.
    on_takes (after (codes "take ") line) _ _ (codes "take ") line said refl some (λ r h. take_takes r said h) (λ some.
    on_takes (after (codes "wfail ") line) _ _ (codes "wfail ") line said refl some (λ r h. write_fail_takes r said h) (λ some.
    on_takes (after (codes "fault ") line) _ _ (codes "fault ") line said refl some (λ r h. fault_takes r said h) (λ some.
    on_takes (after (codes "idle") line) _ _ (codes "idle") line said refl some (λ r h. idle_takes r said h) (λ some. empty_takes line said some)))))))))

pub line_takes : (line : List ℕ) (said : Line) → line_of line ≡ Some said → IsLine said line
unfolding line_of
line_takes line said some =
    on_takes (after (codes "#") line) _ _ (codes "#") line said refl some (λ r h. comment_takes r said h) (λ some.
    on_takes (after (codes "data ") line) _ _ (codes "data ") line said refl some (λ r h. data_takes r said h) (λ some.
    on_takes (after (codes "file \"") line) _ _ (codes "file \"") line said refl some (λ r h. file_takes r said h) (λ some.
    on_takes (after (codes "fill \"") line) _ _ (codes "fill \"") line said refl some (λ r h. fill_takes r said h) (λ some.
    on_takes (after (codes "dir \"") line) _ _ (codes "dir \"") line said refl some (λ r h. dir_takes r said h) (λ some. plain_takes line said some)))))
