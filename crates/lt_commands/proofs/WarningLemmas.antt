-- Pieces that are put out one after another.
use Rattle.std.proofs.Common.{◌≡◌, ℕ, List, ◌++◌, ap, refl, sym, subst, ◌∙◌}
use Rattle.std.specs.Prelude.{Err}
use Rattle.std.proofs.lemmas.List.{append_assoc}
use Rattle.lt_commands.specs.declared.status.Status.{Status}
use Rattle.lt_commands.specs.declared.status.Status.TheVariants as status
use Rattle.lt_commands.specs.Failures.{Failures}
use Rattle.lt_commands.specs.Offline.{SinkSays}
use Rattle.lt_commands.specs.Warned.{WarnedFaults}

pub joined : (a b c d : List ℕ) → ((a ++ b) ++ c) ++ d ≡ a ++ (b ++ (c ++ d))
joined a b c d = simp append_assoc

pub joined_twice : (a b c d e f : List ℕ) → ((((a ++ b) ++ c) ++ d) ++ e) ++ f ≡ a ++ (b ++ (c ++ (d ++ (e ++ f))))
joined_twice a b c d e f = simp append_assoc

-- the front of the first piece is one of both
pub front_of_both : (answer : Status) (a b before after : List ℕ) → (answer ≡ status.Done → ⊥) → SinkSays answer a before after → SinkSays answer (a ++ b) before after
front_of_both status.Done a b before after undone says = absurd (undone refl)
front_of_both status.SinkFault a b before after undone (front, rest, begins, got) = (front, rest ++ b, ap (λ (t : List ℕ). t ++ b) begins ∙ append_assoc front rest b, got)
front_of_both (status.Conf fault) a b before after undone says = says
front_of_both status.Usage a b before after undone says = says
front_of_both status.ListenFault a b before after undone says = says
front_of_both status.WaitFault a b before after undone says = says
front_of_both (status.Script line) a b before after undone says = says
front_of_both status.TextFault a b before after undone says = says
front_of_both status.NoMemory a b before after undone says = says
front_of_both (status.Missing number) a b before after undone says = says

-- the first piece, and the front of the second
pub front_behind : (lines last front rest before mid after : List ℕ) → last ≡ front ++ rest → mid ≡ before ++ lines → after ≡ mid ++ front → SinkSays status.SinkFault (lines ++ last) before after
front_behind lines last front rest before mid after begins had got =
    (lines ++ front, rest, ap (λ (t : List ℕ). lines ++ t) begins ∙ sym (append_assoc lines front rest), got ∙ ap (λ (t : List ℕ). t ++ front) had ∙ append_assoc before lines front)

-- a refusal is no call that was done
pub warned_undone : (answer : Status) (before after : Failures) → WarnedFaults (Err answer) before after → answer ≡ status.Done → ⊥
warned_undone answer before after faults done = subst (λ (s : Status). WarnedFaults (Err s) before after) done faults
