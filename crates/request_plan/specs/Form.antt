-- How the reply to a request is spelled, whatever it says (RFC 9112, sections 2.3 and 9.3).
use Rattle.std.specs.Prelude.{ℕ, true, false, Option, Some, None}
use Rattle.server_model.specs.Request.{Head}
use Rattle.server_model.specs.Plan.{is_head}
use Rattle.server_model.specs.Settings.{is_last_request}
use Rattle.request_plan.specs.declared.form.Form.{Form}

-- the reply to request k, where a connection may send so many
abbrev pub form_of : ℕ → ℕ → Head → Form
form_of limit k head = record { minor = head.minor; last = is_last_request limit k head; head_only = is_head head.method }

-- the reply to a request that is refused, of which this head was read
abbrev pub refused_form : Option Head → Form
refused_form None = record { minor = 1; last = true; head_only = false }
refused_form (Some head) = record { minor = head.minor; last = true; head_only = is_head head.method }
