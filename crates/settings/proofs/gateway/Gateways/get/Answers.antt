use Rattle.std.proofs.Common.{◌+◌, Some, ap, sym, ◌∙◌}
use Rattle.std.specs.Option.{option_map}
use Rattle.settings.specs.Gateways.{HostList, host_list}
use Rattle.settings.proofs.Listed.{list_at}
use Rattle.settings.proofs.gateway.Gateways.get.Goals as goal

pub returns-in-Some : goal.returns-in-Some
returns-in-Some c = ap (λ (list : HostList). Some list) c.hosts_in.ensures ∙ ap (option_map (host_list (c.args.self.now.first_list + c.args.at))) c.in-Some.ensures
    ∙ sym (list_at c.args.self.now.first_list c.args.self.now.entries.now c.args.at)

pub returns-in-None : goal.returns-in-None
returns-in-None c = ap (option_map (host_list (c.args.self.now.first_list + c.args.at))) c.in-None.ensures ∙ sym (list_at c.args.self.now.first_list c.args.self.now.entries.now c.args.at)
