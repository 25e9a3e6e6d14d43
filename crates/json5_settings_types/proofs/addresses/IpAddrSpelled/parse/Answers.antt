use Rattle.std.proofs.Common.{◌∙◌, ap}
use Rattle.std.specs.Net.Grammar.{IsIpText}
use Rattle.json5_de.specs.ConvertLists.{if_some}
use Rattle.json5_settings_types.specs.Addresses.{ip_of}
use Rattle.json5_settings_types.proofs.AddressTexts.{is_ip, parsed, reads_ip}
use Rattle.json5_settings_types.proofs.addresses.IpAddrSpelled.parse.Goals as goal

pub returns : goal.returns
returns c = ap (if_some (λ a. a)) c.ok.ensures.value ∙ parsed IsIpText ip_of is_ip reads_ip c.args.text.now c.parse.result c.parse.ensures.value
