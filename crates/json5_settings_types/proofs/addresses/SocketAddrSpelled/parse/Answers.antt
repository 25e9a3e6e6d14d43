use Rattle.std.proofs.Common.{◌∙◌, ap}
use Rattle.std.specs.Net.Grammar.{IsSocketText}
use Rattle.json5_de.specs.ConvertLists.{if_some}
use Rattle.json5_settings_types.specs.Addresses.{socket_of}
use Rattle.json5_settings_types.proofs.AddressTexts.{is_socket, parsed, reads_socket}
use Rattle.json5_settings_types.proofs.addresses.SocketAddrSpelled.parse.Goals as goal

pub returns : goal.returns
returns c = ap (if_some (λ a. a)) c.ok.ensures.value ∙ parsed IsSocketText socket_of is_socket reads_socket c.args.text.now c.parse.result c.parse.ensures.value
