use Rattle.json5_settings_types.proofs.AddressTexts.{is_ip, is_socket, reads_ip, reads_socket}
use Rattle.json5_settings_types.proofs.addresses.addresses_are_spelled.Goals as goal

pub returns : goal.returns
returns c = record { ip = λ t a. (is_ip t a, reads_ip t a); socket = λ t a. (is_socket t a, reads_socket t a) }
